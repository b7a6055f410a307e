-- The sets of a block with one event more, and those of block after block.
use Rattle.std.proofs.Common.{◌≡◌, ◌<◌, ◌≤◌, ◌+◌, ◌-◌, ℕ, suc, true, false, List, [], ◌∷◌, ◌++◌, length, filter, flat_map, map, take, drop, refl, sym, ap, ◌∙◌, subst, arith, get_or}
use Rattle.std.specs.Prelude.{slice_get, Some, All}
use Rattle.std.specs.List.{AllZip, range_with_len}
use Rattle.std.proofs.lemmas.List.{take_more, drop_more, length-map, length-append, length-drop, take_all}
use Rattle.std.proofs.lemmas.List.FromFn.{length-range_with_len, get_or-range_with_len}
use Rattle.std.proofs.lemmas.List.Elements.{All-filter}
use Rattle.std.proofs.lemmas.Option.{same_Some, slice_get-get_or}
use Rattle.std.specs.Option.{option_map_or}
use Rattle.ir_types.specs.declared.syntax.Block.{Block}
use Rattle.ir_types.specs.declared.syntax.Function.{Function}
use Rattle.point_graph.specs.declared.graph.Point.{Point}
use Rattle.point_graph.specs.declared.graph.Point.TheVariants.{Start, Instr, Term}
use Rattle.point_graph.specs.declared.graph.Points.{Points}
use Rattle.point_graph.specs.Numbers.{of_block, block_points, ArePoints}
use Rattle.expressions.specs.Kept.{Kept}
use Rattle.expressions.specs.Tables.{IsEventOf}
use Rattle.placement.specs.Marking.{AreEvents}
use Rattle.expressions.specs.declared.syntax.Event.{Event}
use Rattle.expressions.specs.declared.syntax.Event.TheVariants.{Occurs, Kills, Bars, Passes}
use Rattle.local_sets.specs.declared.blocks.BlockSets.{BlockSets}
use Rattle.local_sets.specs.Blocks.{occurs_or_kills, last_after, is_forced, forced_after, sets_of, IsAt, IsBlockSets}
use Rattle.local_sets.specs.Stepping.{first_of, grown, with_event, AreLeft, AreSoFar}

abbrev told : List Event → List Event
told events = filter occurs_or_kills events

module _ (x : Event) (t : occurs_or_kills x ≡ true) where
  one : told (x ∷ []) ≡ x ∷ []
  one = rw t refl

  first_more : (xs : List Event) → get_or (told (xs ++ x ∷ [])) 0 Passes ≡ first_of (get_or (told xs) 0 Passes) x
  first_more [] = ap (λ l. get_or l 0 Passes) one
  first_more (Occurs ∷ xs) = refl
  first_more (Kills ∷ xs) = refl
  first_more (Bars ∷ xs) = first_more xs
  first_more (Passes ∷ xs) = first_more xs

  last_more : (before : Event) (xs : List Event) → last_after before (told (xs ++ x ∷ [])) ≡ x
  last_more before [] = ap (last_after before) one
  last_more before (Occurs ∷ xs) = last_more Occurs xs
  last_more before (Kills ∷ xs) = last_more Kills xs
  last_more before (Bars ∷ xs) = last_more before xs
  last_more before (Passes ∷ xs) = last_more before xs

  forced_more : (before : Event) (xs : List Event) → forced_after before (told (xs ++ x ∷ [])) ≡ forced_after before (told xs) + is_forced (last_after before (told xs)) x
  forced_more before [] = let e : forced_after before (told (x ∷ [])) ≡ is_forced before x + 0 = ap (forced_after before) one in omega (arith, e)
  forced_more before (Occurs ∷ xs) = omega (arith, forced_more Occurs xs)
  forced_more before (Kills ∷ xs) = omega (arith, forced_more Kills xs)
  forced_more before (Bars ∷ xs) = forced_more before xs
  forced_more before (Passes ∷ xs) = forced_more before xs

  sets_grown : (xs : List Event) → sets_of (xs ++ x ∷ []) ≡ grown (sets_of xs) x
  sets_grown xs = rw (first_more xs, last_more Passes xs, forced_more Passes xs) refl

told_same : (x : Event) → occurs_or_kills x ≡ false → (xs : List Event) → told (xs ++ x ∷ []) ≡ told xs
told_same x f [] = rw f refl
told_same x f (Occurs ∷ xs) = ap (λ l. Occurs ∷ l) (told_same x f xs)
told_same x f (Kills ∷ xs) = ap (λ l. Kills ∷ l) (told_same x f xs)
told_same x f (Bars ∷ xs) = told_same x f xs
told_same x f (Passes ∷ xs) = told_same x f xs

sets_same : (x : Event) → occurs_or_kills x ≡ false → (xs : List Event) → sets_of (xs ++ x ∷ []) ≡ sets_of xs
sets_same x f xs = rw (told_same x f xs) refl

pub sets_more : (x : Event) (xs : List Event) → sets_of (xs ++ x ∷ []) ≡ with_event (sets_of xs) x
sets_more Occurs xs = sets_grown Occurs refl xs
sets_more Kills xs = sets_grown Kills refl xs
sets_more Bars xs = sets_same Bars refl xs
sets_more Passes xs = sets_same Passes refl xs

is_forced_most : (a b : Event) → is_forced a b ≤ 1
is_forced_most Occurs b = omega arith
is_forced_most Bars b = omega arith
is_forced_most Passes b = omega arith
is_forced_most Kills Occurs = omega arith
is_forced_most Kills Kills = omega arith
is_forced_most Kills Bars = omega arith
is_forced_most Kills Passes = omega arith

pub forced_most : (before : Event) (xs : List Event) → forced_after before (told xs) ≤ length xs
forced_most before [] = omega arith
forced_most before (Occurs ∷ xs) = omega (arith, is_forced_most before Occurs, forced_most Occurs xs)
forced_most before (Kills ∷ xs) = omega (arith, is_forced_most before Kills, forced_most Kills xs)
forced_most before (Bars ∷ xs) = omega (arith, forced_most before xs)
forced_most before (Passes ∷ xs) = omega (arith, forced_most before xs)

-- ---- block after block

zip_first : {A B : Type 0} (R : A → B → Type 0) (xs ys : List A) (zs : List B) → AllZip R (xs ++ ys) zs → AllZip R xs (take (length xs) zs)
zip_first R [] ys zs h = tt
zip_first R (x ∷ xs) ys [] h = absurd h
zip_first R (x ∷ xs) ys (z ∷ zs) h = (h.0, zip_first R xs ys zs h.1)

zip_rest : {A B : Type 0} (R : A → B → Type 0) (xs ys : List A) (zs : List B) → AllZip R (xs ++ ys) zs → AllZip R ys (drop (length xs) zs)
zip_rest R [] ys zs h = h
zip_rest R (x ∷ xs) ys [] h = absurd h
zip_rest R (x ∷ xs) ys (z ∷ zs) h = zip_rest R xs ys zs h.1

zip_push : {A B : Type 0} (R : A → B → Type 0) (xs : List A) (ys : List B) (x : A) (y : B) → AllZip R xs ys → R x y → AllZip R (xs ++ x ∷ []) (ys ++ y ∷ [])
zip_push R [] [] x y h r = (r, tt)
zip_push R [] (z ∷ ys) x y h r = absurd h
zip_push R (z ∷ xs) [] x y h r = absurd h
zip_push R (w ∷ xs) (z ∷ ys) x y h r = (h.0, zip_push R xs ys x y h.1 r)

points_count : (b : ℕ) (block : Block) → length (block_points b block) ≡ length block.instrs + 2
points_count b block =
    let m = length-map (range_with_len 0 (length block.instrs)) (Instr b) in
    let a = length-append (map (Instr b) (range_with_len 0 (length block.instrs))) (Term b ∷ []) in
    omega (arith, m, a, length-range_with_len 0 (length block.instrs))

module _ (f : Function) (blocks : List ℕ) (events : List Event) (i : ℕ) (h : i < length blocks) (left : List Event) (sets : List BlockSets) (block : Block) (there : slice_get f.blocks (get_or blocks i 0) ≡ Some block) (k : AreSoFar f blocks events i left sets) where
  abbrev b : ℕ
  b = get_or blocks i 0

  abbrev n : ℕ
  n = length block.instrs + 2

  flat_next : flat_map (of_block block_points f) (drop i blocks) ≡ block_points b block ++ flat_map (of_block block_points f) (drop (i + 1) blocks)
  flat_next =
      ap (flat_map (of_block block_points f)) (drop_more blocks i 0 h)
      ∙ ap (λ o. option_map_or (block_points b) o [] ++ flat_map (of_block block_points f) (drop (i + 1) blocks)) there

  counted : n + length (flat_map (of_block block_points f) (drop (i + 1) blocks)) ≡ length left
  counted =
      let a = length-append (block_points b block) (flat_map (of_block block_points f) (drop (i + 1) blocks)) in
      let c = ap length flat_next in
      omega (arith, a, c, points_count b block, k.count)

  pub block_enough : n ≤ length left
  block_enough = omega (arith, counted)

  pub AreSoFar-more : AreSoFar f blocks events (i + 1) (drop n left) (sets ++ sets_of (take n left) ∷ [])
  AreSoFar-more = record {
    count = omega (arith, counted, length-drop n left);
    few = omega (arith, length-drop n left, k.few);
    so_far = λ t e a.
        let s = k.so_far t e a in
        let z = subst (λ ps. AllZip (IsAt f t e) ps left) flat_next s.1 in
        let rest = flat_map (of_block block_points f) (drop (i + 1) blocks) in
        let here : IsBlockSets f t e b (sets_of (take n left)) = record {
          block = block;
          block_there = there;
          events = take n left;
          are = subst (λ m. AllZip (IsAt f t e) (block_points b block) (take m left)) (points_count b block) (zip_first (IsAt f t e) (block_points b block) rest left z);
          sets_are = refl;
        } in (
          subst (λ bs. AllZip (IsBlockSets f t e) bs (sets ++ sets_of (take n left) ∷ [])) (sym (take_more blocks i 0 h)) (zip_push (IsBlockSets f t e) (take i blocks) sets b (sets_of (take n left)) s.0 here),
          subst (λ m. AllZip (IsAt f t e) rest (drop m left)) (points_count b block) (zip_rest (IsAt f t e) (block_points b block) rest left z),
        );
  }

pub AreSoFar-start : (f : Function) (blocks : List ℕ) (events : List Event) → length (flat_map (of_block block_points f) blocks) ≡ length events → AreSoFar f blocks events 0 events []
AreSoFar-start f blocks events c = record { count = c; few = omega arith; so_far = λ t e a. (tt, a) }

pub AreSoFar-end : (f : Function) (blocks : List ℕ) (events : List Event) (i : ℕ) (left : List Event) (sets : List BlockSets) → length blocks ≤ i → AreSoFar f blocks events i left sets → (t : Kept) (e : ℕ) → AreLeft f t e blocks events → AllZip (IsBlockSets f t e) blocks sets
AreSoFar-end f blocks events i left sets h k t e a = subst (λ bs. AllZip (IsBlockSets f t e) bs sets) (take_all i blocks h) (k.so_far t e a).0

-- ---- the events of all points

zip_told : (R : Point → Event → Type 0) (xs : List Point) (events : List Event) → length events ≡ length xs → ((v : ℕ) → v < length xs → (at : Point) × (slice_get xs v ≡ Some at) × R at (get_or events v Occurs)) → AllZip R xs events
zip_told R [] [] l h = tt
zip_told R [] (y ∷ ys) l h = absurd (omega (arith, l))
zip_told R (x ∷ xs) [] l h = absurd (omega (arith, l))
zip_told R (x ∷ xs) (y ∷ ys) l h =
    let first = h 0 (omega arith) in (
      subst (λ q. R q y) (sym (same_Some x first.0 first.1)) first.2,
      zip_told R xs ys (omega (arith, l)) (λ v lt. h (suc v) (omega (arith, lt))),
    )

module _ (f : Function) (p : Points) (a : ArePoints f p) where
  pub blocks_inside : All (λ b. b < length f.blocks) p.blocks
  blocks_inside = subst (All (λ b. b < length f.blocks)) (sym a.blocks.listed) (All-filter a.blocks.test (λ b. b < length f.blocks) (range_with_len 0 (length f.blocks)) numbers_inside)
    where
      numbers_inside : All (λ b. b < length f.blocks) (range_with_len 0 (length f.blocks))
      numbers_inside k d lt =
          let inside : k < length f.blocks = omega (arith, lt, length-range_with_len 0 (length f.blocks)) in
          let at : get_or (range_with_len 0 (length f.blocks)) k d ≡ 0 + k = get_or-range_with_len 0 (length f.blocks) k d inside in
          omega (arith, inside, at)

  pub all_count : (events : List Event) → length events ≡ length p.points → length (flat_map (of_block block_points f) p.blocks) + 1 ≡ length events
  all_count events l = let c = ap length a.points in omega (arith, c, l)

  pub left_told : (t : Kept) (e : ℕ) (events : List Event) → AreEvents (IsEventOf f p t e) (length p.points) events → AreLeft f t e p.blocks (drop 1 events)
  left_told t e events told_all =
      let all : AllZip (IsAt f t e) p.points events = zip_told (IsAt f t e) p.points events told_all.len
      (λ v lt. let x = told_all.are v lt in (x.at, x.point_there, record { expr = x.expr; there = x.expr_there; is_event = x.is_event })) in
      zip_rest (IsAt f t e) (Start ∷ []) (flat_map (of_block block_points f) p.blocks) events (subst (λ ps. AllZip (IsAt f t e) ps events) a.points all)

-- the block that is read from a slice of the blocks
pub block_read : (f : Function) (slice : List Block) (b : ℕ) (d : Block) → slice ≡ f.blocks → b < length f.blocks → slice_get f.blocks b ≡ Some (get_or slice b d)
block_read f slice b d same inside = slice_get-get_or f.blocks b d inside ∙ ap (λ bs. Some (get_or bs b d)) (sym same)

-- the list behind its first element, read up to its end
pub all_behind : (events : List Event) → take (length events - 1) (drop 1 events) ≡ drop 1 events
all_behind events = take_all (length events - 1) (drop 1 events) (omega (arith, length-drop 1 events))
