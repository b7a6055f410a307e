-- The numbered points of a function, with the sets of its blocks.
use Rattle.std.proofs.Common.{◌≡◌, ◌<◌, ◌≤◌, ◌+◌, ◌⊎◌, ℕ, zero, suc, List, [], ◌∷◌, ◌++◌, Option, None, Some, length, flat_map, map, get_or, refl, sym, ap, ◌∙◌, subst, inl, inr, ⊎_elim, arith}
use Rattle.std.specs.Prelude.{slice_get}
use Rattle.std.specs.List.{AllZip, range_with_len}
use Rattle.std.specs.Option.{option_map_or}
use Rattle.std.proofs.lemmas.Option.{none-some, same_Some, slice_get_within, slice_get-get_or}
use Rattle.std.proofs.lemmas.List.{length-map, get_or-map, length-append}
use Rattle.std.proofs.lemmas.List.FromFn.{length-range_with_len}
use Rattle.ir_types.specs.Program.{Program}
use Rattle.ir_types.specs.declared.syntax.Block.{Block}
use Rattle.ir_types.specs.declared.syntax.Function.{Function}
use Rattle.point_graph.specs.Graph as graph
use Rattle.point_graph.specs.declared.graph.Point.{Point}
use Rattle.point_graph.specs.declared.graph.Point.TheVariants.{Start, Head, Instr, Term}
use Rattle.point_graph.specs.declared.graph.Points.{Points}
use Rattle.point_graph.specs.declared.graph.Edge as numbered
use Rattle.point_graph.specs.declared.graph.EdgeKind.TheVariants as kinds
use Rattle.point_graph.specs.Numbers.{of_block, block_points, point_of, all_edges, ArePoints, IsNumbered}
use Rattle.point_numbers.specs.Told.{AreTold}
use Rattle.expressions.specs.declared.syntax.Event.{Event}
use Rattle.expressions.specs.declared.syntax.Event.TheVariants.{Occurs, Kills, Bars, Passes}
use Rattle.expressions.specs.declared.syntax.Expr.{Expr}
use Rattle.expressions.specs.Expressions.{nothing, term_there}
use Rattle.expressions.specs.Events.{IsContentEvent}
use Rattle.expressions.specs.Kept.{Kept}
use Rattle.expressions.specs.Tables.{IsEventOf, IsTable}
use Rattle.flow_graph.specs.Slots.{slots_of}
use Rattle.flow_paths.specs.Paths.{source, target, Connects}
use Rattle.flow_paths.proofs.Validity.{Connects-step}
use Rattle.placement.specs.Placements.{arcs_of}
use Rattle.placement.proofs.EventLemmas.{one_event}
use Rattle.placement.proofs.GraphLemmas.{arcs_length}
use Rattle.local_sets.specs.declared.blocks.BlockSets.{BlockSets}
use Rattle.local_sets.specs.Blocks.{IsAt, IsBlockSets, sets_of}
use Rattle.local_sets.specs.Heads.{no_sets, placed}
use Rattle.local_sets.proofs.BlockLemmas.{blocks_inside}
use Rattle.local_sets.proofs.BlockPaths.{IsQuiet, SomeBlockAt, NextArc, Goes, IsSetting}
use Rattle.local_sets.proofs.HeadLists.{AreThere, of_there, heads_of, heads_are, placed_at, placed_none}

-- ---- lists

get_some : {X : Type 0} (xs : List X) (i : ℕ) → i < length xs → (x : X) × (slice_get xs i ≡ Some x)
get_some [] i h = absurd (omega (arith, h))
get_some (x ∷ xs) zero h = (x, refl)
get_some (x ∷ xs) (suc i) h = get_some xs i (omega (arith, h))

get_map_back : {A B : Type 0} (g : A → B) (xs : List A) (i : ℕ) (v : B) → slice_get (map g xs) i ≡ Some v → (x : A) × (slice_get xs i ≡ Some x) × (g x ≡ v)
get_map_back g [] i v e = absurd cc
get_map_back g (x ∷ xs) zero v e = (x, refl, same_Some (g x) v e)
get_map_back g (x ∷ xs) (suc i) v e = get_map_back g xs i v e

get_map : {A B : Type 0} (g : A → B) (xs : List A) (i : ℕ) (x : A) → slice_get xs i ≡ Some x → slice_get (map g xs) i ≡ Some (g x)
get_map g [] i x e = absurd cc
get_map g (y ∷ xs) zero x e = ap (λ z. Some (g z)) (same_Some y x e)
get_map g (y ∷ xs) (suc i) x e = get_map g xs i x e

zip_at : {A B : Type 0} (R : A → B → Type 0) (xs : List A) (ys : List B) → AllZip R xs ys → (i : ℕ) (x : A) (d : B) → slice_get xs i ≡ Some x → R x (get_or ys i d)
zip_at R [] ys all i x d e = absurd cc
zip_at R (z ∷ xs) [] all i x d e = absurd all
zip_at R (z ∷ xs) (y ∷ ys) all zero x d e = subst (λ w. R w y) (same_Some z x e) all.0
zip_at R (z ∷ xs) (y ∷ ys) all (suc i) x d e = zip_at R xs ys all.1 i x d e

zip_length : {A B : Type 0} (R : A → B → Type 0) (xs : List A) (ys : List B) → AllZip R xs ys → length xs ≡ length ys
zip_length R [] [] all = refl
zip_length R [] (y ∷ ys) all = absurd all
zip_length R (x ∷ xs) [] all = absurd all
zip_length R (x ∷ xs) (y ∷ ys) all = ap suc (zip_length R xs ys all.1)

zip_append : {A B : Type 0} (R : A → B → Type 0) (xs xs' : List A) (ys ys' : List B) → AllZip R xs ys → AllZip R xs' ys' → AllZip R (xs ++ xs') (ys ++ ys')
zip_append R [] xs' [] ys' h h' = h'
zip_append R [] xs' (y ∷ ys) ys' h h' = absurd h
zip_append R (x ∷ xs) xs' [] ys' h h' = absurd h
zip_append R (x ∷ xs) xs' (y ∷ ys) ys' h h' = (h.0, zip_append R xs xs' ys ys' h.1 h')

-- the elements of a block's points
instr_in : (b a n i : ℕ) (rest : List Point) → i < n → slice_get (map (Instr b) (range_with_len a n) ++ rest) i ≡ Some (Instr b (a + i))
instr_in b a zero i rest h = absurd (omega (arith, h))
instr_in b a (suc n) zero rest h = let same : a ≡ a + 0 = omega arith in ap (λ k. Some (Instr b k)) same
instr_in b a (suc n) (suc i) rest h = let same : a + 1 + i ≡ a + suc i = omega arith in instr_in b (a + 1) n i rest (omega (arith, h)) ∙ ap (λ k. Some (Instr b k)) same

term_in : (b a n : ℕ) → slice_get (map (Instr b) (range_with_len a n) ++ Term b ∷ []) n ≡ Some (Term b)
term_in b a zero = refl
term_in b a (suc n) = term_in b (a + 1) n

-- ---- quiet points

quiet_nothing : (m : Program) (x : Expr) (event : Event) → IsContentEvent m x nothing event → IsQuiet event
quiet_nothing m x Occurs is = absurd (none-some x is)
quiet_nothing m x Kills is = absurd cc
quiet_nothing m x Bars is = refl
quiet_nothing m x Passes is = refl

quiet_term : (m : Program) (x : Expr) (o : Option Block) (event : Event) → IsContentEvent m x (option_map_or (λ block. term_there block.term) o nothing) event → IsQuiet event
quiet_term m x None event is = quiet_nothing m x event is
quiet_term m x (Some block) Occurs is = absurd (none-some x is)
quiet_term m x (Some block) Kills is = absurd cc
quiet_term m x (Some block) Bars is = refl
quiet_term m x (Some block) Passes is = refl

-- a quiet event in front changes no sets
sets_behind : (event : Event) (events : List Event) → IsQuiet event → sets_of (event ∷ events) ≡ sets_of events
sets_behind Occurs events q = absurd cc
sets_behind Kills events q = absurd cc
sets_behind Bars events q = refl
sets_behind Passes events q = refl

-- how many instructions block b has
abbrev pub len_of : Function → ℕ → ℕ
len_of f b = option_map_or (λ block. length block.instrs) (slice_get f.blocks b) 0

len_is : (f : Function) (b : ℕ) (block : Block) → slice_get f.blocks b ≡ Some block → len_of f b ≡ length block.instrs
len_is f b block e = ap (λ o. option_map_or (λ (block : Block). length block.instrs) o 0) e

-- a point of the list belongs to a block, and an instruction is one of the block's
abbrev There : Function → ℕ → Type 0
There f b = (block : Block) × (slice_get f.blocks b ≡ Some block)

abbrev Fits : Function → Point → Type 0
Fits f Start = Unit {0}
Fits f (Head b) = There f b
Fits f (Instr b k) = There f b × (k < len_of f b)
Fits f (Term b) = There f b

abbrev EachFits : Function → List Point → Type 0
EachFits f [] = Unit {0}
EachFits f (x ∷ xs) = Fits f x × EachFits f xs

fits-append : (f : Function) (xs ys : List Point) → EachFits f xs → EachFits f ys → EachFits f (xs ++ ys)
fits-append f [] ys h k = k
fits-append f (x ∷ xs) ys h k = (h.0, fits-append f xs ys h.1 k)

fits_inside : (f : Function) (b : ℕ) → There f b → (a n : ℕ) → a + n ≤ len_of f b → EachFits f (map (Instr b) (range_with_len a n) ++ Term b ∷ [])
fits_inside f b there a zero room = (there, tt)
fits_inside f b there a (suc n) room = ((there, omega (arith, room)), fits_inside f b there (a + 1) n (omega (arith, room)))

fits_blocks : (f : Function) (blocks : List ℕ) → AreThere f blocks → EachFits f (flat_map (of_block block_points f) blocks)
fits_blocks f [] are = tt
fits_blocks f (b ∷ blocks) are =
    let here : There f b = are.there 0 b refl in
    fits-append f (of_block block_points f b) (flat_map (of_block block_points f) blocks)
    (subst (EachFits f) (sym (of_there block_points f b here.0 here.1)) (here, fits_inside f b here 0 (length here.0.instrs) (omega (arith, len_is f b here.0 here.1))))
    (fits_blocks f blocks (record { there = λ i c e. are.there (suc i) c e }))

fits_at : (f : Function) (xs : List Point) → EachFits f xs → (i : ℕ) (x : Point) → slice_get xs i ≡ Some x → Fits f x
fits_at f [] all i x e = absurd cc
fits_at f (y ∷ xs) all zero x e = subst (Fits f) (same_Some y x e) all.0
fits_at f (y ∷ xs) all (suc i) x e = fits_at f xs all.1 i x e

-- what a point of the list is, by the point of the function
start_back : (f : Function) (x : Point) → point_of f x ≡ graph.Start → x ≡ Start
start_back f Start e = refl
start_back f (Head b) e = absurd cc
start_back f (Instr b k) e = absurd cc
start_back f (Term b) e = absurd cc

head_back : (f : Function) (x : Point) (b : ℕ) → point_of f x ≡ graph.Head b → x ≡ Head b
head_back f Start b e = absurd cc
head_back f (Head c) b e = let same : c ≡ b = cc in ap Head same
head_back f (Instr c k) b e = absurd cc
head_back f (Term c) b e = absurd cc

place_back : (f : Function) (x : Point) (b k : ℕ) → point_of f x ≡ graph.Place b k → (x ≡ Instr b k) ⊎ ((x ≡ Term b) × (k ≡ len_of f b))
place_back f Start b k e = absurd cc
place_back f (Head c) b k e = absurd cc
place_back f (Instr c j) b k e = let same : c ≡ b = cc in let there : j ≡ k = cc in inl (ap (λ n. Instr n j) same ∙ ap (Instr b) there)
place_back f (Term c) b k e = let same : c ≡ b = cc in let there : len_of f c ≡ k = cc in inr (ap Term same, sym there ∙ ap (len_of f) same)

-- the events of all blocks
record Gathered (f : Function) (t : Kept) (e : ℕ) (points : List Point) : Type 0 where
  pub events : List Event
  pub are : AllZip (IsAt f t e) points events

gather : (f : Function) (t : Kept) (e : ℕ) (blocks : List ℕ) (sets : List BlockSets) → AllZip (IsBlockSets f t e) blocks sets → Gathered f t e (flat_map (of_block block_points f) blocks)
gather f t e [] [] all = record { events = []; are = tt }
gather f t e [] (s ∷ sets) all = absurd all
gather f t e (b ∷ blocks) [] all = absurd all
gather f t e (b ∷ blocks) (s ∷ sets) all =
    let rest = gather f t e blocks sets all.1 in
    record {
      events = all.0.events ++ rest.events;
      are = zip_append (IsAt f t e) (of_block block_points f b) (flat_map (of_block block_points f) blocks) all.0.events rest.events
          (subst (λ ps. AllZip (IsAt f t e) ps all.0.events) (sym (of_there block_points f b all.0.block all.0.block_there)) all.0.are) rest.are;
    }

-- an edge joins the same points always
joins_one : (f : Function) (edge : graph.Edge) (u w u' w' : graph.Point) → graph.Joins f edge u w → graph.Joins f edge u' w' → (u ≡ u') × (w ≡ w')
joins_one f graph.Entry u w u' w' j k = (j.0 ∙ sym k.0, j.1 ∙ sym k.1)
joins_one f (graph.Inside b n) u w u' w' j k = (j.begins ∙ sym k.begins, j.ends ∙ sym k.ends)
joins_one f (graph.Slot b slot) u w u' w' j k =
    let block : j.block ≡ k.block = same_Some j.block k.block (sym j.block_there ∙ k.block_there) in
    let leads : slice_get (slots_of k.block.term) slot ≡ Some j.target = subst (λ (x : Block). slice_get (slots_of x.term) slot ≡ Some j.target) block j.leads in
    let next : j.target ≡ k.target = same_Some j.target k.target (sym leads ∙ k.leads) in
    (j.begins ∙ (ap (λ (x : Block). graph.Place b (length x.instrs)) block ∙ sym k.begins), j.ends ∙ (ap graph.Head next ∙ sym k.ends))

-- the points of the list are those of blocks
blocks_there : (f : Function) (p : Points) → ArePoints f p → AreThere f p.blocks
blocks_there f p a = record {
  there = λ i b q.
      let inside : i < length p.blocks = slice_get_within p.blocks i b q in
      let same : get_or p.blocks i 0 ≡ b = same_Some (get_or p.blocks i 0) b (sym (slice_get-get_or p.blocks i 0 inside) ∙ q) in
      get_some f.blocks b (subst (λ n. n < length f.blocks) same (blocks_inside f p a i 0 inside));
}

points_fit : (f : Function) (p : Points) → ArePoints f p → EachFits f p.points
points_fit f p a = subst (EachFits f) (sym a.points) (tt, fits_blocks f p.blocks (blocks_there f p a))

-- the edge from Start leads to a block
pub some_block_there : (f : Function) (p : Points) → ArePoints f p → 0 < length f.blocks
some_block_there f p a = go p.edges a.edges
  where
    go : (edges : List numbered.Edge) → AllZip (IsNumbered f p.points) (all_edges f p.blocks) edges → 0 < length f.blocks
    go [] all = absurd all
    go (x ∷ edges) all =
        let there = fits_at f p.points (points_fit f p a) x.to (Head 0) (all.0.ends ∙ ap Some (head_back f all.0.to 0 all.0.joins.1)) in
        slice_get_within f.blocks 0 there.0 there.1

module _ (f : Function) (p : Points) (t : Kept) (e : ℕ) (sets : List BlockSets) (a : ArePoints f p) (table : IsTable f p t) (number : e < length t.exprs) (all : AllZip (IsBlockSets f t e) p.blocks sets) (told : AreTold f (map (point_of f) p.points) (all_edges f p.blocks) p.edges) where
  abbrev pub numbers : List graph.Point
  numbers = map (point_of f) p.points

  abbrev pub At : ℕ → graph.Point → Type 0
  At v x = slice_get numbers v ≡ Some x

  abbrev pub arcs : List (ℕ × ℕ)
  arcs = arcs_of p.edges

  abbrev pub Is : ℕ → Event → Type 0
  Is = IsEventOf f p t e

  abbrev pub heads : List BlockSets
  heads = placed p.points sets

  abbrev pub sets_at : ℕ → BlockSets
  sets_at v = get_or heads v no_sets

  pub are_there : AreThere f p.blocks
  are_there = blocks_there f p a

  fits : EachFits f p.points
  fits = points_fit f p a

  gathered : Gathered f t e (flat_map (of_block block_points f) p.blocks)
  gathered = gather f t e p.blocks sets all

  events : List Event
  events = Passes ∷ gathered.events

  pub event : ℕ → Event
  event v = get_or events v Passes

  events_are : AllZip (IsAt f t e) p.points events
  unfolding events
  events_are =
      let expr = get_some t.exprs e number in
      subst (λ ps. AllZip (IsAt f t e) ps (Passes ∷ gathered.events)) (sym a.points)
      (record { expr = expr.0; there = expr.1; is_event = (λ h. none-some expr.0 h, refl, refl) }, gathered.are)

  -- the point of the list with this number
  decl : (v : ℕ) (x : graph.Point) → At v x → (y : Point) × (slice_get p.points v ≡ Some y) × (point_of f y ≡ x)
  decl v x at = get_map_back (point_of f) p.points v x at

  event_at : (v : ℕ) (y : Point) → slice_get p.points v ≡ Some y → IsAt f t e y (event v)
  unfolding event
  event_at v y listed = zip_at (IsAt f t e) p.points events events_are v y Passes listed

  pub is_event : (v : ℕ) (x : graph.Point) → At v x → Is v (event v)
  is_event v x at =
      let d = decl v x at in
      let i = event_at v d.0 d.1 in
      record { expr = i.expr; expr_there = i.there; at = d.0; point_there = d.1; is_event = i.is_event }

  pub one : (v : ℕ) (x y : Event) → Is v x → Is v y → x ≡ y
  one = one_event f p t e

  pub at_listed : (v : ℕ) (y : Point) → slice_get p.points v ≡ Some y → At v (point_of f y)
  at_listed v y listed = get_map (point_of f) p.points v y listed

  head_listed : (v b : ℕ) → At v (graph.Head b) → slice_get p.points v ≡ Some (Head b)
  head_listed v b at = let d = decl v (graph.Head b) at in d.1 ∙ ap Some (head_back f d.0 b d.2)

  place_listed : (v b k : ℕ) → At v (graph.Place b k) → (slice_get p.points v ≡ Some (Instr b k)) ⊎ ((slice_get p.points v ≡ Some (Term b)) × (k ≡ len_of f b))
  place_listed v b k at =
      let d = decl v (graph.Place b k) at in
      ⊎_elim
      (λ (i : d.0 ≡ Instr b k). inl (d.1 ∙ ap Some i))
      (λ (i : (d.0 ≡ Term b) × (k ≡ len_of f b)). inr (d.1 ∙ ap Some i.0, i.1))
      (place_back f d.0 b k d.2)

  there_of : (u b k : ℕ) → At u (graph.point_before b k) → There f b
  there_of u b zero at = fits_at f p.points fits u (Head b) (head_listed u b at)
  there_of u b (suc k) at = ⊎_elim
      (λ (i : slice_get p.points u ≡ Some (Instr b k)). (fits_at f p.points fits u (Instr b k) i).0)
      (λ (i : (slice_get p.points u ≡ Some (Term b)) × (k ≡ len_of f b)). fits_at f p.points fits u (Term b) i.0)
      (place_listed u b k at)

  -- ---- the events of a block

  place_event : (b : ℕ) (block : Block) → slice_get f.blocks b ≡ Some block → (es : List Event) → AllZip (IsAt f t e) (map (Instr b) (range_with_len 0 (length block.instrs)) ++ Term b ∷ []) es → (v k : ℕ) → At v (graph.Place b k) → get_or es k Passes ≡ event v
  place_event b block there es are v k at = ⊎_elim
      (λ (listed : slice_get p.points v ≡ Some (Instr b k)).
      let within : k < len_of f b = (fits_at f p.points fits v (Instr b k) listed).1 in
      let zero_in : 0 + k ≡ k = omega arith in
      let stands = instr_in b 0 (length block.instrs) k (Term b ∷ []) (omega (arith, within, len_is f b block there)) ∙ ap (λ n. Some (Instr b n)) zero_in in
      let i = zip_at (IsAt f t e) (map (Instr b) (range_with_len 0 (length block.instrs)) ++ Term b ∷ []) es are k (Instr b k) Passes stands in
      one v (get_or es k Passes) (event v) (record { expr = i.expr; expr_there = i.there; at = Instr b k; point_there = listed; is_event = i.is_event }) (is_event v (graph.Place b k) at))
      (λ (listed : (slice_get p.points v ≡ Some (Term b)) × (k ≡ len_of f b)).
      let last : length block.instrs ≡ k = omega (arith, listed.1, len_is f b block there) in
      let stands = ap (slice_get (map (Instr b) (range_with_len 0 (length block.instrs)) ++ Term b ∷ [])) (sym last) ∙ term_in b 0 (length block.instrs) in
      let i = zip_at (IsAt f t e) (map (Instr b) (range_with_len 0 (length block.instrs)) ++ Term b ∷ []) es are k (Term b) Passes stands in
      one v (get_or es k Passes) (event v) (record { expr = i.expr; expr_there = i.there; at = Term b; point_there = listed.0; is_event = i.is_event }) (is_event v (graph.Place b k) at))
      (place_listed v b k at)

  block_from : (h b : ℕ) (block : Block) → slice_get f.blocks b ≡ Some block → (es : List Event) → AllZip (IsAt f t e) (block_points b block) es → sets_at h ≡ sets_of es → SomeBlockAt arcs At (len_of f) event sets_at h b
  block_from h b block there [] are is = absurd are
  block_from h b block there (first ∷ es) are is = record {
    events = es;
    block = record {
      told = place_event b block there es are.1;
      count =
          let n = zip_length (IsAt f t e) (map (Instr b) (range_with_len 0 (length block.instrs)) ++ Term b ∷ []) es are.1 in
          omega (arith, n, len_is f b block there, length-append (map (Instr b) (range_with_len 0 (length block.instrs))) (Term b ∷ []), length-map (range_with_len 0 (length block.instrs)) (Instr b), length-range_with_len 0 (length block.instrs));
      sets_are = is ∙ sets_behind first es (quiet_nothing t.module_of are.0.expr first are.0.is_event);
    };
  }

  some_block : (h b : ℕ) → At h (graph.Head b) → SomeBlockAt arcs At (len_of f) event sets_at h b
  some_block h b at =
      let same : heads_of p.points ≡ p.blocks = ap heads_of a.points ∙ heads_are f p.blocks are_there in
      let r = placed_at (IsBlockSets f t e) p.points sets (subst (λ bs. AllZip (IsBlockSets f t e) bs sets) (sym same) all) h b (head_listed h b at) in
      block_from h b r.block r.block_there r.events r.are r.sets_are

  -- ---- arcs

  arc_is : (n : ℕ) (edge : numbered.Edge) → slice_get p.edges n ≡ Some edge → ◌≡◌ {A = ℕ × ℕ} (get_or arcs n (0, 0)) (edge.from, edge.to)
  arc_is n edge listed =
      let none : numbered.Edge = record { from = 0; to = 0; kind = kinds.Entry } in
      let inside : n < length p.edges = slice_get_within p.edges n edge listed in
      let same : get_or p.edges n none ≡ edge = same_Some (get_or p.edges n none) edge (sym (slice_get-get_or p.edges n none inside) ∙ listed) in
      get_or-map (λ (x : numbered.Edge). (x.from, x.to)) p.edges n none (0, 0) inside ∙ ap (λ (x : numbered.Edge). (x.from, x.to)) same

  goes_of : (edge : graph.Edge) (u w : ℕ) (from to : graph.Point) → graph.Joins f edge from to → At u from → At w to → Goes arcs At (len_of f) event sets_at u w
  goes_of graph.Entry u w from to joins at_u at_w = inl (record { begins = subst (At u) joins.0 at_u; ends = subst (At w) joins.1 at_w })
  goes_of (graph.Inside b k) u w from to joins at_u at_w = inr (inl (record {
    block = b;
    place = k;
    within = let l = joins.within in omega (arith, l, len_is f b joins.block joins.block_there);
    begins = subst (At u) joins.begins at_u;
    ends = subst (At w) joins.ends at_w;
  }))
  goes_of (graph.Slot b slot) u w from to joins at_u at_w = inr (inr (record {
    block = b;
    next = joins.target;
    begins = subst (At u) (joins.begins ∙ ap (graph.Place b) (sym (len_is f b joins.block joins.block_there))) at_u;
    ends = subst (At w) joins.ends at_w;
  }))

  goes_on : (n : ℕ) → n < length arcs → Goes arcs At (len_of f) event sets_at (source arcs n) (target arcs n)
  goes_on n h =
      let edge = get_some p.edges n (omega (arith, h, arcs_length p.edges)) in
      let j = told.joins n edge.0 edge.1 in
      subst (λ (x : ℕ × ℕ). Goes arcs At (len_of f) event sets_at x.0 x.1) (sym (arc_is n edge.0 edge.1)) (goes_of j.edge edge.0.from edge.0.to j.from j.to j.joins j.begins j.ends)

  next_arc : (u b k : ℕ) → k ≤ len_of f b → At u (graph.point_before b k) → NextArc arcs At (len_of f) event sets_at u b k
  next_arc u b k within at =
      let there = there_of u b k at in
      let joins : graph.Joins f (graph.Inside b k) (graph.point_before b k) (graph.Place b k) = record { block = there.0; block_there = there.1; within = omega (arith, within, len_is f b there.0 there.1); begins = refl; ends = refl } in
      let n = told.edges_there (graph.Inside b k) (graph.point_before b k) (graph.Place b k) joins (told.points_reached u (graph.point_before b k) at) in
      let inside : n.0 < length p.edges = let l = slice_get_within (all_edges f p.blocks) n.0 (graph.Inside b k) n.1 in omega (arith, l, told.count) in
      let edge = get_some p.edges n.0 inside in
      let j = told.joins n.0 edge.0 edge.1 in
      let same : j.edge ≡ graph.Inside b k = same_Some j.edge (graph.Inside b k) (sym j.is ∙ n.1) in
      let joined : graph.Joins f (graph.Inside b k) j.from j.to = subst (λ g. graph.Joins f g j.from j.to) same j.joins in
      let arc = arc_is n.0 edge.0 edge.1 in
      let once : edge.0.from ≡ u = told.points_once edge.0.from u (graph.point_before b k) (subst (At edge.0.from) joined.begins j.begins) at in
      record {
        arc = n.0;
        is_arc = omega (arith, inside, arcs_length p.edges);
        leaves = ap (λ (x : ℕ × ℕ). x.0) arc ∙ once;
        ends = subst (λ m. At m (graph.Place b k)) (sym (ap (λ (x : ℕ × ℕ). x.1) arc)) (subst (At edge.0.to) joined.ends j.ends);
      }

  -- ---- the setting

  pub setting : IsSetting arcs At (len_of f) event sets_at
  setting = record {
    same = λ v x y ax ay. same_Some x y (sym ax ∙ ay);
    goes = goes_on;
    blocks = some_block;
    within = λ v b k at. ⊎_elim
        (λ (i : slice_get p.points v ≡ Some (Instr b k)). let l : k < len_of f b = (fits_at f p.points fits v (Instr b k) i).1 in omega (arith, l))
        (λ (i : (slice_get p.points v ≡ Some (Term b)) × (k ≡ len_of f b)). omega (arith, i.1))
        (place_listed v b k at);
    next = next_arc;
    quiet_start = λ v at.
        let d = decl v graph.Start at in
        let i = event_at v Start (d.1 ∙ ap Some (start_back f d.0 d.2)) in
        quiet_nothing t.module_of i.expr (event v) i.is_event;
    quiet_head = λ v b at. let i = event_at v (Head b) (head_listed v b at) in quiet_nothing t.module_of i.expr (event v) i.is_event;
    quiet_term = λ v b at. ⊎_elim
        (λ (i : slice_get p.points v ≡ Some (Instr b (len_of f b))). let l : len_of f b < len_of f b = (fits_at f p.points fits v (Instr b (len_of f b)) i).1 in absurd (omega (arith, l)))
        (λ (i : (slice_get p.points v ≡ Some (Term b)) × (len_of f b ≡ len_of f b)).
        let x = event_at v (Term b) i.0 in quiet_term t.module_of x.expr (slice_get f.blocks b) (event v) x.is_event)
        (place_listed v b (len_of f b) at);
    start_sets = λ v at. let d = decl v graph.Start at in placed_none p.points sets v Start (d.1 ∙ ap Some (start_back f d.0 d.2)) refl;
    place_sets = λ v b k at. ⊎_elim
        (λ (i : slice_get p.points v ≡ Some (Instr b k)). placed_none p.points sets v (Instr b k) i refl)
        (λ (i : (slice_get p.points v ≡ Some (Term b)) × (k ≡ len_of f b)). placed_none p.points sets v (Term b) i.0 refl)
        (place_listed v b k at);
  }

  pub start_there : At 0 graph.Start
  start_there = told.start

  -- ---- paths by numbers

  step_to : (hop : graph.Hop) → graph.Joins f hop.edge hop.from hop.to → (u : ℕ) → At u hop.from → Connects arcs 0 u → (w : ℕ) × (At w hop.to × Connects arcs 0 w)
  step_to hop joins u at leads =
      let n = told.edges_there hop.edge hop.from hop.to joins (told.points_reached u hop.from at) in
      let inside : n.0 < length p.edges = let l = slice_get_within (all_edges f p.blocks) n.0 hop.edge n.1 in omega (arith, l, told.count) in
      let edge = get_some p.edges n.0 inside in
      let j = told.joins n.0 edge.0 edge.1 in
      let same : j.edge ≡ hop.edge = same_Some j.edge hop.edge (sym j.is ∙ n.1) in
      let joined : graph.Joins f hop.edge j.from j.to = subst (λ g. graph.Joins f g j.from j.to) same j.joins in
      let ends = joins_one f hop.edge j.from j.to hop.from hop.to joined joins in
      let arc = arc_is n.0 edge.0 edge.1 in
      let once : edge.0.from ≡ u = told.points_once edge.0.from u hop.from (subst (At edge.0.from) ends.0 j.begins) at in
      let leaves : source arcs n.0 ≡ u = ap (λ (x : ℕ × ℕ). x.0) arc ∙ once in (
        target arcs n.0,
        (
          subst (λ m. At m hop.to) (sym (ap (λ (x : ℕ × ℕ). x.1) arc)) (subst (At edge.0.to) ends.1 j.ends),
          Connects-step arcs 0 n.0 (omega (arith, inside, arcs_length p.edges)) (subst (λ m. Connects arcs 0 m) (sym leaves) leads),
        ),
      )

  connects_along : (path : List graph.Hop) (from to : graph.Point) → graph.IsPath f from path to → (u : ℕ) → At u from → Connects arcs 0 u → (w : ℕ) → At w to → Connects arcs 0 w
  connects_along [] from to path u at leads w there = subst (λ m. Connects arcs 0 m) (told.points_once u w to (subst (At u) path at) there) leads
  connects_along (hop ∷ path) from to h u at leads w there =
      let next = step_to hop h.1 u (subst (At u) h.0 at) leads in
      connects_along path hop.to to h.2 next.0 next.1.0 next.1.1 w there

  pub connected : (w : ℕ) → w < length numbers → Connects arcs 0 w
  connected w h =
      let x = get_some numbers w h in
      let r = told.points_reached w x.0 x.1 in
      connects_along r.path graph.Start x.0 r.leads 0 start_there (record { path = []; leads = refl }) w x.1
