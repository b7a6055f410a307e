-- Where the points and the edges of a block lie among all.
use Rattle.std.proofs.Common.{◌≡◌, ℕ, zero, suc, ◌+◌, ◌<◌, ◌≤◌, true, List, [], ◌∷◌, ◌++◌, length, map, take, drop, get_or, Some, refl, sym, ap, ◌∙◌, subst, arith, inl, inr, ◌⊎◌, ⊎_elim, Contains}
use Rattle.std.specs.Prelude.{slice_get, flat_map, All}
use Rattle.std.specs.List.{range_with_len}
use Rattle.std.specs.Option.{option_map_or}
use Rattle.std.proofs.lemmas.Bool.{cases_lt, cases_eq}
use Rattle.std.proofs.lemmas.List.{length-append}
use Rattle.std.proofs.lemmas.List.Concat.{flat_map-append}
use Rattle.std.proofs.lemmas.List.Elements.{All-contains, filter_passes, Contains-append_right, Contains-get_or}
use Rattle.std.proofs.lemmas.List.FromFn.{length-map-range_with_len}
use Rattle.std.proofs.lemmas.Option.{slice_get_within, slice_get-get_or, get_or_from_slice_get, same_Some}
use Rattle.ir_types.specs.declared.syntax.Block.{Block}
use Rattle.ir_types.specs.declared.syntax.Function.{Function}
use Rattle.flow_graph.specs.Slots.{slots_of}
use Rattle.point_graph.specs.Graph as graph
use Rattle.point_graph.specs.Graph.{Edge, Entry, Inside, Slot}
use Rattle.point_graph.specs.Numbers.{ArePoints, of_block, block_points, block_edges, all_points, all_edges, point_of}
use Rattle.point_graph.specs.declared.graph.Point.TheVariants.{Start, Head, Instr, Term}
use Rattle.point_graph.specs.declared.graph.BlockStart.{BlockStart}
use Rattle.point_graph.specs.declared.graph.Points.{Points}
use Rattle.point_numbers.specs.Told.{AreTold}
use Rattle.placed_moves.specs.Placed.{IsPoint, IsEdge}

-- ---- lists

get_left : {X : Type 0} (xs ys : List X) (i : ℕ) (v : X) → slice_get xs i ≡ Some v → slice_get (xs ++ ys) i ≡ Some v
get_left [] ys i v e = absurd cc
get_left (x ∷ xs) ys zero v e = e
get_left (x ∷ xs) ys (suc i) v e = get_left xs ys i v e

get_right : {X : Type 0} (xs ys : List X) (i : ℕ) → slice_get (xs ++ ys) (length xs + i) ≡ slice_get ys i
get_right [] ys i = let e : 0 + i ≡ i = omega arith in ap (slice_get ys) e
get_right (x ∷ xs) ys i =
    let e : suc (length xs) + i ≡ suc (length xs + i) = omega arith in
    ap (slice_get (x ∷ (xs ++ ys))) e ∙ get_right xs ys i

get_either : {X : Type 0} (xs ys : List X) (i : ℕ) (v : X) → slice_get (xs ++ ys) i ≡ Some v → (slice_get xs i ≡ Some v) ⊎ ((j : ℕ) × (i ≡ length xs + j) × (slice_get ys j ≡ Some v))
get_either [] ys i v e = inr (i, omega arith, e)
get_either (x ∷ xs) ys zero v e = inl e
get_either (x ∷ xs) ys (suc i) v e = ⊎_elim (λ l. inl l) (λ r. inr (r.0, omega (arith, r.1), r.2)) (get_either xs ys i v e)

pub get_some : {X : Type 0} (xs : List X) (i : ℕ) → i < length xs → (x : X) × (slice_get xs i ≡ Some x)
get_some [] i lt = absurd (omega (arith, lt))
get_some (x ∷ xs) zero lt = (x, refl)
get_some (x ∷ xs) (suc i) lt = get_some xs i (omega (arith, lt))

pub get_map : {A B : Type 0} (g : A → B) (xs : List A) (i : ℕ) (x : A) → slice_get xs i ≡ Some x → slice_get (map g xs) i ≡ Some (g x)
get_map g [] i x e = absurd cc
get_map g (y ∷ ys) zero x e = let same : y ≡ x = cc in ap (λ z. Some (g z)) same
get_map g (y ∷ ys) (suc i) x e = get_map g ys i x e

pub get_map_back : {A B : Type 0} (g : A → B) (xs : List A) (i : ℕ) (v : B) → slice_get (map g xs) i ≡ Some v → (x : A) × (slice_get xs i ≡ Some x) × (g x ≡ v)
get_map_back g [] i v e = absurd cc
get_map_back g (x ∷ xs) zero v e = let same : g x ≡ v = cc in (x, refl, same)
get_map_back g (x ∷ xs) (suc i) v e = get_map_back g xs i v e

get_map_range : {X : Type 0} (g : ℕ → X) (a n i : ℕ) → i < n → slice_get (map g (range_with_len a n)) i ≡ Some (g (a + i))
get_map_range g a zero i lt = absurd (omega (arith, lt))
get_map_range g a (suc n) zero lt = let e : a ≡ a + 0 = omega arith in ap (λ j. Some (g j)) e
get_map_range g a (suc n) (suc i) lt = let e : a + 1 + i ≡ a + suc i = omega arith in get_map_range g (a + 1) n i (omega (arith, lt)) ∙ ap (λ j. Some (g j)) e

map_range_back : {X : Type 0} (g : ℕ → X) (a n i : ℕ) (v : X) → slice_get (map g (range_with_len a n)) i ≡ Some v → (k : ℕ) × (k < a + n) × (g k ≡ v)
map_range_back g a zero i v e = absurd cc
map_range_back g a (suc n) zero v e = let same : g a ≡ v = cc in (a, omega arith, same)
map_range_back g a (suc n) (suc i) v e = let r = map_range_back g (a + 1) n i v e in (r.0, omega (arith, r.1), r.2)

pub at_contains : {X : Type 0} (xs : List X) (x : X) → Contains xs x → (k : ℕ) × (slice_get xs k ≡ Some x)
at_contains xs x h = (h.0, slice_get-get_or xs h.0 x h.1 ∙ ap Some h.2)

pub contains_at : {X : Type 0} (xs : List X) (i : ℕ) (x : X) → slice_get xs i ≡ Some x → Contains xs x
contains_at xs i x e = (i, slice_get_within xs i x e, get_or_from_slice_get xs i x x e)

split_at : {X : Type 0} (xs : List X) (k : ℕ) (x : X) → slice_get xs k ≡ Some x → xs ≡ take k xs ++ (x ∷ drop (suc k) xs)
split_at [] k x e = absurd cc
split_at (y ∷ ys) zero x e = let same : y ≡ x = cc in ap (λ z. z ∷ ys) same
split_at (y ∷ ys) (suc k) x e = ap (λ l. y ∷ l) (split_at ys k x e)

pub member_cases : (xs : List ℕ) (x : ℕ) → Contains xs x ⊎ (Contains xs x → ⊥)
member_cases [] x = inr (λ c. let h : c.0 < 0 = c.1 in omega (arith, h))
member_cases (y ∷ ys) x =
    ⊎_elim (λ (same : y ≡ x). inl (contains_at (y ∷ ys) 0 x (ap Some same)))
    (λ (other : y ≡ x → ⊥).
    ⊎_elim (λ (there : Contains ys x). inl (Contains-append_right (y ∷ []) ys x there))
    (λ (absent : Contains ys x → ⊥). inr (λ c. by other absent (at_contains (y ∷ ys) x c)))
    (member_cases ys x))
    (cases_eq y x)
  where
    by : (y ≡ x → ⊥) → (Contains ys x → ⊥) → (k : ℕ) × (slice_get (y ∷ ys) k ≡ Some x) → ⊥
    by other absent (zero, e) = other (same_Some y x e)
    by other absent (suc k, e) = absent (contains_at ys k x e)

in_flat : {X : Type 0} (items : ℕ → List X) (bs : List ℕ) (i : ℕ) (v : X) → slice_get (flat_map items bs) i ≡ Some v → (b : ℕ) × Contains bs b × (j : ℕ) × (slice_get (items b) j ≡ Some v)
in_flat items [] i v e = absurd cc
in_flat items (b ∷ bs) i v e =
    ⊎_elim (λ (here : slice_get (items b) i ≡ Some v). (b, contains_at (b ∷ bs) 0 b refl, i, here))
    (λ (later : (j : ℕ) × (i ≡ length (items b) + j) × (slice_get (flat_map items bs) j ≡ Some v)).
    let r = in_flat items bs later.0 v later.2 in (r.0, Contains-append_right (b ∷ []) bs r.0 r.1, r.2, r.3))
    (get_either (items b) (flat_map items bs) i v e)

-- ---- blocks

-- the part stands in the whole from there on
pub record Lies {X : Type 0} (whole : List X) (start : ℕ) (part : List X) : Type 0 where
  pub at : (j : ℕ) (v : X) → slice_get part j ≡ Some v → slice_get whole (start + j) ≡ Some v
  pub room : start + length part ≤ length whole

lies_in : {X : Type 0} (first : X) (items : ℕ → List X) (bs : List ℕ) (r b : ℕ) → slice_get bs r ≡ Some b → Lies (first ∷ flat_map items bs) (length (first ∷ flat_map items (take r bs))) (items b)
lies_in first items bs r b e =
    let front = first ∷ flat_map items (take r bs) in
    let rest = flat_map items (drop (suc r) bs) in
    let whole : first ∷ flat_map items bs ≡ front ++ (items b ++ rest) = ap (λ l. first ∷ l) (ap (flat_map items) (split_at bs r b e) ∙ flat_map-append items (take r bs) (b ∷ drop (suc r) bs)) in
    record {
      at = λ j v here. ap (λ l. slice_get l (length front + j)) whole ∙ get_right front (items b ++ rest) j ∙ get_left (items b) rest j v here;
      room = omega (arith, ap length whole, length-append front (items b ++ rest), length-append (items b) rest);
    }

of_block-there : {X : Type 0} (items : ℕ → Block → List X) (f : Function) (b : ℕ) (block : Block) → slice_get f.blocks b ≡ Some block → of_block items f b ≡ items b block
of_block-there items f b block there = ap (λ o. option_map_or (items b) o []) there

-- a reached block, where it begins, and that its points and edges stand there
pub record HasPlaces (f : Function) (p : Points) (b : ℕ) : Type 0 where
  pub block : Block
  pub block_there : slice_get f.blocks b ≡ Some block
  pub start : BlockStart
  pub start_there : slice_get p.starts b ≡ Some start
  pub points : Lies p.points start.point (block_points b block)
  pub edges : Lies (all_edges f p.blocks) start.edge (block_edges b block)

pub length-block_edges : (b : ℕ) (block : Block) → length (block_edges b block) ≡ length block.instrs + 1 + length (slots_of block.term)
length-block_edges b block =
    let insides = map (Inside b) (range_with_len 0 (length block.instrs + 1)) in
    let slots = map (Slot b) (range_with_len 0 (length (slots_of block.term))) in
    omega (arith, length-append insides slots, length-map-range_with_len (Inside b) 0 (length block.instrs + 1), length-map-range_with_len (Slot b) 0 (length (slots_of block.term)))

pub length-block_points : (b : ℕ) (block : Block) → length (block_points b block) ≡ length block.instrs + 2
length-block_points b block =
    let instrs = map (Instr b) (range_with_len 0 (length block.instrs)) in
    let n : length instrs ≡ length block.instrs = length-map-range_with_len (Instr b) 0 (length block.instrs) in
    omega (arith, n, length-append instrs (Term b ∷ []))

pub inside_at : (b : ℕ) (block : Block) (k : ℕ) → k ≤ length block.instrs → slice_get (block_edges b block) k ≡ Some (Inside b k)
inside_at b block k le =
    let z : 0 + k ≡ k = omega arith in
    get_left (map (Inside b) (range_with_len 0 (length block.instrs + 1))) (map (Slot b) (range_with_len 0 (length (slots_of block.term)))) k (Inside b k)
    (get_map_range (Inside b) 0 (length block.instrs + 1) k (omega (arith, le)) ∙ ap (λ i. Some (Inside b i)) z)

pub slot_at : (b : ℕ) (block : Block) (slot : ℕ) → slot < length (slots_of block.term) → slice_get (block_edges b block) (length block.instrs + 1 + slot) ≡ Some (Slot b slot)
slot_at b block slot lt =
    let z : 0 + slot ≡ slot = omega arith in
    let insides = map (Inside b) (range_with_len 0 (length block.instrs + 1)) in
    let slots = map (Slot b) (range_with_len 0 (length (slots_of block.term))) in
    let n : length block.instrs + 1 + slot ≡ length insides + slot = omega (arith, length-map-range_with_len (Inside b) 0 (length block.instrs + 1)) in
    ap (slice_get (insides ++ slots)) n ∙ get_right insides slots slot ∙ get_map_range (Slot b) 0 (length (slots_of block.term)) slot lt ∙ ap (λ i. Some (Slot b i)) z

pub instr_at : (b : ℕ) (block : Block) (k : ℕ) → k < length block.instrs → slice_get (block_points b block) (suc k) ≡ Some (Instr b k)
instr_at b block k lt =
    let z : 0 + k ≡ k = omega arith in
    get_left (map (Instr b) (range_with_len 0 (length block.instrs))) (Term b ∷ []) k (Instr b k) (get_map_range (Instr b) 0 (length block.instrs) k lt ∙ ap (λ i. Some (Instr b i)) z)

term_at : (b : ℕ) (block : Block) → slice_get (block_points b block) (suc (length block.instrs)) ≡ Some (Term b)
term_at b block =
    let instrs = map (Instr b) (range_with_len 0 (length block.instrs)) in
    let n : length block.instrs ≡ length instrs + 0 = omega (arith, length-map-range_with_len (Instr b) 0 (length block.instrs)) in
    ap (slice_get (instrs ++ Term b ∷ [])) n ∙ get_right instrs (Term b ∷ []) 0

-- an instruction of a listed block
pub record ListedInstr (f : Function) (p : Points) (i b k : ℕ) : Type 0 where
  pub places : HasPlaces f p b
  pub listed : Contains p.blocks b
  pub within : k < length places.block.instrs
  pub at : i ≡ places.start.point + suc k

pub record ListedInside (f : Function) (p : Points) (n b k : ℕ) : Type 0 where
  pub places : HasPlaces f p b
  pub listed : Contains p.blocks b
  pub within : k ≤ length places.block.instrs
  pub at : n ≡ places.start.edge + k

pub record ListedSlot (f : Function) (p : Points) (n b slot : ℕ) : Type 0 where
  pub places : HasPlaces f p b
  pub listed : Contains p.blocks b
  pub within : slot < length (slots_of places.block.term)
  pub at : n ≡ places.start.edge + (length places.block.instrs + 1 + slot)

module _ (f : Function) (p : Points) (are : ArePoints f p) (told : AreTold f (map (point_of f) p.points) (all_edges f p.blocks) p.edges) where
  -- a listed block is a block of the function
  pub listed_inside : (b : ℕ) → Contains p.blocks b → b < length f.blocks
  listed_inside b h =
      let test = are.blocks.test in
      let blocks = range_with_len 0 (length f.blocks) in
      let passes : test b ≡ true = All-contains (λ c. test c ≡ true) p.blocks b (subst (All (λ c. test c ≡ true)) (sym are.blocks.listed) (filter_passes test blocks)) h in
      ((are.blocks.told b).0 passes).inside

  pub blocks_inside : (n : ℕ) (blocks : List ℕ) → n ≡ length f.blocks → blocks ≡ p.blocks → All (λ b. b < n) blocks
  blocks_inside n blocks count same k d lt =
      let inside : get_or blocks k d < length f.blocks = listed_inside (get_or blocks k d) (subst (λ l. Contains l (get_or blocks k d)) same (Contains-get_or blocks k d lt)) in
      omega (arith, inside, count)

  pub places_of : (b : ℕ) → Contains p.blocks b → HasPlaces f p b
  places_of b h =
      let r = at_contains p.blocks b h in
      let block = get_some f.blocks b (listed_inside b h) in
      let start = are.starts b h in
      let edges_before = length (Entry ∷ flat_map (of_block block_edges f) (take r.0 p.blocks)) in
      let edges : Lies (all_edges f p.blocks) edges_before (block_edges b block.0) =
      subst (Lies (all_edges f p.blocks) edges_before) (of_block-there block_edges f b block.0 block.1) (lies_in Entry (of_block block_edges f) p.blocks r.0 b r.1) in
      let same_edge : edges_before + 0 ≡ start.start.edge =
      told.edges_once (edges_before + 0) start.start.edge (Inside b 0) (edges.at 0 (Inside b 0) (inside_at b block.0 0 (omega arith))) start.is_start.edge in
      let edge_is : edges_before ≡ start.start.edge = omega (arith, same_edge) in
      let points_before = length (Start ∷ flat_map (of_block block_points f) (take r.0 p.blocks)) in
      let points : Lies p.points points_before (block_points b block.0) =
      subst (λ l. Lies l points_before (block_points b block.0)) (sym are.points)
      (subst (Lies (all_points f p.blocks) points_before) (of_block-there block_points f b block.0 block.1) (lies_in Start (of_block block_points f) p.blocks r.0 b r.1)) in
      let same_point : points_before + 0 ≡ start.start.point =
      told.points_once (points_before + 0) start.start.point (graph.Head b)
      (get_map (point_of f) p.points (points_before + 0) (Head b) (points.at 0 (Head b) refl))
      (get_map (point_of f) p.points start.start.point (Head b) start.is_start.point) in
      let point_is : points_before ≡ start.start.point = omega (arith, same_point) in
      record {
        block = block.0;
        block_there = block.1;
        start = start.start;
        start_there = start.there;
        points = subst (λ s. Lies p.points s (block_points b block.0)) point_is points;
        edges = subst (λ s. Lies (all_edges f p.blocks) s (block_edges b block.0)) edge_is edges;
      }

  -- the place k of a listed block is a point
  pub place_is : (b : ℕ) (has : HasPlaces f p b) (k : ℕ) → k ≤ length has.block.instrs → IsPoint f p (has.start.point + suc k) (graph.Place b k)
  place_is b has k le = ⊎_elim
      (λ (lt : k < length has.block.instrs). get_map (point_of f) p.points (has.start.point + suc k) (Instr b k) (has.points.at (suc k) (Instr b k) (instr_at b has.block k lt)))
      (λ (ge : length has.block.instrs ≤ k).
      let same : k ≡ length has.block.instrs = omega (arith, le, ge) in
      let at : slice_get p.points (has.start.point + suc k) ≡ Some (Term b) = has.points.at (suc k) (Term b) (ap (λ n. slice_get (block_points b has.block) (suc n)) same ∙ term_at b has.block) in
      get_map (point_of f) p.points (has.start.point + suc k) (Term b) at
      ∙ ap (λ o. Some (graph.Place b (option_map_or (λ x. length x.instrs) o 0))) has.block_there
      ∙ ap (λ n. Some (graph.Place b n)) (sym same))
      (cases_lt k (length has.block.instrs))

  same_block : (b c : ℕ) (has : HasPlaces f p b) (other : HasPlaces f p c) → c ≡ b → other.block ≡ has.block
  same_block b c has other same = same_Some other.block has.block (sym other.block_there ∙ ap (slice_get f.blocks) same ∙ has.block_there)

  -- ---- where a point and an edge come from

  instr_in : (c b k j : ℕ) (block : Block) → slice_get (block_points c block) j ≡ Some (Instr b k) → (c ≡ b) × (k < length block.instrs)
  instr_in c b k zero block e = absurd cc
  instr_in c b k (suc j) block e = ⊎_elim
      (λ (l : slice_get (map (Instr c) (range_with_len 0 (length block.instrs))) j ≡ Some (Instr b k)).
      let r = map_range_back (Instr c) 0 (length block.instrs) j (Instr b k) l in
      let same : Instr c r.0 ≡ Instr b k = r.2 in
      let blocks : c ≡ b = cc in
      let place : r.0 ≡ k = cc in (blocks, omega (arith, r.1, place)))
      (λ (m : (i : ℕ) × (j ≡ length (map (Instr c) (range_with_len 0 (length block.instrs))) + i) × (slice_get (Term c ∷ []) i ≡ Some (Instr b k))). absurd (no_term m.0 m.2))
      (get_either (map (Instr c) (range_with_len 0 (length block.instrs))) (Term c ∷ []) j (Instr b k) e)
    where
      no_term : (i : ℕ) → slice_get (Term c ∷ []) i ≡ Some (Instr b k) → ⊥
      no_term zero e = cc
      no_term (suc i) e = cc

  pub listed_instr : (i b k : ℕ) → slice_get p.points i ≡ Some (Instr b k) → ListedInstr f p i b k
  listed_instr i b k e = by i (ap (λ l. slice_get l i) (sym are.points) ∙ e) e
    where
      by : (i : ℕ) → slice_get (all_points f p.blocks) i ≡ Some (Instr b k) → slice_get p.points i ≡ Some (Instr b k) → ListedInstr f p i b k
      by zero e here = absurd cc
      by (suc i) e here =
          let r = in_flat (of_block block_points f) p.blocks i (Instr b k) e in
          let other = places_of r.0 r.1 in
          let in_block = instr_in r.0 b k r.2 other.block (ap (λ l. slice_get l r.2) (sym (of_block-there block_points f r.0 other.block other.block_there)) ∙ r.3) in
          let listed = subst (Contains p.blocks) in_block.0 r.1 in
          let has = places_of b listed in
          let within : k < length has.block.instrs = omega (arith, in_block.1, ap (λ x. length x.instrs) (same_block b r.0 has other in_block.0)) in
          record {
            places = has;
            listed = listed;
            within = within;
            at = told.points_once (suc i) (has.start.point + suc k) (graph.Place b k) (get_map (point_of f) p.points (suc i) (Instr b k) here) (place_is b has k (omega (arith, within)));
          }

  inside_in : (c b k j : ℕ) (block : Block) → slice_get (block_edges c block) j ≡ Some (Inside b k) → (c ≡ b) × (k ≤ length block.instrs)
  inside_in c b k j block e =
      let insides = map (Inside c) (range_with_len 0 (length block.instrs + 1)) in
      let slots = map (Slot c) (range_with_len 0 (length (slots_of block.term))) in
      ⊎_elim
      (λ (l : slice_get insides j ≡ Some (Inside b k)).
      let r = map_range_back (Inside c) 0 (length block.instrs + 1) j (Inside b k) l in
      let same : Inside c r.0 ≡ Inside b k = r.2 in
      let blocks : c ≡ b = cc in
      let place : r.0 ≡ k = cc in (blocks, omega (arith, r.1, place)))
      (λ (m : (i : ℕ) × (j ≡ length insides + i) × (slice_get slots i ≡ Some (Inside b k))).
      let r = map_range_back (Slot c) 0 (length (slots_of block.term)) m.0 (Inside b k) m.2 in
      let same : Slot c r.0 ≡ Inside b k = r.2 in absurd cc)
      (get_either insides slots j (Inside b k) e)

  slot_in : (c b slot j : ℕ) (block : Block) → slice_get (block_edges c block) j ≡ Some (Slot b slot) → (c ≡ b) × (slot < length (slots_of block.term))
  slot_in c b slot j block e =
      let insides = map (Inside c) (range_with_len 0 (length block.instrs + 1)) in
      let slots = map (Slot c) (range_with_len 0 (length (slots_of block.term))) in
      ⊎_elim
      (λ (l : slice_get insides j ≡ Some (Slot b slot)).
      let r = map_range_back (Inside c) 0 (length block.instrs + 1) j (Slot b slot) l in
      let same : Inside c r.0 ≡ Slot b slot = r.2 in absurd cc)
      (λ (m : (i : ℕ) × (j ≡ length insides + i) × (slice_get slots i ≡ Some (Slot b slot))).
      let r = map_range_back (Slot c) 0 (length (slots_of block.term)) m.0 (Slot b slot) m.2 in
      let same : Slot c r.0 ≡ Slot b slot = r.2 in
      let blocks : c ≡ b = cc in
      let place : r.0 ≡ slot = cc in (blocks, omega (arith, r.1, place)))
      (get_either insides slots j (Slot b slot) e)

  -- an edge of some block
  record InBlock (edge : Edge) : Type 0 where
    b : ℕ
    listed : Contains p.blocks b
    j : ℕ
    at : slice_get (block_edges b (places_of b listed).block) j ≡ Some edge

  in_block : (edge : Edge) → (Entry ≡ edge → ⊥) → (n : ℕ) → IsEdge f p n edge → InBlock edge
  in_block edge other zero e = absurd (other (same_Some Entry edge e))
  in_block edge other (suc n) e =
      let r = in_flat (of_block block_edges f) p.blocks n edge e in
      let has = places_of r.0 r.1 in
      record { b = r.0; listed = r.1; j = r.2; at = ap (λ l. slice_get l r.2) (sym (of_block-there block_edges f r.0 has.block has.block_there)) ∙ r.3 }

  pub inside_is : (b : ℕ) (has : HasPlaces f p b) (k : ℕ) → k ≤ length has.block.instrs → IsEdge f p (has.start.edge + k) (Inside b k)
  inside_is b has k le = has.edges.at k (Inside b k) (inside_at b has.block k le)

  pub slot_is : (b : ℕ) (has : HasPlaces f p b) (slot : ℕ) → slot < length (slots_of has.block.term) → IsEdge f p (has.start.edge + (length has.block.instrs + 1 + slot)) (Slot b slot)
  slot_is b has slot lt = has.edges.at (length has.block.instrs + 1 + slot) (Slot b slot) (slot_at b has.block slot lt)

  pub listed_inside_edge : (n b k : ℕ) → IsEdge f p n (Inside b k) → ListedInside f p n b k
  listed_inside_edge n b k e =
      let r = in_block (Inside b k) (λ same. cc) n e in
      let other = places_of r.b r.listed in
      let is = inside_in r.b b k r.j other.block r.at in
      let listed = subst (Contains p.blocks) is.0 r.listed in
      let has = places_of b listed in
      let within : k ≤ length has.block.instrs = omega (arith, is.1, ap (λ x. length x.instrs) (same_block b r.b has other is.0)) in
      record { places = has; listed = listed; within = within; at = told.edges_once n (has.start.edge + k) (Inside b k) e (inside_is b has k within) }

  pub listed_slot_edge : (n b slot : ℕ) → IsEdge f p n (Slot b slot) → ListedSlot f p n b slot
  listed_slot_edge n b slot e =
      let r = in_block (Slot b slot) (λ same. cc) n e in
      let other = places_of r.b r.listed in
      let is = slot_in r.b b slot r.j other.block r.at in
      let listed = subst (Contains p.blocks) is.0 r.listed in
      let has = places_of b listed in
      let within : slot < length (slots_of has.block.term) = omega (arith, is.1, ap (λ x. length (slots_of x.term)) (same_block b r.b has other is.0)) in
      record { places = has; listed = listed; within = within; at = told.edges_once n (has.start.edge + (length has.block.instrs + 1 + slot)) (Slot b slot) e (slot_is b has slot within) }
