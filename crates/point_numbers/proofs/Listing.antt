-- The listed points and edges of a function, each once.
use Rattle.std.proofs.Common.{◌≡◌, ℕ, zero, suc, ◌+◌, ◌<◌, ◌≤◌, List, [], ◌∷◌, ◌++◌, length, Option, Some, None, refl, sym, ap, ◌∙◌, subst, arith, inl, inr, ⊎_elim}
use Rattle.std.specs.Prelude.{◌⊎◌, slice_get}
use Rattle.std.proofs.lemmas.Bool.{cases_lt}
use Rattle.std.proofs.lemmas.Option.{slice_get_within}
use Rattle.ir_types.specs.declared.syntax.Block.{Block}
use Rattle.ir_types.specs.declared.syntax.Terminator.{Terminator}
use Rattle.ir_types.specs.declared.syntax.Function.{Function}
use Rattle.flow_graph.specs.Slots.{slots_of}
use Rattle.point_graph.specs.Graph.{Point, Start, Head, Place, Edge, Entry, Inside, Slot, point_before, Joins, Hop, IsPath, IsReached}

-- the places of a block from k on, the edges to them, and its slots
abbrev pub places_from : ℕ → ℕ → ℕ → List Point
places_from b k zero = []
places_from b k (suc n) = Place b k ∷ places_from b (suc k) n

abbrev pub insides_from : ℕ → ℕ → ℕ → List Edge
insides_from b k zero = []
insides_from b k (suc n) = Inside b k ∷ insides_from b (suc k) n

abbrev pub slots_from : ℕ → ℕ → ℕ → List Edge
slots_from b slot zero = []
slots_from b slot (suc n) = Slot b slot ∷ slots_from b (suc slot) n

abbrev pub block_points : ℕ → Option Block → List Point
block_points b None = []
block_points b (Some block) = Head b ∷ places_from b 0 (suc (length block.instrs))

abbrev pub block_edges : ℕ → Option Block → List Edge
block_edges b None = []
block_edges b (Some block) = insides_from b 0 (suc (length block.instrs)) ++ slots_from b 0 (length (slots_of block.term))

-- the lists of these blocks, one after another
abbrev pub joined : {X : Type 0} → (ℕ → List X) → List ℕ → List X
joined items [] = []
joined items (b ∷ blocks) = items b ++ joined items blocks

abbrev pub all_points : Function → List ℕ → List Point
all_points function reached = Start ∷ joined (λ b. block_points b (slice_get function.blocks b)) reached

abbrev pub all_edges : Function → List ℕ → List Edge
all_edges function reached = Entry ∷ joined (λ b. block_edges b (slice_get function.blocks b)) reached

-- the reached blocks in text order
pub record IsReachedBlocks (function : Function) (reached : List ℕ) : Type 0 where
  pub ascending : (i j b c : ℕ) → i < j → slice_get reached i ≡ Some b → slice_get reached j ≡ Some c → b < c
  pub only : (i b : ℕ) → slice_get reached i ≡ Some b → IsReached function (Head b)
  pub each : (b : ℕ) → IsReached function (Head b) → (i : ℕ) × (slice_get reached i ≡ Some b)
  pub blocks : (i b : ℕ) → slice_get reached i ≡ Some b → (block : Block) × (slice_get function.blocks b ≡ Some block)

path_append : (function : Function) (u : Point) (path : List Hop) (v : Point) (rest : List Hop) (w : Point) → IsPath function u path v → IsPath function v rest w → IsPath function u (path ++ rest) w
path_append function u [] v rest w leads more = subst (λ x. IsPath function x rest w) (sym leads) more
path_append function u (hop ∷ path) v rest w leads more = (leads.0, leads.1, path_append function hop.to path v rest w leads.2 more)

-- one edge further
pub reached_next : (function : Function) (edge : Edge) (u w : Point) → Joins function edge u w → IsReached function u → IsReached function w
reached_next function edge u w joins reached =
    let hop : Hop = record { from = u; edge = edge; to = w } in
    record {
      path = reached.path ++ hop ∷ [];
      leads = path_append function Start reached.path u (hop ∷ []) w reached.leads (refl, joins, refl);
    }

get_left : {X : Type 0} (xs ys : List X) (i : ℕ) (v : X) → slice_get xs i ≡ Some v → slice_get (xs ++ ys) i ≡ Some v
get_left [] ys i v e = absurd cc
get_left (x ∷ xs) ys zero v e = e
get_left (x ∷ xs) ys (suc i) v e = get_left xs ys i v e

get_right : {X : Type 0} (xs ys : List X) (i : ℕ) → slice_get (xs ++ ys) (length xs + i) ≡ slice_get ys i
get_right [] ys i = let e : 0 + i ≡ i = omega arith in ap (slice_get ys) e
get_right (x ∷ xs) ys i =
    let e : suc (length xs) + i ≡ suc (length xs + i) = omega arith in
    ap (slice_get (x ∷ (xs ++ ys))) e ∙ get_right xs ys i

-- which of the two lists has it
get_either : {X : Type 0} (xs ys : List X) (i : ℕ) (v : X) → slice_get (xs ++ ys) i ≡ Some v → (slice_get xs i ≡ Some v) ⊎ ((j : ℕ) × (i ≡ length xs + j) × (slice_get ys j ≡ Some v))
get_either [] ys i v e = inr (i, omega arith, e)
get_either (x ∷ xs) ys zero v e = inl e
get_either (x ∷ xs) ys (suc i) v e =
    ⊎_elim (λ l. inl l) (λ r. inr (r.0, omega (arith, r.1), r.2)) (get_either xs ys i v e)

module _ {X : Type 0} (items : ℕ → List X) where
  abbrev base : List ℕ → ℕ → ℕ
  base [] r = 0
  base (b ∷ bs) zero = 0
  base (b ∷ bs) (suc r) = length (items b) + base bs r

  record Found (bs : List ℕ) (i : ℕ) (v : X) : Type 0 where
    r : ℕ
    b : ℕ
    j : ℕ
    at : slice_get bs r ≡ Some b
    here : slice_get (items b) j ≡ Some v
    place : i ≡ base bs r + j

  found : (bs : List ℕ) (i : ℕ) (v : X) → slice_get (joined items bs) i ≡ Some v → Found bs i v
  found [] i v e = absurd cc
  found (b ∷ bs) i v e =
      ⊎_elim
      (λ (l : slice_get (items b) i ≡ Some v). record { r = 0; b = b; j = i; at = refl; here = l; place = omega arith })
      (λ (m : (j : ℕ) × (i ≡ length (items b) + j) × (slice_get (joined items bs) j ≡ Some v)).
      let rest = found bs m.0 v m.2 in
      record { r = suc rest.r; b = rest.b; j = rest.j; at = rest.at; here = rest.here; place = omega (arith, m.1, rest.place) })
      (get_either (items b) (joined items bs) i v e)

  listed : (bs : List ℕ) (r b j : ℕ) (v : X) → slice_get bs r ≡ Some b → slice_get (items b) j ≡ Some v → slice_get (joined items bs) (base bs r + j) ≡ Some v
  listed [] r b j v at here = absurd cc
  listed (c ∷ bs) zero b j v at here =
      let same : c ≡ b = cc in
      let e : 0 + j ≡ j = omega arith in
      ap (slice_get (items c ++ joined items bs)) e ∙ get_left (items c) (joined items bs) j v (ap (λ x. slice_get (items x) j) same ∙ here)
  listed (c ∷ bs) (suc r) b j v at here =
      let e : length (items c) + base bs r + j ≡ length (items c) + (base bs r + j) = omega arith in
      ap (slice_get (items c ++ joined items bs)) e ∙ get_right (items c) (joined items bs) (base bs r + j) ∙ listed bs r b j v at here

  once : (bs : List ℕ) → ((r s b : ℕ) → slice_get bs r ≡ Some b → slice_get bs s ≡ Some b → r ≡ s) → ((b c i j : ℕ) (v : X) → slice_get (items b) i ≡ Some v → slice_get (items c) j ≡ Some v → (b ≡ c) × (i ≡ j)) → (i j : ℕ) (v : X) → slice_get (joined items bs) i ≡ Some v → slice_get (joined items bs) j ≡ Some v → i ≡ j
  once bs distinct apart i j v e e' =
      let f = found bs i v e in
      let g = found bs j v e' in
      let same = apart f.b g.b f.j g.j v f.here g.here in
      let r : f.r ≡ g.r = distinct f.r g.r g.b (f.at ∙ ap Some same.0) g.at in
      f.place ∙ ap (λ r. base bs r + f.j) r ∙ ap (λ j. base bs g.r + j) same.1 ∙ sym g.place

-- the points of a block
abbrev nth_point : ℕ → ℕ → Point
nth_point b zero = Head b
nth_point b (suc k) = Place b k

place_at : (b k n i : ℕ) (v : Point) → slice_get (places_from b k n) i ≡ Some v → (v ≡ Place b (k + i)) × (i < n)
place_at b k zero i v e = absurd cc
place_at b k (suc n) zero v e =
    let same : Place b k ≡ v = cc in
    let n : k ≡ k + 0 = omega arith in
    (sym same ∙ ap (Place b) n, omega arith)
place_at b k (suc n) (suc i) v e =
    let r = place_at b (suc k) n i v e in
    let n : suc k + i ≡ k + suc i = omega arith in
    (r.0 ∙ ap (Place b) n, omega (arith, r.1))

place_listed : (b k n i : ℕ) → i < n → slice_get (places_from b k n) i ≡ Some (Place b (k + i))
place_listed b k zero i lt = absurd (omega (arith, lt))
place_listed b k (suc n) zero lt = let n : k ≡ k + 0 = omega arith in ap (λ j. Some (Place b j)) n
place_listed b k (suc n) (suc i) lt =
    let e : suc k + i ≡ k + suc i = omega arith in place_listed b (suc k) n i (omega (arith, lt)) ∙ ap (λ j. Some (Place b j)) e

inside_at : (b k n i : ℕ) (v : Edge) → slice_get (insides_from b k n) i ≡ Some v → (v ≡ Inside b (k + i)) × (i < n)
inside_at b k zero i v e = absurd cc
inside_at b k (suc n) zero v e =
    let same : Inside b k ≡ v = cc in
    let n : k ≡ k + 0 = omega arith in
    (sym same ∙ ap (Inside b) n, omega arith)
inside_at b k (suc n) (suc i) v e =
    let r = inside_at b (suc k) n i v e in
    let n : suc k + i ≡ k + suc i = omega arith in
    (r.0 ∙ ap (Inside b) n, omega (arith, r.1))

inside_listed : (b k n i : ℕ) → i < n → slice_get (insides_from b k n) i ≡ Some (Inside b (k + i))
inside_listed b k zero i lt = absurd (omega (arith, lt))
inside_listed b k (suc n) zero lt = let n : k ≡ k + 0 = omega arith in ap (λ j. Some (Inside b j)) n
inside_listed b k (suc n) (suc i) lt =
    let e : suc k + i ≡ k + suc i = omega arith in inside_listed b (suc k) n i (omega (arith, lt)) ∙ ap (λ j. Some (Inside b j)) e

length_insides : (b k n : ℕ) → length (insides_from b k n) ≡ n
length_insides b k zero = refl
length_insides b k (suc n) = ap (λ m. suc m) (length_insides b (suc k) n)

slot_at : (b k n i : ℕ) (v : Edge) → slice_get (slots_from b k n) i ≡ Some v → v ≡ Slot b (k + i)
slot_at b k zero i v e = absurd cc
slot_at b k (suc n) zero v e =
    let same : Slot b k ≡ v = cc in
    let z : k ≡ k + 0 = omega arith in
    sym same ∙ ap (Slot b) z
slot_at b k (suc n) (suc i) v e = let z : suc k + i ≡ k + suc i = omega arith in slot_at b (suc k) n i v e ∙ ap (Slot b) z

slots_listed : (b k n i : ℕ) → i < n → slice_get (slots_from b k n) i ≡ Some (Slot b (k + i))
slots_listed b k zero i lt = absurd (omega (arith, lt))
slots_listed b k (suc n) zero lt = let e : k ≡ k + 0 = omega arith in ap (λ j. Some (Slot b j)) e
slots_listed b k (suc n) (suc i) lt =
    let e : suc k + i ≡ k + suc i = omega arith in slots_listed b (suc k) n i (omega (arith, lt)) ∙ ap (λ j. Some (Slot b j)) e

slot_listed : (b : ℕ) (term : Terminator) (slot target : ℕ) → slice_get (slots_of term) slot ≡ Some target → slice_get (slots_from b 0 (length (slots_of term))) slot ≡ Some (Slot b slot)
slot_listed b term slot target e =
    let z : 0 + slot ≡ slot = omega arith in
    slots_listed b 0 (length (slots_of term)) slot (slice_get_within (slots_of term) slot target e) ∙ ap (λ j. Some (Slot b j)) z

block_point_at : (b : ℕ) (found : Option Block) (i : ℕ) (v : Point) → slice_get (block_points b found) i ≡ Some v → v ≡ nth_point b i
block_point_at b None i v e = absurd cc
block_point_at b (Some block) zero v e = cc
block_point_at b (Some block) (suc i) v e =
    let r = place_at b 0 (suc (length block.instrs)) i v e in
    let n : 0 + i ≡ i = omega arith in r.0 ∙ ap (Place b) n

nth_apart : (b c i j : ℕ) → nth_point b i ≡ nth_point c j → (b ≡ c) × (i ≡ j)
nth_apart b c zero zero e = let same : b ≡ c = cc in (same, refl)
nth_apart b c (suc i) (suc j) e = let same : b ≡ c = cc in let at : i ≡ j = cc in (same, ap (λ k. suc k) at)
nth_apart b c zero (suc j) e = absurd cc
nth_apart b c (suc i) zero e = absurd cc

-- an edge of a block, by its place in the list of the block's edges
data EdgeAt (b : ℕ) (block : Block) (i : ℕ) (v : Edge) : Type 0 where
  AnInside : v ≡ Inside b i → i ≤ length block.instrs → EdgeAt b block i v
  ASlot : (slot : ℕ) → v ≡ Slot b slot → i ≡ suc (length block.instrs) + slot → EdgeAt b block i v

block_edge_at : (b : ℕ) (block : Block) (i : ℕ) (v : Edge) → slice_get (block_edges b (Some block)) i ≡ Some v → EdgeAt b block i v
block_edge_at b block i v e =
    let n = suc (length block.instrs) in
    ⊎_elim
    (λ (l : slice_get (insides_from b 0 n) i ≡ Some v).
    let r = inside_at b 0 n i v l in
    let z : 0 + i ≡ i = omega arith in AnInside (r.0 ∙ ap (Inside b) z) (omega (arith, r.1)))
    (λ (s : (j : ℕ) × (i ≡ length (insides_from b 0 n) + j) × (slice_get (slots_from b 0 (length (slots_of block.term))) j ≡ Some v)).
    ASlot s.0 (let z : 0 + s.0 ≡ s.0 = omega arith in slot_at b 0 (length (slots_of block.term)) s.0 v s.2 ∙ ap (Slot b) z) (omega (arith, s.1, length_insides b 0 n)))
    (get_either (insides_from b 0 n) (slots_from b 0 (length (slots_of block.term))) i v e)

edges_apart_by : (function : Function) (b c i j : ℕ) (v : Edge) (found found' : Option Block) → slice_get function.blocks b ≡ found → slice_get function.blocks c ≡ found' → slice_get (block_edges b found) i ≡ Some v → slice_get (block_edges c found') j ≡ Some v → (b ≡ c) × (i ≡ j)
edges_apart_by function b c i j v None found' there there' e e' = absurd cc
edges_apart_by function b c i j v (Some block) None there there' e e' = absurd cc
edges_apart_by function b c i j v (Some block) (Some block') there there' e e' = by (block_edge_at b block i v e) (block_edge_at c block' j v e')
  where
    by : EdgeAt b block i v → EdgeAt c block' j v → (b ≡ c) × (i ≡ j)
    by (AnInside is le) (AnInside is' le') = let both : Inside b i ≡ Inside c j = sym is ∙ is' in let one : b ≡ c = cc in let two : i ≡ j = cc in (one, two)
    by (ASlot slot is at) (ASlot slot' is' at') =
        let both : Slot b slot ≡ Slot c slot' = sym is ∙ is' in
        let one : b ≡ c = cc in
        let two : slot ≡ slot' = cc in
        let same : block ≡ block' = let blocks : Some block ≡ Some block' = sym there ∙ ap (slice_get function.blocks) one ∙ there' in cc in
        (one, at ∙ ap (λ x. suc (length x.instrs) + slot) same ∙ ap (λ s. suc (length block'.instrs) + s) two ∙ sym at')
    by (AnInside is le) (ASlot slot is' at) = let both : Inside b i ≡ Slot c slot = sym is ∙ is' in absurd cc
    by (ASlot slot is at) (AnInside is' le) = let both : Slot b slot ≡ Inside c j = sym is ∙ is' in absurd cc

module _ (function : Function) (reached : List ℕ) (exact : IsReachedBlocks function reached) where
  abbrev points_in : ℕ → List Point
  points_in b = block_points b (slice_get function.blocks b)

  abbrev edges_in : ℕ → List Edge
  edges_in b = block_edges b (slice_get function.blocks b)

  distinct : (r s b : ℕ) → slice_get reached r ≡ Some b → slice_get reached s ≡ Some b → r ≡ s
  distinct r s b e e' =
      ⊎_elim (λ lt. absurd (omega (arith, exact.ascending r s b b lt e e')))
      (λ ge. ⊎_elim (λ lt. absurd (omega (arith, exact.ascending s r b b lt e' e))) (λ ge'. omega (arith, ge, ge')) (cases_lt s r))
      (cases_lt r s)

  points_apart : (b c i j : ℕ) (v : Point) → slice_get (points_in b) i ≡ Some v → slice_get (points_in c) j ≡ Some v → (b ≡ c) × (i ≡ j)
  points_apart b c i j v e e' = nth_apart b c i j (sym (block_point_at b _ i v e) ∙ block_point_at c _ j v e')

  edges_apart : (b c i j : ℕ) (v : Edge) → slice_get (edges_in b) i ≡ Some v → slice_get (edges_in c) j ≡ Some v → (b ≡ c) × (i ≡ j)
  edges_apart b c i j v e e' = edges_apart_by function b c i j v _ _ refl refl e e'

  no_start : (i : ℕ) → slice_get (joined points_in reached) i ≡ Some Start → ⊥
  no_start i e = let f = found points_in reached i Start e in by f.b f.j (block_point_at f.b _ f.j Start f.here)
    where
      by : (b j : ℕ) → Start ≡ nth_point b j → ⊥
      by b zero e = cc
      by b (suc j) e = cc

  no_entry : (i : ℕ) → slice_get (joined edges_in reached) i ≡ Some Entry → ⊥
  no_entry i e =
      let f = found edges_in reached i Entry e in
      let block = exact.blocks f.r f.b f.at in
      by f.b f.j block.0 (block_edge_at f.b block.0 f.j Entry (ap (λ o. slice_get (block_edges f.b o) f.j) (sym block.1) ∙ f.here))
    where
      by : (b j : ℕ) (block : Block) → EdgeAt b block j Entry → ⊥
      by b j block (AnInside is le) = cc
      by b j block (ASlot slot is at) = cc

  pub points_once : (i j : ℕ) (v : Point) → slice_get (all_points function reached) i ≡ Some v → slice_get (all_points function reached) j ≡ Some v → i ≡ j
  points_once zero zero v e e' = refl
  points_once zero (suc j) v e e' = absurd (no_start j (e' ∙ sym e))
  points_once (suc i) zero v e e' = absurd (no_start i (e ∙ sym e'))
  points_once (suc i) (suc j) v e e' = ap (λ k. suc k) (once points_in reached distinct points_apart i j v e e')

  pub edges_once : (i j : ℕ) (v : Edge) → slice_get (all_edges function reached) i ≡ Some v → slice_get (all_edges function reached) j ≡ Some v → i ≡ j
  edges_once zero zero v e e' = refl
  edges_once zero (suc j) v e e' = absurd (no_entry j (e' ∙ sym e))
  edges_once (suc i) zero v e e' = absurd (no_entry i (e ∙ sym e'))
  edges_once (suc i) (suc j) v e e' = ap (λ k. suc k) (once edges_in reached distinct edges_apart i j v e e')

  -- the places of a reached block are reached
  place_reached : (b : ℕ) (block : Block) → slice_get function.blocks b ≡ Some block → IsReached function (Head b) → (k : ℕ) → k ≤ length block.instrs → IsReached function (Place b k)
  place_reached b block there head zero le =
      reached_next function (Inside b 0) (Head b) (Place b 0) (record { block = block; block_there = there; within = le; begins = refl; ends = refl }) head
  place_reached b block there head (suc k) le =
      reached_next function (Inside b (suc k)) (Place b k) (Place b (suc k)) (record { block = block; block_there = there; within = le; begins = refl; ends = refl })
      (place_reached b block there head k (omega (arith, le)))

  in_block_reached : (b : ℕ) (found : Option Block) → slice_get function.blocks b ≡ found → IsReached function (Head b) → (i : ℕ) (v : Point) → slice_get (block_points b found) i ≡ Some v → IsReached function v
  in_block_reached b None there head i v e = absurd cc
  in_block_reached b (Some block) there head zero v e = let same : Head b ≡ v = cc in subst (IsReached function) same head
  in_block_reached b (Some block) there head (suc i) v e =
      let r = place_at b 0 (suc (length block.instrs)) i v e in
      let n : 0 + i ≡ i = omega arith in
      subst (IsReached function) (sym (r.0 ∙ ap (Place b) n)) (place_reached b block there head i (omega (arith, r.1)))

  pub points_reached : (i : ℕ) (v : Point) → slice_get (all_points function reached) i ≡ Some v → IsReached function v
  points_reached zero v e = let same : Start ≡ v = cc in subst (IsReached function) same (record { path = []; leads = refl })
  points_reached (suc i) v e =
      let f = found points_in reached i v e in
      in_block_reached f.b _ refl (exact.only f.r f.b f.at) f.j v f.here

  -- a path to a place leads over the head of its block
  abbrev OverHead : Point → Type 0
  OverHead v = (b k : ℕ) → v ≡ Place b k → IsReached function (Head b)

  over_by : (edge : Edge) (u w : Point) → Joins function edge u w → IsReached function u → OverHead u → OverHead w
  over_by Entry u w joins from over b k e = absurd (let both : Head 0 ≡ Place b k = sym joins.1 ∙ e in cc)
  over_by (Slot c slot) u w joins from over b k e = absurd (let both : Head joins.target ≡ Place b k = sym joins.ends ∙ e in cc)
  over_by (Inside c zero) u w joins from over b k e =
      let both : Place c 0 ≡ Place b k = sym joins.ends ∙ e in
      let same : c ≡ b = cc in
      subst (λ x. IsReached function (Head x)) same (subst (IsReached function) joins.begins from)
  over_by (Inside c (suc j)) u w joins from over b k e =
      let both : Place c (suc j) ≡ Place b k = sym joins.ends ∙ e in
      let same : c ≡ b = cc in
      subst (λ x. IsReached function (Head x)) same (over c j joins.begins)

  over_path : (u : Point) (path : List Hop) (v : Point) → IsPath function u path v → IsReached function u → OverHead u → OverHead v
  over_path u [] v leads from over = subst OverHead leads over
  over_path u (hop ∷ path) v leads from over =
      let from' = subst (IsReached function) leads.0 from in
      over_path hop.to path v leads.2 (reached_next function hop.edge hop.from hop.to leads.1 from')
      (over_by hop.edge hop.from hop.to leads.1 from' (subst OverHead leads.0 over))

  pub head_reached : (b k : ℕ) → IsReached function (Place b k) → IsReached function (Head b)
  head_reached b k place =
      over_path Start place.path (Place b k) place.leads (record { path = []; leads = refl }) (λ b k e. absurd cc) b k refl

  before_reached : (b k : ℕ) → IsReached function (point_before b k) → IsReached function (Head b)
  before_reached b zero from = from
  before_reached b (suc k) from = head_reached b k from

  -- an edge of a reached block is in the list
  in_list : (b j : ℕ) (edge : Edge) (block : Block) → slice_get function.blocks b ≡ Some block → IsReached function (Head b) → slice_get (block_edges b (Some block)) j ≡ Some edge → (e : ℕ) × (slice_get (all_edges function reached) e ≡ Some edge)
  in_list b j edge block there head e =
      let r = exact.each b head in
      (suc (base edges_in reached r.0 + j), listed edges_in reached r.0 b j edge r.1 (ap (λ o. slice_get (block_edges b o) j) there ∙ e))

  pub edges_there : (edge : Edge) (u w : Point) → Joins function edge u w → IsReached function u → (e : ℕ) × (slice_get (all_edges function reached) e ≡ Some edge)
  edges_there Entry u w joins from = (0, refl)
  edges_there (Inside b k) u w joins from =
      let n = suc (length joins.block.instrs) in
      let z : 0 + k ≡ k = omega arith in
      in_list b k (Inside b k) joins.block joins.block_there (before_reached b k (subst (IsReached function) joins.begins from))
      (get_left (insides_from b 0 n) (slots_from b 0 (length (slots_of joins.block.term))) k (Inside b k) (inside_listed b 0 n k (omega (arith, joins.within)) ∙ ap (λ j. Some (Inside b j)) z))
  edges_there (Slot b slot) u w joins from =
      let n = suc (length joins.block.instrs) in
      in_list b (length (insides_from b 0 n) + slot) (Slot b slot) joins.block joins.block_there
      (head_reached b (length joins.block.instrs) (subst (IsReached function) joins.begins from))
      (get_right (insides_from b 0 n) (slots_from b 0 (length (slots_of joins.block.term))) slot ∙ slot_listed b joins.block.term slot joins.target joins.leads)

  point_listed : (b : ℕ) (block : Block) → slice_get function.blocks b ≡ Some block → IsReached function (Head b) → (j : ℕ) (v : Point) → slice_get (block_points b (Some block)) j ≡ Some v → (i : ℕ) × (slice_get (all_points function reached) i ≡ Some v)
  point_listed b block there head j v e =
      let r = exact.each b head in
      (suc (base points_in reached r.0 + j), listed points_in reached r.0 b j v r.1 (ap (λ o. slice_get (block_points b o) j) there ∙ e))

  -- a place that a path meets is one of its block
  place_within : (edge : Edge) (u w : Point) (b k : ℕ) → Joins function edge u w → w ≡ Place b k → (block : Block) × (slice_get function.blocks b ≡ Some block) × (k ≤ length block.instrs)
  place_within Entry u w b k joins e = let both : Head 0 ≡ Place b k = sym joins.1 ∙ e in absurd cc
  place_within (Slot c slot) u w b k joins e = let both : Head joins.target ≡ Place b k = sym joins.ends ∙ e in absurd cc
  place_within (Inside c j) u w b k joins e =
      let both : Place c j ≡ Place b k = sym joins.ends ∙ e in
      let blocks : c ≡ b = cc in
      let places : j ≡ k = cc in
      (joins.block, ap (slice_get function.blocks) (sym blocks) ∙ joins.block_there, omega (arith, joins.within, places))

  path_within : (u : Point) (path : List Hop) (b k : ℕ) → IsPath function u path (Place b k) → (u ≡ Place b k) ⊎ ((block : Block) × (slice_get function.blocks b ≡ Some block) × (k ≤ length block.instrs))
  path_within u [] b k leads = inl leads
  path_within u (hop ∷ path) b k leads =
      ⊎_elim (λ (e : hop.to ≡ Place b k). inr (place_within hop.edge hop.from hop.to b k leads.1 e)) (λ r. inr r) (path_within hop.to path b k leads.2)

  pub points_there : (v : Point) → IsReached function v → (i : ℕ) × (slice_get (all_points function reached) i ≡ Some v)
  points_there Start is = (0, refl)
  points_there (Head b) is =
      let r = exact.each b is in
      let block = exact.blocks r.0 b r.1 in
      point_listed b block.0 block.1 is 0 (Head b) refl
  points_there (Place b k) is =
      let within = ⊎_elim (λ (e : Start ≡ Place b k). absurd (no_place e)) (λ r. r) (path_within Start is.path b k is.leads) in
      let z : 0 + k ≡ k = omega arith in
      point_listed b within.0 within.1 (head_reached b k is) (suc k) (Place b k) (place_listed b 0 (suc (length within.0.instrs)) k (omega (arith, within.2)) ∙ ap (λ j. Some (Place b j)) z)
    where
      no_place : Start ≡ Place b k → ⊥
      no_place e = cc
