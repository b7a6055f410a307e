-- The changes that are put together are those of the plan.
use Rattle.std.proofs.Common.{◌≡◌, ℕ, zero, suc, ◌+◌, ◌<◌, ◌≤◌, true, false, if◌then◌else◌, List, [], ◌∷◌, length, map, take, drop, get_or, Option, Some, None, refl, sym, ap, ◌∙◌, subst, arith, ⊎_elim, Contains}
use Rattle.std.specs.Prelude.{slice_get}
use Rattle.std.specs.Option.{option_map_or}
use Rattle.std.proofs.lemmas.Bool.{cases_lt, false_from_ne_true}
use Rattle.std.proofs.lemmas.List.{get_or-take, get_or-drop, get_or_past, length-take}
use Rattle.std.proofs.lemmas.List.Elements.{Contains-append_right}
use Rattle.std.proofs.lemmas.Option.{slice_get_within, same_Some}
use Rattle.ir_types.specs.Program.{Program}
use Rattle.ir_types.specs.declared.syntax.Block.{Block}
use Rattle.ir_types.specs.declared.syntax.Function.{Function}
use Rattle.flow_graph.specs.Slots.{slots_of}
use Rattle.point_graph.specs.Graph.{Edge, Entry, Inside, Slot, Place}
use Rattle.point_graph.specs.Numbers.{KeepsRules, ArePoints, IsNumbered, all_edges, point_of}
use Rattle.point_graph.specs.declared.graph.Point.{Point}
use Rattle.point_graph.specs.declared.graph.Point.TheVariants.{Start, Head, Instr, Term}
use Rattle.point_graph.specs.declared.graph.Points.{Points}
use Rattle.point_numbers.specs.Told.{AreTold}
use Rattle.point_numbers.proofs.Told.{are_told}
use Rattle.expressions.specs.declared.syntax.Expr.{Expr}
use Rattle.expressions.specs.declared.syntax.Event.TheVariants.{Occurs}
use Rattle.expressions.specs.Expressions.{nothing, term_there, content, content_expr}
use Rattle.expressions.specs.Kept.{Kept}
use Rattle.expressions.specs.Tables.{IsTable, IsEventOf}
use Rattle.placement.specs.declared.placements.Placement.{Placement}
use Rattle.placed_moves.specs.Placed.{IsPoint, IsEdge}
use Rattle.applied.specs.Motion.{Move}
use Rattle.applied.specs.Applied.{Plan, IsFreshPrefix}
use Rattle.changes.specs.Changed.{listed, inserted_on, number_of_edge, action_of, inserting, IsAction}
use Rattle.changes.specs.declared.lists.Action.{Action}
use Rattle.changes.specs.declared.lists.Action.TheVariants.{Stays}
use Rattle.changes.specs.declared.lists.BlockChanges.{BlockChanges}
use Rattle.changes.specs.declared.lists.Changes.{Changes}
use Rattle.planning.specs.PlanOf.{ArePlacementsOf, AreChangesOf}
use Rattle.planning.specs.Moving.{IsMoved}
use Rattle.planning.specs.Blocks.{AreBlocks, IsBlock}
use Rattle.planning.specs.declared.moves.Moved.{Moved}
use Rattle.planning.proofs.Geometry.{HasPlaces, places_of, listed_inside, listed_instr, listed_inside_edge, listed_slot_edge, inside_is, slot_is, get_map_back, get_some, contains_at, member_cases, instr_at}
use Rattle.planning.proofs.Acting.{AreQuiet, NoneInserts, inserting_none, action_none}
use Rattle.planning.proofs.Growing.{quiet_all}
use Rattle.planning.proofs.Occurring.{zip_length}

-- ---- lists

listed_is : (lists : List (List ℕ)) (k : ℕ) → listed lists k ≡ get_or lists k []
listed_is [] k = refl
listed_is (l ∷ lists) zero = refl
listed_is (l ∷ lists) (suc k) = listed_is lists k

action_at : (actions : List Action) (k : ℕ) → option_map_or (λ action. action) (slice_get actions k) Stays ≡ get_or actions k Stays
action_at [] k = refl
action_at (a ∷ actions) zero = refl
action_at (a ∷ actions) (suc k) = action_at actions k

-- a part of a list
part_in : {X : Type 0} (n s : ℕ) (xs : List X) (k : ℕ) (d : X) → k < n → get_or (take n (drop s xs)) k d ≡ get_or xs (s + k) d
part_in n s xs k d lt = get_or-take n (drop s xs) k d lt ∙ get_or-drop s xs k d

part_past : {X : Type 0} (n s : ℕ) (xs : List X) (k : ℕ) (d : X) → n ≤ k → get_or (take n (drop s xs)) k d ≡ d
part_past n s xs k d le = get_or_past (take n (drop s xs)) k d (omega (arith, le, length-take n (drop s xs)))

none_inserts : (edge : Edge) (moves : List Move) → ((m : Move) → Contains moves m → m.inserted edge ≡ true → ⊥) → NoneInserts edge moves
none_inserts edge [] none = tt
none_inserts edge (m ∷ moves) none =
    (false_from_ne_true (m.inserted edge) (none m (contains_at (m ∷ moves) 0 m refl)), none_inserts edge moves (λ n h. none n (Contains-append_right (m ∷ []) moves n h)))

-- there is the edge from Start
pub some_edge : (f : Function) (p : Points) → ArePoints f p → (n : ℕ) → n ≡ length p.edges → 0 < n
some_edge f p are n same = omega (arith, same, zip_length (IsNumbered f p.points) (all_edges f p.blocks) p.edges are.edges)

-- an expression occurs at an instruction
no_term : (m : Program) (found : Option Block) (e : Expr) → content_expr m (option_map_or (λ block. term_there block.term) found nothing) ≡ Some e → ⊥
no_term m None e is = cc
no_term m (Some block) e is = cc

occurs_at_instr : (m : Program) (f : Function) (e : Expr) (b k : ℕ) (at : Point) → content_expr m (content f at) ≡ Some e → point_of f at ≡ Place b k → at ≡ Instr b k
occurs_at_instr m f e b k Start is at = absurd cc
occurs_at_instr m f e b k (Head c) is at = absurd cc
occurs_at_instr m f e b k (Instr c j) is at = let blocks : c ≡ b = cc in let places : j ≡ k = cc in ap (λ x. Instr x j) blocks ∙ ap (Instr b) places
occurs_at_instr m f e b k (Term c) is at = absurd (no_term m (slice_get f.blocks c) e is)

module _ (f : Function) (p : Points) (t : Kept) (placements : List Placement) (defined : 0 < length f.blocks) (points : ArePoints f p) (table : IsTable f p t) (given : ArePlacementsOf f p t placements)
    (moved : Moved) (is : IsMoved f p t placements (length t.exprs) moved) (blocks : List BlockChanges) (are : AreBlocks f p moved (length f.blocks) blocks) (entry : List ℕ) (entry_is : entry ≡ get_or moved.edges.items 0 [])
    (prefix : ℕ) (fresh : IsFreshPrefix f prefix) where
  told : AreTold f (map (point_of f) p.points) (all_edges f p.blocks) p.edges
  told = let keeps : KeepsRules f = record { module_of = t.module_of; rules = table.rules } in are_told f p keeps defined points

  abbrev all : Changes
  all = record { prefix = prefix; temps = moved.temps.items; entry = entry; blocks = blocks }

  abbrev plan : Plan
  plan = record { naming = record { prefix = prefix; edge_number = number_of_edge all }; moves = is.moves }

  -- the changes of a reached block
  record BlockHere (b : ℕ) (has : HasPlaces f p b) : Type 0 where
    changes : BlockChanges
    there : slice_get blocks b ≡ Some changes
    here : IsBlock has.start has.block moved changes

  block_here : (b : ℕ) (has : HasPlaces f p b) → Contains p.blocks b → BlockHere b has
  block_here b has h =
      let found = get_some blocks b (omega (arith, listed_inside f p points told b h, are.len)) in
      let r = (are.each b found.0 found.1).reached h in
      let starts : r.start ≡ has.start = same_Some r.start has.start (sym r.start_there ∙ has.start_there) in
      let bodies : r.block ≡ has.block = same_Some r.block has.block (sym r.block_there ∙ has.block_there) in
      record {
        changes = found.0;
        there = found.1;
        here = subst (λ s. IsBlock s has.block moved found.0) starts (subst (λ (x : Block). IsBlock r.start x moved found.0) bodies r.is);
      }

  -- ---- numbers of edges

  number_is : (n : ℕ) (edge : Edge) → IsEdge f p n edge → number_of_edge all edge ≡ n
  number_is n Entry e = told.edges_once 0 n Entry refl e
  number_is n (Inside b k) e =
      let l = listed_inside_edge f p points told n b k e in
      let x = block_here b l.places l.listed in
      ap (λ o. option_map_or (λ block. block.first_edge + k) o 0) x.there ∙ ap (λ s. s + k) x.here.first_edge ∙ sym l.at
  number_is n (Slot b slot) e =
      let l = listed_slot_edge f p points told n b slot e in
      let x = block_here b l.places l.listed in
      let z : l.places.start.edge + length l.places.block.instrs + 1 + slot ≡ l.places.start.edge + (length l.places.block.instrs + 1 + slot) = omega arith in
      ap (λ o. option_map_or (λ block. block.first_slot + slot) o 0) x.there ∙ ap (λ s. s + slot) x.here.first_slot ∙ z ∙ sym l.at

  -- ---- lists of edges

  -- nothing is inserted on what is no edge
  not_inserted : (edge : Edge) → ((n : ℕ) → IsEdge f p n edge → ⊥) → inserting 0 edge is.moves ≡ []
  not_inserted edge none =
      inserting_none 0 edge is.moves (none_inserts edge is.moves (λ m h e. let r = ((is.are_moves m h).placed.inserted_is edge).0 e in none r.0 r.1))

  inside_none : (b k : ℕ) (found : Option BlockChanges) → slice_get blocks b ≡ found → (Contains p.blocks b → ⊥) → option_map_or (λ block. listed block.inside k) found [] ≡ []
  inside_none b k None there absent = refl
  inside_none b k (Some changes) there absent = ap (λ l. listed l k) ((are.each b changes there).others absent).inside

  slot_none : (b k : ℕ) (found : Option BlockChanges) → slice_get blocks b ≡ found → (Contains p.blocks b → ⊥) → option_map_or (λ block. listed block.slots k) found [] ≡ []
  slot_none b k None there absent = refl
  slot_none b k (Some changes) there absent = ap (λ l. listed l k) ((are.each b changes there).others absent).slots

  inside_listed : (b k : ℕ) → Contains p.blocks b → inserted_on all (Inside b k) ≡ inserting 0 (Inside b k) is.moves
  inside_listed b k h =
      let has = places_of f p points told b h in
      let x = block_here b has h in
      let n = length has.block.instrs + 1 in
      let value : inserted_on all (Inside b k) ≡ get_or (take n (drop has.start.edge moved.edges.items)) k [] =
      ap (λ o. option_map_or (λ block. listed block.inside k) o []) x.there ∙ listed_is x.changes.inside k ∙ ap (λ l. get_or l k []) x.here.inside in
      ⊎_elim
      (λ (lt : k < n).
      value ∙ part_in n has.start.edge moved.edges.items k [] lt ∙ is.edges (has.start.edge + k) (Inside b k) (inside_is f p points told b has k (omega (arith, lt))))
      (λ (ge : n ≤ k).
      value ∙ part_past n has.start.edge moved.edges.items k [] ge
      ∙ sym (not_inserted (Inside b k) (λ m e.
      let l = listed_inside_edge f p points told m b k e in
      let same : l.places.block ≡ has.block = same_Some l.places.block has.block (sym l.places.block_there ∙ has.block_there) in
      omega (arith, l.within, ap (λ y. length y.instrs) same, ge))))
      (cases_lt k n)

  slot_listed : (b slot : ℕ) → Contains p.blocks b → inserted_on all (Slot b slot) ≡ inserting 0 (Slot b slot) is.moves
  slot_listed b slot h =
      let has = places_of f p points told b h in
      let x = block_here b has h in
      let n = length (slots_of has.block.term) in
      let s = has.start.edge + length has.block.instrs + 1 in
      let value : inserted_on all (Slot b slot) ≡ get_or (take n (drop s moved.edges.items)) slot [] =
      ap (λ o. option_map_or (λ block. listed block.slots slot) o []) x.there ∙ listed_is x.changes.slots slot ∙ ap (λ l. get_or l slot []) x.here.slots in
      ⊎_elim
      (λ (lt : slot < n).
      let z : s + slot ≡ has.start.edge + (length has.block.instrs + 1 + slot) = omega arith in
      value ∙ part_in n s moved.edges.items slot [] lt ∙ ap (λ j. get_or moved.edges.items j []) z
      ∙ is.edges (has.start.edge + (length has.block.instrs + 1 + slot)) (Slot b slot) (slot_is f p points told b has slot lt))
      (λ (ge : n ≤ slot).
      value ∙ part_past n s moved.edges.items slot [] ge
      ∙ sym (not_inserted (Slot b slot) (λ m e.
      let l = listed_slot_edge f p points told m b slot e in
      let same : l.places.block ≡ has.block = same_Some l.places.block has.block (sym l.places.block_there ∙ has.block_there) in
      omega (arith, l.within, ap (λ y. length (slots_of y.term)) same, ge))))
      (cases_lt slot n)

  edges_are : (edge : Edge) → inserted_on all edge ≡ inserting 0 edge is.moves
  edges_are Entry = entry_is ∙ is.edges 0 Entry refl
  edges_are (Inside b k) = ⊎_elim (inside_listed b k)
      (λ (absent : Contains p.blocks b → ⊥). inside_none b k (slice_get blocks b) refl absent ∙ sym (not_inserted (Inside b k) (λ m e. absent (listed_inside_edge f p points told m b k e).listed)))
      (member_cases p.blocks b)
  edges_are (Slot b slot) = ⊎_elim (slot_listed b slot)
      (λ (absent : Contains p.blocks b → ⊥). slot_none b slot (slice_get blocks b) refl absent ∙ sym (not_inserted (Slot b slot) (λ m e. absent (listed_slot_edge f p points told m b slot e).listed)))
      (member_cases p.blocks b)

  -- ---- places

  -- nothing happens at what is no listed instruction
  quiet_at : (b k : ℕ) → ((i : ℕ) → slice_get p.points i ≡ Some (Instr b k) → ⊥) → AreQuiet b k is.moves
  quiet_at b k none = quiet_all b k is.moves (λ m h.
      let placed = (is.are_moves m h).placed in
      let no = λ (i : ℕ) (e : IsPoint f p i (Place b k)) (occurs : IsEventOf f p t m.number i Occurs).
      let r = get_map_back (point_of f) p.points i (Place b k) e in
      let same : occurs.at ≡ r.0 = same_Some occurs.at r.0 (sym occurs.point_there ∙ r.1) in
      let at : r.0 ≡ Instr b k = occurs_at_instr t.module_of f occurs.expr b k r.0 (ap (λ q. content_expr t.module_of (content f q)) (sym same) ∙ occurs.is_event) r.2 in
      let bad : ⊥ = none i (r.1 ∙ ap Some at) in bad in
      let kept : m.kept (Place b k) ≡ false = false_from_ne_true (m.kept (Place b k)) (λ q. let r = (placed.kept_is (Place b k)).0 q in no r.0 r.1 r.2) in (
        false_from_ne_true (m.deleted (Place b k)) (λ q. let r = (placed.deleted_is (Place b k)).0 q in no r.0 r.1 r.2.0),
        ap (λ q. if q then (if m.inserted (Inside b (suc k)) then false else m.live (Place b (suc k))) else false) kept,
      ))

  stays_none : (b k : ℕ) (found : Option BlockChanges) → slice_get blocks b ≡ found → (Contains p.blocks b → ⊥) → option_map_or (λ block. option_map_or (λ action. action) (slice_get block.actions k) Stays) found Stays ≡ Stays
  stays_none b k None there absent = refl
  stays_none b k (Some changes) there absent = ap (λ l. option_map_or (λ action. action) (slice_get l k) Stays) ((are.each b changes there).others absent).actions

  places_listed : (b k : ℕ) → Contains p.blocks b → IsAction is.moves b k (action_of all b k)
  places_listed b k h =
      let has = places_of f p points told b h in
      let x = block_here b has h in
      let n = length has.block.instrs in
      let value : action_of all b k ≡ get_or (take n (drop (has.start.point + 1) moved.actions.items)) k Stays =
      ap (λ o. option_map_or (λ block. option_map_or (λ action. action) (slice_get block.actions k) Stays) o Stays) x.there ∙ action_at x.changes.actions k ∙ ap (λ l. get_or l k Stays) x.here.actions in
      ⊎_elim
      (λ (lt : k < n).
      let z : has.start.point + 1 + k ≡ has.start.point + suc k = omega arith in
      let at : slice_get p.points (has.start.point + suc k) ≡ Some (Instr b k) = has.points.at (suc k) (Instr b k) (instr_at b has.block k lt) in
      subst (IsAction is.moves b k) (sym (value ∙ part_in n (has.start.point + 1) moved.actions.items k Stays lt ∙ ap (λ j. get_or moved.actions.items j Stays) z)) (is.actions (has.start.point + suc k) b k at))
      (λ (ge : n ≤ k).
      subst (IsAction is.moves b k) (sym (value ∙ part_past n (has.start.point + 1) moved.actions.items k Stays ge))
      (action_none b k is.moves (quiet_at b k (λ i e.
      let l = listed_instr f p points told i b k e in
      let same : l.places.block ≡ has.block = same_Some l.places.block has.block (sym l.places.block_there ∙ has.block_there) in
      omega (arith, l.within, ap (λ y. length y.instrs) same, ge)))))
      (cases_lt k n)

  places_are : (b k : ℕ) → IsAction is.moves b k (action_of all b k)
  places_are b k = ⊎_elim (places_listed b k)
      (λ (absent : Contains p.blocks b → ⊥).
      subst (IsAction is.moves b k) (sym (stays_none b k (slice_get blocks b) refl absent)) (action_none b k is.moves (quiet_at b k (λ i e. absent (listed_instr f p points told i b k e).listed))))
      (member_cases p.blocks b)

  pub are_changes_of : AreChangesOf f p t placements (record { prefix = prefix; temps = moved.temps.items; entry = entry; blocks = blocks })
  are_changes_of = record {
    plan = plan;
    plan_of = record {
      prefix = fresh;
      edge_numbers = number_is;
      ascending = is.ascending;
      moves = is.are_moves;
      every = λ x placement there needed. is.every x placement (omega (arith, slice_get_within placements x placement there, given.count)) there needed;
    };
    are_changes = record {
      prefix = refl;
      temps = is.temps;
      edges = edges_are;
      numbers = λ edge h. refl;
      places = places_are;
    };
  }
