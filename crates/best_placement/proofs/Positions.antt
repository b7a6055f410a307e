-- The lists of the placement that is read off.
use Rattle.std.proofs.Common.{◌≡◌, ℕ, suc, zero, ◌+◌, ◌≤◌, ◌<◌, Bool, true, false, not, ◌&&◌, List, [], ◌∷◌, length, map, get_or, refl, sym, ap, ◌∙◌, arith, subst}
use Rattle.std.specs.List.{AllByRecursion}
use Rattle.std.proofs.lemmas.List.{length-append, length-map}
use Rattle.std.proofs.lemmas.List.Elements.{All-from_recursion}
use Rattle.std.proofs.lemmas.Bool.{and_parts}
use Rattle.expressions.specs.declared.syntax.Event.{Event}
use Rattle.expressions.specs.declared.syntax.Event.TheVariants.{Occurs, Passes}
use Rattle.placement.specs.declared.placements.Placement.{Placement}
use Rattle.best_placement.specs.Blocks.{Block, joined, points_of_block, edges_of_block}
use Rattle.best_placement.specs.BlockNetwork.{head_node, terminator_node, event_after, last_event}
use Rattle.best_placement.specs.ReadOff.{is_owed, KeepsAlong, IsReadOffIn}
use Rattle.best_placement.specs.Laws.{has, ExpressionGraph, IsExpressionGraph, IsPlacement, IsReadOffOn, ReadOffExists}
use Rattle.best_placement.specs.Bits.{is_occurrence, positions, none, inserted_slots, inserted_in, kept_along, kept_in, bits_joined}
use Rattle.best_placement.proofs.Lists.{Matches, matches_split, counted_matches, each_both, each_weaker, each_append, each_map, each_joined, counted_each}
use Rattle.best_placement.proofs.Listed.{AscendsFrom, increases, none_below, other_number, same_number, ascends_later}
use Rattle.best_placement.proofs.Rules.{occurrence_is}

pub positions_ascend : (n : ℕ) (bits : List Bool) → AscendsFrom n (positions n bits)
positions_ascend n [] = tt
positions_ascend n (true ∷ bits) = (omega arith, positions_ascend (suc n) bits)
positions_ascend n (false ∷ bits) = ascends_later n (suc n) (positions (suc n) bits) (omega arith) (positions_ascend (suc n) bits)

pub positions_below : (n m : ℕ) (bits : List Bool) → n + length bits ≤ m → AllByRecursion (λ x. x < m) (positions n bits)
positions_below n m [] h = tt
positions_below n m (true ∷ bits) h = (omega arith, positions_below (suc n) m bits (omega arith))
positions_below n m (false ∷ bits) h = positions_below (suc n) m bits (omega arith)

pub has_positions : (n : ℕ) (bits : List Bool) (i : ℕ) → has (positions n bits) (n + i) ≡ get_or bits i false
has_positions n [] i = refl
has_positions n (true ∷ bits) zero = same_number n (n + 0) (has (positions (suc n) bits) (n + 0)) (omega arith)
has_positions n (true ∷ bits) (suc i) = other_number n (n + suc i) (has (positions (suc n) bits) (n + suc i)) (λ e. omega arith)
    ∙ ap (has (positions (suc n) bits)) (let q : n + suc i ≡ suc n + i = omega arith in q) ∙ has_positions (suc n) bits i
has_positions n (false ∷ bits) zero = none_below (suc n) (positions (suc n) bits) (n + 0) (positions_ascend (suc n) bits) (omega arith)
has_positions n (false ∷ bits) (suc i) = ap (has (positions (suc n) bits)) (let q : n + suc i ≡ suc n + i = omega arith in q) ∙ has_positions (suc n) bits i

-- what holds where the bit is set holds of each position
pub positions_hold : (P : ℕ → Type 0) (n : ℕ) (bits : List Bool) → ((i : ℕ) → i < length bits → get_or bits i false ≡ true → P (n + i)) → AllByRecursion P (positions n bits)
positions_hold P n [] h = tt
positions_hold P n (true ∷ bits) h = (subst P (let q : n + 0 ≡ n = omega arith in q) (h 0 (omega arith) refl), positions_hold P (suc n) bits (λ i l e. subst P (let q : n + suc i ≡ suc n + i = omega arith in q) (h (suc i) (omega arith) e)))
positions_hold P n (false ∷ bits) h = positions_hold P (suc n) bits (λ i l e. subst P (let q : n + suc i ≡ suc n + i = omega arith in q) (h (suc i) (omega arith) e))

length_none : (steps : List (ℕ × ℕ)) → length (none steps) ≡ length steps
length_none [] = refl
length_none (s ∷ steps) = let r = length_none steps in omega arith

length_slots : (nodes : ℕ → Bool) (end : Bool) (slots : List (ℕ × ℕ)) → length (inserted_slots nodes end slots) ≡ length slots
length_slots nodes end [] = refl
length_slots nodes end (s ∷ slots) = let r = length_slots nodes end slots in omega arith

length_kept : (event : ℕ → Event) (head : Bool) (before : Event) (steps : List (ℕ × ℕ)) → length (kept_along event head before steps) ≡ length steps
length_kept event head before [] = refl
length_kept event head before (s ∷ steps) = let r = length_kept event head (event_after (event s.1) before) steps in omega arith

length_bits : (f : Block → List ℕ) (h : Block → List Bool) → ((b : Block) → length (f b) ≡ length (h b)) → (blocks : List Block) → length (joined f blocks) ≡ length (bits_joined h blocks)
length_bits f h same [] = refl
length_bits f h same (b ∷ blocks) = omega (arith, length-append (f b) (joined f blocks), length-append (h b) (bits_joined h blocks), same b, length_bits f h same blocks)

matches_joined : (test : ℕ → Bool) (f : Block → List ℕ) (h : Block → List Bool) → ((b : Block) → length (f b) ≡ length (h b)) → (blocks : List Block) → Matches test (joined f blocks) (bits_joined h blocks) → AllByRecursion (λ b. Matches test (f b) (h b)) blocks
matches_joined test f h same [] m = tt
matches_joined test f h same (b ∷ blocks) m = let r = matches_split test (f b) (joined f blocks) (h b) (bits_joined h blocks) (same b) m in (r.0, matches_joined test f h same blocks r.1)

none_inserted : (test : ℕ → Bool) (steps : List (ℕ × ℕ)) → Matches test (map (λ s. s.0) steps) (none steps) → AllByRecursion (λ s. test s.0 ≡ false) steps
none_inserted test [] m = tt
none_inserted test (s ∷ steps) m = (m.0, none_inserted test steps m.1)

slots_inserted : (test nodes : ℕ → Bool) (end : Bool) (slots : List (ℕ × ℕ)) → Matches test (map (λ s. s.0) slots) (inserted_slots nodes end slots) → AllByRecursion (λ s. test s.0 ≡ (not end && nodes (head_node s.1))) slots
slots_inserted test nodes end [] m = tt
slots_inserted test nodes end (s ∷ slots) m = (m.0, slots_inserted test nodes end slots m.1)

keeps_along : (event : ℕ → Event) (test : ℕ → Bool) (head : Bool) (before : Event) (steps : List (ℕ × ℕ)) → Matches test (map (λ s. s.1) steps) (kept_along event head before steps) → KeepsAlong event test head before steps
keeps_along event test head before [] m = tt
keeps_along event test head before (s ∷ steps) m = ((λ o. m.0 ∙ ap (λ k. is_occurrence k && is_owed before head) o), keeps_along event test head (event_after (event s.1) before) steps m.1)

kept_occurs : (event : ℕ → Event) (test : ℕ → Bool) (head : Bool) (before : Event) (steps : List (ℕ × ℕ)) → Matches test (map (λ s. s.1) steps) (kept_along event head before steps) → AllByRecursion (λ s. test s.1 ≡ true → event s.1 ≡ Occurs) steps
kept_occurs event test head before [] m = tt
kept_occurs event test head before (s ∷ steps) m = (
  (λ t. occurrence_is (event s.1) (and_parts (is_occurrence (event s.1)) (is_owed before head) (sym m.0 ∙ t)).0),
  kept_occurs event test head (event_after (event s.1) before) steps m.1,
)

module _ (g : ExpressionGraph) (nodes : ℕ → Bool) (f : IsExpressionGraph g) where
  abbrev pub edge_bits : List Bool
  edge_bits = nodes (head_node 0) ∷ bits_joined (inserted_in g.event nodes) g.blocks

  abbrev pub point_bits : List Bool
  point_bits = false ∷ bits_joined (kept_in g.event nodes) g.blocks

  abbrev pub lists : Placement
  lists = record { inserted = positions 0 edge_bits; kept = positions 0 point_bits }

  edges_same : (b : Block) → length (edges_of_block b) ≡ length (inserted_in g.event nodes b)
  edges_same b = omega (
    arith,
    length-append (map (λ (x : ℕ × ℕ). x.0) b.steps) (b.exit ∷ map (λ (x : ℕ × ℕ). x.0) b.slots),
    length-map b.steps (λ (x : ℕ × ℕ). x.0),
    length-map b.slots (λ (x : ℕ × ℕ). x.0),
    length-append (none b.steps) ((nodes (terminator_node b.index) && is_owed (last_event g.event Passes b.steps) (nodes (head_node b.index))) ∷ inserted_slots nodes (nodes (terminator_node b.index)) b.slots),
    length_none b.steps,
    length_slots nodes (nodes (terminator_node b.index)) b.slots,
  )

  points_same : (b : Block) → length (points_of_block b) ≡ length (kept_in g.event nodes b)
  points_same b = omega (
    arith,
    length-append (map (λ (x : ℕ × ℕ). x.1) b.steps) (b.terminator ∷ []),
    length-map b.steps (λ (x : ℕ × ℕ). x.1),
    length-append (kept_along g.event (nodes (head_node b.index)) Passes b.steps) (false ∷ []),
    length_kept g.event (nodes (head_node b.index)) Passes b.steps,
  )

  edge_lengths : length (0 ∷ joined edges_of_block g.blocks) ≡ length edge_bits
  edge_lengths = let l = length_bits edges_of_block (inserted_in g.event nodes) edges_same g.blocks in omega arith

  point_lengths : length (0 ∷ joined points_of_block g.blocks) ≡ length point_bits
  point_lengths = let l = length_bits points_of_block (kept_in g.event nodes) points_same g.blocks in omega arith

  edges_match : Matches (has lists.inserted) (0 ∷ joined edges_of_block g.blocks) edge_bits
  edges_match = counted_matches (has lists.inserted) 0 (0 ∷ joined edges_of_block g.blocks) edge_bits f.edge_order edge_lengths (has_positions 0 edge_bits)

  points_match : Matches (has lists.kept) (0 ∷ joined points_of_block g.blocks) point_bits
  points_match = counted_matches (has lists.kept) 0 (0 ∷ joined points_of_block g.blocks) point_bits f.point_order point_lengths (has_positions 0 point_bits)

  abbrev pub EdgesMatch : Block → Type 0
  EdgesMatch b = Matches (has lists.inserted) (edges_of_block b) (inserted_in g.event nodes b)

  abbrev pub PointsMatch : Block → Type 0
  PointsMatch b = Matches (has lists.kept) (points_of_block b) (kept_in g.event nodes b)

  both_match : AllByRecursion (λ b. EdgesMatch b × PointsMatch b) g.blocks
  both_match = each_both EdgesMatch PointsMatch g.blocks (matches_joined (has lists.inserted) edges_of_block (inserted_in g.event nodes) edges_same g.blocks edges_match.1) (matches_joined (has lists.kept) points_of_block (kept_in g.event nodes) points_same g.blocks points_match.1)

  edge_parts : (b : Block) → EdgesMatch b → Matches (has lists.inserted) (map (λ s. s.0) b.steps) (none b.steps) ×
      Matches (has lists.inserted) (b.exit ∷ map (λ s. s.0) b.slots) ((nodes (terminator_node b.index) && is_owed (last_event g.event Passes b.steps) (nodes (head_node b.index))) ∷ inserted_slots nodes (nodes (terminator_node b.index)) b.slots)
  edge_parts b m = matches_split (has lists.inserted) (map (λ (s : ℕ × ℕ). s.0) b.steps) (b.exit ∷ map (λ (s : ℕ × ℕ). s.0) b.slots) (none b.steps)
      ((nodes (terminator_node b.index) && is_owed (last_event g.event Passes b.steps) (nodes (head_node b.index))) ∷ inserted_slots nodes (nodes (terminator_node b.index)) b.slots)
      (omega (arith, length-map b.steps (λ (x : ℕ × ℕ). x.0), length_none b.steps)) m

  point_parts : (b : Block) → PointsMatch b → Matches (has lists.kept) (map (λ s. s.1) b.steps) (kept_along g.event (nodes (head_node b.index)) Passes b.steps) × Matches (has lists.kept) (b.terminator ∷ []) (false ∷ [])
  point_parts b m = matches_split (has lists.kept) (map (λ (s : ℕ × ℕ). s.1) b.steps) (b.terminator ∷ []) (kept_along g.event (nodes (head_node b.index)) Passes b.steps) (false ∷ [])
      (omega (arith, length-map b.steps (λ (x : ℕ × ℕ). x.1), length_kept g.event (nodes (head_node b.index)) Passes b.steps)) m.1

  pub lists_read : IsReadOffOn g nodes lists
  lists_read = record {
    entry = edges_match.0;
    each = All-from_recursion (IsReadOffIn g.event (has lists.inserted) (has lists.kept) nodes) g.blocks
        (each_weaker (λ b. EdgesMatch b × PointsMatch b) (IsReadOffIn g.event (has lists.inserted) (has lists.kept) nodes)
        (λ b m. let e = edge_parts b m.0 in record {
          steps = All-from_recursion (λ s. has lists.inserted s.0 ≡ false) b.steps (none_inserted (has lists.inserted) b.steps e.0);
          exit = e.1.0;
          slots = All-from_recursion (λ s. has lists.inserted s.0 ≡ (not (nodes (terminator_node b.index)) && nodes (head_node s.1))) b.slots (slots_inserted (has lists.inserted) nodes (nodes (terminator_node b.index)) b.slots e.1.1);
          keeps = keeps_along g.event (has lists.kept) (nodes (head_node b.index)) Passes b.steps (point_parts b m.1).0;
        }) g.blocks both_match);
  }

  abbrev pub KeptOccurs : ℕ → Type 0
  KeptOccurs v = has lists.kept v ≡ true → g.event v ≡ Occurs

  kept_occur_in : (b : Block) → PointsMatch b → AllByRecursion KeptOccurs (points_of_block b)
  kept_occur_in b m =
      let p = point_parts b m in
      let h : has lists.kept b.head ≡ false = m.0 in
      let t : has lists.kept b.terminator ≡ false = p.1.0 in (
        (λ x. cc),
        each_append KeptOccurs (map (λ (s : ℕ × ℕ). s.1) b.steps) (b.terminator ∷ []) (each_map KeptOccurs (λ (s : ℕ × ℕ). s.1) b.steps (kept_occurs g.event (has lists.kept) (nodes (head_node b.index)) Passes b.steps p.0)) ((λ x. cc), tt),
      )

  kept_occur : (v : ℕ) → v < g.points → KeptOccurs v
  kept_occur v h = counted_each KeptOccurs (0 ∷ joined points_of_block g.blocks) f.point_order
      ((λ x. let z : has lists.kept 0 ≡ false = points_match.0 in cc), each_joined KeptOccurs points_of_block g.blocks (each_weaker (λ b. EdgesMatch b × PointsMatch b) (λ b. AllByRecursion KeptOccurs (points_of_block b)) (λ b m. kept_occur_in b m.1) g.blocks both_match))
      v (let c = f.point_count in omega arith)

  pub lists_placed : IsPlacement g lists
  lists_placed = record {
    inserted_order = increases 0 lists.inserted (positions_ascend 0 edge_bits);
    edges = All-from_recursion (λ e. e < length g.arcs) lists.inserted (positions_below 0 (length g.arcs) edge_bits (let c = f.edge_count in let l = edge_lengths in omega arith));
    kept_order = increases 0 lists.kept (positions_ascend 0 point_bits);
    points = All-from_recursion (λ v. v < g.points) lists.kept (positions_below 0 g.points point_bits (let c = f.point_count in let l = point_lengths in omega arith));
    occurrences = All-from_recursion (λ v. g.event v ≡ Occurs) lists.kept (positions_hold (λ v. g.event v ≡ Occurs) 0 point_bits
        (λ i l e. subst (λ v. g.event v ≡ Occurs) (let q : i ≡ 0 + i = omega arith in q)
        (kept_occur i (let c = f.point_count in let m = point_lengths in omega arith) (ap (has lists.kept) (let q : i ≡ 0 + i = omega arith in q) ∙ has_positions 0 point_bits i ∙ e))));
  }

pub read_off_exists : ReadOffExists
read_off_exists g nodes f = (lists g nodes f, lists_placed g nodes f, lists_read g nodes f)
