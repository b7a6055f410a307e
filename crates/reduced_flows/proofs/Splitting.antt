-- How the arcs of a block network join the nodes that are wanted, available or neither.
use Rattle.std.proofs.Common.{◌≡◌, ◌<◌, ◌⊎◌, ◌↔◌, ℕ, Bool, true, false, List, [], ◌∷◌, ◌++◌, All, length, map, refl, sym, ◌∙◌, subst, inl, inr, arith}
use Rattle.std.specs.List.{AllByRecursion}
use Rattle.std.proofs.lemmas.List.Elements.{All-contains, recursion_from_All}
use Rattle.flow_net.specs.declared.Arc.{Arc}
use Rattle.expressions.specs.declared.syntax.Event.{Event}
use Rattle.expressions.specs.declared.syntax.Event.TheVariants.{Occurs, Kills, Bars, Passes}
use Rattle.flow_paths.specs.Paths.{Connects}
use Rattle.local_sets.specs.Reaching.{IsAvailable, IsWanted}
use Rattle.best_placement.specs.Blocks.{Block, IsBlock, IsSlot, joined, edges_of_block, points_of_block}
use Rattle.best_placement.specs.BlockNetwork.{head_node, terminator_node, first_event, last_event, first_arcs, last_arcs, slot_arcs, arcs_of_blocks, network_arcs}
use Rattle.best_placement.specs.Laws.{ExpressionGraph, IsExpressionGraph}
use Rattle.best_placement.specs.Reduction.{IsSplit, Splits}
use Rattle.best_placement.proofs.Lists.{each_both, each_weaker, each_append, each_split, each_unmap, each_unjoined, counted_below}
use Rattle.reduced_flows.proofs.Along.{AreEvents, IsQuiet, wanted_first, wanted_over, wanted_across, available_over, available_across, not_entered, not_behind_last_kill}

module _ (g : ExpressionGraph) (graph : IsExpressionGraph g) (Is : ℕ → Event → Type 0) (are : AreEvents Is g.event) (part free : ℕ → Bool) (split : IsSplit part free) where
  abbrev A : ℕ → Type 0
  A v = IsAvailable g.arcs Is v

  abbrev W : ℕ → Type 0
  W v = IsWanted g.arcs Is v

  -- the node is free where the point is available, and in the part where it is wanted and not available
  pub record IsTold (node point : ℕ) : Type 0 where
    pub free_is : (free node ≡ true) ↔ A point
    pub part_wanted : part node ≡ true → W point
    pub wanted_part : W point → (part node ≡ true) ⊎ (free node ≡ true)

  abbrev pub AreTold : Block → Type 0
  AreTold b = IsTold (head_node b.index) b.head × IsTold (terminator_node b.index) b.terminator

  -- it is split, and doesn't lead to the source
  abbrev pub IsSound : Arc → Type 0
  IsSound a = Splits part free a × (a.to ≡ 0 → ⊥)

  module _ (told : All AreTold g.blocks) where
    abbrev IsEdge : ℕ → Type 0
    IsEdge e = e < length g.arcs

    -- what is known of a block
    record IsKnown (b : Block) : Type 0 where
      pub is_block : IsBlock g.arcs g.blocks g.event g.edge_weight g.point_weight b
      pub edges : AllByRecursion IsEdge (edges_of_block b)
      pub reached : Connects g.arcs 0 b.head
      pub quiet_end : IsQuiet (g.event b.terminator)
      pub ends : AreTold b

    module _ (b : Block) (known : IsKnown b) where
      edge_parts : AllByRecursion IsEdge (map (λ s. s.0) b.steps) × AllByRecursion IsEdge (b.exit ∷ map (λ s. s.0) b.slots)
      edge_parts = each_split IsEdge (map (λ s. s.0) b.steps) (b.exit ∷ map (λ s. s.0) b.slots) known.edges

      steps_inside : AllByRecursion (λ s. s.0 < length g.arcs) b.steps
      steps_inside = each_unmap IsEdge (λ s. s.0) b.steps edge_parts.0

      slots_inside : AllByRecursion (λ s. s.0 < length g.arcs) b.slots
      slots_inside = each_unmap IsEdge (λ s. s.0) b.slots edge_parts.1.1

      -- ---- from the head to the terminator

      head_no_kill : g.event b.head ≡ Kills → ⊥
      head_no_kill k = let same : Passes ≡ Kills = sym known.is_block.head_passes ∙ k in cc

      head_no_occurrence : g.event b.head ≡ Occurs → ⊥
      head_no_occurrence o = let same : Passes ≡ Occurs = sym known.is_block.head_passes ∙ o in cc

      wanted_inside : first_event g.event b.steps ≡ Occurs → W b.head
      wanted_inside first = wanted_first g.arcs Is g.event are b.head b.steps head_no_kill known.is_block.leads steps_inside first

      wanted_through : IsQuiet (first_event g.event b.steps) → W b.terminator → W b.head
      wanted_through quiet w = wanted_across g.arcs Is g.event are b.exit b.terminator edge_parts.1.0 known.is_block.leaves.1 b.head b.steps head_no_kill known.is_block.leads steps_inside known.is_block.leaves.0 quiet w

      available_through : IsQuiet (first_event g.event b.steps) → A b.terminator → A b.head
      available_through quiet a = available_across g.arcs Is g.event are b.exit b.terminator edge_parts.1.0 known.is_block.leaves.1 b.head b.steps head_no_occurrence known.is_block.leads steps_inside known.is_block.leaves.0 quiet a

      lost_behind : last_event g.event Passes b.steps ≡ Kills → A b.terminator → ⊥
      lost_behind last a = not_behind_last_kill g.arcs Is g.event are b.exit b.terminator edge_parts.1.0 known.is_block.leaves.1 b.head b.steps known.reached known.is_block.leads steps_inside known.is_block.leaves.0 last a

      -- ---- the arcs of the block

      across_sound : (w : ℕ) → IsQuiet (first_event g.event b.steps) → IsSound (record { from = head_node b.index; to = terminator_node b.index; cap = w })
      across_sound w quiet = (
        record {
          back = λ h. known.ends.0.free_is.1 (available_through quiet (known.ends.1.free_is.0 h));
          wants = λ h. elim h [
            | inl sink ↦ absurd (omega (arith, sink))
            | inr inside ↦ inr (known.ends.0.wanted_part (wanted_through quiet (known.ends.1.part_wanted inside)))
          ];
          leaves = λ e. omega arith;
        },
        λ e. omega arith,
      )

      occurrence_sound : (w : ℕ) → first_event g.event b.steps ≡ Occurs → IsSound (record { from = head_node b.index; to = 1; cap = w })
      occurrence_sound w first = (
        record {
          back = λ h. let outside : free 1 ≡ false = split.sink.1 in cc;
          wants = λ h. inr (known.ends.0.wanted_part (wanted_inside first));
          leaves = λ e. omega arith;
        },
        λ e. omega arith,
      )

      kill_sound : (w : ℕ) → last_event g.event Passes b.steps ≡ Kills → IsSound (record { from = 0; to = terminator_node b.index; cap = w })
      kill_sound w last = (
        record { back = λ h. absurd (lost_behind last (known.ends.1.free_is.0 h)); wants = λ h. inl refl; leaves = λ e. omega arith },
        λ e. omega arith,
      )

      first_sound : (k : Event) (w : ℕ) → first_event g.event b.steps ≡ k → AllByRecursion IsSound (first_arcs k b.index w)
      first_sound Occurs w is = (occurrence_sound w is, tt)
      first_sound Kills w is = tt
      first_sound Bars w is = (across_sound w ((λ e. let same : Bars ≡ Occurs = sym is ∙ e in cc), (λ e. let same : Bars ≡ Kills = sym is ∙ e in cc)), tt)
      first_sound Passes w is = (across_sound w ((λ e. let same : Passes ≡ Occurs = sym is ∙ e in cc), (λ e. let same : Passes ≡ Kills = sym is ∙ e in cc)), tt)

      last_sound : (k : Event) (w : ℕ) → last_event g.event Passes b.steps ≡ k → AllByRecursion IsSound (last_arcs k b.index w)
      last_sound Occurs w is = tt
      last_sound Kills w is = (kill_sound w is, tt)
      last_sound Bars w is = tt
      last_sound Passes w is = tt

    -- the head to which a slot leads
    head_told : (from edge index : ℕ) (s : IsSlot g.arcs g.blocks from edge index) → IsTold (head_node index) s.block.head
    head_told from edge index s = subst (λ i. IsTold (head_node i) s.block.head) s.has_index (All-contains AreTold g.blocks s.block told s.is_block).0

    slot_sound : (b : Block) → IsKnown b → (edge index w : ℕ) → IsSlot g.arcs g.blocks b.terminator edge index → IsEdge edge → IsSound (record { from = terminator_node b.index; to = head_node index; cap = w })
    slot_sound b known edge index w s lt =
        let there = head_told b.terminator edge index s in (
          record {
            back = λ h. known.ends.1.free_is.1 (available_over g.arcs Is g.event are edge b.terminator s.block.head lt s.from s.to known.quiet_end.0 (there.free_is.0 h));
            wants = λ h. elim h [
              | inl sink ↦ absurd (omega (arith, sink))
              | inr inside ↦ inr (known.ends.1.wanted_part (wanted_over g.arcs Is g.event are edge b.terminator s.block.head lt s.from s.to known.quiet_end.1 (there.part_wanted inside)))
            ];
            leaves = λ e. omega arith;
          },
          λ e. omega arith,
        )

    slots_sound : (b : Block) → IsKnown b → (slots : List (ℕ × ℕ)) → AllByRecursion (λ s. IsSlot g.arcs g.blocks b.terminator s.0 s.1) slots → AllByRecursion (λ s. s.0 < length g.arcs) slots → AllByRecursion IsSound (slot_arcs g.edge_weight b.index slots)
    slots_sound b known [] are_slots inside = tt
    slots_sound b known (s ∷ slots) are_slots inside = (slot_sound b known s.0 s.1 (g.edge_weight s.0) are_slots.0 inside.0, slots_sound b known slots are_slots.1 inside.1)

    entry_sound : (w : ℕ) → IsEdge 0 → IsSound (record { from = 0; to = head_node 0; cap = w })
    entry_sound w lt =
        let s = graph.entry_to in (
          record {
            back = λ h. absurd (not_entered g.arcs Is g.event are 0 s.block.head lt s.from s.to graph.start_passes ((head_told 0 0 0 s).free_is.0 h));
            wants = λ h. inl refl;
            leaves = λ e. omega arith;
          },
          λ e. omega arith,
        )

    -- ---- all arcs

    blocks_sound : (list : List Block) → AllByRecursion IsKnown list → AllByRecursion IsSound (arcs_of_blocks g.event g.edge_weight list)
    blocks_sound [] known = tt
    blocks_sound (b ∷ list) known =
        let first = first_arcs (first_event g.event b.steps) b.index b.weight in
        let last = last_arcs (last_event g.event Passes b.steps) b.index b.weight in
        let slots = slot_arcs g.edge_weight b.index b.slots in
        each_append IsSound (first ++ last ++ slots) (arcs_of_blocks g.event g.edge_weight list)
        (each_append IsSound (first ++ last) slots
        (each_append IsSound first last (first_sound b known.0 (first_event g.event b.steps) b.weight refl) (last_sound b known.0 (last_event g.event Passes b.steps) b.weight refl))
        (slots_sound b known.0 b.slots (recursion_from_All (λ s. IsSlot g.arcs g.blocks b.terminator s.0 s.1) b.slots known.0.is_block.slots) (slots_inside b known.0)))
        (blocks_sound list known.1)

    all_edges : AllByRecursion IsEdge (0 ∷ joined edges_of_block g.blocks)
    all_edges = counted_below 0 (length g.arcs) (0 ∷ joined edges_of_block g.blocks) graph.edge_order (omega (arith, graph.edge_count))

    all_points : AllByRecursion (λ v. v < g.points) (0 ∷ joined points_of_block g.blocks)
    all_points = counted_below 0 g.points (0 ∷ joined points_of_block g.blocks) graph.point_order (omega (arith, graph.point_count))

    all_known : AllByRecursion IsKnown g.blocks
    all_known =
        let B : Block → Type 0 = IsBlock g.arcs g.blocks g.event g.edge_weight g.point_weight in
        let E : Block → Type 0 = λ b. AllByRecursion IsEdge (edges_of_block b) in
        let P : Block → Type 0 = λ b. AllByRecursion (λ v. v < g.points) (points_of_block b) in
        let Q : Block → Type 0 = λ b. IsQuiet (g.event b.terminator) in
        each_weaker (λ b. (B b × E b) × (P b × (Q b × AreTold b))) IsKnown
        (λ b h. record { is_block = h.0.0; edges = h.0.1; reached = graph.reached b.head h.1.0.0; quiet_end = h.1.1.0; ends = h.1.1.1 }) g.blocks
        (each_both (λ b. B b × E b) (λ b. P b × (Q b × AreTold b)) g.blocks
        (each_both B E g.blocks (recursion_from_All B g.blocks graph.each) (each_unjoined IsEdge edges_of_block g.blocks all_edges.1))
        (each_both P (λ b. Q b × AreTold b) g.blocks (each_unjoined (λ v. v < g.points) points_of_block g.blocks all_points.1)
        (each_both Q AreTold g.blocks (recursion_from_All Q g.blocks graph.terminators) (recursion_from_All AreTold g.blocks told))))

    pub network_sound : AllByRecursion IsSound (network_arcs g.event g.edge_weight g.blocks)
    network_sound = (entry_sound (g.edge_weight 0) all_edges.0, blocks_sound g.blocks all_known)
