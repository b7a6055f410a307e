-- The arcs of a block, by its sets and the counts of its slots.
use Rattle.std.specs.Prelude.{◌++◌, ℕ, List, map, slice_index}
use Rattle.std.specs.List.{zip}
use Rattle.flow_net.specs.declared.Arc.{Arc}
use Rattle.local_sets.specs.declared.blocks.BlockSets.{BlockSets}
use Rattle.placement.specs.Costs.{weight_of}
use Rattle.best_placement.specs.BlockNetwork.{first_arcs, last_arcs, head_node, terminator_node}

-- the places of blocks by a table
abbrev pub places_by : List ℕ → List ℕ → List ℕ
places_by places blocks = map (λ b. slice_index places b) blocks

-- the arcs of slots of the block at this place, which lead to the blocks at these places and have these counts
abbrev pub counted_arcs : ℕ → List ℕ → List ℕ → List Arc
counted_arcs index targets counts = map (λ s. record { from = terminator_node index; to = head_node s.0; cap = weight_of s.1 }) (zip targets counts)

-- those of its first and its last event and of its slots
abbrev pub block_arcs : BlockSets → ℕ → ℕ → List ℕ → List ℕ → List Arc
block_arcs sets index weight targets counts = first_arcs sets.first index weight ++ last_arcs sets.last index weight ++ counted_arcs index targets counts
