-- The arcs of the reached blocks and what is paid for them, by their sets and the counts of their slots.
use Rattle.std.proofs.Common.{ℕ, suc, ◌+◌, ◌*◌, Bool, List, [], ◌∷◌, ◌++◌, map}
use Rattle.ir_types.specs.declared.syntax.Function.{Function}
use Rattle.profile.specs.declared.counts.FnCounts.{FnCounts}
use Rattle.profile.specs.Counts.{entering}
use Rattle.flow_net.specs.declared.Arc.{Arc}
use Rattle.local_sets.specs.declared.blocks.BlockSets.{BlockSets}
use Rattle.placement.specs.Costs.{weight_of}
use Rattle.function_graphs.specs.Graphs.{place_in}
use Rattle.block_counts.specs.Counts.{targets_of, slot_counts}
use Rattle.reduction.specs.BlockArcs.{block_arcs}

module _ (f : Function) (c : FnCounts) (reached : ℕ → Bool) (blocks : List ℕ) where
  -- of the block of a number, at this place among the reached ones
  abbrev pub arcs_at : ℕ → ℕ → BlockSets → List Arc
  arcs_at index b sets = block_arcs sets index (weight_of (entering reached f c b)) (map (place_in blocks) (targets_of f b)) (slot_counts f c b)

  -- of the blocks from this place on
  abbrev pub arcs_along : ℕ → List ℕ → List BlockSets → List Arc
  arcs_along index [] _ = []
  arcs_along index (b ∷ bs) [] = []
  arcs_along index (b ∷ bs) (s ∷ sets) = arcs_at index b s ++ arcs_along (suc index) bs sets

module _ (f : Function) (c : FnCounts) (reached : ℕ → Bool) where
  -- what the forced occurrences of these blocks weigh
  abbrev pub paid_along : List ℕ → List BlockSets → ℕ
  paid_along [] _ = 0
  paid_along (b ∷ bs) [] = 0
  paid_along (b ∷ bs) (s ∷ sets) = weight_of (entering reached f c b) * s.forced + paid_along bs sets
