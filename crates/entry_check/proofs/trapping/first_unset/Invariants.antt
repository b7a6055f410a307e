use Rattle.std.proofs.Common.{◌<◌, ℕ, get_or}
use Rattle.flow_paths.specs.Paths.{target}
use Rattle.flow_paths.specs.Spreads.{IsSet}
use Rattle.placement.specs.Placements.{arcs_of}
use Rattle.entry_check.proofs.trapping.first_unset.Given as goal

abbrev pub invariant-loop-number : goal.invariant-loop-number
invariant-loop-number l = (k : ℕ) → k < l.number-index → IsSet l.bits (target (arcs_of l.edges) (get_or l.numbers k 0))
