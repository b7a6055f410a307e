use Rattle.std.proofs.Common.{◌≡◌, map}
use Rattle.std.specs.List.{range_with_len}
use Rattle.workload.specs.Names.{round_names}
use Rattle.workload.proofs.naming.names.Given as goal

abbrev pub invariant-loop-round : goal.invariant-loop-round
invariant-loop-round l = l.names.items ≡ map round_names (range_with_len 0 l.round)
