use Rattle.std.proofs.Common.{◌≡◌, take}
use Rattle.std.specs.Prelude.{filter}
use Rattle.profile.specs.Counts.{is_defined}
use Rattle.profile.proofs.Functions.{FunctionsSoFar}
use Rattle.profile.proofs.shapes.read_counts.Given as goal

abbrev pub invariant-loop-function : goal.invariant-loop-function
invariant-loop-function l = record {
  functions : l.function-items ≡ l.program.functions;
  so_far : FunctionsSoFar (filter is_defined (take l.function-index l.function-items)) l.read l.at l.counts;
}
