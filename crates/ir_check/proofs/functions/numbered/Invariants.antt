use Rattle.std.proofs.Common.{◌≡◌, ◌++◌, drop}
use Rattle.ir_types.specs.ModuleOf.{numbered_from}
use Rattle.ir_check.proofs.functions.numbered.Given as goal

abbrev pub invariant-loop-index : goal.invariant-loop-index
invariant-loop-index l = l.made.items ++ numbered_from l.index (drop l.index l.params) ≡ numbered_from 0 l.params
