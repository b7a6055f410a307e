use Rattle.std.proofs.Common.{◌≡◌}
use Rattle.transform.specs.Transformed.{defined_before}
use Rattle.transform.specs.Building.{AreNew}
use Rattle.transform.proofs.applying.new_functions.Given as goal

abbrev pub invariant-loop-index : goal.invariant-loop-index
invariant-loop-index l = record { before_is : l.before ≡ defined_before l.program.functions l.index; news : AreNew l.program.functions l.placed l.index l.functions.items }
