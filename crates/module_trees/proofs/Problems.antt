-- Parts without a problem.
use Rattle.std.proofs.Common.{◌≡◌, Bool, false, Option, None, ap}
use Rattle.ir_types.specs.Problems.{broken, ◌>>◌}
use Rattle.ir_types.specs.declared.rules.Problem.{Problem}
use Rattle.ir_types.specs.declared.rules.Rule.{Rule}
use Rattle.ir_types.specs.declared.span.Span.{Span}

pub then_none : (p q : Option Problem) → p ≡ None → q ≡ None → (p >> q) ≡ None
then_none p q e f = λ i. e i >> f i

pub unbroken : (r : Rule) (s : Span) (b : Bool) → b ≡ false → broken r s b ≡ None
unbroken r s b e = ap (broken r s) e
