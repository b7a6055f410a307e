use Rattle.std.proofs.Common.{subst}
use Rattle.std.proofs.lemmas.List.{take_all}
use Rattle.planning.specs.Marking.{IsSetOf}
use Rattle.planning.proofs.Sets.{IsSetOf-start, IsSetOf-more}
use Rattle.planning.proofs.marks.set_of.Goals as goal

pub loop-number-init : goal.loop-number-init
loop-number-init c = IsSetOf-start _ c.new-set.ensures.empty

pub loop-number-preserved : goal.loop-number-preserved
loop-number-preserved c = rw c.in_ok-insert.ensures.keys (IsSetOf-more _ _ _ c.loop-number-test.true c.loop-number.invariant)

pub returns : goal.returns
returns c = subst (λ xs. IsSetOf xs c.loop-number.set.keys) (take_all c.loop-number.number-index c.args.numbers.now c.loop-number-test.false) c.loop-number.invariant
