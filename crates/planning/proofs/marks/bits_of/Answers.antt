use Rattle.std.proofs.Common.{subst}
use Rattle.std.proofs.lemmas.List.{take_all}
use Rattle.planning.specs.Marking.{AreBits}
use Rattle.planning.proofs.Bits.{AreBits-start, AreBits-more}
use Rattle.planning.proofs.marks.bits_of.Goals as goal

pub loop-number-init : goal.loop-number-init
loop-number-init c = AreBits-start _ _ c.in_ok-bits.ensures

pub loop-number-preserved : goal.loop-number-preserved
loop-number-preserved c = AreBits-more _ _ _ _ c.loop-number-test.true (c.requires c.loop-number.number-index 0 c.loop-number-test.true) c.loop-number.invariant

pub returns : goal.returns
returns c = subst (λ xs. AreBits c.args.count xs c.loop-number.bits.items) (take_all c.loop-number.number-index c.args.numbers.now c.loop-number-test.false) c.loop-number.invariant
