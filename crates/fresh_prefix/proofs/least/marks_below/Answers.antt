use Rattle.std.proofs.Common.{subst}
use Rattle.std.proofs.lemmas.List.{take_all}
use Rattle.fresh_prefix.specs.Missing.{AreMarks}
use Rattle.fresh_prefix.proofs.Marks.{AreMarks-start, AreMarks-more, AreMarks-other}
use Rattle.fresh_prefix.proofs.least.marks_below.Goals as goal
use Rattle.fresh_prefix.proofs.least.marks_below.Goals.{then-index-count, else-index-count}

pub loop-number-init : goal.loop-number-init
loop-number-init c = AreMarks-start _ _ c.in_ok-marks.ensures

pub loop-number-preserved : goal.loop-number-preserved
loop-number-preserved c =
    elim c.if-index-count.branch [
      | then-index-count w ↦ rw w.marks-is (AreMarks-more _ _ _ _ c.loop-number-test.true c.loop-number.invariant w.if-index-count.true)
      | else-index-count w ↦ rw w.marks-is (AreMarks-other _ _ _ _ c.loop-number-test.true c.loop-number.invariant w.if-index-count.false)
    ]

pub returns : goal.returns
returns c = subst (λ xs. AreMarks c.args.count xs c.loop-number.marks.items) (take_all c.loop-number.number-index c.args.numbers.now c.loop-number-test.false) c.loop-number.invariant
