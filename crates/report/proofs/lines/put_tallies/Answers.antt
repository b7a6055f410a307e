use Rattle.std.proofs.Common.{◌∙◌}
use Rattle.report.proofs.Parts.{next_line}
use Rattle.report.proofs.lines.put_tallies.Goals as goal

pub loop-number-preserved : goal.loop-number-preserved
loop-number-preserved c =
    next_line c.args.program.now c.args.function.now c.args.tallies.now c.loop-number.number c.index-tallies-number.result c.loop-number.text.written c.put_tally.new.text.written
    c.loop-number-test.true c.index-tallies-number.is c.in_ok-put_tally.ensures
    ∙ c.loop-number.invariant
