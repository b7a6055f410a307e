use Rattle.top_call.proofs.reporting.report_of.Goals as goal

pub report-requires-clause-placements : goal.report-requires-clause-placements
report-requires-clause-placements c =
    rw c.deref.ensures.value (c.choices_fit.ensures c.args.program.now c.args.counts.now.functions c.in_ok-placements.placements.items c.in_ok-placements.ensures)
