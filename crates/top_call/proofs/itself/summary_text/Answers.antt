use Rattle.top_call.proofs.itself.summary_text.Goals as goal

pub summary-requires-clause-placements : goal.summary-requires-clause-placements
summary-requires-clause-placements c =
    rw c.deref-3.ensures.value (c.choices_fit.ensures c.in-Ok-module_of.program c.in-Ok-counts_of.counts.functions c.in_ok-placements.placements.items c.in_ok-placements.ensures.chosen.chosen)
