use Rattle.std.proofs.lemmas.Result.{IfOk-weaker}
use Rattle.optimise.specs.Choices.{AreChoicesIn}
use Rattle.optimise.proofs.Gathered.{choices_in}
use Rattle.optimise.proofs.choices.choices_in.Goals as goal

pub returns : goal.returns
returns c =
    let m = c.args.program.now in
    let f = c.args.function.now in
    let counts = c.args.counts.now in
    IfOk-weaker c.placements_of.result _ (λ placements. AreChoicesIn m f counts placements.items)
    (λ placements named. choices_in m f counts c.in_ok-points.points c.in_ok-table.table c.in_ok-entries.entries.items placements.items
    c.in_ok-points.ensures c.in_ok-table.ensures.module_of c.in_ok-table.ensures.table c.in_ok-entries.ensures named)
    (rw c.deref.ensures.value at c.placements_of.ensures)
