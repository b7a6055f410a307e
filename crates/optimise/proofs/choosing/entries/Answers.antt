use Rattle.std.proofs.Common.{◌≡◌, length, subst, arith}
use Rattle.optimise.specs.Placing.{AreChosenEntries}
use Rattle.optimise.proofs.Chosen.{none_chosen, one_more}
use Rattle.optimise.proofs.choosing.entries.Goals as goal

pub loop-e-init : goal.loop-e-init
loop-e-init c = rw c.new-entries.ensures.items (none_chosen c.args.function.now c.args.points.now c.args.table.now c.args.counts.now)

pub loop-e-preserved : goal.loop-e-preserved
loop-e-preserved c =
    rw c.in_ok-push.ensures.items
    (one_more c.args.function.now c.args.points.now c.args.table.now c.args.counts.now c.loop-e.e c.loop-e.entries.items c.in_ok-choice.field-0 c.loop-e.invariant c.in_ok-choice.ensures)

pub returns : goal.returns
returns c =
    let n : c.loop-e.e ≡ length c.args.table.now.exprs = omega arith in
    subst (λ n. AreChosenEntries c.args.function.now c.args.points.now c.args.table.now c.args.counts.now n c.loop-e.entries.items) n c.loop-e.invariant
