use Rattle.placement.specs.declared.placements.Placement.{Placement}
use Rattle.opt_rows.proofs.Checks.{one_more_checked}
use Rattle.opt_rows.proofs.checking.placements.Goals as goal

pub loop-e-preserved : goal.loop-e-preserved
loop-e-preserved c =
    let placement : Placement = record { inserted = c.in_ok-copied.field-0; kept = c.in_ok-copied-2.field-0 } in
    rw c.in_ok-push.ensures.items (one_more_checked c.args.function.now c.args.points.now c.args.table.now c.loop-e.e c.loop-e.placements.items placement c.loop-e.invariant (c.in_ok-is_checked.ensures c.if-not-branch.false))
