use Rattle.transform.proofs.Alone.{PlanLaws, defined_length, fits_alone}
use Rattle.planning.specs.PlanOf.{AreChangesOf}
use Rattle.transform.proofs.applying.changed_function.Goals as goal

pub new_function-requires-clause-plan : goal.new_function-requires-clause-plan
new_function-requires-clause-plan c =
    let laws : PlanLaws = record { is_plan = c.plan_is_plan.ensures; is_small = c.plan_is_small.ensures; small_fits = c.small_plans_fit.ensures } in
    let f = c.args.function.now in
    let q = c.args.placed.now in
    let placed = c.requires.sound.placed in
    let of : AreChangesOf f q.points q.table q.placements c.in_ok-changes.changes = rw c.as_slice.ensures at c.in_ok-changes.ensures in
    record {
      plan = of.plan;
      is_plan = laws.is_plan f q.points q.table q.placements of.plan (defined_length f c.requires.defined) placed.are_points placed.is_table c.requires.limits placed.placements of.plan_of;
      are_changes = of.are_changes;
      few = fits_alone laws q.table.module_of f q of.plan c.requires of.plan_of;
    }
