use Rattle.std.proofs.Common.{◌<◌, ◌^◌, ◌∙◌, ap, sym, get_or, arith}
use Rattle.placement.specs.Costs.{weight_of, point_count}
use Rattle.placement.proofs.CostLemmas.{Weighing-start, Weighing-more, Weighing-end, Weighing-small, told_of}
use Rattle.counted_costs.proofs.cost_of_points.Goals as goal

pub loop-point-init : goal.loop-point-init
loop-point-init c = Weighing-start _ _ c.args.kept.now

pub loop-point-preserved : goal.loop-point-preserved
loop-point-preserved c =
    let number = get_or c.args.kept.now c.loop-point.point-index 0 in
    let fits : get_or c.args.kept.now c.loop-point.point-index 0 < 2 ^ 32 = omega (arith, c.type_inv.kept c.loop-point.point-index) in
    Weighing-more _ _ c.args.kept.now c.loop-point.cost c.loop-point.point-index c.weight-cost.result c.requires.ascending c.loop-point-test.true fits c.weight-cost.ensures.small
    (λ reached told. c.weight-cost.ensures.weight ∙ ap weight_of (c.count_of_point.ensures reached told)
    ∙ sym (told_of (λ x. weight_of (point_count c.args.function.now c.args.counts.now reached x)) c.args.points.now number c.point_at-place.result c.point_at-place.ensures))
    c.loop-point.invariant

pub returns-clause-sum : goal.returns-clause-sum
returns-clause-sum c = Weighing-end _ _ c.args.kept.now c.loop-point.cost c.loop-point.point-index c.loop-point-test.false c.loop-point.invariant

pub returns-clause-small : goal.returns-clause-small
returns-clause-small c = Weighing-small _ _ c.args.kept.now c.loop-point.cost c.loop-point.point-index c.loop-point.invariant
