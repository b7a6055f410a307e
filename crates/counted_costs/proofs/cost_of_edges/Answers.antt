use Rattle.std.proofs.Common.{◌<◌, ◌^◌, ◌∙◌, ap, sym, get_or, arith}
use Rattle.placement.specs.Costs.{weight_of, edge_count}
use Rattle.placement.proofs.CostLemmas.{Weighing-start, Weighing-more, Weighing-end, Weighing-small, told_of}
use Rattle.counted_costs.proofs.cost_of_edges.Goals as goal

pub loop-edge-init : goal.loop-edge-init
loop-edge-init c = Weighing-start _ _ c.args.inserted.now

pub loop-edge-preserved : goal.loop-edge-preserved
loop-edge-preserved c =
    let number = get_or c.args.inserted.now c.loop-edge.edge-index 0 in
    let fits : get_or c.args.inserted.now c.loop-edge.edge-index 0 < 2 ^ 32 = omega (arith, c.type_inv.inserted c.loop-edge.edge-index) in
    Weighing-more _ _ c.args.inserted.now c.loop-edge.cost c.loop-edge.edge-index c.weight-cost.result c.requires.ascending c.loop-edge-test.true fits c.weight-cost.ensures.small
    (λ reached told. c.weight-cost.ensures.weight ∙ ap weight_of (c.count_of_edge.ensures reached told)
    ∙ sym (told_of (λ x. weight_of (edge_count c.args.function.now c.args.counts.now reached x.kind)) c.args.edges.now number c.edge_at-place.result c.edge_at-place.ensures))
    c.loop-edge.invariant

pub returns-clause-sum : goal.returns-clause-sum
returns-clause-sum c = Weighing-end _ _ c.args.inserted.now c.loop-edge.cost c.loop-edge.edge-index c.loop-edge-test.false c.loop-edge.invariant

pub returns-clause-small : goal.returns-clause-small
returns-clause-small c = Weighing-small _ _ c.args.inserted.now c.loop-edge.cost c.loop-edge.edge-index c.loop-edge.invariant
