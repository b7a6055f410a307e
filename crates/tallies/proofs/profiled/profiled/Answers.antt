use Rattle.std.proofs.Common.{◌∙◌, ◌/◌, ap, arith}
use Rattle.placement.specs.declared.costs.TheConstants.{BASE}
use Rattle.tallies.proofs.Parts.{few_places, count_le, part_is}
use Rattle.tallies.proofs.profiled.profiled.Goals as goal

pub returns-clause-sum : goal.returns-clause-sum
returns-clause-sum c reached told =
    let f = c.args.function.now in
    let p = c.args.points.now in
    let placement = c.args.placement.now in
    ap (λ cost. cost / BASE) (c.cost_by_blocks.ensures.cost reached told) ∙ part_is f c.args.counts.now reached p placement (few_places f p placement c.requires.points c.requires.placement)

pub returns-clause-small : goal.returns-clause-small
returns-clause-small c =
    let f = c.args.function.now in
    let p = c.args.points.now in
    let placement = c.args.placement.now in
    let few = few_places f p placement c.requires.points c.requires.placement in
    let reached = c.requires.points.blocks.test in
    let is = ap (λ cost. cost / BASE) (c.cost_by_blocks.ensures.cost reached c.requires.points.blocks.told) ∙ part_is f c.args.counts.now reached p placement few in
    omega (arith, is, count_le f c.args.counts.now reached p placement few)
