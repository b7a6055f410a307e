use Rattle.point_graph.specs.Numbers.{KeepsRules}
use Rattle.large_plans.proofs.Adding.{adds_instructions}
use Rattle.large_plans.proofs.insertions_add_instructions.Goals as goal

pub returns : goal.returns
returns c f p t placements plan defined are table given ascend is =
    let keeps : KeepsRules f = record { module_of = t.module_of; rules = table.rules } in
    adds_instructions f p defined (c.points_are_told.ensures f p keeps defined are) t placements given ascend plan is
