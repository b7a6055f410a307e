use Rattle.point_graph.specs.Graph.{Slot}
use Rattle.function_text.proofs.ByPlans.{edge_named, numbered}
use Rattle.function_text.proofs.splits.split_block.Goals as goal

pub edge_number-p-requires : goal.edge_number-p-requires
edge_number-p-requires c = numbered c.requires.plan (Slot c.args.block c.args.slot) c.requires.filled

pub returns : goal.returns
returns c = λ plan changes.
    let texts = c.in_ok-instrs.ensures plan changes in
    let named = edge_named changes (Slot c.args.block c.args.slot) c.requires.filled in
    let prefix = changes.prefix in
    let p = c.edge_number-p.ensures in
    cc
