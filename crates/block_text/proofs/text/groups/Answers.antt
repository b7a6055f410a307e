use Rattle.std.proofs.Common.{◌≡◌, ◌++◌, List, length, ap, ◌∙◌}
use Rattle.ir_types.specs.declared.syntax.Instr.{Instr}
use Rattle.point_graph.specs.Graph.{Slot}
use Rattle.block_text.specs.ByChanges.{Given, edge_groups, given}
use Rattle.block_text.proofs.ByPlan.{groups_is}
use Rattle.block_text.proofs.text.groups.Goals as goal

pub returns : goal.returns
returns c =
    let f = c.args.function.now in
    let exprs = c.args.table.now.exprs in
    let changes = c.args.changes.now in
    let edge = Slot c.args.block c.args.slot in
    let is : c.from.result ≡ edge_groups (given f exprs changes) 0 edge =
    c.from.ensures
    ∙ c.in_ok-push_slot.ensures
    ∙ ap (λ (l : List Instr). l ++ edge_groups c.source-source.result (length l) edge) c.new-instrs.ensures.items
    ∙ ap (λ (g : Given). edge_groups g 0 edge) c.source-source.ensures in
    λ plan are. groups_is f exprs changes plan are edge c.from.result is
