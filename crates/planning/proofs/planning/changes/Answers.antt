use Rattle.std.proofs.Common.{[], ◌∙◌}
use Rattle.planning.proofs.Lists.{read_as}
use Rattle.planning.proofs.Ending.{are_changes_of, some_edge}
use Rattle.planning.proofs.planning.changes.Goals as goal

pub returns : goal.returns
returns c =
    rw (c.from.ensures, c.from-2.ensures)
    (are_changes_of c.args.function.now c.args.points.now c.args.table.now c.args.placements.now c.requires.defined c.requires.points c.requires.table c.requires.placements
    c.in_ok-moved.moved c.in_ok-moved.ensures c.in_ok-changed.changed.items c.in_ok-changed.ensures c.in_ok-entry.entry
    (c.in_ok-entry.ensures ∙ read_as c.as_slice.result.now c.in_ok-moved.moved.edges.items 0 c.index-as_slice-0.result [] c.as_slice.ensures.value
    (some_edge c.args.function.now c.args.points.now c.requires.points _ c.in_ok-moved.ensures.edge_count) c.index-as_slice-0.is)
    c.in_ok-prefix.prefix c.in_ok-prefix.ensures)
