use Rattle.std.proofs.Common.{◌∙◌, ap}
use Rattle.point_graph.specs.Graph.{Entry}
use Rattle.changes.specs.Changed.{inserted_on}
use Rattle.block_text.specs.ByChanges.{Given}
use Rattle.block_text.proofs.Bounds.{all_there}
use Rattle.block_text.proofs.source.Source.on_entry.Goals as goal

pub returns-clause-there : goal.returns-clause-there
returns-clause-there c =
    let g : Given = record { exprs = c.self.inside.table.now.exprs; changes = c.self.inside.changes.now; vars = c.self.inside.vars } in
    all_there g c.args.self.now Entry c.as_slice.result.now c.self.view_is c.self.invariant (c.as_slice.ensures ∙ ap (λ (x : Given). inserted_on x.changes Entry) c.self.view_is)
