use Rattle.std.proofs.Common.{◌<◌, ◌+◌, ◌^◌, length, sym, subst, arith}
use Rattle.point_graph.specs.Graph.{Inside}
use Rattle.changes.specs.Changed.{inserted_on}
use Rattle.block_text.specs.ByChanges.{Given}
use Rattle.block_text.proofs.Bounds.{inside_small}
use Rattle.block_text.proofs.source.Source.inside_number.Goals as goal

pub overflow_cast-result : goal.overflow_cast-result
overflow_cast-result c =
    let g : Given = record { exprs = c.self.inside.table.now.exprs; changes = c.self.inside.changes.now; vars = c.self.inside.vars } in
    let some = subst (λ (x : Given). 0 < length (inserted_on x.changes (Inside c.args.block c.args.place))) (sym c.self.view_is) c.requires in
    let small : c.in-Some.changes.now.first_edge + c.args.place < 2 ^ 32 = inside_small g c.args.block c.args.place c.in-Some.changes.now c.self.invariant some c.in-Some.ensures in
    omega (arith, small)

pub overflow_add-result : goal.overflow_add-result
overflow_add-result c =
    let g : Given = record { exprs = c.self.inside.table.now.exprs; changes = c.self.inside.changes.now; vars = c.self.inside.vars } in
    let some = subst (λ (x : Given). 0 < length (inserted_on x.changes (Inside c.args.block c.args.place))) (sym c.self.view_is) c.requires in
    let small : c.in-Some.changes.now.first_edge + c.args.place < 2 ^ 32 = inside_small g c.args.block c.args.place c.in-Some.changes.now c.self.invariant some c.in-Some.ensures in
    omega (arith, small)
