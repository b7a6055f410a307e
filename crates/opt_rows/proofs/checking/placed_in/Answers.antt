use Rattle.std.proofs.Common.{length}
use Rattle.opt_rows.specs.Checked.{AreChecked}
use Rattle.opt_rows.proofs.Checks.{MoveLaw, sound_checked}
use Rattle.opt_rows.proofs.checking.placed_in.Goals as goal

pub returns-in-Some : goal.returns-in-Some
returns-in-Some c =
    let f = c.args.function.now in
    let p = c.in_ok-points.points in
    let t = c.in_ok-table.table in
    let list = c.in-Some.placements.items in
    let law : MoveLaw = record { move_of = c.placed_is_move.ensures } in
    let are : AreChecked f p t (length t.exprs) list = rw c.in-Some.is at c.in_ok-placements.ensures in
    rw c.from.ensures (sound_checked law c.args.program.now f (record { points = p; table = t; placements = list }) c.requires.defined c.in_ok-points.ensures c.in_ok-table.ensures.module_of c.in_ok-table.ensures.table are
    (rw c.deref.ensures.value at (c.are_few.ensures c.if-are_few.true)))
