use Rattle.std.proofs.Common.{◌≡◌, IsTrue, false, refl, sym, subst}
use Rattle.certified.specs.Certified.{AreFew, placements_in}
use Rattle.optimise.specs.Choice.{AreEachChosen}
use Rattle.optimise.proofs.Chosen.{all_chosen, chosen_in, crowded}
use Rattle.optimise.proofs.choosing.chosen_in.Goals as goal

never : IsTrue false → ⊥
never told = cc

pub returns-then-not-are_few-clause-unplaced : goal.returns-then-not-are_few-clause-unplaced
returns-then-not-are_few-clause-unplaced c =
    let f = c.args.function.now in
    let p = c.in_ok-points.points in
    let t = c.in_ok-table.table in
    let entries = c.in_ok-entries.entries.items in
    let named : c.in_ok-placements.placements.items ≡ placements_in entries = rw c.deref.ensures.value at c.in_ok-placements.ensures in
    crowded c.args.program.now f c.args.counts.now p t c.in_ok-placements.placements.items
    c.in_ok-points.ensures c.in_ok-table.ensures.module_of c.in_ok-table.ensures.table
    (subst (AreEachChosen f p t c.args.counts.now) (sym named) (all_chosen f p t c.args.counts.now entries c.in_ok-entries.ensures))
    (λ few. never (subst IsTrue c.if-not-are_few.true (c.are_few.ensures.1 (subst AreFew (sym c.deref-2.ensures.value) few))))

pub returns-clause-chosen : goal.returns-clause-chosen
returns-clause-chosen c =
    rw (c.from.ensures, c.from-2.ensures) (chosen_in c.args.program.now c.args.function.now c.args.counts.now c.in_ok-points.points c.in_ok-table.table c.in_ok-entries.entries.items c.in_ok-placements.placements.items
    c.in_ok-points.ensures c.in_ok-table.ensures.module_of c.in_ok-table.ensures.table c.in_ok-entries.ensures (rw c.deref.ensures.value at c.in_ok-placements.ensures)
    (subst AreFew c.deref-2.ensures.value (c.are_few.ensures.0 (subst IsTrue (sym c.if-not-are_few.false) refl))))
