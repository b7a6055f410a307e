use Rattle.optimise.proofs.Showing.{best_entry}
use Rattle.optimise.proofs.choosing.best_counted.Goals as goal

pub returns : goal.returns
returns g c =
    rw (c.from.ensures, c.from-2.ensures) (best_entry c.args.function.now c.args.points.now c.args.table.now c.args.e c.requires.points c.args.counts.now c.in_ok-solved.solved c.in_ok-ranks.ranks.items
    (rw c.deref.ensures.value at c.in_ok-ranks.ensures.ranks) c.in_ok-ranks.ensures.small c.in_ok-solved.ensures.best c.in_ok-solved.ensures.shown c.in_ok-solved.ensures.solved)
