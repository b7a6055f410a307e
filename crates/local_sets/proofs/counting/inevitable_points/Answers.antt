use Rattle.local_sets.proofs.CountLemmas.{Counting-start}
use Rattle.local_sets.proofs.counting.inevitable_points.Goals as goal

pub visit_all-requires-clause-counting : goal.visit_all-requires-clause-counting
visit_all-requires-clause-counting c =
    Counting-start c.args.arcs.now c.args.events.now c.in_ok-bits.bits.items c.in_ok-left.left.items c.in_ok-pending.pending.items c.in_ok-bits.ensures c.in_ok-left.ensures c.in_ok-pending.ensures
