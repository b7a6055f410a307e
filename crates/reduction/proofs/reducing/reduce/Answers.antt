use Rattle.std.proofs.Common.{arith}
use Rattle.reduction.proofs.ReducedLemmas.{makes_reduced, makes_valid, numbers_reach}
use Rattle.reduction.proofs.reducing.reduce.Goals as goal

pub needed_arcs-requires-clause-within : goal.needed_arcs-requires-clause-within
needed_arcs-requires-clause-within c =
    rw (c.deref.ensures.value, c.deref-2.ensures.value) (numbers_reach c.args.reach.now c.args.full.now.net c.requires.valid c.in_ok-nodes.nodes.kept.items c.in_ok-nodes.nodes.numbers.items c.in_ok-nodes.ensures.numbers)

pub overflow_cast-result : goal.overflow_cast-result
overflow_cast-result c = omega (arith, c.len.ensures, c.in_ok-nodes.nodes.kept.ok.0, c.in_ok-nodes.ensures.few)

pub returns-clause-reduced : goal.returns-clause-reduced
returns-clause-reduced c =
    makes_reduced c.args.reach.now c.args.full.now.net c.requires.valid c.in_ok-nodes.nodes.kept c.in_ok-nodes.nodes.numbers.items c.in_ok-nodes.ensures.numbers c.in_ok-arcs.arcs.kept c.len.result (omega (arith, c.len.ensures, c.in_ok-nodes.nodes.kept.ok.0))
    (rw (c.deref.ensures.value, c.deref-2.ensures.value) at c.in_ok-arcs.ensures.kept) c.in_ok-arcs.arcs.arc_of (rw (c.deref.ensures.value, c.deref-2.ensures.value) at c.in_ok-arcs.ensures.numbers)

pub returns-clause-valid : goal.returns-clause-valid
returns-clause-valid c =
    makes_valid c.args.reach.now c.args.full.now.net c.requires.valid c.in_ok-nodes.nodes.kept c.in_ok-nodes.nodes.numbers.items c.in_ok-nodes.ensures.numbers c.in_ok-arcs.arcs.kept c.len.result (omega (arith, c.len.ensures, c.in_ok-nodes.nodes.kept.ok.0))
    (rw (c.deref.ensures.value, c.deref-2.ensures.value) at c.in_ok-arcs.ensures.kept)
