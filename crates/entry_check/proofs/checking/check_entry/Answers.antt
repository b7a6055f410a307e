use Rattle.std.proofs.Common.{Bool, subst}
use Rattle.expressions.specs.Tables.{TrapsAsTold}
use Rattle.certified.specs.Entries.{IsListed}
use Rattle.entry_check.proofs.Networks.{HasGraph, some_graph}
use Rattle.entry_check.proofs.Showing.{ends_bad, ends_plain, ends_trapping}
use Rattle.entry_check.proofs.checking.check_entry.Goals as goal

pub returns-then-traps-clause-fault : goal.returns-then-traps-clause-fault
returns-then-traps-clause-fault c =
    let t = c.args.table.now in
    let listed : IsListed c.args.function.now c.args.points.now t c.args.e c.args.entry.now = c.are_listed.ensures.0 c.if-not-are_listed.false in
    ends_trapping c.args.function.now c.args.points.now t c.args.counts.now c.args.e c.args.entry.now listed c.trapping_fault.result
    (subst (λ (b : Bool). TrapsAsTold t.exprs c.args.e b) c.if-traps.true c.traps.ensures) c.trapping_fault.ensures

pub returns-then-traps-clause-not_good : goal.returns-then-traps-clause-not_good
returns-then-traps-clause-not_good c =
    let f = c.args.function.now in
    let p = c.args.points.now in
    let t = c.args.table.now in
    let has : HasGraph f p t c.args.e = some_graph c.events_exist.ensures f p t c.args.e c.requires.defined c.requires.points c.requires.table c.requires.expression in
    ends_bad f p t c.args.counts.now c.args.e c.args.entry.now has c.trapping_fault.result (returns-then-traps-clause-fault c)

pub returns-else-traps-clause-fault : goal.returns-else-traps-clause-fault
returns-else-traps-clause-fault c =
    let t = c.args.table.now in
    let listed : IsListed c.args.function.now c.args.points.now t c.args.e c.args.entry.now = c.are_listed.ensures.0 c.if-not-are_listed.false in
    ends_plain c.args.function.now c.args.points.now t c.args.counts.now c.args.e c.args.entry.now listed c.plain_fault.result
    (subst (λ (b : Bool). TrapsAsTold t.exprs c.args.e b) c.if-traps.false c.traps.ensures) c.plain_fault.ensures

pub returns-else-traps-clause-not_good : goal.returns-else-traps-clause-not_good
returns-else-traps-clause-not_good c =
    let f = c.args.function.now in
    let p = c.args.points.now in
    let t = c.args.table.now in
    let has : HasGraph f p t c.args.e = some_graph c.events_exist.ensures f p t c.args.e c.requires.defined c.requires.points c.requires.table c.requires.expression in
    ends_bad f p t c.args.counts.now c.args.e c.args.entry.now has c.plain_fault.result (returns-else-traps-clause-fault c)
