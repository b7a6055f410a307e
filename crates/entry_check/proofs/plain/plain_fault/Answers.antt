use Rattle.std.proofs.lemmas.Option.{MatchOption-at_none, MatchOption-at_some}
use Rattle.entry_check.proofs.Networks.{HasGraph, some_graph}
use Rattle.entry_check.proofs.Showing.{missing, plain_ends, whole}
use Rattle.entry_check.proofs.plain.plain_fault.Goals as goal

pub returns-in_default : goal.returns-in_default
returns-in_default c =
    missing c.args.function.now c.args.points.now c.args.table.now c.args.counts.now c.args.e c.args.entry.now c.in_ok-full.full c.in_ok-full.ensures
    (MatchOption-at_none _ _ c.in_default.is c.in_ok-shown.ensures)

pub returns-in-Some-2 : goal.returns-in-Some-2
returns-in-Some-2 c = (
  whole c.args.function.now c.args.points.now c.args.table.now c.args.counts.now c.args.e c.args.entry.now c.in_ok-full.full c.in_ok-full.ensures c.in-Some.shown
      (MatchOption-at_some _ _ _ c.in-Some.is c.in_ok-shown.ensures),
  MatchOption-at_some _ _ _ c.in-Some-2.is c.in_ok-point.ensures,
)

pub returns : goal.returns
returns c =
    let f = c.args.function.now in
    let p = c.args.points.now in
    let t = c.args.table.now in
    let has : HasGraph f p t c.args.e = some_graph c.events_exist.ensures f p t c.args.e c.requires.defined c.requires.points c.requires.table c.requires.expression in
    plain_ends f p t c.args.counts.now c.args.e c.args.entry.now c.in_ok-full.full c.in_ok-full.ensures c.in-Some.shown
    (MatchOption-at_some _ _ _ c.in-Some.is c.in_ok-shown.ensures) has (MatchOption-at_none _ _ c.in_default-2.is c.in_ok-point.ensures) c.proof_fault.result c.proof_fault.ensures
