use Rattle.std.proofs.Common.{◌∙◌, sym}
use Rattle.std.proofs.lemmas.Bool.{false≢true}
use Rattle.std.proofs.lemmas.Option.{MatchOption-at_none}
use Rattle.function_graphs.specs.Graphs.{graph_of}
use Rattle.entry_check.proofs.Showing.{certified, cost_is, costs_the_flow, differ, read_by_side, sum_is}
use Rattle.entry_check.proofs.proof.proof_fault.Goals as goal

pub returns-in-Some-cost_and_sum : goal.returns-in-Some-cost_and_sum
returns-in-Some-cost_and_sum c reached event is =
    let f = c.args.function.now in
    let p = c.args.points.now in
    let t = c.args.table.now in
    let x = c.args.e in
    let counts = c.args.counts.now in
    let full = c.args.full.now in
    let placement = c.args.placement.now in
    let given = MatchOption-at_none _ _ c.in_default.is c.in_ok-fault.ensures in
    let network = c.requires.network in
    let agree = c.placements_agree.ensures in
    let flow = c.args.shown.now.flow in
    let cost = c.in-Some-cost_and_sum.cost in
    let sum = c.in-Some-cost_and_sum.sum in
    let pair = c.in-Some-cost_and_sum.ensures in (
      given.0,
      given.1,
      cost_is f p t counts x full network agree placement flow cost (λ r told. (pair r told).0) reached event is,
      sum_is f p t counts x full network agree placement flow sum (λ r told. (pair r told).1) reached event is,
      differ f p t counts x full network agree placement flow cost sum (λ r told. (pair r told).2) reached event is,
    )

pub returns-then-check_places : goal.returns-then-check_places
returns-then-check_places c reached event is =
    let f = c.args.function.now in
    let p = c.args.points.now in
    let t = c.args.table.now in
    let counts = c.args.counts.now in
    let full = c.args.full.now in
    let shown = c.args.shown.now in
    let placement = c.args.placement.now in
    let given = MatchOption-at_none _ _ c.in_default.is c.in_ok-fault.ensures in
    let falls = MatchOption-at_none _ _ c.in_default-2.is c.in_ok-node.ensures in
    certified (graph_of f p counts reached event) full.net shown c.requires.places placement c.in_ok-sink_side.sink_side.items (rw c.deref.ensures.value at c.in_ok-sink_side.ensures.each)
    given.0 given.1
    (costs_the_flow f p t counts c.args.e full c.requires.network c.placements_agree.ensures placement shown.flow c.in_default-cost_and_sum.ensures reached event is)
    falls
    (rw c.deref-2.ensures.value at ((c.check_places.ensures counts reached event is).0 c.if-check_places.true))

pub returns : goal.returns
returns c reached event is =
    let f = c.args.function.now in
    let p = c.args.points.now in
    let t = c.args.table.now in
    let counts = c.args.counts.now in
    let full = c.args.full.now in
    let shown = c.args.shown.now in
    let placement = c.args.placement.now in
    let given = MatchOption-at_none _ _ c.in_default.is c.in_ok-fault.ensures in
    let falls = MatchOption-at_none _ _ c.in_default-2.is c.in_ok-node.ensures in (
      given.0,
      given.1,
      costs_the_flow f p t counts c.args.e full c.requires.network c.placements_agree.ensures placement shown.flow c.in_default-cost_and_sum.ensures reached event is,
      falls,
      (λ read.
          let side = read_by_side (graph_of f p counts reached event) full.net shown c.requires.places placement c.in_ok-sink_side.sink_side.items (rw c.deref.ensures.value at c.in_ok-sink_side.ensures.each) read in
          false≢true (sym c.if-check_places.false ∙ (c.check_places.ensures counts reached event is).1 (rw c.deref-2.ensures.value side))),
    )
