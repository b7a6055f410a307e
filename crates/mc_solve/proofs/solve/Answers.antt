use Rattle.std.proofs.Common.{Bool, false, List, get_or, refl, subst, arith}
use Rattle.best_placement.specs.Laws.{IsReadOffOn}
use Rattle.function_graphs.specs.Graphs.{graph_of}
use Rattle.mc_solve.specs.declared.Solved.{Solved}
use Rattle.mc_solve.proofs.Solving.{HasGraph, some_graph, shown, on_each, best}
use Rattle.mc_solve.proofs.Certified.{certifies}
use Rattle.mc_solve.proofs.solve.Goals as goal

pub returns-clause-solved : goal.returns-clause-solved
returns-clause-solved g c reached event net is n =
    let s : Solved = record { placement = c.in_ok-placement.placement; flow = c.in_ok-flow.flow; cut = c.in_ok-cut.cut } in
    let f = c.args.function.now in
    let full = c.in_ok-nets.nets.full.net in
    let network = c.in_ok-nets.ensures.network reached event is in
    let read = subst (λ (l : List Bool). IsReadOffOn (graph_of f c.args.points.now c.args.counts.now reached event) (λ v. get_or l v false) s.placement) c.deref.ensures.value (c.in_ok-placement.ensures.read c.args.counts.now reached event is) in
    on_each f c.args.points.now c.args.table.now c.args.e c.args.counts.now reached event is s full net network n
    (shown f c.args.points.now c.args.table.now c.args.e c.args.counts.now reached event is s full network c.in_ok-nets.ensures.valid c.in_ok-flow.ensures.maximum
    c.in_ok-cut.ensures.side c.in_ok-cut.ensures.ranks c.in_ok-cut.ensures.least c.in_ok-cut.ensures.latest (c.in_ok-placement.ensures.placed c.args.counts.now reached event is) read)

pub returns-clause-best : goal.returns-clause-best
returns-clause-best g c =
    let f = c.args.function.now in
    let has : HasGraph f c.args.points.now c.args.table.now c.args.e = some_graph f c.args.points.now c.args.table.now c.args.e c.requires.defined c.requires.points c.requires.table c.requires.expression in
    let n = c.in_ok-nets.ensures.network has.reached has.event has.is in
    best f c.args.points.now c.args.table.now c.args.e c.args.counts.now has.reached has.event has.is _ c.in_ok-nets.nets.full.net n
    (returns-clause-solved g c has.reached has.event c.in_ok-nets.nets.full.net has.is n)

pub returns-clause-shown : goal.returns-clause-shown
returns-clause-shown g c =
    let s : Solved = record { placement = c.in_ok-placement.placement; flow = c.in_ok-flow.flow; cut = c.in_ok-cut.cut } in
    let net = c.in_ok-nets.nets.full.net in
    let network = c.in_ok-nets.ensures.network in
    record {
      net = net;
      valid = c.in_ok-nets.ensures.valid;
      within = c.in_ok-flow.ensures.maximum.within;
      ranks = c.in_ok-cut.ensures.ranks.len;
      ends = (
        c.in_ok-cut.ensures.ranks.others 0 c.in_ok-cut.ensures.least.0.1,
        let fewest = c.in_ok-cut.ensures.ranks.fewest 0 1 refl in omega (arith, fewest),
      );
      network = network;
      certifies = λ reached event is.
          certifies c.args.function.now c.args.points.now c.args.counts.now reached event net s
          (returns-clause-solved g c reached event net is (network reached event is));
    }

-- the phases are those of the needed part
pub returns-in_err-cut-clause-needed_phases : goal.returns-in_err-cut-clause-needed_phases
returns-in_err-cut-clause-needed_phases g c reach told = let nodes = c.in_ok-nets.ensures.needed reach told in omega (arith, c.flow_of.ensures.phases, nodes)

pub returns-in_err-placement-clause-needed_phases : goal.returns-in_err-placement-clause-needed_phases
returns-in_err-placement-clause-needed_phases g c reach told = let nodes = c.in_ok-nets.ensures.needed reach told in omega (arith, c.flow_of.ensures.phases, nodes)

pub returns-clause-needed_phases : goal.returns-clause-needed_phases
returns-clause-needed_phases g c reach told = let nodes = c.in_ok-nets.ensures.needed reach told in omega (arith, c.flow_of.ensures.phases, nodes)
