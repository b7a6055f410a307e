use Rattle.entry_check.proofs.Networks.{HasGraph, network_in, some_graph}
use Rattle.entry_check.proofs.plain.full_network.Goals as goal

pub returns : goal.returns
returns c =
    let f = c.args.function.now in
    let p = c.args.points.now in
    let t = c.args.table.now in
    let has : HasGraph f p t c.args.e = some_graph c.events_exist.ensures f p t c.args.e c.requires.defined c.requires.points c.requires.table c.requires.expression in
    network_in f p t c.args.counts.now c.args.e c.deref.result.now has (rw c.deref.ensures.value c.in_ok-sets.ensures) c.network.result
    c.network.ensures.network c.network.ensures.valid c.network.ensures.few c.network.ensures.bounded
