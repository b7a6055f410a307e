use Rattle.std.proofs.Common.{◌∙◌, length-set, sym}
use Rattle.dataflow.proofs.Ends.{ends_more}
use Rattle.dataflow.proofs.graph.ends_by_node.Goals as goal

pub loop-from-preserved : goal.loop-from-preserved
loop-from-preserved c =
    let s = c.loop-from.invariant in
    record {
      len = length-set c.loop-from.lists.items _ c.push.new.self ∙ s.len;
      ends = ends_more (λ list. list.items) c.args.arcs.now c.args.nodes c.loop-from.lists.items c.loop-from.from-index c.loop-from-test.true s.len (c.requires c.loop-from.from-index c.loop-from-test.true) s.ends
          c.index_mut.result.now c.push.new.self (sym c.index_mut.ensures.value) c.in_ok-push.ensures.items;
    }
