use Rattle.std.proofs.Common.{◌∙◌, length, sym}
use Rattle.dataflow.proofs.WrittenBack.{written_back, solution_at}
use Rattle.dataflow.proofs.solution.solve.Goals as goal

pub returns-clause-greatest : goal.returns-clause-greatest
returns-clause-greatest g c d =
    solution_at g.V.Meet.Alike g.V.Meet.met (g.T.Transfer.leaving c.args.transfer.now) c.args.graph.now.arcs.items c.args.graph.now.nodes d
    c.args.entry.items _ _ c.deref_mut.result.now c.settle.new.entry c.settle.new.exit (length c.deref_mut.result.now)
    c.deref_mut.ensures.value
    (sym (written_back c.args.entry.items c.settle.new.entry _ (c.settle.auto.entry ∙ c.deref_mut.ensures.len)))
    (sym (written_back c.args.exit.items c.settle.new.exit _ (c.settle.auto.exit ∙ c.deref_mut-2.ensures.len)))
    (c.deref_mut.ensures.len ∙ c.requires.nodes)
    (c.in_ok-settle.ensures d)
