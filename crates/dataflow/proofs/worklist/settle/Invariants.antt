use Rattle.std.proofs.Common.{◌<◌, ◌+◌, ◌*◌, All, Contains, length, get_or, sum_by, vec_len}
use Rattle.dataflow.proofs.Settling.{Settling}
use Rattle.dataflow.proofs.worklist.settle.Given as goal

abbrev pub invariant-loop-node : goal.invariant-loop-node
invariant-loop-node g l = record {
  settling : (d : g.row.V.Denot) → Settling g.V.Meet.Alike g.V.Meet.met (g.T.Transfer.leaving l.transfer) l.graph.arcs.items (length l.fn.entry) (λ n. get_or l.fn.entry n d) (λ n. get_or l.entry n d) (λ n. get_or l.exit n d) (λ n. ¬ Contains l.pending.items n);
  nodes : All (λ n. n < length l.fn.entry) l.pending.items;
}

abbrev pub decreases-loop-node : goal.decreases-loop-node
decreases-loop-node g l = 2 * sum_by g.V.Meet.height_of l.entry + vec_len l.pending
