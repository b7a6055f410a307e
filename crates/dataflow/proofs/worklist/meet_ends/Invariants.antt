use Rattle.std.proofs.Common.{◌<◌, ◌≤◌, ◌+◌, ◌*◌, All, length, sum_by, vec_len}
use Rattle.dataflow.specs.Meeting.{MetEnds}
use Rattle.dataflow.proofs.worklist.meet_ends.Given as goal

abbrev pub invariant-loop-end : goal.invariant-loop-end
invariant-loop-end g l = record {
  pass : (d : g.row.V.Denot) → MetEnds g.V.Meet.Alike g.V.Meet.met d l.ends l.fn.entry l.entry l.exit l.fn.pending.items l.pending.items l.end-index;
  pending : All (λ n. n < length l.fn.entry) l.pending.items;
  falls : 2 * sum_by g.V.Meet.height_of l.entry + vec_len l.pending ≤ 2 * sum_by g.V.Meet.height_of l.fn.entry + vec_len l.fn.pending;
}
