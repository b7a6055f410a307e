use Rattle.dataflow.specs.Walks.{IsWalking, Keeps, work}
use Rattle.dataflow.proofs.order.Walk.leave_all.Given as goal

abbrev pub invariant-loop-node : goal.invariant-loop-node
invariant-loop-node l = record {
  walking : IsWalking l.self;
  keeps : Keeps l.fn.self l.self;
}

abbrev pub decreases-loop-node : goal.decreases-loop-node
decreases-loop-node l = work l.self
