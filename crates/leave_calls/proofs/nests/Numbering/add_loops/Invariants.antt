use Rattle.dataflow.specs.FixedPoints.{ArcsWithin}
use Rattle.leave_calls.proofs.nests.Numbering.add_loops.Given as goal

abbrev pub invariant-loop-depth : goal.invariant-loop-depth
invariant-loop-depth l = ArcsWithin l.arcs.items l.nodes
