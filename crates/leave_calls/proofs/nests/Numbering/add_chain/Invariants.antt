use Rattle.dataflow.specs.FixedPoints.{ArcsWithin}
use Rattle.leave_calls.proofs.nests.Numbering.add_chain.Given as goal

abbrev pub invariant-loop-place : goal.invariant-loop-place
invariant-loop-place l = ArcsWithin l.arcs.items l.nodes
