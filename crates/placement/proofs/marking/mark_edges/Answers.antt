use Rattle.std.proofs.Common.{subst}
use Rattle.std.proofs.lemmas.List.{take_all}
use Rattle.placement.specs.Marking.{EdgeMarks}
use Rattle.placement.proofs.MarkLemmas.{EdgeMarks-start, EdgeMarks-more}
use Rattle.placement.proofs.marking.mark_edges.Goals as goal

pub loop-edge-init : goal.loop-edge-init
loop-edge-init c = EdgeMarks-start _ _ c.in_ok-marks.ensures

pub loop-edge-preserved : goal.loop-edge-preserved
loop-edge-preserved c = EdgeMarks-more _ _ _ _ c.loop-edge-test.true (c.requires c.loop-edge.edge-index 0 c.loop-edge-test.true) c.loop-edge.invariant

pub returns : goal.returns
returns c = subst (λ xs. EdgeMarks c.args.count xs c.loop-edge.marks.items) (take_all c.loop-edge.edge-index c.args.inserted.now c.loop-edge-test.false) c.loop-edge.invariant
