use Rattle.point_graph.specs.declared.graph.Point.TheVariants.{Instr}
use Rattle.point_graph.proofs.Ranges.{put_more}
use Rattle.point_graph.proofs.lists.push_points.Goals as goal

pub loop-instr-preserved : goal.loop-instr-preserved
loop-instr-preserved c =
    put_more (Instr c.args.number) c.loop-instr.instr _ c.loop-instr.points.items _ c.loop-instr.invariant c.in_ok-push-2.ensures.items
