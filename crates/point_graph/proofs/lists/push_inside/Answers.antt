use Rattle.point_graph.specs.Building.{inside_edge}
use Rattle.point_graph.proofs.Ranges.{put_more}
use Rattle.point_graph.proofs.lists.push_inside.Goals as goal

pub loop-place-preserved : goal.loop-place-preserved
loop-place-preserved c =
    put_more (inside_edge c.args.block c.args.head) c.loop-place.place _ c.loop-place.edges.items _ c.loop-place.invariant c.in_ok-push.ensures.items
