use Rattle.std.proofs.Common.{refl}
use Rattle.placement.proofs.marking.mark_all.Goals as goal

pub returns : goal.returns
returns c = record {
  arcs_are = c.in_ok-arcs.ensures;
  events_are = refl;
  point_marks = rw (c.deref.ensures.value, c.as_slice-2.ensures) at c.in_ok-at_point.ensures;
  edge_marks = rw c.as_slice.ensures at c.in_ok-at_edge.ensures;
}
