use Rattle.std.proofs.Common.{sym, ◌∙◌, ap, subst}
use Rattle.flow_paths.specs.Paths.{ArcsWithin}
use Rattle.placement.specs.Placements.{arcs_of}
use Rattle.planning.proofs.marks.graph_of.Goals as goal

pub new-requires-clause-within : goal.new-requires-clause-within
new-requires-clause-within c =
    subst (λ arcs. ArcsWithin arcs c.len.result) (sym (c.in_ok-arcs.ensures ∙ ap arcs_of c.as_slice.ensures))
    (subst (ArcsWithin (arcs_of c.args.points.now.edges)) (sym c.len.ensures) c.requires.within)

pub returns : goal.returns
returns c = record {
  points = c.in_ok-graph.ensures.points ∙ c.len.ensures;
  arcs = c.in_ok-graph.ensures.arcs ∙ c.in_ok-arcs.ensures ∙ ap arcs_of c.as_slice.ensures;
}
