use Rattle.std.proofs.Common.{◌<◌, List, ℕ, [], replicate, length, refl, sym, subst, ap, ◌∙◌, arith}
use Rattle.occurrences.specs.Listed.{ArePlacesOf}
use Rattle.changes.specs.declared.lists.Action.TheVariants.{Stays}
use Rattle.placement.proofs.GraphLemmas.{arcs_within}
use Rattle.planning.proofs.Growing.{IsMoved-start}
use Rattle.planning.proofs.Lists.{read_as}
use Rattle.planning.proofs.Occurring.{occurring_length}
use Rattle.planning.proofs.moves.all_moved.Goals as goal

pub occurrences-requires : goal.occurrences-requires
occurrences-requires c = record { few = omega (arith, c.requires.points.few, occurring_length c.args.function.now c.args.points.now c.args.table.now c.requires.table) }

pub graph_of-requires-clause-within : goal.graph_of-requires-clause-within
graph_of-requires-clause-within c = arcs_within c.args.function.now c.args.points.now c.requires.points

pub graph_of-requires-clause-few : goal.graph_of-requires-clause-few
graph_of-requires-clause-few c = omega (arith, c.requires.points.few)

pub loop-x-init : goal.loop-x-init
loop-x-init c =
    let none : List ℕ = [] in
    IsMoved-start c.args.function.now c.args.points.now c.args.table.now c.args.placements.now c.in_ok-moved.moved c.in_ok-moved.ensures.temps
    (c.in_ok-moved.ensures.edges ∙ ap (λ n. replicate n none) c.len.ensures)
    (c.in_ok-moved.ensures.actions ∙ ap (λ n. replicate n Stays) c.len-2.ensures)

pub add_placement-requires-clause-occurrences : goal.add_placement-requires-clause-occurrences
add_placement-requires-clause-occurrences c =
    let x = c.loop-x.x in
    let lists = c.in_ok-lists.lists.items in
    let inside : x < length c.args.table.now.exprs = omega (arith, c.loop-x-test.true, c.len-x-end.ensures) in
    subst (ArePlacesOf c.args.table.now.occurring x)
    (sym (c.as_slice-occurrences.ensures ∙ read_as lists lists x c.index.result.now [] refl (omega (arith, inside, c.in_ok-lists.ensures.count)) c.index.ensures))
    (c.in_ok-lists.ensures.each x inside)
