use Rattle.std.proofs.Common.{◌≡◌, ◌<◌, Some, arith, length, subst, sym}
use Rattle.std.specs.Prelude.{slice_get, All}
use Rattle.planning.specs.Marking.{IsSetOf}
use Rattle.planning.proofs.Growing.{there_at, edges_within, places_within, next_more, next_skip}
use Rattle.planning.proofs.Sets.{ascending_differs, members_within}
use Rattle.planning.proofs.moves.add_placement.Goals as goal

pub marks_of-requires-clause-occurrences : goal.marks_of-requires-clause-occurrences
marks_of-requires-clause-occurrences c = places_within c.args.function.now c.args.points.now c.args.table.now c.requires.table c.args.x c.args.occurrences.now c.requires.occurrences _ c.requires.graph.points

pub add_move-requires-clause-occurrences : goal.add_move-requires-clause-occurrences
add_move-requires-clause-occurrences c = places_within c.args.function.now c.args.points.now c.args.table.now c.requires.table c.args.x c.args.occurrences.now c.requires.occurrences _ c.requires.moved.action_count

pub add_move-requires-clause-differ : goal.add_move-requires-clause-differ
add_move-requires-clause-differ c = ascending_differs c.args.occurrences.now c.requires.occurrences.ascending

pub add_move-requires-clause-edges : goal.add_move-requires-clause-edges
add_move-requires-clause-edges c =
    let placement = c.index-placements-x.result in
    let set = c.in_ok-marks.marks.inserted.keys in
    let there : slice_get c.args.placements.now c.args.x ≡ Some placement =
    there_at c.args.placements.now c.args.x placement (omega (arith, c.requires.placements.count, c.requires.expression)) c.index-placements-x.is in
    let all = edges_within c.args.function.now c.args.points.now c.args.table.now c.args.placements.now c.args.x placement c.requires.placements there in
    subst (λ n. All (λ edge. edge < n) set) (sym c.requires.moved.edge_count) (members_within placement.inserted set (length c.args.points.now.edges) c.in_ok-marks.ensures.inserted_are all)

pub returns-in_ok-add_move : goal.returns-in_ok-add_move
returns-in_ok-add_move c =
    let there : slice_get c.args.placements.now c.args.x ≡ Some c.index-placements-x.result =
    there_at c.args.placements.now c.args.x c.index-placements-x.result (omega (arith, c.requires.placements.count, c.requires.expression)) c.index-placements-x.is in
    let kept : IsSetOf c.index-placements-x.result.kept c.in_ok-kept.kept.keys = subst (λ l. IsSetOf l c.in_ok-kept.kept.keys) c.as_slice.ensures c.in_ok-kept.ensures in
    next_more c.args.function.now c.args.points.now c.args.table.now c.args.placements.now c.requires.defined c.requires.points c.requires.table c.args.x c.requires.expression c.index-placements-x.result there
    c.args.occurrences.now c.requires.occurrences c.in_ok-kept.kept.keys kept c.args.moved.now c.requires.moved c.is_needed.result c.is_needed.ensures c.args.graph.now c.requires.graph c.in_ok-marks.marks c.in_ok-marks.ensures _ c.if-is_needed.true c.in_ok-add_move.ensures

pub returns-else-is_needed : goal.returns-else-is_needed
returns-else-is_needed c =
    let there : slice_get c.args.placements.now c.args.x ≡ Some c.index-placements-x.result =
    there_at c.args.placements.now c.args.x c.index-placements-x.result (omega (arith, c.requires.placements.count, c.requires.expression)) c.index-placements-x.is in
    let kept : IsSetOf c.index-placements-x.result.kept c.in_ok-kept.kept.keys = subst (λ l. IsSetOf l c.in_ok-kept.kept.keys) c.as_slice.ensures c.in_ok-kept.ensures in
    next_skip c.args.function.now c.args.points.now c.args.table.now c.args.placements.now c.requires.defined c.requires.points c.requires.table c.args.x c.requires.expression c.index-placements-x.result there
    c.args.occurrences.now c.requires.occurrences c.in_ok-kept.kept.keys kept c.args.moved.now c.requires.moved c.is_needed.result c.is_needed.ensures c.if-is_needed.false
