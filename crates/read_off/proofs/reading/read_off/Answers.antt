use Rattle.std.proofs.Common.{Bool, length, get_or, sym, ap, subst, arith, refl}
use Rattle.expressions.specs.Tables.{IsEventOf}
use Rattle.point_graph.specs.Numbers.{KeepsRules}
use Rattle.placement.specs.Marking.{AreEvents}
use Rattle.block_places.proofs.Standing.{block_there, targets_fit, placed_as, blocks_within, blocks_few, no_counts, no_test}
use Rattle.read_off.specs.Bits.{event_at}
use Rattle.read_off.proofs.Adding.{reads_no_blocks}
use Rattle.read_off.proofs.Laid.{points_room, edges_room, next_block, all_read}
use Rattle.read_off.proofs.Placing.{read_whole}
use Rattle.read_off.proofs.reading.read_off.Goals as goal

pub places-requires-clause-within : goal.places-requires-clause-within
places-requires-clause-within c =
    let keeps : KeepsRules c.args.function.now = record { module_of = c.args.table.now.module_of; rules = c.requires.table.rules } in
    blocks_within c.args.function.now c.args.points.now keeps c.requires.defined c.requires.points c.as_slice-blocks.result.now c.len.result c.as_slice-blocks.ensures c.len.ensures

pub places-requires-clause-few : goal.places-requires-clause-few
places-requires-clause-few c =
    let keeps : KeepsRules c.args.function.now = record { module_of = c.args.table.now.module_of; rules = c.requires.table.rules } in
    blocks_few c.args.function.now c.args.points.now keeps c.requires.defined c.requires.points c.as_slice-blocks.result.now c.as_slice-blocks.ensures

pub block_at-block-requires : goal.block_at-block-requires
block_at-block-requires c =
    let keeps : KeepsRules c.args.function.now = record { module_of = c.args.table.now.module_of; rules = c.requires.table.rules } in
    blocks_within c.args.function.now c.args.points.now keeps c.requires.defined c.requires.points c.as_slice-blocks.result.now (length c.args.function.now.blocks) c.as_slice-blocks.ensures refl c.loop-place.place 0 c.loop-place-test.true

pub loop-place-init : goal.loop-place-init
loop-place-init c counts reached = reads_no_blocks (event_at c.as_slice-events.result.now) (λ v. get_or c.args.sink_side.now v Bool.false) c.new-inserted.result c.add.new.self c.new-kept.result c.add-2.new.self
    c.new-inserted.ensures.numbers c.new-inserted.ensures.next c.new-kept.ensures.numbers c.new-kept.ensures.next c.in_ok-add.ensures c.in_ok-add-2.ensures

pub read_block-requires-clause-edges : goal.read_block-requires-clause-edges
read_block-requires-clause-edges c =
    let keeps : KeepsRules c.args.function.now = record { module_of = c.args.table.now.module_of; rules = c.requires.table.rules } in
    let r = edges_room c.args.function.now c.args.points.now keeps c.requires.defined c.requires.points c.loop-place.place (get_or c.as_slice-blocks.result.now c.loop-place.place 0) c.block_at-block.result.now
    (block_there c.args.points.now.blocks c.as_slice-blocks.result.now c.loop-place.place c.as_slice-blocks.ensures c.loop-place-test.true) c.block_at-block.ensures
    c.loop-place.inserted.next (c.loop-place.invariant no_counts no_test).after_edges in
    let few = c.requires.points.few in
    omega (arith, r, few)

pub read_block-requires-clause-points : goal.read_block-requires-clause-points
read_block-requires-clause-points c =
    let keeps : KeepsRules c.args.function.now = record { module_of = c.args.table.now.module_of; rules = c.requires.table.rules } in
    let r = points_room c.args.function.now c.args.points.now keeps c.requires.defined c.requires.points c.loop-place.place (get_or c.as_slice-blocks.result.now c.loop-place.place 0) c.block_at-block.result.now
    (block_there c.args.points.now.blocks c.as_slice-blocks.result.now c.loop-place.place c.as_slice-blocks.ensures c.loop-place-test.true) c.block_at-block.ensures
    c.loop-place.kept.next (c.loop-place.invariant no_counts no_test).after_points in
    let few = c.requires.points.few in
    omega (arith, r, few)

pub read_block-requires-clause-events : goal.read_block-requires-clause-events
read_block-requires-clause-events c =
    let keeps : KeepsRules c.args.function.now = record { module_of = c.args.table.now.module_of; rules = c.requires.table.rules } in
    let r = points_room c.args.function.now c.args.points.now keeps c.requires.defined c.requires.points c.loop-place.place (get_or c.as_slice-blocks.result.now c.loop-place.place 0) c.block_at-block.result.now
    (block_there c.args.points.now.blocks c.as_slice-blocks.result.now c.loop-place.place c.as_slice-blocks.ensures c.loop-place-test.true) c.block_at-block.ensures
    c.loop-place.kept.next (c.loop-place.invariant no_counts no_test).after_points in
    let l = c.in_ok-listed_events.ensures.len in
    let s = ap length c.as_slice-events.ensures.value in
    omega (arith, r, l, s)

pub read_block-requires-clause-targets : goal.read_block-requires-clause-targets
read_block-requires-clause-targets c =
    let keeps : KeepsRules c.args.function.now = record { module_of = c.args.table.now.module_of; rules = c.requires.table.rules } in
    targets_fit c.args.function.now c.args.points.now keeps c.requires.defined c.requires.points c.loop-place.place (get_or c.as_slice-blocks.result.now c.loop-place.place 0) c.block_at-block.result.now
    (block_there c.args.points.now.blocks c.as_slice-blocks.result.now c.loop-place.place c.as_slice-blocks.ensures c.loop-place-test.true) c.block_at-block.ensures
    c.as_slice-places.result.now (placed_as c.args.points.now.blocks c.as_slice-blocks.result.now (length c.args.function.now.blocks) c.len.result c.in_ok-listed_places.listed_places.items c.as_slice-places.result.now c.as_slice-blocks.ensures c.len.ensures c.as_slice-places.ensures.value c.in_ok-listed_places.ensures)
    (length c.args.sink_side.now) c.requires.nodes

pub loop-place-preserved : goal.loop-place-preserved
loop-place-preserved c =
    let keeps : KeepsRules c.args.function.now = record { module_of = c.args.table.now.module_of; rules = c.requires.table.rules } in
    next_block c.args.function.now c.args.points.now keeps c.requires.defined c.requires.points c.loop-place.place (get_or c.as_slice-blocks.result.now c.loop-place.place 0) c.block_at-block.result.now
    (block_there c.args.points.now.blocks c.as_slice-blocks.result.now c.loop-place.place c.as_slice-blocks.ensures c.loop-place-test.true) c.block_at-block.ensures
    c.as_slice-places.result.now (placed_as c.args.points.now.blocks c.as_slice-blocks.result.now (length c.args.function.now.blocks) c.len.result c.in_ok-listed_places.listed_places.items c.as_slice-places.result.now c.as_slice-blocks.ensures c.len.ensures c.as_slice-places.ensures.value c.in_ok-listed_places.ensures)
    (event_at c.as_slice-events.result.now) (λ v. get_or c.args.sink_side.now v Bool.false) c.loop-place.inserted c.read_block.new.inserted c.loop-place.kept c.read_block.new.kept
    c.loop-place.invariant c.in_ok-read_block.ensures

pub returns-clause-placed : goal.returns-clause-placed
returns-clause-placed c counts reached event is =
    (read_whole c.args.function.now c.args.points.now c.args.table.now c.args.e c.as_slice-events.result.now
    (subst (λ l. AreEvents (IsEventOf c.args.function.now c.args.points.now c.args.table.now c.args.e) (length c.args.points.now.points) l) (sym c.as_slice-events.ensures.value) c.in_ok-listed_events.ensures)
    c.functions_have_graphs.ensures (λ v. get_or c.args.sink_side.now v Bool.false) c.loop-place.inserted c.loop-place.kept
    (all_read c.args.function.now c.args.points.now c.loop-place.place c.as_slice-blocks.result.now (event_at c.as_slice-events.result.now) (λ v. get_or c.args.sink_side.now v Bool.false) c.loop-place.inserted c.loop-place.kept
    c.as_slice-blocks.ensures c.loop-place-test.false c.loop-place.invariant)
    counts reached event is (record { inserted = c.from.result; kept = c.from-2.result }) c.from.ensures c.from-2.ensures).0

pub returns-clause-read : goal.returns-clause-read
returns-clause-read c counts reached event is =
    (read_whole c.args.function.now c.args.points.now c.args.table.now c.args.e c.as_slice-events.result.now
    (subst (λ l. AreEvents (IsEventOf c.args.function.now c.args.points.now c.args.table.now c.args.e) (length c.args.points.now.points) l) (sym c.as_slice-events.ensures.value) c.in_ok-listed_events.ensures)
    c.functions_have_graphs.ensures (λ v. get_or c.args.sink_side.now v Bool.false) c.loop-place.inserted c.loop-place.kept
    (all_read c.args.function.now c.args.points.now c.loop-place.place c.as_slice-blocks.result.now (event_at c.as_slice-events.result.now) (λ v. get_or c.args.sink_side.now v Bool.false) c.loop-place.inserted c.loop-place.kept
    c.as_slice-blocks.ensures c.loop-place-test.false c.loop-place.invariant)
    counts reached event is (record { inserted = c.from.result; kept = c.from-2.result }) c.from.ensures c.from-2.ensures).1
