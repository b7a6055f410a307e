use Rattle.std.proofs.Common.{false, length, get_or, ◌∙◌, arith, refl}
use Rattle.point_graph.specs.Numbers.{KeepsRules}
use Rattle.block_places.proofs.Standing.{block_there, blocks_within, blocks_few, no_counts, no_test}
use Rattle.read_off.proofs.Laid.{points_room, edges_room}
use Rattle.places_check.specs.Walked.{AreIts}
use Rattle.places_check.proofs.Along.{blocks_ascend, targets_listed, along_none, along_more, read_by_left}
use Rattle.places_check.proofs.check_places.Goals as goal

pub block_at-block-requires : goal.block_at-block-requires
block_at-block-requires c =
    let keeps : KeepsRules c.args.function.now = record { module_of = c.args.table.now.module_of; rules = c.requires.table.rules } in
    blocks_within c.args.function.now c.args.points.now keeps c.requires.defined c.requires.points c.as_slice-blocks.result.now (length c.args.function.now.blocks) c.as_slice-blocks.ensures refl c.loop-place.place 0 c.loop-place-test.true

pub loop-place-init : goal.loop-place-init
loop-place-init c =
    along_none c.args.function.now c.args.points.now (λ v. get_or c.args.sink_side.now v false) c.args.placement.now
    (AreIts (record { function = c.args.function; points = c.args.points; table = c.args.table; number = c.args.e }))
    c.new-inserted.result c.pass.new.self c.new-kept.result c.pass-2.new.self
    (c.new-inserted.ensures.left ∙ c.as_slice.ensures) c.new-inserted.ensures.next c.new-inserted.ensures.agrees
    (c.new-kept.ensures.left ∙ c.as_slice-2.ensures) c.new-kept.ensures.next c.new-kept.ensures.agrees
    c.pass.ensures c.pass-2.ensures

pub pass_block-requires-clause-edges : goal.pass_block-requires-clause-edges
pass_block-requires-clause-edges c =
    let keeps : KeepsRules c.args.function.now = record { module_of = c.args.table.now.module_of; rules = c.requires.table.rules } in
    let r = edges_room c.args.function.now c.args.points.now keeps c.requires.defined c.requires.points c.loop-place.place (get_or c.as_slice-blocks.result.now c.loop-place.place 0) c.block_at-block.result.now
    (block_there c.args.points.now.blocks c.as_slice-blocks.result.now c.loop-place.place c.as_slice-blocks.ensures c.loop-place-test.true) c.block_at-block.ensures
    c.loop-place.inserted.next (c.loop-place.invariant no_counts no_test).edge in
    let few = c.requires.points.few in
    omega (arith, r, few)

pub pass_block-requires-clause-points : goal.pass_block-requires-clause-points
pass_block-requires-clause-points c =
    let keeps : KeepsRules c.args.function.now = record { module_of = c.args.table.now.module_of; rules = c.requires.table.rules } in
    points_room c.args.function.now c.args.points.now keeps c.requires.defined c.requires.points c.loop-place.place (get_or c.as_slice-blocks.result.now c.loop-place.place 0) c.block_at-block.result.now
    (block_there c.args.points.now.blocks c.as_slice-blocks.result.now c.loop-place.place c.as_slice-blocks.ensures c.loop-place-test.true) c.block_at-block.ensures
    c.loop-place.kept.next (c.loop-place.invariant no_counts no_test).point

pub pass_block-requires-clause-ascending : goal.pass_block-requires-clause-ascending
pass_block-requires-clause-ascending c =
    let keeps : KeepsRules c.args.function.now = record { module_of = c.args.table.now.module_of; rules = c.requires.table.rules } in
    blocks_ascend c.args.function.now c.args.points.now keeps c.requires.defined c.requires.points

pub pass_block-requires-clause-few_blocks : goal.pass_block-requires-clause-few_blocks
pass_block-requires-clause-few_blocks c =
    let keeps : KeepsRules c.args.function.now = record { module_of = c.args.table.now.module_of; rules = c.requires.table.rules } in
    let few = blocks_few c.args.function.now c.args.points.now keeps c.requires.defined c.requires.points c.args.points.now.blocks refl in
    omega (arith, few)

pub pass_block-requires-clause-targets : goal.pass_block-requires-clause-targets
pass_block-requires-clause-targets c =
    let keeps : KeepsRules c.args.function.now = record { module_of = c.args.table.now.module_of; rules = c.requires.table.rules } in
    targets_listed c.args.function.now c.args.points.now keeps c.requires.defined c.requires.points c.loop-place.place (get_or c.as_slice-blocks.result.now c.loop-place.place 0) c.block_at-block.result.now
    (block_there c.args.points.now.blocks c.as_slice-blocks.result.now c.loop-place.place c.as_slice-blocks.ensures c.loop-place-test.true) c.block_at-block.ensures
    c.args.sink_side.now c.requires.nodes

pub loop-place-preserved : goal.loop-place-preserved
loop-place-preserved c counts reached =
    let keeps : KeepsRules c.args.function.now = record { module_of = c.args.table.now.module_of; rules = c.requires.table.rules } in
    along_more c.args.function.now c.args.points.now keeps c.requires.defined c.requires.points c.loop-place.place (get_or c.as_slice-blocks.result.now c.loop-place.place 0) c.block_at-block.result.now
    (block_there c.args.points.now.blocks c.as_slice-blocks.result.now c.loop-place.place c.as_slice-blocks.ensures c.loop-place-test.true) c.block_at-block.ensures
    (λ v. get_or c.args.sink_side.now v false) c.args.placement.now (AreIts (record { function = c.args.function; points = c.args.points; table = c.args.table; number = c.args.e }))
    c.loop-place.inserted c.pass_block.new.inserted c.loop-place.kept c.pass_block.new.kept counts reached
    c.pass_block.ensures.edges c.pass_block.ensures.points c.pass_block.ensures.block (c.loop-place.invariant counts reached)

pub returns-then-is_done : goal.returns-then-is_done
returns-then-is_done c counts reached event is =
    let left = read_by_left c.functions_have_graphs.ensures c.placements_agree.ensures c.read_off_is_bits.ensures c.args.function.now c.args.points.now c.args.table.now c.args.e (λ v. get_or c.args.sink_side.now v false) c.args.placement.now c.requires.placement
    c.as_slice-blocks.result.now c.loop-place.place c.loop-place.inserted c.loop-place.kept c.as_slice-blocks.ensures c.loop-place-test.false c.loop-place.invariant counts reached event is in
    ((λ done. left.1 (c.is_done.ensures.0 c.if-is_done.true, c.is_done-then-is_done.ensures.0 done)), (λ read. c.is_done-then-is_done.ensures.1 (left.0 read).1))

pub returns-else-is_done : goal.returns-else-is_done
returns-else-is_done c counts reached event is =
    let left = read_by_left c.functions_have_graphs.ensures c.placements_agree.ensures c.read_off_is_bits.ensures c.args.function.now c.args.points.now c.args.table.now c.args.e (λ v. get_or c.args.sink_side.now v false) c.args.placement.now c.requires.placement
    c.as_slice-blocks.result.now c.loop-place.place c.loop-place.inserted c.loop-place.kept c.as_slice-blocks.ensures c.loop-place-test.false c.loop-place.invariant counts reached event is in
    ((λ done. absurd (let no = c.if-is_done.false in cc)), (λ read. c.is_done.ensures.1 (left.0 read).0))
