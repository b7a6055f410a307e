use Rattle.std.proofs.Common.{◌≡◌, ◌<◌, ◌+◌, ◌*◌, ◌∙◌, ◌++◌, ◌∷◌, [], ℕ, ap, sym, subst, get_or, length, refl, arith}
use Rattle.block_places.specs.Places.{ArePlaces}
use Rattle.block_places.proofs.Standing.{block_there, blocks_few, blocks_within, placed_as, targets_fit}
use Rattle.block_counts.proofs.Slots.{counts_len, read_at, targets_there}
use Rattle.reduction.proofs.Growing.{Growing, as_many, entry_arc, few_arcs, forced_fit, growing_more, growing_none, paid_fits, rules_kept, valid_network, whole_network}
use Rattle.reduction.proofs.building.network.Goals as goal

pub places-requires-clause-within : goal.places-requires-clause-within
places-requires-clause-within c =
    blocks_within c.args.function.now c.args.points.now (rules_kept c.args.function.now c.args.points.now c.args.sets.now c.requires.sets) c.requires.defined c.requires.points c.as_slice-blocks.result.now c.len.result c.as_slice-blocks.ensures c.len.ensures

pub places-requires-clause-few : goal.places-requires-clause-few
places-requires-clause-few c =
    blocks_few c.args.function.now c.args.points.now (rules_kept c.args.function.now c.args.points.now c.args.sets.now c.requires.sets) c.requires.defined c.requires.points c.as_slice-blocks.result.now c.as_slice-blocks.ensures

pub block_at-block-requires : goal.block_at-block-requires
block_at-block-requires c =
    blocks_within c.args.function.now c.args.points.now (rules_kept c.args.function.now c.args.points.now c.args.sets.now c.requires.sets) c.requires.defined c.requires.points c.as_slice-blocks.result.now (length c.args.function.now.blocks) c.as_slice-blocks.ensures refl
    c.loop-place.place 0 c.loop-place-test.true

pub slot_counts-slots-requires-clause-block : goal.slot_counts-slots-requires-clause-block
slot_counts-slots-requires-clause-block c =
    blocks_within c.args.function.now c.args.points.now (rules_kept c.args.function.now c.args.points.now c.args.sets.now c.requires.sets) c.requires.defined c.requires.points c.as_slice-blocks.result.now (length c.args.function.now.blocks) c.as_slice-blocks.ensures refl
    c.loop-place.place 0 c.loop-place-test.true

pub index-requires : goal.index-requires
index-requires c =
    let inside =
    blocks_within c.args.function.now c.args.points.now (rules_kept c.args.function.now c.args.points.now c.args.sets.now c.requires.sets) c.requires.defined c.requires.points c.as_slice-blocks.result.now (length c.args.function.now.blocks) c.as_slice-blocks.ensures refl
    c.loop-place.place 0 c.loop-place-test.true in
    omega (arith, inside, c.in_ok-by_block.ensures.entered_len, c.in_ok-by_block.by_block.entered.ok.0)

pub overflow_cast-place : goal.overflow_cast-place
overflow_cast-place c =
    let few = blocks_few c.args.function.now c.args.points.now (rules_kept c.args.function.now c.args.points.now c.args.sets.now c.requires.sets) c.requires.defined c.requires.points c.as_slice-blocks.result.now c.as_slice-blocks.ensures in
    omega (arith, few, c.loop-place-test.true)

pub sets_at-of_block-requires : goal.sets_at-of_block-requires
sets_at-of_block-requires c =
    let many = as_many c.args.function.now c.args.points.now c.args.sets.now c.requires.points c.requires.sets in
    let same = ap length c.as_slice-blocks.ensures in
    omega (arith, many, same, c.loop-place-test.true)

pub push_block-requires-clause-place : goal.push_block-requires-clause-place
push_block-requires-clause-place c =
    let few = blocks_few c.args.function.now c.args.points.now (rules_kept c.args.function.now c.args.points.now c.args.sets.now c.requires.sets) c.requires.defined c.requires.points c.as_slice-blocks.result.now c.as_slice-blocks.ensures in
    omega (arith, few, c.loop-place-test.true)

pub push_block-requires-clause-counts : goal.push_block-requires-clause-counts
push_block-requires-clause-counts c =
    let b : ℕ = get_or c.as_slice-blocks.result.now c.loop-place.place 0 in
    ap length c.slot_counts-slots.ensures ∙ counts_len c.args.function.now c.args.counts.now c.requires.slots b c.block_at-block.result.now c.block_at-block.ensures
    ∙ ap length (targets_there c.args.function.now b c.block_at-block.result.now c.block_at-block.ensures)

pub push_block-requires-clause-targets : goal.push_block-requires-clause-targets
push_block-requires-clause-targets c k d lt =
    let few = blocks_few c.args.function.now c.args.points.now (rules_kept c.args.function.now c.args.points.now c.args.sets.now c.requires.sets) c.requires.defined c.requires.points c.as_slice-blocks.result.now c.as_slice-blocks.ensures in
    let same = ap length c.as_slice-blocks.ensures in
    let placed : ArePlaces c.args.points.now.blocks (length c.args.function.now.blocks) c.as_slice-places.result.now =
    placed_as c.args.points.now.blocks c.as_slice-blocks.result.now (length c.args.function.now.blocks) c.len.result c.in_ok-listed_places.listed_places.items c.as_slice-places.result.now c.as_slice-blocks.ensures c.len.ensures c.as_slice-places.ensures.value c.in_ok-listed_places.ensures in
    let fit = targets_fit c.args.function.now c.args.points.now (rules_kept c.args.function.now c.args.points.now c.args.sets.now c.requires.sets) c.requires.defined c.requires.points c.loop-place.place (get_or c.as_slice-blocks.result.now c.loop-place.place 0) c.block_at-block.result.now
    (block_there c.args.points.now.blocks c.as_slice-blocks.result.now c.loop-place.place c.as_slice-blocks.ensures c.loop-place-test.true) c.block_at-block.ensures
    c.as_slice-places.result.now placed (2 + 2 * length c.args.points.now.blocks) refl k d lt in
    (fit.0, omega (arith, fit.1, few, same))

pub overflow_add-constant : goal.overflow_add-constant
overflow_add-constant c =
    let fits = paid_fits c.args.function.now c.args.points.now c.args.counts.now c.args.sets.now c.loop-place.arcs.items c.loop-place.constant c.loop-place.place c.loop-place.invariant c.sets_at-of_block.result c.sets_at-of_block.ensures c.weight-weight.result c.weight-weight.ensures.small in
    let all = forced_fit c.args.function.now c.args.points.now c.args.sets.now c.requires.points c.requires.sets in
    let same : c.weight-weight.result * c.from.result ≡ c.weight-weight.result * c.sets_at-of_block.result.forced = ap (λ n. c.weight-weight.result * n) c.from.ensures in
    omega (arith, fits, all, same)

pub loop-place-init : goal.loop-place-init
loop-place-init c = growing_none c.args.function.now c.args.points.now c.args.counts.now c.args.sets.now c.push.new.self.items c.weight.result c.weight.ensures.weight (c.in_ok-push.ensures.items ∙ ap (λ l. l ++ entry_arc c.weight.result ∷ []) c.new-arcs.ensures.items)

pub loop-place-preserved : goal.loop-place-preserved
loop-place-preserved c =
    let b : ℕ = get_or c.as_slice-blocks.result.now c.loop-place.place 0 in
    let inside : b < length c.args.function.now.blocks =
    blocks_within c.args.function.now c.args.points.now (rules_kept c.args.function.now c.args.points.now c.args.sets.now c.requires.sets) c.requires.defined c.requires.points c.as_slice-blocks.result.now (length c.args.function.now.blocks) c.as_slice-blocks.ensures refl
    c.loop-place.place 0 c.loop-place-test.true in
    let placed : ArePlaces c.args.points.now.blocks (length c.args.function.now.blocks) c.as_slice-places.result.now =
    placed_as c.args.points.now.blocks c.as_slice-blocks.result.now (length c.args.function.now.blocks) c.len.result c.in_ok-listed_places.listed_places.items c.as_slice-places.result.now c.as_slice-blocks.ensures c.len.ensures c.as_slice-places.ensures.value c.in_ok-listed_places.ensures in
    let read : c.index.result.now ≡ get_or c.in_ok-by_block.by_block.entered.items b 0 = read_at c.in_ok-by_block.by_block.entered.items b c.index.result.now (omega (arith, inside, c.in_ok-by_block.ensures.entered_len)) c.index.ensures in
    subst
    (λ n. Growing c.args.function.now c.args.points.now c.args.counts.now c.args.sets.now c.push_block.new.arcs.items (c.loop-place.constant + c.weight-weight.result * n) (c.loop-place.place + 1))
    (sym c.from.ensures)
    (growing_more c.args.function.now c.args.points.now c.args.counts.now c.args.sets.now c.loop-place.arcs.items c.loop-place.constant c.loop-place.place c.loop-place.invariant c.sets_at-of_block.result c.sets_at-of_block.ensures c.weight-weight.result c.weight-weight.ensures.small
    (rules_kept c.args.function.now c.args.points.now c.args.sets.now c.requires.sets) c.requires.defined c.requires.points b c.block_at-block.result.now
    (block_there c.args.points.now.blocks c.as_slice-blocks.result.now c.loop-place.place c.as_slice-blocks.ensures c.loop-place-test.true) c.block_at-block.ensures c.as_slice-places.result.now placed c.slot_counts-slots.result.now c.slot_counts-slots.ensures
    c.index.result.now (λ reached told. read ∙ c.in_ok-by_block.ensures.entered reached told b inside) c.weight-weight.ensures.weight c.push_block.new.arcs.items c.in_ok-push_block.ensures)

pub overflow_cast-net : goal.overflow_cast-net
overflow_cast-net c =
    let few = blocks_few c.args.function.now c.args.points.now (rules_kept c.args.function.now c.args.points.now c.args.sets.now c.requires.sets) c.requires.defined c.requires.points c.as_slice-blocks.result.now c.as_slice-blocks.ensures in
    omega (arith, few)

pub overflow_mul-net : goal.overflow_mul-net
overflow_mul-net c =
    let few = blocks_few c.args.function.now c.args.points.now (rules_kept c.args.function.now c.args.points.now c.args.sets.now c.requires.sets) c.requires.defined c.requires.points c.as_slice-blocks.result.now c.as_slice-blocks.ensures in
    omega (arith, few)

pub overflow_add-net : goal.overflow_add-net
overflow_add-net c =
    let few = blocks_few c.args.function.now c.args.points.now (rules_kept c.args.function.now c.args.points.now c.args.sets.now c.requires.sets) c.requires.defined c.requires.points c.as_slice-blocks.result.now c.as_slice-blocks.ensures in
    omega (arith, few)

pub returns-clause-network : goal.returns-clause-network
returns-clause-network c =
    let same = ap length c.as_slice-blocks.ensures in
    whole_network c.args.function.now c.args.points.now c.args.counts.now c.args.sets.now c.requires.defined c.requires.points c.requires.slots c.requires.sets c.loop-place.arcs c.loop-place.constant (2 + 2 * length c.as_slice-blocks.result.now) c.loop-place.place
    (omega (arith, same, c.loop-place-test.false)) c.loop-place.invariant (omega (arith, same)) c.sets_agree.ensures

pub returns-clause-valid : goal.returns-clause-valid
returns-clause-valid c =
    let same = ap length c.as_slice-blocks.ensures in
    valid_network c.args.function.now c.args.points.now c.args.counts.now c.args.sets.now c.requires.defined c.requires.points c.requires.slots c.requires.sets c.loop-place.arcs c.loop-place.constant (2 + 2 * length c.as_slice-blocks.result.now) c.loop-place.place
    (omega (arith, same, c.loop-place-test.false)) c.loop-place.invariant (omega (arith, same)) c.sets_agree.ensures c.events_exist.ensures c.networks_are_valid.ensures (let small = c.requires.total in omega (arith, small))

pub returns-clause-few : goal.returns-clause-few
returns-clause-few c =
    let same = ap length c.as_slice-blocks.ensures in
    few_arcs c.args.function.now c.args.points.now c.args.counts.now c.args.sets.now c.requires.defined c.requires.points c.requires.slots c.requires.sets c.loop-place.arcs c.loop-place.constant (2 + 2 * length c.as_slice-blocks.result.now) c.loop-place.place
    (omega (arith, same, c.loop-place-test.false)) c.loop-place.invariant (omega (arith, same))

pub returns-clause-bounded : goal.returns-clause-bounded
returns-clause-bounded c =
    let all = forced_fit c.args.function.now c.args.points.now c.args.sets.now c.requires.points c.requires.sets in
    let small = c.loop-place.invariant.small in
    omega (arith, small, all)
