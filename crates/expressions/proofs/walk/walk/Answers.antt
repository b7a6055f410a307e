use Rattle.std.proofs.Common.{◌≡◌, ◌<◌, length, get_or, ap, sym, ◌∙◌, arith, [], refl}
use Rattle.std.proofs.lemmas.List.{get_or_default}
use Rattle.expressions.specs.Walking.{Seen, seen_of}
use Rattle.expressions.proofs.Sound.{block_sound}
use Rattle.expressions.proofs.WalkSteps.{room_for, walked_more}
use Rattle.expressions.proofs.walk.walk.Goals as goal

pub pass_block-requires-clause-sound : goal.pass_block-requires-clause-sound
pass_block-requires-clause-sound c = block_sound c.args.module.now c.args.function.now c.requires.rules _ c.block_at.result.now c.block_at.ensures

pub pass_block-requires-clause-few : goal.pass_block-requires-clause-few
pass_block-requires-clause-few c =
    let blocks = c.args.blocks.now in
    let i = c.loop-block.block-index in
    let lt : i < length blocks = omega arith in
    room_for c.args.module.now c.args.function.now blocks i (get_or blocks i 0) c.block_at.result.now (seen_of c.loop-block.found) lt (get_or_default blocks i (get_or blocks i 0) 0 lt) c.block_at.ensures c.requires.few c.loop-block.invariant.adds

pub loop-block-preserved : goal.loop-block-preserved
loop-block-preserved c =
    let blocks = c.args.blocks.now in
    let i = c.loop-block.block-index in
    let lt : i < length blocks = omega arith in
    let none : Seen = record { exprs = []; occurring = [] } in
    record {
      adds = walked_more c.args.module.now c.args.function.now blocks i (get_or blocks i 0) c.block_at.result.now none (seen_of c.loop-block.found) (seen_of c.pass_block.new.self) lt
          (get_or_default blocks i (get_or blocks i 0) 0 lt) c.block_at.ensures c.loop-block.invariant.adds c.in_ok-pass_block.ensures.adds;
      up_to = c.in_ok-pass_block.ensures.up_to;
      fit = c.in_ok-pass_block.ensures.fit;
    }
