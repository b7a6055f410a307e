use Rattle.std.proofs.Common.{◌≡◌, ◌+◌, false, get_or, Contains, arith, sym, subst, ap, ◌∙◌}
use Rattle.point_numbers.proofs.Told.{are_told}
use Rattle.planning.specs.Marking.{AreBits}
use Rattle.planning.specs.Blocks.{AreBlocks}
use Rattle.planning.proofs.Geometry.{blocks_inside}
use Rattle.planning.proofs.Blocked.{AreBlocks-push}
use Rattle.planning.proofs.blocks.all_blocks.Goals as goal

pub bits_of-requires : goal.bits_of-requires
bits_of-requires c =
    blocks_inside c.args.function.now c.args.points.now c.requires.points (are_told c.args.function.now c.args.points.now c.requires.rules c.requires.defined c.requires.points) _ _ c.len.ensures c.as_slice.ensures

pub changes_of-requires-clause-told : goal.changes_of-requires-clause-told
changes_of-requires-clause-told c =
    let number = c.loop-number.number in
    let same : c.bit_at-is_reached.result ≡ get_or c.in_ok-reached.reached.items number false = c.bit_at-is_reached.ensures ∙ ap (λ l. get_or l number false) c.deref.ensures.value in
    let are : AreBits c.len.result c.as_slice.result.now c.in_ok-reached.reached.items = c.in_ok-reached.ensures in
    let is = are.bits_are number (omega (arith, c.loop-number-test.true, c.len.ensures, c.len-number-end.ensures)) in (
      λ h. subst (λ l. Contains l number) c.as_slice.ensures (is.0 (sym same ∙ h)),
      λ h. same ∙ is.1 (subst (λ l. Contains l number) (sym c.as_slice.ensures) h),
    )

pub loop-number-preserved : goal.loop-number-preserved
loop-number-preserved c =
    subst (AreBlocks c.args.function.now c.args.points.now c.args.moved.now (c.loop-number.number + 1)) (sym c.in_ok-push.ensures.items)
    (AreBlocks-push _ _ _ _ _ _ c.loop-number.invariant c.in_ok-changes_of.ensures)
