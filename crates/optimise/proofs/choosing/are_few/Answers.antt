use Rattle.std.proofs.Common.{◌≡◌, ℕ, length, get_or, ap, arith, IsTrue, false}
use Rattle.std.proofs.lemmas.List.Sums.{sum_by_more_le}
use Rattle.placement.specs.declared.placements.Placement.{Placement}
use Rattle.optimise.proofs.choosing.are_few.Goals as goal

never : IsTrue false → ⊥
never told = cc

pub returns-then-len-left : goal.returns-then-len-left
returns-then-len-left c =
    let count : Placement → ℕ = λ placement. length placement.inserted in
    let placements = c.args.placements.now in
    let item = c.placement-item.result in
    let i = c.loop-placement.placement-index in
    let below = sum_by_more_le count placements i item c.loop-placement-test.true in
    let same : count item ≡ count (get_or placements i item) = ap count c.placement-item.is in (
      λ told. absurd (never told),
      λ few. absurd (omega (arith, few, c.if-len-left.true, c.len.ensures, c.loop-placement.invariant, below, same)),
    )
