use Rattle.std.proofs.Common.{◌≡◌, ◌+◌, ◌^◌, sum_by, drop}
use Rattle.ir_types.specs.Limits.{slot_count}
use Rattle.ir_check.proofs.limits.has_few_slots.Given as goal

abbrev pub invariant-loop-block : goal.invariant-loop-block
invariant-loop-block l = sum_by (λ b. slot_count b.term) l.blocks + l.left ≡ sum_by (λ b. slot_count b.term) (drop l.block-index l.blocks) + 2 ^ 17
