use Rattle.std.proofs.Common.{◌≡◌, ◌+◌, ◌^◌, length, sum_by, drop}
use Rattle.ir_check.proofs.limits.has_few_instrs.Given as goal

abbrev pub invariant-loop-block : goal.invariant-loop-block
invariant-loop-block l = sum_by (λ b. length b.instrs) l.blocks + l.left ≡ sum_by (λ b. length b.instrs) (drop l.block-index l.blocks) + 2 ^ 18
