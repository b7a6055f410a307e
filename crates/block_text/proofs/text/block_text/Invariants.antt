use Rattle.block_text.proofs.Registers.{IsMade}
use Rattle.block_text.proofs.text.block_text.Given as goal

abbrev pub invariant-loop-place : goal.invariant-loop-place
invariant-loop-place l = IsMade l.source l.number l.block l.place l.instrs.items l.numbers.items
