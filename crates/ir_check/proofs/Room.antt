-- The numbers of places fit.
use Rattle.std.proofs.Common.{◌≡◌, ◌<◌, ◌≤◌, ◌+◌, ◌^◌, ℕ, List, [], ◌∷◌, length, get_or, drop, refl, ap, ◌∙◌, arith}
use Rattle.ir_types.specs.Rules.{Reached, after_instr, after_instrs, at_block, after_block}
use Rattle.ir_types.specs.declared.tree.RawInstr.{RawInstr}
use Rattle.ir_types.specs.declared.tree.RawBlock.{RawBlock}
use Rattle.ir_check.specs.Room.{blocks_size}
use Rattle.ir_uses.proofs.Steps.{drop_at}
use Rattle.ir_check.proofs.Steps.{counted}

-- each instruction is a variable, or one that counts in its block
pub all_counted : (r : Reached) (xs : List RawInstr) → (after_instrs r xs).variables + (after_instrs r xs).instrs ≡ r.variables + r.instrs + length xs
unfolding after_instrs
all_counted r [] = omega arith
all_counted r (x ∷ xs) = omega (arith, all_counted (after_instr r x) xs, counted r x)

same_block : (r : Reached) (xs : List RawInstr) → (after_instrs r xs).block ≡ r.block
unfolding after_instrs
same_block r [] = refl
same_block r (x ∷ xs) = same_block (after_instr r x) xs

-- one block less is left
pub room_after : (r : Reached) (bs : List RawBlock) (i : ℕ) (b : RawBlock) → i < length bs → b ≡ get_or bs i b
    → (after_block r b).block + (after_block r b).variables + blocks_size (drop (i + 1) bs) ≤ r.block + r.variables + blocks_size (drop i bs)
unfolding blocks_size
room_after r bs i b l e = rw (drop_at bs i b l e) (omega (arith, all_counted (at_block r b) b.instrs, same_block (at_block r b) b.instrs))

-- the next block fits
pub room_for : (bs : List RawBlock) (i : ℕ) (b : RawBlock) → i < length bs → b ≡ get_or bs i b → 1 + length b.instrs ≤ blocks_size (drop i bs)
unfolding blocks_size
room_for bs i b l e = rw (drop_at bs i b l e) (omega arith)

-- behind the instructions the block is the same, so it can be left
pub room_left : (b : RawBlock) (r entered s : Reached) (xs : List RawInstr) → entered ≡ at_block r b → xs ≡ b.instrs → s ≡ after_instrs entered xs → r.block + 1 < 2 ^ 32 → s.block + 1 < 4294967296
room_left b r entered s xs e f g h =
    let same : s.block ≡ r.block = ap (λ (t : Reached). t.block) g ∙ (same_block entered xs ∙ ap (λ (t : Reached). t.block) e) in
    omega (arith, same)
