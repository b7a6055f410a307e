-- The lists of a function are no longer than its items.
use Rattle.std.proofs.Common.{◌≡◌, ◌<◌, ◌≤◌, ◌+◌, ◌*◌, ◌^◌, ℕ, suc, Bool, true, false, cond, not, List, [], ◌∷◌, length, refl, arith}
use Rattle.std.specs.Prelude.{count_by, sum_by}
use Rattle.std.proofs.lemmas.List.Sums.{sum_by-cons, count_by-le-length}
use Rattle.ir_types.specs.Limits.{raw_slot_count}
use Rattle.ir_types.specs.Size.{block_items, function_items, term_items}
use Rattle.ir_types.specs.Rules.{Reached}
use Rattle.ir_types.specs.declared.tree.RawInstr.{RawInstr}
use Rattle.ir_types.specs.declared.tree.RawTerm.{RawTerm}
use Rattle.ir_types.specs.declared.tree.RawTerm.TheVariants.{Return, Jump, Branch, Switch, Unreachable}
use Rattle.ir_types.specs.declared.tree.RawBlock.{RawBlock}
use Rattle.ir_types.specs.declared.tree.RawFunction.{RawFunction}
use Rattle.ir_check.specs.Room.{blocks_size}

one_each : (b : Bool) (others some all : ℕ) → others + some ≡ all → (cond (not b) 1 0 + others) + (cond b 1 0 + some) ≡ suc all
one_each true others some all e = omega arith
one_each false others some all e = omega arith

-- each instruction passes a test, or is one of the others
pub others_counted : (p : RawInstr → Bool) (xs : List RawInstr) → count_by (λ x. not (p x)) xs + count_by p xs ≡ length xs
others_counted p [] = refl
others_counted p (x ∷ xs) =
    rw (sum_by-cons (λ (x : RawInstr). cond (not (p x)) 1 0) x xs, sum_by-cons (λ (x : RawInstr). cond (p x) 1 0) x xs) (one_each (p x) _ _ _ (others_counted p xs))

-- a count of each block's instructions is no more than all items
counts_below : (p : RawInstr → Bool) (bs : List RawBlock) → sum_by (λ b. count_by p b.instrs) bs ≤ sum_by block_items bs
counts_below p [] = omega arith
counts_below p (b ∷ bs) = omega (arith, sum_by-cons (λ (b : RawBlock). count_by p b.instrs) b bs, sum_by-cons block_items b bs, count_by-le-length p b.instrs, counts_below p bs)

slots_below_term : (t : RawTerm) → raw_slot_count t ≤ 2 + term_items t
slots_below_term (Return v) = omega arith
slots_below_term (Jump t) = omega arith
slots_below_term (Branch c t e) = omega arith
slots_below_term (Switch w v o cases) = omega arith
slots_below_term Unreachable = omega arith

slots_below : (bs : List RawBlock) → sum_by (λ b. raw_slot_count b.term) bs ≤ 2 * length bs + sum_by block_items bs
slots_below [] = omega arith
slots_below (b ∷ bs) = omega (arith, sum_by-cons (λ (b : RawBlock). raw_slot_count b.term) b bs, sum_by-cons block_items b bs, slots_below_term b.term, slots_below bs)

size_below : (bs : List RawBlock) → blocks_size bs ≤ length bs + sum_by block_items bs
unfolding blocks_size
size_below [] = omega arith
size_below (b ∷ bs) = omega (arith, sum_by-cons block_items b bs, size_below bs)

module _ (f : RawFunction) (bs : List RawBlock) where
  pub few_counts : (p : RawInstr → Bool) → function_items f ≤ 2 ^ 26 → bs ≡ f.blocks → sum_by (λ b. count_by p b.instrs) bs < 18446744073709551616
  few_counts p few e = rw e (omega (arith, counts_below p f.blocks))

  pub few_slots : function_items f ≤ 2 ^ 26 → bs ≡ f.blocks → sum_by (λ b. raw_slot_count b.term) bs < 18446744073709551616
  few_slots few e = rw e (omega (arith, slots_below f.blocks))

  -- there is room for all blocks behind the parameters
  pub room_for_all : (r : Reached) → function_items f ≤ 2 ^ 26 → bs ≡ f.blocks → r.block ≡ 0 → r.variables ≡ 0 → r.block + r.variables + blocks_size bs < 4294967296
  room_for_all r few e none none' = rw e (omega (arith, size_below f.blocks))
