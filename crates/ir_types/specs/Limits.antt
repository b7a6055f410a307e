-- How much a function may have.
use Rattle.std.specs.Prelude.{ℕ, ◌≤◌, ◌+◌, ◌^◌, ◌||◌, nat_lt, not, Bool, true, false, length, sum_by, count_by}
use Rattle.ir_types.specs.declared.syntax.Terminator.{Terminator}
use Rattle.ir_types.specs.declared.syntax.Terminator.TheVariants as terms
use Rattle.ir_types.specs.declared.syntax.Function.{Function}
use Rattle.ir_types.specs.declared.tree.RawKind.{RawKind}
use Rattle.ir_types.specs.declared.tree.RawKind.TheVariants.{Alloca}
use Rattle.ir_types.specs.declared.tree.RawTerm.{RawTerm}
use Rattle.ir_types.specs.declared.tree.RawTerm.TheVariants.{Return, Jump, Branch, Switch, Unreachable}
use Rattle.ir_types.specs.declared.tree.RawFunction.{RawFunction}

abbrev pub is_alloca : RawKind → Bool
is_alloca (Alloca _) = true
is_alloca _ = false

-- how many ways lead out of a terminator
abbrev pub raw_slot_count : RawTerm → ℕ
raw_slot_count (Return _) = 0
raw_slot_count (Jump _) = 1
raw_slot_count (Branch _ _ _) = 2
raw_slot_count (Switch _ _ _ cases) = 1 + length cases
raw_slot_count Unreachable = 0

abbrev pub slot_count : Terminator → ℕ
slot_count (terms.Return _) = 0
slot_count (terms.Jump _) = 1
slot_count (terms.Branch _ _ _) = 2
slot_count (terms.Switch _ _ _ cases) = 1 + length cases
slot_count terms.Unreachable = 0

-- more than 2^18 instructions (allocas are none), 2^16 blocks, 2^17 slots or 2^20 variables
abbrev pub is_above : ℕ → ℕ → ℕ → ℕ → Bool
is_above instrs blocks slots variables = nat_lt (2 ^ 18) instrs || nat_lt (2 ^ 16) blocks || nat_lt (2 ^ 17) slots || nat_lt (2 ^ 20) variables

-- the function of a tree has too much
abbrev pub is_above_limits : RawFunction → Bool
is_above_limits f = is_above
    (sum_by (λ b. count_by (λ x. not (is_alloca x.kind)) b.instrs) f.blocks)
    (length f.blocks)
    (sum_by (λ b. raw_slot_count b.term) f.blocks)
    (sum_by (λ b. count_by (λ x. is_alloca x.kind) b.instrs) f.blocks)

-- the function of a module has no more than it may
pub record IsWithinLimits (f : Function) : Type 0 where
  pub instrs : sum_by (λ b. length b.instrs) f.blocks ≤ 2 ^ 18
  pub blocks : length f.blocks ≤ 2 ^ 16
  pub slots : sum_by (λ b. slot_count b.term) f.blocks ≤ 2 ^ 17
  pub vars : length f.vars ≤ 2 ^ 20
