-- The literal of a constant is in its range, and counts the constant.
use Rattle.std.proofs.Common.{◌≡◌, ◌<◌, ◌+◌, ◌-◌, ◌^◌, ◌==◌, not, nat_lt, ℕ, zero, suc, pos, negsuc, Bool, true, false, None, Some, if◌then◌else◌, refl, ap, arith}
use Rattle.std.proofs.lemmas.Bool.Decides.{nat_tests}
use Rattle.mc_num.specs.Op.{bits}
use Rattle.mc_num.specs.declared.op.Width.{Width}
use Rattle.mc_num.specs.declared.op.Width.TheVariants.{I1, I8, I16, I32, I64}
use Rattle.ir_types.specs.Literals.{is_in_range, residue, literal_value}
use Rattle.ir_types.specs.ModuleOf.{operand_of}
use Rattle.ir_types.specs.TreeOf.{literal_of}
use Rattle.ir_types.specs.Uses.{Context, item_problem}
use Rattle.ir_types.specs.declared.rules.Here.{Here}
use Rattle.ir_types.specs.declared.rules.Rule.TheVariants as rule
use Rattle.ir_types.specs.declared.span.Span.{Span}
use Rattle.ir_types.specs.declared.syntax.Operand.TheVariants.{Const}
use Rattle.module_trees.proofs.Problems.{unbroken}

in_range : (w : Width) (n : ℕ) (b : Bool) → n < 2 ^ bits w → nat_lt n (2 ^ (bits w - 1)) ≡ b → is_in_range w (if b then pos n else negsuc (2 ^ bits w - (n + 1))) ≡ true
in_range I1 n true h e = grind (arith, nat_tests)
in_range I1 n false h e = grind (arith, nat_tests)
in_range I8 n true h e = grind (arith, nat_tests)
in_range I8 n false h e = grind (arith, nat_tests)
in_range I16 n true h e = grind (arith, nat_tests)
in_range I16 n false h e = grind (arith, nat_tests)
in_range I32 n true h e = grind (arith, nat_tests)
in_range I32 n false h e = grind (arith, nat_tests)
in_range I64 n true h e = grind (arith, nat_tests)
in_range I64 n false h e = grind (arith, nat_tests)

and_back : (w : Width) (n : ℕ) (b : Bool) → n < 2 ^ bits w → residue w (if b then pos n else negsuc (2 ^ bits w - (n + 1))) ≡ n
and_back I1 n true h = omega arith
and_back I1 n false h = omega arith
and_back I8 n true h = omega arith
and_back I8 n false h = omega arith
and_back I16 n true h = omega arith
and_back I16 n false h = omega arith
and_back I32 n true h = omega arith
and_back I32 n false h = omega arith
and_back I64 n true h = omega arith
and_back I64 n false h = omega arith

one_bit : (n : ℕ) → n < 2 → (if n == 1 then 1 else 0) ≡ n
one_bit zero h = refl
one_bit (suc zero) h = refl
one_bit (suc (suc n)) h = absurd (omega arith)

-- the literal of a constant at a width
pub record IsMeantLiteral (c : Context) (here : Here) (w : Width) (n : ℕ) (s : Span) : Type 0 where
  pub problem : item_problem c here w false s (literal_of w n) ≡ None
  pub counts : literal_value w (literal_of w n) ≡ Some n
  pub means : operand_of c w (literal_of w n) ≡ Const n

module _ (c : Context) (here : Here) (s : Span) where
  pub literal_meant : (w : Width) (n : ℕ) → n < 2 ^ bits w → IsMeantLiteral c here w n s
  literal_meant I1 n h = record { problem = refl; counts = ap Some (one_bit n h); means = ap Const (one_bit n h) }
  literal_meant I8 n h = record {
    problem = unbroken rule.ConstantRange s _ (ap not (in_range I8 n (nat_lt n (2 ^ (bits I8 - 1))) h refl));
    counts = ap Some (and_back I8 n (nat_lt n (2 ^ (bits I8 - 1))) h);
    means = ap Const (and_back I8 n (nat_lt n (2 ^ (bits I8 - 1))) h);
  }
  literal_meant I16 n h = record {
    problem = unbroken rule.ConstantRange s _ (ap not (in_range I16 n (nat_lt n (2 ^ (bits I16 - 1))) h refl));
    counts = ap Some (and_back I16 n (nat_lt n (2 ^ (bits I16 - 1))) h);
    means = ap Const (and_back I16 n (nat_lt n (2 ^ (bits I16 - 1))) h);
  }
  literal_meant I32 n h = record {
    problem = unbroken rule.ConstantRange s _ (ap not (in_range I32 n (nat_lt n (2 ^ (bits I32 - 1))) h refl));
    counts = ap Some (and_back I32 n (nat_lt n (2 ^ (bits I32 - 1))) h);
    means = ap Const (and_back I32 n (nat_lt n (2 ^ (bits I32 - 1))) h);
  }
  literal_meant I64 n h = record {
    problem = unbroken rule.ConstantRange s _ (ap not (in_range I64 n (nat_lt n (2 ^ (bits I64 - 1))) h refl));
    counts = ap Some (and_back I64 n (nat_lt n (2 ^ (bits I64 - 1))) h);
    means = ap Const (and_back I64 n (nat_lt n (2 ^ (bits I64 - 1))) h);
  }
