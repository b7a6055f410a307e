-- An operation traps only where it can.
use Rattle.std.proofs.Common.{◌≡◌, ℕ, suc, ◌/◌, ◌%◌, Bool, true, false, List, [], ◌∷◌, length, map, Option, Some, None, Result, Ok, Err, arith, ◌==◌, ◌&&◌, ◌||◌, if◌then◌else◌, refl, slice_get, int_div, int_rem, ap, ◌∙◌, subst}
use Rattle.mc_num.specs.Op.{argument_widths}
use Rattle.mc_num.specs.Value.{value_of, AgreeWith, traps_at, least, minus_one, binary_value, signed, modulo}
use Rattle.mc_num.specs.declared.op.Width.{Width}
use Rattle.mc_num.specs.declared.op.Bin as operations
use Rattle.mc_num.specs.declared.op.Bin.TheVariants.{Add, Sub, Mul, UDiv, SDiv, URem, SRem, Shl, LShr, AShr, And, Or, Xor}
use Rattle.mc_num.specs.declared.op.Op.{Op}
use Rattle.mc_num.specs.declared.op.Op.TheVariants.{Bin, Icmp, Cast, Select}
use Rattle.mc_num.specs.declared.op.Trap.{Trap}
use Rattle.mc_num.specs.declared.op.Trap.TheVariants.{DivZero, DivOverflow}
use Rattle.ir_types.specs.declared.syntax.Operand.{Operand}
use Rattle.ir_types.specs.declared.syntax.Operand.TheVariants.{Const, Param, Reg}
use Rattle.ir_machine.specs.declared.frame.Frame.{Frame}
use Rattle.ir_machine.specs.Step.{Globals, value_in}
use Rattle.expressions.specs.declared.syntax.Arg.{Arg}
use Rattle.expressions.specs.declared.syntax.Arg.TheVariants.{Const as ConstArg, Param as ParamArg, Var as VarArg}
use Rattle.expressions.specs.declared.syntax.Expr.{Expr}
use Rattle.expressions.specs.Expressions.{constant_operand, constant_arg, expr_traps}
use Rattle.applied.specs.Motion.{arg_in, expr_in}

-- a value is no trap, and a test that fails leaves none
ok_is_no_trap : (n : ℕ) (t : Trap) → ◌≡◌ {A = Result ℕ Trap} (Ok n) (Err t) → ⊥
ok_is_no_trap n t e = cc

unsigned_traps : (z : Bool) (n : ℕ) (t : Trap) → ◌≡◌ {A = Result ℕ Trap} (if z then Err DivZero else Ok n) (Err t) → z ≡ true
unsigned_traps true n t e = refl
unsigned_traps false n t e = absurd (ok_is_no_trap n t e)

signed_traps : (z a b : Bool) (n : ℕ) (t : Trap) → ◌≡◌ {A = Result ℕ Trap} (if z then Err DivZero else if a && b then Err DivOverflow else Ok n) (Err t) → (z || b) ≡ true
signed_traps true a b n t e = refl
signed_traps false true true n t e = refl
signed_traps false false b n t e = absurd (ok_is_no_trap n t e)
signed_traps false true false n t e = absurd (ok_is_no_trap n t e)

divisor_is : (x y d : ℕ) → slice_get (x ∷ y ∷ []) 1 ≡ Some d → y ≡ d
divisor_is x y d e = cc

along : (y d : ℕ) (f : ℕ → Bool) → y ≡ d → f y ≡ true → f d ≡ true
along y d f e h = subst (λ k. f k ≡ true) e h

two_tested : (bin : operations.Bin) (w : Width) (known : Option ℕ) (x y : ℕ) (t : Trap) → AgreeWith known (x ∷ y ∷ []) → binary_value bin w x y ≡ Err t → traps_at (Bin bin w) known ≡ true
two_tested UDiv w None x y t a e = refl
two_tested URem w None x y t a e = refl
two_tested SDiv w None x y t a e = refl
two_tested SRem w None x y t a e = refl
two_tested UDiv w (Some d) x y t a e = along y d (λ k. k == 0) (divisor_is x y d a) (unsigned_traps (y == 0) (x / y) t e)
two_tested URem w (Some d) x y t a e = along y d (λ k. k == 0) (divisor_is x y d a) (unsigned_traps (y == 0) (x % y) t e)
two_tested SDiv w (Some d) x y t a e = along y d (λ k. (k == 0) || (k == minus_one w)) (divisor_is x y d a) (signed_traps (y == 0) (x == least w) (y == minus_one w) (modulo w (int_div (signed w x) (signed w y))) t e)
two_tested SRem w (Some d) x y t a e = along y d (λ k. (k == 0) || (k == minus_one w)) (divisor_is x y d a) (signed_traps (y == 0) (x == least w) (y == minus_one w) (modulo w (int_rem (signed w x) (signed w y))) t e)
two_tested Add w known x y t a e = absurd (ok_is_no_trap _ t e)
two_tested Sub w known x y t a e = absurd (ok_is_no_trap _ t e)
two_tested Mul w known x y t a e = absurd (ok_is_no_trap _ t e)
two_tested Shl w known x y t a e = absurd (ok_is_no_trap _ t e)
two_tested LShr w known x y t a e = absurd (ok_is_no_trap _ t e)
two_tested AShr w known x y t a e = absurd (ok_is_no_trap _ t e)
two_tested And w known x y t a e = absurd (ok_is_no_trap _ t e)
two_tested Or w known x y t a e = absurd (ok_is_no_trap _ t e)
two_tested Xor w known x y t a e = absurd (ok_is_no_trap _ t e)

-- with as many numbers as the operation takes
traps_only : (op : Op) (known : Option ℕ) (values : List ℕ) (t : Trap) → length values ≡ length (argument_widths op) → AgreeWith known values → value_of op values ≡ Err t → traps_at op known ≡ true
traps_only (Bin bin w) known (x ∷ y ∷ []) t len agree e = two_tested bin w known x y t agree e
traps_only (Bin bin w) known [] t len agree e = absurd (omega (arith, len))
traps_only (Bin bin w) known (x ∷ []) t len agree e = absurd (omega (arith, len))
traps_only (Bin bin w) known (x ∷ y ∷ z ∷ zs) t len agree e = absurd (omega (arith, len))
traps_only (Icmp pred w) known (x ∷ y ∷ []) t len agree e = absurd (ok_is_no_trap _ t e)
traps_only (Icmp pred w) known [] t len agree e = absurd (omega (arith, len))
traps_only (Icmp pred w) known (x ∷ []) t len agree e = absurd (omega (arith, len))
traps_only (Icmp pred w) known (x ∷ y ∷ z ∷ zs) t len agree e = absurd (omega (arith, len))
traps_only (Cast cast from to) known (x ∷ []) t len agree e = absurd (ok_is_no_trap _ t e)
traps_only (Cast cast from to) known [] t len agree e = absurd (omega (arith, len))
traps_only (Cast cast from to) known (x ∷ y ∷ ys) t len agree e = absurd (omega (arith, len))
traps_only (Select w) known (x ∷ y ∷ z ∷ []) t len agree e = absurd (ok_is_no_trap _ t e)
traps_only (Select w) known [] t len agree e = absurd (omega (arith, len))
traps_only (Select w) known (x ∷ []) t len agree e = absurd (omega (arith, len))
traps_only (Select w) known (x ∷ y ∷ []) t len agree e = absurd (omega (arith, len))
traps_only (Select w) known (x ∷ y ∷ z ∷ v ∷ vs) t len agree e = absurd (omega (arith, len))

length_map : {A B : Type 0} (f : A → B) (xs : List A) → length (map f xs) ≡ length xs
length_map f [] = refl
length_map f (x ∷ xs) = ap suc (length_map f xs)

-- the values agree with the divisor that is a constant
operands_agree : (f : Frame) (operands : List Operand) → AgreeWith (constant_operand (slice_get operands 1)) (map (value_in f) operands)
operands_agree f [] = tt
operands_agree f (a ∷ []) = tt
operands_agree f (a ∷ Const value ∷ rest) = refl
operands_agree f (a ∷ Param p ∷ rest) = tt
operands_agree f (a ∷ Reg r ∷ rest) = tt

args_agree : (globals : Globals) (f : Frame) (args : List Arg) → AgreeWith (constant_arg (slice_get args 1)) (map (arg_in globals f) args)
args_agree globals f [] = tt
args_agree globals f (a ∷ []) = tt
args_agree globals f (a ∷ ConstArg value ∷ rest) = refl
args_agree globals f (a ∷ ParamArg p ∷ rest) = tt
args_agree globals f (a ∷ VarArg x ∷ rest) = tt

ok_unless : (r : Result ℕ Trap) (q : Bool) → ((t : Trap) → r ≡ Err t → q ≡ true) → ¬ (q ≡ true) → (v : ℕ) × (r ≡ Ok v)
ok_unless (Ok v) q traps safe = (v, refl)
ok_unless (Err t) q traps safe = absurd (safe (traps t refl))

-- an operation that can't trap has a value
pub computes_ok : (op : Op) (f : Frame) (operands : List Operand) → length operands ≡ length (argument_widths op) → ¬ (traps_at op (constant_operand (slice_get operands 1)) ≡ true) → (v : ℕ) × (value_of op (map (value_in f) operands) ≡ Ok v)
computes_ok op f operands len safe =
    ok_unless _ _ (λ t e. traps_only op _ (map (value_in f) operands) t (length_map (value_in f) operands ∙ len) (operands_agree f operands) e) safe

-- an expression that traps can trap
pub expr_can_trap : (globals : Globals) (f : Frame) (e : Expr) (t : Trap) → length e.args ≡ length (argument_widths e.op) → expr_in globals f e ≡ Err t → expr_traps e ≡ true
expr_can_trap globals f e t len is =
    traps_only e.op _ (map (arg_in globals f) e.args) t (length_map (arg_in globals f) e.args ∙ len) (args_agree globals f e.args) is
