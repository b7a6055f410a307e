-- The value of an operation, over whole numbers.
use Rattle.std.specs.Prelude.{ℕ, ◌+◌, ◌-◌, ◌*◌, ◌/◌, ◌%◌, ◌^◌, ◌<◌, ◌≡◌, ◌==◌, ◌&&◌, ◌||◌, not, Bool, true, false, nat_lt, nat_le, if◌then◌else◌, ℤ, pos, negsuc, ◌+ℤ◌, ◌-ℤ◌, ◌*ℤ◌, int_lt, int_le, int_div, int_rem, unsigned_abs, bit_and, bit_or, bit_xor, List, [], ◌∷◌, slice_get, Result, Ok, Err, Option, Some, None}
use Rattle.std.specs.Int.{int_rem_euclid}
use Rattle.mc_num.specs.Op.{bits, argument_widths}
use Rattle.mc_num.specs.declared.op.Width.{Width}
use Rattle.mc_num.specs.declared.op.Bin as operations
use Rattle.mc_num.specs.declared.op.Bin.TheVariants.{Add, Sub, Mul, UDiv, SDiv, URem, SRem, Shl, LShr, AShr, And, Or, Xor}
use Rattle.mc_num.specs.declared.op.Pred.{Pred}
use Rattle.mc_num.specs.declared.op.Pred.TheVariants.{Eq, Ne, Ugt, Uge, Ult, Ule, Sgt, Sge, Slt, Sle}
use Rattle.mc_num.specs.declared.op.Cast as casts
use Rattle.mc_num.specs.declared.op.Cast.TheVariants.{Zext, Sext, Trunc, Bitcast}
use Rattle.mc_num.specs.declared.op.Op.{Op}
use Rattle.mc_num.specs.declared.op.Op.TheVariants.{Bin, Icmp, Cast, Select}
use Rattle.mc_num.specs.declared.op.Trap.{Trap}
use Rattle.mc_num.specs.declared.op.Trap.TheVariants.{DivZero, DivOverflow, Unreachable}

-- x of width w read as a signed number: x, or x - 2^w where x is at least 2^(w-1). `negsuc k` is -(k + 1)
abbrev pub signed : Width → ℕ → ℤ
signed w x = if nat_lt x (2 ^ (bits w - 1)) then pos x else negsuc (2 ^ bits w - (x + 1))

-- a whole number modulo 2^w
abbrev pub modulo : Width → ℤ → ℕ
modulo w z = unsigned_abs (int_rem_euclid z (pos (2 ^ bits w)))

-- the least signed value of width w, and -1
abbrev pub least : Width → ℕ
least w = 2 ^ (bits w - 1)

abbrev pub minus_one : Width → ℕ
minus_one w = 2 ^ bits w - 1

-- a whole number divided by 2^k, rounded down
abbrev pub halved : ℕ → ℤ → ℤ
halved k (pos n) = pos (n / 2 ^ k)
halved k (negsuc n) = negsuc (n / 2 ^ k)

-- unsigned division and remainder trap at the divisor 0
abbrev pub unsigned_by : (ℕ → ℕ → ℕ) → ℕ → ℕ → Result ℕ Trap
unsigned_by f x y = if y == 0 then Err DivZero else Ok (f x y)

-- signed division and remainder trap at the divisor 0, and at the least value by -1
abbrev pub signed_by : (ℤ → ℤ → ℤ) → Width → ℕ → ℕ → Result ℕ Trap
signed_by f w x y = if y == 0 then Err DivZero else if (x == least w) && (y == minus_one w) then Err DivOverflow else Ok (modulo w (f (signed w x) (signed w y)))

-- shifts: by w or more a left or a logical shift gives 0, and an arithmetic one w copies of the sign bit
abbrev pub shifted_left : Width → ℕ → ℕ → ℕ
shifted_left w x y = if nat_lt y (bits w) then (x * 2 ^ y) % 2 ^ bits w else 0

abbrev pub shifted_right : Width → ℕ → ℕ → ℕ
shifted_right w x y = if nat_lt y (bits w) then x / 2 ^ y else 0

abbrev pub sign_shifted : Width → ℕ → ℕ → ℕ
sign_shifted w x y = if nat_lt y (bits w) then modulo w (halved y (signed w x)) else if nat_lt x (least w) then 0 else minus_one w

-- an operation on two integers of width w. `int_div` rounds towards zero, and `int_rem` has the dividend's sign
abbrev pub binary_value : operations.Bin → Width → ℕ → ℕ → Result ℕ Trap
binary_value Add w x y = Ok (modulo w (pos x +ℤ pos y))
binary_value Sub w x y = Ok (modulo w (pos x -ℤ pos y))
binary_value Mul w x y = Ok (modulo w (pos x *ℤ pos y))
binary_value UDiv w x y = unsigned_by (λ a b. a / b) x y
binary_value SDiv w x y = signed_by int_div w x y
binary_value URem w x y = unsigned_by (λ a b. a % b) x y
binary_value SRem w x y = signed_by int_rem w x y
binary_value Shl w x y = Ok (shifted_left w x y)
binary_value LShr w x y = Ok (shifted_right w x y)
binary_value AShr w x y = Ok (sign_shifted w x y)
binary_value And w x y = Ok (bit_and x y)
binary_value Or w x y = Ok (bit_or x y)
binary_value Xor w x y = Ok (bit_xor x y)

-- whether a comparison holds
abbrev pub compares : Pred → Width → ℕ → ℕ → Bool
compares Eq w x y = x == y
compares Ne w x y = not (x == y)
compares Ugt w x y = nat_lt y x
compares Uge w x y = nat_le y x
compares Ult w x y = nat_lt x y
compares Ule w x y = nat_le x y
compares Sgt w x y = int_lt (signed w y) (signed w x)
compares Sge w x y = int_le (signed w y) (signed w x)
compares Slt w x y = int_lt (signed w x) (signed w y)
compares Sle w x y = int_le (signed w x) (signed w y)

-- a change of width: an extension keeps the number, read as signed for `sext`, and a truncation takes it modulo 2 to the new width
abbrev pub cast_value : casts.Cast → Width → Width → ℕ → ℕ
cast_value Zext from to x = x
cast_value Sext from to x = modulo to (signed from x)
cast_value Trunc from to x = x % 2 ^ bits to
cast_value Bitcast from to x = x

-- the operation's value, or the trap. Another number of arguments never comes
abbrev pub value_of : Op → List ℕ → Result ℕ Trap
value_of (Bin bin w) (x ∷ y ∷ []) = binary_value bin w x y
value_of (Icmp pred w) (x ∷ y ∷ []) = Ok (if compares pred w x y then 1 else 0)
value_of (Cast cast from to) (x ∷ []) = Ok (cast_value cast from to x)
value_of (Select w) (c ∷ x ∷ y ∷ []) = Ok (if c == 1 then x else y)
value_of _ _ = Err Unreachable

-- one argument per width, each below 2 to its width
abbrev pub HaveWidths : List Width → List ℕ → Type 0
HaveWidths [] [] = Unit {0}
HaveWidths (w ∷ ws) (x ∷ xs) = (x < 2 ^ bits w) × HaveWidths ws xs
HaveWidths _ _ = ⊥

-- the arguments agree with what is known of the divisor, the second of them
abbrev pub AgreeWith : Option ℕ → List ℕ → Type 0
AgreeWith None args = Unit {0}
AgreeWith (Some divisor) args = slice_get args 1 ≡ Some divisor

-- some arguments that agree with the known divisor trap
pub record CanTrap (op : Op) (divisor : Option ℕ) : Type 0 where
  pub args : List ℕ
  pub fit : HaveWidths (argument_widths op) args
  pub agree : AgreeWith divisor args
  pub trap : Trap
  pub traps : value_of op args ≡ Err trap

-- what a divisor may be, as far as it is known
abbrev pub is_zero_or_unknown : Option ℕ → Bool
is_zero_or_unknown None = true
is_zero_or_unknown (Some divisor) = divisor == 0

abbrev pub is_minus_one : Width → Option ℕ → Bool
is_minus_one w None = false
is_minus_one w (Some divisor) = divisor == minus_one w

-- what can be said from the operation and its divisor alone: a division or a remainder whose divisor is no known constant, or 0,
-- or, if it is signed, -1
abbrev pub traps_at : Op → Option ℕ → Bool
traps_at (Bin UDiv w) divisor = is_zero_or_unknown divisor
traps_at (Bin URem w) divisor = is_zero_or_unknown divisor
traps_at (Bin SDiv w) divisor = is_zero_or_unknown divisor || is_minus_one w divisor
traps_at (Bin SRem w) divisor = is_zero_or_unknown divisor || is_minus_one w divisor
traps_at _ divisor = false

-- a known divisor of a division or a remainder is below 2 to its width
abbrev pub DivisorFits : Op → Option ℕ → Type 0
DivisorFits (Bin UDiv w) (Some divisor) = divisor < 2 ^ bits w
DivisorFits (Bin URem w) (Some divisor) = divisor < 2 ^ bits w
DivisorFits (Bin SDiv w) (Some divisor) = divisor < 2 ^ bits w
DivisorFits (Bin SRem w) (Some divisor) = divisor < 2 ^ bits w
DivisorFits _ _ = Unit {0}
