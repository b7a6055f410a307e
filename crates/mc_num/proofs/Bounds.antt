-- The value of an operation is below 2 to its width.
use Rattle.std.proofs.Common.{◌≡◌, ℕ, ◌*◌, ◌/◌, ◌%◌, ◌^◌, ◌<◌, ◌≤◌, Bool, true, false, List, [], ◌∷◌, Result, Ok, Err, IfOk, ℤ, pos, negsuc, ◌+ℤ◌, ◌-ℤ◌, ◌*ℤ◌, arith, nat_lt, ◌==◌, ◌&&◌, if◌then◌else◌, int_div, int_rem, subst, sym, get_or, bit_and}
use Rattle.std.proofs.lemmas.Nat.{or_lt, xor_lt, and_le_l, mod_below, pow_below}
use Rattle.std.proofs.Math.Nat.{div-le_self, mod-le}
use Rattle.mc_num.specs.Op.{bits, argument_widths, result_width, IsWellFormedOp}
use Rattle.mc_num.specs.Value.{value_of, binary_value, compares, cast_value, modulo, signed, HaveWidths, signed_by, halved, least, minus_one}
use Rattle.mc_num.specs.declared.op.Width.{Width}
use Rattle.mc_num.specs.declared.op.Width.TheVariants.{I1, I8, I16, I32, I64}
use Rattle.mc_num.specs.declared.op.Bin as operations
use Rattle.mc_num.specs.declared.op.Bin.TheVariants.{Add, Sub, Mul, UDiv, SDiv, URem, SRem, Shl, LShr, AShr, And, Or, Xor}
use Rattle.mc_num.specs.declared.op.Cast as casts
use Rattle.mc_num.specs.declared.op.Cast.TheVariants.{Zext, Sext, Trunc, Bitcast}
use Rattle.mc_num.specs.declared.op.Op.{Op}
use Rattle.mc_num.specs.declared.op.Op.TheVariants.{Bin, Icmp, Cast, Select}
use Rattle.mc_num.specs.declared.op.Trap.{Trap}
use Rattle.mc_num.specs.declared.op.Trap.TheVariants.{DivZero, DivOverflow}

some_values : (w : Width) → 0 < 2 ^ bits w
some_values I1 = omega arith
some_values I8 = omega arith
some_values I16 = omega arith
some_values I32 = omega arith
some_values I64 = omega arith

residue_fits : (w : Width) (n : ℕ) → n % 2 ^ bits w < 2 ^ bits w
residue_fits w n = mod_below n (2 ^ bits w) (some_values w)

modulo_fits : (w : Width) (z : ℤ) → modulo w z < 2 ^ bits w
modulo_fits w (pos n) = residue_fits w n
modulo_fits w (negsuc n) = let h : 0 < 2 ^ bits w = some_values w in omega arith

chosen_fits : (c : Bool) (w : Width) (m n : ℕ) → m < 2 ^ bits w → n < 2 ^ bits w → (if c then m else n) < 2 ^ bits w
chosen_fits true w m n h k = h
chosen_fits false w m n h k = k

unsigned_fits : (z : Bool) (w : Width) (n : ℕ) (t : Trap) → n < 2 ^ bits w → IfOk (if z then Err t else Ok n) (λ v. v < 2 ^ bits w)
unsigned_fits true w n t h = tt
unsigned_fits false w n t h = h

signed_fits : (z o : Bool) (w : Width) (n : ℕ) (s t : Trap) → n < 2 ^ bits w → IfOk (if z then Err s else if o then Err t else Ok n) (λ v. v < 2 ^ bits w)
signed_fits true o w n s t h = tt
signed_fits false true w n s t h = tt
signed_fits false false w n s t h = h

signed_value_fits : (f : ℤ → ℤ → ℤ) (w : Width) (x y : ℕ) → IfOk (signed_by f w x y) (λ v. v < 2 ^ bits w)
signed_value_fits f w x y =
    let z = f (signed w x) (signed w y) in
    signed_fits (y == 0) ((x == least w) && (y == minus_one w)) w (modulo w z) DivZero DivOverflow (modulo_fits w z)

quotient_fits : (x y k : ℕ) → x < k → x / y < k
quotient_fits x y k h = let e : x / y ≤ x = div-le_self x y in omega arith

remainder_fits : (x y k : ℕ) → x < k → x % y < k
remainder_fits x y k h = let e : x % y ≤ x = mod-le x y in omega arith

minus_one_fits : (w : Width) → minus_one w < 2 ^ bits w
minus_one_fits w = let h : 0 < 2 ^ bits w = some_values w in omega arith

pub binary_fits : (bin : operations.Bin) (w : Width) (x y : ℕ) → x < 2 ^ bits w → y < 2 ^ bits w → IfOk (binary_value bin w x y) (λ v. v < 2 ^ bits w)
binary_fits Add w x y h k = modulo_fits w (pos x +ℤ pos y)
binary_fits Sub w x y h k = modulo_fits w (pos x -ℤ pos y)
binary_fits Mul w x y h k = modulo_fits w (pos x *ℤ pos y)
binary_fits UDiv w x y h k = unsigned_fits (y == 0) w (x / y) DivZero (quotient_fits x y _ h)
binary_fits SDiv w x y h k = signed_value_fits int_div w x y
binary_fits URem w x y h k = unsigned_fits (y == 0) w (x % y) DivZero (remainder_fits x y _ h)
binary_fits SRem w x y h k = signed_value_fits int_rem w x y
binary_fits Shl w x y h k = chosen_fits (nat_lt y (bits w)) w ((x * 2 ^ y) % 2 ^ bits w) 0 (residue_fits w (x * 2 ^ y)) (some_values w)
binary_fits LShr w x y h k = chosen_fits (nat_lt y (bits w)) w (x / 2 ^ y) 0 (quotient_fits x (2 ^ y) _ h) (some_values w)
binary_fits AShr w x y h k =
    let filled = chosen_fits (nat_lt x (least w)) w 0 (minus_one w) (some_values w) (minus_one_fits w) in
    let shifted = modulo w (halved y (signed w x)) in
    chosen_fits (nat_lt y (bits w)) w shifted (if nat_lt x (least w) then 0 else minus_one w) (modulo_fits w (halved y (signed w x))) filled
binary_fits And w x y h k = let e : bit_and x y ≤ x = and_le_l x y in omega arith
binary_fits Or w x y h k = or_lt (bits w) x y h k
binary_fits Xor w x y h k = xor_lt (bits w) x y h k

cast_fits : (cast : casts.Cast) (from to : Width) (x : ℕ) → IsWellFormedOp (Cast cast from to) → x < 2 ^ bits from → cast_value cast from to x < 2 ^ bits to
cast_fits Zext from to x f h = let e : 2 ^ bits from < 2 ^ bits to = pow_below (bits from) (bits to) f in omega arith
cast_fits Sext from to x f h = modulo_fits to (signed from x)
cast_fits Trunc from to x f h = residue_fits to x
cast_fits Bitcast from to x f h = let P : Width → Type 0 = λ w. x < 2 ^ bits w in subst P f h

-- a value that is no trap is below 2 to the result's width
pub value_fits : (op : Op) (args : List ℕ) → IsWellFormedOp op → HaveWidths (argument_widths op) args → IfOk (value_of op args) (λ v. v < 2 ^ bits (result_width op))
value_fits (Bin bin w) (x ∷ y ∷ []) f h = binary_fits bin w x y h.0 h.1.0
value_fits (Icmp pred w) (x ∷ y ∷ []) f h = chosen_fits (compares pred w x y) I1 1 0 (omega arith) (omega arith)
value_fits (Cast cast from to) (x ∷ []) f h = cast_fits cast from to x f h.0
value_fits (Select w) (c ∷ x ∷ y ∷ []) f h = chosen_fits (c == 1) w x y h.1.0 h.1.1.0
value_fits (Bin bin w) [] f h = absurd h
value_fits (Bin bin w) (x ∷ []) f h = absurd h.1
value_fits (Bin bin w) (x ∷ y ∷ z ∷ zs) f h = absurd h.1.1
value_fits (Icmp pred w) [] f h = absurd h
value_fits (Icmp pred w) (x ∷ []) f h = absurd h.1
value_fits (Icmp pred w) (x ∷ y ∷ z ∷ zs) f h = absurd h.1.1
value_fits (Cast cast from to) [] f h = absurd h
value_fits (Cast cast from to) (x ∷ y ∷ ys) f h = absurd h.1
value_fits (Select w) [] f h = absurd h
value_fits (Select w) (c ∷ []) f h = absurd h.1
value_fits (Select w) (c ∷ x ∷ []) f h = absurd h.1.1
value_fits (Select w) (c ∷ x ∷ y ∷ z ∷ zs) f h = absurd h.1.1.1

two_fit : (w : Width) (args : List ℕ) → HaveWidths (w ∷ w ∷ []) args → (get_or args 0 0 < 2 ^ bits w) × (get_or args 1 0 < 2 ^ bits w)
two_fit w (x ∷ y ∷ []) h = (h.0, h.1.0)
two_fit w [] h = absurd h
two_fit w (x ∷ []) h = absurd h.1
two_fit w (x ∷ y ∷ z ∷ zs) h = absurd h.1.1

-- the same of an operation on two integers whose arguments are taken from a list
pub bounded_binary : (op : Op) (bin : operations.Bin) (w : Width) (args : List ℕ) (r : Result ℕ Trap) → op ≡ Bin bin w → HaveWidths (argument_widths op) args
    → r ≡ binary_value bin w (get_or args 0 0) (get_or args 1 0) → IfOk r (λ v. v < 2 ^ bits (result_width op))
bounded_binary op bin w args r e fit h =
    let P : Op → Type 0 = λ o. HaveWidths (argument_widths o) args in
    let Q : Op → Type 0 = λ o. IfOk r (λ v. v < 2 ^ bits (result_width o)) in
    let R : Result ℕ Trap → Type 0 = λ k. IfOk k (λ v. v < 2 ^ bits w) in
    let pair : (get_or args 0 0 < 2 ^ bits w) × (get_or args 1 0 < 2 ^ bits w) = two_fit w args (subst P e fit) in
    subst Q (sym e) (subst R (sym h) (binary_fits bin w (get_or args 0 0) (get_or args 1 0) pair.0 pair.1))
