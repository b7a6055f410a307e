-- What a signed division gives where it doesn't trap.
use Rattle.std.proofs.Common.{◌≡◌, ℕ, Bool, true, false, Ok, Err, Result, ℤ, pos, negsuc, neg_ℤ, zero, suc, ◌+◌, ◌-◌, ◌*◌, ◌/◌, ◌^◌, ◌<◌, ◌≤◌, nat_lt, int_div, FitsSigned, w64, arith, ◌==◌, ◌&&◌, if◌then◌else◌, sym, ap, ◌∙◌, refl}
use Rattle.std.proofs.lemmas.Bool.Decides.{nat_tests}
use Rattle.std.proofs.lemmas.Nat.{div_below}
use Rattle.std.proofs.Math.Nat.{div-le_self}
use Rattle.std.specs.Int.Signed.{mag}
use Rattle.mc_num.specs.Op.{bits}
use Rattle.mc_num.specs.declared.op.Width.TheVariants.{I1, I8, I16, I32, I64}
use Rattle.mc_num.specs.Value.{modulo, signed, signed_by, least, minus_one}
use Rattle.mc_num.specs.declared.op.Width.{Width}
use Rattle.mc_num.specs.declared.op.Trap.{Trap}
use Rattle.mc_num.specs.declared.op.Trap.TheVariants.{DivZero, DivOverflow}

gives_ok : (z o : Bool) (n r : ℕ) (s t : Trap) → z ≡ false → o ≡ false → r ≡ n → ◌≡◌ {A = Result ℕ Trap} (Ok r) (if z then Err s else if o then Err t else Ok n)
gives_ok false false n r s t a b e = ap (λ k. Ok k) e
gives_ok true o n r s t a b e = cc
gives_ok false true n r s t a b e = cc

not_zero : (y : ℕ) → (y ≡ 0 → ⊥) → (y == 0) ≡ false
not_zero y h = grind (arith, nat_tests)

pub signed_gives : (f : ℤ → ℤ → ℤ) (w : Width) (x y : ℕ) (o : Bool) (a b : ℤ) (r : ℕ)
    → (y ≡ 0 → ⊥) → o ≡ ((x == least w) && (y == minus_one w)) → o ≡ false
    → a ≡ signed w x → b ≡ signed w y → r ≡ modulo w (f a b) → ◌≡◌ {A = Result ℕ Trap} (Ok r) (signed_by f w x y)
signed_gives f w x y o a b r z e q p s h =
    gives_ok (y == 0) ((x == least w) && (y == minus_one w)) (modulo w (f (signed w x) (signed w y))) r DivZero DivOverflow (not_zero y z) (sym e ∙ q) (h ∙ ap (modulo w) (ap (λ k. f k b) p ∙ ap (f (signed w x)) s))

-- a quotient of two numbers of 64 bits has 64 bits, except that of the least by -1
negated_below : (n : ℕ) → mag (neg_ℤ (pos n)) ≤ n
negated_below zero = omega arith
negated_below (suc n) = omega arith

negated_half : (n k : ℕ) → n ≤ suc k → mag (neg_ℤ (pos n)) ≤ k
negated_half zero k h = omega arith
negated_half (suc n) k h = omega arith

pub quotient_in_word : (a b : ℤ) → FitsSigned w64 a → FitsSigned w64 b → (a ≡ negsuc 9223372036854775807 → b ≡ negsuc 0 → ⊥) → FitsSigned w64 (int_div a b)
quotient_in_word (pos a) (pos b) f g h = let e : a / b ≤ a = div-le_self a b in record { sfits = omega (arith, f.sfits) }
quotient_in_word (pos a) (negsuc b) f g h =
    let e : a / suc b ≤ a = div-le_self a (suc b) in
    let m : mag (neg_ℤ (pos (a / suc b))) ≤ a / suc b = negated_below (a / suc b) in
    record { sfits = omega (arith, f.sfits) }
quotient_in_word (negsuc a) (pos b) f g h =
    let m : mag (neg_ℤ (pos (suc a / b))) ≤ a = negated_half (suc a / b) a (div-le_self (suc a) b) in
    record { sfits = omega (arith, f.sfits) }
quotient_in_word (negsuc a) (negsuc zero) f g h =
    let e : suc a / 1 ≤ suc a = div-le_self (suc a) 1 in
    let n : a ≡ 9223372036854775807 → ⊥ = λ k. h (ap (λ j. negsuc j) k) refl in
    record { sfits = omega (arith, f.sfits, n) }
quotient_in_word (negsuc a) (negsuc (suc b)) f g h =
    let l : suc a < 9223372036854775808 * suc (suc b) = omega (arith, f.sfits) in
    let e : suc a / suc (suc b) < 9223372036854775808 = div_below (suc a) (suc (suc b)) 9223372036854775808 (omega arith) l in
    record { sfits = e }

is_negative : (c : Bool) (n m k : ℕ) → (if c then pos n else negsuc m) ≡ negsuc k → (c ≡ false) × (m ≡ k)
is_negative true n m k e = cc
is_negative false n m k e = (refl, cc)

same_numbers : (m n : ℕ) → m ≡ n → (m == n) ≡ true
same_numbers m n e = grind (arith, nat_tests)

not_less : (m n : ℕ) → nat_lt m n ≡ false → n ≤ m
not_less m n e = grind (arith, nat_tests)

least_at : (w : Width) (x : ℕ) → x < 2 ^ bits w → nat_lt x (2 ^ (bits w - 1)) ≡ false → 2 ^ bits w - (x + 1) ≡ 9223372036854775807 → (x == least w) ≡ true
least_at I1 x h c e = absurd (omega arith)
least_at I8 x h c e = absurd (omega arith)
least_at I16 x h c e = absurd (omega arith)
least_at I32 x h c e = absurd (omega arith)
least_at I64 x h c e = let l : 9223372036854775808 ≤ x = not_less x 9223372036854775808 c in same_numbers x 9223372036854775808 (omega arith)

is_least : (w : Width) (x : ℕ) → x < 2 ^ bits w → signed w x ≡ negsuc 9223372036854775807 → (x == least w) ≡ true
is_least w x h e = least_at w x h (is_negative (nat_lt x (2 ^ (bits w - 1))) x (2 ^ bits w - (x + 1)) 9223372036854775807 e).0 (is_negative (nat_lt x (2 ^ (bits w - 1))) x (2 ^ bits w - (x + 1)) 9223372036854775807 e).1

is_minus_one : (w : Width) (y : ℕ) → y < 2 ^ bits w → signed w y ≡ negsuc 0 → (y == minus_one w) ≡ true
is_minus_one w y h e = let m : 2 ^ bits w - (y + 1) ≡ 0 = (is_negative (nat_lt y (2 ^ (bits w - 1))) y (2 ^ bits w - (y + 1)) 0 e).1 in same_numbers y (minus_one w) (omega arith)

both : (a b o : Bool) → o ≡ (a && b) → o ≡ false → a ≡ true → b ≡ true → ⊥
both true true o e f g h = cc
both false b o e f g h = cc
both true false o e f g h = cc

pub no_overflow : (w : Width) (x y : ℕ) (o : Bool) (a b : ℤ) → x < 2 ^ bits w → y < 2 ^ bits w → o ≡ ((x == least w) && (y == minus_one w)) → o ≡ false
    → a ≡ signed w x → b ≡ signed w y → a ≡ negsuc 9223372036854775807 → b ≡ negsuc 0 → ⊥
no_overflow w x y o a b h k e f p q s t = both (x == least w) (y == minus_one w) o e f (is_least w x h (sym p ∙ s)) (is_minus_one w y k (sym q ∙ t))
