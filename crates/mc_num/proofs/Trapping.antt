-- Some arguments that agree with a known divisor trap exactly where the divisor's own test says so.
use Rattle.std.proofs.Common.{◌≡◌, ℕ, ◌/◌, ◌%◌, ◌^◌, ◌<◌, ◌↔◌, IsTrue, Bool, true, false, List, [], ◌∷◌, Option, Some, None, Result, Ok, Err, arith, ◌==◌, ◌&&◌, ◌||◌, if◌then◌else◌, refl, slice_get, int_div, int_rem, sym, ◌∙◌, subst}
use Rattle.std.proofs.lemmas.Bool.Decides.{nat_tests}
use Rattle.mc_num.specs.Op.{bits, argument_widths}
use Rattle.mc_num.specs.Value.{value_of, HaveWidths, AgreeWith, CanTrap, DivisorFits, traps_at, least, minus_one, binary_value, signed, modulo}
use Rattle.mc_num.specs.declared.op.Width.{Width}
use Rattle.mc_num.specs.declared.op.Width.TheVariants.{I1, I8, I16, I32, I64}
use Rattle.mc_num.specs.declared.op.Bin as operations
use Rattle.mc_num.specs.declared.op.Bin.TheVariants.{Add, Sub, Mul, UDiv, SDiv, URem, SRem, Shl, LShr, AShr, And, Or, Xor}
use Rattle.mc_num.specs.declared.op.Op.{Op}
use Rattle.mc_num.specs.declared.op.Op.TheVariants.{Bin, Icmp, Cast, Select}
use Rattle.mc_num.specs.declared.op.Trap.{Trap}
use Rattle.mc_num.specs.declared.op.Trap.TheVariants.{DivZero, DivOverflow}

-- a value is no trap, and a test that fails leaves none
ok_is_no_trap : (n : ℕ) (t : Trap) → ◌≡◌ {A = Result ℕ Trap} (Ok n) (Err t) → ⊥
ok_is_no_trap n t e = cc

unsigned_traps : (z : Bool) (n : ℕ) (t : Trap) → ◌≡◌ {A = Result ℕ Trap} (if z then Err DivZero else Ok n) (Err t) → z ≡ true
unsigned_traps true n t e = refl
unsigned_traps false n t e = absurd (ok_is_no_trap n t e)

signed_traps : (z a b : Bool) (n : ℕ) (t : Trap) → ◌≡◌ {A = Result ℕ Trap} (if z then Err DivZero else if a && b then Err DivOverflow else Ok n) (Err t) → (z || b) ≡ true
signed_traps true a b n t e = refl
signed_traps false true true n t e = refl
signed_traps false false b n t e = absurd (ok_is_no_trap n t e)
signed_traps false true false n t e = absurd (ok_is_no_trap n t e)

-- at the known divisor d, a division of the least value traps wherever one does
unsigned_trap : (z : Bool) (n : ℕ) → z ≡ true → ◌≡◌ {A = Result ℕ Trap} (if z then Err DivZero else Ok n) (Err DivZero)
unsigned_trap true n e = refl
unsigned_trap false n e = cc

record Trapped (r : Result ℕ Trap) : Type 0 where
  trap : Trap
  is : r ≡ Err trap

signed_trap : (z a b : Bool) (n : ℕ) → a ≡ true → (z || b) ≡ true → Trapped (if z then Err DivZero else if a && b then Err DivOverflow else Ok n)
signed_trap true a b n e h = record { trap = DivZero; is = refl }
signed_trap false true true n e h = record { trap = DivOverflow; is = refl }
signed_trap false true false n e h = cc
signed_trap false false b n e h = cc

least_fits : (w : Width) → least w < 2 ^ bits w
least_fits I1 = omega arith
least_fits I8 = omega arith
least_fits I16 = omega arith
least_fits I32 = omega arith
least_fits I64 = omega arith

same_itself : (n : ℕ) → (n == n) ≡ true
same_itself n = grind (arith, nat_tests)

some_values : (w : Width) → 0 < 2 ^ bits w
some_values w = let h : least w < 2 ^ bits w = least_fits w in omega arith

-- the divisor of arguments that agree with a known one
divisor_is : (x y d : ℕ) → slice_get (x ∷ y ∷ []) 1 ≡ Some d → y ≡ d
divisor_is x y d e = cc

-- arguments at which a division with this divisor traps
unsigned_quotient_traps : (w : Width) (d : ℕ) → d < 2 ^ bits w → IsTrue (d == 0) → CanTrap (Bin UDiv w) (Some d)
unsigned_quotient_traps w d h t = record { args = 0 ∷ d ∷ []; fit = (some_values w, (h, tt)); agree = refl; trap = DivZero; traps = unsigned_trap (d == 0) (0 / d) t }

unsigned_remainder_traps : (w : Width) (d : ℕ) → d < 2 ^ bits w → IsTrue (d == 0) → CanTrap (Bin URem w) (Some d)
unsigned_remainder_traps w d h t = record { args = 0 ∷ d ∷ []; fit = (some_values w, (h, tt)); agree = refl; trap = DivZero; traps = unsigned_trap (d == 0) (0 % d) t }

signed_quotient_traps : (w : Width) (d : ℕ) → d < 2 ^ bits w → IsTrue ((d == 0) || (d == minus_one w)) → CanTrap (Bin SDiv w) (Some d)
signed_quotient_traps w d h t =
    let r = signed_trap (d == 0) (least w == least w) (d == minus_one w) (modulo w (int_div (signed w (least w)) (signed w d))) (same_itself (least w)) t in
    record { args = least w ∷ d ∷ []; fit = (least_fits w, (h, tt)); agree = refl; trap = r.trap; traps = r.is }

signed_remainder_traps : (w : Width) (d : ℕ) → d < 2 ^ bits w → IsTrue ((d == 0) || (d == minus_one w)) → CanTrap (Bin SRem w) (Some d)
signed_remainder_traps w d h t =
    let r = signed_trap (d == 0) (least w == least w) (d == minus_one w) (modulo w (int_rem (signed w (least w)) (signed w d))) (same_itself (least w)) t in
    record { args = least w ∷ d ∷ []; fit = (least_fits w, (h, tt)); agree = refl; trap = r.trap; traps = r.is }

no_test : {P : Type 0} → IsTrue false → P
no_test h = cc

traps_where_tested : (op : Op) (known : Option ℕ) → DivisorFits op known → IsTrue (traps_at op known) → CanTrap op known
traps_where_tested (Bin UDiv w) None h t = record { args = 0 ∷ 0 ∷ []; fit = (some_values w, (some_values w, tt)); agree = tt; trap = DivZero; traps = refl }
traps_where_tested (Bin URem w) None h t = record { args = 0 ∷ 0 ∷ []; fit = (some_values w, (some_values w, tt)); agree = tt; trap = DivZero; traps = refl }
traps_where_tested (Bin SDiv w) None h t = record { args = 0 ∷ 0 ∷ []; fit = (some_values w, (some_values w, tt)); agree = tt; trap = DivZero; traps = refl }
traps_where_tested (Bin SRem w) None h t = record { args = 0 ∷ 0 ∷ []; fit = (some_values w, (some_values w, tt)); agree = tt; trap = DivZero; traps = refl }
traps_where_tested (Bin UDiv w) (Some d) h t = unsigned_quotient_traps w d h t
traps_where_tested (Bin URem w) (Some d) h t = unsigned_remainder_traps w d h t
traps_where_tested (Bin SDiv w) (Some d) h t = signed_quotient_traps w d h t
traps_where_tested (Bin SRem w) (Some d) h t = signed_remainder_traps w d h t
traps_where_tested (Bin Add w) known h t = no_test t
traps_where_tested (Bin Sub w) known h t = no_test t
traps_where_tested (Bin Mul w) known h t = no_test t
traps_where_tested (Bin Shl w) known h t = no_test t
traps_where_tested (Bin LShr w) known h t = no_test t
traps_where_tested (Bin AShr w) known h t = no_test t
traps_where_tested (Bin And w) known h t = no_test t
traps_where_tested (Bin Or w) known h t = no_test t
traps_where_tested (Bin Xor w) known h t = no_test t
traps_where_tested (Icmp pred w) known h t = no_test t
traps_where_tested (Cast cast from to) known h t = no_test t
traps_where_tested (Select w) known h t = no_test t

-- where two arguments trap, the test holds
along : (y d : ℕ) (f : ℕ → Bool) → y ≡ d → f y ≡ true → f d ≡ true
along y d f e h = subst (λ k. f k ≡ true) e h

two_tested : (bin : operations.Bin) (w : Width) (known : Option ℕ) (x y : ℕ) (t : Trap) → AgreeWith known (x ∷ y ∷ []) → binary_value bin w x y ≡ Err t → IsTrue (traps_at (Bin bin w) known)
two_tested UDiv w None x y t a e = refl
two_tested URem w None x y t a e = refl
two_tested SDiv w None x y t a e = refl
two_tested SRem w None x y t a e = refl
two_tested UDiv w (Some d) x y t a e = along y d (λ k. k == 0) (divisor_is x y d a) (unsigned_traps (y == 0) (x / y) t e)
two_tested URem w (Some d) x y t a e = along y d (λ k. k == 0) (divisor_is x y d a) (unsigned_traps (y == 0) (x % y) t e)
two_tested SDiv w (Some d) x y t a e = along y d (λ k. (k == 0) || (k == minus_one w)) (divisor_is x y d a) (signed_traps (y == 0) (x == least w) (y == minus_one w) (modulo w (int_div (signed w x) (signed w y))) t e)
two_tested SRem w (Some d) x y t a e = along y d (λ k. (k == 0) || (k == minus_one w)) (divisor_is x y d a) (signed_traps (y == 0) (x == least w) (y == minus_one w) (modulo w (int_rem (signed w x) (signed w y))) t e)
two_tested Add w known x y t a e = absurd (ok_is_no_trap _ t e)
two_tested Sub w known x y t a e = absurd (ok_is_no_trap _ t e)
two_tested Mul w known x y t a e = absurd (ok_is_no_trap _ t e)
two_tested Shl w known x y t a e = absurd (ok_is_no_trap _ t e)
two_tested LShr w known x y t a e = absurd (ok_is_no_trap _ t e)
two_tested AShr w known x y t a e = absurd (ok_is_no_trap _ t e)
two_tested And w known x y t a e = absurd (ok_is_no_trap _ t e)
two_tested Or w known x y t a e = absurd (ok_is_no_trap _ t e)
two_tested Xor w known x y t a e = absurd (ok_is_no_trap _ t e)

tested_where_traps : (op : Op) (known : Option ℕ) (args : List ℕ) (t : Trap) → HaveWidths (argument_widths op) args → AgreeWith known args → value_of op args ≡ Err t → IsTrue (traps_at op known)
tested_where_traps (Bin bin w) known (x ∷ y ∷ []) t h a e = two_tested bin w known x y t a e
tested_where_traps (Icmp pred w) known (x ∷ y ∷ []) t h a e = absurd (ok_is_no_trap _ t e)
tested_where_traps (Cast cast from to) known (x ∷ []) t h a e = absurd (ok_is_no_trap _ t e)
tested_where_traps (Select w) known (c ∷ x ∷ y ∷ []) t h a e = absurd (ok_is_no_trap _ t e)
tested_where_traps (Bin bin w) known [] t h a e = absurd h
tested_where_traps (Bin bin w) known (x ∷ []) t h a e = absurd h.1
tested_where_traps (Bin bin w) known (x ∷ y ∷ z ∷ zs) t h a e = absurd h.1.1
tested_where_traps (Icmp pred w) known [] t h a e = absurd h
tested_where_traps (Icmp pred w) known (x ∷ []) t h a e = absurd h.1
tested_where_traps (Icmp pred w) known (x ∷ y ∷ z ∷ zs) t h a e = absurd h.1.1
tested_where_traps (Cast cast from to) known [] t h a e = absurd h
tested_where_traps (Cast cast from to) known (x ∷ y ∷ ys) t h a e = absurd h.1
tested_where_traps (Select w) known [] t h a e = absurd h
tested_where_traps (Select w) known (c ∷ []) t h a e = absurd h.1
tested_where_traps (Select w) known (c ∷ x ∷ []) t h a e = absurd h.1.1
tested_where_traps (Select w) known (c ∷ x ∷ y ∷ z ∷ zs) t h a e = absurd h.1.1.1

pub traps_exactly : (op : Op) (known : Option ℕ) (r : Bool) → DivisorFits op known → r ≡ traps_at op known → IsTrue r ↔ CanTrap op known
traps_exactly op known r h e =
    let to : IsTrue r → CanTrap op known = λ t. traps_where_tested op known h (sym e ∙ t) in
    let back : CanTrap op known → IsTrue r = λ c. e ∙ tested_where_traps op known c.args c.trap c.fit c.agree c.traps in
    (to, back)
