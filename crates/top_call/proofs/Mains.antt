-- Where main stands among the functions.
use Rattle.std.proofs.Common.{◌≡◌, ℕ, zero, suc, ◌+◌, Bool, true, false, cond, List, [], ◌∷◌, Option, Some, None, option_map, refl, sym, ap, ◌∙◌, arith}
use Rattle.std.specs.Prelude.{slice_get}
use Rattle.std.specs.Option.{option_and_then}
use Rattle.ir_types.specs.Program.{Program}
use Rattle.ir_types.specs.declared.syntax.Function.{Function}
use Rattle.interp.specs.Main.{is_main, main_from, main_of}
use Rattle.top_call.specs.Run.{main_width}

-- a function of a list at a number, counted from i
record Stands (i : ℕ) (fs : List Function) (main : ℕ × Function) : Type 0 where
  place : ℕ
  number : main.0 ≡ i + place
  there : slice_get fs place ≡ Some main.1

here_or_later : (i : ℕ) (f : Function) (fs : List Function) (main : ℕ × Function) → (main_from (i + 1) fs ≡ Some main → Stands (i + 1) fs main)
    → (b : Bool) → cond b (Some (i, f)) (main_from (i + 1) fs) ≡ Some main → Stands i (f ∷ fs) main
here_or_later i f fs main later true e =
    let first : ℕ × Function = (i, f) in
    let same : first ≡ main = cc in
    record { place = zero; number = sym (ap (λ (m : ℕ × Function). m.0) same) ∙ omega arith; there = ap (λ (m : ℕ × Function). Some m.1) same }
here_or_later i f fs main later false e =
    let rest = later e in
    record { place = suc rest.place; number = rest.number ∙ omega arith; there = rest.there }

stands : (i : ℕ) (fs : List Function) (main : ℕ × Function) → main_from i fs ≡ Some main → Stands i fs main
stands i [] main e = absurd (let none : None ≡ Some main = e in cc)
stands i (f ∷ fs) main e = here_or_later i f fs main (stands (i + 1) fs main) (is_main f) e

-- the width of main, by its number
at_number : (m : Program) (main : Option (ℕ × Function)) → main_of m ≡ main
    → option_and_then (λ main. main.1.ret) main ≡ option_and_then (λ f. f.ret) (option_and_then (slice_get m.functions) (option_map (λ main. main.0) main))
at_number m None e = refl
at_number m (Some main) e =
    let s = stands 0 m.functions main e in
    let number : main.0 ≡ s.place = omega (arith, s.number) in
    sym (ap (λ (o : Option Function). option_and_then (λ f. f.ret) o) (ap (slice_get m.functions) number ∙ s.there))

pub width_is : (m : Program) (number : Option ℕ) → number ≡ option_map (λ main. main.0) (main_of m)
    → option_and_then (λ f. f.ret) (option_and_then (slice_get m.functions) number) ≡ main_width m
width_is m number e = ap (λ number. option_and_then (λ f. f.ret) (option_and_then (slice_get m.functions) number)) e ∙ sym (at_number m (main_of m) refl)
