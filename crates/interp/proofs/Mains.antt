-- The search for main, a function at a time.
use Rattle.std.proofs.Common.{◌≡◌, ℕ, suc, ◌+◌, ◌<◌, Bool, true, false, cond, List, [], ◌∷◌, length, drop, get_or, Option, Some, None, refl, sym, ap, ◌∙◌, arith}
use Rattle.std.specs.Prelude.{◌&&◌, codes, option_map, slice_get}
use Rattle.std.specs.Str.{bytes_eq}
use Rattle.std.proofs.Math.Seq.{drop-cons}
use Rattle.ir_types.specs.Program.{Program}
use Rattle.ir_types.specs.Rules.{is_nil}
use Rattle.ir_types.specs.declared.syntax.Block.{Block}
use Rattle.ir_types.specs.declared.syntax.Function.{Function}
use Rattle.ir_machine.specs.Same.{is_defined}
use Rattle.ir_machine.specs.Code.{CanStart}
use Rattle.interp.specs.Main.{is_main, main_from, main_of}

main_next : (fs : List Function) (i : ℕ) (d : Function) → i < length fs → main_from i (drop i fs) ≡ cond (is_main (get_or fs i d)) (Some (i, get_or fs i d)) (main_from (i + 1) (drop (i + 1) fs))
main_next fs i d lt =
    let e : suc i ≡ i + 1 = omega arith in
    ap (main_from i) (drop-cons fs i d lt) ∙ ap (λ k. cond (is_main (get_or fs i d)) (Some (i, get_or fs i d)) (main_from (i + 1) (drop k fs))) e

pub main_here : (fs : List Function) (i : ℕ) (d : Function) → i < length fs → is_main (get_or fs i d) ≡ true → main_from i (drop i fs) ≡ Some (i, get_or fs i d)
main_here fs i d lt e = main_next fs i d lt ∙ ap (λ b. cond b (Some (i, get_or fs i d)) (main_from (i + 1) (drop (i + 1) fs))) e

pub main_later : (fs : List Function) (i : ℕ) (d : Function) → i < length fs → is_main (get_or fs i d) ≡ false → main_from i (drop i fs) ≡ main_from (i + 1) (drop (i + 1) fs)
main_later fs i d lt e = main_next fs i d lt ∙ ap (λ b. cond b (Some (i, get_or fs i d)) (main_from (i + 1) (drop (i + 1) fs))) e

-- ---- what is known of main

and_true : (a b : Bool) → (a && b) ≡ true → (a ≡ true) × (b ≡ true)
and_true true b e = (refl, e)
and_true false b e = cc

nil_is : {X : Type 0} (xs : List X) → is_nil xs ≡ true → xs ≡ []
nil_is [] e = refl
nil_is (x ∷ xs) e = cc

defined_is : (blocks : List Block) → is_defined blocks ≡ true → blocks ≡ [] → ⊥
defined_is [] e is = cc
defined_is (b ∷ blocks) e is = cc

-- the function that was found, and its number
pub record Found (i : ℕ) (fs : List Function) (main : ℕ) (f : Function) : Type 0 where
  pub place : ℕ
  pub number : i + place ≡ main
  pub there : slice_get fs place ≡ Some f
  pub is : is_main f ≡ true

found_here : (i main : ℕ) (g f : Function) (fs : List Function) → is_main g ≡ true → ◌≡◌ {A = Option (ℕ × Function)} (Some (i, g)) (Some (main, f)) → Found i (g ∷ fs) main f
found_here i main g f fs is e =
    let pair : ◌≡◌ {A = ℕ × Function} (i, g) (main, f) = cc in
    let number : i ≡ main = ap (λ (x : ℕ × Function). x.0) pair in
    let same : g ≡ f = ap (λ (x : ℕ × Function). x.1) pair in
    record {
      place = 0;
      number = omega (arith, number);
      there = ap Some same;
      is = ap is_main (sym same) ∙ is;
    }

main_found : (i : ℕ) (fs : List Function) (main : ℕ) (f : Function) → main_from i fs ≡ Some (main, f) → Found i fs main f
main_found i [] main f e = cc
main_found i (g ∷ fs) main f e =
    elim (is_main g) as (λ b. is_main g ≡ b → cond b (Some (i, g)) (main_from (i + 1) fs) ≡ Some (main, f) → Found i (g ∷ fs) main f) [
      | true ↦ (λ is e. found_here i main g f fs is e)
      | false ↦ (λ is e.
          let later = main_found (i + 1) fs main f e in
          record {
            place = suc later.place;
            number = omega (arith, later.number);
            there = later.there;
            is = later.is;
          })
    ] refl e

module _ (m : Program) (main : ℕ) (f : Function) (is_of : main_of m ≡ Some (main, f)) where
  found : Found 0 m.functions main f
  found = main_found 0 m.functions main f is_of

  pub main_there : slice_get m.functions main ≡ Some f
  main_there = let e : found.place ≡ main = omega (arith, found.number) in ap (slice_get m.functions) (sym e) ∙ found.there

  abbrev parts : (bytes_eq f.name (codes "main") && is_nil f.params ≡ true) × (is_defined f.blocks ≡ true)
  parts = and_true (bytes_eq f.name (codes "main") && is_nil f.params) (is_defined f.blocks) found.is

  pub main_defined : is_defined f.blocks ≡ true
  main_defined = parts.1

  pub main_starts : CanStart m main
  main_starts = record {
    function = f;
    there = main_there;
    defined = defined_is f.blocks main_defined;
    no_params = nil_is f.params (and_true (bytes_eq f.name (codes "main")) (is_nil f.params) parts.0).1;
  }

-- the number that the code finds is that of a function
pub numbered : (o : Option (ℕ × Function)) (number : ℕ) → Some number ≡ option_map (λ (main : ℕ × Function). main.0) o → (f : Function) × (o ≡ Some (number, f))
numbered None number e = cc
numbered (Some main) number e =
    let same : number ≡ main.0 = cc in
    (main.1, ap (λ n. Some (n, main.1)) (sym same))
