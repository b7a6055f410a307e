-- Counts summed over the slots of a function, as a sum over the events.
use Rattle.std.proofs.Common.{◌≡◌, ℕ, ◌+◌, ◌<◌, Bool, true, false, cond, eqb, eq-eqb, List, [], ◌∷◌, map, Some, refl, sym, ap, ◌∙◌, subst, arith}
use Rattle.std.specs.Prelude.{sum_by, slice_get, ◌==◌, ◌&&◌}
use Rattle.std.proofs.lemmas.Bool.{eqb-true, eqb-false, false_from_ne_true}
use Rattle.std.proofs.lemmas.List.Sums.{sum_by-cons}
use Rattle.ir_types.specs.Limits.{slot_count}
use Rattle.ir_types.specs.declared.syntax.Block.{Block}
use Rattle.machines.specs.declared.events.Event.{Event}
use Rattle.machines.specs.declared.events.Event.TheVariants.{Took}
use Rattle.ir_machine.specs.Prof.{takings, is_taking}
use Rattle.run_counts.proofs.Splits.{Split, sum_one}
use Rattle.run_counts.proofs.Keys.{keys_from, is_key, slots_before, key_splits}

pub eqb_sym : (a b : ℕ) → eqb a b ≡ eqb b a
eqb_sym a b =
    elim (eqb a b) as (λ t. eqb a b ≡ t → t ≡ eqb b a) [
      | true ↦ (λ e. sym (eq-eqb b a (sym (eqb-true a b e))))
      | false ↦ (λ e. sym (false_from_ne_true (eqb b a) (λ t. eqb-false a b e (sym (eqb-true b a t)))))
    ] refl

pub sum_by-map : {X Y : Type 0} (g : Y → ℕ) (f : X → Y) (xs : List X) → sum_by g (map f xs) ≡ sum_by (λ x. g (f x)) xs
sum_by-map g f [] = refl
sum_by-map g f (x ∷ xs) = sum_by-cons g (f x) (map f xs) ∙ ap (λ n. g (f x) + n) (sum_by-map g f xs) ∙ sym (sum_by-cons (λ x. g (f x)) x xs)

pub sum_by-add : {X : Type 0} (f g h : X → ℕ) → ((x : X) → f x ≡ g x + h x) → (xs : List X) → sum_by f xs ≡ sum_by g xs + sum_by h xs
sum_by-add f g h is [] = refl
sum_by-add f g h is (x ∷ xs) =
    let a = sum_by-cons f x xs in
    let b = sum_by-cons g x xs in
    let c = sum_by-cons h x xs in
    let d = sum_by-add f g h is xs in
    let e = is x in
    omega arith

pub sum_by-same : {X : Type 0} (f g : X → ℕ) → ((x : X) → f x ≡ g x) → (xs : List X) → sum_by f xs ≡ sum_by g xs
sum_by-same f g is [] = refl
sum_by-same f g is (x ∷ xs) =
    let a = sum_by-cons f x xs in
    let b = sum_by-cons g x xs in
    let d = sum_by-same f g is xs in
    let e = is x in
    omega arith

pub sum_by-none : {X : Type 0} (f : X → ℕ) → ((x : X) → f x ≡ 0) → (xs : List X) → sum_by f xs ≡ 0
sum_by-none f is [] = refl
sum_by-none f is (x ∷ xs) =
    let a = sum_by-cons f x xs in
    let d = sum_by-none f is xs in
    let e = is x in
    omega arith

-- one choice in another
pub cond_swap : (a b : Bool) (n : ℕ) → cond a (cond b n 0) 0 ≡ cond b (cond a n 0) 0
cond_swap true true n = refl
cond_swap true false n = refl
cond_swap false true n = refl
cond_swap false false n = refl

cond_zero : (a : Bool) → ◌≡◌ {A = ℕ} (cond a 0 0) 0
cond_zero true = refl
cond_zero false = refl

pub cond_add : (a : Bool) (m n k : ℕ) → m ≡ n + k → cond a m 0 ≡ cond a n 0 + cond a k 0
cond_add true m n k e = e
cond_add false m n k e = refl

and_both : (a b c : Bool) → ((a && b) && c) ≡ (a && (b && c))
and_both true b c = refl
and_both false b c = refl

module _ (keys : List (ℕ × ℕ)) (function : ℕ) (picks : ℕ × ℕ → Bool) where
  -- the counts of the slots that are picked
  abbrev pub weighed : List Event → ℕ
  weighed events = sum_by (λ k. cond (picks k) (takings events function k.0 k.1) 0) keys

  -- what one event adds
  abbrev pub added : Event → ℕ
  added event = sum_by (λ k. cond (picks k) (cond (is_taking function k.0 k.1 event) 1 0) 0) keys

  pub weighed-none : weighed [] ≡ 0
  weighed-none = sum_by-none (λ k. cond (picks k) (takings [] function k.0 k.1) 0) (λ k. cond_zero (picks k)) keys

  pub weighed-more : (event : Event) (events : List Event) → weighed (event ∷ events) ≡ added event + weighed events
  weighed-more event events =
      sum_by-add (λ k. cond (picks k) (takings (event ∷ events) function k.0 k.1) 0) (λ k. cond (picks k) (cond (is_taking function k.0 k.1 event) 1 0) 0) (λ k. cond (picks k) (takings events function k.0 k.1) 0)
      (λ k. cond_add (picks k) _ _ _ (sum_by-cons (λ e. cond (is_taking function k.0 k.1 e) 1 0) event events)) keys

  -- an event that takes no slot of the function
  pub added-none : (event : Event) → ((k : ℕ × ℕ) → is_taking function k.0 k.1 event ≡ false) → added event ≡ 0
  added-none event no_taking =
      sum_by-none (λ k. cond (picks k) (cond (is_taking function k.0 k.1 event) 1 0) 0)
      (λ k. ap (λ b. cond (picks k) (cond b 1 0) 0) (no_taking k) ∙ cond_zero (picks k)) keys

  -- an event that takes a slot, of this function or of another
  pub added-took : (g b s : ℕ) → added (Took g b s) ≡ cond (g == function) (sum_by (λ k. cond (is_key b s k) (cond (picks k) 1 0) 0) keys) 0
  added-took g b s =
      elim (g == function) as (λ t. (g == function) ≡ t → added (Took g b s) ≡ cond t (sum_by (λ k. cond (is_key b s k) (cond (picks k) 1 0) 0) keys) 0) [
        | true ↦ (λ e. sum_by-same _ _ (λ k. ap (λ t. cond (picks k) (cond t 1 0) 0) (and_both (g == function) (b == k.0) (s == k.1) ∙ ap (λ t. t && is_key b s k) e) ∙ cond_swap (picks k) (is_key b s k) 1) keys)
        | false ↦ (λ e. added-none (Took g b s) (λ k. and_both (g == function) (b == k.0) (s == k.1) ∙ ap (λ t. t && is_key b s k) e))
      ] refl

-- over the slots of a function that has the slot, the one is counted
pub added_one : (blocks : List Block) (function : ℕ) (picks : ℕ × ℕ → Bool) (g b s : ℕ) → (g ≡ function → (block : Block) × (slice_get blocks b ≡ Some block) × (s < slot_count block.term)) → added (keys_from 0 blocks) function picks (Took g b s) ≡ cond (g == function) (cond (picks (b, s)) 1 0) 0
added_one blocks function picks g b s has =
    added-took (keys_from 0 blocks) function picks g b s
    ∙ elim (g == function) as (λ t. (g == function) ≡ t → cond t (sum_by (λ k. cond (is_key b s k) (cond (picks k) 1 0) 0) (keys_from 0 blocks)) 0 ≡ cond t (cond (picks (b, s)) 1 0) 0) [
      | true ↦ (λ e.
          let a = has (eqb-true g function e) in
          let z : 0 + b ≡ b = omega arith in
          let split = key_splits 0 blocks b s a.0 a.1 a.2 in
          let split' = subst (λ n. Split (is_key n s) (keys_from 0 blocks) (slots_before blocks b + s) (n, s)) z split in
          sum_one (is_key b s) (λ k. cond (picks k) 1 0) (keys_from 0 blocks) (slots_before blocks b + s) (b, s) split')
      | false ↦ (λ e. refl)
    ] refl
