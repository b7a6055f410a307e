-- The points that are listed, as one more is passed.
use Rattle.std.proofs.Common.{◌≡◌, ◌≢◌, ◌⊎◌, inl, inr, ⊎_elim, ℕ, zero, suc, ◌+◌, ◌<◌, List, [], ◌∷◌, ◌++◌, length, take, get_or, replicate, Option, Some, None, refl, sym, ap, ◌∙◌, subst, arith}
use Rattle.std.specs.Prelude.{Contains, slice_get}
use Rattle.std.proofs.lemmas.Bool.{cases_eq}
use Rattle.std.proofs.lemmas.List.{take_more, length-take-le, length-replicate, get_or-replicate}
use Rattle.std.proofs.lemmas.List.Elements.{Contains-push, Contains-push_cases, Contains-append_left}
use Rattle.std.proofs.lemmas.Option.{slice_get_within, same_Some, none-some}
use Rattle.occurrences.specs.Listed.{ArePlacesOf, AreListed, AddsPlace}
use Rattle.occurrences.proofs.Ascending.{push_increasing}

get_push : {X : Type 0} (xs : List X) (y : X) (i : ℕ) (v : X) → slice_get (xs ++ y ∷ []) i ≡ Some v → (slice_get xs i ≡ Some v) ⊎ ((i ≡ length xs) × (y ≡ v))
get_push [] y zero v e = inr (refl, same_Some y v e)
get_push [] y (suc i) v e = absurd (none-some v e)
get_push (x ∷ xs) y zero v e = inl e
get_push (x ∷ xs) y (suc i) v e = ⊎_elim (λ l. inl l) (λ r. inr (ap (λ n. suc n) r.0, r.1)) (get_push xs y i v e)

get_grown : {X : Type 0} (xs : List X) (y : X) (k : ℕ) (x : X) → slice_get xs k ≡ Some x → slice_get (xs ++ y ∷ []) k ≡ Some x
get_grown [] y k x e = absurd (none-some x e)
get_grown (z ∷ xs) y zero x e = e
get_grown (z ∷ xs) y (suc k) x e = get_grown xs y k x e

get_last : {X : Type 0} (xs : List X) (y : X) → slice_get (xs ++ y ∷ []) (length xs) ≡ Some y
get_last [] y = refl
get_last (z ∷ xs) y = get_last xs y

one_more_place : (occurring : List (Option ℕ)) (x : ℕ) (places : List ℕ) → ArePlacesOf occurring x places → ArePlacesOf (occurring ++ Some x ∷ []) x (places ++ length occurring ∷ [])
one_more_place occurring x places are = record {
  ascending = push_increasing places (length occurring) are.ascending (λ i within. slice_get_within occurring i (Some x) ((are.exact i).0 within));
  exact = λ i. (
    λ within. ⊎_elim
        (λ (before : Contains places i). get_grown occurring (Some x) i (Some x) ((are.exact i).0 before))
        (λ (here : length occurring ≡ i). subst (λ j. slice_get (occurring ++ Some x ∷ []) j ≡ Some (Some x)) here (get_last occurring (Some x)))
        (Contains-push_cases places (length occurring) i within),
    λ there. ⊎_elim
        (λ before. Contains-append_left places (length occurring ∷ []) i ((are.exact i).1 before))
        (λ last. subst (Contains (places ++ length occurring ∷ [])) (sym last.0) (Contains-push places (length occurring)))
        (get_push occurring (Some x) i (Some x) there),
  );
}

no_more_place : (occurring : List (Option ℕ)) (x : ℕ) (places : List ℕ) (other : Option ℕ) → (other ≢ Some x) → ArePlacesOf occurring x places → ArePlacesOf (occurring ++ other ∷ []) x places
no_more_place occurring x places other differs are = record {
  ascending = are.ascending;
  exact = λ i. (
    λ within. get_grown occurring other i (Some x) ((are.exact i).0 within),
    λ there. ⊎_elim
        (λ before. (are.exact i).1 before)
        (λ last. absurd (differs last.1))
        (get_push occurring other i (Some x) there),
  );
}

is_or_differs : (o : Option ℕ) (x : ℕ) → (o ≡ Some x) ⊎ (o ≢ Some x)
is_or_differs None x = inr (λ e. none-some x e)
is_or_differs (Some y) x = ⊎_elim (λ (same : y ≡ x). inl (ap Some same)) (λ (other : y ≡ x → ⊥). inr (λ e. other (same_Some y x e))) (cases_eq y x)

one_more_listed : (count : ℕ) (occurring : List (Option ℕ)) (o : Option ℕ) (old new : List (List ℕ)) → AreListed count occurring old → AddsPlace o (length occurring) old new → AreListed count (occurring ++ o ∷ []) new
one_more_listed count occurring o old new are adds = record {
  count = adds.same_count ∙ are.count;
  each = λ x lt. ⊎_elim
      (λ (same : o ≡ Some x).
      subst (λ q. ArePlacesOf (occurring ++ q ∷ []) x (get_or new x [])) (sym same)
      (subst (ArePlacesOf (occurring ++ Some x ∷ []) x) (sym (adds.added x (omega (arith, lt, are.count)) same))
      (one_more_place occurring x (get_or old x []) (are.each x lt))))
      (λ (other : o ≢ Some x).
      subst (ArePlacesOf (occurring ++ o ∷ []) x) (sym (adds.others x other)) (no_more_place occurring x (get_or old x []) o other (are.each x lt)))
      (is_or_differs o x);
}

-- the point n is passed
pub point_passed : (count : ℕ) (occurring : List (Option ℕ)) (n : ℕ) (d : Option ℕ) (old new : List (List ℕ)) → n < length occurring → AreListed count (take n occurring) old → AddsPlace (get_or occurring n d) n old new → AreListed count (take (n + 1) occurring) new
point_passed count occurring n d old new lt are adds =
    subst (λ l. AreListed count l new) (sym (take_more occurring n d lt))
    (one_more_listed count (take n occurring) (get_or occurring n d) old new are
    (subst (λ k. AddsPlace (get_or occurring n d) k old new) (sym (length-take-le n occurring (omega (arith, lt)))) adds))

-- nothing is listed of no points
no_places : (x : ℕ) → ArePlacesOf [] x []
no_places x = record {
  ascending = λ k lt. absurd (omega (arith, lt));
  exact = λ i. (λ within. absurd (omega (arith, within.1)), λ there. absurd (none-some (Some x) there));
}

pub nothing_listed : (count : ℕ) → AreListed count [] (replicate count [])
nothing_listed count = record {
  count = length-replicate {A = List ℕ} count [];
  each = λ x lt. subst (ArePlacesOf [] x) (sym (get_or-replicate {A = List ℕ} count x [] [] lt)) (no_places x);
}
