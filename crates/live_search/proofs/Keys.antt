-- Sets of numbers as lists of keys.
use Rattle.std.proofs.Common.{◌≡◌, ◌⊎◌, inl, inr, ⊎_elim, ℕ, nat_eq, Bool, true, false, List, [], ◌∷◌, ◌++◌, if◌then◌else◌, refl, sym, ◌∙◌, subst, arith}
use Rattle.std.specs.Prelude.{◌↔◌, Contains}
use Rattle.std.specs.List.{list_any}
use Rattle.std.specs.Cmp.{IsEquivalence}
use Rattle.std.proofs.lemmas.Bool.{cases_Bool}
use Rattle.std.proofs.lemmas.Bool.Decides.{nat_tests}
use Rattle.std.proofs.lemmas.Map.Views.{list_any-from_Contains, Contains-from_any}
use Rattle.std.proofs.lemmas.List.{append-nil}
use Rattle.std.proofs.lemmas.List.Elements.{Contains-push, Contains-push_cases, Contains-append_left, Contains-append_cases}
use Rattle.indexmap.specs.IndexSet.{insert_key}

same : (a b : ℕ) → nat_eq a b ≡ true → a ≡ b
same a b h = grind (arith, nat_tests)

equivalence : IsEquivalence nat_eq
equivalence = record {
  refl = λ a. grind (arith, nat_tests);
  symm = λ a b. grind (arith, nat_tests);
  congr = λ a b c h. grind (arith, nat_tests);
}

-- the test finds exactly what is among the keys
pub has_key : (ks : List ℕ) (v : ℕ) → (list_any (nat_eq v) ks ≡ true) ↔ Contains ks v
has_key ks v = (Contains-from_any same v ks, list_any-from_Contains equivalence v ks)

-- what an insertion adds
pub record Inserted (ks : List ℕ) (v : ℕ) (new : List ℕ) : Type 0 where
  pub more : List ℕ
  pub behind : new ≡ ks ++ more
  pub only : (u : ℕ) → Contains more u → u ≡ v
  pub there : Contains new v

none : (u : ℕ) → ¬ Contains [] u
none u h = let lt = h.1 in absurd (omega (arith, lt))

pub inserted : (ks : List ℕ) (v : ℕ) → Inserted ks v (insert_key nat_eq ks v)
inserted ks v = ⊎_elim
    (λ (was : list_any (nat_eq v) ks ≡ true). subst (λ b. Inserted ks v (if b then ks else (ks ++ v ∷ []))) (sym was) (record {
      more = [];
      behind = sym (append-nil ks);
      only = λ u h. absurd (none u h);
      there = (has_key ks v).0 was;
    }))
    (λ (was : list_any (nat_eq v) ks ≡ false). subst (λ b. Inserted ks v (if b then ks else (ks ++ v ∷ []))) (sym was) (record {
      more = v ∷ [];
      behind = refl;
      only = λ u h. ⊎_elim (λ (n : Contains [] u). absurd (none u n)) (λ (e : v ≡ u). sym e) (Contains-push_cases [] v u h);
      there = Contains-push ks v;
    }))
    (cases_Bool (list_any (nat_eq v) ks))

-- after an insertion
pub insert_cases : (ks : List ℕ) (v : ℕ) (new : List ℕ) → Inserted ks v new → (u : ℕ) → Contains new u → Contains ks u ⊎ (u ≡ v)
insert_cases ks v new i u h = ⊎_elim (λ (l : Contains ks u). inl l) (λ (r : Contains i.more u). inr (i.only u r)) (split (subst (λ l. Contains l u) i.behind h))
  where
    split : Contains (ks ++ i.more) u → Contains ks u ⊎ Contains i.more u
    split = Contains-append_cases ks i.more u

pub insert_keeps : (ks : List ℕ) (v : ℕ) (new : List ℕ) → Inserted ks v new → (u : ℕ) → Contains ks u → Contains new u
insert_keeps ks v new i u h = subst (λ l. Contains l u) (sym i.behind) (Contains-append_left ks i.more u h)

-- the set of one number more
pub set_grows : (ks : List ℕ) (v : ℕ) (new xs : List ℕ) → Inserted ks v new → ((u : ℕ) → Contains ks u ↔ Contains xs u) → (u : ℕ) → Contains new u ↔ Contains (xs ++ v ∷ []) u
set_grows ks v new xs i are u = (
  λ h. ⊎_elim
      (λ (old : Contains ks u). Contains-append_left xs (v ∷ []) u ((are u).0 old))
      (λ (e : u ≡ v). subst (Contains (xs ++ v ∷ [])) (sym e) (Contains-push xs v))
      (insert_cases ks v new i u h),
  λ h. ⊎_elim
      (λ (old : Contains xs u). insert_keeps ks v new i u ((are u).1 old))
      (λ (e : v ≡ u). subst (Contains new) e i.there)
      (Contains-push_cases xs v u h),
)

-- a test that failed, and one that didn't
pub absent : {P : Type 0} (b : Bool) → (b ≡ true) ↔ P → b ≡ false → ¬ P
absent b test failed holds = true_false (sym (test.1 holds) ∙ failed)
  where
    true_false : true ≡ false → ⊥
    true_false e = cc
