-- The numbers that pass a test, in order: each is there once.
use Rattle.std.proofs.Common.{◌≡◌, ◌≤◌, ◌<◌, ◌+◌, ℕ, suc, zero, Bool, true, false, cond, List, ◌∷◌, refl, sym, ap, ◌∙◌, inl, inr, arith}
use Rattle.std.specs.Prelude.{Some, slice_get, filter}
use Rattle.std.specs.List.{range_with_len}
use Rattle.std.proofs.lemmas.Bool.{cases_eq}
use Rattle.std.proofs.lemmas.Option.{same_Some}

module _ (test : ℕ → Bool) where
  -- the list has numbers from a to before b that pass, each once, and each of them
  pub record AreNamed (a b : ℕ) (list : List ℕ) : Type 0 where
    pub pass : (i v : ℕ) → slice_get list i ≡ Some v → (a ≤ v) × (v < b) × (test v ≡ true)
    pub once : (i j v : ℕ) → slice_get list i ≡ Some v → slice_get list j ≡ Some v → i ≡ j
    pub found : (v : ℕ) → a ≤ v → v < b → test v ≡ true → (i : ℕ) × (slice_get list i ≡ Some v)

  named_left : (a b : ℕ) (list : List ℕ) → test a ≡ false → AreNamed (a + 1) b list → AreNamed a b list
  named_left a b list unneeded rest = record {
    pass = λ i v there. let h = rest.pass i v there in (omega (arith, h.0), h.1, h.2);
    once = rest.once;
    found = λ v le lt passes. elim (cases_eq v a) [
      | inl same ↦ (let t : test a ≡ true = ap test (sym same) ∙ passes in cc)
      | inr other ↦ rest.found v (omega (arith, le, other)) lt passes
    ];
  }

  named_more : (a b : ℕ) (list : List ℕ) → a < b → test a ≡ true → AreNamed (a + 1) b list → AreNamed a b (a ∷ list)
  named_more a b list less needed rest = record {
    pass = pass_here;
    once = once_here;
    found = λ v le lt t. elim (cases_eq v a) [
      | inl same ↦ (0, ap (λ u. Some u) (sym same))
      | inr other ↦ (let h = rest.found v (omega (arith, le, other)) lt t in (suc h.0, h.1))
    ];
  }
    where
      pass_here : (i v : ℕ) → slice_get (a ∷ list) i ≡ Some v → (a ≤ v) × (v < b) × (test v ≡ true)
      pass_here zero v there = let same : a ≡ v = same_Some a v there in (omega (arith, same), omega (arith, same, less), ap test (sym same) ∙ needed)
      pass_here (suc i) v there = let h = rest.pass i v there in (omega (arith, h.0), h.1, h.2)

      once_here : (i j v : ℕ) → slice_get (a ∷ list) i ≡ Some v → slice_get (a ∷ list) j ≡ Some v → i ≡ j
      once_here zero zero v h k = refl
      once_here zero (suc j) v h k = let same : a ≡ v = same_Some a v h in let r = rest.pass j v k in absurd (omega (arith, same, r.0))
      once_here (suc i) zero v h k = let same : a ≡ v = same_Some a v k in let r = rest.pass i v h in absurd (omega (arith, same, r.0))
      once_here (suc i) (suc j) v h k = ap suc (rest.once i j v h k)

  named_either : (a b : ℕ) (list : List ℕ) (here : Bool) → a < b → test a ≡ here → AreNamed (a + 1) b list → AreNamed a b (cond here (a ∷ list) list)
  named_either a b list true less is rest = named_more a b list less is rest
  named_either a b list false less is rest = named_left a b list is rest

  pub are_named : (a n b : ℕ) → a + n ≡ b → AreNamed a b (filter test (range_with_len a n))
  are_named a zero b sum = record { pass = λ i v there. absurd cc; once = λ i j v h k. absurd cc; found = λ v le lt passes. absurd (omega (arith, sum, le, lt)) }
  are_named a (suc n) b sum = named_either a b (filter test (range_with_len (a + 1) n)) (test a) (omega (arith, sum)) refl (are_named (a + 1) n b (omega (arith, sum)))
