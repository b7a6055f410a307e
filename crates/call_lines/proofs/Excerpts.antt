-- Slices at places that may lie behind the end.
use Rattle.std.proofs.Common.{◌≡◌, ◌<◌, ◌≤◌, ◌-◌, ℕ, List, [], take, drop, length, length-drop, ◌⊎◌, inl, inr, sym, ap, ◌∙◌, arith}
use Rattle.std.specs.Prelude.{min}
use Rattle.std.proofs.lemmas.Bool.{cases_lt}
use Rattle.std.proofs.lemmas.List.{take_all, drop_all, take_min}

nothing : (n : ℕ) (xs : List ℕ) → n ≡ 0 → take n xs ≡ []
nothing n xs e = ap (λ (n : ℕ). take n xs) e

module _ (source : List ℕ) (start end e s : ℕ) (is_end : e ≡ min end (length source)) (is_start : s ≡ min start e) where
  -- both take all that is left
  behind : start ≤ length source → length source < end → s ≡ start → take (e - s) (drop s source) ≡ take (end - start) (drop start source)
  behind within beyond same =
      ap (λ (s : ℕ). take (e - s) (drop s source)) same
      ∙ take_all (e - start) (drop start source) (omega (arith, length-drop start source, is_end))
      ∙ sym (take_all (end - start) (drop start source) (omega (arith, length-drop start source)))

  within : start ≤ length source → start < end → take (e - s) (drop s source) ≡ take (end - start) (drop start source)
  within low lt = by (cases_lt (length source) end)
    where
      same : s ≡ start
      same = omega (arith, is_end, is_start, low, lt)

      by : (length source < end) ⊎ (end ≤ length source) → take (e - s) (drop s source) ≡ take (end - start) (drop start source)
      by (inl beyond) = behind low beyond same
      by (inr inside) = let last : e ≡ end = omega (arith, is_end, inside) in ap (λ (s : ℕ). take (e - s) (drop s source)) same ∙ ap (λ (e : ℕ). take (e - start) (drop start source)) last

  token_is : take (e - s) (drop s source) ≡ take (end - start) (drop start source)
  token_is = by (cases_lt start end) (cases_lt (length source) start)
    where
      by : (start < end) ⊎ (end ≤ start) → (length source < start) ⊎ (start ≤ length source) → take (e - s) (drop s source) ≡ take (end - start) (drop start source)
      by (inr none) far = nothing (e - s) (drop s source) (omega (arith, is_end, is_start, none)) ∙ sym (nothing (end - start) (drop start source) (omega (arith, none)))
      by (inl lt) (inr low) = within low lt
      by (inl lt) (inl far) =
          nothing (e - s) (drop s source) (omega (arith, is_end, is_start, lt, far))
          ∙ sym (ap (take (end - start)) (drop_all start source (omega (arith, far))) ∙ take_all (end - start) [] (omega arith))

  pub excerpt_is : (n : ℕ) → n ≡ min (length (take (e - s) (drop s source))) 40 → take n (take (e - s) (drop s source)) ≡ take 40 (take (end - start) (drop start source))
  excerpt_is n count =
      let xs : List ℕ = take (e - s) (drop s source) in
      let n_is : n ≡ min 40 (length xs) = omega (arith, count) in
      ap (λ (n : ℕ). take n xs) n_is ∙ take_min 40 xs ∙ ap (take 40) token_is
