-- Lists that ascend.
use Rattle.std.proofs.Common.{◌≡◌, ⊎_elim, ℕ, ◌+◌, ◌<◌, ◌≤◌, List, [], ◌∷◌, ◌++◌, length, get_or, sym, ap, ◌∙◌, arith}
use Rattle.std.specs.Prelude.{Contains}
use Rattle.std.specs.List.Sorted.{IsStrictlyIncreasing}
use Rattle.std.proofs.lemmas.Bool.{cases_lt}
use Rattle.std.proofs.lemmas.List.{length_push, get_or_append_left}
use Rattle.std.proofs.lemmas.List.Elements.{Contains-get_or}
use Rattle.std.proofs.Math.Seq.{get_or-append_seam}

pub push_increasing : (xs : List ℕ) (n : ℕ) → IsStrictlyIncreasing xs → ((i : ℕ) → Contains xs i → i < n) → IsStrictlyIncreasing (xs ++ n ∷ [])
push_increasing xs n up below k lt =
    let count = length_push xs n in
    let old : get_or (xs ++ n ∷ []) k 0 ≡ get_or xs k 0 = get_or_append_left xs (n ∷ []) 0 k (omega (arith, lt, count)) in
    ⊎_elim
    (λ (inside : k + 1 < length xs).
    let next : get_or (xs ++ n ∷ []) (k + 1) 0 ≡ get_or xs (k + 1) 0 = get_or_append_left xs (n ∷ []) 0 (k + 1) inside in
    omega (arith, old, next, up k inside))
    (λ (last : length xs ≤ k + 1).
    let at : length xs ≡ k + 1 = omega (arith, lt, count, last) in
    let next : get_or (xs ++ n ∷ []) (k + 1) 0 ≡ n = ap (λ i. get_or (xs ++ n ∷ []) i 0) (sym at) ∙ get_or-append_seam xs n [] 0 in
    let here : get_or xs k 0 < n = below (get_or xs k 0) (Contains-get_or xs k 0 (omega (arith, at))) in
    omega (arith, old, next, here))
    (cases_lt (k + 1) (length xs))
