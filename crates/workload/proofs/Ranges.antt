-- Lists that are made of the numbers of a range.
use Rattle.std.proofs.Common.{◌≡◌, ℕ, zero, suc, ◌+◌, ◌<◌, List, [], ◌∷◌, ◌++◌, get_or, map, ap, ◌∙◌, arith}
use Rattle.std.specs.List.{flat_map, range_with_len}
use Rattle.std.proofs.lemmas.List.{append-nil}
use Rattle.std.proofs.lemmas.List.Concat.{flat_map-append}
use Rattle.std.proofs.lemmas.List.FromFn.{map-range_with_len_more, get_or-map-range_with_len}

pub range_push : (a n : ℕ) → range_with_len a (n + 1) ≡ range_with_len a n ++ (a + n) ∷ []
range_push a n = let e : n + 1 ≡ suc n = omega arith in ap (range_with_len a) e ∙ push a n
  where
    push : (a n : ℕ) → range_with_len a (suc n) ≡ range_with_len a n ++ (a + n) ∷ []
    push a zero = let e : a ≡ a + 0 = omega arith in ap (λ x. x ∷ []) e
    push a (suc n) = let e : a + 1 + n ≡ a + suc n = omega arith in ap (λ l. a ∷ l) (push (a + 1) n ∙ ap (λ x. range_with_len (a + 1) n ++ x ∷ []) e)

pub flat_map_range_push : {X : Type 0} (f : ℕ → List X) (n : ℕ) → flat_map f (range_with_len 0 (n + 1)) ≡ flat_map f (range_with_len 0 n) ++ f n
flat_map_range_push f n =
    let e : 0 + n ≡ n = omega arith in
    ap (flat_map f) (range_push 0 n) ∙ flat_map-append f (range_with_len 0 n) ((0 + n) ∷ []) ∙ ap (λ l. flat_map f (range_with_len 0 n) ++ l) (append-nil (f (0 + n)) ∙ ap f e)

pub map_range_push : {X : Type 0} (f : ℕ → X) (n : ℕ) → map f (range_with_len 0 (n + 1)) ≡ map f (range_with_len 0 n) ++ f n ∷ []
map_range_push f n = map-range_with_len_more f 0 n n (omega arith)

-- an item of such a list
pub map_range_at : {X : Type 0} (f : ℕ → X) (xs : List X) (n j : ℕ) (x : X) → xs ≡ map f (range_with_len 0 n) → j < n → x ≡ get_or xs j x → x ≡ f j
map_range_at f xs n j x e lt is = is ∙ ap (λ l. get_or l j x) e ∙ get_or-map-range_with_len f 0 n j j x lt (omega arith)
