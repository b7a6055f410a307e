-- Lists, of which the listed elements are changed one after another.
use Rattle.std.proofs.Common.{◌≡◌, ◌≢◌, ℕ, zero, suc, ◌<◌, ◌≤◌, ◌+◌, false, if◌then◌else◌, List, [], ◌∷◌, ◌++◌, length, get_or, set, take, Some, refl, sym, ◌∙◌, subst, ap, inl, inr, ◌⊎◌, ⊎_elim, arith, get_or-set_same, get_or-set_other, length-set}
use Rattle.std.specs.Prelude.{slice_get, AllPairs}
use Rattle.std.proofs.lemmas.List.{get_or-take, length-take-le, take_all, take_more}
use Rattle.std.proofs.lemmas.Bool.{cases_eq, cases_lt, false_from_ne_true}
use Rattle.std.proofs.lemmas.Option.{slice_get_within, get_or_from_slice_get}
use Rattle.planning.specs.Marking.{has}
use Rattle.planning.specs.Moving.{ChangesListed}
use Rattle.planning.proofs.Sets.{has_contains, has_push_same, has_push_other}

get_or_default : {X : Type 0} (xs : List X) (k : ℕ) (d e : X) → k < length xs → get_or xs k d ≡ get_or xs k e
get_or_default [] k d e lt = absurd (omega (arith, lt))
get_or_default (x ∷ xs) zero d e lt = refl
get_or_default (x ∷ xs) (suc k) d e lt = get_or_default xs k d e (omega (arith, lt))

-- what was read of a list, whatever the default
pub read_as : {X : Type 0} (xs ys : List X) (k : ℕ) (x d : X) → xs ≡ ys → k < length ys → x ≡ get_or xs k x → x ≡ get_or ys k d
read_as xs ys k x d same lt read = read ∙ ap (λ l. get_or l k x) same ∙ get_or_default ys k x d lt

-- two places of one element are one
pub differ_once : {X : Type 0} (xs : List X) → AllPairs (λ x y. x ≢ y) xs → (i j : ℕ) (x : X) → slice_get xs i ≡ Some x → slice_get xs j ≡ Some x → i ≡ j
differ_once {X} xs differ i j x e f = by (cases_lt i j) (cases_lt j i)
  where
    at : (k : ℕ) → slice_get xs k ≡ Some x → get_or xs k x ≡ x
    at k h = get_or_from_slice_get xs k x x h

    by : (i < j) ⊎ (j ≤ i) → (j < i) ⊎ (i ≤ j) → i ≡ j
    by (inl lt) other = absurd (differ i j x lt (slice_get_within xs j x f) (at i e ∙ sym (at j f)))
    by (inr ge) (inl lt) = absurd (differ j i x lt (slice_get_within xs i x e) (at j f ∙ sym (at i e)))
    by (inr ge) (inr ge') = omega (arith, ge, ge')

-- an element isn't among those before it
not_before : (listed : List ℕ) → AllPairs (λ m n. m ≢ n) listed → (i : ℕ) → i < length listed → has (take i listed) (get_or listed i 0) ≡ false
not_before listed differ i lt = false_from_ne_true (has (take i listed) (get_or listed i 0)) (λ h.
    let a = get_or listed i 0 in
    let c = has_contains (take i listed) a h in
    let inside : c.0 < length (take i listed) = c.1 in
    let before : c.0 < i = omega (arith, inside, length-take-le i listed (omega (arith, lt))) in
    let same : get_or listed c.0 a ≡ a = sym (get_or-take i listed c.0 a before) ∙ c.2 in
    differ c.0 i a before lt (same ∙ get_or_default listed i 0 a lt))

module _ {X : Type 0} (listed : List ℕ) (g : ℕ → X → X) (d : X) (old : List X) where
  pub ChangesListed-start : ChangesListed (take 0 listed) g d old old
  ChangesListed-start = record { len = refl; each = λ n lt. refl }

  pub ChangesListed-more : (new : List X) (i : ℕ) (value e : X) → AllPairs (λ m n. m ≢ n) listed → i < length listed → get_or listed i 0 < length old
      → ChangesListed (take i listed) g d old new → value ≡ g (get_or listed i 0) (get_or new (get_or listed i 0) e) → ChangesListed (take (i + 1) listed) g d old (set new (get_or listed i 0) value)
  ChangesListed-more new i value e differ lt inside is made =
      let a = get_or listed i 0 in
      let within : a < length new = omega (arith, inside, is.len) in
      let before : get_or new a d ≡ get_or old a d = is.each a inside ∙ ap (λ b. if b then g a (get_or old a d) else get_or old a d) (not_before listed differ i lt) in
      let became : value ≡ g a (get_or old a d) = made ∙ ap (g a) (get_or_default new a e d within ∙ before) in
      subst (λ l. ChangesListed l g d old (set new a value)) (sym (take_more listed i 0 lt)) (record {
        len = length-set new a value ∙ is.len;
        each = λ n lt'. ⊎_elim
            (λ (q : n ≡ a). subst (λ m. get_or (set new a value) m d ≡ (if has (take i listed ++ a ∷ []) m then g m (get_or old m d) else get_or old m d)) (sym q)
            (get_or-set_same new a value d within ∙ became ∙ ap (λ b. if b then g a (get_or old a d) else get_or old a d) (sym (has_push_same (take i listed) a))))
            (λ (ne : n ≡ a → ⊥). get_or-set_other new a n value d ne ∙ is.each n lt' ∙ ap (λ b. if b then g n (get_or old n d) else get_or old n d) (sym (has_push_other (take i listed) a n ne)))
            (cases_eq n a);
      })

  pub ChangesListed-all : (new : List X) (i : ℕ) → length listed ≤ i → ChangesListed (take i listed) g d old new → ChangesListed listed g d old new
  ChangesListed-all new i le is = subst (λ l. ChangesListed l g d old new) (take_all i listed le) is
