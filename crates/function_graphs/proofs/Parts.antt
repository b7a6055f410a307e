-- Parts of lists, by the places where they stand.
use Rattle.std.proofs.Common.{◌≡◌, ℕ, zero, suc, ◌+◌, ◌<◌, List, [], ◌∷◌, ◌++◌, length, map, get_or, Some, refl, ap, ◌∙◌, subst, arith}
use Rattle.std.specs.Prelude.{slice_get}
use Rattle.std.specs.List.{range_with_len, AllZip}
use Rattle.best_placement.specs.Shapes.{straight}
use Rattle.best_placement.proofs.Numbered.{Stands}

-- the part stands in the whole from there on
abbrev pub StandsIn : {X : Type 0} → List X → ℕ → List X → Type 0
StandsIn whole i [] = Unit {0}
StandsIn whole i (x ∷ part) = (slice_get whole i ≡ Some x) × StandsIn whole (suc i) part

pub stands_split : {X : Type 0} (whole : List X) (i : ℕ) (first second : List X) → StandsIn whole i (first ++ second) → StandsIn whole i first × StandsIn whole (i + length first) second
stands_split whole i [] second h = (tt, subst (λ j. StandsIn whole j second) (let q : i ≡ i + 0 = omega arith in q) h)
stands_split whole i (x ∷ first) second h =
    let r = stands_split whole (suc i) first second h.1 in
    ((h.0, r.0), subst (λ j. StandsIn whole j second) (let q : suc i + length first ≡ i + length (x ∷ first) = omega arith in q) r.1)

stands_later : {X : Type 0} (x : X) (whole : List X) (i : ℕ) (part : List X) → StandsIn whole i part → StandsIn (x ∷ whole) (suc i) part
stands_later x whole i [] h = tt
stands_later x whole i (y ∷ part) h = (h.0, stands_later x whole (suc i) part h.1)

pub stands_whole : {X : Type 0} (whole : List X) → StandsIn whole 0 whole
stands_whole [] = tt
stands_whole (x ∷ whole) = (refl, stands_later x whole 0 whole (stands_whole whole))

pub stands_range : {X : Type 0} (whole : List X) (g : ℕ → X) (i a n k : ℕ) → StandsIn whole i (map g (range_with_len a n)) → k < n → slice_get whole (i + k) ≡ Some (g (a + k))
stands_range whole g i a zero k h lt = absurd (omega (arith, lt))
stands_range whole g i a (suc n) zero h lt =
    let z : i + 0 ≡ i = omega arith in
    let y : a ≡ a + 0 = omega arith in
    ap (slice_get whole) z ∙ h.0 ∙ ap (λ j. Some (g j)) y
stands_range whole g i a (suc n) (suc k) h lt =
    let z : i + suc k ≡ suc i + k = omega arith in
    let y : a + 1 + k ≡ a + suc k = omega arith in
    ap (slice_get whole) z ∙ stands_range whole g (suc i) (a + 1) n k h.1 (omega (arith, lt)) ∙ ap (λ j. Some (g j)) y

pub get_some : {X : Type 0} (xs : List X) (i : ℕ) → i < length xs → (x : X) × (slice_get xs i ≡ Some x)
get_some [] i lt = absurd (omega (arith, lt))
get_some (x ∷ xs) zero lt = (x, refl)
get_some (x ∷ xs) (suc i) lt = get_some xs i (omega (arith, lt))

pub get_map : {A B : Type 0} (g : A → B) (xs : List A) (i : ℕ) (x : A) → slice_get xs i ≡ Some x → slice_get (map g xs) i ≡ Some (g x)
get_map g [] i x e = absurd cc
get_map g (y ∷ ys) zero x e = let same : y ≡ x = cc in ap (λ z. Some (g z)) same
get_map g (y ∷ ys) (suc i) x e = get_map g ys i x e

pub get_map_back : {A B : Type 0} (g : A → B) (xs : List A) (i : ℕ) (v : B) → slice_get (map g xs) i ≡ Some v → (x : A) × (slice_get xs i ≡ Some x) × (g x ≡ v)
get_map_back g [] i v e = absurd cc
get_map_back g (x ∷ xs) zero v e = let same : g x ≡ v = cc in (x, refl, same)
get_map_back g (x ∷ xs) (suc i) v e = get_map_back g xs i v e

pub map_at : {A B : Type 0} (g : A → B) (xs : List A) (i : ℕ) (x : A) (d : B) → slice_get xs i ≡ Some x → get_or (map g xs) i d ≡ g x
map_at g [] i x d e = absurd cc
map_at g (y ∷ ys) zero x d e = let same : y ≡ x = cc in ap g same
map_at g (y ∷ ys) (suc i) x d e = map_at g ys i x d e

pub zip_length : {A B : Type 0} (R : A → B → Type 0) (xs : List A) (ys : List B) → AllZip R xs ys → length xs ≡ length ys
zip_length R [] [] all = refl
zip_length R (x ∷ xs) (y ∷ ys) all = ap suc (zip_length R xs ys all.1)
zip_length R [] (y ∷ ys) all = absurd all
zip_length R (x ∷ xs) [] all = absurd all

-- what stands beside an element
pub zip_beside : {A B : Type 0} (R : A → B → Type 0) (xs : List A) (ys : List B) → AllZip R xs ys → (n : ℕ) (x : A) → slice_get xs n ≡ Some x → (y : B) × (slice_get ys n ≡ Some y) × R x y
zip_beside R [] [] all n x e = absurd cc
zip_beside R (z ∷ xs) (y ∷ ys) all zero x e = let same : z ≡ x = cc in (y, refl, subst (λ w. R w y) same all.0)
zip_beside R (z ∷ xs) (y ∷ ys) all (suc n) x e = zip_beside R xs ys all.1 n x e
zip_beside R [] (y ∷ ys) all n x e = absurd all
zip_beside R (z ∷ xs) [] all n x e = absurd all

-- ---- parts of lists of arcs

pub each_stands : {X : Type 0} (arcs : List (ℕ × ℕ)) (e : ℕ) (g : X → ℕ × ℕ) (xs : List X) → ((k : ℕ) (x : X) → slice_get xs k ≡ Some x → get_or arcs (e + k) (0, 0) ≡ g x) → Stands arcs e (map g xs)
each_stands arcs e g [] h = tt
each_stands arcs e g (x ∷ xs) h = (
  let z : e ≡ e + 0 = omega arith in ap (λ i. get_or arcs i (0, 0)) z ∙ h 0 x refl,
  each_stands arcs (suc e) g xs (λ k y there. let z : suc e + k ≡ e + suc k = omega arith in ap (λ i. get_or arcs i (0, 0)) z ∙ h (suc k) y there),
)

abbrev pub pair : ℕ → ℕ → ℕ × ℕ
pair a b = (a, b)

pub same_pair : (a b c d : ℕ) → a ≡ c → b ≡ d → pair a b ≡ pair c d
same_pair a b c d e h = ap (λ x. pair x b) e ∙ ap (λ y. pair c y) h

pub straight_stands : (arcs : List (ℕ × ℕ)) (e v n : ℕ) → ((k : ℕ) → k < n → get_or arcs (e + k) (0, 0) ≡ pair (v + k) (suc v + k)) → Stands arcs e (straight v n)
straight_stands arcs e v zero h = tt
straight_stands arcs e v (suc n) h =
    let z : e ≡ e + 0 = omega arith in (
      ap (λ i. get_or arcs i (0, 0)) z ∙ h 0 (omega arith) ∙ same_pair (v + 0) (suc v + 0) v (suc v) (omega arith) (omega arith),
      straight_stands arcs (suc e) (suc v) n (λ k lt.
          let y : suc e + k ≡ e + suc k = omega arith in
          ap (λ i. get_or arcs i (0, 0)) y ∙ h (suc k) (omega (arith, lt)) ∙ same_pair (v + suc k) (suc v + suc k) (suc v + k) (suc (suc v) + k) (omega arith) (omega arith)),
    )

pub stands_append : (arcs : List (ℕ × ℕ)) (e : ℕ) (first second : List (ℕ × ℕ)) → Stands arcs e first → Stands arcs (e + length first) second → Stands arcs e (first ++ second)
stands_append arcs e [] second f s = subst (λ i. Stands arcs i second) (let q : e + 0 ≡ e = omega arith in q) s
stands_append arcs e (a ∷ first) second f s = (f.0, stands_append arcs (suc e) first second f.1 (subst (λ i. Stands arcs i second) (let q : e + length (a ∷ first) ≡ suc e + length first = omega arith in q) s))

stands_tail : (a : ℕ × ℕ) (arcs : List (ℕ × ℕ)) (e : ℕ) (part : List (ℕ × ℕ)) → Stands (a ∷ arcs) (suc e) part → Stands arcs e part
stands_tail a arcs e [] h = tt
stands_tail a arcs e (b ∷ part) h = (h.0, stands_tail a arcs (suc e) part h.1)

-- a part of all is all
pub same_lists : (arcs part : List (ℕ × ℕ)) → Stands arcs 0 part → length arcs ≡ length part → arcs ≡ part
same_lists [] [] h e = refl
same_lists [] (a ∷ part) h e = absurd (omega (arith, e))
same_lists (a ∷ arcs) [] h e = absurd (omega (arith, e))
same_lists (a ∷ arcs) (b ∷ part) h e =
    let rest : arcs ≡ part = same_lists arcs part (stands_tail a arcs 0 part h.1) (omega (arith, e)) in
    ap (λ x. x ∷ arcs) h.0 ∙ ap (λ l. b ∷ l) rest
