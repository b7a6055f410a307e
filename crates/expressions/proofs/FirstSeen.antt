-- Lists of what is first seen, as they grow.
use Rattle.std.proofs.Common.{◌≡◌, ◌≢◌, ℕ, zero, suc, ◌+◌, ◌<◌, ◌≤◌, Bool, true, false, List, [], ◌∷◌, ◌++◌, length, map, get_or, Option, Some, None, refl, sym, ap, ◌∙◌, subst, arith, inl, inr, ◌⊎◌, ⊎_elim}
use Rattle.std.specs.Prelude.{◌↔◌, slice_get, filter_map, AllPairs, Contains}
use Rattle.std.specs.List.{AllZip, cons_option}
use Rattle.std.proofs.lemmas.Bool.{cases_lt}
use Rattle.std.proofs.lemmas.List.{append-nil, length_push}
use Rattle.std.proofs.lemmas.List.Elements.{Contains-append_left, Contains-push, Contains-push_cases, filter_map-append}
use Rattle.std.proofs.lemmas.List.Quantifiers.{all_pairs_push}
use Rattle.std.proofs.lemmas.Option.{slice_get_within, slice_get-get_or, get_or_from_slice_get}
use Rattle.expressions.specs.declared.syntax.Expr.{Expr}
use Rattle.expressions.specs.Tables.{AreFirstSeen, IsNumberOf}
use Rattle.expressions.specs.Walking.{Seen, Joined, AddsNumber, AddsOne, AddsAll}

-- ---- elements by their places

pub contains_at : {X : Type 0} (xs : List X) (i : ℕ) (x : X) → slice_get xs i ≡ Some x → Contains xs x
contains_at xs i x e = (i, slice_get_within xs i x e, get_or_from_slice_get xs i x x e)

pub at_contains : {X : Type 0} (xs : List X) (x : X) → Contains xs x → (k : ℕ) × (slice_get xs k ≡ Some x)
at_contains xs x h = (h.0, slice_get-get_or xs h.0 x h.1 ∙ ap Some h.2)

pub get_left : {X : Type 0} (xs ys : List X) (i : ℕ) (v : X) → slice_get xs i ≡ Some v → slice_get (xs ++ ys) i ≡ Some v
get_left [] ys i v e = absurd cc
get_left (x ∷ xs) ys zero v e = e
get_left (x ∷ xs) ys (suc i) v e = get_left xs ys i v e

pub get_some : {X : Type 0} (xs : List X) (i : ℕ) → i < length xs → (x : X) × (slice_get xs i ≡ Some x)
get_some [] i lt = absurd (omega (arith, lt))
get_some (x ∷ xs) zero lt = (x, refl)
get_some (x ∷ xs) (suc i) lt = get_some xs i (omega (arith, lt))

-- an element of a list with one more
pub get_push : {X : Type 0} (xs : List X) (y : X) (i : ℕ) (v : X) → slice_get (xs ++ y ∷ []) i ≡ Some v → (slice_get xs i ≡ Some v) ⊎ ((i ≡ length xs) × (y ≡ v))
get_push [] y zero v e = inr (refl, let same : y ≡ v = cc in same)
get_push [] y (suc i) v e = absurd cc
get_push (x ∷ xs) y zero v e = inl e
get_push (x ∷ xs) y (suc i) v e = ⊎_elim (λ l. inl l) (λ r. inr (ap (λ n. suc n) r.0, r.1)) (get_push xs y i v e)

pub zip_append : {A B : Type 0} (R : A → B → Type 0) (xs xs' : List A) (ys ys' : List B) → AllZip R xs ys → AllZip R xs' ys' → AllZip R (xs ++ xs') (ys ++ ys')
zip_append R [] xs' [] ys' h h' = h'
zip_append R [] xs' (y ∷ ys) ys' h h' = absurd h
zip_append R (x ∷ xs) xs' [] ys' h h' = absurd h
zip_append R (x ∷ xs) xs' (y ∷ ys) ys' h h' = (h.0, zip_append R xs xs' ys ys' h.1 h')

pub zip_weaker : {A B : Type 0} (R S : A → B → Type 0) → ((x : A) (y : B) → R x y → S x y) → (xs : List A) (ys : List B) → AllZip R xs ys → AllZip S xs ys
zip_weaker R S by [] [] h = tt
zip_weaker R S by [] (y ∷ ys) h = absurd h
zip_weaker R S by (x ∷ xs) [] h = absurd h
zip_weaker R S by (x ∷ xs) (y ∷ ys) h = (by x y h.0, zip_weaker R S by xs ys h.1)

-- ---- first seen

pub seen_nil : {X : Type 0} → AreFirstSeen {X = X} [] []
seen_nil = record {
  members = λ x. (λ h. h, λ h. h);
  differ = λ i j d lt within. absurd (omega (arith, within));
  in_order = λ i j n x y lt e f g. absurd cc;
}

-- one that was there
pub seen_again : {X : Type 0} (all once : List X) (e : X) → AreFirstSeen all once → Contains once e → AreFirstSeen (all ++ e ∷ []) once
seen_again {X} all once e seen there = record {
  members = λ x. (
    λ h. Contains-append_left all (e ∷ []) x ((seen.members x).0 h),
    λ h. ⊎_elim (λ (before : Contains all x). (seen.members x).1 before) (λ (same : e ≡ x). subst (Contains once) same there) (Contains-push_cases all e x h),
  );
  differ = seen.differ;
  in_order = λ i j n x y lt at at' come. by i j n x y lt at at' (get_push all e n y come);
}
  where
    by : (i j n : ℕ) (x y : X) → i < j → slice_get once i ≡ Some x → slice_get once j ≡ Some y → (slice_get all n ≡ Some y) ⊎ ((n ≡ length all) × (e ≡ y)) → (k : ℕ) × (k < n) × (slice_get (all ++ e ∷ []) k ≡ Some x)
    by i j n x y lt at at' (inl before) = let r = seen.in_order i j n x y lt at at' before in (r.0, r.1, get_left all (e ∷ []) r.0 x r.2)
    by i j n x y lt at at' (inr last) =
        let first = at_contains all y ((seen.members y).0 (contains_at once j y at')) in
        let inside = slice_get_within all first.0 y first.1 in
        let r = seen.in_order i j first.0 x y lt at at' first.1 in
        (r.0, omega (arith, r.1, inside, last.0), get_left all (e ∷ []) r.0 x r.2)

-- a new one
pub seen_new : {X : Type 0} (all once : List X) (e : X) → AreFirstSeen all once → ((Contains once e) → ⊥) → AreFirstSeen (all ++ e ∷ []) (once ++ e ∷ [])
seen_new {X} all once e seen absent = record {
  members = λ x. (
    λ h. ⊎_elim (λ (before : Contains once x). Contains-append_left all (e ∷ []) x ((seen.members x).0 before)) (λ (same : e ≡ x). subst (Contains (all ++ e ∷ [])) same (Contains-push all e)) (Contains-push_cases once e x h),
    λ h. ⊎_elim (λ (before : Contains all x). Contains-append_left once (e ∷ []) x ((seen.members x).1 before)) (λ (same : e ≡ x). subst (Contains (once ++ e ∷ [])) same (Contains-push once e)) (Contains-push_cases all e x h),
  );
  differ = all_pairs_push (λ x y. x ≢ y) once e seen.differ (λ k d lt same. absent (subst (Contains once) same (contains_at once k (get_or once k d) (slice_get-get_or once k d lt))));
  in_order = λ i j n x y lt at at' come. by i j n x y lt (get_push once e i x at) (get_push once e j y at') (get_push all e n y come);
}
  where
    by : (i j n : ℕ) (x y : X) → i < j → (slice_get once i ≡ Some x) ⊎ ((i ≡ length once) × (e ≡ x)) → (slice_get once j ≡ Some y) ⊎ ((j ≡ length once) × (e ≡ y)) → (slice_get all n ≡ Some y) ⊎ ((n ≡ length all) × (e ≡ y)) → (k : ℕ) × (k < n) × (slice_get (all ++ e ∷ []) k ≡ Some x)
    by i j n x y lt (inl at) (inl at') (inl before) = let r = seen.in_order i j n x y lt at at' before in (r.0, r.1, get_left all (e ∷ []) r.0 x r.2)
    by i j n x y lt (inl at) (inl at') (inr last) = absurd (absent (subst (Contains once) (sym last.1) (contains_at once j y at')))
    by i j n x y lt (inl at) (inr last) (inl before) = absurd (absent (subst (Contains once) (sym last.1) ((seen.members y).1 (contains_at all n y before))))
    by i j n x y lt (inl at) (inr last) (inr end) =
        let first = at_contains all x ((seen.members x).0 (contains_at once i x at)) in
        (first.0, omega (arith, slice_get_within all first.0 x first.1, end.0), get_left all (e ∷ []) first.0 x first.1)
    by i j n x y lt (inr last) (inl at') come = absurd (omega (arith, slice_get_within once j y at', last.0, lt))
    by i j n x y lt (inr last) (inr last') come = absurd (omega (arith, last.0, last'.0, lt))

-- two places of one element are one
pub differ_once : {X : Type 0} (xs : List X) → AllPairs (λ x y. x ≢ y) xs → (i j : ℕ) (x : X) → slice_get xs i ≡ Some x → slice_get xs j ≡ Some x → i ≡ j
differ_once {X} xs differ i j x e f = by (cases_lt i j) (cases_lt j i)
  where
    at : (k : ℕ) → slice_get xs k ≡ Some x → get_or xs k x ≡ x
    at k h = get_or_from_slice_get xs k x x h

    by : (i < j) ⊎ (j ≤ i) → (j < i) ⊎ (i ≤ j) → i ≡ j
    by (inl lt) other = absurd (differ i j x lt (slice_get_within xs j x f) (at i e ∙ sym (at j f)))
    by (inr ge) (inl lt) = absurd (differ j i x lt (slice_get_within xs i x e) (at j f ∙ sym (at i e)))
    by (inr ge) (inr ge') = omega (arith, ge, ge')

-- ---- what a walk has found

-- what occurred so far is listed, and numbered at each point
pub record Built (es : List (Option Expr)) (s : Seen) : Type 0 where
  pub seen : AreFirstSeen (filter_map (λ e. e) es) s.exprs
  pub numbered : AllZip (IsNumberOf s.exprs) es s.occurring

number_kept : (old new : List Expr) (joining : Option Expr) → Joined old joining new → (e : Option Expr) (x : Option ℕ) → IsNumberOf old e x → IsNumberOf new e x
number_kept old new joining joined None None h = tt
number_kept old new joining joined None (Some x) h = absurd h
number_kept old new joining joined (Some e) None h = absurd h
number_kept old new None joined (Some e) (Some x) h = ap (λ l. slice_get l x) joined ∙ h
number_kept old new (Some f) (inl again) (Some e) (Some x) h = ap (λ l. slice_get l x) again.1 ∙ h
number_kept old new (Some f) (inr more) (Some e) (Some x) h = ap (λ l. slice_get l x) more.1 ∙ get_left old (f ∷ []) x e h

seen_one : (e : Option Expr) (es : List (Option Expr)) (old new : List Expr) → AreFirstSeen (filter_map (λ e. e) es) old → Joined old e new → AreFirstSeen (filter_map (λ e. e) es ++ cons_option e []) new
seen_one None es old new seen same =
    subst (λ l. AreFirstSeen l new) (sym (append-nil (filter_map (λ e. e) es))) (subst (λ l. AreFirstSeen (filter_map (λ e. e) es) l) (sym same) seen)
seen_one (Some e) es old new seen (inl again) =
    subst (λ l. AreFirstSeen (filter_map (λ e. e) es ++ e ∷ []) l) (sym again.1) (seen_again (filter_map (λ e. e) es) old e seen again.0)
seen_one (Some e) es old new seen (inr more) =
    subst (λ l. AreFirstSeen (filter_map (λ e. e) es ++ e ∷ []) l) (sym more.1) (seen_new (filter_map (λ e. e) es) old e seen more.0)

built_one : (es : List (Option Expr)) (e : Option Expr) (s t : Seen) → Built es s → AddsOne e s t → Built (es ++ e ∷ []) t
built_one es e s t built adds = record {
  seen = subst (λ l. AreFirstSeen l t.exprs) (sym (filter_map-append (λ e. e) es (e ∷ []))) (seen_one e es s.exprs t.exprs built.seen adds.adds.joined);
  numbered = subst (λ l. AllZip (IsNumberOf t.exprs) (es ++ e ∷ []) l) (sym adds.occurring)
      (zip_append (IsNumberOf t.exprs) es (e ∷ []) s.occurring (adds.x ∷ [])
      (zip_weaker (IsNumberOf s.exprs) (IsNumberOf t.exprs) (number_kept s.exprs t.exprs e adds.adds.joined) es s.occurring built.numbered)
      (adds.adds.number, tt));
}

push_again : {X : Type 0} (xs : List X) (y : X) (ys : List X) → (xs ++ y ∷ []) ++ ys ≡ xs ++ (y ∷ ys)
push_again [] y ys = refl
push_again (x ∷ xs) y ys = ap (λ l. x ∷ l) (push_again xs y ys)

pub built_all : (es more : List (Option Expr)) (s t : Seen) → Built es s → AddsAll more s t → Built (es ++ more) t
built_all es [] s t built same = subst (λ l. Built l t) (sym (append-nil es)) (subst (Built es) (sym same) built)
built_all es (e ∷ more) s t built adds =
    subst (λ l. Built l t) (push_again es e more) (built_all (es ++ e ∷ []) more adds.0 t (built_one es e s adds.0 built adds.1) adds.2)

pub built_nil : Built [] (record { exprs = []; occurring = [] })
built_nil = record { seen = seen_nil; numbered = tt }

pub adds_append : (xs ys : List (Option Expr)) (a b c : Seen) → AddsAll xs a b → AddsAll ys b c → AddsAll (xs ++ ys) a c
adds_append [] ys a b c h k = subst (λ s. AddsAll ys s c) h k
adds_append (x ∷ xs) ys a b c h k = (h.0, h.1, adds_append xs ys h.0 b c h.2 k)

pub adds_push : (xs : List (Option Expr)) (y : Option Expr) (a b c : Seen) → AddsAll xs a b → AddsOne y b c → AddsAll (xs ++ y ∷ []) a c
adds_push xs y a b c h k = adds_append xs (y ∷ []) a b c h (c, k, refl)

pub adds_length : (xs : List (Option Expr)) (a b : Seen) → AddsAll xs a b → length b.occurring ≡ length a.occurring + length xs
adds_length [] a b h = omega (arith, ap (λ s. length s.occurring) h)
adds_length (x ∷ xs) a b h =
    omega (arith, adds_length xs h.0 b h.2, ap length h.1.occurring, length_push a.occurring h.1.x)

-- ---- the same by points

pub filter_map-map : {P : Type 0} (g : P → Option Expr) (ps : List P) → filter_map (λ e. e) (map g ps) ≡ filter_map g ps
filter_map-map g [] = refl
filter_map-map g (p ∷ ps) = ap (cons_option (g p)) (filter_map-map g ps)

pub zip_map : {P X : Type 0} (R : Option Expr → X → Type 0) (g : P → Option Expr) (ps : List P) (xs : List X) → AllZip R (map g ps) xs → AllZip (λ p x. R (g p) x) ps xs
zip_map R g [] [] h = tt
zip_map R g [] (x ∷ xs) h = absurd h
zip_map R g (p ∷ ps) [] h = absurd h
zip_map R g (p ∷ ps) (x ∷ xs) h = (h.0, zip_map R g ps xs h.1)

pub zip_length : {A B : Type 0} (R : A → B → Type 0) (xs : List A) (ys : List B) → AllZip R xs ys → length xs ≡ length ys
zip_length R [] [] all = refl
zip_length R [] (y ∷ ys) all = absurd all
zip_length R (x ∷ xs) [] all = absurd all
zip_length R (x ∷ xs) (y ∷ ys) all = ap (λ n. suc n) (zip_length R xs ys all.1)

-- what is at a place of the first list, and what is beside it
pub zip_at : {A B : Type 0} (R : A → B → Type 0) (xs : List A) (ys : List B) (i : ℕ) (x : A) → AllZip R xs ys → slice_get xs i ≡ Some x → (y : B) × (slice_get ys i ≡ Some y) × R x y
zip_at R [] ys i x all e = absurd cc
zip_at R (a ∷ xs) [] i x all e = absurd all
zip_at R (a ∷ xs) (b ∷ ys) zero x all e = let same : a ≡ x = cc in (b, refl, subst (λ v. R v b) same all.0)
zip_at R (a ∷ xs) (b ∷ ys) (suc i) x all e = zip_at R xs ys i x all.1 e
