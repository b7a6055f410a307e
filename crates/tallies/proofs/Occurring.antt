-- The listed places of an expression are the points at which it occurs.
use Rattle.std.proofs.Common.{◌≡◌, ◌≢◌, ◌<◌, ◌≤◌, ◌⊎◌, ℕ, zero, suc, List, [], ◌∷◌, length, Option, Some, None, All, get_or, refl, sym, ap, ◌∙◌, subst, inl, inr, arith}
use Rattle.std.specs.Prelude.{slice_get, AllPairs}
use Rattle.std.specs.List.{AllZip}
use Rattle.std.proofs.lemmas.Bool.{cases_lt}
use Rattle.std.proofs.lemmas.List.Elements.{Contains-get_or}
use Rattle.std.proofs.lemmas.Option.{slice_get_within, get_or_from_slice_get, same_Some}
use Rattle.ir_types.specs.declared.syntax.Function.{Function}
use Rattle.point_graph.specs.declared.graph.Point.{Point}
use Rattle.point_graph.specs.declared.graph.Points.{Points}
use Rattle.expressions.specs.declared.syntax.Expr.{Expr}
use Rattle.expressions.specs.declared.syntax.Event.TheVariants.{Occurs}
use Rattle.expressions.specs.Expressions.{expr_at}
use Rattle.expressions.specs.Kept.{Kept}
use Rattle.expressions.specs.Tables.{IsTable, IsNumberOf, IsEventOf}
use Rattle.occurrences.specs.Listed.{ArePlacesOf}
use Rattle.placement.proofs.EventLemmas.{event_inside}
use Rattle.profile.proofs.Functions.{zip_length}
use Rattle.tallies.specs.Tallies.{AreWhereOccurs}

get_some : {X : Type 0} (xs : List X) (i : ℕ) → i < length xs → (x : X) × (slice_get xs i ≡ Some x)
get_some [] i lt = absurd (omega (arith, lt))
get_some (x ∷ xs) zero lt = (x, refl)
get_some (x ∷ xs) (suc i) lt = get_some xs i (omega (arith, lt))

-- what differs stands once
differ_once : {X : Type 0} (xs : List X) → AllPairs (λ x y. x ≢ y) xs → (i j : ℕ) (x : X) → slice_get xs i ≡ Some x → slice_get xs j ≡ Some x → i ≡ j
differ_once {X} xs differ i j x e f = by (cases_lt i j) (cases_lt j i)
  where
    at : (k : ℕ) → slice_get xs k ≡ Some x → get_or xs k x ≡ x
    at k h = get_or_from_slice_get xs k x x h

    by : (i < j) ⊎ (j ≤ i) → (j < i) ⊎ (i ≤ j) → i ≡ j
    by (inl lt) other = absurd (differ i j x lt (slice_get_within xs j x f) (at i e ∙ sym (at j f)))
    by (inr ge) (inl lt) = absurd (differ j i x lt (slice_get_within xs i x e) (at j f ∙ sym (at i e)))
    by (inr ge) (inr ge') = omega (arith, ge, ge')

zip_at : {A B : Type 0} (R : A → B → Type 0) (xs : List A) (ys : List B) (i : ℕ) (x : A) → AllZip R xs ys → slice_get xs i ≡ Some x → (y : B) × (slice_get ys i ≡ Some y) × R x y
zip_at R [] ys i x all e = absurd cc
zip_at R (x' ∷ xs) [] i x all e = absurd all
zip_at R (x' ∷ xs) (y ∷ ys) zero x all e = (y, refl, subst (λ z. R z y) (same_Some x' x e) all.0)
zip_at R (x' ∷ xs) (y ∷ ys) (suc i) x all e = zip_at R xs ys i x all.1 e

numbered : (exprs : List Expr) → AllPairs (λ x y. x ≢ y) exprs → (e : ℕ) (expr : Expr) → slice_get exprs e ≡ Some expr → (there : Option Expr) (x : Option ℕ) → IsNumberOf exprs there x → there ≡ Some expr → x ≡ Some e
numbered exprs differ e expr at None x is same = absurd cc
numbered exprs differ e expr at (Some other) None is same = absurd is
numbered exprs differ e expr at (Some other) (Some y) is same = ap Some (differ_once exprs differ y e expr (is ∙ same) at)

expr_of : (exprs : List Expr) (e : ℕ) (there : Option Expr) → IsNumberOf exprs there (Some e) → (expr : Expr) × (slice_get exprs e ≡ Some expr) × (there ≡ Some expr)
expr_of exprs e None is = absurd is
expr_of exprs e (Some expr) is = (expr, is, refl)

module _ (f : Function) (p : Points) (t : Kept) (table : IsTable f p t) where
  pub occurring_length : length p.points ≡ length t.occurring
  occurring_length = zip_length (λ point x. IsNumberOf t.exprs (expr_at t.module_of f point) x) p.points t.occurring table.occurring

  module _ (x : ℕ) where
    beside : (i : ℕ) (at : Point) → slice_get p.points i ≡ Some at → (n : Option ℕ) × (slice_get t.occurring i ≡ Some n) × IsNumberOf t.exprs (expr_at t.module_of f at) n
    beside i at there = zip_at (λ point n. IsNumberOf t.exprs (expr_at t.module_of f point) n) p.points t.occurring i at table.occurring there

    occurs_from : (i : ℕ) → slice_get t.occurring i ≡ Some (Some x) → IsEventOf f p t x i Occurs
    occurs_from i h =
        let at = get_some p.points i (omega (arith, slice_get_within t.occurring i (Some x) h, occurring_length)) in
        let b = beside i at.0 at.1 in
        let same : b.0 ≡ Some x = same_Some b.0 (Some x) (sym b.1 ∙ h) in
        let found = expr_of t.exprs x (expr_at t.module_of f at.0) (subst (IsNumberOf t.exprs (expr_at t.module_of f at.0)) same b.2) in
        record { expr = found.0; expr_there = found.1; at = at.0; point_there = at.1; is_event = found.2 }

    occurs_to : (i : ℕ) → IsEventOf f p t x i Occurs → slice_get t.occurring i ≡ Some (Some x)
    occurs_to i is =
        let b = beside i is.at is.point_there in
        b.1 ∙ ap Some (numbered t.exprs table.exprs.differ x is.expr is.expr_there (expr_at t.module_of f is.at) b.0 b.2 is.is_event)

    pub where_occurs : (places : List ℕ) → ArePlacesOf t.occurring x places → AreWhereOccurs f p t x places
    where_occurs places are = record {
      ascending = are.ascending;
      exact = λ i. ((λ h. occurs_from i ((are.exact i).0 h)), (λ is. (are.exact i).1 (occurs_to i is)));
    }

    -- they are numbers of points
    pub places_within : (places : List ℕ) → ArePlacesOf t.occurring x places → All (λ i. i < length p.points) places
    places_within places are k d lt = event_inside f p t x (get_or places k d) Occurs (occurs_from (get_or places k d) ((are.exact (get_or places k d)).0 (Contains-get_or places k d lt)))
