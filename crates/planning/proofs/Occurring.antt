-- What each point is to an expression, by what the table keeps.
use Rattle.std.proofs.Common.{◌≡◌, ◌≢◌, ℕ, ◌<◌, Bool, true, false, List, [], ◌∷◌, length, Option, Some, None, refl, sym, ap, ◌∙◌, subst, arith, inl, inr, ◌⊎◌, ⊎_elim, Contains, zero, suc}
use Rattle.std.specs.Prelude.{slice_get, AllPairs}
use Rattle.std.specs.List.{AllZip}
use Rattle.std.proofs.lemmas.Bool.{cases_eq}
use Rattle.std.proofs.lemmas.Option.{slice_get_within, same_Some}
use Rattle.ir_types.specs.Program.{Program}
use Rattle.ir_types.specs.declared.syntax.Function.{Function}
use Rattle.point_graph.specs.declared.graph.Point.{Point}
use Rattle.point_graph.specs.declared.graph.Points.{Points}
use Rattle.expressions.specs.declared.syntax.Expr.{Expr}
use Rattle.expressions.specs.declared.syntax.Event.{Event}
use Rattle.expressions.specs.declared.syntax.Event.TheVariants.{Occurs, Kills, Bars, Passes}
use Rattle.expressions.specs.Expressions.{Content, content, content_expr, expr_at}
use Rattle.expressions.specs.Events.{IsContentEvent, changes_expr, content_bars}
use Rattle.expressions.specs.Kept.{Kept}
use Rattle.expressions.specs.Tables.{IsTable, IsNumberOf, IsEventOf}
use Rattle.occurrences.specs.Listed.{ArePlacesOf}
use Rattle.planning.proofs.Geometry.{get_some}
use Rattle.planning.proofs.Lists.{differ_once}

zip_at : {A B : Type 0} (R : A → B → Type 0) (xs : List A) (ys : List B) (i : ℕ) (x : A) → AllZip R xs ys → slice_get xs i ≡ Some x → (y : B) × (slice_get ys i ≡ Some y) × R x y
zip_at R [] ys i x all e = absurd cc
zip_at R (x' ∷ xs) [] i x all e = absurd all
zip_at R (x' ∷ xs) (y ∷ ys) zero x all e = (y, refl, subst (λ z. R z y) (same_Some x' x e) all.0)
zip_at R (x' ∷ xs) (y ∷ ys) (suc i) x all e = zip_at R xs ys i x all.1 e

pub zip_length : {A B : Type 0} (R : A → B → Type 0) (xs : List A) (ys : List B) → AllZip R xs ys → length xs ≡ length ys
zip_length R [] [] all = refl
zip_length R [] (y ∷ ys) all = absurd all
zip_length R (x ∷ xs) [] all = absurd all
zip_length R (x ∷ xs) (y ∷ ys) all = ap (λ n. suc n) (zip_length R xs ys all.1)

-- the expression of the list stands there, or it doesn't
numbered : (exprs : List Expr) → AllPairs (λ x y. x ≢ y) exprs → (e : ℕ) (expr : Expr) → slice_get exprs e ≡ Some expr → (there : Option Expr) (x : Option ℕ) → IsNumberOf exprs there x → there ≡ Some expr → x ≡ Some e
numbered exprs differ e expr at None x is same = absurd cc
numbered exprs differ e expr at (Some other) None is same = absurd is
numbered exprs differ e expr at (Some other) (Some y) is same = ap Some (differ_once exprs differ y e expr (is ∙ same) at)

expr_of : (exprs : List Expr) (e : ℕ) (there : Option Expr) → IsNumberOf exprs there (Some e) → (expr : Expr) × (slice_get exprs e ≡ Some expr) × (there ≡ Some expr)
expr_of exprs e None is = absurd is
expr_of exprs e (Some expr) is = (expr, is, refl)

number_cases : (x : Option ℕ) (e : ℕ) → (x ≡ Some e) ⊎ (x ≡ Some e → ⊥)
number_cases None e = inr (λ h. cc)
number_cases (Some y) e = ⊎_elim (λ (same : y ≡ e). inl (ap Some same)) (λ (other : y ≡ e → ⊥). inr (λ h. other (same_Some y e h))) (cases_eq y e)

-- what doesn't occur there kills, bars or passes
other_event : (m : Program) (e : Expr) (there : Content) → (content_expr m there ≡ Some e → ⊥) → (kills bars : Bool) → changes_expr m e there ≡ kills → content_bars there ≡ bars → (event : Event) × IsContentEvent m e there event
other_event m e there absent true bars k b = (Kills, k)
other_event m e there absent false true k b = (Bars, (absent, k, b))
other_event m e there absent false false k b = (Passes, (absent, k, b))

module _ (f : Function) (p : Points) (t : Kept) (table : IsTable f p t) where
  pub occurring_length : length p.points ≡ length t.occurring
  occurring_length = zip_length (λ point x. IsNumberOf t.exprs (expr_at t.module_of f point) x) p.points t.occurring table.occurring

  module _ (x : ℕ) where
    beside : (i : ℕ) (at : Point) → slice_get p.points i ≡ Some at → (n : Option ℕ) × (slice_get t.occurring i ≡ Some n) × IsNumberOf t.exprs (expr_at t.module_of f at) n
    beside i at there = zip_at (λ point n. IsNumberOf t.exprs (expr_at t.module_of f point) n) p.points t.occurring i at table.occurring there

    pub occurs_from : (i : ℕ) → slice_get t.occurring i ≡ Some (Some x) → IsEventOf f p t x i Occurs
    occurs_from i h =
        let at = get_some p.points i (omega (arith, slice_get_within t.occurring i (Some x) h, occurring_length)) in
        let b = beside i at.0 at.1 in
        let same : b.0 ≡ Some x = same_Some b.0 (Some x) (sym b.1 ∙ h) in
        let found = expr_of t.exprs x (expr_at t.module_of f at.0) (subst (IsNumberOf t.exprs (expr_at t.module_of f at.0)) same b.2) in
        record { expr = found.0; expr_there = found.1; at = at.0; point_there = at.1; is_event = found.2 }

    pub occurs_to : (i : ℕ) → IsEventOf f p t x i Occurs → slice_get t.occurring i ≡ Some (Some x)
    occurs_to i is =
        let b = beside i is.at is.point_there in
        b.1 ∙ ap Some (numbered t.exprs table.exprs.differ x is.expr is.expr_there (expr_at t.module_of f is.at) b.0 b.2 is.is_event)

    -- each point is something to the expression
    pub some_event : (i : ℕ) → x < length t.exprs → i < length p.points → (event : Event) × IsEventOf f p t x i event
    some_event i known inside =
        let expr = get_some t.exprs x known in
        let at = get_some p.points i inside in
        let b = beside i at.0 at.1 in
        ⊎_elim
        (λ (h : b.0 ≡ Some x). (Occurs, occurs_from i (b.1 ∙ ap Some h)))
        (λ (absent : b.0 ≡ Some x → ⊥).
        let there = content f at.0 in
        let r = other_event t.module_of expr.0 there (λ (h : content_expr t.module_of there ≡ Some expr.0). absent (numbered t.exprs table.exprs.differ x expr.0 expr.1 (expr_at t.module_of f at.0) b.0 b.2 h))
        (changes_expr t.module_of expr.0 there) (content_bars there) refl refl in
        (r.0, record { expr = expr.0; expr_there = expr.1; at = at.0; point_there = at.1; is_event = r.1 }))
        (number_cases b.0 x)

    -- the listed places of the table are those where it occurs
    pub place_occurs : (places : List ℕ) → ArePlacesOf t.occurring x places → (i : ℕ) → Contains places i → IsEventOf f p t x i Occurs
    place_occurs places are i h = occurs_from i ((are.exact i).0 h)

    pub occurs_place : (places : List ℕ) → ArePlacesOf t.occurring x places → (i : ℕ) → IsEventOf f p t x i Occurs → Contains places i
    occurs_place places are i is = (are.exact i).1 (occurs_to i is)
