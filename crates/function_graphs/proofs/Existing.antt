-- What each point is to an expression of a table.
use Rattle.std.proofs.Common.{◌≡◌, ◌≢◌, ◌<◌, ◌≤◌, ◌⊎◌, ℕ, Bool, true, false, List, length, get_or, Option, Some, None, refl, sym, ap, ◌∙◌, arith, inl, inr, ⊎_elim}
use Rattle.std.specs.Prelude.{slice_get, AllPairs}
use Rattle.std.proofs.lemmas.Bool.{cases_eq, cases_lt}
use Rattle.std.proofs.lemmas.Option.{slice_get_within, get_or_from_slice_get}
use Rattle.ir_types.specs.Program.{Program}
use Rattle.ir_types.specs.declared.syntax.Function.{Function}
use Rattle.point_graph.specs.declared.graph.Points.{Points}
use Rattle.expressions.specs.declared.syntax.Expr.{Expr}
use Rattle.expressions.specs.declared.syntax.Event.{Event}
use Rattle.expressions.specs.declared.syntax.Event.TheVariants.{Occurs, Kills, Bars, Passes}
use Rattle.expressions.specs.Expressions.{Content, content, content_expr, expr_at}
use Rattle.expressions.specs.Events.{IsContentEvent, changes_expr, content_bars}
use Rattle.expressions.specs.Kept.{Kept}
use Rattle.expressions.specs.Tables.{IsTable, IsNumberOf, IsEventOf}
use Rattle.function_graphs.specs.Graphs.{AreEventsOf, EventsExist}
use Rattle.function_graphs.proofs.Parts.{get_some, zip_beside}

-- what doesn't occur there kills, bars or passes
other_event : (m : Program) (e : Expr) (there : Content) → (content_expr m there ≡ Some e → ⊥) → (kills bars : Bool) → changes_expr m e there ≡ kills → content_bars there ≡ bars → (event : Event) × IsContentEvent m e there event
other_event m e there absent true bars k b = (Kills, k)
other_event m e there absent false true k b = (Bars, (absent, k, b))
other_event m e there absent false false k b = (Passes, (absent, k, b))

-- an expression has one number
number_is : (exprs : List Expr) → AllPairs (λ x y. x ≢ y) exprs → (i j : ℕ) (x : Expr) → slice_get exprs i ≡ Some x → slice_get exprs j ≡ Some x → i ≡ j
number_is exprs differ i j x h k = by (cases_lt i j) (cases_lt j i)
  where
    same : get_or exprs i x ≡ get_or exprs j x
    same = get_or_from_slice_get exprs i x x h ∙ sym (get_or_from_slice_get exprs j x x k)

    by : (i < j) ⊎ (j ≤ i) → (j < i) ⊎ (i ≤ j) → i ≡ j
    by (inl lt) other = absurd (differ i j x lt (slice_get_within exprs j x k) same)
    by (inr ge) (inl lt) = absurd (differ j i x lt (slice_get_within exprs i x h) (sym same))
    by (inr ge) (inr le) = omega (arith, ge, le)

-- the expression stands there, or it doesn't
expr_cases : (exprs : List Expr) → AllPairs (λ x y. x ≢ y) exprs → (e : ℕ) (expr : Expr) → slice_get exprs e ≡ Some expr → (there : Option Expr) (n : Option ℕ) → IsNumberOf exprs there n → (there ≡ Some expr) ⊎ (there ≡ Some expr → ⊥)
expr_cases exprs differ e expr at None n is = inr (λ h. cc)
expr_cases exprs differ e expr at (Some other) None is = absurd is
expr_cases exprs differ e expr at (Some other) (Some n) is =
    ⊎_elim
    (λ (same : n ≡ e). inl (sym is ∙ ap (slice_get exprs) same ∙ at))
    (λ (apart : n ≡ e → ⊥). inr (λ h. apart (number_is exprs differ n e expr (is ∙ h) at)))
    (cases_eq n e)

module _ (f : Function) (p : Points) (t : Kept) (e : ℕ) (table : IsTable f p t) (known : e < length t.exprs) where
  some_event : (v : ℕ) → v < length p.points → (event : Event) × IsEventOf f p t e v event
  some_event v inside =
      let m = t.module_of in
      let expr = get_some t.exprs e known in
      let at = get_some p.points v inside in
      let there = content f at.0 in
      let n = zip_beside (λ point n. IsNumberOf t.exprs (expr_at m f point) n) p.points t.occurring table.occurring v at.0 at.1 in
      let found : (event : Event) × IsContentEvent m expr.0 there event =
      ⊎_elim
      (λ (occurs : content_expr m there ≡ Some expr.0). (Occurs, occurs))
      (λ (absent : content_expr m there ≡ Some expr.0 → ⊥). other_event m expr.0 there absent (changes_expr m expr.0 there) (content_bars there) refl refl)
      (expr_cases t.exprs table.exprs.differ e expr.0 expr.1 (content_expr m there) n.0 n.2) in
      (found.0, record { expr = expr.0; expr_there = expr.1; at = at.0; point_there = at.1; is_event = found.1 })

  abbrev chosen : (v : ℕ) → (v < length p.points) ⊎ (length p.points ≤ v) → Event
  chosen v (inl lt) = (some_event v lt).0
  chosen v (inr ge) = Passes

  chosen_is : (v : ℕ) (s : (v < length p.points) ⊎ (length p.points ≤ v)) → v < length p.points → IsEventOf f p t e v (chosen v s)
  chosen_is v (inl lt) inside = (some_event v lt).1
  chosen_is v (inr ge) inside = absurd (omega (arith, ge, inside))

  chosen_past : (v : ℕ) (s : (v < length p.points) ⊎ (length p.points ≤ v)) → length p.points ≤ v → chosen v s ≡ Passes
  chosen_past v (inl lt) past = absurd (omega (arith, lt, past))
  chosen_past v (inr ge) past = refl

  pub events : (event : ℕ → Event) × AreEventsOf f p t e event
  events = (
    (λ v. chosen v (cases_lt v (length p.points))),
    record { at_points = λ v inside. chosen_is v (cases_lt v (length p.points)) inside; past = λ v past. chosen_past v (cases_lt v (length p.points)) past },
  )

pub events_exist : EventsExist
events_exist f p t e table known = events f p t e table known
