-- What is chosen in a function by its counts is determined.
use Rattle.std.proofs.Common.{◌≡◌, ◌<◌, ℕ, suc, Bool, true, false, List, [], ◌∷◌, length, Some, refl, sym, ap, ◌∙◌, subst, arith}
use Rattle.std.specs.Prelude.{slice_get}
use Rattle.std.proofs.lemmas.Option.{same_Some}
use Rattle.ir_types.specs.Program.{Program}
use Rattle.ir_types.specs.declared.syntax.Function.{Function}
use Rattle.profile.specs.declared.counts.FnCounts.{FnCounts}
use Rattle.point_graph.specs.Numbers.{ArePoints}
use Rattle.point_graph.specs.declared.graph.Points.{Points}
use Rattle.expressions.specs.Expressions.{expr_traps}
use Rattle.expressions.specs.Kept.{Kept}
use Rattle.expressions.specs.Tables.{IsEventOf}
use Rattle.placement.specs.declared.placements.Placement.{Placement}
use Rattle.placement.specs.Placements.{arcs_of}
use Rattle.best_choice.specs.Best.{OneBestIn}
use Rattle.lazy_motion.specs.Laws.{OneLazyIn}
use Rattle.lazy_motion.proofs.Alike.{Alike, lazy_too, placement_too, is_correct_too, safe_too, least_too, lives_too}
use Rattle.transform.specs.declared.placed.Placed.{Placed}
use Rattle.optimise.specs.Choice.{IsLazilyOn, IsLazilyPlaced, IsChosen, AreChosen}
use Rattle.one_transformed.specs.Laws.{BestStays, OneNumbering}
use Rattle.one_transformed.specs.Numberings.{AreSame}

-- lists of one length that agree at each place
pub same_listed : {X : Type 0} (xs ys : List X) → length xs ≡ length ys → ((i : ℕ) (x y : X) → slice_get xs i ≡ Some x → slice_get ys i ≡ Some y → x ≡ y) → xs ≡ ys
same_listed [] [] count same = refl
same_listed [] (y ∷ ys) count same = absurd (omega (arith, count))
same_listed (x ∷ xs) [] count same = absurd (omega (arith, count))
same_listed (x ∷ xs) (y ∷ ys) count same = ap (λ z. z ∷ xs) (same 0 x y refl refl) ∙ ap (λ l. y ∷ l) (same_listed xs ys (omega (arith, count)) (λ i. same (suc i)))

-- one numbering, one best placement and one lazy placement
pub record ChoiceLaws : Type 0 where
  pub numbering : OneNumbering
  pub stays : BestStays
  pub best : OneBestIn
  pub lazy : OneLazyIn

-- ---- what is said of one is said of the other

module _ (f : Function) (p p' : Points) (t t' : Kept) (same : AreSame f p p' t t') (x : ℕ) where
  alike : Alike (IsEventOf f p t x) (IsEventOf f p' t' x)
  alike =
      let events = same.events x in
      record {
        occurs = λ v. events v _;
        kills = λ v. events v _;
        bars = λ v. events v _;
      }

  lazy_there : (placement : Placement) → IsLazilyPlaced f p t x placement → IsLazilyPlaced f p' t' x placement
  lazy_there placement is =
      let arcs = arcs_of p.edges in
      let n = length p.points in
      let Is = IsEventOf f p t x in
      let Js = IsEventOf f p' t' x in
      let here : IsLazilyOn arcs n Js placement = record {
        lazy = record { placement = placement_too arcs n Is Js alike placement is.lazy.placement; lazy = lazy_too arcs Is Js alike placement is.lazy.lazy };
        correct = is_correct_too arcs Is Js alike placement is.correct;
        safe = safe_too arcs Is Js alike placement is.safe;
        computes_least = least_too arcs Is Js alike placement is.computes_least;
        lives_least = lives_too arcs n Is Js alike placement is.lives_least;
      } in
      subst (λ points. IsLazilyOn (arcs_of p'.edges) (length points) Js placement) same.points (subst (λ edges. IsLazilyOn (arcs_of edges) n Js placement) same.edges here)

  chosen_there : BestStays → (counts : FnCounts) (placement : Placement) → IsChosen f p t counts x placement → IsChosen f p' t' counts x placement
  chosen_there stays counts placement is = record {
    expr = is.expr;
    there = subst (λ l. slice_get l x ≡ Some is.expr) same.exprs is.there;
    best = λ safe. stays f p p' t t' x counts placement same (is.best safe);
    lazy = λ traps. lazy_there placement (is.lazy traps);
  }

-- ---- one choice

module _ (f : Function) (p : Points) (t : Kept) (counts : FnCounts) (x : ℕ) (a b : Placement) where
  one_choice : ChoiceLaws → ArePoints f p → IsChosen f p t counts x a → IsChosen f p t counts x b → a ≡ b
  one_choice choices are is also = by (expr_traps is.expr) refl
    where
      same : expr_traps is.expr ≡ expr_traps also.expr
      same = ap expr_traps (same_Some is.expr also.expr (sym is.there ∙ also.there))

      by : (q : Bool) → expr_traps is.expr ≡ q → a ≡ b
      by true traps =
          let here = is.lazy traps in
          let there = also.lazy (sym same ∙ traps) in
          choices.lazy f p t x a b here.lazy there.lazy
      by false safe = choices.best f p t x counts are a b (is.best safe) (also.best (sym same ∙ safe))

module _ (choices : ChoiceLaws) (m : Program) (f : Function) (defined : 0 < length f.blocks) (counts : FnCounts) (q q' : Placed) (is : AreChosen m f counts q) (also : AreChosen m f counts q') where
  pub same_parts : AreSame f q.points q'.points q.table q'.table
  same_parts = choices.numbering f q.points q'.points q.table q'.table defined (is.of_module ∙ sym also.of_module) is.are_points also.are_points is.is_table also.is_table

  -- the same placements are chosen
  pub one_chosen : q.placements ≡ q'.placements
  one_chosen = same_listed q.placements q'.placements
      (is.placements.count ∙ ap (λ exprs. length exprs) same_parts.exprs ∙ sym also.placements.count)
      (λ x a b at there.
      let here = chosen_there f q.points q'.points q.table q'.table same_parts x choices.stays counts a (is.placements.each x a at) in
      one_choice f q'.points q'.table counts x a b choices also.are_points here (also.placements.each x b there))
