-- Placements that were found correct are sound, function by function.
use Rattle.std.proofs.Common.{◌≡◌, ◌⊎◌, inl, inr, ⊎_elim, ℕ, zero, suc, ◌+◌, ◌<◌, ◌≤◌, ◌^◌, Bool, true, false, List, [], ◌∷◌, ◌++◌, All, length, take, Some, refl, sym, ap, ◌∙◌, subst, arith, sum_by}
use Rattle.std.specs.Prelude.{Contains, slice_get, if◌then◌else◌}
use Rattle.std.proofs.lemmas.Bool.{cases_lt}
use Rattle.std.proofs.lemmas.List.{length_push}
use Rattle.std.proofs.lemmas.List.Elements.{All-contains}
use Rattle.std.proofs.lemmas.List.Sums.{count_by_more_yes, count_by_more_no}
use Rattle.std.proofs.lemmas.Option.{slice_get_within, get_or_from_slice_get, same_Some, none-some}
use Rattle.ir_types.specs.Program.{Program}
use Rattle.ir_types.specs.declared.syntax.Function.{Function}
use Rattle.ir_machine.specs.Same.{is_defined}
use Rattle.point_graph.specs.Numbers.{ArePoints}
use Rattle.point_graph.specs.declared.graph.Points.{Points}
use Rattle.expressions.specs.Expressions.{expr_traps}
use Rattle.expressions.specs.Kept.{Kept}
use Rattle.expressions.specs.Tables.{IsTable, IsEventOf}
use Rattle.placement.specs.declared.placements.Placement.{Placement}
use Rattle.placement.specs.Placements.{arcs_of, IsCorrect, IsSafe}
use Rattle.placed_moves.specs.Placed.{IsPlaced}
use Rattle.applied.specs.Motion.{Move, IsMove}
use Rattle.transform.specs.declared.placed.Placed.{Placed}
use Rattle.transform.specs.Transformed.{Each, HasPlaced, IsPlacedIn, IsSoundIn, defined_before}
use Rattle.opt_rows.specs.Checked.{IsChecked, AreChecked, AreSoundSoFar}

get_push : {X : Type 0} (xs : List X) (y : X) (i : ℕ) (v : X) → slice_get (xs ++ y ∷ []) i ≡ Some v → (slice_get xs i ≡ Some v) ⊎ ((i ≡ length xs) × (y ≡ v))
get_push [] y zero v e = inr (refl, same_Some y v e)
get_push [] y (suc i) v e = absurd (none-some v e)
get_push (x ∷ xs) y zero v e = inl e
get_push (x ∷ xs) y (suc i) v e = ⊎_elim (λ l. inl l) (λ r. inr (ap (λ n. suc n) r.0, r.1)) (get_push xs y i v e)

get_grown : {X : Type 0} (xs : List X) (y : X) (k : ℕ) (x : X) → slice_get xs k ≡ Some x → slice_get (xs ++ y ∷ []) k ≡ Some x
get_grown [] y k x e = absurd (none-some x e)
get_grown (z ∷ xs) y zero x e = e
get_grown (z ∷ xs) y (suc k) x e = get_grown xs y k x e

get_last : {X : Type 0} (xs : List X) (y : X) → slice_get (xs ++ y ∷ []) (length xs) ≡ Some y
get_last [] y = refl
get_last (z ∷ xs) y = get_last xs y

pub one_more_checked : (f : Function) (p : Points) (t : Kept) (n : ℕ) (placements : List Placement) (placement : Placement) → AreChecked f p t n placements → IsChecked f p t n placement → AreChecked f p t (n + 1) (placements ++ placement ∷ [])
one_more_checked f p t n placements placement are is = record {
  count = omega (arith, length_push placements placement, are.count);
  each = λ x other there. ⊎_elim
      (λ before. are.each x other before)
      (λ last. let at : n ≡ x = sym are.count ∙ sym last.0 in subst (λ y. IsChecked f p t y other) at (subst (IsChecked f p t n) last.1 is))
      (get_push placements placement x other there);
}

-- the law of moves
pub record MoveLaw : Type 0 where
  pub move_of : (f : Function) (p : Points) (t : Kept) (x : ℕ) (placement : Placement) (move : Move) → 0 < length f.blocks → ArePoints f p → IsTable f p t
      → IsPlaced f p t x placement move → IsCorrect (arcs_of p.edges) (IsEventOf f p t x) placement
      → (expr_traps move.expr ≡ true → IsSafe (arcs_of p.edges) (IsEventOf f p t x) placement) → IsMove t.module_of f move

nothing_in : {X : Type 0} (xs : List X) (x : X) → xs ≡ [] → ¬ Contains xs x
nothing_in xs x none among = absurd (omega (arith, among.1, ap length none))

safe_where_none : (f : Function) (p : Points) (t : Kept) (x : ℕ) (placement : Placement) → placement.inserted ≡ [] → IsSafe (arcs_of p.edges) (IsEventOf f p t x) placement
safe_where_none f p t x placement none = λ edge among. absurd (nothing_in placement.inserted edge none among)

pub sound_checked : MoveLaw → (m : Program) (f : Function) (q : Placed) → 0 < length f.blocks → ArePoints f q.points → q.table.module_of ≡ m → IsTable f q.points q.table
    → AreChecked f q.points q.table (length q.table.exprs) q.placements → sum_by (λ placement. length placement.inserted) q.placements < 2 ^ 28 → IsSoundIn m f q
sound_checked law m f q defined points of_module table are few = record {
  placed = record {
    are_points = points;
    of_module = of_module;
    is_table = table;
    placements = record {
      count = are.count;
      each = λ x placement there. let is = are.each x placement there in record {
        edges = λ n among. All-contains (λ n. n < length q.points.edges) placement.inserted n is.edges among;
        occurrences = λ i among. All-contains (λ n. n < length q.points.points) placement.kept i is.points among;
      };
    };
    few = few;
  };
  are_moves = λ move of.
      let is = are.each move.number of.placement of.there in
      subst (λ m. IsMove m f move) of_module
      (law.move_of f q.points q.table move.number of.placement move defined points table of.placed is.correct
      (λ traps. safe_where_none f q.points q.table move.number of.placement (is.safe move.expr of.placed.expr_there traps)));
}

-- ---- function by function

pub nothing_placed : (m : Program) → AreSoundSoFar m 0 []
nothing_placed m = record { count = refl; each = λ k f lt. absurd (omega (arith, lt)) }

module _ (m : Program) (n : ℕ) (f : Function) (placed : List Placed) (there : slice_get m.functions n ≡ Some f) (are : AreSoundSoFar m n placed) where
  abbrev defined : Function → Bool
  defined g = is_defined g.blocks

  before_next : (b : Bool) → defined f ≡ b → defined_before m.functions (n + 1) ≡ defined_before m.functions n + (if b then 1 else 0)
  before_next true e = count_by_more_yes defined m.functions n f (slice_get_within m.functions n f there) (ap defined (get_or_from_slice_get m.functions n f f there) ∙ e)
  before_next false e = omega (arith, count_by_more_no defined m.functions n f (slice_get_within m.functions n f there) (ap defined (get_or_from_slice_get m.functions n f f there) ∙ e))

  pub one_more_placed : (q : Placed) → defined f ≡ true → IsSoundIn m f q → AreSoundSoFar m (n + 1) (placed ++ q ∷ [])
  one_more_placed q e is = record {
    count = omega (arith, length_push placed q, are.count, before_next true e);
    each = λ k g lt at d. ⊎_elim
        (λ (before : k < n). let has = are.each k g before at d in record { placed = has.placed; there = get_grown placed q (defined_before m.functions k) has.placed has.there; holds = has.holds })
        (λ (past : n ≤ k).
        let here : n ≡ k = omega (arith, lt, past) in
        let same : f ≡ g = same_Some f g (sym there ∙ ap (slice_get m.functions) here ∙ at) in
        let last : slice_get (placed ++ q ∷ []) (defined_before m.functions k) ≡ Some q =
        subst (λ j. slice_get (placed ++ q ∷ []) j ≡ Some q) (are.count ∙ ap (defined_before m.functions) here) (get_last placed q) in
        record { placed = q; there = last; holds = subst (λ g. IsSoundIn m g q) same is })
        (cases_lt k n);
  }

  pub none_more_placed : defined f ≡ false → AreSoundSoFar m (n + 1) placed
  none_more_placed e = record {
    count = omega (arith, are.count, before_next false e);
    each = λ k g lt at d. ⊎_elim
        (λ (before : k < n). are.each k g before at d)
        (λ (past : n ≤ k).
        let here : n ≡ k = omega (arith, lt, past) in
        let same : f ≡ g = same_Some f g (sym there ∙ ap (slice_get m.functions) here ∙ at) in
        absurd (true_false (sym d ∙ ap defined (sym same) ∙ e)))
        (cases_lt k n);
  }
    where
      true_false : true ≡ false → ⊥
      true_false e = cc

-- what is placed in all functions
pub each_placed : (m : Program) (placed : List Placed) → AreSoundSoFar m (length m.functions) placed → Each (IsSoundIn m) m.functions placed
each_placed m placed are = record {
  count = are.count;
  each = λ k f there d. are.each k f (slice_get_within m.functions k f there) there d;
}
