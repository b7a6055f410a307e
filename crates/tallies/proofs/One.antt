-- The tallies of placements are determined.
use Rattle.std.proofs.Common.{◌≡◌, ◌<◌, ◌+◌, ℕ, zero, suc, Bool, true, false, List, [], ◌∷◌, length, Some, refl, sym, ap, ◌∙◌, subst, arith}
use Rattle.std.specs.Prelude.{slice_get}
use Rattle.std.proofs.lemmas.Option.{slice_get_within, same_Some}
use Rattle.ir_types.specs.Program.{Program}
use Rattle.ir_types.specs.declared.syntax.Function.{Function}
use Rattle.ir_machine.specs.Same.{is_defined}
use Rattle.flow_graph.specs.Paths.{AreReached}
use Rattle.point_graph.specs.declared.graph.Points.{Points}
use Rattle.expressions.specs.Expressions.{expr_traps}
use Rattle.expressions.specs.Kept.{Kept}
use Rattle.expressions.specs.declared.syntax.Expr.{Expr}
use Rattle.expressions.specs.declared.syntax.Event.TheVariants.{Occurs}
use Rattle.profile.specs.declared.counts.FnCounts.{FnCounts}
use Rattle.placement.specs.declared.placements.Placement.{Placement}
use Rattle.best_choice.proofs.Ascending.{ascending_same}
use Rattle.transform.proofs.Alone.{defined_length}
use Rattle.transform.specs.Transformed.{defined_before}
use Rattle.one_transformed.specs.Laws.{OneNumbering}
use Rattle.one_transformed.specs.Numberings.{AreSame}
use Rattle.tallies.specs.Tallies.{AreTallies, AreTalliesIn, IsTally, count_of, edges_count, points_count}
use Rattle.tallies.specs.declared.tally.Tally.{Tally}
use Rattle.tallies.proofs.OwnCounts.{before_declared, before_defined}

-- lists of one length that agree at each place
same_listed : {X : Type 0} (xs ys : List X) → length xs ≡ length ys → ((i : ℕ) (x y : X) → slice_get xs i ≡ Some x → slice_get ys i ≡ Some y → x ≡ y) → xs ≡ ys
same_listed [] [] count same = refl
same_listed [] (y ∷ ys) count same = absurd (omega (arith, count))
same_listed (x ∷ xs) [] count same = absurd (omega (arith, count))
same_listed (x ∷ xs) (y ∷ ys) count same = ap (λ z. z ∷ xs) (same 0 x y refl refl) ∙ ap (λ l. y ∷ l) (same_listed xs ys (omega (arith, count)) (λ i. same (suc i)))

get_some : {X : Type 0} (xs : List X) (i : ℕ) → i < length xs → (x : X) × (slice_get xs i ≡ Some x)
get_some [] i lt = absurd (omega (arith, lt))
get_some (x ∷ xs) zero lt = (x, refl)
get_some (x ∷ xs) (suc i) lt = get_some xs i (omega (arith, lt))

-- ---- one tally

abbrev tally_by : Expr → Bool → ℕ → ℕ → ℕ → ℕ → ℕ → Tally
tally_by expr lazy old new inserted kept deleted = record { expr = expr; old = old; new = new; inserted = inserted; kept = kept; deleted = deleted; lazy = lazy }

-- the parts of a tally make it
same_tally : (a b : Tally) → a.expr ≡ b.expr → a.old ≡ b.old → a.new ≡ b.new → a.inserted ≡ b.inserted → a.kept ≡ b.kept → a.deleted ≡ b.deleted → a.lazy ≡ b.lazy → a ≡ b
same_tally a b expr old new inserted kept deleted lazy =
    ap (λ e. tally_by e a.lazy a.old a.new a.inserted a.kept a.deleted) expr
    ∙ ap (λ l. tally_by b.expr l a.old a.new a.inserted a.kept a.deleted) lazy
    ∙ ap (λ n. tally_by b.expr b.lazy n a.new a.inserted a.kept a.deleted) old
    ∙ ap (λ n. tally_by b.expr b.lazy b.old n a.inserted a.kept a.deleted) new
    ∙ ap (λ n. tally_by b.expr b.lazy b.old b.new n a.kept a.deleted) inserted
    ∙ ap (λ n. tally_by b.expr b.lazy b.old b.new b.inserted n a.deleted) kept
    ∙ ap (λ n. tally_by b.expr b.lazy b.old b.new b.inserted b.kept n) deleted

module _ (f : Function) (counts : FnCounts) (p p' : Points) (t t' : Kept) (same : AreSame f p p' t t') (reached : ℕ → Bool) (told : AreReached f reached) (x : ℕ) (placement : Placement) (a b : Tally)
    (is : IsTally f counts p t x placement a) (also : IsTally f counts p' t' x placement b) where
  same_occurrences : is.occurrences ≡ also.occurrences
  same_occurrences =
      let here = is.are_occurrences in
      let there = also.are_occurrences in
      ascending_same is.occurrences also.occurrences here.ascending there.ascending
      (λ v among. (there.exact v).1 ((same.events x v Occurs).0 ((here.exact v).0 among)))
      (λ v among. (here.exact v).1 ((same.events x v Occurs).1 ((there.exact v).0 among)))

  one_tally : a ≡ b
  one_tally =
      let expr : a.expr ≡ b.expr = same_Some a.expr b.expr (sym is.expr ∙ ap (λ exprs. slice_get exprs x) same.exprs ∙ also.expr) in
      let kept : a.kept ≡ b.kept = is.kept ∙ sym also.kept in
      let deleted : a.deleted ≡ b.deleted = omega (arith, is.deleted, also.deleted, kept, ap (λ l. length l) same_occurrences) in
      same_tally a b expr
      (is.old reached told ∙ ap (λ points. points_count f counts reached points is.occurrences) same.points ∙ ap (λ l. points_count f counts reached p'.points l) same_occurrences ∙ sym (also.old reached told))
      (is.new reached told ∙ new_same ∙ sym (also.new reached told))
      (is.inserted ∙ sym also.inserted)
      kept
      deleted
      (is.lazy ∙ ap (λ expr. expr_traps expr) expr ∙ sym also.lazy)
    where
      new_same : count_of f counts reached p placement ≡ count_of f counts reached p' placement
      new_same =
          ap (λ edges. edges_count f counts reached edges placement.inserted + points_count f counts reached p.points placement.kept) same.edges
          ∙ ap (λ points. edges_count f counts reached p'.edges placement.inserted + points_count f counts reached points placement.kept) same.points

-- ---- the tallies of a function

module _ (numbering : OneNumbering) (m : Program) (f : Function) (defined : 0 < length f.blocks) (counts : FnCounts) (placements : List Placement) (a b : List Tally)
    (is : AreTalliesIn m f counts placements a) (also : AreTalliesIn m f counts placements b) where
  same_parts : AreSame f is.points also.points is.table also.table
  same_parts = numbering f is.points also.points is.table also.table defined (is.of_module ∙ sym also.of_module) is.are_points also.are_points is.is_table also.is_table

  one_function : a ≡ b
  one_function =
      let here = is.are_tallies in
      let there = also.are_tallies in
      same_listed a b (here.count ∙ ap (λ exprs. length exprs) same_parts.exprs ∙ sym there.count)
      (λ x one other at at'.
      let placed = get_some placements x (omega (arith, slice_get_within a x one at, here.count, here.placed)) in
      one_tally f counts is.points also.points is.table also.table same_parts is.are_points.blocks.test is.are_points.blocks.told x placed.0 one other
      (here.each x placed.0 one placed.1 at) (there.each x placed.0 other placed.1 at'))

-- ---- of a module

-- each place belongs to a function
pub record IsPlaceOf (fs : List Function) (j : ℕ) : Type 0 where
  pub number : ℕ
  pub function : Function
  pub there : slice_get fs number ≡ Some function
  pub defined : is_defined function.blocks ≡ true
  pub place : defined_before fs number ≡ j

later_place : (g : Function) (gs : List Function) (i j : ℕ) → IsPlaceOf gs i → ((k : ℕ) → defined_before gs k ≡ i → defined_before (g ∷ gs) (suc k) ≡ j) → IsPlaceOf (g ∷ gs) j
later_place g gs i j has step = record { number = suc has.number; function = has.function; there = has.there; defined = has.defined; place = step has.number has.place }

next_place : (g : Function) (gs : List Function) → ((i : ℕ) → i < defined_before gs (length gs) → IsPlaceOf gs i) → (d : Bool) → is_defined g.blocks ≡ d → (j : ℕ) → j < defined_before (g ∷ gs) (suc (length gs)) → IsPlaceOf (g ∷ gs) j
next_place g gs rest true d zero lt = record { number = 0; function = g; there = refl; defined = d; place = refl }
next_place g gs rest true d (suc i) lt = later_place g gs i (suc i) (rest i (omega (arith, lt, before_defined g gs (length gs) d))) (λ k e. before_defined g gs k d ∙ ap (λ n. suc n) e)
next_place g gs rest false d j lt = later_place g gs j j (rest j (omega (arith, lt, before_declared g gs (length gs) d))) (λ k e. before_declared g gs k d ∙ e)

place_of : (fs : List Function) (j : ℕ) → j < defined_before fs (length fs) → IsPlaceOf fs j
place_of [] j lt = absurd (omega (arith, lt))
place_of (g ∷ gs) j lt = next_place g gs (place_of gs) (is_defined g.blocks) refl j lt

pub one_tallying : OneNumbering → (m : Program) (counts : List FnCounts) (placements : List (List Placement)) (a b : List (List Tally)) → AreTallies m counts placements a → AreTallies m counts placements b → a ≡ b
one_tallying numbering m counts placements a b is also =
    same_listed a b (is.count ∙ sym also.count)
    (λ j one other at at'.
    let place = place_of m.functions j (omega (arith, slice_get_within a j one at, is.count)) in
    let f = place.function in
    let here = is.each place.number f place.there place.defined in
    let there = also.each place.number f place.there place.defined in
    let own : there.own ≡ here.own = same_Some there.own here.own (sym there.counted ∙ here.counted) in
    let placed : there.placed ≡ here.placed = same_Some there.placed here.placed (sym there.placed_here ∙ here.placed_here) in
    let first : here.tallied ≡ one = same_Some here.tallied one (sym here.there ∙ ap (slice_get a) place.place ∙ at) in
    let second : there.tallied ≡ other = same_Some there.tallied other (sym there.there ∙ ap (slice_get b) place.place ∙ at') in
    let alike : AreTalliesIn m f here.own here.placed there.tallied = subst (λ own. AreTalliesIn m f own here.placed there.tallied) own (subst (λ placed. AreTalliesIn m f there.own placed there.tallied) placed there.holds) in
    sym first ∙ one_function numbering m f (defined_length f place.defined) here.own here.placed here.tallied there.tallied here.holds alike ∙ second)
