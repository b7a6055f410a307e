-- Placements that fit by one numbering of a function fit by each other, and what is tallied of them.
use Rattle.std.proofs.Common.{◌≡◌, ◌<◌, ◌≤◌, ◌+◌, ◌^◌, ℕ, zero, suc, Bool, List, [], ◌∷◌, ◌++◌, All, length, get_or, Some, refl, sym, ap, ◌∙◌, subst, zero-add, arith}
use Rattle.std.specs.Prelude.{slice_get}
use Rattle.std.specs.List.Sorted.{IsStrictlyIncreasing}
use Rattle.std.proofs.lemmas.List.Elements.{All-push, All-nil, All-contains}
use Rattle.std.proofs.lemmas.List.{length_push}
use Rattle.std.proofs.lemmas.Option.{get_or_from_slice_get, same_Some, none-some, slice_get_read}
use Rattle.ir_types.specs.Program.{Program}
use Rattle.ir_types.specs.declared.syntax.Function.{Function}
use Rattle.point_graph.specs.Numbers.{ArePoints}
use Rattle.point_graph.specs.declared.graph.Points.{Points}
use Rattle.expressions.specs.Kept.{Kept}
use Rattle.expressions.specs.Tables.{IsEventOf, IsTable}
use Rattle.expressions.specs.declared.syntax.Event.{Event}
use Rattle.expressions.specs.declared.syntax.Event.TheVariants.{Occurs}
use Rattle.profile.specs.declared.counts.FnCounts.{FnCounts}
use Rattle.occurrences.specs.Listed.{AreOccurrences, ArePlacesOf}
use Rattle.placement.specs.declared.placements.Placement.{Placement}
use Rattle.placement.specs.Placements.{arcs_of}
use Rattle.placement.proofs.GraphLemmas.{arcs_length}
use Rattle.best_choice.specs.Best.{IsPlacementOn}
use Rattle.one_transformed.specs.Laws.{OneNumbering}
use Rattle.one_transformed.specs.Numberings.{AreSame}
use Rattle.tallies.specs.Steps.{IsInRange, IsLight}
use Rattle.tallies.specs.Tallies.{AreFittingBy, AreFittingIn, AreTalliesBy, IsFitting, IsTally, count_of, edges_count, points_count}
use Rattle.tallies.specs.declared.tally.Tally.{Tally}
use Rattle.tallies.proofs.Members.{no_longer}
use Rattle.tallies.proofs.Occurring.{places_within, where_occurs}
use Rattle.tallies.proofs.Parts.{few_numbers}

-- ---- by another numbering

on_events : (arcs : List (ℕ × ℕ)) (n : ℕ) (Is Js : ℕ → Event → Type 0) → ((v : ℕ) → Is v Occurs → Js v Occurs) → (placement : Placement) → IsPlacementOn arcs n Is placement → IsPlacementOn arcs n Js placement
on_events arcs n Is Js occurs placement is = record {
  inserted_order = is.inserted_order;
  edges = is.edges;
  kept_order = is.kept_order;
  points = is.points;
  occurrences = λ k d lt. occurs (get_or placement.kept k d) (is.occurrences k d lt);
}

module _ (f : Function) (p p' : Points) (t t' : Kept) (same : AreSame f p p' t t') where
  fits_there : (x : ℕ) (placement : Placement) → IsFitting f p t x placement → IsFitting f p' t' x placement
  fits_there x placement is =
      let Js = IsEventOf f p' t' x in
      let here : IsPlacementOn (arcs_of p.edges) (length p.points) Js placement = on_events (arcs_of p.edges) (length p.points) (IsEventOf f p t x) Js (λ v. (same.events x v Occurs).0) placement is in
      subst (λ points. IsPlacementOn (arcs_of p'.edges) (length points) Js placement) same.points (subst (λ edges. IsPlacementOn (arcs_of edges) (length p.points) Js placement) same.edges here)

  all_fit_there : (placements : List Placement) → AreFittingBy f p t placements → AreFittingBy f p' t' placements
  all_fit_there placements are = record {
    count = are.count ∙ ap (λ exprs. length exprs) same.exprs;
    each = λ x placement there. fits_there x placement (are.each x placement there);
  }

pub fits_by : OneNumbering → (m : Program) (f : Function) (p : Points) (t : Kept) (placements : List Placement) → 0 < length f.blocks → AreFittingIn m f placements
    → ArePoints f p → t.module_of ≡ m → IsTable f p t → AreFittingBy f p t placements
fits_by numbering m f p t placements defined fit are modules table =
    all_fit_there f fit.points p fit.table t (numbering f fit.points p fit.table t defined (fit.of_module ∙ sym modules) fit.are_points are fit.is_table table) placements fit.are_fitting

-- ---- what lies in the graph

pub in_range : (f : Function) (p : Points) (t : Kept) (x : ℕ) (placement : Placement) → IsFitting f p t x placement → IsInRange p placement
in_range f p t x placement is = record {
  inserted_order = is.inserted_order;
  edges = λ k d lt. omega (arith, is.edges k d lt, arcs_length p.edges);
  kept_order = is.kept_order;
  points = is.points;
}

-- those that keep all occurrences do too
pub all_in_range : (f : Function) (p : Points) (t : Kept) → IsTable f p t → (x : ℕ) (places : List ℕ) → ArePlacesOf t.occurring x places → (before : Placement) → before.inserted ≡ [] → before.kept ≡ places → IsInRange p before
all_in_range f p t table x places are before none all = record {
  inserted_order = subst IsStrictlyIncreasing (sym none) (λ k lt. absurd (omega (arith, lt)));
  edges = subst (λ l. All (λ e. e < length p.edges) l) (sym none) (All-nil (λ e. e < length p.edges));
  kept_order = subst IsStrictlyIncreasing (sym all) are.ascending;
  points = subst (λ l. All (λ v. v < length p.points) l) (sym all) (places_within f p t table x places are);
}

-- no more are kept than occur
pub kept_few : (f : Function) (p : Points) (t : Kept) → IsTable f p t → (x : ℕ) (places : List ℕ) → ArePlacesOf t.occurring x places → (placement : Placement) → IsFitting f p t x placement → length placement.kept ≤ length places
kept_few f p t table x places are placement fit =
    let exact = (where_occurs f p t table x places are).exact in
    no_longer placement.kept places fit.kept_order are.ascending (λ v among. (exact v).1 (All-contains (λ v. IsEventOf f p t x v Occurs) placement.kept v fit.occurrences among))

pub places_few : (f : Function) (p : Points) (t : Kept) → ArePoints f p → IsTable f p t → (x : ℕ) (places : List ℕ) → ArePlacesOf t.occurring x places → length places < 2 ^ 20
places_few f p t points table x places are = omega (arith, few_numbers places (length p.points) are.ascending (places_within f p t table x places are), points.few)

-- the counts of all occurrences
pub count_kept : (f : Function) (counts : FnCounts) (reached : ℕ → Bool) (p : Points) (places : List ℕ) (before : Placement) → before.inserted ≡ [] → before.kept ≡ places → count_of f counts reached p before ≡ points_count f counts reached p.points places
count_kept f counts reached p places before none all =
    ap (λ l. edges_count f counts reached p.edges l + points_count f counts reached p.points before.kept) none
    ∙ ap (λ l. 0 + points_count f counts reached p.points l) all
    ∙ zero-add (points_count f counts reached p.points places)

-- the listed places of an expression
pub listed_at : (t : Kept) (lists : List (List ℕ)) → AreOccurrences t lists → (x : ℕ) (own : List ℕ) → x < length t.exprs → own ≡ get_or lists x own → ArePlacesOf t.occurring x own
listed_at t lists are x own known read =
    let inside : x < length lists = omega (arith, known, are.count) in
    let there : slice_get lists x ≡ Some own = slice_get_read lists (length lists) x own refl inside read in
    subst (ArePlacesOf t.occurring x) (get_or_from_slice_get lists x own [] there) (are.each x known)

-- ---- one tally after another

-- the tallies of the first n expressions
pub record TalliesSoFar (f : Function) (counts : FnCounts) (p : Points) (t : Kept) (placements : List Placement) (weight n : ℕ) (tallies : List Tally) : Type 0 where
  pub count : length tallies ≡ n
  pub each : (x : ℕ) (placement : Placement) (tally : Tally) → slice_get placements x ≡ Some placement → slice_get tallies x ≡ Some tally → IsTally f counts p t x placement tally
  pub light : All (IsLight weight) tallies

module _ (f : Function) (counts : FnCounts) (p : Points) (t : Kept) (placements : List Placement) (weight : ℕ) where
  pub none_tallied : TalliesSoFar f counts p t placements weight 0 []
  none_tallied = record { count = refl; each = λ x placement tally at there. absurd (none-some tally there); light = All-nil (IsLight weight) }

  push_cases : (tallies : List Tally) (last : Tally) (P : ℕ → Tally → Type 0) → ((x : ℕ) (tally : Tally) → slice_get tallies x ≡ Some tally → P x tally) → P (length tallies) last
      → (x : ℕ) (tally : Tally) → slice_get (tallies ++ last ∷ []) x ≡ Some tally → P x tally
  push_cases [] last P each here zero tally there = subst (P 0) (same_Some last tally there) here
  push_cases [] last P each here (suc x) tally there = absurd (none-some tally there)
  push_cases (first ∷ tallies) last P each here zero tally there = each 0 tally there
  push_cases (first ∷ tallies) last P each here (suc x) tally there = push_cases tallies last (λ y. P (suc y)) (λ y. each (suc y)) here x tally there

  pub one_more_tallied : (n : ℕ) (tallies : List Tally) (last : Tally) (own : Placement) → slice_get placements n ≡ Some own → IsTally f counts p t n own last → IsLight weight last
      → TalliesSoFar f counts p t placements weight n tallies → TalliesSoFar f counts p t placements weight (n + 1) (tallies ++ last ∷ [])
  one_more_tallied n tallies last own at is light are = record {
    count = omega (arith, length_push tallies last, are.count);
    each = λ x placement tally there here.
        push_cases tallies last (λ y other. (q : Placement) → slice_get placements y ≡ Some q → IsTally f counts p t y q other)
        (λ y other found q there. are.each y q other there found)
        (λ q there.
        let there' : slice_get placements n ≡ Some q = subst (λ k. slice_get placements k ≡ Some q) are.count there in
        let same : own ≡ q = same_Some own q (sym at ∙ there') in
        subst (λ k. IsTally f counts p t k q last) (sym are.count) (subst (λ q. IsTally f counts p t n q last) same is))
        x tally here placement there;
    light = All-push (IsLight weight) tallies last are.light light;
  }

  pub all_tallied : (n : ℕ) (tallies : List Tally) → n ≡ length t.exprs → length placements ≡ length t.exprs → TalliesSoFar f counts p t placements weight n tallies → AreTalliesBy f counts p t placements tallies
  all_tallied n tallies end placed are = record { placed = placed; count = are.count ∙ end; each = are.each }
