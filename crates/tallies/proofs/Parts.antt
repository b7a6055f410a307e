-- The profiled part of a cost is the sum of the counts of its places.
use Rattle.std.proofs.Common.{◌≡◌, ◌<◌, ◌≤◌, ◌+◌, ◌*◌, ◌/◌, ◌^◌, ◌==◌, ◌&&◌, ℕ, zero, suc, Bool, true, false, if◌then◌else◌, List, [], ◌∷◌, Option, Some, None, All, length, get_or, slice_get, sum, sum_by, refl, ap, ◌∙◌, ⊎_elim, arith}
use Rattle.std.specs.List.{zip}
use Rattle.std.specs.List.Sorted.{IsStrictlyIncreasing}
use Rattle.std.specs.Option.{option_map_or}
use Rattle.std.proofs.lemmas.Bool.{cases_lt}
use Rattle.std.proofs.lemmas.Bool.Decides.{eqb_tells}
use Rattle.std.proofs.lemmas.List.{get_or_past}
use Rattle.std.proofs.lemmas.List.Sums.{sum_by-cons, sum_by-le, sum_by-le-sum_by, get_or-le-sum_by}
use Rattle.std.proofs.Math.Nat.{mul-le-mul_right}
use Rattle.ir_types.specs.declared.syntax.Function.{Function}
use Rattle.flow_graph.specs.Slots.{slots}
use Rattle.point_graph.specs.Numbers.{ArePoints}
use Rattle.point_graph.specs.declared.graph.Point.{Point}
use Rattle.point_graph.specs.declared.graph.Point.TheVariants as points
use Rattle.point_graph.specs.declared.graph.Edge.{Edge}
use Rattle.point_graph.specs.declared.graph.EdgeKind.{EdgeKind}
use Rattle.point_graph.specs.declared.graph.EdgeKind.TheVariants as kinds
use Rattle.point_graph.specs.declared.graph.Points.{Points}
use Rattle.profile.specs.declared.counts.FnCounts.{FnCounts}
use Rattle.profile.specs.Counts.{entering, total}
use Rattle.placement.proofs.CostLemmas.{index_le}
use Rattle.placement.specs.Costs.{weight_of, slot_count, edge_count, point_count, cost_of}
use Rattle.placement.specs.declared.costs.TheConstants.{BASE}
use Rattle.placement.specs.declared.placements.Placement.{Placement}
use Rattle.tallies.specs.Tallies.{count_of}
use Rattle.tallies.specs.Steps.{IsInRange}

-- ---- weights

-- so many times BASE, and at most one more for each of n places
pub record Splits (cost count n : ℕ) : Type 0 where
  pub rest : ℕ
  pub is : cost ≡ count * 2 ^ 20 + rest
  pub few : rest ≤ n

weight_splits : (count : ℕ) → Splits (weight_of count) count 1
weight_splits count = ⊎_elim
    (λ yes. record { rest = 1; is = ap (λ b. if b then 1 else count * BASE) yes.0 ∙ omega (arith, yes.1); few = omega arith })
    (λ no. record { rest = 0; is = ap (λ b. if b then 1 else count * BASE) no.0 ∙ omega arith; few = omega arith })
    (eqb_tells count 0)

module _ {X : Type 0} (w : X → ℕ) where
  term_splits : (o : Option X) → Splits (option_map_or (λ x. weight_of (w x)) o 0) (option_map_or w o 0) 1
  term_splits None = record { rest = 0; is = refl; few = omega arith }
  term_splits (Some x) = weight_splits (w x)

  pub sum_splits : (ys : List X) (numbers : List ℕ)
      → Splits (sum_by (λ e. option_map_or (λ x. weight_of (w x)) (slice_get ys e) 0) numbers) (sum_by (λ e. option_map_or w (slice_get ys e) 0) numbers) (length numbers)
  sum_splits ys [] = record { rest = 0; is = refl; few = omega arith }
  sum_splits ys (e ∷ numbers) =
      let first = term_splits (slice_get ys e) in
      let later = sum_splits ys numbers in
      record {
        rest = first.rest + later.rest;
        is = omega (
          arith,
          sum_by-cons (λ e. option_map_or (λ x. weight_of (w x)) (slice_get ys e) 0) e numbers,
          sum_by-cons (λ e. option_map_or w (slice_get ys e) 0) e numbers,
          first.is,
          later.is,
        );
        few = omega (arith, first.few, later.few);
      }

-- ---- how many places there are

-- ascending numbers below n are n at most
pub few_numbers : (numbers : List ℕ) (n : ℕ) → IsStrictlyIncreasing numbers → All (λ v. v < n) numbers → length numbers ≤ n
few_numbers numbers n up within = by (length numbers) refl
  where
    by : (k : ℕ) → length numbers ≡ k → length numbers ≤ n
    by zero e = omega (arith, e)
    by (suc k) e =
        let inside : k < length numbers = omega (arith, e) in
        omega (arith, index_le numbers up k inside, within k 0 inside, e)

pub few_places : (f : Function) (p : Points) (placement : Placement) → ArePoints f p → IsInRange p placement → length placement.inserted + length placement.kept < 2 ^ 20
few_places f p placement are range = omega (
  arith,
  few_numbers placement.inserted (length p.edges) range.inserted_order range.edges,
  few_numbers placement.kept (length p.points) range.kept_order range.points,
  are.few,
)

-- ---- counts are small

sum_second : {A : Type 0} (xs : List A) (counts : List ℕ) → sum_by (λ (s : A × ℕ). s.1) (zip xs counts) ≤ sum counts
sum_second [] counts = omega arith
sum_second (x ∷ xs) [] = omega arith
sum_second {A} (x ∷ xs) (count ∷ counts) = omega (
  arith,
  sum_by-cons (λ (s : A × ℕ). s.1) (x, count) (zip xs counts),
  sum_by-cons (λ (n : ℕ). n) count counts,
  sum_second xs counts,
)

some_or_none : (b : Bool) (n : ℕ) → (if b then n else 0) ≤ n
some_or_none true n = omega arith
some_or_none false n = omega arith

module _ (f : Function) (counts : FnCounts) (reached : ℕ → Bool) where
  entering_le : (b : ℕ) → entering reached f counts b ≤ total counts
  entering_le b =
      let slots_in = sum_by-le-sum_by (λ (s : (ℕ × ℕ) × ℕ). if reached s.0.0 && (s.0.1 == b) then s.1 else 0) (λ s. s.1) (zip (slots f) counts.slots) (λ s. some_or_none (reached s.0.0 && (s.0.1 == b)) s.1) in
      omega (arith, some_or_none (b == 0) counts.entry, slots_in, sum_second (slots f) counts.slots)

  slot_le : (b slot : ℕ) → slot_count f counts b slot ≤ total counts
  slot_le b slot = at _
    where
      at : (i : ℕ) → get_or counts.slots i 0 ≤ total counts
      at i = ⊎_elim
          (λ (inside : i < length counts.slots). omega (arith, get_or-le-sum_by (λ (n : ℕ). n) counts.slots i 0 inside))
          (λ (past : length counts.slots ≤ i). omega (arith, get_or_past counts.slots i 0 past))
          (cases_lt i (length counts.slots))

  edge_le : (kind : EdgeKind) → edge_count f counts reached kind ≤ total counts
  edge_le kinds.Entry = omega arith
  edge_le (kinds.Inside b) = entering_le b
  edge_le (kinds.Slot b slot) = slot_le b slot

  point_le : (point : Point) → point_count f counts reached point ≤ total counts
  point_le points.Start = omega arith
  point_le (points.Head b) = entering_le b
  point_le (points.Instr b k) = entering_le b
  point_le (points.Term b) = entering_le b

  listed_le : {X : Type 0} (w : X → ℕ) (ys : List X) → ((x : X) → w x ≤ total counts) → (numbers : List ℕ) → sum_by (λ e. option_map_or w (slice_get ys e) 0) numbers ≤ length numbers * total counts
  listed_le {X} w ys small numbers = sum_by-le (λ e. option_map_or w (slice_get ys e) 0) (total counts) numbers (λ k d lt. one (slice_get ys (get_or numbers k d)))
    where
      one : (o : Option X) → option_map_or w o 0 ≤ total counts
      one None = omega arith
      one (Some x) = small x

  pub count_le : (p : Points) (placement : Placement) → length placement.inserted + length placement.kept < 2 ^ 20 → count_of f counts reached p placement ≤ 2 ^ 20 * total counts
  count_le p placement few =
      let inserted = listed_le (λ (x : Edge). edge_count f counts reached x.kind) p.edges (λ x. edge_le x.kind) placement.inserted in
      let kept = listed_le (λ (x : Point). point_count f counts reached x) p.points point_le placement.kept in
      let many : (length placement.inserted + length placement.kept) * total counts ≤ 2 ^ 20 * total counts = mul-le-mul_right (total counts) (omega (arith, few)) in
      omega (arith, inserted, kept, many)

  cost_splits : (p : Points) (placement : Placement) → Splits (cost_of f counts reached p placement) (count_of f counts reached p placement) (length placement.inserted + length placement.kept)
  cost_splits p placement =
      let inserted = sum_splits (λ (x : Edge). edge_count f counts reached x.kind) p.edges placement.inserted in
      let kept = sum_splits (λ (x : Point). point_count f counts reached x) p.points placement.kept in
      record {
        rest = inserted.rest + kept.rest;
        is = omega (arith, inserted.is, kept.is);
        few = omega (arith, inserted.few, kept.few);
      }

  pub part_is : (p : Points) (placement : Placement) → length placement.inserted + length placement.kept < 2 ^ 20 → cost_of f counts reached p placement / BASE ≡ count_of f counts reached p placement
  part_is p placement few =
      let splits = cost_splits p placement in
      omega (arith, splits.is, splits.few, few)
