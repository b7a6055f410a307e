-- Sums of tallies, as lists of them grow.
use Rattle.std.proofs.Common.{◌≡◌, ◌<◌, ◌≤◌, ◌+◌, ◌*◌, ◌^◌, ℕ, List, [], ◌∷◌, ◌++◌, All, length, take, get_or, sum_by, refl, sym, ap, ◌∙◌, subst, arith}
use Rattle.std.proofs.lemmas.List.{length_push, length-take-le, take_more, take_all}
use Rattle.std.proofs.lemmas.List.Sums.{sum_by_push, sum_by_more_le, sum_by-le}
use Rattle.std.proofs.Math.Nat.{mul-le-mul_right}
use Rattle.tallies.specs.Sums.{AreAtMost, no_totals, one_tally, plus, totals_in}
use Rattle.tallies.specs.Steps.{AreLight}
use Rattle.tallies.specs.Tallies.{totals_of}
use Rattle.tallies.specs.declared.tally.Tally.{Tally}
use Rattle.tallies.specs.declared.totals.Totals.{Totals}

-- ---- the tallies of a function

pub one_more_total : (tallies : List Tally) (i : ℕ) (tally : Tally) → i < length tallies → tally ≡ get_or tallies i tally → totals_in (take (i + 1) tallies) ≡ plus (totals_in (take i tallies)) (one_tally tally)
one_more_total tallies i tally lt read =
    ap totals_in (take_more tallies i tally lt ∙ ap (λ y. take i tallies ++ y ∷ []) (sym read)) ∙ pushed (take i tallies)
  where
    pushed : (front : List Tally) → totals_in (front ++ tally ∷ []) ≡ plus (totals_in front) (one_tally tally)
    pushed front = simp (sum_by_push, length_push)

pub room_for_one : (tallies : List Tally) (n i : ℕ) (tally : Tally) → i < length tallies → tally ≡ get_or tallies i tally → AreAtMost n (totals_in tallies) → AreAtMost n (plus (totals_in (take i tallies)) (one_tally tally))
room_for_one tallies n i tally lt read small =
    let below : (part : Tally → ℕ) → sum_by part (take i tallies) + part tally ≤ sum_by part tallies = λ part. subst (λ y. sum_by part (take i tallies) + part y ≤ sum_by part tallies) (sym read) (sum_by_more_le part tallies i tally lt) in
    record {
      expressions = omega (arith, small.expressions, lt, length-take-le i tallies (omega (arith, lt)));
      old = omega (arith, small.old, below (λ y. y.old));
      new = omega (arith, small.new, below (λ y. y.new));
      inserted = omega (arith, small.inserted, below (λ y. y.inserted));
      kept = omega (arith, small.kept, below (λ y. y.kept));
      deleted = omega (arith, small.deleted, below (λ y. y.deleted));
    }

pub all_added : (tallies : List Tally) (i : ℕ) (totals : Totals) → length tallies ≤ i → totals ≡ totals_in (take i tallies) → totals ≡ totals_in tallies
all_added tallies i totals past is = is ∙ ap totals_in (take_all i tallies past)

-- fewer than 2^32 tallies with n at most
pub small_totals : (tallies : List Tally) (n : ℕ) → 1 ≤ n → AreLight n tallies → AreAtMost (2 ^ 32 * n) (totals_in tallies)
small_totals tallies n one light =
    let many : length tallies * n ≤ 2 ^ 32 * n = mul-le-mul_right n (omega (arith, light.few)) in
    let few : length tallies ≤ 2 ^ 32 * n = omega (arith, light.few, one) in
    let each : (part : Tally → ℕ) → All (λ tally. part tally ≤ n) tallies → sum_by part tallies ≤ 2 ^ 32 * n = λ part below. omega (arith, sum_by-le part n tallies below, many) in
    record {
      expressions = few;
      old = each (λ y. y.old) (λ k d lt. (light.each k d lt).old);
      new = each (λ y. y.new) (λ k d lt. (light.each k d lt).new);
      inserted = each (λ y. y.inserted) (λ k d lt. (light.each k d lt).inserted);
      kept = each (λ y. y.kept) (λ k d lt. (light.each k d lt).kept);
      deleted = each (λ y. y.deleted) (λ k d lt. (light.each k d lt).deleted);
    }

-- ---- of a module

pub no_functions : no_totals ≡ totals_of []
no_functions = refl

pub function_more : (lists : List (List Tally)) (last : List Tally) → totals_of (lists ++ last ∷ []) ≡ plus (totals_of lists) (totals_in last)
function_more lists last = simp sum_by_push

pub together : (a b : Totals) (m n : ℕ) → AreAtMost m a → AreAtMost n b → AreAtMost (m + n) (plus a b)
together a b m n small small' = record {
  expressions = omega (arith, small.expressions, small'.expressions);
  old = omega (arith, small.old, small'.old);
  new = omega (arith, small.new, small'.new);
  inserted = omega (arith, small.inserted, small'.inserted);
  kept = omega (arith, small.kept, small'.kept);
  deleted = omega (arith, small.deleted, small'.deleted);
}

pub at_most : (a : Totals) (m n : ℕ) → m ≤ n → AreAtMost m a → AreAtMost n a
at_most a m n le small = record {
  expressions = omega (arith, small.expressions, le);
  old = omega (arith, small.old, le);
  new = omega (arith, small.new, le);
  inserted = omega (arith, small.inserted, le);
  kept = omega (arith, small.kept, le);
  deleted = omega (arith, small.deleted, le);
}
