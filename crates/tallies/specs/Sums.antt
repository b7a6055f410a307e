-- Sums of tallies, as they grow.
use Rattle.std.specs.Prelude.{ℕ, ◌+◌, ◌≤◌, List, length, sum_by}
use Rattle.tallies.specs.declared.tally.Tally.{Tally}
use Rattle.tallies.specs.declared.totals.Totals.{Totals}

abbrev pub no_totals : Totals
no_totals = record { expressions = 0; old = 0; new = 0; inserted = 0; kept = 0; deleted = 0 }

abbrev pub one_tally : Tally → Totals
one_tally tally = record { expressions = 1; old = tally.old; new = tally.new; inserted = tally.inserted; kept = tally.kept; deleted = tally.deleted }

abbrev pub plus : Totals → Totals → Totals
plus a b = record {
  expressions = a.expressions + b.expressions;
  old = a.old + b.old;
  new = a.new + b.new;
  inserted = a.inserted + b.inserted;
  kept = a.kept + b.kept;
  deleted = a.deleted + b.deleted;
}

-- the sums over the tallies of one function
abbrev pub totals_in : List Tally → Totals
totals_in tallies = record {
  expressions = length tallies;
  old = sum_by (λ tally. tally.old) tallies;
  new = sum_by (λ tally. tally.new) tallies;
  inserted = sum_by (λ tally. tally.inserted) tallies;
  kept = sum_by (λ tally. tally.kept) tallies;
  deleted = sum_by (λ tally. tally.deleted) tallies;
}

-- each of the sums is n at most
pub record AreAtMost (n : ℕ) (totals : Totals) : Type 0 where
  pub expressions : totals.expressions ≤ n
  pub old : totals.old ≤ n
  pub new : totals.new ≤ n
  pub inserted : totals.inserted ≤ n
  pub kept : totals.kept ≤ n
  pub deleted : totals.deleted ≤ n
