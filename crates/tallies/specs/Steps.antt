-- What the tallies of one function stand on.
use Rattle.std.specs.Prelude.{◌<◌, ◌^◌, ℕ, List, All, length}
use Rattle.std.specs.List.Sorted.{IsStrictlyIncreasing}
use Rattle.ir_types.specs.declared.syntax.Function.{Function}
use Rattle.point_graph.specs.declared.graph.Points.{Points}
use Rattle.profile.specs.Counts.{HasSlots, IsUnreachedZero, total}
use Rattle.profile.specs.declared.counts.FnCounts.{FnCounts}
use Rattle.placement.specs.declared.placements.Placement.{Placement}
use Rattle.tallies.specs.Sums.{AreAtMost, one_tally}
use Rattle.tallies.specs.declared.tally.Tally.{Tally}

-- what is asked of the counts of a function
pub record AreOwnCounts (f : Function) (counts : FnCounts) : Type 0 where
  pub slots : HasSlots f counts
  pub unreached : IsUnreachedZero f counts
  pub small : total counts < 2 ^ 62

-- ascending lists of edges and of points
pub record IsInRange (p : Points) (placement : Placement) : Type 0 where
  pub inserted_order : IsStrictlyIncreasing placement.inserted
  pub edges : All (λ e. e < length p.edges) placement.inserted
  pub kept_order : IsStrictlyIncreasing placement.kept
  pub points : All (λ v. v < length p.points) placement.kept

-- what a tally has is n at most
abbrev pub IsLight : ℕ → Tally → Type 0
IsLight n tally = AreAtMost n (one_tally tally)

-- fewer than 2^32 of these
pub record AreLight (n : ℕ) (tallies : List Tally) : Type 0 where
  pub few : length tallies < 2 ^ 32
  pub each : All (IsLight n) tallies
