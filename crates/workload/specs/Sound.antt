-- What holds of the module and the counts of a workload.
use Rattle.std.specs.Prelude.{ℕ, All}
use Rattle.ir_types.specs.WellFormed.{IsWellFormed}
use Rattle.ir_types.specs.Limits.{IsWithinLimits}
use Rattle.profile.specs.Counts.{IsAccepted}
use Rattle.workload.specs.Workload.{workload_program, workload_counts}

-- the module keeps the rules and the limits, and the counts are accepted for it
pub record IsSound (n : ℕ) : Type 0 where
  pub rules : IsWellFormed (workload_program n)
  pub limits : All IsWithinLimits (workload_program n).functions
  pub accepted : IsAccepted (workload_program n) (workload_counts n)
