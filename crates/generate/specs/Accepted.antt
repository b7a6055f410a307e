-- How the texts of a workload are read.
use Rattle.std.specs.Prelude.{ℕ, ◌^◌, ◌≤◌, length}
use Rattle.ir_printer.specs.Text.{text_of}
use Rattle.ir_reader.specs.Reading.{Reads}
use Rattle.profile.specs.Text.{prof_text}
use Rattle.profile.specs.Reading as profiles
use Rattle.workload.specs.Workload.{workload_program, workload_counts}

-- neither text is too long, and they read as the module and its counts
pub record AreAccepted (n : ℕ) : Type 0 where
  pub module_short : length (text_of (workload_program n)) ≤ 2 ^ 26
  pub module_reads : Reads (text_of (workload_program n)) (workload_program n)
  pub profile_short : length (prof_text (workload_program n) (workload_counts n)) ≤ 2 ^ 26
  pub profile_reads : profiles.Reads (workload_program n) (prof_text (workload_program n) (workload_counts n)) (workload_counts n)
