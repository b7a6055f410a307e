-- What `report` and `self` put on the standard output, and how they may end.
use Rattle.std.specs.Prelude.{◌≡◌, ◌⊎◌, ℕ, List, ◌++◌, IsTrue, codes, Ok, Err}
use Rattle.mc_host.specs.Faults.{Rose}
use Rattle.mc_host.specs.Host.{HostState}
use Rattle.mc_host.specs.Streams.{SinkState, AddsPart}
use Rattle.ir_types.specs.Program.{Program}
use Rattle.ir_types.specs.WellFormed.{IsWellFormed}
use Rattle.profile.specs.declared.counts.FnCounts.{FnCounts}
use Rattle.placement.specs.declared.placements.Placement.{Placement}
use Rattle.optimise.specs.Choices.{AreChoices}
use Rattle.optimise.specs.Optimised.{HasTooMany, IsOptimised}
use Rattle.report.specs.Report.{IsReport, IsSummary}
use Rattle.workload.specs.Workload.{workload_program, workload_counts}
use Rattle.call_lines.specs.declared.ending.Problem.TheVariants.{Grown}
use Rattle.call_lines.specs.declared.ending.Done.TheVariants.{Written}
use Rattle.call_lines.specs.declared.ending.Stop.TheVariants.{Refused, ReadFault, WriteFault, OutOfMemory}
use Rattle.call_lines.specs.Ending.{Ending}
use Rattle.top_call.specs.Accepted.{AreReadAs, AreUnaccepted}
use Rattle.top_call.specs.Opt.{IsGrown}

-- ---- what is put

-- the text is the report over the placements that the counts of the profile choose
pub record IsReported (input profile : List ℕ) (host : HostState) (text : List ℕ) : Type 0 where
  pub program : Program
  pub accepted : AreReadAs input profile host program
  pub rules : IsWellFormed program
  pub placements : List (List Placement)
  pub chosen : AreChoices program accepted.counts placements
  pub report : IsReport program accepted.counts placements text

-- the module has an optimised one that isn't too large, with these placements, which the counts choose
pub record AreFitChoices (program : Program) (counts : List FnCounts) (placements : List (List Placement)) : Type 0 where
  pub chosen : AreChoices program counts placements
  pub program' : Program
  pub optimised : IsOptimised program counts program'
  pub not_grown : ¬ (IsGrown program')

-- the module of n diamonds has an optimised one that isn't too large, and the text is the summary over its placements
pub record IsSummarised (n : ℕ) (text : List ℕ) : Type 0 where
  pub placements : List (List Placement)
  pub fit : AreFitChoices (workload_program n) (workload_counts n) placements
  pub summary : IsSummary n (workload_program n) (workload_counts n) placements text

-- the optimised module of n diamonds is too large, or there is none since too much would be inserted
abbrev pub HasGrownItself : ℕ → Type 0
HasGrownItself n =
    ((program' : Program) × IsOptimised (workload_program n) (workload_counts n) program' × IsGrown program')
    ⊎ HasTooMany (workload_program n) (workload_counts n)

-- ---- what it does to the standard output

-- the whole text was put
abbrev pub HasPut : List ℕ → SinkState → SinkState → Type 0
HasPut text old new = IsTrue old.tells → new.written ≡ old.written ++ text

-- a first part of the text was put, maybe none or all of it
abbrev pub HasPutPart : List ℕ → SinkState → SinkState → Type 0
HasPutPart text old new = IsTrue old.tells → AddsPart text old.written new.written

-- it could not be put
abbrev pub IsPutFault : (name : List ℕ) → SinkState → SinkState → Type 0
IsPutFault name old new = (name ≡ codes "standard output") × Rose old.faults new.faults

-- ---- endings

-- the endings of `report`, each with its cause; nothing is put before the report stands whole, and no file changes
abbrev pub ReportEnds : (input profile : List ℕ) → HostState → HostState → SinkState → SinkState → Ending → Type 0
ReportEnds input profile old new out out' (Ok Written) =
    (new.file ≡ old.file) × (IsTrue old.tells → (text : List ℕ) × IsReported input profile old text × HasPut text out out')
ReportEnds input profile old new out out' (Err (WriteFault name)) =
    (new.file ≡ old.file) × IsPutFault name.now out out'
    × (IsTrue old.tells → (text : List ℕ) × IsReported input profile old text × HasPutPart text out out')
ReportEnds input profile old new out out' (Err (Refused file problem)) = AreUnaccepted input profile old new (Refused file problem) × (out' ≡ out)
ReportEnds input profile old new out out' (Err (ReadFault name)) = AreUnaccepted input profile old new (ReadFault name) × (out' ≡ out)
ReportEnds input profile old new out out' (Err OutOfMemory) = AreUnaccepted input profile old new OutOfMemory × (out' ≡ out)
ReportEnds input profile old new out out' _ = ⊥

-- the endings of `self`; nothing is put before the summary stands whole
abbrev pub ItselfEnds : ℕ → SinkState → SinkState → Ending → Type 0
ItselfEnds n out out' (Ok Written) = (text : List ℕ) × IsSummarised n text × HasPut text out out'
ItselfEnds n out out' (Err (WriteFault name)) = IsPutFault name.now out out' × ((text : List ℕ) × IsSummarised n text × HasPutPart text out out')
ItselfEnds n out out' (Err (Refused file problem)) = (out' ≡ out) × (file.now ≡ codes "self") × (problem ≡ Grown) × HasGrownItself n
ItselfEnds n out out' (Err OutOfMemory) = out' ≡ out
ItselfEnds n out out' _ = ⊥
