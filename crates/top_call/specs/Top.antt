-- The top call: what it asks of the host, and how it may end.
use Rattle.std.specs.Prelude.{◌≡◌, ◌⊎◌, ℕ, List, IsTrue, IfSome, None, Some, Err}
use Rattle.std.specs.declared.option.Option.{Option}
use Rattle.mc_num.specs.declared.op.Width.{Width}
use Rattle.mc_host.specs.Faults.{Rose}
use Rattle.mc_host.specs.Host.{HostState}
use Rattle.call_lines.specs.declared.ending.Problem.{Problem}
use Rattle.call_lines.specs.declared.ending.Problem.TheVariants.{Grown}
use Rattle.call_lines.specs.declared.ending.Stop.TheVariants.{Usage}
use Rattle.call_lines.specs.Ending.{Ending}
use Rattle.top_call.specs.Row.{Row, Print, Run, Opt, Check, Report, Itself}
use Rattle.top_call.specs.World.{World, AreStill}
use Rattle.top_call.specs.Print.{PrintEnds, PrintsAs, ReadsAs, HasProblem, LeavesPart}
use Rattle.top_call.specs.Run as run
use Rattle.top_call.specs.Opt.{OptEnds, AreAccepted, AreOptimisable, HasGrown, HasOptProblem, IsOptDone, LeavesOptParts}
use Rattle.top_call.specs.Check.{CheckEnds, HasCheckProblem, IsAgreed, IsCheckDone, IsDenied}
use Rattle.top_call.specs.Accepted.{AreReadAs, HasReadProblem}
use Rattle.top_call.specs.Report.{HasGrownItself, HasPut, HasPutPart, IsReported, IsSummarised, ItselfEnds, ReportEnds}
use Rattle.ir_types.specs.Program.{Program}

-- the host lets the row read and write its files
abbrev pub MayDo : Option Row → HostState → Type 0
MayDo None host = Unit {0}
MayDo (Some (Print input output)) host = IsTrue (host.may_read input) × IsTrue (host.may_write output)
MayDo (Some (Run limit input profile)) host = IsTrue (host.may_read input) × IfSome profile (λ name. IsTrue (host.may_write name))
MayDo (Some (Opt files)) host =
    IsTrue (host.may_read files.input) × IsTrue (host.may_read files.profile)
    × IsTrue (host.may_write files.output) × IsTrue (host.may_write files.certificate)
MayDo (Some (Check files)) host =
    IsTrue (host.may_read files.input) × IsTrue (host.may_read files.profile)
    × IsTrue (host.may_read files.output) × IsTrue (host.may_read files.certificate)
MayDo (Some (Report input profile)) host = IsTrue (host.may_read input) × IsTrue (host.may_read profile)
MayDo (Some (Itself n)) host = Unit {0}

-- the row writes this file
abbrev pub Writes : Option Row → List ℕ → Type 0
Writes None name = ⊥
Writes (Some (Print input output)) name = name ≡ output
Writes (Some (Run limit input profile)) name = profile ≡ Some name
Writes (Some (Opt files)) name = (name ≡ files.output) ⊎ (name ≡ files.certificate)
Writes (Some (Check files)) name = ⊥
Writes (Some (Report input profile)) name = ⊥
Writes (Some (Itself n)) name = ⊥

-- a file that the row reads has a problem, or the text that it makes is too long
abbrev pub IsRefused : Option Row → HostState → Type 0
IsRefused None host = ⊥
IsRefused (Some (Print input output)) host = (problem : Problem) × HasProblem host input problem
IsRefused (Some (Run limit input profile)) host = (problem : Problem) × run.HasRunProblem host input problem
IsRefused (Some (Opt files)) host = (problem : Problem) × HasOptProblem files host problem
IsRefused (Some (Check files)) host = (problem : Problem) × HasCheckProblem files host problem
IsRefused (Some (Report input profile)) host = (problem : Problem) × HasReadProblem input profile host problem
IsRefused (Some (Itself n)) host = HasGrownItself n

-- the files that the row reads are accepted, and its text isn't too long; the run returns
abbrev pub IsAccepted : Option Row → World → Type 0
IsAccepted None old = ⊥
IsAccepted (Some (Print input output)) old = (text : List ℕ) × PrintsAs old.host input text
IsAccepted (Some (Run limit input profile)) old = IsTrue old.input.tells × run.Returns limit input old
IsAccepted (Some (Opt files)) old = AreOptimisable files old.host
IsAccepted (Some (Check files)) old = IsAgreed files old.host
IsAccepted (Some (Report input profile)) old = (program : Program) × AreReadAs input profile old.host program
IsAccepted (Some (Itself n)) old = ¬ (HasGrownItself n)

-- the files that the row reads are accepted, if it only reads them and writes a text
abbrev pub AreRead : Option Row → World → Type 0
AreRead (Some (Print input output)) old = (program : Program) × ReadsAs old.host input program
AreRead (Some (Opt files)) old = (program : Program) × AreAccepted files old.host program
AreRead _ old = ⊥

-- its text is too long, or a function of it has more than it may
abbrev pub IsTooLarge : Option Row → World → Type 0
IsTooLarge (Some (Print input output)) old = HasProblem old.host input Grown
IsTooLarge (Some (Opt files)) old = HasGrown files old.host
IsTooLarge _ old = ⊥

-- the files that the row checks are read, and the certificate doesn't show what it must
abbrev pub IsRowDenied : Option Row → HostState → Type 0
IsRowDenied (Some (Check files)) host = IsDenied files host
IsRowDenied _ host = ⊥

-- the run that the row asks for traps within its steps
abbrev pub IsTrapped : Option Row → World → Type 0
IsTrapped (Some (Run limit input profile)) old = run.Traps limit input old
IsTrapped _ old = ⊥

-- the steps of the run that the row asks for end nothing
abbrev pub IsAtLimit : Option Row → World → Type 0
IsAtLimit (Some (Run limit input profile)) old = run.EndsNothing limit input old
IsAtLimit _ old = ⊥

-- the row is done: the file that it writes holds exactly its text; the run returned; the standard output gained exactly the report
abbrev pub IsDone : Option Row → World → World → Type 0
IsDone None old new = ⊥
IsDone (Some (Print input output)) old new = (text : List ℕ) × PrintsAs old.host input text × (new.host.file output ≡ Some text)
IsDone (Some (Run limit input profile)) old new = (value : Option (Width × ℕ)) × run.RunIsDone limit input profile old new value
IsDone (Some (Opt files)) old new = IsOptDone files old.host new.host
IsDone (Some (Check files)) old new = IsCheckDone files old.host × (new.host.file ≡ old.host.file)
IsDone (Some (Report input profile)) old new =
    (new.host.file ≡ old.host.file) × ((text : List ℕ) × IsReported input profile old.host text × HasPut text old.out new.out)
IsDone (Some (Itself n)) old new = (new.host ≡ old.host) × ((text : List ℕ) × IsSummarised n text × HasPut text old.out new.out)

-- the file that the row writes is as before, or holds a first part of its text
abbrev pub IsPartlyDone : Option Row → World → World → Type 0
IsPartlyDone None old new = ⊥
IsPartlyDone (Some (Print input output)) old new = LeavesPart input output old.host new.host
IsPartlyDone (Some (Run limit input profile)) old new = run.LeavesProfilePart limit input profile old new
IsPartlyDone (Some (Opt files)) old new = LeavesOptParts files old.host new.host
IsPartlyDone (Some (Check files)) old new = new.host.file ≡ old.host.file
IsPartlyDone (Some (Report input profile)) old new = new.host.file ≡ old.host.file
IsPartlyDone (Some (Itself n)) old new = new.host.file ≡ old.host.file

-- a count of the reads that the row makes rose: of files, and for a run of the standard input
abbrev pub HasReadFault : Option Row → World → World → Type 0
HasReadFault None old new = ⊥
HasReadFault (Some (Print input output)) old new = Rose old.host.read_faults new.host.read_faults
HasReadFault (Some (Run limit input profile)) old new =
    Rose old.host.read_faults new.host.read_faults ⊎ Rose old.input.faults new.input.faults
HasReadFault (Some (Opt files)) old new = Rose old.host.read_faults new.host.read_faults
HasReadFault (Some (Check files)) old new = Rose old.host.read_faults new.host.read_faults
HasReadFault (Some (Report input profile)) old new = Rose old.host.read_faults new.host.read_faults
HasReadFault (Some (Itself n)) old new = ⊥

-- a count of the writes that the row makes rose: of files, and for a run, a report and a summary of the standard output
abbrev pub HasWriteFault : Option Row → World → World → Type 0
HasWriteFault None old new = ⊥
HasWriteFault (Some (Print input output)) old new = Rose old.host.write_faults new.host.write_faults
HasWriteFault (Some (Run limit input profile)) old new =
    Rose old.host.write_faults new.host.write_faults ⊎ Rose old.out.faults new.out.faults
HasWriteFault (Some (Opt files)) old new = Rose old.host.write_faults new.host.write_faults
HasWriteFault (Some (Check files)) old new = ⊥
HasWriteFault (Some (Report input profile)) old new = Rose old.out.faults new.out.faults
HasWriteFault (Some (Itself n)) old new = Rose old.out.faults new.out.faults

-- the row, ended by this status, leaves the standard input as it was
abbrev pub IsQuiet : Option Row → World → World → ℕ → Type 0
IsQuiet None old new status = Unit {0}
IsQuiet (Some (Print input output)) old new status = Unit {0}
IsQuiet (Some (Run limit input profile)) old new status =
    (status ≡ 1) ⊎ ((status ≡ 3) × ¬ (Rose old.input.faults new.input.faults))
    ⊎ (IsTrue old.host.tells × IsRefused (Some (Run limit input profile)) old.host)
IsQuiet (Some (Opt files)) old new status = Unit {0}
IsQuiet (Some (Check files)) old new status = Unit {0}
IsQuiet (Some (Report input profile)) old new status = Unit {0}
IsQuiet (Some (Itself n)) old new status = Unit {0}

-- the row, ended by this status, leaves the standard output as it was
abbrev pub IsSilent : Option Row → World → World → ℕ → Type 0
IsSilent (Some (Report input profile)) old new status = (status ≡ 1) ⊎ (status ≡ 3) ⊎ (status ≡ 5)
IsSilent (Some (Itself n)) old new status = (status ≡ 1) ⊎ (status ≡ 3) ⊎ (status ≡ 5)
IsSilent row old new status = IsQuiet row old new status

-- what the row took from the standard input and put on the standard output: nothing, or what its run so far took and put, or a
-- first part of the report
abbrev pub HasMoved : Option Row → World → World → Type 0
HasMoved None old new = AreStill old new
HasMoved (Some (Print input output)) old new = AreStill old new
HasMoved (Some (Run limit input profile)) old new = run.HasMoved limit input old new
HasMoved (Some (Opt files)) old new = AreStill old new
HasMoved (Some (Check files)) old new = AreStill old new
HasMoved (Some (Report input profile)) old new =
    AreStill old new
    ⊎ ((new.input ≡ old.input) × ((text : List ℕ) × IsReported input profile old.host text × HasPutPart text old.out new.out))
HasMoved (Some (Itself n)) old new =
    AreStill old new ⊎ ((new.input ≡ old.input) × ((text : List ℕ) × IsSummarised n text × HasPutPart text old.out new.out))

-- how the call may end, each ending with its cause
abbrev pub Ends : Option Row → World → World → Ending → Type 0
Ends None old new ending = (ending ≡ Err Usage) × (new ≡ old)
Ends (Some (Print input output)) old new ending = PrintEnds input output old.host new.host ending × AreStill old new
Ends (Some (Run limit input profile)) old new ending = run.RunEnds limit input profile old new ending
Ends (Some (Opt files)) old new ending = OptEnds files old.host new.host ending × AreStill old new
Ends (Some (Check files)) old new ending = CheckEnds files old.host new.host ending × AreStill old new
Ends (Some (Report input profile)) old new ending =
    ReportEnds input profile old.host new.host old.out new.out ending × (new.input ≡ old.input)
Ends (Some (Itself n)) old new ending = ItselfEnds n old.out new.out ending × (new.input ≡ old.input) × (new.host ≡ old.host)
