-- What a bounded run of a module's main answers, takes and puts.
use Rattle.std.specs.Prelude.{◌≡◌, ◌⊎◌, ℕ, ◌+◌, ◌<◌, ◌≤◌, List, [], ◌∷◌, ◌++◌, Option, Some, None, Result, Ok, Err, IsTrue, IsSome, IfOk, IfErr}
use Rattle.mc_num.specs.declared.memory.NoMemory.{NoMemory}
use Rattle.mc_host.specs.Faults.{Rose}
use Rattle.mc_host.specs.Streams.{SourceState, SinkState}
use Rattle.ir_types.specs.Program.{Program}
use Rattle.machines.specs.declared.events.Event.{Event}
use Rattle.machines.specs.declared.events.Event.TheVariants.{Wants, Shows}
use Rattle.machines.specs.Runs.{Exchange, TookByte, MetEnd, ShowedByte, Progress, At, Over}
use Rattle.machines.specs.Events.{next_events}
use Rattle.machines.specs.Meaning.{State, End, ByReturn, ByTrap}
use Rattle.ir_machine.specs.declared.frame.Frame.{Frame}
use Rattle.ir_machine.specs.Step.{Globals, frames_of}
use Rattle.profile.specs.declared.counts.FnCounts.{FnCounts}
use Rattle.profile.specs.Counts.{IsAccepted}
use Rattle.interp.specs.Main.{main_of, run_of, prof_of}
use Rattle.interp.specs.declared.ends.RunEnd.{RunEnd}
use Rattle.interp.specs.declared.ends.RunEnd.TheVariants.{Returned, Trapped, StepLimit, ReadFault, WriteFault, NoMain}

-- the bytes that were taken, and the bytes that were shown
abbrev pub bytes_taken : List Exchange → List ℕ
bytes_taken [] = []
bytes_taken (TookByte byte ∷ rest) = byte ∷ bytes_taken rest
bytes_taken (MetEnd ∷ rest) = bytes_taken rest
bytes_taken (ShowedByte byte ∷ rest) = bytes_taken rest

abbrev pub bytes_shown : List Exchange → List ℕ
bytes_shown [] = []
bytes_shown (TookByte byte ∷ rest) = bytes_shown rest
bytes_shown (MetEnd ∷ rest) = bytes_shown rest
bytes_shown (ShowedByte byte ∷ rest) = byte ∷ bytes_shown rest

-- what the run exchanged so far
abbrev pub transcript_of : Option (Progress (State Frame Globals) End) → List Exchange
transcript_of None = []
transcript_of (Some (At s)) = s.transcript
transcript_of (Some (Over end transcript)) = transcript

-- the next step of the run comes to this event
abbrev pub NextIs : Program → Event → Option (Progress (State Frame Globals) End) → Type 0
NextIs m event None = ⊥
NextIs m event (Some progress) = next_events (frames_of m) progress ≡ event ∷ []

-- the run that stands so at the limit, with these counts, is answered so; a fault may come first
abbrev pub EndsWith : Option (Progress (State Frame Globals) End) → Option (List FnCounts) → RunEnd → Type 0
EndsWith None counts NoMain = Unit {0}
EndsWith (Some (Over (ByReturn value) w)) counts (Returned value' profile) = (value' ≡ value) × (counts ≡ Some profile.functions)
EndsWith (Some (Over (ByTrap trap) w)) counts (Trapped trap') = trap' ≡ trap
EndsWith (Some (At s)) counts StepLimit = Unit {0}
EndsWith (Some progress) counts ReadFault = Unit {0}
EndsWith (Some progress) counts WriteFault = Unit {0}
EndsWith _ counts _ = ⊥

abbrev pub EndsAs : Program → List ℕ → ℕ → RunEnd → Type 0
EndsAs m input limit end = EndsWith (run_of m input limit) (prof_of m input limit) end

-- what an answer says whatever the source tells
abbrev pub HasCause : Program → SourceState → SourceState → SinkState → SinkState → RunEnd → Type 0
HasCause m source source' sink sink' (Returned value profile) = IsSome (main_of m) × IsAccepted m profile.functions
HasCause m source source' sink sink' (Trapped trap) = IsSome (main_of m)
HasCause m source source' sink sink' StepLimit = IsSome (main_of m)
HasCause m source source' sink sink' ReadFault = IsSome (main_of m) × Rose source.faults source'.faults
HasCause m source source' sink sink' WriteFault = IsSome (main_of m) × Rose sink.faults sink'.faults
HasCause m source source' sink sink' NoMain = (main_of m ≡ None) × (source' ≡ source) × (sink' ≡ sink)

-- where the run stands that came so far in n steps: at the limit, or at the getchar or behind the putchar that failed
abbrev pub StandsFor : Program → List ℕ → ℕ → ℕ → Result RunEnd NoMemory → Type 0
StandsFor m input limit n (Ok ReadFault) = (n < limit) × NextIs m Wants (run_of m input n)
StandsFor m input limit n (Ok WriteFault) = (k : ℕ) × (byte : ℕ) × (n ≡ k + 1) × NextIs m (Shows byte) (run_of m input k)
StandsFor m input limit n (Ok _) = n ≡ limit
StandsFor m input limit n (Err _) = Unit {0}

-- the bytes shown were put; after a failed write the last may be missing
abbrev pub HasPut : Result RunEnd NoMemory → List ℕ → List ℕ → List ℕ → Type 0
HasPut (Ok WriteFault) shown old new = (before : List ℕ) × (last : ℕ) × (shown ≡ before ++ last ∷ []) × ((new ≡ old ++ before) ⊎ (new ≡ old ++ shown))
HasPut _ shown old new = new ≡ old ++ shown

-- how far the run came, and that the bytes taken and put are its bytes
pub record CameTo (m : Program) (limit : ℕ) (source source' : SourceState) (sink sink' : SinkState) (result : Result RunEnd NoMemory) : Type 0 where
  pub steps : ℕ
  pub within : steps ≤ limit
  pub stands : StandsFor m source.left limit steps result
  pub taken : source.left ≡ bytes_taken (transcript_of (run_of m source.left steps)) ++ source'.left
  pub put : IsTrue sink.tells → HasPut result (bytes_shown (transcript_of (run_of m source.left steps))) sink.written sink'.written

-- a run of at most so many steps from a source to a sink
pub record Ran (m : Program) (limit : ℕ) (source source' : SourceState) (sink sink' : SinkState) (result : Result RunEnd NoMemory) : Type 0 where
  pub cause : IfOk result (HasCause m source source' sink sink')
  -- want of memory comes only where there is a main
  pub main : IfErr result (λ reason. IsSome (main_of m))
  pub ends : IsTrue source.tells → IfOk result (EndsAs m source.left limit)
  pub so_far : IsTrue source.tells → CameTo m limit source source' sink sink' result
  pub source_faults : source.faults ≤ source'.faults
  pub source_tells : source'.tells ≡ source.tells
  pub sink_faults : sink.faults ≤ sink'.faults
  pub sink_tells : sink'.tells ≡ sink.tells
