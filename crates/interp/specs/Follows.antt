-- What follows an event of the machine, and how a run ends that is stopped.
use Rattle.std.specs.Prelude.{◌≡◌, ℕ, false, List, [], ◌∷◌, Option, Some, None, Ok, Err}
use Rattle.mc_host.specs.declared.faults.Failed.{Failed}
use Rattle.mc_host.specs.Streams.{SourceState, SinkState, Draws, Puts}
use Rattle.machines.specs.declared.events.Event.{Event}
use Rattle.machines.specs.declared.events.Event.TheVariants.{Went, Took, Entered, Wants, Shows, Returned, Trapped}
use Rattle.machines.specs.Acts.{got}
use Rattle.ir_machine.specs.Step.{frames_of}
use Rattle.ir_machine.specs.Code.{MachineState, byte_value}
use Rattle.profile.specs.declared.counts.FnCounts.{FnCounts}
use Rattle.interp.specs.declared.ends.RunEnd.{RunEnd}
use Rattle.interp.specs.declared.ends.RunEnd.TheVariants as end
use Rattle.interp.specs.declared.ends.Stop.{Stop}
use Rattle.interp.specs.declared.ends.Stop.TheVariants as stop

-- the machine that waited has got the byte, or the end of the input
abbrev pub given : MachineState → Option ℕ → MachineState
given s byte = record s { running = got (frames_of s.program) s.running (byte_value byte); waits = false }

-- the machine and the streams stay
pub record Stays (machine machine' : MachineState) (source source' : SourceState) (sink sink' : SinkState) : Type 0 where
  pub machine_is : machine' ≡ machine
  pub source_is : source' ≡ source
  pub sink_is : sink' ≡ sink

-- after the step that came to an event, a byte is taken or put where it asks for that, and the run goes on or is stopped
abbrev pub Follows : Event → Option Stop → MachineState → MachineState → SourceState → SourceState → SinkState → SinkState → Type 0
Follows Wants None machine machine' source source' sink sink' =
    (byte : Option ℕ) × Draws {E = Failed} (Ok byte) source source' × (machine' ≡ given machine byte) × (sink' ≡ sink)
Follows Wants (Some stop.ReadFault) machine machine' source source' sink sink' =
    (failed : Failed) × Draws (Err failed) source source' × (sink' ≡ sink)
Follows (Shows byte) None machine machine' source source' sink sink' =
    Puts {E = Failed} (byte ∷ []) (Ok tt) sink sink' × (machine' ≡ machine) × (source' ≡ source)
Follows (Shows byte) (Some stop.WriteFault) machine machine' source source' sink sink' =
    (failed : Failed) × Puts (byte ∷ []) (Err failed) sink sink' × (source' ≡ source)
Follows (Returned value) (Some (stop.Returned value')) machine machine' source source' sink sink' =
    (value' ≡ value) × Stays machine machine' source source' sink sink'
Follows (Trapped trap) (Some (stop.Trapped trap')) machine machine' source source' sink sink' =
    (trap' ≡ trap) × Stays machine machine' source source' sink sink'
Follows Went None machine machine' source source' sink sink' = Stays machine machine' source source' sink sink'
Follows (Took _ _ _) None machine machine' source source' sink sink' = Stays machine machine' source source' sink sink'
Follows (Entered _) None machine machine' source source' sink sink' = Stays machine machine' source source' sink sink'
Follows _ _ machine machine' source source' sink sink' = ⊥

abbrev pub ended_by : Stop → List FnCounts → RunEnd
ended_by (stop.Returned value) counts = end.Returned value (record { functions = counts })
ended_by (stop.Trapped trap) counts = end.Trapped trap
ended_by stop.ReadFault counts = end.ReadFault
ended_by stop.WriteFault counts = end.WriteFault
