-- What a machine of frames does with an input.
use Rattle.std.specs.Prelude.{ℕ, ◌-◌, ◌^◌, List, [], ◌∷◌, ◌++◌, Option}
use Rattle.mc_num.specs.declared.op.Trap.{Trap}
use Rattle.machines.specs.declared.events.Event.{Event}
use Rattle.machines.specs.declared.events.Event.TheVariants.{Went, Took, Entered, Wants, Shows, Returned, Trapped}
use Rattle.machines.specs.Runs.{Exchange, TookByte, MetEnd, ShowedByte, Progress, At, Over, Machine}
use Rattle.machines.specs.Acts.{Frames, Running, turn, got}

pub data End : Type 0 where
  ByReturn : (value : Option ℕ) → End
  ByTrap : (trap : Trap) → End

-- what an event is to the outside
pub data Effect : Type 0 where
  Quiet : Effect
  Asks : Effect
  Puts : (byte : ℕ) → Effect
  Stops : (end : End) → Effect

abbrev pub effect_of : Event → Effect
effect_of Went = Quiet
effect_of (Took function block slot) = Quiet
effect_of (Entered function) = Quiet
effect_of Wants = Asks
effect_of (Shows byte) = Puts byte
effect_of (Returned value) = Stops (ByReturn value)
effect_of (Trapped trap) = Stops (ByTrap trap)

-- what runs, the input left and the transcript so far
pub record State (Frame Globals : Type 0) : Type 0 where
  pub running : Running Frame Globals
  pub input : List ℕ
  pub transcript : List Exchange

abbrev pub state : {Frame Globals : Type 0} → Running Frame Globals → List ℕ → List Exchange → State Frame Globals
state running input transcript = record { running = running; input = input; transcript = transcript }

-- getchar takes the next byte, or gives -1 at the end of the input
abbrev pub taken : {Frame Globals : Type 0} → Frames Frame Globals → Running Frame Globals → List ℕ → List Exchange → State Frame Globals
taken frames running [] transcript = state (got frames running (2 ^ 32 - 1)) [] (transcript ++ MetEnd ∷ [])
taken frames running (byte ∷ input) transcript = state (got frames running byte) input (transcript ++ TookByte byte ∷ [])

abbrev pub followed : {Frame Globals : Type 0} → Frames Frame Globals → Effect → Running Frame Globals → List ℕ → List Exchange → Progress (State Frame Globals) End
followed frames Quiet running input transcript = At (state running input transcript)
followed frames Asks running input transcript = At (taken frames running input transcript)
followed frames (Puts byte) running input transcript = At (state running input (transcript ++ ShowedByte byte ∷ []))
followed frames (Stops end) running input transcript = Over end transcript

abbrev pub stepped : {Frame Globals : Type 0} → Frames Frame Globals → State Frame Globals → Progress (State Frame Globals) End
stepped frames s = let t = turn frames s.running in followed frames (effect_of t.event) t.running s.input s.transcript

abbrev pub machine_of : {Frame Globals : Type 0} → Frames Frame Globals → Machine (State Frame Globals) End
machine_of frames = record { step = stepped frames; transcript = λ s. s.transcript }
