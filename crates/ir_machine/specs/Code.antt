-- What contracts see of the machine.
use Rattle.std.specs.Prelude.{◌≡◌, ◌≢◌, ℕ, ◌-◌, ◌<◌, ◌^◌, Bool, true, false, List, [], Option, Some, None, reverse, length, take, slice_get}
use Rattle.mc_num.specs.declared.op.Width.TheVariants.{I32}
use Rattle.ir_types.specs.Program.{Program}
use Rattle.ir_types.specs.WellFormed.{IsWellFormed}
use Rattle.ir_types.specs.declared.syntax.Function.{Function}
use Rattle.machines.specs.Acts.{Act, Running, turn, turned, acted}
use Rattle.machines.specs.declared.events.Event.{Event}
use Rattle.machines.specs.declared.events.Event.TheVariants.{Wants, Returned, Trapped}
use Rattle.ir_machine.specs.Step.{Globals, frames_of, first_frame, written}
use Rattle.ir_machine.specs.Fits.{RunningFits, width_here}
use Rattle.ir_machine.specs.declared.frame.Frame.{Frame}

-- the running frame, those that wait, the nearest last, and the globals
abbrev pub running_of : Frame → List Frame → Globals → Running Frame Globals
running_of top below globals = record { top = top; below = reverse below; globals = globals }

-- the act comes to this event, with these frames and globals after it
abbrev pub ComesTo : Program → Act Frame Globals → Frame → List Frame → Globals → Event → Frame → List Frame → Globals → Type 0
ComesTo m act top below globals event top' below' globals' =
    acted (frames_of m) act top (reverse below) globals ≡ turned event top' (reverse below') globals'

-- a machine: its module, what runs, whether it waits for a byte, and whether it has ended
pub record MachineState : Type 0 where
  pub program : Program
  pub running : Running Frame Globals
  pub waits : Bool
  pub ended : Bool

-- a function that a run can begin with: it is defined, and has no parameters
pub record CanStart (m : Program) (main : ℕ) : Type 0 where
  pub function : Function
  pub there : slice_get m.functions main ≡ Some function
  pub defined : function.blocks ≢ []
  pub no_params : function.params ≡ []

-- the machine at the entry of a function
abbrev pub started : Program → ℕ → Function → MachineState
started m main function = record { program = m; running = running_of (first_frame main function []) [] (written m); waits = false; ended = false }

abbrev pub is_wants : Event → Bool
is_wants Wants = true
is_wants event = false

abbrev pub is_end : Event → Bool
is_end (Returned value) = true
is_end (Trapped trap) = true
is_end event = false

-- what a step comes to, and the machine after it
abbrev pub event_of : MachineState → Event
event_of s = (turn (frames_of s.program) s.running).event

abbrev pub after_step : MachineState → MachineState
after_step s = let t = turn (frames_of s.program) s.running in
    record { program = s.program; running = t.running; waits = is_wants t.event; ended = is_end t.event }

-- what getchar gives: the byte, or -1 at the end of the input
abbrev pub byte_value : Option ℕ → ℕ
byte_value None = 2 ^ 32 - 1
byte_value (Some byte) = byte

-- ---- what is true of each machine

-- a frame as it is seen: one that waits for a byte has room for it already
abbrev pub seen : Bool → Frame → Frame
seen false frame = frame
seen true frame = record frame { registers = take (length frame.registers - 1) frame.registers }

-- it has that room, and stands at a call that gives an i32
abbrev pub IsReady : Program → Bool → Frame → Type 0
IsReady m false frame = Unit {0}
IsReady m true frame = (0 < length frame.registers) × (width_here m (seen true frame) ≡ Some I32)

pub record IsMachine (m : Program) (waits : Bool) (top : Frame) (below : List Frame) (globals : Globals) : Type 0 where
  pub rules : IsWellFormed m
  pub ready : IsReady m waits top
  pub numbers : RunningFits m (running_of (seen waits top) below globals)
