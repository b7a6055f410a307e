-- A machine of frames: what the running frame does, and what becomes of the frames and the globals.
use Rattle.std.specs.Prelude.{ℕ, List, [], ◌∷◌, Option, Some, None}
use Rattle.mc_num.specs.declared.op.Trap.{Trap}
use Rattle.machines.specs.declared.events.Event.{Event}
use Rattle.machines.specs.declared.events.Event.TheVariants.{Went, Took, Entered, Wants, Shows, Returned, Trapped}

-- a way out of a block
pub record Slot : Type 0 where
  pub function : ℕ
  pub block : ℕ
  pub slot : ℕ

-- what the running frame does next: it goes on by itself, perhaps through a slot; calls a function, whose first frame
-- is given, or getchar, or putchar; returns; or traps
pub data Act (Frame Globals : Type 0) : Type 0 where
  Goes : (slot : Option Slot) (frame : Frame) (globals : Globals) → Act Frame Globals
  Calls : (function : ℕ) (frame : Frame) → Act Frame Globals
  Reads : Act Frame Globals
  Writes : (byte : ℕ) (frame : Frame) → Act Frame Globals
  Returns : (value : Option ℕ) → Act Frame Globals
  Traps : (trap : Trap) → Act Frame Globals

pub record Frames (Frame Globals : Type 0) : Type 0 where
  pub act : Globals → Frame → Act Frame Globals
  -- a frame that waits for a call gets its value
  pub give : Frame → Option ℕ → Frame

-- the running frame, the frames that wait for it, the nearest first, and the globals
pub record Running (Frame Globals : Type 0) : Type 0 where
  pub top : Frame
  pub below : List Frame
  pub globals : Globals

-- what one step came to, and what runs after it
pub record Turn (Frame Globals : Type 0) : Type 0 where
  pub event : Event
  pub running : Running Frame Globals

abbrev pub turned : {Frame Globals : Type 0} → Event → Frame → List Frame → Globals → Turn Frame Globals
turned event top below globals = record { event = event; running = record { top = top; below = below; globals = globals } }

abbrev pub went : Option Slot → Event
went None = Went
went (Some slot) = Took slot.function slot.block slot.slot

-- a return to the nearest frame that waits, or out of the last frame
abbrev pub returned : {Frame Globals : Type 0} → Frames Frame Globals → Option ℕ → Frame → List Frame → Globals → Turn Frame Globals
returned frames value top [] globals = turned (Returned value) top [] globals
returned frames value top (caller ∷ below) globals = turned Went (frames.give caller value) below globals

abbrev pub acted : {Frame Globals : Type 0} → Frames Frame Globals → Act Frame Globals → Frame → List Frame → Globals → Turn Frame Globals
acted frames (Goes slot frame globals') top below globals = turned (went slot) frame below globals'
acted frames (Calls function frame) top below globals = turned (Entered function) frame (top ∷ below) globals
acted frames Reads top below globals = turned Wants top below globals
acted frames (Writes byte frame) top below globals = turned (Shows byte) frame below globals
acted frames (Returns value) top below globals = returned frames value top below globals
acted frames (Traps trap) top below globals = turned (Trapped trap) top below globals

-- one step
abbrev pub turn : {Frame Globals : Type 0} → Frames Frame Globals → Running Frame Globals → Turn Frame Globals
turn frames running = acted frames (frames.act running.globals running.top) running.top running.below running.globals

-- a getchar that waits gets its value
abbrev pub got : {Frame Globals : Type 0} → Frames Frame Globals → Running Frame Globals → ℕ → Running Frame Globals
got frames running value = record running { top = frames.give running.top (Some value) }
