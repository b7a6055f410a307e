-- The events of a run.
use Rattle.std.specs.Prelude.{ℕ, zero, suc, List, [], ◌∷◌, ◌++◌}
use Rattle.machines.specs.declared.events.Event.{Event}
use Rattle.machines.specs.Runs.{Progress, At, Over, go_on}
use Rattle.machines.specs.Acts.{Frames, turn}
use Rattle.machines.specs.Meaning.{State, End, machine_of}

-- the event of the next step; a run that is over makes none
abbrev pub next_events : {Frame Globals : Type 0} → Frames Frame Globals → Progress (State Frame Globals) End → List Event
next_events frames (At s) = (turn frames s.running).event ∷ []
next_events frames (Over end transcript) = []

-- the events of n more steps, in order
abbrev pub events_of : {Frame Globals : Type 0} → Frames Frame Globals → ℕ → Progress (State Frame Globals) End → List Event
events_of frames zero progress = []
events_of frames (suc n) progress = next_events frames progress ++ events_of frames n (go_on (machine_of frames) progress)
