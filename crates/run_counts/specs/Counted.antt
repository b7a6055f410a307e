-- The counts of a run.
use Rattle.std.specs.Prelude.{◌≡◌, ℕ, ◌^◌, ◌<◌, true, List, [], Option, Some, map, slice_get}
use Rattle.ir_types.specs.Program.{Program}
use Rattle.ir_types.specs.WellFormed.{IsWellFormed}
use Rattle.ir_types.specs.declared.syntax.Function.{Function}
use Rattle.machines.specs.Runs.{Exchange, Progress, At, Over, after}
use Rattle.machines.specs.Events.{events_of}
use Rattle.machines.specs.Meaning.{State, End, ByReturn, machine_of}
use Rattle.ir_machine.specs.declared.frame.Frame.{Frame}
use Rattle.ir_machine.specs.Step.{Globals, frames_of}
use Rattle.ir_machine.specs.Same.{start, is_defined}
use Rattle.ir_machine.specs.Prof.{Counts, counts_of}
use Rattle.profile.specs.declared.counts.FnCounts.{FnCounts}
use Rattle.profile.specs.Counts.{IsAccepted}

-- a function without parameters, after n steps from its entry with this input
abbrev pub run_after : Program → ℕ → Function → List ℕ → ℕ → Progress (State Frame Globals) End
run_after m main f input n = after (machine_of (frames_of m)) n (At (start m main f [] input))

abbrev pub fn_counts : Counts → FnCounts
fn_counts c = record { entry = c.entry; slots = c.slots }

-- how often the run of n steps entered each function and took each slot
abbrev pub counts_after : Program → ℕ → Function → List ℕ → ℕ → List FnCounts
counts_after m main f input n = map fn_counts (counts_of m main (events_of (frames_of m) n (At (start m main f [] input))))

-- the counts of a run that returned are accepted
abbrev pub AcceptsReturned : Type 0
AcceptsReturned =
    (m : Program) (main n : ℕ) (f : Function) (input : List ℕ) (value : Option ℕ) (w : List Exchange)
    → IsWellFormed m → slice_get m.functions main ≡ Some f → is_defined f.blocks ≡ true → n < 2 ^ 62
    → run_after m main f input n ≡ Over (ByReturn value) w → IsAccepted m (counts_after m main f input n)
