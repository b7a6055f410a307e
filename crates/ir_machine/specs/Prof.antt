-- How often a run entered each function and took each slot.
use Rattle.std.specs.Prelude.{ℕ, ◌≡◌, ◌+◌, ◌==◌, ◌&&◌, Bool, false, Option, List, [], if◌then◌else◌, map, filter, flat_map, count_by}
use Rattle.std.specs.List.{enumerate_from, range_with_len}
use Rattle.ir_types.specs.Program.{Program}
use Rattle.ir_types.specs.Limits.{slot_count}
use Rattle.ir_types.specs.declared.syntax.Block.{Block}
use Rattle.ir_types.specs.declared.syntax.Function.{Function}
use Rattle.machines.specs.declared.events.Event.{Event}
use Rattle.machines.specs.declared.events.Event.TheVariants.{Entered, Took}
use Rattle.machines.specs.Runs.{Exchange, At, Over, after}
use Rattle.machines.specs.Meaning.{ByReturn, machine_of}
use Rattle.machines.specs.Events.{events_of}
use Rattle.ir_machine.specs.Step.{frames_of}
use Rattle.ir_machine.specs.Same.{is_defined, start}

abbrev pub is_entry : ℕ → Event → Bool
is_entry function (Entered f) = f == function
is_entry function _ = false

abbrev pub is_taking : ℕ → ℕ → ℕ → Event → Bool
is_taking function block slot (Took f b s) = (f == function) && (b == block) && (s == slot)
is_taking function block slot _ = false

-- how often a run that began with the function `main` entered a function: once more for the one that it began with
abbrev pub entries : ℕ → List Event → ℕ → ℕ
entries main events function = count_by (is_entry function) events + (if function == main then 1 else 0)

-- how often it took a slot
abbrev pub takings : List Event → ℕ → ℕ → ℕ → ℕ
takings events function block slot = count_by (is_taking function block slot) events

pub record Counts : Type 0 where
  pub entry : ℕ
  pub slots : List ℕ

-- the slots of all blocks in text order, and of each block in order
abbrev pub slot_takings : List Event → ℕ → List Block → List ℕ
slot_takings events function blocks =
    flat_map (λ b. map (takings events function b.0) (range_with_len 0 (slot_count b.1.term))) (enumerate_from 0 blocks)

abbrev pub function_counts : ℕ → List Event → ℕ → Function → Counts
function_counts main events index function = record { entry = entries main events index; slots = slot_takings events index function.blocks }

-- one record for each defined function, in text order
abbrev pub counts_of : Program → ℕ → List Event → List Counts
counts_of m main events =
    map (λ f. function_counts main events f.0 f.1) (filter (λ f. is_defined f.1.blocks) (enumerate_from 0 m.functions))

-- the profile of a run of `main` that returns: what its steps counted. A run that is over makes no more
pub record IsProf (m : Program) (main : ℕ) (function : Function) (input : List ℕ) (counts : List Counts) : Type 0 where
  pub steps : ℕ
  pub value : Option ℕ
  pub transcript : List Exchange
  pub returns : after (machine_of (frames_of m)) steps (At (start m main function [] input)) ≡ Over (ByReturn value) transcript
  pub counted : counts ≡ counts_of m main (events_of (frames_of m) steps (At (start m main function [] input)))
