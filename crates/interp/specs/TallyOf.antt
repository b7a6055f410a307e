-- A tally of the events of a run.
use Rattle.std.specs.Prelude.{◌≡◌, ℕ, ◌+◌, List, [], ◌∷◌, Bool, map, replicate, if◌then◌else◌}
use Rattle.ir_types.specs.Program.{Program}
use Rattle.ir_types.specs.declared.syntax.Function.{Function}
use Rattle.machines.specs.declared.events.Event.{Event}
use Rattle.ir_machine.specs.Same.{is_defined}
use Rattle.ir_machine.specs.Prof.{counts_of}
use Rattle.profile.specs.declared.counts.FnCounts.{FnCounts}
use Rattle.run_counts.specs.Counted.{fn_counts}
use Rattle.interp.specs.declared.tally.Places.{Places}
use Rattle.interp.specs.declared.tally.Tally.{Tally}
use Rattle.interp.specs.Tallies.{starts_from, slots_in, IsEventOf}

-- the places of these functions, with n defined functions before the first
abbrev pub places_from : ℕ → List Function → List Places
places_from n [] = []
places_from n (f ∷ fs) = record { index = n; starts = starts_from 0 f.blocks } ∷ places_from (if is_defined f.blocks then n + 1 else n) fs

-- the counts of a function before the first step, if it is defined: one entry if it is main
abbrev pub first_counts : Bool → Function → List FnCounts
first_counts is_main f = if is_defined f.blocks then record { entry = if is_main then 1 else 0; slots = replicate (slots_in f.blocks) 0 } ∷ [] else []

-- the tally has the counts of these events
pub record IsTally (m : Program) (main : ℕ) (events : List Event) (tally : Tally) : Type 0 where
  pub counts : tally.counts.items ≡ map fn_counts (counts_of m main events)
  pub places : tally.places.items ≡ places_from 0 m.functions

-- it is a tally of some module's events, and this is an event of that module
pub record CanAdd (event : Event) (tally : Tally) : Type 0 where
  pub program : Program
  pub main : ℕ
  pub events : List Event
  pub is : IsTally program main events tally
  pub known : IsEventOf program event
