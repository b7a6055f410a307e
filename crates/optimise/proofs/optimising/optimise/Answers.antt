use Rattle.std.proofs.Common.{length}
use Rattle.optimise.specs.Placing.{ChosenSoFar}
use Rattle.optimise.proofs.Growing.{all_small, each_chosen, each_good, each_written}
use Rattle.optimise.proofs.Sound.{MoveLaws, each_sound}
use Rattle.optimise.proofs.optimising.optimise.Goals as goal

pub apply-requires-clause-placed : goal.apply-requires-clause-placed
apply-requires-clause-placed c =
    let m = c.args.program.now in
    let counts = c.args.profile.now.functions in
    let chosen = c.in_ok-chosen.chosen.items in
    let laws : MoveLaws = record { told = c.placed_is_told.ensures.told; occurs = c.placed_is_told.ensures.occurs; numbered = c.points_are_told.ensures; is_move = c.placed_is_move.ensures } in
    let all : ChosenSoFar m counts (length m.functions) chosen = rw c.as_slice.ensures at c.in_ok-chosen.ensures.chosen in
    rw (c.deref.ensures.value, c.in_ok-parts.ensures.placed) (each_sound laws m counts _ (each_chosen m counts chosen all))

pub returns-clause-optimised : goal.returns-clause-optimised
returns-clause-optimised c =
    let m = c.args.program.now in
    let counts = c.args.profile.now.functions in
    let chosen = c.in_ok-chosen.chosen.items in
    let all : ChosenSoFar m counts (length m.functions) chosen = rw c.as_slice.ensures at c.in_ok-chosen.ensures.chosen in
    record {
      placed = c.in_ok-parts.parts.placed.items;
      are_chosen = rw c.in_ok-parts.ensures.placed (each_chosen m counts chosen all);
      each_good = rw (c.from.ensures, c.in_ok-parts.ensures.placed, c.in_ok-parts.ensures.functions) (each_good m counts chosen all);
      each_written = rw (c.from.ensures, c.in_ok-parts.ensures.placed, c.in_ok-parts.ensures.functions) (each_written m counts chosen all);
      transformed = rw c.deref.ensures.value at c.in_ok-module.ensures;
    }

pub returns-clause-within : goal.returns-clause-within
returns-clause-within c =
    let m = c.args.program.now in
    let chosen = c.in_ok-chosen.chosen.items in
    let all : ChosenSoFar m c.args.profile.now.functions (length m.functions) chosen = rw c.as_slice.ensures at c.in_ok-chosen.ensures.chosen in
    rw (c.from.ensures, c.in_ok-parts.ensures.functions) (all_small chosen all.within)
