-- The tallies of placements are determined.
use Rattle.std.specs.Prelude.{◌≡◌, List}
use Rattle.ir_types.specs.Program.{Program}
use Rattle.profile.specs.declared.counts.FnCounts.{FnCounts}
use Rattle.placement.specs.declared.placements.Placement.{Placement}
use Rattle.tallies.specs.Tallies.{AreTallies}
use Rattle.tallies.specs.declared.tally.Tally.{Tally}

-- by its counts the placements of a module have one tally each
abbrev pub OneTallying : Type 0
OneTallying = (m : Program) (counts : List FnCounts) (placements : List (List Placement)) (one other : List (List Tally)) → AreTallies m counts placements one → AreTallies m counts placements other → one ≡ other
