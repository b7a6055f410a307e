use Rattle.std.proofs.Common.{◌≡◌, take}
use Rattle.certified.specs.Certified.{placements_in}
use Rattle.certified.proofs.placements.placements_of.Given as goal

abbrev pub invariant-loop-entry : goal.invariant-loop-entry
invariant-loop-entry l = l.placements.items ≡ placements_in (take l.entry-index l.entries)
