use Rattle.std.proofs.Common.{◌≡◌, map, take}
use Rattle.certified.specs.Certified.{placements_in}
use Rattle.optimise.proofs.choices.named_placements.Given as goal

abbrev pub invariant-loop-entries : goal.invariant-loop-entries
invariant-loop-entries l = l.named.items ≡ map placements_in (take l.entries-index l.entries-items)
