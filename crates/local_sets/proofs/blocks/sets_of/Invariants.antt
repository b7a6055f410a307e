use Rattle.std.proofs.Common.{◌≡◌, take}
use Rattle.local_sets.specs.Blocks.{sets_of}
use Rattle.local_sets.proofs.blocks.sets_of.Given as goal

abbrev pub invariant-loop-event : goal.invariant-loop-event
invariant-loop-event l = l.sets ≡ sets_of (take l.event-index l.events)
