use Rattle.std.proofs.Common.{◌≡◌, ◌++◌, length, drop, take, replicate}
use Rattle.interp.specs.Tallies.{starts_from, slots_in}
use Rattle.interp.proofs.tally.empty_slots.Given as goal

abbrev pub invariant-loop-block : goal.invariant-loop-block
invariant-loop-block l = record {
  starts_left : l.starts ++ starts_from (length l.slots) (drop l.block-index l.blocks) ≡ starts_from 0 l.blocks;
  slots_made : l.slots ≡ replicate (slots_in (take l.block-index l.blocks)) 0;
}
