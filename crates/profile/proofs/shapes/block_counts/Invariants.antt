use Rattle.profile.proofs.Outlines.{BlocksSoFar}
use Rattle.profile.proofs.shapes.block_counts.Given as goal

abbrev pub invariant-loop-index : goal.invariant-loop-index
invariant-loop-index l = BlocksSoFar l.blocks l.read l.at l.index l.counts.items
