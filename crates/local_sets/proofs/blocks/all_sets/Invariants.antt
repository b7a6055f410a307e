use Rattle.local_sets.specs.Stepping.{AreSoFar}
use Rattle.local_sets.proofs.blocks.all_sets.Given as goal

abbrev pub invariant-loop-block : goal.invariant-loop-block
invariant-loop-block l = AreSoFar l.function l.blocks l.events l.block-index l.left l.sets.items
