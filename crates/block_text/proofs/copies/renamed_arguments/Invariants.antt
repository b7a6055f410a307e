use Rattle.std.proofs.Common.{◌≡◌, map, take}
use Rattle.std.specs.Prelude.{slice_index}
use Rattle.applied.specs.Renamed.{renamed}
use Rattle.block_text.proofs.copies.renamed_arguments.Given as goal

abbrev pub invariant-loop-argument : goal.invariant-loop-argument
invariant-loop-argument l = l.list ≡ map (renamed (slice_index l.numbers)) (take l.argument-index l.arguments)
