use Rattle.std.proofs.Common.{◌≡◌, map, take}
use Rattle.std.specs.Prelude.{slice_index}
use Rattle.applied.specs.Renamed.{renamed}
use Rattle.block_text.proofs.copies.renamed_operands.Given as goal

abbrev pub invariant-loop-operand : goal.invariant-loop-operand
invariant-loop-operand l = l.list ≡ map (renamed (slice_index l.numbers)) (take l.operand-index l.operands)
