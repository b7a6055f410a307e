use Rattle.std.proofs.Common.{◌∷◌, take}
use Rattle.std.specs.Prelude.{filter_map}
use Rattle.fresh_prefix.specs.Prefixes.{Extends}
use Rattle.fresh_prefix.proofs.choosing.push_block.Given as goal

abbrev pub invariant-loop-instr : goal.invariant-loop-instr
invariant-loop-instr l = Extends (l.block.name ∷ filter_map (λ instr. instr.result) (take l.instr-index l.block.instrs)) l.fn.numbers.items l.numbers.items
