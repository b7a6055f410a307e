use Rattle.std.proofs.Common.{◌≡◌, ◌++◌, take, []}
use Rattle.std.specs.List.{flat_map}
use Rattle.ir_printer.specs.Text.{block_text}
use Rattle.ir_printer.proofs.blocks.put_later_blocks.Given as goal

abbrev pub invariant-loop-block : goal.invariant-loop-block
invariant-loop-block l = l.out.written ≡ l.fn.out.written ++ flat_map (block_text l.program l.function []) (take l.block-index l.blocks)
