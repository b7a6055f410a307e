use Rattle.std.proofs.Common.{◌≡◌, ◌++◌, drop, length}
use Rattle.std.specs.List.{flat_map}
use Rattle.flow_graph.specs.Slots.{slots_from}
use Rattle.profile.specs.Text.{line_text, block_lines}
use Rattle.profile.proofs.printing.put_blocks.Given as goal

-- what is put and what is left to put are the whole
abbrev pub invariant-loop-number : goal.invariant-loop-number
invariant-loop-number l = record {
  len : length l.rest ≡ length (slots_from l.number (drop l.number l.blocks));
  whole : l.out.items ++ flat_map line_text (block_lines l.number (drop l.number l.blocks) l.rest) ≡ l.fn.out.items ++ flat_map line_text (block_lines 0 l.blocks l.counts);
}
