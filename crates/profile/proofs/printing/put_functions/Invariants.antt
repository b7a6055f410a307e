use Rattle.std.proofs.Common.{◌≡◌, ◌++◌, drop}
use Rattle.std.specs.Prelude.{filter}
use Rattle.std.specs.List.{AllZip, flat_map}
use Rattle.profile.specs.Counts.{HasSlots, is_defined}
use Rattle.profile.specs.Text.{line_text, function_lines}
use Rattle.profile.proofs.printing.put_functions.Given as goal

-- what is put and what is left to put are the whole
abbrev pub invariant-loop-function : goal.invariant-loop-function
invariant-loop-function l = record {
  shape : AllZip HasSlots (filter is_defined (drop l.function-index l.functions)) (drop l.number l.counts);
  whole : l.out.items ++ flat_map line_text (function_lines l.number (filter is_defined (drop l.function-index l.functions)) (drop l.number l.counts)) ≡ l.fn.out.items ++ flat_map line_text (function_lines 0 (filter is_defined l.functions) l.counts);
}
