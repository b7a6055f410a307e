use Rattle.std.proofs.Common.{◌≡◌, ◌+◌}
use Rattle.function_text.specs.ByChanges.{split_count}
use Rattle.function_text.proofs.layout.end_of.Given as goal

abbrev pub invariant-loop-slot : goal.invariant-loop-slot
invariant-loop-slot l = l.next ≡ l.first + split_count l.lists l.term l.slot
