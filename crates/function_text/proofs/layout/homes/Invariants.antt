use Rattle.std.proofs.Common.{◌≡◌, ◌+◌, ◌++◌, ◌≤◌, drop}
use Rattle.function_text.specs.ByChanges.{homes_from, new_count_from}
use Rattle.function_text.proofs.layout.homes.Given as goal

abbrev pub invariant-loop-number : goal.invariant-loop-number
invariant-loop-number l = record {
  passed : l.number ≤ l.next;
  room : l.next + new_count_from l.changes l.number (drop l.number l.function.blocks) ≡ new_count_from l.changes 0 l.function.blocks;
  rest : l.homes.items ++ homes_from l.changes l.next l.number (drop l.number l.function.blocks) ≡ homes_from l.changes 0 0 l.function.blocks;
}
