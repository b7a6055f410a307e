use Rattle.std.proofs.Common.{◌≡◌, ◌+◌, ◌++◌, drop}
use Rattle.flow_graph.specs.Slots.{slots_of}
use Rattle.function_text.specs.ByChanges.{leads_from, split_count}
use Rattle.function_text.proofs.layout.leads.Given as goal

abbrev pub invariant-loop-slot : goal.invariant-loop-slot
invariant-loop-slot l = record {
  next : l.next ≡ l.first + split_count l.lists l.term l.slot;
  rest : l.leads.items ++ leads_from l.lists l.term l.homes l.first l.slot (drop l.slot (slots_of l.term)) ≡ leads_from l.lists l.term l.homes l.first 0 (slots_of l.term);
}
