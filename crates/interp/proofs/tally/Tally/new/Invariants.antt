use Rattle.std.proofs.Common.{◌≡◌, ◌++◌, [], length, drop, map}
use Rattle.ir_machine.specs.Prof.{function_counts, counts_of}
use Rattle.run_counts.specs.Counted.{fn_counts}
use Rattle.run_counts.proofs.Tallied.{defined_from}
use Rattle.interp.specs.TallyOf.{places_from}
use Rattle.interp.proofs.tally.Tally.new.Given as goal

abbrev pub invariant-loop-number : goal.invariant-loop-number
invariant-loop-number l = record {
  items : l.function-items ≡ l.program.functions;
  counts_left : l.tally.counts.items ++ map fn_counts (map (λ x. function_counts l.main [] x.0 x.1) (defined_from l.number (drop l.number l.program.functions))) ≡ map fn_counts (counts_of l.program l.main []);
  places_left : l.tally.places.items ++ places_from (length l.tally.counts.items) (drop l.number l.program.functions) ≡ places_from 0 l.program.functions;
}
