use Rattle.checker.specs.Placing.{ArePlacedBy}
use Rattle.checker.proofs.placing.placed_of.Given as goal

abbrev pub invariant-loop-own : goal.invariant-loop-own
invariant-loop-own l = ArePlacedBy l.yielded l.certificate l.placed.items
