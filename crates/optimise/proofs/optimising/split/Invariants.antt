use Rattle.std.proofs.Common.{◌≡◌, map}
use Rattle.optimise.specs.declared.choosing.Chosen.{Chosen}
use Rattle.optimise.proofs.optimising.split.Given as goal

abbrev pub invariant-loop-own : goal.invariant-loop-own
invariant-loop-own l = (l.placed.items ≡ map (λ (c : Chosen). c.placed) l.yielded) × (l.functions.items ≡ map (λ (c : Chosen). c.entries) l.yielded)
