use Rattle.std.proofs.Common.{ℕ, take}
use Rattle.std.specs.Prelude.{◌↔◌, Contains}
use Rattle.live_search.proofs.sets.set_of.Given as goal

abbrev pub invariant-loop-number : goal.invariant-loop-number
invariant-loop-number l = (v : ℕ) → Contains l.set.keys v ↔ Contains (take l.number-index l.numbers) v
