use Rattle.std.proofs.Common.{ℕ, ◌<◌}
use Rattle.flow_paths.specs.Paths.{source, target}
use Rattle.flow_paths.proofs.tests.is_within.Given as goal

abbrev pub invariant-loop-from : goal.invariant-loop-from
invariant-loop-from l = (e : ℕ) → e < l.from-index → (source l.arcs e < l.points) × (target l.arcs e < l.points)
