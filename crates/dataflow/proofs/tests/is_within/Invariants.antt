use Rattle.std.proofs.Common.{ℕ, ◌<◌}
use Rattle.dataflow.specs.FixedPoints.{source, target}
use Rattle.dataflow.proofs.tests.is_within.Given as goal

abbrev pub invariant-loop-from : goal.invariant-loop-from
invariant-loop-from l = (e : ℕ) → e < l.from-index → (source l.arcs e < l.nodes) × (target l.arcs e < l.nodes)
