use Rattle.std.proofs.Common.{ℕ, map, take}
use Rattle.flow_graph.specs.Searching.{Reaches}
use Rattle.flow_graph.proofs.reaching.Search.reach_cases.Given as goal

abbrev pub invariant-loop-block : goal.invariant-loop-block
invariant-loop-block l = Reaches (map (λ (c : ℕ × ℕ). c.1) (take l.block-index l.cases)) l.fn.self l.self
