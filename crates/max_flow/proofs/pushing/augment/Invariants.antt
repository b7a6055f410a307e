use Rattle.std.proofs.Common.{ℕ, drop}
use Rattle.max_flow.specs.Path.{IsPath}
use Rattle.max_flow.proofs.Carry.{Carrying}
use Rattle.max_flow.proofs.pushing.augment.Given as goal

-- the amount stands at a node, from which the steps that are left lead on
abbrev pub invariant-loop-step : goal.invariant-loop-step
invariant-loop-step l = (cur : ℕ) × Carrying l.net.nodes l.net.arcs.items l.fn.flow.amounts.items l.flow.amounts.items l.found l.amount cur × IsPath l.net.arcs.items l.found cur (drop l.step-index l.path)
