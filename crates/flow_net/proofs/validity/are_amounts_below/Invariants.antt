use Rattle.std.proofs.Common.{ℕ, ◌<◌, ◌≤◌, get_or}
use Rattle.flow_net.specs.declared.Arc.{Arc}
use Rattle.flow_net.specs.Network.{loads}
use Rattle.flow_net.proofs.validity.are_amounts_below.Given as goal

abbrev pub invariant-loop-index : goal.invariant-loop-index
invariant-loop-index l = (k : ℕ) → k < l.index → (d : Arc × ℕ) → (get_or (loads l.net l.flow) k d).1 ≤ (get_or (loads l.net l.flow) k d).0.cap
