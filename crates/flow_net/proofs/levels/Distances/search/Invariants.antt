use Rattle.std.proofs.Common.{◌-◌}
use Rattle.flow_net.specs.Network.{loads}
use Rattle.flow_net.specs.Levels.{Visiting}
use Rattle.flow_net.proofs.levels.Distances.search.Given as goal

abbrev pub invariant-loop-place : goal.invariant-loop-place
invariant-loop-place l = Visiting l.net.nodes (loads l.net l.flow) l.place l.self

abbrev pub decreases-loop-place : goal.decreases-loop-place
decreases-loop-place l = l.net.nodes - l.place
