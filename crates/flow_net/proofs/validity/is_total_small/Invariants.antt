use Rattle.std.proofs.Common.{◌≡◌, ◌+◌, ◌^◌, ◌<◌, take}
use Rattle.std.specs.List.{sum_by}
use Rattle.flow_net.specs.declared.Arc.{Arc}
use Rattle.flow_net.proofs.validity.is_total_small.Given as goal

abbrev pub invariant-loop-arc : goal.invariant-loop-arc
invariant-loop-arc l = record {
  some : 0 < l.left;
  left : l.left + sum_by (λ (a : Arc). a.cap) (take l.arc-index l.arcs) ≡ 2 ^ 120;
}
