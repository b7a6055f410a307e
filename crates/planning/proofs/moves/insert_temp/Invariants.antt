use Rattle.std.proofs.Common.{take}
use Rattle.planning.specs.Moving.{AddsTemp}
use Rattle.planning.proofs.moves.insert_temp.Given as goal

abbrev pub invariant-loop-edge : goal.invariant-loop-edge
invariant-loop-edge l = AddsTemp (take l.edge-index l.inserted) l.temp l.initial.edges.items l.edges.items
