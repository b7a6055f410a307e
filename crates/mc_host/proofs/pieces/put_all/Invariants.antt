use Rattle.std.proofs.Common.{map, take, Ok}
use Rattle.std.specs.List.{concat}
use Rattle.mc_host.specs.Streams.{Puts}
use Rattle.mc_host.specs.declared.faults.Failed.{Failed}
use Rattle.mc_host.proofs.pieces.put_all.Given as goal

abbrev pub invariant-loop-piece : goal.invariant-loop-piece
invariant-loop-piece g l =
    Puts {E = Failed} (concat (map (λ piece. piece.now) (take l.piece-index l.pieces))) (Ok tt) (g.S.Sink.state l.initial.sink) (g.S.Sink.state l.sink)
