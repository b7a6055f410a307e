use Rattle.std.proofs.Common.{add-one, suc, drop, ℕ, List, [], Bor}
use Rattle.mc_host.proofs.PutsLemmas.{puts_then, puts_stop, joined, joined-take_more, joined-split}
use Rattle.mc_host.proofs.pieces.put_all.Goals as goal

-- what stands for a piece past the last
nothing : Bor (List ℕ)
nothing = record { ref_ptr = (0, 0); now = [] }

pub returns-in_err-put : goal.returns-in_err-put
unfolding nothing
returns-in_err-put g c =
    let i = c.loop-piece.piece-index in
    let pieces = c.args.pieces.now in
    let piece = puts_then _ _ _ _ _ _ c.loop-piece.invariant c.in_err-put.ensures in
    rw (← joined-split pieces (suc i), ← joined-take_more pieces i nothing c.loop-piece-test.true)
    (puts_stop _ (joined (drop (suc i) pieces)) _ _ _ _ c.from_residual.ensures.0 piece)

pub loop-piece-preserved : goal.loop-piece-preserved
unfolding nothing
loop-piece-preserved g c =
    rw (add-one, ← joined-take_more c.args.pieces.now c.loop-piece.piece-index nothing c.loop-piece-test.true)
    (puts_then _ _ _ _ _ _ c.loop-piece.invariant c.in_ok-put.ensures)
