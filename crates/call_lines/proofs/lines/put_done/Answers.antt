use Rattle.std.proofs.Common.{codes, ◌++◌}
use Rattle.mc_host.proofs.PutsLemmas.{puts_then, puts_stop}
use Rattle.call_lines.specs.Ending.{returned_text}
use Rattle.call_lines.proofs.lines.put_done.Goals as goal

pub returns-in_err-put-in-Returned : goal.returns-in_err-put-in-Returned
returns-in_err-put-in-Returned g c =
    rw c.in-Returned.is (puts_stop (codes "mcpre: main returned") (returned_text c.in-Returned.value ++ codes "\n") _ _ _ _ c.from_residual.ensures.0 c.in_err-put-in-Returned.ensures)

pub returns-in_err-put_returned-in-Returned : goal.returns-in_err-put_returned-in-Returned
returns-in_err-put_returned-in-Returned g c =
    rw c.in-Returned.is (puts_then (codes "mcpre: main returned") _ _ _ _ _ c.in_ok-put-in-Returned.ensures
    (puts_stop (returned_text c.in-Returned.value) (codes "\n") _ _ _ _ c.from_residual-in_err-put_returned-in-Returned.ensures.0 c.in_err-put_returned-in-Returned.ensures))

pub returns-in_ok-put_returned-in-Returned : goal.returns-in_ok-put_returned-in-Returned
returns-in_ok-put_returned-in-Returned g c =
    rw c.in-Returned.is (puts_then (codes "mcpre: main returned") _ _ _ _ _ c.in_ok-put-in-Returned.ensures
    (puts_then (returned_text c.in-Returned.value) (codes "\n") _ _ _ _ c.in_ok-put_returned-in-Returned.ensures c.put-in-Returned.ensures))
