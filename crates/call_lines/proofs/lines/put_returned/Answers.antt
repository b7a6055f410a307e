use Rattle.std.proofs.Common.{codes}
use Rattle.mc_host.proofs.PutsLemmas.{puts_stop}
use Rattle.ir_printer.specs.Text.{constant_text}
use Rattle.call_lines.proofs.lines.put_returned.Goals as goal

pub returns-in_err-put-in-Some : goal.returns-in_err-put-in-Some
returns-in_err-put-in-Some g c =
    rw c.in-Some.is (puts_stop (codes " ") (constant_text c.in-Some.width c.in-Some.value) _ _ _ _ c.from_residual.ensures.0 c.in_err-put-in-Some.ensures)
