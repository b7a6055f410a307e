use Rattle.std.proofs.Common.{codes}
use Rattle.mc_host.proofs.PutsLemmas.{puts_then, puts_stop}
use Rattle.call_lines.specs.Reasons.{reason_text}
use Rattle.call_lines.proofs.reasons.put_no.Goals as goal

pub returns-in_err-put : goal.returns-in_err-put
returns-in_err-put g c = puts_stop (codes "mcpre: no: ") _ _ _ _ _ c.from_residual.ensures.0 c.in_err-put.ensures

pub returns-in_err-put_reason : goal.returns-in_err-put_reason
returns-in_err-put_reason g c =
    puts_then (codes "mcpre: no: ") _ _ _ _ _ c.in_ok-put.ensures
    (puts_stop (reason_text c.args.reason) (codes "\n") _ _ _ _ c.from_residual-in_err-put_reason.ensures.0 c.in_err-put_reason.ensures)

pub returns : goal.returns
returns g c =
    puts_then (codes "mcpre: no: ") _ _ _ _ _ c.in_ok-put.ensures
    (puts_then (reason_text c.args.reason) (codes "\n") _ _ _ _ c.in_ok-put_reason.ensures c.put-2.ensures)
