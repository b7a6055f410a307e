use Rattle.std.proofs.Common.{codes}
use Rattle.mc_host.proofs.PutsLemmas.{puts_then, puts_stop}
use Rattle.call_lines.specs.Ending.{refusal_text}
use Rattle.call_lines.proofs.lines.put_file_refused.Goals as goal

pub returns-in_err-put : goal.returns-in_err-put
returns-in_err-put g c = puts_stop (codes "mcpre: ") _ _ _ _ _ c.from_residual.ensures.0 c.in_err-put.ensures

pub returns-in_err-put-2 : goal.returns-in_err-put-2
returns-in_err-put-2 g c =
    rw (← c.as_bytes.ensures.value) (puts_then (codes "mcpre: ") _ _ _ _ _ c.in_ok-put.ensures
    (puts_stop c.as_bytes.result.now (refusal_text c.args.problem) _ _ _ _ c.from_residual-in_err-put-2.ensures.0 c.in_err-put-2.ensures))

pub returns : goal.returns
returns g c =
    rw (← c.as_bytes.ensures.value) (puts_then (codes "mcpre: ") _ _ _ _ _ c.in_ok-put.ensures
    (puts_then c.as_bytes.result.now (refusal_text c.args.problem) _ _ _ _ c.in_ok-put-2.ensures c.put_problem.ensures))
