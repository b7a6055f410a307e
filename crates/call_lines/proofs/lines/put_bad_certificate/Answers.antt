use Rattle.std.proofs.Common.{codes}
use Rattle.mc_host.proofs.PutsLemmas.{puts_then, puts_stop}
use Rattle.call_lines.specs.Reasons.{path_text}
use Rattle.call_lines.proofs.lines.put_bad_certificate.Goals as goal

pub returns-in_err-put : goal.returns-in_err-put
returns-in_err-put g c = puts_stop (codes ": C1 Form ") _ _ _ _ _ c.from_residual.ensures.0 c.in_err-put.ensures

pub returns-in_err-put_path : goal.returns-in_err-put_path
returns-in_err-put_path g c =
    puts_then (codes ": C1 Form ") _ _ _ _ _ c.in_ok-put.ensures
    (puts_stop (path_text c.args.path) (codes "\n") _ _ _ _ c.from_residual-in_err-put_path.ensures.0 c.in_err-put_path.ensures)

pub returns : goal.returns
returns g c =
    puts_then (codes ": C1 Form ") _ _ _ _ _ c.in_ok-put.ensures
    (puts_then (path_text c.args.path) (codes "\n") _ _ _ _ c.in_ok-put_path.ensures c.put-2.ensures)
