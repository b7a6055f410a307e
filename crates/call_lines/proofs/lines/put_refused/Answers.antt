use Rattle.std.proofs.Common.{codes}
use Rattle.mc_host.proofs.PutsLemmas.{puts_then, puts_stop}
use Rattle.call_lines.specs.Refused.{place_text, cause_text}
use Rattle.call_lines.proofs.lines.put_refused.Goals as goal

pub returns-in_err-put_place : goal.returns-in_err-put_place
returns-in_err-put_place g c = rw (← c.place_of.ensures) (puts_stop (place_text c.place_of.result) _ _ _ _ _ c.from_residual.ensures.0 c.in_err-put_place.ensures)

pub returns-in_err-put_cause : goal.returns-in_err-put_cause
returns-in_err-put_cause g c =
    rw (← c.place_of.ensures) (puts_then (place_text c.place_of.result) _ _ _ _ _ c.in_ok-put_place.ensures
    (puts_stop (cause_text c.args.refusal c.args.excerpt.now) (codes "\n") _ _ _ _ c.from_residual-in_err-put_cause.ensures.0 c.in_err-put_cause.ensures))

pub returns : goal.returns
returns g c =
    rw (← c.place_of.ensures) (puts_then (place_text c.place_of.result) _ _ _ _ _ c.in_ok-put_place.ensures
    (puts_then (cause_text c.args.refusal c.args.excerpt.now) (codes "\n") _ _ _ _ c.in_ok-put_cause.ensures c.put.ensures))
