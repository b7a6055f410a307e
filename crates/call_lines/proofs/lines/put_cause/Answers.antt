use Rattle.std.proofs.Common.{codes}
use Rattle.mc_host.proofs.PutsLemmas.{puts_then, puts_stop}
use Rattle.call_lines.specs.Refused.{hex_text}
use Rattle.call_lines.proofs.lines.put_cause.Goals as goal

pub returns-in_err-put-in-BadByte : goal.returns-in_err-put-in-BadByte
returns-in_err-put-in-BadByte g c = rw c.in-BadByte.is (puts_stop (codes "E2 BadByte 0x") (hex_text c.in-BadByte.byte) _ _ _ _ c.from_residual.ensures.0 c.in_err-put-in-BadByte.ensures)

pub returns-in_ok-put-in-BadByte : goal.returns-in_ok-put-in-BadByte
returns-in_ok-put-in-BadByte g c =
    rw (c.in-BadByte.is, ← c.hex_text-digits.ensures) (puts_then (codes "E2 BadByte 0x") c.hex_text-digits.result _ _ _ _ c.in_ok-put-in-BadByte.ensures c.put-in-BadByte.ensures)
