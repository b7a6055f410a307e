use Rattle.std.proofs.Common.{refl, arith}
use Rattle.top_call.specs.Print.{text_limit}
use Rattle.top_call.proofs.ReadLemmas.{too_long, whole}
use Rattle.top_call.proofs.print.read_short.Goals as goal

pub returns-in-Ok-clause-stops : goal.returns-in-Ok-clause-stops
returns-in-Ok-clause-stops g c =
    (refl, refl, too_long (g.H.Host.state c.args.host.now) c.args.name.now c.in-Ok.bytes.items c.in-Ok.ensures.content (omega (arith, c.if-len-gt-TEXT_LIMIT.true, c.len.ensures)))

pub returns-in-Ok-2-clause-read : goal.returns-in-Ok-2-clause-read
returns-in-Ok-2-clause-read g c =
    whole (g.H.Host.state c.args.host.now) c.args.name.now c.in-Ok.bytes.items text_limit c.in-Ok.ensures.content (omega (arith, c.if-len-gt-TEXT_LIMIT.false, c.len.ensures))
