use Rattle.std.proofs.Common.{◌^◌, ◌-◌, arith}
use Rattle.top_call.proofs.ReadLemmas.{whole}
use Rattle.top_call.proofs.check.read_whole.Goals as goal

pub returns-in-Ok-clause-read : goal.returns-in-Ok-clause-read
returns-in-Ok-clause-read g c =
    whole (g.H.Host.state c.args.host.now) c.args.name.now c.in-Ok.bytes.items (2 ^ 63 - 1) c.in-Ok.ensures.content (omega (arith, c.in-Ok.bytes.small, c.in-Ok.bytes.ok.0))
