use Rattle.std.proofs.Common.{arith}
use Rattle.profile.proofs.Balancing.{sums_small}
use Rattle.profile.proofs.sums.sums_fit.Goals as goal

pub returns : goal.returns
returns c = sums_small c.args.entry c.args.counts.now (omega arith) (omega arith) (λ i. omega (arith, c.type_inv.counts i))
