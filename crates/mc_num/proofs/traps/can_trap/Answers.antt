use Rattle.mc_num.proofs.Trapping.{traps_exactly}
use Rattle.mc_num.proofs.traps.can_trap.Goals as goal

pub returns-clause-exact : goal.returns-clause-exact
returns-clause-exact c = traps_exactly c.args.op c.args.divisor c.is_trapping.result c.requires.fits c.is_trapping.ensures
