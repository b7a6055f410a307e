use Rattle.mc_solve.proofs.Amounts.{SpreadsTo}
use Rattle.mc_solve.proofs.flows.spread.Given as goal

abbrev pub invariant-loop-index : goal.invariant-loop-index
invariant-loop-index l = SpreadsTo l.count l.arc_of l.amounts l.index l.whole.items
