use Rattle.std.proofs.Common.{◌==◌, arith}
use Rattle.flow_net.proofs.Loads.{amount_fits}
use Rattle.entry_check.proofs.proof.cost_and_sum.Goals as goal

pub overflow_add-sum : goal.overflow_add-sum
overflow_add-sum c =
    let small = amount_fits c.args.full.now.net c.args.flow.now (λ a. a.from == 0) c.requires.valid c.requires.within in
    omega (arith, small, c.value.ensures, c.requires.bounded)
