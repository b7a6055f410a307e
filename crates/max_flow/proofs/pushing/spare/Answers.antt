use Rattle.std.proofs.Common.{arith}
use Rattle.flow_net.proofs.Loads.{load_read}
use Rattle.max_flow.proofs.pushing.spare.Goals as goal

pub overflow_sub-result : goal.overflow_sub-result
overflow_sub-result c =
    omega (arith, load_read c.args.net.now c.args.flow.now c.args.step.arc c.index.result.now c.index-amount.result.now c.requires.within c.requires.inside c.index.ensures c.index-amount.ensures)
