use Rattle.std.proofs.Common.{◌≡◌, arith, length}
use Rattle.std.proofs.lemmas.Bool.{false≢true}
use Rattle.flow_check.proofs.Adding.{balanced_from, unbalanced_from}
use Rattle.flow_check.proofs.flow.check_flow.Goals as goal

pub returns-in_err-node-clause-exact : goal.returns-in_err-node-clause-exact
returns-in_err-node-clause-exact c =
    let done = c.in_default.ensures in
    let long : length c.add_amounts.new.sums ≡ c.args.net.now.nodes = omega arith in
    rw c.from_residual.ensures (done.0, balanced_from c.args.net.now c.args.flow.now c.add_amounts.new.sums long done.1 c.in_err-node.ensures)

pub returns-clause-exact : goal.returns-clause-exact
returns-clause-exact c =
    let done = c.in_default.ensures in
    let long : length c.add_amounts.new.sums ≡ c.args.net.now.nodes = omega arith in (
      (λ h. absurd (false≢true h)),
      (λ h. (done.0, unbalanced_from c.args.net.now c.args.flow.now c.add_amounts.new.sums c.in_ok-node.node long done.1 c.in_ok-node.ensures)),
    )
