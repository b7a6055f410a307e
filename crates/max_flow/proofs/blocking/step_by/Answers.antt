use Rattle.std.proofs.Common.{arith}
use Rattle.flow_net.proofs.Loads.{load_read}
use Rattle.max_flow.proofs.Find.{nowhere_here}
use Rattle.max_flow.proofs.blocking.step_by.Goals as goal
use Rattle.max_flow.proofs.blocking.step_by.Goals.{else-arc-node-via-then-arc-node+then-amount-arc+else-leads_on, else-arc-node-via-then-arc-node+else-amount-arc, else-arc-node-via-else-arc-node}
use Rattle.max_flow.proofs.blocking.step_by.Goals.{else-arc-node-2-via-then-arc-node-2+then-amount-gt0+else-leads_on-2, else-arc-node-2-via-then-arc-node-2+else-amount-gt0, else-arc-node-2-via-else-arc-node-2}

pub returns-clause-none : goal.returns-clause-none
returns-clause-none c =
    let read = load_read c.args.net.now c.args.flow.now c.args.index c.index-arc.result.now c.index-amount.result.now c.requires.within c.requires.index c.index-arc.ensures c.index-amount.ensures in
    nowhere_here c.args.net.now c.args.flow.now c.args.found.now c.args.dead.now c.args.node c.args.index c.index-arc.result.now c.index-amount.result.now c.requires.within c.requires.index read.0
    (λ from less nearer. elim c.else-arc-node.branch [
      | else-arc-node-via-then-arc-node+then-amount-arc+else-leads_on w ↦ w.leads_on.ensures.no w.if-leads_on.false nearer
      | else-arc-node-via-then-arc-node+else-amount-arc w ↦ absurd (omega arith)
      | else-arc-node-via-else-arc-node w ↦ absurd (w.if-arc-node.false from)
    ])
    (λ to some nearer. elim c.else-arc-node-2.branch [
      | else-arc-node-2-via-then-arc-node-2+then-amount-gt0+else-leads_on-2 w ↦ w.leads_on-then-amount-gt0.ensures.no w.if-leads_on-2.false nearer
      | else-arc-node-2-via-then-arc-node-2+else-amount-gt0 w ↦ absurd (omega arith)
      | else-arc-node-2-via-else-arc-node-2 w ↦ absurd (w.if-arc-node-2.false to)
    ])
