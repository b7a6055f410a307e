use Rattle.std.proofs.Common.{◌∙◌, ap, sym, subst, arith}
use Rattle.reduction.specs.Reduced.{AreNumbers}
use Rattle.reduction.proofs.ReducedLemmas.{few_kept, node_kept, node_left, nodes_none}
use Rattle.reduction.proofs.reducing.needed_nodes.Goals as goal
use Rattle.reduction.proofs.reducing.needed_nodes.Goals.{then-is_needed+in_ok-push+in_ok-push-2, else-is_needed+in_ok-push-3}

pub overflow_cast-len : goal.overflow_cast-len
overflow_cast-len c = omega (arith, few_kept c.args.reach.now c.loop-node.node c.loop-node.kept.items c.loop-node.numbers.items c.loop-node.invariant, c.len.ensures, c.loop-node.kept.ok.0)

pub loop-node-init : goal.loop-node-init
loop-node-init c = rw (c.new-kept.ensures.items, c.new-numbers.ensures.items) (nodes_none c.args.reach.now)

pub loop-node-preserved : goal.loop-node-preserved
loop-node-preserved c =
    elim c.if-is_needed.branch [
      | then-is_needed+in_ok-push+in_ok-push-2 w ↦
          node_kept c.args.reach.now c.loop-node.node c.loop-node.kept.items c.loop-node.numbers.items c.loop-node.invariant (sym c.is_needed.ensures ∙ w.if-is_needed.true) w.len.result (omega (arith, w.len.ensures, c.loop-node.kept.ok.0))
          c.if-is_needed.kept.items c.if-is_needed.numbers.items (ap (λ v. v.items) w.kept-is ∙ w.in_ok-push-2.ensures.items) (ap (λ v. v.items) w.numbers-is ∙ w.in_ok-push.ensures.items)
      | else-is_needed+in_ok-push-3 w ↦
          rw w.kept-is (node_left c.args.reach.now c.loop-node.node c.loop-node.kept.items c.loop-node.numbers.items c.loop-node.invariant (sym c.is_needed.ensures ∙ w.if-is_needed.false)
          c.if-is_needed.numbers.items (ap (λ v. v.items) w.numbers-is ∙ w.in_ok-push-3.ensures.items))
    ]

pub returns-clause-numbers : goal.returns-clause-numbers
returns-clause-numbers c = subst (λ n. AreNumbers c.args.reach.now n c.loop-node.kept.items c.loop-node.numbers.items) (omega (arith, c.loop-node-test.false, c.loop-node.auto.node-end)) c.loop-node.invariant

pub returns-clause-few : goal.returns-clause-few
returns-clause-few c = omega (arith, few_kept c.args.reach.now c.loop-node.node c.loop-node.kept.items c.loop-node.numbers.items c.loop-node.invariant, c.loop-node.auto.node-end)
