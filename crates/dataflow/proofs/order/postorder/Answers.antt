use Rattle.std.proofs.Common.{◌∙◌, arith, ap, length, false, subst}
use Rattle.std.proofs.lemmas.List.{length-map, length-replicate}
use Rattle.dataflow.specs.FixedPoints.{ends_from}
use Rattle.dataflow.specs.Walks.{IsFlagged}
use Rattle.dataflow.proofs.Walks.{Walking-start, not_flagged}
use Rattle.dataflow.proofs.order.postorder.Goals as goal

pub loop-node-init : goal.loop-node-init
loop-node-init c = record {
  len = ap length c.in_ok-entered.ensures ∙ length-replicate c.args.graph.now.nodes false;
  walking = Walking-start c.args.graph.now.arcs.items c.args.graph.now.nodes c.in_ok-entered.entered.items _ c.new.result.items c.new-2.result.items c.requires c.in_ok-entered.ensures
      (omega (arith, c.in_ok-ends.ensures.each, c.in_ok-ends.ends.ok.0, length-map c.in_ok-ends.ends.items (λ list. list.items)))
      (λ n h. c.in_ok-ends.ensures.ends n h ∙ ap (λ arcs. ends_from arcs n) c.deref.ensures.value)
      c.new.ensures.items c.new-2.ensures.items;
  entered = λ n h. absurd (omega (arith, h));
  left = λ n e. absurd (not_flagged c.args.graph.now.nodes n (subst (λ flags. IsFlagged flags n) c.in_ok-entered.ensures e));
}

pub returns-clause-each : goal.returns-clause-each
returns-clause-each c n h = rw c.into_order.ensures (c.loop-node.invariant.left n (c.loop-node.invariant.entered n (omega (arith, h, c.loop-node-test.false, c.loop-node.auto.node-end))))
