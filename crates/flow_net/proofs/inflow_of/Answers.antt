use Rattle.std.proofs.Common.{◌==◌, ◌∙◌, arith, eq-eqb}
use Rattle.std.proofs.lemmas.Bool.{ne_eqb}
use Rattle.flow_net.specs.declared.Arc.{Arc}
use Rattle.flow_net.proofs.Loads.{step_yes, step_no, step_fits, step_all, amount_fits}
use Rattle.flow_net.proofs.inflow_of.Goals as goal
use Rattle.flow_net.proofs.inflow_of.Goals.{then-arc-node, else-arc-node}

pub overflow_add-sum : goal.overflow_add-sum
overflow_add-sum c =
    let same = c.deref-arc-items.ensures.value in
    let fits = step_fits c.args.net.now c.args.flow.now (λ (a : Arc). a.to == c.args.node) c.loop-index.index _ c.index.result.now c.requires.valid c.requires.within
    (rw same at c.loop-index-test.true) (eq-eqb _ _ (rw same at c.if-arc-node.true)) c.index.ensures in
    omega (arith, fits, c.loop-index.invariant)

pub loop-index-preserved : goal.loop-index-preserved
loop-index-preserved c =
    let same = c.deref-arc-items.ensures.value in
    elim c.if-arc-node.branch [
      | then-arc-node w ↦
          (let more = step_yes c.args.net.now c.args.flow.now (λ (a : Arc). a.to == c.args.node) c.loop-index.index _ w.index.result.now c.requires.within
          (rw same at c.loop-index-test.true) (eq-eqb _ _ (rw same at w.if-arc-node.true)) w.index.ensures in
          omega (arith, more, c.loop-index.invariant))
      | else-arc-node w ↦
          (let more = step_no c.args.net.now c.args.flow.now (λ (a : Arc). a.to == c.args.node) c.loop-index.index _ c.requires.within
          (rw same at c.loop-index-test.true) (ne_eqb _ _ (rw same at w.if-arc-node.false)) in
          omega (arith, more, c.loop-index.invariant))
    ]

pub returns-clause-sum : goal.returns-clause-sum
returns-clause-sum c =
    c.loop-index.invariant
    ∙ step_all c.args.net.now c.args.flow.now (λ (a : Arc). a.to == c.args.node) c.loop-index.index c.requires.within (rw c.deref-arc-items.ensures.value at c.loop-index-test.false)

pub returns-clause-small : goal.returns-clause-small
returns-clause-small c =
    omega (arith, amount_fits c.args.net.now c.args.flow.now (λ (a : Arc). a.to == c.args.node) c.requires.valid c.requires.within, returns-clause-sum c)
