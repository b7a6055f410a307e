use Rattle.std.proofs.Common.{◌≤◌, [], ◌∷◌, length, ◌∙◌, arith}
use Rattle.ir_types.specs.declared.name.Name.TheVariants.{Number}
use Rattle.ir_uses.proofs.Steps.{more, ended}
use Rattle.ir_check.proofs.Steps.{numbered_from-step, numbered_from-end}
use Rattle.ir_check.proofs.functions.numbered.Goals as goal

pub loop-index-preserved : goal.loop-index-preserved
loop-index-preserved c =
    let step = numbered_from-step c.loop-index.index c.args.params.now c.index-params-index.result c.loop-index-test.true c.index-params-index.is in
    more c.loop-index.made.items ((c.index-params-index.result.width, Number c.loop-index.index) ∷ []) _ _ _ _ c.in_ok-push.ensures.items step c.loop-index.invariant

pub returns : goal.returns
returns c =
    let h : length c.args.params.now ≤ c.loop-index.index = omega arith in
    c.from.ensures ∙ ended c.loop-index.made.items _ _ (numbered_from-end c.loop-index.index c.args.params.now h) c.loop-index.invariant
