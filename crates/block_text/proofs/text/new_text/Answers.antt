use Rattle.std.proofs.Common.{◌≡◌, Some, sym, ◌∙◌, subst}
use Rattle.std.proofs.lemmas.Result.{IfOk-weaker}
use Rattle.ir_types.specs.declared.syntax.Block.{Block}
use Rattle.block_text.specs.ByChanges.{Given, IsText}
use Rattle.block_text.specs.Texts.{IsNewText}
use Rattle.block_text.proofs.ByPlan.{new_text_is}
use Rattle.block_text.proofs.Registers.{instrs_below}
use Rattle.block_text.proofs.text.new_text.Goals as goal

pub block_text-requires : goal.block_text-requires
block_text-requires c = instrs_below c.args.table.now.module_of c.args.function.now c.requires.rules c.args.block c.block_at.result.now c.block_at.ensures

pub returns : goal.returns
returns c =
    let f = c.args.function.now in
    let exprs = c.args.table.now.exprs in
    let changes = c.args.changes.now in
    let b = c.args.block in
    let block = c.block_at.result.now in
    λ plan are.
    IfOk-weaker c.block_text.result (IsText c.source-source.result b block) _
    (λ new is old there.
    let blocks : Some block ≡ Some old = sym c.block_at.ensures ∙ there in
    let same : block ≡ old = cc in
    subst (λ (x : Block). IsNewText plan f b x new) same
    (new_text_is f exprs changes plan are b block new (subst (λ (g : Given). IsText g b block new) c.source-source.ensures is)))
    c.block_text.ensures
