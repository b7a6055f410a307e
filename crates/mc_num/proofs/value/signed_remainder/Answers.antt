use Rattle.std.proofs.Common.{rules, ap, ◌∙◌, int_rem, w64, FitsSigned}
use Rattle.std.proofs.lemmas.Int.{rem_is}
use Rattle.mc_num.specs.Value.{modulo}
use Rattle.mc_num.proofs.Signed.{signed_gives}
use Rattle.mc_num.proofs.value.signed_remainder.Goals as goal

pub returns-else-overflows : goal.returns-else-overflows
returns-else-overflows c =
    let a : FitsSigned w64 c.to_signed.result = search rules in
    let b : FitsSigned w64 c.to_signed-else-overflows.result = search rules in
    let e = c.from_signed.ensures ∙ ap (modulo c.args.width) (rem_is w64 c.to_signed.result c.to_signed-else-overflows.result a b) in
    signed_gives int_rem c.args.width c.args.x c.args.y c.overflows.result c.to_signed.result c.to_signed-else-overflows.result c.from_signed.result c.if-y-eq0.false c.overflows.ensures c.if-overflows.false c.to_signed.ensures c.to_signed-else-overflows.ensures e
