use Rattle.std.proofs.Common.{rules, ap, ◌∙◌, int_div, w64, FitsSigned}
use Rattle.std.proofs.lemmas.Int.{quot_is}
use Rattle.mc_num.specs.Value.{modulo}
use Rattle.mc_num.proofs.Signed.{no_overflow, quotient_in_word, signed_gives}
use Rattle.mc_num.proofs.value.signed_quotient.Goals as goal

pub returns-else-overflows : goal.returns-else-overflows
returns-else-overflows c =
    let a : FitsSigned w64 c.to_signed.result = search rules in
    let b : FitsSigned w64 c.to_signed-else-overflows.result = search rules in
    let q : FitsSigned w64 (int_div c.to_signed.result c.to_signed-else-overflows.result) = quotient_in_word c.to_signed.result c.to_signed-else-overflows.result a b (no_overflow c.args.width c.args.x c.args.y c.overflows.result c.to_signed.result c.to_signed-else-overflows.result c.requires.first c.requires.second c.overflows.ensures c.if-overflows.false c.to_signed.ensures c.to_signed-else-overflows.ensures) in
    let e = c.from_signed.ensures ∙ ap (modulo c.args.width) (quot_is w64 c.to_signed.result c.to_signed-else-overflows.result a b q) in
    signed_gives int_div c.args.width c.args.x c.args.y c.overflows.result c.to_signed.result c.to_signed-else-overflows.result c.from_signed.result c.if-y-eq0.false c.overflows.ensures c.if-overflows.false c.to_signed.ensures c.to_signed-else-overflows.ensures e
