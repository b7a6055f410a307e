use Rattle.std.proofs.Common.{◌^◌, ◌-◌, ◌∙◌, take}
use Rattle.std.specs.Str.Parse.{digits_value}
use Rattle.std.proofs.lemmas.Int.Digits.{digits_value_more}
use Rattle.fresh_prefix.proofs.Texts.{one_digit_more}
use Rattle.fresh_prefix.proofs.reading.number.Goals as goal

pub loop-digit-preserved : goal.loop-digit-preserved
loop-digit-preserved c =
    rw (digits_value_more 10 c.args.digits.now c.loop-digit.digit-index c.loop-digit-test.true, ← (c.from.ensures ∙ c.digit_value.ensures))
    (one_digit_more (digits_value 10 (take c.loop-digit.digit-index c.args.digits.now)) c.loop-digit.number c.saturating_mul.result c.from.result c.saturating_add-number.result (2 ^ 64 - 1) c.loop-digit.invariant c.saturating_mul.ensures c.saturating_add-number.ensures)
