use Rattle.std.proofs.Common.{◌≡◌, ℕ, ◌+◌, ◌*◌, ◌^◌, ◌-◌, ◌∙◌, take, min, arith}
use Rattle.std.specs.Str.Parse.{digits_value}
use Rattle.std.proofs.lemmas.Int.Digits.{digits_value_more}
use Rattle.profile.proofs.numbers.value_of.Goals as goal

one_digit_more : (value number product digit sum cap : ℕ) → number ≡ min value cap → product ≡ min (number * 10) cap → sum ≡ min (product + digit) cap → sum ≡ min (value * 10 + digit) cap
one_digit_more value number product digit sum cap e f g = omega arith

pub loop-digit-preserved : goal.loop-digit-preserved
loop-digit-preserved c =
    rw (digits_value_more 10 c.args.digits.now c.loop-digit.digit-index c.loop-digit-test.true, ← (c.from.ensures ∙ c.digit_value.ensures))
    (one_digit_more (digits_value 10 (take c.loop-digit.digit-index c.args.digits.now)) c.loop-digit.value c.saturating_mul.result c.from.result c.saturating_add-value.result (2 ^ 128 - 1) c.loop-digit.invariant c.saturating_mul.ensures c.saturating_add-value.ensures)
