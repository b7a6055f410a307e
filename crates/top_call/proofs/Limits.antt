-- The number of steps that a word gives.
use Rattle.std.proofs.Common.{◌≡◌, ℕ, ◌+◌, ◌*◌, min, arith}

-- one digit more, cut off at the greatest number
pub one_digit_more : (value number product digit sum cap : ℕ) → number ≡ min value cap → product ≡ min (number * 10) cap → sum ≡ min (product + digit) cap → sum ≡ min (value * 10 + digit) cap
one_digit_more value number product digit sum cap e f g = omega arith
