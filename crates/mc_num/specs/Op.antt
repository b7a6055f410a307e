-- The shapes of operations.
use Rattle.std.specs.Prelude.{ℕ, ◌<◌, ◌≡◌, List, [], ◌∷◌}
use Rattle.mc_num.specs.declared.op.Width.{Width}
use Rattle.mc_num.specs.declared.op.Width.TheVariants.{I1, I8, I16, I32, I64}
use Rattle.mc_num.specs.declared.op.Cast.TheVariants.{Zext, Sext, Trunc, Bitcast}
use Rattle.mc_num.specs.declared.op.Op.{Op}
use Rattle.mc_num.specs.declared.op.Op.TheVariants.{Bin, Icmp, Cast, Select}

-- how many bits a width has
abbrev pub bits : Width → ℕ
bits I1 = 1
bits I8 = 8
bits I16 = 16
bits I32 = 32
bits I64 = 64

-- the widths of an operation's arguments, in order
abbrev pub argument_widths : Op → List Width
argument_widths (Bin _ w) = w ∷ w ∷ []
argument_widths (Icmp _ w) = w ∷ w ∷ []
argument_widths (Cast _ from _) = from ∷ []
argument_widths (Select w) = I1 ∷ w ∷ w ∷ []

-- the width of its value
abbrev pub result_width : Op → Width
result_width (Bin _ w) = w
result_width (Icmp _ _) = I1
result_width (Cast _ _ to) = to
result_width (Select w) = w

-- an extension grows the width, a truncation shrinks it, and a bitcast keeps it
abbrev pub IsWellFormedOp : Op → Type 0
IsWellFormedOp (Cast Zext from to) = bits from < bits to
IsWellFormedOp (Cast Sext from to) = bits from < bits to
IsWellFormedOp (Cast Trunc from to) = bits to < bits from
IsWellFormedOp (Cast Bitcast from to) = from ≡ to
IsWellFormedOp _ = Unit {0}
