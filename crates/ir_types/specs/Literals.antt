-- The numbers that a width holds.
use Rattle.std.specs.Prelude.{ℕ, ℤ, pos, negsuc, ◌+◌, ◌-◌, ◌%◌, ◌^◌, nat_lt, Bool, Option, Some, None, if◌then◌else◌}
use Rattle.mc_num.specs.Op.{bits}
use Rattle.mc_num.specs.declared.op.Width.{Width}
use Rattle.ir_types.specs.declared.tree.RawValue.{RawValue}
use Rattle.ir_types.specs.declared.tree.RawValue.TheVariants.{Local, Number, Wide, Bool as BoolValue, Zero}

-- from -2^(w-1) to 2^w - 1, where negsuc n is -1 - n
abbrev pub is_in_range : Width → ℤ → Bool
is_in_range w (pos n) = nat_lt n (2 ^ bits w)
is_in_range w (negsuc n) = nat_lt n (2 ^ (bits w - 1))

-- a number modulo 2^w
abbrev pub residue : Width → ℤ → ℕ
residue w (pos n) = n % 2 ^ bits w
residue w (negsuc n) = 2 ^ bits w - (n % 2 ^ bits w + 1)

-- what a literal counts at a width, where it counts anything
abbrev pub literal_value : Width → RawValue → Option ℕ
literal_value w (Local _) = None
literal_value w (Number n) = Some (residue w n)
literal_value w Wide = None
literal_value w (BoolValue b) = Some (if b then 1 else 0)
literal_value w Zero = Some 0
