-- When variables were last changed, by the numbers of points, and that this tells what a register stands for.
use Rattle.std.specs.Prelude.{◌≡◌, ℕ, ◌+◌, ◌<◌, ◌≤◌, ◌&&◌, ◌||◌, not, nat_le, Bool, List, [], Option, Some, None, length, take, drop, slice_get, if◌then◌else◌, option_and_then}
use Rattle.std.specs.List.{list_any}
use Rattle.std.specs.Map.{lookup}
use Rattle.std.specs.Option.{unwrap_or}
use Rattle.ir_types.specs.Program.{Program}
use Rattle.ir_types.specs.declared.syntax.Operand.{Operand}
use Rattle.ir_types.specs.declared.syntax.Operand.TheVariants as operands
use Rattle.ir_types.specs.declared.syntax.Variable.{Variable}
use Rattle.ir_types.specs.declared.syntax.Kind.{Kind}
use Rattle.ir_types.specs.declared.syntax.Kind.TheVariants.{Load}
use Rattle.ir_types.specs.declared.syntax.Instr.{Instr}
use Rattle.expressions.specs.declared.syntax.Arg.{Arg}
use Rattle.expressions.specs.declared.syntax.Arg.TheVariants.{Const, Param, Var}
use Rattle.expressions.specs.Expressions.{changes, is_global, is_same_variable}

-- the last store to each variable that has one, and the last call of a defined function; 0 where there is none
pub record Tracked : Type 0 where
  pub stores : List (Variable × ℕ)
  pub call : ℕ

abbrev pub untouched : Tracked
untouched = record { stores = []; call = 0 }

abbrev pub last_store : Tracked → Variable → ℕ
last_store s v = unwrap_or (lookup (is_same_variable v) s.stores) 0

-- nothing may have changed the variable behind this point
abbrev pub is_current : Tracked → Variable → ℕ → Bool
is_current s v point = nat_le (last_store s v) point && (nat_le s.call point || not (is_global v))

-- all of it was at this point or before
pub record IsUpTo (s : Tracked) (point : ℕ) : Type 0 where
  pub stores : (v : Variable) → last_store s v ≤ point
  pub call : s.call ≤ point

-- an instruction that does this stands at the point
pub record Passed (m : Program) (kind : Kind) (point : ℕ) (old new : Tracked) : Type 0 where
  pub before : (v : Variable) (n : ℕ) → n < point → is_current new v n ≡ is_current old v n && not (changes m v kind)

-- it tells of each register of these instructions, the first of which is at this point, whether its variable may have changed since
pub record Tracks (m : Program) (before : List Instr) (first : ℕ) (s : Tracked) : Type 0 where
  pub up_to : IsUpTo s (first + length before)
  pub exact : (v : Variable) (r : ℕ) → r < length before → is_current s v (first + r) ≡ not (list_any (λ i. changes m v i.kind) (drop (r + 1) before))

-- what a register stands for by it, and what an operand does
abbrev pub loaded_now : Tracked → Kind → ℕ → Option Arg
loaded_now s (Load v) point = if is_current s v point then Some (Var v) else None
loaded_now s _ point = None

abbrev pub arg_now : Tracked → ℕ → List Instr → Operand → Option Arg
arg_now s first before (operands.Const value) = Some (Const value)
arg_now s first before (operands.Param p) = Some (Param p)
arg_now s first before (operands.Reg r) = option_and_then (λ i. loaded_now s i.kind (first + r)) (slice_get before r)
