-- What the rules of a module say of each instruction and terminator.
use Rattle.std.proofs.Common.{◌≡◌, ℕ, zero, suc, ◌<◌, ◌≤◌, List, [], ◌∷◌, length, map, take, Option, Some, None, refl, sym, ap, subst, arith}
use Rattle.std.specs.Prelude.{slice_get, All, IsSome, is_some, IsSomeAnd, option_and_then}
use Rattle.std.specs.List.{AllZip}
use Rattle.std.proofs.lemmas.Option.{slice_get_within}
use Rattle.mc_num.specs.Op.{argument_widths}
use Rattle.mc_num.specs.declared.op.Width.{Width}
use Rattle.mc_num.specs.declared.op.Width.TheVariants.{I1}
use Rattle.ir_types.specs.Program.{Program}
use Rattle.ir_types.specs.WellFormed.{Scope, scope, widths, variable_width, given_by, Signature, HasWidth, Fits, Ends, targets, IsBlockIn, IsFunctionIn, IsWellFormed}
use Rattle.ir_types.specs.declared.syntax.Operand.{Operand}
use Rattle.ir_types.specs.declared.syntax.Operand.TheVariants.{Const, Param, Reg}
use Rattle.ir_types.specs.declared.syntax.Variable.{Variable}
use Rattle.ir_types.specs.declared.syntax.Variable.TheVariants.{Local, Global}
use Rattle.ir_types.specs.declared.syntax.Kind.{Kind}
use Rattle.ir_types.specs.declared.syntax.Kind.TheVariants.{Load, Store, Compute, Call}
use Rattle.ir_types.specs.declared.syntax.Instr.{Instr}
use Rattle.ir_types.specs.declared.syntax.Terminator.{Terminator}
use Rattle.ir_types.specs.declared.syntax.Terminator.TheVariants.{Return, Jump, Branch, Switch, Unreachable}
use Rattle.ir_types.specs.declared.syntax.Block.{Block}
use Rattle.ir_types.specs.declared.syntax.Function.{Function}
use Rattle.applied.specs.Motion.{slot_target}

-- an operand of the instruction k reads what came before it
abbrev pub IsEarlier : ℕ → Operand → Type 0
IsEarlier k (Const value) = Unit {0}
IsEarlier k (Param p) = Unit {0}
IsEarlier k (Reg r) = r < k

abbrev pub AreEarlier : ℕ → List Operand → Type 0
AreEarlier k [] = Unit {0}
AreEarlier k (operand ∷ operands) = IsEarlier k operand × AreEarlier k operands

-- a variable of a function with so many
abbrev pub VariableWithin : ℕ → Variable → Type 0
VariableWithin vars (Local v) = v < vars
VariableWithin vars (Global g) = Unit {0}

-- an instruction that fits at the place k of a function with so many variables
abbrev pub KindFits : ℕ → ℕ → Kind → Type 0
KindFits k vars (Load v) = VariableWithin vars v
KindFits k vars (Store operand v) = IsEarlier k operand × VariableWithin vars v
KindFits k vars (Compute op operands) = AreEarlier k operands × (length operands ≡ length (argument_widths op))
KindFits k vars (Call callee operands) = AreEarlier k operands

abbrev pub EndFits : ℕ → Terminator → Type 0
EndFits k (Return None) = Unit {0}
EndFits k (Return (Some operand)) = IsEarlier k operand
EndFits k (Jump target) = Unit {0}
EndFits k (Branch condition then_block else_block) = IsEarlier k condition
EndFits k (Switch width operand other cases) = IsEarlier k operand
EndFits k Unreachable = Unit {0}

pub record FunctionFits (function : Function) : Type 0 where
  pub instrs : (b k : ℕ) (block : Block) (instr : Instr) → slice_get function.blocks b ≡ Some block → slice_get block.instrs k ≡ Some instr → KindFits k (length function.vars) instr.kind
  pub terms : (b : ℕ) (block : Block) → slice_get function.blocks b ≡ Some block → EndFits (length block.instrs) block.term
  pub targets : (b slot target : ℕ) (block : Block) → slice_get function.blocks b ≡ Some block → slot_target block.term slot ≡ Some target → (0 < target) × (target < length function.blocks)

pub all_at : {X : Type 0} (P : X → Type 0) (xs : List X) (k : ℕ) (x : X) → All P xs → slice_get xs k ≡ Some x → P x
all_at P [] k x all e = absurd cc
all_at P (y ∷ ys) zero x all e = let same : y ≡ x = cc in subst P same (all zero y (omega arith))
all_at P (y ∷ ys) (suc k) x all e = all_at P ys k x (λ j d lt. all (suc j) d (omega (arith, lt))) e

length_take : {X : Type 0} (k : ℕ) (xs : List X) → length (take k xs) ≤ k
length_take zero xs = omega arith
length_take (suc k) [] = omega arith
length_take (suc k) (x ∷ xs) = omega (arith, length_take k xs)

earlier_by : (s : Scope) (w : Width) (before : List Instr) (r : ℕ) (found : Option Instr) → slice_get before r ≡ found → option_and_then (λ i. given_by s i.kind) found ≡ Some w → r < length before
earlier_by s w before r None e is = absurd cc
earlier_by s w before r (Some instr) e is = slice_get_within before r instr e

is_earlier : (s : Scope) (before : List Instr) (w : Width) (n : ℕ) (operand : Operand) → length before ≤ n → HasWidth s before w operand → IsEarlier n operand
is_earlier s before w n (Const value) le fits = tt
is_earlier s before w n (Param p) le fits = tt
is_earlier s before w n (Reg r) le fits = omega (arith, le, earlier_by s w before r _ refl fits)

are_earlier : (s : Scope) (before : List Instr) (n : ℕ) → length before ≤ n → (ws : List Width) (operands : List Operand) → AllZip (HasWidth s before) ws operands → AreEarlier n operands
are_earlier s before n le ws [] fits = tt
are_earlier s before n le [] (operand ∷ operands) fits = absurd fits
are_earlier s before n le (w ∷ ws) (operand ∷ operands) fits = (is_earlier s before w n operand le fits.0, are_earlier s before n le ws operands fits.1)

length_widths : {N : Type 0} (xs : List (Width × N)) → length (map (λ x. x.0) xs) ≡ length xs
length_widths [] = refl
length_widths (x ∷ xs) = ap suc (length_widths xs)

some_within : (ws : List Width) (v : ℕ) → IsSome (slice_get ws v) → v < length ws
some_within [] v is = absurd cc
some_within (w ∷ ws) zero is = omega arith
some_within (w ∷ ws) (suc v) is = omega (arith, some_within ws v is)

pub length_zip : {A B : Type 0} (R : A → B → Type 0) (xs : List A) (ys : List B) → AllZip R xs ys → length xs ≡ length ys
length_zip R [] [] all = refl
length_zip R (x ∷ xs) (y ∷ ys) all = ap suc (length_zip R xs ys all.1)
length_zip R [] (y ∷ ys) all = absurd all
length_zip R (x ∷ xs) [] all = absurd all

module _ (m : Program) (function : Function) where
  abbrev s : Scope
  s = scope m function

  abbrev vars : ℕ
  vars = length function.vars

  variable_within : (v : Variable) → IsSome (variable_width s v) → VariableWithin vars v
  variable_within (Local v) is = omega (arith, some_within (widths function.vars) v is, length_widths function.vars)
  variable_within (Global g) is = tt

  stored_fits : (n : ℕ) (before : List Instr) (operand : Operand) (v : Variable) → length before ≤ n → (found : Option Width) → variable_width s v ≡ found → IsSomeAnd found (λ w. HasWidth s before w operand) → IsEarlier n operand × VariableWithin vars v
  stored_fits n before operand v le None e is = absurd is
  stored_fits n before operand v le (Some w) e is = (is_earlier s before w n operand le is, variable_within v (ap is_some e))

  call_fits : (n : ℕ) (before : List Instr) (operands : List Operand) → length before ≤ n → (found : Option Signature) → IsSomeAnd found (λ g. AllZip (HasWidth s before) g.params operands) → AreEarlier n operands
  call_fits n before operands le None is = absurd is
  call_fits n before operands le (Some g) is = are_earlier s before n le g.params operands is

  kind_fits : (n : ℕ) (before : List Instr) (kind : Kind) → length before ≤ n → Fits s before kind → KindFits n vars kind
  kind_fits n before (Load v) le fits = variable_within v fits
  kind_fits n before (Store operand v) le fits = stored_fits n before operand v le _ refl fits
  kind_fits n before (Compute op operands) le fits = (are_earlier s before n le (argument_widths op) operands fits.operands_fit, sym (length_zip (HasWidth s before) (argument_widths op) operands fits.operands_fit))
  kind_fits n before (Call callee operands) le fits = call_fits n before operands le _ fits

  returned_fits : (n : ℕ) (before : List Instr) (operand : Operand) → length before ≤ n → (found : Option Width) → IsSomeAnd found (λ w. HasWidth s before w operand) → IsEarlier n operand
  returned_fits n before operand le None is = absurd is
  returned_fits n before operand le (Some w) is = is_earlier s before w n operand le is

  term_fits : (instrs : List Instr) (term : Terminator) → Ends s instrs term → EndFits (length instrs) term
  term_fits instrs (Return None) ends = tt
  term_fits instrs (Return (Some operand)) ends = returned_fits (length instrs) instrs operand (omega arith) _ ends
  term_fits instrs (Jump target) ends = tt
  term_fits instrs (Branch condition a b) ends = is_earlier s instrs I1 (length instrs) condition (omega arith) ends
  term_fits instrs (Switch width operand other cases) ends = is_earlier s instrs width (length instrs) operand (omega arith) ends.0
  term_fits instrs Unreachable ends = tt

-- each function of a module that breaks no rule
pub function_fits : (m : Program) → IsWellFormed m → (i : ℕ) (function : Function) → slice_get m.functions i ≡ Some function → FunctionFits function
function_fits m rules i function there =
    let keeps = all_at (IsFunctionIn m) m.functions i function rules.functions there in
    let block_in = λ (b : ℕ) (block : Block) (e : slice_get function.blocks b ≡ Some block). all_at (IsBlockIn (scope m function)) function.blocks b block keeps.blocks e in
    record {
      instrs = λ b k block instr e e'. kind_fits m function k (take k block.instrs) instr.kind (length_take k block.instrs) ((block_in b block e).fits k instr e');
      terms = λ b block e. term_fits m function block.instrs block.term (block_in b block e).ends;
      targets = λ b slot target block e leads. all_at (λ t. (0 < t) × (t < length function.blocks)) (targets block.term) slot target (block_in b block e).targets_exist leads;
    }
