-- The operations of a module exist, and their divisors fit.
use Rattle.std.proofs.Common.{◌≡◌, ℕ, zero, suc, ◌+◌, ◌<◌, ◌^◌, Bool, true, false, List, [], ◌∷◌, length, take, get_or, Option, Some, None, refl, sym, ap, ◌∙◌, subst, arith}
use Rattle.std.specs.Prelude.{slice_get, All, option_and_then, if◌then◌else◌}
use Rattle.std.specs.List.{AllZip}
use Rattle.std.specs.Option.{option_map, option_map_or}
use Rattle.std.proofs.lemmas.Option.{slice_get_within, slice_get-get_or, get_or_from_slice_get}
use Rattle.mc_num.specs.Op.{IsWellFormedOp, argument_widths, bits}
use Rattle.mc_num.specs.Value.{DivisorFits}
use Rattle.mc_num.specs.declared.op.Width.{Width}
use Rattle.mc_num.specs.declared.op.Bin.{Bin as BinOp}
use Rattle.mc_num.specs.declared.op.Bin.TheVariants.{Add, Sub, Mul, UDiv, SDiv, URem, SRem, Shl, LShr, AShr, And, Or, Xor}
use Rattle.mc_num.specs.declared.op.Op.{Op}
use Rattle.mc_num.specs.declared.op.Op.TheVariants.{Bin, Icmp, Cast, Select}
use Rattle.ir_types.specs.Program.{Program}
use Rattle.ir_types.specs.WellFormed.{Scope, scope, HasWidth, IsOperation, Fits, IsBlockIn, IsFunctionIn}
use Rattle.ir_types.specs.declared.syntax.Operand.{Operand}
use Rattle.ir_types.specs.declared.syntax.Operand.TheVariants.{Const, Param, Reg}
use Rattle.ir_types.specs.declared.syntax.Variable.{Variable}
use Rattle.ir_types.specs.declared.syntax.Kind.{Kind}
use Rattle.ir_types.specs.declared.syntax.Kind.TheVariants.{Load, Store, Compute, Call}
use Rattle.ir_types.specs.declared.syntax.Instr.{Instr}
use Rattle.ir_types.specs.declared.syntax.Block.{Block}
use Rattle.ir_types.specs.declared.syntax.Function.{Function}
use Rattle.expressions.specs.declared.syntax.Arg.{Arg}
use Rattle.expressions.specs.declared.syntax.Arg.TheVariants as args
use Rattle.expressions.specs.declared.syntax.Expr.{Expr}
use Rattle.expressions.specs.Expressions.{constant_operand, constant_arg, divisor, each_some, expr_by, instr_at}
use Rattle.expressions.specs.Kept.{IsSound}
use Rattle.expressions.specs.Tracking.{Tracked, arg_now, is_current, loaded_now}
use Rattle.expressions.specs.Walking.{IsSoundKind, AreSoundInstrs, IsSoundIfAny}

-- ---- from the rules

bin_fits : (bin : BinOp) (w : Width) (value : ℕ) → value < 2 ^ bits w → DivisorFits (Bin bin w) (Some value)
bin_fits UDiv w value h = h
bin_fits URem w value h = h
bin_fits SDiv w value h = h
bin_fits SRem w value h = h
bin_fits Add w value h = tt
bin_fits Sub w value h = tt
bin_fits Mul w value h = tt
bin_fits Shl w value h = tt
bin_fits LShr w value h = tt
bin_fits AShr w value h = tt
bin_fits And w value h = tt
bin_fits Or w value h = tt
bin_fits Xor w value h = tt

bin_unknown : (bin : BinOp) (w : Width) → DivisorFits (Bin bin w) None
bin_unknown UDiv w = tt
bin_unknown URem w = tt
bin_unknown SDiv w = tt
bin_unknown SRem w = tt
bin_unknown Add w = tt
bin_unknown Sub w = tt
bin_unknown Mul w = tt
bin_unknown Shl w = tt
bin_unknown LShr w = tt
bin_unknown AShr w = tt
bin_unknown And w = tt
bin_unknown Or w = tt
bin_unknown Xor w = tt

second_fits : (s : Scope) (before : List Instr) (bin : BinOp) (w : Width) (operand : Operand) → HasWidth s before w operand → DivisorFits (Bin bin w) (constant_operand (Some operand))
second_fits s before bin w (Const value) h = bin_fits bin w value h
second_fits s before bin w (Param p) h = bin_unknown bin w
second_fits s before bin w (Reg r) h = bin_unknown bin w

operands_fit : (s : Scope) (before : List Instr) (op : Op) (operands : List Operand) → AllZip (HasWidth s before) (argument_widths op) operands → DivisorFits op (constant_operand (slice_get operands 1))
operands_fit s before (Bin bin w) [] h = absurd h
operands_fit s before (Bin bin w) (a ∷ []) h = absurd h.1
operands_fit s before (Bin bin w) (a ∷ b ∷ rest) h = second_fits s before bin w b h.1.0
operands_fit s before (Icmp pred w) operands h = tt
operands_fit s before (Cast cast from to) operands h = tt
operands_fit s before (Select w) operands h = tt

kind_sound : (s : Scope) (before : List Instr) (kind : Kind) → Fits s before kind → IsSoundKind kind
kind_sound s before (Load v) fits = tt
kind_sound s before (Store operand v) fits = tt
kind_sound s before (Compute op operands) fits = (fits.exists, operands_fit s before op operands fits.operands_fit)
kind_sound s before (Call callee arguments) fits = tt

pub block_sound : (m : Program) (f : Function) → IsFunctionIn m f → (b : ℕ) (block : Block) → slice_get f.blocks b ≡ Some block → AreSoundInstrs block.instrs
block_sound m f rules b block there k d lt =
    let here : IsBlockIn (scope m f) block =
    subst (IsBlockIn (scope m f)) (get_or_from_slice_get f.blocks b block block there) (rules.blocks b block (slice_get_within f.blocks b block there)) in
    kind_sound (scope m f) (take k block.instrs) (get_or block.instrs k d).kind (here.fits k (get_or block.instrs k d) (slice_get-get_or block.instrs k d lt))

sound_in : (m : Program) (f : Function) → IsFunctionIn m f → (b k : ℕ) (i : Instr) (found : Option Block) → slice_get f.blocks b ≡ found → option_and_then (λ block. slice_get block.instrs k) found ≡ Some i → IsSoundKind i.kind
sound_in m f rules b k i None there e = absurd cc
sound_in m f rules b k i (Some block) there e =
    subst (λ (j : Instr). IsSoundKind j.kind) (get_or_from_slice_get block.instrs k i i e) (block_sound m f rules b block there k i (slice_get_within block.instrs k i e))

pub instr_sound : (m : Program) (f : Function) → IsFunctionIn m f → (b k : ℕ) (i : Instr) → instr_at f b k ≡ Some i → IsSoundKind i.kind
instr_sound m f rules b k i e = sound_in m f rules b k i (slice_get f.blocks b) refl e

-- ---- of expressions

some_by : {A B : Type 0} (g : A → Option B) (xs : List A) (y : Option B) (rest : Option (List B)) (x : A) (ys : List B) → g x ≡ y → each_some g xs ≡ rest
    → option_and_then (λ y. option_map (λ ys. y ∷ ys) rest) y ≡ Some ys → ((zs : List B) → each_some g xs ≡ Some zs → (i : ℕ) → slice_get zs i ≡ option_and_then g (slice_get xs i))
    → (i : ℕ) → slice_get ys i ≡ option_and_then g (slice_get (x ∷ xs) i)
some_by g xs None rest x ys e f h each i = absurd cc
some_by g xs (Some y) None x ys e f h each i = absurd cc
some_by g xs (Some y) (Some zs) x ys e f h each zero =
    let same : y ∷ zs ≡ ys = cc in ap (λ l. slice_get l 0) (sym same) ∙ sym e
some_by g xs (Some y) (Some zs) x ys e f h each (suc i) =
    let same : y ∷ zs ≡ ys = cc in ap (λ l. slice_get l (suc i)) (sym same) ∙ each zs f i

-- each has what stands for the element at its place
each_some-get : {A B : Type 0} (g : A → Option B) (xs : List A) (ys : List B) → each_some g xs ≡ Some ys → (i : ℕ) → slice_get ys i ≡ option_and_then g (slice_get xs i)
each_some-get g [] ys h i = let same : [] ≡ ys = cc in ap (λ l. slice_get l i) (sym same)
each_some-get g (x ∷ xs) ys h i = some_by g xs (g x) (each_some g xs) x ys refl refl h (λ zs. each_some-get g xs zs) i

module _ (s : Tracked) (first : ℕ) (before : List Instr) where
  now_unknown : (b : Bool) (v : Variable) → constant_arg (if b then Some (args.Var v) else None) ≡ None
  now_unknown true v = refl
  now_unknown false v = refl

  load_unknown : (kind : Kind) (point : ℕ) → constant_arg (loaded_now s kind point) ≡ None
  load_unknown (Load v) point = now_unknown (is_current s v point) v
  load_unknown (Store operand v) point = refl
  load_unknown (Compute op operands) point = refl
  load_unknown (Call callee arguments) point = refl

  register_unknown : (r : ℕ) (found : Option Instr) → constant_arg (option_and_then (λ i. loaded_now s i.kind (first + r)) found) ≡ None
  register_unknown r None = refl
  register_unknown r (Some i) = load_unknown i.kind (first + r)

  constant_same : (operand : Option Operand) → constant_arg (option_and_then (arg_now s first before) operand) ≡ constant_operand operand
  constant_same None = refl
  constant_same (Some (Const value)) = refl
  constant_same (Some (Param p)) = refl
  constant_same (Some (Reg r)) = register_unknown r (slice_get before r)

  operation_sound : (op : Op) (operands : List Operand) (args : Option (List Arg)) → each_some (arg_now s first before) operands ≡ args → IsSoundKind (Compute op operands)
      → IsSoundIfAny (option_map (λ list. record { op = op; args = list }) args)
  operation_sound op operands None e sound = tt
  operation_sound op operands (Some list) e sound = record {
    exists = sound.0;
    divisor_fits =
        let same : constant_arg (slice_get list 1) ≡ constant_operand (slice_get operands 1) =
        ap constant_arg (each_some-get (arg_now s first before) operands list e 1) ∙ constant_same (slice_get operands 1) in
        subst (DivisorFits op) (sym same) sound.1;
  }

  pub expr_sound : (kind : Kind) → IsSoundKind kind → IsSoundIfAny (expr_by (arg_now s first before) kind)
  expr_sound (Load v) sound = tt
  expr_sound (Store operand v) sound = tt
  expr_sound (Compute op operands) sound = operation_sound op operands (each_some (arg_now s first before) operands) refl sound
  expr_sound (Call callee arguments) sound = tt

-- the expression of an instruction of a block with sound instructions
pub found_sound : (instrs : List Instr) → AreSoundInstrs instrs → (k : ℕ) (i : Instr) → slice_get instrs k ≡ Some i → (s : Tracked) (first : ℕ) (before : List Instr) (e : Option Expr)
    → e ≡ expr_by (arg_now s first before) i.kind → IsSoundIfAny e
found_sound instrs all k i there s first before e is =
    let here : IsSoundKind i.kind = subst (λ (j : Instr). IsSoundKind j.kind) (get_or_from_slice_get instrs k i i there) (all k i (slice_get_within instrs k i there)) in
    subst IsSoundIfAny (sym is) (expr_sound s first before i.kind here)
