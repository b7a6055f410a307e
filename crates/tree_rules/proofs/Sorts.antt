-- What an instruction without a problem makes: a variable, an instruction with a result, or one without.
use Rattle.std.proofs.Common.{◌≡◌, ◌+◌, ◌&&◌, ◌||◌, not, ℕ, Bool, true, false, [], ◌∷◌, Option, None, Some, length, is_some, refl, ap, arith}
use Rattle.std.specs.Prelude.{◌==◌, if◌then◌else◌}
use Rattle.std.proofs.lemmas.Bool.Decides.{nat_tests}
use Rattle.mc_num.specs.declared.op.Width.{Width}
use Rattle.mc_num.specs.declared.op.Width.TheVariants.{I1}
use Rattle.mc_num.specs.declared.op.Op.TheVariants as op
use Rattle.ir_types.specs.declared.span.At.{At}
use Rattle.ir_types.specs.declared.span.Span.{Span}
use Rattle.ir_types.specs.declared.name.Name.{Name}
use Rattle.ir_types.specs.declared.rules.Meaning.TheVariants.{Variable, Register}
use Rattle.ir_types.specs.declared.rules.Rule.TheVariants as rule
use Rattle.ir_types.specs.declared.syntax.Kind.{Kind}
use Rattle.ir_types.specs.declared.syntax.Kind.TheVariants.{Load, Store, Compute, Call}
use Rattle.ir_types.specs.declared.tree.RawKind.{RawKind}
use Rattle.ir_types.specs.declared.tree.RawKind.TheVariants as kind
use Rattle.ir_types.specs.declared.tree.RawInstr.{RawInstr}
use Rattle.ir_types.specs.declared.tree.Ty.TheVariants.{Int, Void, Ptr}
use Rattle.ir_types.specs.Definitions.{define, define_some}
use Rattle.ir_types.specs.Limits.{is_alloca}
use Rattle.ir_types.specs.Uses.{Context, is_other_callee, callee_of}
use Rattle.ir_types.specs.Rules.{Reached, register, after_instr, instr_problem}
use Rattle.ir_types.specs.ModuleOf.{operand_of, variable_of, argument_of, function_number, var_of, instr_of, kind_of}
use Rattle.ir_types.specs.Definitions.{name_of}
use Rattle.ir_types.specs.Written.{IsSpelledKind}
use Rattle.std.specs.Prelude.{map}
use Rattle.tree_rules.proofs.Distinct.{both_none, kept}

-- the width of what an instruction gives
abbrev pub raw_width : RawKind → Option Width
raw_width (kind.Alloca _) = None
raw_width (kind.Load w _) = Some w
raw_width (kind.Store _ _ _) = None
raw_width (kind.Bin _ w _ _) = Some w
raw_width (kind.Icmp _ _ _ _) = Some I1
raw_width (kind.Cast _ _ _ to) = Some to.item
raw_width (kind.Select _ w _ _ _) = Some w
raw_width (kind.Call (Int w) _ _) = Some w
raw_width (kind.Call _ _ _) = None
raw_width (kind.Phi w _) = Some w

pub record MakesVariable (c : Context) (r : Reached) (x : RawInstr) : Type 0 where
  pub width : Width
  pub is : x.kind ≡ kind.Alloca width
  pub variable : var_of r x x.kind ≡ Some (width, name_of r.before x.result)
  pub instr : instr_of c r x ≡ None
  pub after : after_instr r x ≡ record { before = define r.before x.result (Variable r.variables width); block = r.block; variables = r.variables + 1; instrs = r.instrs }
  pub first : r.block + r.instrs ≡ 0

pub record MakesResult (c : Context) (r : Reached) (x : RawInstr) : Type 0 where
  pub width : Width
  pub kind : Kind
  pub is_no_alloca : is_alloca x.kind ≡ false
  pub variable : var_of r x x.kind ≡ None
  pub meant : kind_of c x.kind ≡ Some kind
  pub instr : instr_of c r x ≡ Some (record { result = Some (name_of r.before x.result); kind = kind })
  pub gives : raw_width x.kind ≡ Some width
  pub after : after_instr r x ≡ record { before = define r.before x.result (Register r.block r.instrs (Int width)); block = r.block; variables = r.variables; instrs = r.instrs + 1 }

pub record MakesNothing (c : Context) (r : Reached) (x : RawInstr) : Type 0 where
  pub kind : Kind
  pub is_no_alloca : is_alloca x.kind ≡ false
  pub variable : var_of r x x.kind ≡ None
  pub meant : kind_of c x.kind ≡ Some kind
  pub instr : instr_of c r x ≡ Some (record { result = None; kind = kind })
  pub gives : raw_width x.kind ≡ None
  pub after : after_instr r x ≡ record { before = r.before; block = r.block; variables = r.variables; instrs = r.instrs + 1 }

pub data Sort (c : Context) (r : Reached) (x : RawInstr) : Type 0 where
  variable : MakesVariable c r x → Sort c r x
  result : MakesResult c r x → Sort c r x
  nothing : MakesNothing c r x → Sort c r x

pub neither : (a b : Bool) → (a || b) ≡ false → (a ≡ false) × (b ≡ false)
neither false b h = (refl, h)
neither true b h = cc

first_place : (b i : ℕ) → not (b == 0 && i == 0) ≡ false → b + i ≡ 0
first_place b i h = grind (arith, nat_tests)

pub sort : (c : Context) (r : Reached) (written : Option (At Name)) (word : Span) (k : RawKind) → IsSpelledKind k → instr_problem c r (record { result = written; word = word; kind = k }) ≡ None
    → Sort c r (record { result = written; word = word; kind = k })
sort c r written word (kind.Alloca w) spelled h = variable (record { width = w; is = refl; variable = refl; instr = refl; after = refl; first = first_place r.block r.instrs (kept rule.LateAlloca word (not (r.block == 0 && r.instrs == 0)) (both_none _ _ h).1) })
sort c r written word (kind.Load w a) spelled h = result (record { width = w; kind = Load (variable_of c a.item); is_no_alloca = refl; variable = refl; meant = refl; instr = refl; gives = refl; after = refl })
sort c r written word (kind.Store w v a) spelled h = nothing (record { kind = Store (operand_of c w v.item) (variable_of c a.item); is_no_alloca = refl; variable = refl; meant = refl; instr = refl; gives = refl; after = refl })
sort c r written word (kind.Bin o w one other) spelled h =
    result (record { width = w; kind = Compute (op.Bin o w) (operand_of c w one.item ∷ operand_of c w other.item ∷ []); is_no_alloca = refl; variable = refl; meant = refl; instr = refl; gives = refl; after = refl })
sort c r written word (kind.Icmp p w one other) spelled h =
    result (record { width = I1; kind = Compute (op.Icmp p w) (operand_of c w one.item ∷ operand_of c w other.item ∷ []); is_no_alloca = refl; variable = refl; meant = refl; instr = refl; gives = refl; after = refl })
sort c r written word (kind.Cast o w v to) spelled h =
    result (record { width = to.item; kind = Compute (op.Cast o w to.item) (operand_of c w v.item ∷ []); is_no_alloca = refl; variable = refl; meant = refl; instr = refl; gives = refl; after = refl })
sort c r written word (kind.Select test w one second other) spelled h =
    result (record { width = w; kind = Compute (op.Select w) (operand_of c I1 test.item ∷ operand_of c w one.item ∷ operand_of c w other.item ∷ []); is_no_alloca = refl; variable = refl; meant = refl; instr = refl; gives = refl; after = refl })
sort c r written word (kind.Call (Int w) callee arguments) spelled h =
    result (record { width = w; kind = Call (function_number c callee.item) (map (argument_of c) arguments); is_no_alloca = refl; variable = refl; meant = refl; instr = refl; gives = refl; after = refl })
sort c r written word (kind.Call Void callee arguments) spelled h =
    let unnamed : is_some written ≡ false = (neither (is_some written) (is_other_callee Void (length arguments) (callee_of c callee.item)) (kept _ _ _ (both_none _ _ (both_none _ _ (both_none _ _ h).1).0).1)).0 in
    nothing (record {
      kind = Call (function_number c callee.item) (map (argument_of c) arguments);
      is_no_alloca = refl;
      variable = refl;
      meant = refl;
      instr = refl;
      gives = refl;
      after = ap (λ (b : Bool). record { before = define_some r.before written (register r (if b then Some Void else None)); block = r.block; variables = r.variables; instrs = r.instrs + 1 }) unnamed;
    })
sort c r written word (kind.Call Ptr callee arguments) spelled h = absurd spelled.0
sort c r written word (kind.Phi w pairs) spelled h = let wrong : true ≡ false = kept rule.Phi word true (both_none _ _ h).1 in cc
