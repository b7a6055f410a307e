-- Instructions and terminators without a problem fit, and so do the blocks that they stand in.
use Rattle.std.proofs.Common.{◌≡◌, not, ℕ, Bool, false, List, [], Option, None, Some, length, map, is_some, refl, sym, ap, ◌∙◌, arith}
use Rattle.std.specs.Prelude.{IfSome, IsSomeAnd, slice_get, option_and_then, option_map}
use Rattle.std.specs.Option.{option_map_or}
use Rattle.std.specs.List.{AllZip}
use Rattle.std.proofs.lemmas.Bool.Decides.{nat_tests}
use Rattle.std.proofs.lemmas.Option.{slice_get-map}
use Rattle.mc_num.specs.Op.{IsWellFormedOp}
use Rattle.mc_num.specs.declared.op.Cast.{Cast}
use Rattle.mc_num.specs.declared.op.Cast.TheVariants.{Zext, Sext, Trunc, Bitcast}
use Rattle.mc_num.specs.declared.op.Op.TheVariants as op
use Rattle.mc_num.specs.declared.op.Width.{Width}
use Rattle.mc_num.specs.declared.op.Width.TheVariants.{I1}
use Rattle.ir_types.specs.declared.span.At.{At}
use Rattle.ir_types.specs.declared.span.Span.{Span}
use Rattle.ir_types.specs.declared.name.Name.TheVariants.{Text}
use Rattle.ir_types.specs.declared.rules.Here.{Here}
use Rattle.ir_types.specs.declared.syntax.Kind.{Kind}
use Rattle.ir_types.specs.declared.syntax.Kind.TheVariants.{Load, Store, Call}
use Rattle.ir_types.specs.declared.syntax.Instr.{Instr}
use Rattle.ir_types.specs.declared.syntax.Operand.{Operand}
use Rattle.ir_types.specs.declared.syntax.Variable.{Variable}
use Rattle.ir_types.specs.declared.tree.RawFunction.{RawFunction}
use Rattle.ir_types.specs.declared.tree.RawKind.{RawKind}
use Rattle.ir_types.specs.declared.tree.RawKind.TheVariants as kind
use Rattle.ir_types.specs.declared.tree.RawArg.{RawArg}
use Rattle.ir_types.specs.declared.tree.Ty.{Ty}
use Rattle.ir_types.specs.declared.tree.Ty.TheVariants.{Int, Void, Ptr}
use Rattle.ir_types.specs.Definitions.{meaning_of}
use Rattle.ir_types.specs.Uses.{Context, casts, params_of, arguments_problem}
use Rattle.ir_types.specs.Rules.{Reached, here, kind_problem}
use Rattle.ir_types.specs.ModuleOf.{operand_of, variable_of, argument_of, function_number, kind_of, width_of}
use Rattle.ir_types.specs.WellFormed.{Signature, Scope, variable_width, given_by, HasWidth, Fits}
use Rattle.tree_rules.proofs.Distinct.{both_none, kept}
use Rattle.tree_rules.proofs.Sorts.{raw_width}
use Rattle.tree_rules.proofs.Known.{Shape}
use Rattle.tree_rules.proofs.Uses.{one_width, raw_signature, scope_with, IsKnown, IsBehind, value_fits, address_fits, arguments_fit, IsCallee, callee_fits}

-- ---- instructions

cast_exists : (o : Cast) (v w : Width) → not (casts o v w) ≡ false → IsWellFormedOp (op.Cast o v w)
cast_exists Zext v w h = grind (arith, nat_tests)
cast_exists Sext v w h = grind (arith, nat_tests)
cast_exists Trunc v w h = grind (arith, nat_tests)
cast_exists Bitcast v w h = one_width v w h

-- an instruction fits, and gives what is written
pub record IsFit (s : Scope) (before : List Instr) (w : Option Width) (k : Kind) : Type 0 where
  pub fits : Fits s before k
  pub gives : given_by s k ≡ w

load_fits : (s : Scope) (before : List Instr) (w : Width) (v : Variable) → variable_width s v ≡ Some w → IsFit s before (Some w) (Load v)
load_fits s before w v e = record { fits = ap is_some e; gives = e }

pub some_holds : {X : Type 0} (P : X → Type 0) (o : Option X) (x : X) → o ≡ Some x → P x → IsSomeAnd o P
some_holds P o x e p = rw e p

store_fits : (s : Scope) (before : List Instr) (w : Width) (o : Operand) (v : Variable) → variable_width s v ≡ Some w → HasWidth s before w o → IsFit s before None (Store o v)
store_fits s before w o v e h = record { fits = some_holds (λ w. HasWidth s before w o) (variable_width s v) w e h; gives = refl }

call_width : (type : Ty) (callee : At (List ℕ)) (arguments : List RawArg) → raw_width (kind.Call type callee arguments) ≡ width_of type
call_width (Int w) callee arguments = refl
call_width Void callee arguments = refl
call_width Ptr callee arguments = refl

signature_found : (fs : List RawFunction) (n : ℕ) (f : RawFunction) → slice_get fs n ≡ Some f → slice_get (map raw_signature fs) n ≡ Some (raw_signature f)
signature_found fs n f e = slice_get-map raw_signature fs n ∙ ap (option_map raw_signature) e

module _ (c : Context) (globals : List Width) (sh : Shape) (known : IsKnown c globals sh) where
  call_fits : (at : Here) (before : List Instr) (type : Ty) (callee : At (List ℕ)) (arguments : List RawArg) → IsBehind (scope_with c globals sh) sh at before
      → IsCallee c type (length arguments) (meaning_of c.symbols (Text callee.item)) → arguments_problem c at (params_of c callee.item) arguments ≡ None
      → IsFit (scope_with c globals sh) before (raw_width (kind.Call type callee arguments)) (Call (function_number c callee.item) (map (argument_of c) arguments))
  call_fits at before type callee arguments behind f h =
      let params : params_of c callee.item ≡ f.function.params = ap (λ (o : Option RawFunction). option_map_or (λ (g : RawFunction). g.params) o []) f.named in
      let fine : arguments_problem c at f.function.params arguments ≡ None = rw (← params) h in
      let there : slice_get (map raw_signature c.functions) (function_number c callee.item) ≡ Some (raw_signature f.function) = signature_found c.functions (function_number c callee.item) f.function f.found in
      record {
        fits = some_holds (λ (g : Signature). AllZip (HasWidth (scope_with c globals sh) before) g.params (map (argument_of c) arguments)) _ (raw_signature f.function) there
            (arguments_fit c globals sh known at before f.function.params arguments behind f.params fine);
        gives = ap (λ (o : Option Signature). option_and_then (λ (g : Signature). g.ret) o) there ∙ (ap width_of f.ret ∙ sym (call_width type callee arguments));
      }

  pub kind_fits : (r : Reached) (before : List Instr) (named : Bool) (word : Span) (k : RawKind) → IsBehind (scope_with c globals sh) sh (here r) before → kind_problem c r named word k ≡ None
      → IfSome (kind_of c k) (IsFit (scope_with c globals sh) before (raw_width k))
  kind_fits r before named word (kind.Alloca w) behind h = tt
  kind_fits r before named word (kind.Load w a) behind h = load_fits (scope_with c globals sh) before w (variable_of c a.item) (address_fits c globals sh known (here r) w a h)
  kind_fits r before named word (kind.Store w v a) behind h =
      let parts = both_none _ _ h in
      store_fits (scope_with c globals sh) before w (operand_of c w v.item) (variable_of c a.item) (address_fits c globals sh known (here r) w a parts.1) (value_fits c globals sh known (here r) before w v behind parts.0)
  kind_fits r before named word (kind.Bin o w one other) behind h =
      let parts = both_none _ _ h in
      record {
        fits = record { exists = tt; operands_fit = (value_fits c globals sh known (here r) before w one behind parts.0, (value_fits c globals sh known (here r) before w other behind parts.1, tt)) };
        gives = refl;
      }
  kind_fits r before named word (kind.Icmp p w one other) behind h =
      let parts = both_none _ _ h in
      record {
        fits = record { exists = tt; operands_fit = (value_fits c globals sh known (here r) before w one behind parts.0, (value_fits c globals sh known (here r) before w other behind parts.1, tt)) };
        gives = refl;
      }
  kind_fits r before named word (kind.Cast o w v to) behind h =
      let parts = both_none _ _ h in
      record { fits = record { exists = cast_exists o w to.item (kept _ _ _ parts.1); operands_fit = (value_fits c globals sh known (here r) before w v behind parts.0, tt) }; gives = refl }
  kind_fits r before named word (kind.Select test w one second other) behind h =
      let parts = both_none _ _ h in
      let inner = both_none _ _ parts.1 in
      let last = both_none _ _ inner.1 in
      record {
        fits = record {
          exists = tt;
          operands_fit = (value_fits c globals sh known (here r) before I1 test behind parts.0, (value_fits c globals sh known (here r) before w one behind inner.0, (value_fits c globals sh known (here r) before w other behind last.1, tt)));
        };
        gives = refl;
      }
  kind_fits r before named word (kind.Call type callee arguments) behind h =
      let parts = both_none _ _ h in
      call_fits (here r) before type callee arguments behind (callee_fits c type named (length arguments) callee parts.0) parts.1
  kind_fits r before named word (kind.Phi w pairs) behind h = tt
