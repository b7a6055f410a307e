-- The canonical text of a module is that of its tokens with the blanks behind them.
use Rattle.std.proofs.Common.{◌≡◌, ℕ, false, List, [], ◌∷◌, ◌++◌, Option, Some, None, codes, slice_get, refl, sym, ap, ◌∙◌, append_assoc}
use Rattle.std.specs.List.{AllByRecursion, flat_map}
use Rattle.std.specs.Option.{option_map_or}
use Rattle.mc_num.specs.declared.op.Width.{Width}
use Rattle.mc_num.specs.declared.op.Width.TheVariants.{I1}
use Rattle.mc_num.specs.declared.op.Op.{Op}
use Rattle.mc_num.specs.declared.op.Op.TheVariants as op
use Rattle.ir_types.specs.Program.{Program}
use Rattle.ir_types.specs.declared.name.Name.{Name}
use Rattle.ir_types.specs.declared.syntax.Operand.{Operand}
use Rattle.ir_types.specs.declared.syntax.Kind.{Kind}
use Rattle.ir_types.specs.declared.syntax.Kind.TheVariants.{Load, Store, Compute, Call}
use Rattle.ir_types.specs.declared.syntax.Instr.{Instr}
use Rattle.ir_types.specs.declared.syntax.Block.{Block}
use Rattle.ir_types.specs.declared.syntax.Function.{Function}
use Rattle.ir_lexer.specs.Texts.{Inked}
use Rattle.ir_lexer.specs.Texts.{text_of as inked}
use Rattle.ir_printer.specs.Text.{width_text, type_text, bin_text, pred_text, cast_text, local_text, global_text, value_text, typed_text, variable_type, variable_text, operands_text, cast_operand_text, choices_text, operation_text, separated, listed, arguments_texts, call_text, kind_text, result_text, alloca_line, instr_line}
use Rattle.printed_trees.proofs.Put.{ArePutTwo, IsPutOne, ArePutThree, IsPutOperation, IsPutKind, IsPutInstr}
use Rattle.printed_trees.proofs.Scripts.{indented, typed, operands, cast_operand, choices, operation, more_arguments, arguments, call, call_of, kind_script, result_script, instr_script, instrs_script, allocas_script}

three_values : (test w one other rest : List ℕ) →
    codes "i1 " ++ ((test ++ []) ++ (codes ", " ++ ((w ++ codes " ") ++ ((one ++ []) ++ (codes ", " ++ ((w ++ codes " ") ++ ((other ++ indented) ++ rest)))))))
    ≡ (codes "i1 " ++ (test ++ (codes ", " ++ ((w ++ (codes " " ++ one)) ++ (codes ", " ++ (w ++ (codes " " ++ other))))))) ++ (indented ++ rest)
three_values test w one other rest = simp append_assoc refl

-- a first part alike, and the same behind it
pub behind : (front : List ℕ) {xs ys : List ℕ} → xs ≡ ys → front ++ xs ≡ front ++ ys
behind front e = ap (λ (l : List ℕ). front ++ l) e

module _ (f : Function) (b : Block) where
  pub typed_is : (w : Width) (o : Operand) (gap : List ℕ) (rest : List Inked) → inked (typed f b w o gap rest) ≡ typed_text f b w o ++ (gap ++ inked rest)
  typed_is w o gap rest = simp append_assoc refl

  operands_are : (w : Width) (os : List Operand) (rest : List Inked) → ArePutTwo f b w os → inked (operands f b w os rest) ≡ operands_text f b w os ++ (indented ++ inked rest)
  operands_are w [] rest put = absurd put
  operands_are w (o ∷ []) rest put = absurd put
  operands_are w (one ∷ other ∷ []) rest put = simp append_assoc refl
  operands_are w (o ∷ p ∷ q ∷ os) rest put = absurd put

  cast_operand_is : (from to : Width) (os : List Operand) (rest : List Inked) → IsPutOne f b from os → inked (cast_operand f b from to os rest) ≡ cast_operand_text f b from to os ++ (indented ++ inked rest)
  cast_operand_is from to [] rest put = absurd put
  cast_operand_is from to (one ∷ []) rest put = simp append_assoc refl
  cast_operand_is from to (o ∷ p ∷ os) rest put = absurd put

  choices_are : (w : Width) (os : List Operand) (rest : List Inked) → ArePutThree f b w os → inked (choices f b w os rest) ≡ choices_text f b w os ++ (indented ++ inked rest)
  choices_are w [] rest put = absurd put
  choices_are w (o ∷ []) rest put = absurd put
  choices_are w (o ∷ p ∷ []) rest put = absurd put
  choices_are w (test ∷ one ∷ other ∷ []) rest put = three_values (value_text f b I1 test) (width_text w) (value_text f b w one) (value_text f b w other) (inked rest)
  choices_are w (o ∷ p ∷ q ∷ r ∷ os) rest put = absurd put

  operation_is : (o : Op) (os : List Operand) (rest : List Inked) → IsPutOperation f b o os → inked (operation f b o os rest) ≡ operation_text f b o os ++ (indented ++ inked rest)
  operation_is (op.Bin o w) os rest put =
      append_assoc (bin_text o) (codes " ") (inked (operands f b w os rest))
      ∙ behind (bin_text o) (behind (codes " ") (operands_are w os rest put))
      ∙ sym (append_assoc (bin_text o) (codes " " ++ operands_text f b w os) (indented ++ inked rest))
  operation_is (op.Icmp p w) os rest put =
      behind (codes "icmp ") (append_assoc (pred_text p) (codes " ") (inked (operands f b w os rest))
      ∙ behind (pred_text p) (behind (codes " ") (operands_are w os rest put))
      ∙ sym (append_assoc (pred_text p) (codes " " ++ operands_text f b w os) (indented ++ inked rest)))
  operation_is (op.Cast o from to) os rest put =
      append_assoc (cast_text o) (codes " ") (inked (cast_operand f b from to os rest))
      ∙ behind (cast_text o) (behind (codes " ") (cast_operand_is from to os rest put))
      ∙ sym (append_assoc (cast_text o) (codes " " ++ cast_operand_text f b from to os) (indented ++ inked rest))
  operation_is (op.Select w) os rest put = behind (codes "select ") (choices_are w os rest put)

  more_arguments_are : (ps : List (Width × Name)) (os : List Operand) (rest : List Inked) → inked (more_arguments f b ps os rest) ≡ separated (codes ", ") false (arguments_texts f b ps os) ++ inked rest
  unfolding more_arguments
  more_arguments_are [] os rest = refl
  more_arguments_are (p ∷ ps) [] rest = refl
  more_arguments_are (p ∷ ps) (o ∷ os) rest =
      behind (codes ", ") (typed_is p.0 o [] (more_arguments f b ps os rest)
      ∙ behind (typed_text f b p.0 o) (more_arguments_are ps os rest)
      ∙ sym (append_assoc (typed_text f b p.0 o) (separated (codes ", ") false (arguments_texts f b ps os)) (inked rest)))

  arguments_are : (ps : List (Width × Name)) (os : List Operand) (rest : List Inked) → inked (arguments f b ps os rest) ≡ listed (arguments_texts f b ps os) ++ inked rest
  arguments_are [] os rest = refl
  arguments_are (p ∷ ps) [] rest = refl
  arguments_are (p ∷ ps) (o ∷ os) rest =
      typed_is p.0 o [] (more_arguments f b ps os rest)
      ∙ behind (typed_text f b p.0 o) (more_arguments_are ps os rest)
      ∙ sym (append_assoc (typed_text f b p.0 o) (separated (codes ", ") false (arguments_texts f b ps os)) (inked rest))

  call_regrouped : (type name arguments rest : List ℕ) → codes "call " ++ ((type ++ codes " ") ++ ((name ++ []) ++ (codes "(" ++ (arguments ++ (codes ")" ++ (indented ++ rest))))))
      ≡ (codes "call " ++ (type ++ (codes " " ++ (name ++ (codes "(" ++ (arguments ++ codes ")")))))) ++ (indented ++ rest)
  call_regrouped type name arguments rest = simp append_assoc refl

  call_is : (os : List Operand) (callee : Function) (rest : List Inked) → inked (call f b os callee rest) ≡ call_text f b os callee ++ (indented ++ inked rest)
  call_is os callee rest =
      ap (λ (l : List ℕ). codes "call " ++ ((type_text callee.ret ++ codes " ") ++ ((global_text callee.name ++ []) ++ (codes "(" ++ l))))
      (arguments_are callee.params os _)
      ∙ call_regrouped (type_text callee.ret) (global_text callee.name) (listed (arguments_texts f b callee.params os)) (inked rest)

  found_call : (os : List Operand) (found : Option Function) (g : Function) (rest : List Inked) → found ≡ Some g → inked (call_of f b os found rest) ≡ option_map_or (call_text f b os) found [] ++ (indented ++ inked rest)
  found_call os found g rest e = rw e (call_is os g rest)

module _ (m : Program) (f : Function) (b : Block) where
  load_regrouped : (w v rest : List ℕ) → codes "load " ++ ((w ++ []) ++ (codes ", ptr " ++ ((v ++ indented) ++ rest))) ≡ (codes "load " ++ (w ++ (codes ", ptr " ++ v))) ++ (indented ++ rest)
  load_regrouped w v rest = simp append_assoc refl

  store_regrouped : (w o v rest : List ℕ) → codes "store " ++ ((w ++ codes " ") ++ ((o ++ []) ++ (codes ", ptr " ++ ((v ++ indented) ++ rest)))) ≡ (codes "store " ++ ((w ++ (codes " " ++ o)) ++ (codes ", ptr " ++ v))) ++ (indented ++ rest)
  store_regrouped w o v rest = simp append_assoc refl

  kind_is : (k : Kind) (rest : List Inked) → IsPutKind m f b k → inked (kind_script m f b k rest) ≡ kind_text m f b k ++ (indented ++ inked rest)
  kind_is (Load v) rest put = load_regrouped (width_text (variable_type m f v)) (variable_text m f v) (inked rest)
  kind_is (Store o v) rest put = store_regrouped (width_text (variable_type m f v)) (value_text f b (variable_type m f v) o) (variable_text m f v) (inked rest)
  kind_is (Compute o os) rest put = operation_is f b o os rest put
  kind_is (Call c os) rest put = found_call f b os (slice_get m.functions c) put.0 rest put.1

  result_is : (r : Option Name) (rest : List Inked) → inked (result_script r rest) ≡ result_text r ++ inked rest
  result_is None rest = refl
  result_is (Some name) rest = append_assoc (local_text name) (codes " ") (codes "= " ++ inked rest) ∙ sym (append_assoc (local_text name) (codes " = ") (inked rest))

  instr_regrouped : (result kind rest : List ℕ) → codes "  " ++ (result ++ (kind ++ (indented ++ rest))) ≡ (codes "  " ++ (result ++ (kind ++ codes "\n"))) ++ (codes "  " ++ rest)
  instr_regrouped result kind rest = simp append_assoc refl

  instr_is : (i : Instr) (rest : List Inked) → IsPutInstr m f b i → codes "  " ++ inked (instr_script m f b i rest) ≡ instr_line m f b i ++ (codes "  " ++ inked rest)
  instr_is i rest put =
      behind (codes "  ") (result_is i.result (kind_script m f b i.kind rest) ∙ behind (result_text i.result) (kind_is i.kind rest put.kind))
      ∙ instr_regrouped (result_text i.result) (kind_text m f b i.kind) (inked rest)

  pub instrs_are : (is : List Instr) (rest : List Inked) → AllByRecursion (IsPutInstr m f b) is → codes "  " ++ inked (instrs_script m f b is rest) ≡ flat_map (instr_line m f b) is ++ (codes "  " ++ inked rest)
  unfolding instrs_script
  instrs_are [] rest put = refl
  instrs_are (i ∷ is) rest put =
      instr_is i (instrs_script m f b is rest) put.0
      ∙ behind (instr_line m f b i) (instrs_are is rest put.1)
      ∙ sym (append_assoc (instr_line m f b i) (flat_map (instr_line m f b) is) (codes "  " ++ inked rest))

alloca_regrouped : (name w rest : List ℕ) → codes "  " ++ ((name ++ codes " ") ++ (codes "= alloca " ++ ((w ++ indented) ++ rest))) ≡ (codes "  " ++ (name ++ (codes " = alloca " ++ (w ++ codes "\n")))) ++ (codes "  " ++ rest)
alloca_regrouped name w rest = simp append_assoc refl

pub allocas_are : (xs : List (Width × Name)) (rest : List Inked) → codes "  " ++ inked (allocas_script xs rest) ≡ flat_map alloca_line xs ++ (codes "  " ++ inked rest)
unfolding allocas_script
allocas_are [] rest = refl
allocas_are (x ∷ xs) rest =
    alloca_regrouped (local_text x.1) (width_text x.0) (inked (allocas_script xs rest))
    ∙ behind (alloca_line x) (allocas_are xs rest)
    ∙ sym (append_assoc (alloca_line x) (flat_map alloca_line xs) (codes "  " ++ inked rest))
