-- The text of blocks, functions and modules, as that of tokens with the blanks behind them.
use Rattle.std.proofs.Common.{◌≡◌, ℕ, true, false, List, [], ◌∷◌, ◌++◌, Option, Some, None, codes, map, refl, sym, ap, ◌∙◌, append_assoc, append-nil}
use Rattle.std.specs.List.{AllByRecursion, flat_map}
use Rattle.std.specs.Option.{option_map_or}
use Rattle.mc_num.specs.declared.op.Width.{Width}
use Rattle.mc_num.specs.declared.op.Width.TheVariants.{I1}
use Rattle.ir_types.specs.Names.{name_text}
use Rattle.ir_types.specs.Program.{Program}
use Rattle.ir_types.specs.Rules.{is_nil}
use Rattle.ir_types.specs.declared.name.Name.{Name}
use Rattle.ir_types.specs.declared.syntax.Operand.{Operand}
use Rattle.ir_types.specs.declared.syntax.Terminator.{Terminator}
use Rattle.ir_types.specs.declared.syntax.Terminator.TheVariants.{Return, Jump, Branch, Switch, Unreachable}
use Rattle.ir_types.specs.declared.syntax.Block.{Block}
use Rattle.ir_types.specs.declared.syntax.Function.{Function}
use Rattle.ir_types.specs.declared.syntax.Global.{Global}
use Rattle.ir_lexer.specs.Texts.{Inked}
use Rattle.ir_lexer.specs.Texts.{text_of as inked}
use Rattle.ir_printer.specs.Text.{width_text, type_text, global_text, constant_text, value_text, typed_text, label_text, separated, listed, alloca_line, instr_line, case_text, term_text, block_text, type_of_param, param_text, head_text, function_with, function_text, global_line, text_of}
use Rattle.printed_trees.proofs.Put.{IsPutTerm, IsPutBlock, IsPutFunction, IsPutModule}
use Rattle.printed_trees.proofs.Scripts.{indented, line, target, block_name, cases_script, returned, term_script, block_script, later_blocks, type_script, param_script, more_params, params_script, head_script, function_script, gap_before, functions_script, global_script, globals_script, script_of}
use Rattle.printed_trees.proofs.Lines.{behind, typed_is, instrs_are, allocas_are}

module _ (f : Function) (b : Block) where
  target_is : (t : ℕ) (gap : List ℕ) (rest : List Inked) → inked (target f t gap rest) ≡ label_text f t ++ (gap ++ inked rest)
  target_is t gap rest = behind (codes "label ") (append_assoc (block_name f t) gap (inked rest))

  case_regrouped : (w v l rest : List ℕ) → (w ++ codes " ") ++ ((v ++ []) ++ (codes ", " ++ (codes "label " ++ ((l ++ codes " ") ++ rest)))) ≡ (w ++ (codes " " ++ (v ++ (codes ", " ++ ((codes "label " ++ l) ++ codes " "))))) ++ rest
  case_regrouped w v l rest = simp append_assoc refl

  cases_are : (w : Width) (cs : List (ℕ × ℕ)) (rest : List Inked) → inked (cases_script f w cs rest) ≡ flat_map (case_text f w) cs ++ inked rest
  unfolding cases_script
  cases_are w [] rest = refl
  cases_are w (c ∷ cs) rest =
      case_regrouped (width_text w) (constant_text w c.0) (block_name f c.1) (inked (cases_script f w cs rest))
      ∙ behind (case_text f w c) (cases_are w cs rest)
      ∙ sym (append_assoc (case_text f w c) (flat_map (case_text f w) cs) (inked rest))

  returned_is : (o : Operand) (r : Option Width) (w : Width) (rest : List Inked) → r ≡ Some w → inked (returned f b o r rest) ≡ option_map_or (λ w. typed_text f b w o) r [] ++ (line ++ inked rest)
  returned_is o r w rest e = rw e (typed_is f b w o line rest)

  branch_regrouped : (br i v comma label l n end rest : List ℕ) → br ++ (i ++ ((v ++ []) ++ (comma ++ (label ++ ((l ++ []) ++ (comma ++ (label ++ ((n ++ end) ++ rest))))))))
      ≡ (br ++ ((i ++ v) ++ (comma ++ ((label ++ l) ++ (comma ++ (label ++ n)))))) ++ (end ++ rest)
  branch_regrouped br i v comma label l n end rest = simp append_assoc refl

  switch_regrouped : (w v l cases rest : List ℕ) → codes "switch " ++ ((w ++ codes " ") ++ ((v ++ []) ++ (codes ", " ++ (codes "label " ++ ((l ++ codes " ") ++ (codes "[ " ++ (cases ++ (codes "]" ++ (line ++ rest)))))))))
      ≡ (codes "switch " ++ ((w ++ (codes " " ++ v)) ++ (codes ", " ++ ((codes "label " ++ l) ++ (codes " [ " ++ (cases ++ codes "]")))))) ++ (line ++ rest)
  switch_regrouped w v l cases rest = simp append_assoc refl

  term_is : (t : Terminator) (rest : List Inked) → IsPutTerm f b t → inked (term_script f b t rest) ≡ term_text f b t ++ (line ++ inked rest)
  term_is (Return None) rest put = refl
  term_is (Return (Some o)) rest put = behind (codes "ret ") (returned_is o f.ret put.0 rest put.1)
  term_is (Jump t) rest put = behind (codes "br ") (target_is t line rest)
  term_is (Branch o t u) rest put = branch_regrouped (codes "br ") (codes "i1 ") (value_text f b I1 o) (codes ", ") (codes "label ") (block_name f t) (block_name f u) line (inked rest)
  term_is (Switch w o t cases) rest put =
      ap (λ (l : List ℕ). codes "switch " ++ ((width_text w ++ codes " ") ++ ((value_text f b w o ++ []) ++ (codes ", " ++ (codes "label " ++ ((block_name f t ++ codes " ") ++ (codes "[ " ++ l)))))))
      (cases_are w cases _)
      ∙ switch_regrouped (width_text w) (value_text f b w o) (block_name f t) (flat_map (case_text f w) cases) (inked rest)
  term_is Unreachable rest put = refl

module _ (m : Program) (f : Function) where
  block_regrouped : (name vars instrs term rest : List ℕ) → (name ++ codes ":") ++ (codes "\n" ++ (vars ++ (instrs ++ (codes "  " ++ (term ++ (line ++ rest))))))
      ≡ (name ++ (codes ":\n" ++ (vars ++ (instrs ++ (codes "  " ++ (term ++ codes "\n")))))) ++ rest
  block_regrouped name vars instrs term rest = simp append_assoc refl

  block_is : (vars : List (Width × Name)) (b : Block) (rest : List Inked) → IsPutBlock m f b → inked (block_script m f vars b rest) ≡ block_text m f vars b ++ inked rest
  block_is vars b rest put =
      append_assoc (name_text b.name ++ codes ":") indented _
      ∙ ap (λ (l : List ℕ). (name_text b.name ++ codes ":") ++ (codes "\n" ++ l))
      (allocas_are vars _ ∙ behind (flat_map alloca_line vars) (instrs_are m f b b.instrs _ put.instrs
      ∙ behind (flat_map (instr_line m f b) b.instrs) (behind (codes "  ") (term_is f b b.term rest put.term))))
      ∙ block_regrouped (name_text b.name) (flat_map alloca_line vars) (flat_map (instr_line m f b) b.instrs) (term_text f b b.term) (inked rest)

  later_are : (bs : List Block) (rest : List Inked) → AllByRecursion (IsPutBlock m f) bs → inked (later_blocks m f bs rest) ≡ flat_map (block_text m f []) bs ++ inked rest
  unfolding later_blocks
  later_are [] rest put = refl
  later_are (b ∷ bs) rest put =
      block_is [] b (later_blocks m f bs rest) put.0
      ∙ behind (block_text m f [] b) (later_are bs rest put.1)
      ∙ sym (append_assoc (block_text m f [] b) (flat_map (block_text m f []) bs) (inked rest))

-- a parameter by its text
record Puts (one : Width × Name → List Inked → List Inked) (text : Width × Name → List ℕ) : Type 0 where
  puts : (p : Width × Name) (rest : List Inked) → inked (one p rest) ≡ text p ++ inked rest

types : Puts type_script type_of_param
types = record { puts = λ p rest. ap (λ (l : List ℕ). l ++ inked rest) (append-nil (width_text p.0)) }

params : Puts param_script param_text
params = record { puts = λ p rest. simp append_assoc refl }

module _ (one : Width × Name → List Inked → List Inked) (text : Width × Name → List ℕ) (each : Puts one text) where
  more_params_are : (ps : List (Width × Name)) (rest : List Inked) → inked (more_params one ps rest) ≡ separated (codes ", ") false (map text ps) ++ inked rest
  unfolding more_params
  more_params_are [] rest = refl
  more_params_are (p ∷ ps) rest =
      behind (codes ", ") (each.puts p (more_params one ps rest)
      ∙ behind (text p) (more_params_are ps rest)
      ∙ sym (append_assoc (text p) (separated (codes ", ") false (map text ps)) (inked rest)))

  params_are : (ps : List (Width × Name)) (rest : List Inked) → inked (params_script one ps rest) ≡ listed (map text ps) ++ inked rest
  params_are [] rest = refl
  params_are (p ∷ ps) rest =
      each.puts p (more_params one ps rest)
      ∙ behind (text p) (more_params_are ps rest)
      ∙ sym (append_assoc (text p) (separated (codes ", ") false (map text ps)) (inked rest))

  head_regrouped : (type name list rest : List ℕ) → (type ++ codes " ") ++ ((name ++ []) ++ (codes "(" ++ (list ++ rest))) ≡ type ++ (codes " " ++ (name ++ (codes "(" ++ (list ++ rest))))
  head_regrouped type name list rest = simp append_assoc refl

  closed : (type name list rest : List ℕ) → type ++ (codes " " ++ (name ++ (codes "(" ++ (list ++ (codes ")" ++ rest))))) ≡ (type ++ (codes " " ++ (name ++ (codes "(" ++ (list ++ codes ")"))))) ++ rest
  closed type name list rest = simp append_assoc refl

  head_is : (f : Function) (gap : List ℕ) (rest : List Inked) → inked (head_script f one gap rest) ≡ head_text f (map text f.params) ++ (gap ++ inked rest)
  head_is f gap rest =
      ap (λ (l : List ℕ). (type_text f.ret ++ codes " ") ++ ((global_text f.name ++ []) ++ (codes "(" ++ l))) (params_are f.params _)
      ∙ head_regrouped (type_text f.ret) (global_text f.name) (listed (map text f.params)) _
      ∙ closed (type_text f.ret) (global_text f.name) (listed (map text f.params)) (gap ++ inked rest)

module _ (m : Program) where
  declaration_regrouped : (head gap rest : List ℕ) → codes "declare " ++ (head ++ ((10 ∷ gap) ++ rest)) ≡ (codes "declare " ++ (head ++ codes "\n")) ++ (gap ++ rest)
  declaration_regrouped head gap rest = simp append_assoc refl

  definition_regrouped : (head first more gap rest : List ℕ) → codes "define " ++ (head ++ (codes " {\n" ++ (first ++ (more ++ (codes "}" ++ ((10 ∷ gap) ++ rest))))))
      ≡ (codes "define " ++ (head ++ (codes " {\n" ++ ((first ++ more) ++ codes "}\n")))) ++ (gap ++ rest)
  definition_regrouped head first more gap rest = simp append_assoc refl

  -- a function, with a line feed and other blanks behind it
  function_is : (f : Function) (bs : List Block) (gap : List ℕ) (rest : List Inked) → AllByRecursion (IsPutBlock m f) bs → inked (function_script m f bs (10 ∷ gap) rest) ≡ function_with m f bs ++ (gap ++ inked rest)
  function_is f [] gap rest put =
      behind (codes "declare ") (head_is type_script type_of_param types f (10 ∷ gap) rest)
      ∙ declaration_regrouped (head_text f (map type_of_param f.params)) gap (inked rest)
  function_is f (b ∷ bs) gap rest put =
      behind (codes "define ") (head_is param_script param_text params f (codes " ") _
      ∙ behind (head_text f (map param_text f.params)) (behind (codes " {\n") (block_is m f f.vars b _ put.0 ∙ behind (block_text m f f.vars b) (later_are m f bs _ put.1))))
      ∙ definition_regrouped (head_text f (map param_text f.params)) (block_text m f f.vars b) (flat_map (block_text m f []) bs) gap (inked rest)

  functions_are : (fs : List Function) → AllByRecursion (IsPutFunction m) fs → separated (codes "\n") true (map (function_text m) fs) ≡ inked (functions_script m fs)
  unfolding functions_script
  functions_are [] put = refl
  functions_are (f ∷ []) put = sym (function_is f f.blocks [] [] put.0.blocks)
  functions_are (f ∷ g ∷ fs) put =
      behind (function_text m f) (behind (codes "\n") (functions_are (g ∷ fs) put.1))
      ∙ sym (function_is f f.blocks (codes "\n") (functions_script m (g ∷ fs)) put.0.blocks)

  global_regrouped : (name w v gap rest : List ℕ) → (name ++ codes " ") ++ (codes "= global " ++ ((w ++ codes " ") ++ ((v ++ (10 ∷ gap)) ++ rest))) ≡ (name ++ (codes " = global " ++ (w ++ (codes " " ++ (v ++ codes "\n"))))) ++ (gap ++ rest)
  global_regrouped name w v gap rest = simp append_assoc refl

  global_is : (g : Global) (gap : List ℕ) (rest : List Inked) → inked (global_script g (10 ∷ gap) rest) ≡ global_line g ++ (gap ++ inked rest)
  global_is g gap rest = global_regrouped (global_text g.name) (width_text g.width) (constant_text g.width g.value) gap (inked rest)

  last_global : (g : Global) (fs : List Function) → AllByRecursion (IsPutFunction m) fs → (global_line g ++ []) ++ separated (codes "\n") false (map (function_text m) fs) ≡ inked (global_script g (gap_before fs) (functions_script m fs))
  unfolding functions_script
  last_global g [] put = append-nil (global_line g ++ []) ∙ sym (global_is g [] [])
  last_global g (f ∷ fs) put =
      append_assoc (global_line g) [] (separated (codes "\n") false (map (function_text m) (f ∷ fs)))
      ∙ behind (global_line g) (behind (codes "\n") (functions_are (f ∷ fs) put))
      ∙ sym (global_is g (codes "\n") (functions_script m (f ∷ fs)))

  globals_are : (gs : List Global) (fs : List Function) → AllByRecursion (IsPutFunction m) fs → flat_map global_line gs ++ separated (codes "\n") (is_nil gs) (map (function_text m) fs) ≡ inked (globals_script m gs fs)
  unfolding globals_script
  globals_are [] fs put = functions_are fs put
  globals_are (g ∷ []) fs put = last_global g fs put
  globals_are (g ∷ h ∷ gs) fs put =
      append_assoc (global_line g) (flat_map global_line (h ∷ gs)) (separated (codes "\n") false (map (function_text m) fs))
      ∙ behind (global_line g) (globals_are (h ∷ gs) fs put)
      ∙ sym (global_is g [] (globals_script m (h ∷ gs) fs))

  -- the canonical text is that of the script
  pub text_is : IsPutModule m → text_of m ≡ inked (script_of m)
  text_is put = globals_are m.globals m.functions put.functions
