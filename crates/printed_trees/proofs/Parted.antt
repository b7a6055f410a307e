-- The tokens of a canonical text are kept apart.
use Rattle.std.proofs.Common.{◌≡◌, ℕ, Bool, true, false, List, [], ◌∷◌, ◌++◌, Option, Some, None, codes, slice_get, lit<, refl, sym, subst}
use Rattle.std.specs.Prelude.{IfSome, IsTrue, ◌==◌, if◌then◌else◌}
use Rattle.std.specs.List.{AllByRecursion, list_all}
use Rattle.std.specs.Option.{option_map_or}
use Rattle.mc_num.specs.declared.op.Width.{Width}
use Rattle.mc_num.specs.declared.op.Width.TheVariants.{I1, I8, I16, I32, I64}
use Rattle.mc_num.specs.declared.op.Bin.{Bin}
use Rattle.mc_num.specs.declared.op.Bin.TheVariants as bins
use Rattle.mc_num.specs.declared.op.Pred.{Pred}
use Rattle.mc_num.specs.declared.op.Pred.TheVariants as preds
use Rattle.mc_num.specs.declared.op.Cast.{Cast}
use Rattle.mc_num.specs.declared.op.Cast.TheVariants as casts
use Rattle.mc_num.specs.declared.op.Op.{Op}
use Rattle.mc_num.specs.declared.op.Op.TheVariants as op
use Rattle.ir_types.specs.Bytes.{is_blank}
use Rattle.ir_types.specs.Names.{IsNameText, IsSpellable, name_text, quoted_text}
use Rattle.ir_types.specs.Program.{Program}
use Rattle.ir_types.specs.TreeOf.{signed, operand_name}
use Rattle.ir_types.specs.declared.name.Name.{Name}
use Rattle.ir_types.specs.declared.name.Name.TheVariants.{Text}
use Rattle.ir_types.specs.declared.syntax.Operand.{Operand}
use Rattle.ir_types.specs.declared.syntax.Operand.TheVariants.{Const, Param, Reg}
use Rattle.ir_types.specs.declared.syntax.Variable.{Variable}
use Rattle.ir_types.specs.declared.syntax.Variable.TheVariants as variable
use Rattle.ir_types.specs.declared.syntax.Kind.{Kind}
use Rattle.ir_types.specs.declared.syntax.Kind.TheVariants.{Load, Store, Compute, Call}
use Rattle.ir_types.specs.declared.syntax.Instr.{Instr}
use Rattle.ir_types.specs.declared.syntax.Terminator.{Terminator}
use Rattle.ir_types.specs.declared.syntax.Terminator.TheVariants.{Return, Jump, Branch, Switch, Unreachable}
use Rattle.ir_types.specs.declared.syntax.Block.{Block}
use Rattle.ir_types.specs.declared.syntax.Function.{Function}
use Rattle.ir_types.specs.declared.syntax.Global.{Global}
use Rattle.ir_lexer.specs.Pieces.{is_mark}
use Rattle.ir_lexer.specs.Texts.{Inked, IsText, IsKept, Ends, IsParted}
use Rattle.ir_lexer.specs.Texts.{text_of as inked}
use Rattle.ir_lexer.specs.declared.token.TokenKind.TheVariants as kinds
use Rattle.ir_printer.specs.Text.{width_text, type_text, bin_text, pred_text, cast_text, local_text, global_text, constant_text, value_text, variable_text}
use Rattle.printed_trees.proofs.Names.{name_is, run_or_quoted, number_is}
use Rattle.printed_trees.proofs.Put.{IsPutName, IsPutValue, IsPutVariable, IsPutTarget, ArePutTwo, IsPutOne, ArePutThree, IsPutOperation, ArePutArguments, IsPutKind, IsPutInstr, IsPutCase, IsPutTerm, IsPutBlock, IsPutFunction, IsPutGlobal, IsPutModule}
use Rattle.printed_trees.proofs.Scripts.{ink, space, line, indented, word, punct, local, comma, constant_kind, value_ink, typed, variable_kind, address, block_name, target, operands, cast_operand, choices, operation, more_arguments, arguments, call, call_of, kind_script, result_script, instrs_script, allocas_script, cases_script, returned, term_script, block_script, later_blocks, type_script, param_script, more_params, params_script, head_script, function_script, gap_before, functions_script, global_script, globals_script, script_of}

-- the tokens are kept apart
pub record Apart (is : List Inked) : Type 0 where
  pub parted : IsParted is

-- ---- the texts of single tokens

abbrev IsPlainWord : List ℕ → Type 0
IsPlainWord text = IsText kinds.Word text × IsKept kinds.Word text

width_word : (w : Width) → IsPlainWord (width_text w)
width_word I1 = (((lit< tt, refl), refl), refl)
width_word I8 = (((lit< tt, refl), refl), refl)
width_word I16 = (((lit< tt, refl), refl), refl)
width_word I32 = (((lit< tt, refl), refl), refl)
width_word I64 = (((lit< tt, refl), refl), refl)

type_word : (o : Option Width) → IsPlainWord (type_text o)
type_word None = (((lit< tt, refl), refl), refl)
type_word (Some w) = width_word w

bin_word : (o : Bin) → IsPlainWord (bin_text o)
bin_word bins.Add = (((lit< tt, refl), refl), refl)
bin_word bins.Sub = (((lit< tt, refl), refl), refl)
bin_word bins.Mul = (((lit< tt, refl), refl), refl)
bin_word bins.UDiv = (((lit< tt, refl), refl), refl)
bin_word bins.SDiv = (((lit< tt, refl), refl), refl)
bin_word bins.URem = (((lit< tt, refl), refl), refl)
bin_word bins.SRem = (((lit< tt, refl), refl), refl)
bin_word bins.Shl = (((lit< tt, refl), refl), refl)
bin_word bins.LShr = (((lit< tt, refl), refl), refl)
bin_word bins.AShr = (((lit< tt, refl), refl), refl)
bin_word bins.And = (((lit< tt, refl), refl), refl)
bin_word bins.Or = (((lit< tt, refl), refl), refl)
bin_word bins.Xor = (((lit< tt, refl), refl), refl)

pred_word : (p : Pred) → IsPlainWord (pred_text p)
pred_word preds.Eq = (((lit< tt, refl), refl), refl)
pred_word preds.Ne = (((lit< tt, refl), refl), refl)
pred_word preds.Ugt = (((lit< tt, refl), refl), refl)
pred_word preds.Uge = (((lit< tt, refl), refl), refl)
pred_word preds.Ult = (((lit< tt, refl), refl), refl)
pred_word preds.Ule = (((lit< tt, refl), refl), refl)
pred_word preds.Sgt = (((lit< tt, refl), refl), refl)
pred_word preds.Sge = (((lit< tt, refl), refl), refl)
pred_word preds.Slt = (((lit< tt, refl), refl), refl)
pred_word preds.Sle = (((lit< tt, refl), refl), refl)

cast_word : (c : Cast) → IsPlainWord (cast_text c)
cast_word casts.Zext = (((lit< tt, refl), refl), refl)
cast_word casts.Sext = (((lit< tt, refl), refl), refl)
cast_word casts.Trunc = (((lit< tt, refl), refl), refl)
cast_word casts.Bitcast = (((lit< tt, refl), refl), refl)

local_is : (n : Name) → IsSpellable n → IsText kinds.Local (local_text n)
local_is n is = record { name = name_text n; is = name_is n is; spelled = refl }

global_is : (name : List ℕ) → IsNameText name → IsText kinds.Global (global_text name)
global_is name is = record { name = quoted_text name; is = name_is (Text name) is; spelled = refl }

label_is : (n : Name) → IsSpellable n → IsText kinds.Label (name_text n ++ codes ":")
label_is n is = record { name = name_text n; is = run_or_quoted n is; spelled = refl }

-- ---- one token in front of others

word_in_front : (text gap : List ℕ) (rest : List Inked) → IsPlainWord text → IsTrue (list_all is_blank gap) → Ends kinds.Word (gap ++ inked rest) → Apart rest → Apart (word text gap ∷ rest)
word_in_front text gap rest is blank ends more = record { parted = (is.0, is.1, blank, ends, more.parted) }

constant_is : (w : Width) (n : ℕ) → IsText (constant_kind w) (constant_text w n) × IsKept (constant_kind w) (constant_text w n)
constant_is I1 n = by (n == 1)
  where
    by : (b : Bool) → IsPlainWord (if b then codes "true" else codes "false")
    by true = (((lit< tt, refl), refl), refl)
    by false = (((lit< tt, refl), refl), refl)
constant_is I8 n = (number_is (signed I8 n), tt)
constant_is I16 n = (number_is (signed I16 n), tt)
constant_is I32 n = (number_is (signed I32 n), tt)
constant_is I64 n = (number_is (signed I64 n), tt)

-- what ends a word ends a constant
constant_ends : (w : Width) (more : List ℕ) → Ends kinds.Word more → Ends (constant_kind w) more
constant_ends I1 more ends = ends
constant_ends I8 more ends = ends
constant_ends I16 more ends = ends
constant_ends I32 more ends = ends
constant_ends I64 more ends = ends

constant_in_front : (w : Width) (n : ℕ) (gap : List ℕ) (rest : List Inked) → IsTrue (list_all is_blank gap) → Ends kinds.Word (gap ++ inked rest) → Apart rest → Apart (ink (constant_kind w) (constant_text w n) gap ∷ rest)
constant_in_front w n gap rest blank ends more = let is = constant_is w n in record { parted = (is.0, is.1, blank, constant_ends w (gap ++ inked rest) ends, more.parted) }

local_in_front : (text gap : List ℕ) (rest : List Inked) → IsText kinds.Local text → IsTrue (list_all is_blank gap) → Ends kinds.Local (gap ++ inked rest) → Apart rest → Apart (local text gap ∷ rest)
local_in_front text gap rest is blank ends more = record { parted = (is, tt, blank, ends, more.parted) }

-- a mark with blanks behind it, or none
punct_in_front : (m : ℕ) (gap : List ℕ) (rest : List Inked) → IsTrue (is_mark m) → IsTrue (list_all is_blank gap) → Apart rest → Apart (punct (m ∷ []) gap ∷ rest)
punct_in_front m gap rest is blank more = record { parted = (record { mark = m; is = is; spelled = refl }, tt, blank, tt, more.parted) }

-- the name of a function or a global
global_in_front : (name gap : List ℕ) (rest : List Inked) → IsNameText name → IsTrue (list_all is_blank gap) → Ends kinds.Global (gap ++ inked rest) → Apart rest → Apart (ink kinds.Global (global_text name) gap ∷ rest)
global_in_front name gap rest is blank ends more = record { parted = (global_is name is, tt, blank, ends, more.parted) }

comma_in_front : (rest : List Inked) → Apart rest → Apart (comma ∷ rest)
comma_in_front rest more = punct_in_front 44 space rest refl refl more

word_space : (text : List ℕ) (rest : List Inked) → IsPlainWord text → Apart rest → Apart (word text space ∷ rest)
word_space text rest is more = word_in_front text space rest is refl (refl, refl) more

word_line : (text : List ℕ) (rest : List Inked) → IsPlainWord text → Apart rest → Apart (word text line ∷ rest)
word_line text rest is more = word_in_front text line rest is refl (refl, refl) more

word_indented : (text : List ℕ) (rest : List Inked) → IsPlainWord text → Apart rest → Apart (word text indented ∷ rest)
word_indented text rest is more = word_in_front text indented rest is refl (refl, refl) more

-- ---- names and values

name_found : (o : Option Name) (put : IsPutName o) → IsText kinds.Local (option_map_or local_text o [])
name_found o put = let P : Option Name → Type 0 = λ o. IsText kinds.Local (option_map_or local_text o []) in subst P (sym put.1) (local_is put.0 put.2)

variable_is : (m : Program) (f : Function) (v : Variable) → IsPutVariable m f v → IsText (variable_kind v) (variable_text m f v) × IsKept (variable_kind v) (variable_text m f v)
variable_is m f (variable.Local v) put =
    let P : Option (Width × Name) → Type 0 = λ o. IsText kinds.Local (option_map_or (λ x. local_text x.1) o []) in
    (subst P (sym put.1) (local_is put.0.1 put.2), tt)
variable_is m f (variable.Global g) put =
    let P : Option Global → Type 0 = λ o. IsText kinds.Global (option_map_or (λ x. global_text x.name) o []) in
    (subst P (sym put.1) (global_is put.0.name put.2), tt)

variable_ends : (v : Variable) (more : List ℕ) → Ends kinds.Word more → Ends (variable_kind v) more
variable_ends (variable.Local v) more ends = ends
variable_ends (variable.Global g) more ends = ends

target_name : (f : Function) (t : ℕ) → IsPutTarget f t → IsText kinds.Local (block_name f t)
target_name f t put = let P : Option Block → Type 0 = λ o. IsText kinds.Local (option_map_or (λ x. local_text x.name) o []) in subst P (sym put.1) (local_is put.0.name put.2)

target_in_front : (f : Function) (t : ℕ) (gap : List ℕ) (rest : List Inked) → IsPutTarget f t → IsTrue (list_all is_blank gap) → Ends kinds.Word (gap ++ inked rest) → Apart rest → Apart (target f t gap rest)
target_in_front f t gap rest put blank ends more =
    word_space (codes "label") (local (block_name f t) gap ∷ rest) (((lit< tt, refl), refl), refl) (local_in_front (block_name f t) gap rest (target_name f t put) blank ends more)

module _ (f : Function) (b : Block) where
  value_in_front : (w : Width) (o : Operand) (gap : List ℕ) (rest : List Inked) → IsPutValue f b w o → IsTrue (list_all is_blank gap) → Ends kinds.Word (gap ++ inked rest) → Apart rest → Apart (value_ink f b w o gap ∷ rest)
  value_in_front w (Const n) gap rest put blank ends more = constant_in_front w n gap rest blank ends more
  value_in_front w (Param p) gap rest put blank ends more = local_in_front (value_text f b w (Param p)) gap rest (name_found (operand_name f b (Param p)) put) blank ends more
  value_in_front w (Reg r) gap rest put blank ends more = local_in_front (value_text f b w (Reg r)) gap rest (name_found (operand_name f b (Reg r)) put) blank ends more

  typed_parted : (w : Width) (o : Operand) (gap : List ℕ) (rest : List Inked) → IsPutValue f b w o → IsTrue (list_all is_blank gap) → Ends kinds.Word (gap ++ inked rest) → Apart rest → Apart (typed f b w o gap rest)
  typed_parted w o gap rest put blank ends more = word_space (width_text w) (value_ink f b w o gap ∷ rest) (width_word w) (value_in_front w o gap rest put blank ends more)

  -- before a comma
  typed_comma : (w : Width) (o : Operand) (rest : List Inked) → IsPutValue f b w o → Apart rest → Apart (typed f b w o [] (comma ∷ rest))
  typed_comma w o rest put more = typed_parted w o [] (comma ∷ rest) put refl (refl, refl) (comma_in_front rest more)

  operands_parted : (w : Width) (os : List Operand) (rest : List Inked) → ArePutTwo f b w os → Apart rest → Apart (operands f b w os rest)
  operands_parted w [] rest put more = absurd put
  operands_parted w (o ∷ []) rest put more = absurd put
  operands_parted w (one ∷ other ∷ []) rest put more = typed_comma w one (value_ink f b w other indented ∷ rest) put.0 (value_in_front w other indented rest put.1 refl (refl, refl) more)
  operands_parted w (o ∷ p ∷ q ∷ os) rest put more = absurd put

  cast_parted : (from to : Width) (os : List Operand) (rest : List Inked) → IsPutOne f b from os → Apart rest → Apart (cast_operand f b from to os rest)
  cast_parted from to [] rest put more = absurd put
  cast_parted from to (one ∷ []) rest put more =
      typed_parted from one space (word (codes "to") space ∷ word (width_text to) indented ∷ rest) put refl (refl, refl)
      (word_space (codes "to") (word (width_text to) indented ∷ rest) (((lit< tt, refl), refl), refl) (word_indented (width_text to) rest (width_word to) more))
  cast_parted from to (o ∷ p ∷ os) rest put more = absurd put

  choices_parted : (w : Width) (os : List Operand) (rest : List Inked) → ArePutThree f b w os → Apart rest → Apart (choices f b w os rest)
  choices_parted w [] rest put more = absurd put
  choices_parted w (o ∷ []) rest put more = absurd put
  choices_parted w (o ∷ p ∷ []) rest put more = absurd put
  choices_parted w (test ∷ one ∷ other ∷ []) rest put more =
      typed_comma I1 test (typed f b w one [] (comma ∷ typed f b w other indented rest)) put.0
      (typed_comma w one (typed f b w other indented rest) put.1 (typed_parted w other indented rest put.2 refl (refl, refl) more))
  choices_parted w (o ∷ p ∷ q ∷ r ∷ os) rest put more = absurd put

  operation_parted : (o : Op) (os : List Operand) (rest : List Inked) → IsPutOperation f b o os → Apart rest → Apart (operation f b o os rest)
  operation_parted (op.Bin o w) os rest put more = word_space (bin_text o) (operands f b w os rest) (bin_word o) (operands_parted w os rest put more)
  operation_parted (op.Icmp p w) os rest put more =
      word_space (codes "icmp") (word (pred_text p) space ∷ operands f b w os rest) (((lit< tt, refl), refl), refl)
      (word_space (pred_text p) (operands f b w os rest) (pred_word p) (operands_parted w os rest put more))
  operation_parted (op.Cast o from to) os rest put more = word_space (cast_text o) (cast_operand f b from to os rest) (cast_word o) (cast_parted from to os rest put more)
  operation_parted (op.Select w) os rest put more = word_space (codes "select") (choices f b w os rest) (((lit< tt, refl), refl), refl) (choices_parted w os rest put more)

  -- what arguments and their commas end with is a mark
  record Closes (rest : List Inked) : Type 0 where
    apart : Apart rest
    ends : Ends kinds.Word (inked rest)

  more_closes : (ps : List (Width × Name)) (os : List Operand) (rest : List Inked) → ArePutArguments f b ps os → Closes rest → Closes (more_arguments f b ps os rest)
  unfolding more_arguments
  more_closes [] os rest put closes = closes
  more_closes (p ∷ ps) [] rest put closes = closes
  more_closes (p ∷ ps) (o ∷ os) rest put closes =
      let more = more_closes ps os rest put.1 closes in
      record {
        apart = comma_in_front (typed f b p.0 o [] (more_arguments f b ps os rest)) (typed_parted p.0 o [] (more_arguments f b ps os rest) put.0 refl more.ends more.apart);
        ends = (refl, refl);
      }

  arguments_parted : (ps : List (Width × Name)) (os : List Operand) (rest : List Inked) → ArePutArguments f b ps os → Closes rest → Apart (arguments f b ps os rest)
  arguments_parted [] os rest put closes = closes.apart
  arguments_parted (p ∷ ps) [] rest put closes = closes.apart
  arguments_parted (p ∷ ps) (o ∷ os) rest put closes =
      let more = more_closes ps os rest put.1 closes in
      typed_parted p.0 o [] (more_arguments f b ps os rest) put.0 refl more.ends more.apart

  call_parted : (os : List Operand) (g : Function) (rest : List Inked) → IsNameText g.name → ArePutArguments f b g.params os → Apart rest → Apart (call f b os g rest)
  call_parted os g rest named put more =
      let close : Closes (punct (codes ")") indented ∷ rest) = record { apart = punct_in_front 41 indented rest refl refl more; ends = (refl, refl) } in
      word_space (codes "call") _ (((lit< tt, refl), refl), refl)
      (word_space (type_text g.ret) _ (type_word g.ret)
      (global_in_front g.name [] _ named refl (refl, refl)
      (punct_in_front 40 [] _ refl refl (arguments_parted g.params os (punct (codes ")") indented ∷ rest) put close))))

  found_parted : (os : List Operand) (found : Option Function) (g : Function) (rest : List Inked) → found ≡ Some g → IsNameText g.name → ArePutArguments f b g.params os → Apart rest → Apart (call_of f b os found rest)
  found_parted os found g rest e named put more = let P : Option Function → Type 0 = λ o. Apart (call_of f b os o rest) in subst P (sym e) (call_parted os g rest named put more)

module _ (m : Program) (f : Function) where
  address_parted : (v : Variable) (rest : List Inked) → IsPutVariable m f v → Apart rest → Apart (address m f v rest)
  address_parted v rest put more =
      let is = variable_is m f v put in
      comma_in_front _ (word_space (codes "ptr") _ (((lit< tt, refl), refl), refl) (record { parted = (is.0, is.1, refl, variable_ends v (indented ++ inked rest) (refl, refl), more.parted) }))

  kind_parted : (b : Block) (k : Kind) (rest : List Inked) → IsPutKind m f b k → Apart rest → Apart (kind_script m f b k rest)
  kind_parted b (Load v) rest put more =
      word_space (codes "load") _ (((lit< tt, refl), refl), refl)
      (word_in_front (width_text (Rattle.ir_printer.specs.Text.variable_type m f v)) [] (address m f v rest) (width_word (Rattle.ir_printer.specs.Text.variable_type m f v)) refl (refl, refl) (address_parted v rest put more))
  kind_parted b (Store o v) rest put more =
      word_space (codes "store") _ (((lit< tt, refl), refl), refl)
      (typed_parted f b (Rattle.ir_printer.specs.Text.variable_type m f v) o [] (address m f v rest) put.0 refl (refl, refl) (address_parted v rest put.1 more))
  kind_parted b (Compute o os) rest put more = operation_parted f b o os rest put more
  kind_parted b (Call c os) rest put more = found_parted f b os (slice_get m.functions c) put.0 rest put.1 put.2 put.3 more

  result_parted : (r : Option Name) (rest : List Inked) → IfSome r IsSpellable → Apart rest → Apart (result_script r rest)
  result_parted None rest is more = more
  result_parted (Some name) rest is more = local_in_front (local_text name) space _ (local_is name is) refl (refl, refl) (punct_in_front 61 space rest refl refl more)

  instrs_parted : (b : Block) (is : List Instr) (rest : List Inked) → AllByRecursion (IsPutInstr m f b) is → Apart rest → Apart (instrs_script m f b is rest)
  unfolding instrs_script
  instrs_parted b [] rest put more = more
  instrs_parted b (i ∷ is) rest put more = result_parted i.result _ put.0.named (kind_parted b i.kind _ put.0.kind (instrs_parted b is rest put.1 more))

allocas_parted : (xs : List (Width × Name)) (rest : List Inked) → AllByRecursion (λ x. IsSpellable x.1) xs → Apart rest → Apart (allocas_script xs rest)
unfolding allocas_script
allocas_parted [] rest put more = more
allocas_parted (x ∷ xs) rest put more =
    local_in_front (local_text x.1) space _ (local_is x.1 put.0) refl (refl, refl)
    (punct_in_front 61 space _ refl refl
    (word_space (codes "alloca") _ (((lit< tt, refl), refl), refl) (word_indented (width_text x.0) _ (width_word x.0) (allocas_parted xs rest put.1 more))))

module _ (f : Function) (b : Block) where
  cases_parted : (w : Width) (cs : List (ℕ × ℕ)) (rest : List Inked) → AllByRecursion (IsPutCase f w) cs → Apart rest → Apart (cases_script f w cs rest)
  unfolding cases_script
  cases_parted w [] rest put more = more
  cases_parted w (c ∷ cs) rest put more =
      word_space (width_text w) _ (width_word w)
      (constant_in_front w c.0 [] _ refl (refl, refl)
      (comma_in_front _ (target_in_front f c.1 space _ put.0.1 refl (refl, refl) (cases_parted w cs rest put.1 more))))

  term_parted : (t : Terminator) (rest : List Inked) → IsPutTerm f b t → Apart rest → Apart (term_script f b t rest)
  term_parted (Return None) rest put more = word_space (codes "ret") _ (((lit< tt, refl), refl), refl) (word_line (codes "void") rest (((lit< tt, refl), refl), refl) more)
  term_parted (Return (Some o)) rest put more =
      let P : Option Width → Type 0 = λ r. Apart (word (codes "ret") space ∷ returned f b o r rest) in
      subst P (sym put.1) (word_space (codes "ret") _ (((lit< tt, refl), refl), refl) (typed_parted f b put.0 o line rest put.2 refl (refl, refl) more))
  term_parted (Jump t) rest put more = word_space (codes "br") _ (((lit< tt, refl), refl), refl) (target_in_front f t line rest put refl (refl, refl) more)
  term_parted (Branch o t u) rest put more =
      word_space (codes "br") _ (((lit< tt, refl), refl), refl)
      (typed_comma f b I1 o _ put.0 (target_in_front f t [] _ put.1 refl (refl, refl) (comma_in_front _ (target_in_front f u line rest put.2 refl (refl, refl) more))))
  term_parted (Switch w o t cases) rest put more =
      word_space (codes "switch") _ (((lit< tt, refl), refl), refl)
      (typed_comma f b w o _ put.0 (target_in_front f t space _ put.1 refl (refl, refl)
      (punct_in_front 91 space _ refl refl (cases_parted w cases _ put.2 (punct_in_front 93 line rest refl refl more)))))
  term_parted Unreachable rest put more = word_line (codes "unreachable") rest (((lit< tt, refl), refl), refl) more

module _ (m : Program) (f : Function) where
  block_parted : (vars : List (Width × Name)) (b : Block) (rest : List Inked) → AllByRecursion (λ x. IsSpellable x.1) vars → IsPutBlock m f b → Apart rest → Apart (block_script m f vars b rest)
  block_parted vars b rest names put more =
      record { parted = (label_is b.name put.label, tt, refl, tt, (allocas_parted vars _ names (instrs_parted m f b b.instrs _ put.instrs (term_parted f b b.term rest put.term more))).parted) }

  later_parted : (bs : List Block) (rest : List Inked) → AllByRecursion (IsPutBlock m f) bs → Apart rest → Apart (later_blocks m f bs rest)
  unfolding later_blocks
  later_parted [] rest put more = more
  later_parted (b ∷ bs) rest put more = block_parted [] b _ tt put.0 (later_parted bs rest put.1 more)

-- ---- functions and globals

-- what ends a parameter, and what stands behind it
record Ended (rest : List Inked) : Type 0 where
  apart : Apart rest
  ends : Ends kinds.Word (inked rest)

-- a parameter in front of a mark
record Leads (one : Width × Name → List Inked → List Inked) (Is : Width × Name → Type 0) : Type 0 where
  leads : (p : Width × Name) (rest : List Inked) → Is p → Ended rest → Apart (one p rest)

type_leads : Leads type_script (λ p. Unit {0})
type_leads = record { leads = λ p rest is ended. word_in_front (width_text p.0) [] rest (width_word p.0) refl ended.ends ended.apart }

param_leads : Leads param_script (λ p. IsSpellable p.1)
param_leads = record { leads = λ p rest is ended. word_space (width_text p.0) _ (width_word p.0) (local_in_front (local_text p.1) [] rest (local_is p.1 is) refl ended.ends ended.apart) }

module _ (one : Width × Name → List Inked → List Inked) (Is : Width × Name → Type 0) (each : Leads one Is) where
  more_ended : (ps : List (Width × Name)) (rest : List Inked) → AllByRecursion Is ps → Ended rest → Ended (more_params one ps rest)
  unfolding more_params
  more_ended [] rest is ended = ended
  more_ended (p ∷ ps) rest is ended = record { apart = comma_in_front _ (each.leads p (more_params one ps rest) is.0 (more_ended ps rest is.1 ended)); ends = (refl, refl) }

  params_parted : (ps : List (Width × Name)) (rest : List Inked) → AllByRecursion Is ps → Ended rest → Apart (params_script one ps rest)
  params_parted [] rest is ended = ended.apart
  params_parted (p ∷ ps) rest is ended = each.leads p (more_params one ps rest) is.0 (more_ended ps rest is.1 ended)

  head_parted : (f : Function) (gap : List ℕ) (rest : List Inked) → IsNameText f.name → AllByRecursion Is f.params → IsTrue (list_all is_blank gap) → Apart rest → Apart (head_script f one gap rest)
  head_parted f gap rest named is blank more =
      word_space (type_text f.ret) _ (type_word f.ret)
      (global_in_front f.name [] _ named refl (refl, refl)
      (punct_in_front 40 [] _ refl refl (params_parted f.params _ is (record { apart = punct_in_front 41 gap rest refl blank more; ends = (refl, refl) }))))

any_params : (ps : List (Width × Name)) → AllByRecursion (λ (p : Width × Name). Unit {0}) ps
any_params [] = tt
any_params (p ∷ ps) = (tt, any_params ps)

module _ (m : Program) where
  function_parted : (f : Function) (bs : List Block) (gap : List ℕ) (rest : List Inked) → IsPutFunction m f → AllByRecursion (IsPutBlock m f) bs → IsTrue (list_all is_blank gap) → Apart rest → Apart (function_script m f bs gap rest)
  function_parted f [] gap rest put blocks blank more =
      word_space (codes "declare") _ (((lit< tt, refl), refl), refl) (head_parted type_script (λ (p : Width × Name). Unit {0}) type_leads f gap rest put.named (any_params f.params) blank more)
  function_parted f (b ∷ bs) gap rest put blocks blank more =
      word_space (codes "define") _ (((lit< tt, refl), refl), refl)
      (head_parted param_script (λ (p : Width × Name). IsSpellable p.1) param_leads f space _ put.named put.params refl
      (punct_in_front 123 line _ refl refl
      (block_parted m f f.vars b _ put.vars blocks.0 (later_parted m f bs _ blocks.1 (punct_in_front 125 gap rest refl blank more)))))

  gap_is : (fs : List Function) → IsTrue (list_all is_blank (gap_before fs))
  gap_is [] = refl
  gap_is (f ∷ fs) = refl

  functions_parted : (fs : List Function) → AllByRecursion (IsPutFunction m) fs → Apart (functions_script m fs)
  unfolding functions_script
  functions_parted [] put = record { parted = tt }
  functions_parted (f ∷ fs) put = function_parted f f.blocks (gap_before fs) (functions_script m fs) put.0 put.0.blocks (gap_is fs) (functions_parted fs put.1)

  global_parted : (g : Global) (gap : List ℕ) (rest : List Inked) → IsPutGlobal g → IsTrue (list_all is_blank gap) → Ends kinds.Word (gap ++ inked rest) → Apart rest → Apart (global_script g gap rest)
  global_parted g gap rest put blank ends more =
      global_in_front g.name space _ put.named refl (refl, refl)
      (punct_in_front 61 space _ refl refl
      (word_space (codes "global") _ (((lit< tt, refl), refl), refl)
      (word_space (width_text g.width) _ (width_word g.width) (constant_in_front g.width g.value gap rest blank ends more))))

  gap_ends : (fs : List Function) (rest : List Inked) → Ends kinds.Word (gap_before fs ++ inked rest)
  gap_ends [] rest = (refl, refl)
  gap_ends (f ∷ fs) rest = (refl, refl)

  globals_parted : (gs : List Global) (fs : List Function) → AllByRecursion IsPutGlobal gs → AllByRecursion (IsPutFunction m) fs → Apart (globals_script m gs fs)
  unfolding globals_script
  globals_parted [] fs put functions = functions_parted fs functions
  globals_parted (g ∷ []) fs put functions = global_parted g (gap_before fs) (functions_script m fs) put.0 (gap_is fs) (gap_ends fs (functions_script m fs)) (functions_parted fs functions)
  globals_parted (g ∷ h ∷ gs) fs put functions = global_parted g line _ put.0 refl (refl, refl) (globals_parted (h ∷ gs) fs put.1 functions)

  pub script_parted : IsPutModule m → IsParted (script_of m)
  script_parted put = (globals_parted m.globals m.functions put.globals put.functions).parted
