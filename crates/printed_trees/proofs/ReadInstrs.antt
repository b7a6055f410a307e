-- The instructions of a canonical text, read.
use Rattle.std.proofs.Common.{◌≡◌, ℕ, Bool, true, false, cond, ◌||◌, ◌==◌, List, [], ◌∷◌, Option, Some, None, codes, slice_get, refl, sym, ap, subst, ◌∙◌}
use Rattle.std.specs.Prelude.{IfSome}
use Rattle.std.specs.List.{AllByRecursion, AllZip}
use Rattle.std.specs.Option.{option_map_or}
use Rattle.mc_num.specs.declared.op.Width.{Width}
use Rattle.mc_num.specs.declared.op.Width.TheVariants.{I1, I8, I16, I32, I64}
use Rattle.mc_num.specs.declared.op.Bin.{Bin}
use Rattle.mc_num.specs.declared.op.Cast.{Cast}
use Rattle.mc_num.specs.declared.op.Op.{Op}
use Rattle.mc_num.specs.declared.op.Op.TheVariants as op
use Rattle.ir_types.specs.Names.{IsNameText, IsSpellable}
use Rattle.ir_types.specs.Program.{Program}
use Rattle.ir_types.specs.WellFormed.{scope, variable_width, widths}
use Rattle.ir_types.specs.TreeOf.{value_tree, address_tree, type_tree, AreTreeArguments, IsTreeKind, IsTreeResult, IsTreeInstr}
use Rattle.ir_types.specs.declared.span.At.{At}
use Rattle.ir_types.specs.declared.span.Span.{Span}
use Rattle.ir_types.specs.declared.name.Name.{Name}
use Rattle.ir_types.specs.declared.syntax.Operand.{Operand}
use Rattle.ir_types.specs.declared.syntax.Operand.TheVariants.{Const, Param, Reg}
use Rattle.ir_types.specs.declared.syntax.Variable.{Variable}
use Rattle.ir_types.specs.declared.syntax.Variable.TheVariants as variable
use Rattle.ir_types.specs.declared.syntax.Kind.{Kind}
use Rattle.ir_types.specs.declared.syntax.Kind.TheVariants.{Load, Store, Compute, Call}
use Rattle.ir_types.specs.declared.syntax.Instr.{Instr}
use Rattle.ir_types.specs.declared.syntax.Block.{Block}
use Rattle.ir_types.specs.declared.syntax.Function.{Function}
use Rattle.ir_types.specs.declared.syntax.Global.{Global}
use Rattle.ir_types.specs.declared.tree.RawArg.{RawArg}
use Rattle.ir_types.specs.declared.tree.Ty.TheVariants.{Int}
use Rattle.ir_lexer.specs.Texts.{Inked}
use Rattle.ir_lexer.specs.declared.token.TokenKind.TheVariants as kinds
use Rattle.grammar.specs.Grammar.{repeated}
use Rattle.ir_parser.specs.Tokens.{G, ◌~◌, ◌▸◌, ◌◂◌, ◌∣◌, word, mark, comma, one_of, local, global, led, or_none}
use Rattle.ir_parser.specs.Values.{int_type, value, addr, attribute_words, flag_words, attach, extra}
use Rattle.ir_parser.specs.Calls.{arg, next_arg, some_args, args, call_word, call_words, call, phi}
use Rattle.ir_parser.specs.Instrs.{binop, castop, flags, alloca, load, binary, compare, convert, select, computing, giving, store, result_name, giving_instr, storing_instr, bare_instr, instr}
use Rattle.ir_printer.specs.Text.{type_text, variable_type}
use Rattle.printed_trees.proofs.Placed.{at_place, Reads, Begins, both, made, second, first, left, right, no_option, some_option, none_more, one_more, weaker}
use Rattle.printed_trees.proofs.Put.{IsPutValue, IsPutVariable, ArePutTwo, IsPutOne, ArePutThree, IsPutOperation, ArePutArguments, IsPutKind, IsPutInstr}
use Rattle.printed_trees.proofs.ReadValues.{type_reads, type_begins, ret_reads, word_reads, mark_reads, local_reads, global_reads, value_reads, variable_reads, no_words, no_attach, no_extra}
use Rattle.printed_trees.proofs.ReadWords.{bin_reads, pred_reads, cast_reads, bin_no_alloca, bin_no_load, bin_begins, cast_no_alloca, cast_no_load, cast_no_binary, cast_no_compare, cast_begins, type_no_flag, pred_no_flag}
use Rattle.printed_trees.proofs.Scripts as script

-- what follows a line begins nothing that is dropped
pub record Follows (rest : List Inked) : Type 0 where
  pub no_attach : Begins attach rest false
  pub no_extra : Begins extra rest false

pub comma_reads : (rest : List Inked) → Reads comma (script.comma ∷ rest) rest (λ t. Unit {0})
comma_reads rest = mark_reads (codes ",") script.space rest (λ s. refl)

-- a word, and where it stands
word_at : (text gap : List ℕ) (rest : List Inked) → ((s : Span) → Rattle.ir_parser.specs.Tokens.is_spelled kinds.Word text (at_place (script.word text gap) s) ≡ true) → Reads (word text) (script.word text gap ∷ rest) rest (λ t. Unit {0})
word_at text gap rest passes = word_reads text gap rest passes

-- ---- the type of a variable

pub variable_typed : (m : Program) (f : Function) (v : Variable) → IsPutVariable m f v → variable_width (scope m f) v ≡ Some (variable_type m f v)
variable_typed m f (variable.Local v) put = local_typed (slice_get f.vars v) refl
  where
    local_typed : (o : Option (Width × Name)) → slice_get f.vars v ≡ o → slice_get (widths f.vars) v ≡ Some (option_map_or (λ x. x.0) o Rattle.mc_num.specs.declared.op.Width.TheVariants.I32)
    local_typed None e = absurd (let f : Some put.0 ≡ None = sym put.1 ∙ e in cc)
    local_typed (Some x) e = Rattle.std.proofs.lemmas.Option.slice_get-map (λ (x : Width × Name). x.0) f.vars v ∙ ap (Rattle.std.specs.Prelude.option_map (λ (x : Width × Name). x.0)) e
variable_typed m f (variable.Global g) put = global_typed (slice_get m.globals g) refl
  where
    global_typed : (o : Option Global) → slice_get m.globals g ≡ o → slice_get (Rattle.std.specs.Prelude.map (λ (x : Global). x.width) m.globals) g ≡ Some (option_map_or (λ x. x.width) o Rattle.mc_num.specs.declared.op.Width.TheVariants.I32)
    global_typed None e = absurd (let f : Some put.0 ≡ None = sym put.1 ∙ e in cc)
    global_typed (Some x) e = Rattle.std.proofs.lemmas.Option.slice_get-map (λ (x : Global). x.width) m.globals g ∙ ap (Rattle.std.specs.Prelude.option_map (λ (x : Global). x.width)) e

pub or_first : (x y : Bool) → x ≡ true → x || y ≡ true
or_first x y e = rw e refl

or_third : (x y z u : Bool) → z ≡ true → x || (y || (z || u)) ≡ true
or_third true y z u e = refl
or_third false true z u e = refl
or_third false false z u e = rw e refl

or_second : (x y : Bool) → y ≡ true → x || y ≡ true
or_second true y e = refl
or_second false y e = e

-- no value is an attribute
bool_no_attribute : (c : Bool) (gap : List ℕ) (rest : List Inked) → Begins (one_of attribute_words) (script.word (cond c (codes "true") (codes "false")) gap ∷ rest) false
bool_no_attribute true gap rest = record { begins = λ spans. refl }
bool_no_attribute false gap rest = record { begins = λ spans. refl }

value_no_attribute : (f : Function) (b : Block) (w : Width) (o : Operand) (gap : List ℕ) (rest : List Inked) → Begins (one_of attribute_words) (script.value_ink f b w o gap ∷ rest) false
value_no_attribute f b I1 (Const n) gap rest = bool_no_attribute (n == 1) gap rest
value_no_attribute f b I8 (Const n) gap rest = record { begins = λ spans. refl }
value_no_attribute f b I16 (Const n) gap rest = record { begins = λ spans. refl }
value_no_attribute f b I32 (Const n) gap rest = record { begins = λ spans. refl }
value_no_attribute f b I64 (Const n) gap rest = record { begins = λ spans. refl }
value_no_attribute f b w (Param p) gap rest = record { begins = λ spans. refl }
value_no_attribute f b w (Reg r) gap rest = record { begins = λ spans. refl }

type_text_begins : (o : Option Width) (rest : List Inked) → Begins (one_of (codes "ccc" ∷ attribute_words)) (script.word (type_text o) script.space ∷ rest) false
type_text_begins None rest = record { begins = λ spans. refl }
type_text_begins (Some I1) rest = record { begins = λ spans. refl }
type_text_begins (Some I8) rest = record { begins = λ spans. refl }
type_text_begins (Some I16) rest = record { begins = λ spans. refl }
type_text_begins (Some I32) rest = record { begins = λ spans. refl }
type_text_begins (Some I64) rest = record { begins = λ spans. refl }

call_word_begins : (f : Function) (b : Block) (os : List Operand) (g : Function) (rest : List Inked) → Begins call (script.call f b os g rest) true
unfolding call call_word
call_word_begins f b os g rest = record { begins = λ spans. refl }

-- ---- operations

module _ (f : Function) (b : Block) where
  -- a type and a value
  pub typed_reads : (w : Width) (o : Operand) (gap : List ℕ) (rest : List Inked) → IsPutValue f b w o → Reads (int_type ~ value) (script.typed f b w o gap rest) rest (λ x. (x.0.item ≡ w) × (x.1.item ≡ value_tree f b w o))
  typed_reads w o gap rest put = both _ _ _ _ rest _ _ (type_reads w script.space _) (value_reads f b w o gap rest put)

  -- a type and two values, behind flags of which there are none
  two_read : (w : Width) (one other : Operand) (rest : List Inked) → IsPutValue f b w one → IsPutValue f b w other
      → Reads (int_type ~ value ~ comma ▸ value) (script.operands f b w (one ∷ other ∷ []) rest) rest (λ x. (x.0.item ≡ w) × ((x.1.0.item ≡ value_tree f b w one) × (x.1.1.item ≡ value_tree f b w other)))
  two_read w one other rest p q =
      both _ _ _ _ rest _ _ (type_reads w script.space _)
      (both _ _ _ _ rest _ _ (value_reads f b w one [] _ p) (second _ _ _ _ rest _ _ (comma_reads _) (value_reads f b w other script.indented rest q)))

  binary_reads : (m : Program) (o : Bin) (w : Width) (os : List Operand) (rest : List Inked) → ArePutTwo f b w os → Reads binary (script.operation f b (op.Bin o w) os rest) rest (λ x. IsTreeKind m f b (Compute (op.Bin o w) os) x.1)
  unfolding binary flags
  binary_reads m o w [] rest put = absurd put
  binary_reads m o w (p ∷ []) rest put = absurd put
  binary_reads m o w (one ∷ other ∷ []) rest put =
      made _ _ _ rest (λ x. (x.0.item ≡ o) × ((x.1.0.item ≡ w) × ((x.1.1.0.item ≡ value_tree f b w one) × (x.1.1.1.item ≡ value_tree f b w other)))) _ (λ x p. (p.0, p.1.0, p.1.1))
      (both _ _ _ _ rest _ _ (bin_reads o script.space _) (second _ _ _ _ rest _ _ (no_words flag_words _ (type_no_flag w script.space _)) (two_read w one other rest put.0 put.1)))
  binary_reads m o w (p ∷ q ∷ r ∷ os) rest put = absurd put

  compare_reads : (m : Program) (p : _) (w : Width) (os : List Operand) (rest : List Inked) → ArePutTwo f b w os → Reads compare (script.operation f b (op.Icmp p w) os rest) rest (λ x. IsTreeKind m f b (Compute (op.Icmp p w) os) x.1)
  unfolding compare flags
  compare_reads m p w [] rest put = absurd put
  compare_reads m p w (o ∷ []) rest put = absurd put
  compare_reads m p w (one ∷ other ∷ []) rest put =
      made _ _ _ rest (λ x. Unit {0} × ((x.1.0.item ≡ p) × ((x.1.1.0.item ≡ w) × ((x.1.1.1.0.item ≡ value_tree f b w one) × (x.1.1.1.1.item ≡ value_tree f b w other))))) _ (λ x h. (h.1.0, h.1.1.0, h.1.1.1))
      (both _ _ _ _ rest _ _ (word_at (codes "icmp") script.space _ (λ s. refl))
      (second _ _ _ _ rest _ _ (no_words flag_words _ (pred_no_flag p script.space _))
      (both _ _ _ _ rest _ _ (pred_reads p script.space _) (two_read w one other rest put.0 put.1))))
  compare_reads m p w (o ∷ q ∷ r ∷ os) rest put = absurd put

  convert_reads : (m : Program) (c : Cast) (from to : Width) (os : List Operand) (rest : List Inked) → IsPutOne f b from os → Reads convert (script.operation f b (op.Cast c from to) os rest) rest (λ x. IsTreeKind m f b (Compute (op.Cast c from to) os) x.1)
  unfolding convert flags
  convert_reads m c from to [] rest put = absurd put
  convert_reads m c from to (one ∷ []) rest put =
      made _ _ _ rest (λ x. (x.0.item ≡ c) × ((x.1.0.item ≡ from) × ((x.1.1.0.item ≡ value_tree f b from one) × (x.1.1.1.item ≡ to)))) _ (λ x p. (p.0, p.1.0, p.1.1.1, p.1.1.0))
      (both _ _ _ _ rest _ _ (cast_reads c script.space _)
      (second _ _ _ _ rest _ _ (no_words flag_words _ (type_no_flag from script.space _))
      (both _ _ _ _ rest _ _ (type_reads from script.space _)
      (both _ _ _ _ rest _ _ (value_reads f b from one script.space _ put)
      (second _ _ _ _ rest _ _ (word_at (codes "to") script.space _ (λ s. refl)) (type_reads to script.indented rest))))))
  convert_reads m c from to (p ∷ q ∷ os) rest put = absurd put

  select_reads : (m : Program) (w : Width) (os : List Operand) (rest : List Inked) → ArePutThree f b w os → Reads select (script.operation f b (op.Select w) os rest) rest (λ x. IsTreeKind m f b (Compute (op.Select w) os) x.1)
  unfolding select
  select_reads m w [] rest put = absurd put
  select_reads m w (p ∷ []) rest put = absurd put
  select_reads m w (p ∷ q ∷ []) rest put = absurd put
  select_reads m w (test ∷ one ∷ other ∷ []) rest put =
      made _ _ _ rest (λ x. Unit {0} × ((x.1.0.item ≡ value_tree f b I1 test) × ((x.1.1.0.item ≡ w) × ((x.1.1.1.0.item ≡ value_tree f b w one) × ((x.1.1.1.1.0.item ≡ w) × (x.1.1.1.1.1.item ≡ value_tree f b w other)))))) _
      (λ x p. (p.1.1.0, p.1.1.1.1.0, (p.1.0, p.1.1.1.0, p.1.1.1.1.1)))
      (both _ _ _ _ rest _ _ (word_at (codes "select") script.space _ (λ s. refl))
      (second _ _ _ _ rest _ _ (word_at (codes "i1") script.space _ (λ s. refl))
      (both _ _ _ _ rest _ _ (value_reads f b I1 test [] _ put.0)
      (second _ _ _ _ rest _ _ (comma_reads _)
      (both _ _ _ _ rest _ _ (type_reads w script.space _)
      (both _ _ _ _ rest _ _ (value_reads f b w one [] _ put.1)
      (second _ _ _ _ rest _ _ (comma_reads _)
      (both _ _ _ _ rest _ _ (type_reads w script.space _) (value_reads f b w other script.indented rest put.2)))))))))
  select_reads m w (p ∷ q ∷ r ∷ s ∷ os) rest put = absurd put

  computing_reads : (m : Program) (o : Op) (os : List Operand) (rest : List Inked) → IsPutOperation f b o os → Reads computing (script.operation f b o os rest) rest (λ x. IsTreeKind m f b (Compute o os) x.1)
  unfolding computing binary compare convert select binop castop
  computing_reads m (op.Bin o w) os rest put = left _ _ _ rest _ (bin_begins o script.space _) (binary_reads m o w os rest put)
  computing_reads m (op.Icmp p w) os rest put = right _ _ _ rest _ (record { begins = λ spans. refl }) (left _ _ _ rest _ (record { begins = λ spans. refl }) (compare_reads m p w os rest put))
  computing_reads m (op.Cast c from to) os rest put =
      right _ _ _ rest _ (cast_no_binary c script.space _)
      (right _ _ _ rest _ (cast_no_compare c script.space _)
      (left _ _ _ rest _ (cast_begins c script.space _) (convert_reads m c from to os rest put)))
  computing_reads m (op.Select w) os rest put =
      right _ _ _ rest _ (record { begins = λ spans. refl })
      (right _ _ _ rest _ (record { begins = λ spans. refl })
      (right _ _ _ rest _ (record { begins = λ spans. refl }) (select_reads m w os rest put)))

  -- an operation begins none of what stands before it in the grammar, and itself
  record OperationBegins (o : Op) (os : List Operand) (rest : List Inked) : Type 0 where
    no_alloca : Begins alloca (script.operation f b o os rest) false
    no_load : Begins load (script.operation f b o os rest) false
    begins : Begins computing (script.operation f b o os rest) true

  operation_begins : (o : Op) (os : List Operand) (rest : List Inked) → OperationBegins o os rest
  unfolding alloca load computing binary compare convert select binop castop
  operation_begins (op.Bin o w) os rest = record {
    no_alloca = bin_no_alloca o script.space _;
    no_load = bin_no_load o script.space _;
    begins = record { begins = λ spans. or_first _ _ ((bin_begins o script.space (script.operands f b w os rest)).begins spans) };
  }
  operation_begins (op.Icmp p w) os rest = record { no_alloca = record { begins = λ spans. refl }; no_load = record { begins = λ spans. refl }; begins = record { begins = λ spans. refl } }
  operation_begins (op.Cast c from to) os rest = record {
    no_alloca = cast_no_alloca c script.space _;
    no_load = cast_no_load c script.space _;
    begins = record { begins = λ spans. or_third _ _ _ _ ((cast_begins c script.space (script.cast_operand f b from to os rest)).begins spans) };
  }
  operation_begins (op.Select w) os rest = record { no_alloca = record { begins = λ spans. refl }; no_load = record { begins = λ spans. refl }; begins = record { begins = λ spans. refl } }

  -- ---- calls

  some_arg_begins : (p : Width × Name) (o : Operand) (rest : List Inked) → Begins arg (script.typed f b p.0 o [] rest) true
  unfolding arg
  some_arg_begins p o rest = record { begins = λ spans. or_first _ _ (or_first _ _ ((type_begins p.0 script.space (script.value_ink f b p.0 o [] ∷ rest)).begins spans)) }

  arg_reads : (p : Width × Name) (o : Operand) (rest : List Inked) → IsPutValue f b p.0 o → Reads arg (script.typed f b p.0 o [] rest) rest (λ a. (a.ty ≡ Int p.0) × (a.value.item ≡ value_tree f b p.0 o))
  unfolding arg
  arg_reads p o rest put =
      left _ _ _ rest _ (record { begins = λ spans. or_first _ _ ((type_begins p.0 script.space (script.value_ink f b p.0 o [] ∷ rest)).begins spans) })
      (made _ _ _ rest (λ x. (x.0.item ≡ p.0) × (x.1.item ≡ value_tree f b p.0 o)) _ (λ x h. (ap Int h.0, h.1))
      (both _ _ _ _ rest _ _ (type_reads p.0 script.space _) (second _ _ _ _ rest _ _ (no_words attribute_words _ (value_no_attribute f b p.0 o [] rest)) (value_reads f b p.0 o [] rest put))))

  next_arg_reads : (p : Width × Name) (o : Operand) (rest : List Inked) → IsPutValue f b p.0 o → Reads next_arg (script.comma ∷ script.typed f b p.0 o [] rest) rest (λ a. (a.ty ≡ Int p.0) × (a.value.item ≡ value_tree f b p.0 o))
  unfolding next_arg
  next_arg_reads p o rest put = second _ _ _ _ rest _ _ (comma_reads _) (arg_reads p o rest put)

  more_read : (ps : List (Width × Name)) (os : List Operand) (rest : List Inked) → Begins next_arg rest false → ArePutArguments f b ps os → Reads (repeated next_arg) (script.more_arguments f b ps os rest) rest (λ xs. AreTreeArguments f b (widths ps) os xs)
  unfolding script.more_arguments next_arg
  more_read [] [] rest ends put = weaker _ _ rest _ _ (λ xs e. rw e tt) (none_more next_arg rest ends)
  more_read [] (o ∷ os) rest ends put = absurd put
  more_read (p ∷ ps) [] rest ends put = absurd put
  more_read (p ∷ ps) (o ∷ os) rest ends put =
      weaker _ _ rest _ _ (λ xs h. rw h.2 (h.3.0, h.3.1, h.4))
      (one_more next_arg _ _ rest _ _ (record { begins = λ spans. refl }) (next_arg_reads p o _ put.0) (more_read ps os rest ends put.1))

  -- the arguments up to the closing parenthesis
  args_read : (ps : List (Width × Name)) (os : List Operand) (rest : List Inked) → ArePutArguments f b ps os
      → Reads args (script.arguments f b ps os (script.close ∷ rest)) (script.close ∷ rest) (λ xs. AreTreeArguments f b (widths ps) os xs)
  unfolding args some_args arg int_type next_arg
  args_read [] [] rest put = made _ _ _ _ (λ o. o ≡ None) _ (λ o e. rw e tt) (no_option _ _ (record { begins = λ spans. refl }))
  args_read [] (o ∷ os) rest put = absurd put
  args_read (p ∷ ps) [] rest put = absurd put
  args_read (p ∷ ps) (o ∷ os) rest put =
      made _ _ _ _ (λ found. (xs : List RawArg) × (found ≡ Some xs) × AreTreeArguments f b (widths (p ∷ ps)) (o ∷ os) xs) _ (λ found h. rw h.1 h.2)
      (some_option _ _ _ _ (record { begins = λ spans. or_first _ _ ((some_arg_begins p o (script.more_arguments f b ps os (script.close ∷ rest))).begins spans) })
      (made _ _ _ _ (λ x. ((x.0.ty ≡ Int p.0) × (x.0.value.item ≡ value_tree f b p.0 o)) × AreTreeArguments f b (widths ps) os x.1) _ (λ x h. (h.0.0, h.0.1, h.1))
      (both _ _ _ _ _ _ _ (arg_reads p o _ put.0) (more_read ps os _ (record { begins = λ spans. refl }) put.1))))

  close_reads : (rest : List Inked) → Reads (mark (codes ")")) (script.close ∷ rest) rest (λ t. Unit {0})
  close_reads rest = mark_reads (codes ")") script.indented rest (λ s. refl)

  call_reads : (m : Program) (c : ℕ) (os : List Operand) (g : Function) (rest : List Inked) → Follows rest → slice_get m.functions c ≡ Some g → IsNameText g.name → ArePutArguments f b g.params os
      → Reads call (script.call f b os g rest) rest (λ x. IsTreeKind m f b (Call c os) x.1)
  unfolding call call_word call_words
  call_reads m c os g rest follows found named put =
      made _ _ _ rest (λ x. Unit {0} × ((x.1.0 ≡ type_tree g.ret) × ((x.1.1.0.item ≡ g.name) × AreTreeArguments f b (widths g.params) os x.1.1.1))) _
      (λ x h. (g, found, record { type_is = h.1.0; named = h.1.1.0; arguments = h.1.1.1 }))
      (both _ _ _ _ rest _ _ (second _ _ _ _ _ _ _ (no_option _ _ (record { begins = λ spans. refl })) (word_at (codes "call") script.space _ (λ s. refl)))
      (second _ _ _ _ rest _ _ (no_words (codes "ccc" ∷ attribute_words) _ (type_text_begins g.ret _))
      (both _ _ _ _ rest _ _ (ret_reads g.ret script.space _)
      (both _ _ _ _ rest _ _ (global_reads g.name [] _)
      (second _ _ _ _ rest _ _ (mark_reads (codes "(") [] _ (λ s. refl))
      (first _ _ _ _ rest _ _ (args_read g.params os rest put)
      (first _ _ _ _ rest _ _ (close_reads rest) (no_extra rest follows.no_extra))))))))

  found_call_reads : (m : Program) (c : ℕ) (os : List Operand) (rest : List Inked) → Follows rest → IsPutKind m f b (Call c os) → Reads call (script.call_of f b os (slice_get m.functions c) rest) rest (λ x. IsTreeKind m f b (Call c os) x.1)
  found_call_reads m c os rest follows put =
      let P : Option Function → Type 0 = λ o. Reads call (script.call_of f b os o rest) rest (λ x. IsTreeKind m f b (Call c os) x.1) in
      subst P (sym put.1) (call_reads m c os put.0 rest follows put.1 put.2 put.3)

-- ---- stores

store_gives_nothing : (m : Program) (f : Function) (b : Block) (o : Operand) (v : Variable) (rest : List Inked) → Begins giving_instr (script.kind_script m f b (Store o v) rest) false
unfolding giving_instr result_name giving alloca load computing binary compare convert select binop castop call call_word phi
store_gives_nothing m f b o v rest = record { begins = λ spans. refl }

storing_reads : (m : Program) (f : Function) (b : Block) (o : Operand) (v : Variable) (rest : List Inked) → Reads store (script.kind_script m f b (Store o v) rest) rest (λ x. IsTreeKind m f b (Store o v) x.1)
    → Reads storing_instr (script.kind_script m f b (Store o v) rest) rest (λ x. IsTreeResult None x.result × IsTreeKind m f b (Store o v) x.kind)
unfolding storing_instr
storing_reads m f b o v rest r = made _ _ _ rest (λ x. IsTreeKind m f b (Store o v) x.1) _ (λ x h. (tt, h)) r

-- the name of a result and its sign
abbrev giving_name : G (At Name)
giving_name = local ◂ mark (codes "=")

-- a result's name, if one is there
pub result_reads : (r : Option Name) (rest : List Inked) → IfSome r IsSpellable → Begins giving_name rest false → Reads result_name (script.result_script r rest) rest (λ w. IsTreeResult r w)
unfolding result_name
result_reads None rest is none = weaker _ _ _ _ _ (λ w e. rw e tt) (no_option _ rest (record { begins = none.begins }))
result_reads (Some name) rest is none =
    weaker _ _ _ _ _ (λ w h. rw h.1 h.2)
    (some_option _ _ _ _ (record { begins = λ spans. refl })
    (first _ _ _ _ _ _ _ (local_reads name script.space _ is) (mark_reads (codes "=") script.space rest (λ s. refl))))

-- ---- what gives a result

module _ (m : Program) (f : Function) (b : Block) where
  address_reads : (v : Variable) (rest : List Inked) → IsPutVariable m f v → Reads (comma ▸ word (codes "ptr") ▸ addr) (script.address m f v rest) rest (λ a. a.item ≡ address_tree m f v)
  address_reads v rest put = second _ _ _ _ rest _ _ (comma_reads _) (second _ _ _ _ rest _ _ (word_at (codes "ptr") script.space _ (λ s. refl)) (variable_reads m f v script.indented rest put))

  load_reads : (v : Variable) (rest : List Inked) → IsPutVariable m f v → Reads load (script.kind_script m f b (Load v) rest) rest (λ x. IsTreeKind m f b (Load v) x.1)
  unfolding load
  load_reads v rest put =
      made _ _ _ rest (λ x. Unit {0} × ((x.1.0.item ≡ variable_type m f v) × (x.1.1.item ≡ address_tree m f v))) _
      (λ x h. (variable_typed m f v put ∙ ap Some (sym h.1.0), h.1.1))
      (both _ _ _ _ rest _ _ (word_at (codes "load") script.space _ (λ s. refl)) (both _ _ _ _ rest _ _ (type_reads (variable_type m f v) [] _) (address_reads v rest put)))

  store_reads : (o : Operand) (v : Variable) (rest : List Inked) → IsPutKind m f b (Store o v) → Reads store (script.kind_script m f b (Store o v) rest) rest (λ x. IsTreeKind m f b (Store o v) x.1)
  unfolding store
  store_reads o v rest put =
      made _ _ _ rest (λ x. Unit {0} × ((x.1.0.item ≡ variable_type m f v) × ((x.1.1.0.item ≡ value_tree f b (variable_type m f v) o) × (x.1.1.1.item ≡ address_tree m f v)))) _
      (λ x h. (variable_typed m f v put.1 ∙ ap Some (sym h.1.0), h.1.1.0 ∙ ap (λ (w : Width). value_tree f b w o) (sym h.1.0), h.1.1.1))
      (both _ _ _ _ rest _ _ (word_at (codes "store") script.space _ (λ s. refl))
      (both _ _ _ _ rest _ _ (type_reads (variable_type m f v) script.space _)
      (both _ _ _ _ rest _ _ (value_reads f b (variable_type m f v) o [] _ put.0) (address_reads v rest put.1))))

  -- all but a store
  abbrev IsGiving : Kind → Type 0
  IsGiving (Store o v) = ⊥
  IsGiving _ = Unit {0}

  giving_reads : (k : Kind) (rest : List Inked) → IsGiving k → Follows rest → IsPutKind m f b k → Reads giving (script.kind_script m f b k rest) rest (λ x. IsTreeKind m f b k x.1)
  unfolding giving alloca load computing binary compare convert select binop castop
  giving_reads (Load v) rest is follows put = right _ _ _ rest _ (record { begins = λ spans. refl }) (left _ _ _ rest _ (record { begins = λ spans. refl }) (load_reads v rest put))
  giving_reads (Store o v) rest is follows put = absurd is
  giving_reads (Compute o os) rest is follows put =
      let begins = operation_begins f b o os rest in
      right _ _ _ rest _ begins.no_alloca (right _ _ _ rest _ begins.no_load (left _ _ _ rest _ begins.begins (computing_reads f b m o os rest put)))
  giving_reads (Call c os) rest is follows put =
      let P : Option Function → Type 0 = λ o. Begins alloca (script.call_of f b os o rest) false × (Begins load (script.call_of f b os o rest) false × Begins computing (script.call_of f b os o rest) false) in
      let begins : P (slice_get m.functions c) = subst P (sym put.1) (record { begins = λ spans. refl }, (record { begins = λ spans. refl }, record { begins = λ spans. refl })) in
      right _ _ _ rest _ begins.0 (right _ _ _ rest _ begins.1.0 (right _ _ _ rest _ begins.1.1 (left _ _ _ rest _ call_begins (found_call_reads f b m c os rest follows put))))
    where
      call_begins : Begins call (script.call_of f b os (slice_get m.functions c) rest) true
      call_begins = let Q : Option Function → Type 0 = λ o. Begins call (script.call_of f b os o rest) true in subst Q (sym put.1) (call_word_begins f b os put.0 rest)

  -- ---- instructions

  -- no instruction begins as the name of a result, and each begins as one that gives something, but a store
  record KindBegins (k : Kind) (rest : List Inked) : Type 0 where
    no_name : Begins giving_name (script.kind_script m f b k rest) false

  kind_begins : (k : Kind) (rest : List Inked) → IsPutKind m f b k → KindBegins k rest
  kind_begins (Load v) rest put = record { no_name = record { begins = λ spans. refl } }
  kind_begins (Store o v) rest put = record { no_name = record { begins = λ spans. refl } }
  kind_begins (Compute (op.Bin o w) os) rest put = record { no_name = record { begins = λ spans. refl } }
  kind_begins (Compute (op.Icmp p w) os) rest put = record { no_name = record { begins = λ spans. refl } }
  kind_begins (Compute (op.Cast c from to) os) rest put = record { no_name = record { begins = λ spans. refl } }
  kind_begins (Compute (op.Select w) os) rest put = record { no_name = record { begins = λ spans. refl } }
  kind_begins (Call c os) rest put =
      let P : Option Function → Type 0 = λ o. Begins giving_name (script.call_of f b os o rest) false in
      record { no_name = subst P (sym put.1) (record { begins = λ spans. refl }) }

  giving_begins : (k : Kind) (rest : List Inked) → IsGiving k → IsPutKind m f b k → Begins giving (script.kind_script m f b k rest) true
  unfolding giving alloca load computing binary compare convert select binop castop
  giving_begins (Load v) rest is put = record { begins = λ spans. refl }
  giving_begins (Store o v) rest is put = absurd is
  giving_begins (Compute o os) rest is put = let begins = operation_begins f b o os rest in record { begins = λ spans. or_third _ _ _ _ (begins.begins.begins spans) }
  giving_begins (Call c os) rest is put =
      let P : Option Function → Type 0 = λ o. Begins giving (script.call_of f b os o rest) true in
      subst P (sym put.1) (record { begins = λ spans. or_first _ _ ((call_word_begins f b os put.0 rest).begins spans) })

  -- an instruction with these parts is begun as one that gives something
  named_begins : (r : Option Name) (k : Kind) (rest : List Inked) → IsGiving k → IsPutKind m f b k → Begins giving_instr (script.result_script r (script.kind_script m f b k rest)) true
  unfolding giving_instr result_name
  named_begins (Some name) k rest is put = record { begins = λ spans. refl }
  named_begins None k rest is put =
      let none = kind_begins k rest put in
      let some = giving_begins k rest is put in
      record { begins = λ spans. or_second _ _ (some.begins spans) }

  giving_instr_reads : (r : Option Name) (k : Kind) (rest : List Inked) → IsGiving k → Follows rest → IsPutKind m f b k → IfSome r IsSpellable
      → Reads giving_instr (script.result_script r (script.kind_script m f b k rest)) rest (λ x. IsTreeResult r x.result × IsTreeKind m f b k x.kind)
  unfolding giving_instr
  giving_instr_reads r k rest is follows put named =
      made _ _ _ rest (λ x. IsTreeResult r x.0 × IsTreeKind m f b k x.1.1) _ (λ x h. h)
      (both _ _ _ _ rest _ _ (result_reads r _ named (kind_begins k rest put).no_name) (giving_reads k rest is follows put))

  bare_instr_reads : (r : Option Name) (k : Kind) (rest : List Inked) → Follows rest → IsPutKind m f b k → Rattle.printed_trees.proofs.Put.IsPutResult k r → IfSome r IsSpellable
      → Reads bare_instr (script.result_script r (script.kind_script m f b k rest)) rest (λ x. IsTreeResult r x.result × IsTreeKind m f b k x.kind)
  unfolding bare_instr
  bare_instr_reads r (Load v) rest follows put result named = left _ _ _ rest _ (named_begins r (Load v) rest tt put) (giving_instr_reads r (Load v) rest tt follows put named)
  bare_instr_reads r (Compute o os) rest follows put result named = left _ _ _ rest _ (named_begins r (Compute o os) rest tt put) (giving_instr_reads r (Compute o os) rest tt follows put named)
  bare_instr_reads r (Call c os) rest follows put result named = left _ _ _ rest _ (named_begins r (Call c os) rest tt put) (giving_instr_reads r (Call c os) rest tt follows put named)
  bare_instr_reads (Some name) (Store o v) rest follows put result named = absurd cc
  bare_instr_reads None (Store o v) rest follows put result named =
      right _ _ _ rest _ (store_gives_nothing m f b o v rest)
      (storing_reads m f b o v rest (store_reads o v rest put))

  pub instr_reads : (i : Instr) (rest : List Inked) → Follows rest → IsPutInstr m f b i → Reads instr (script.instr_script m f b i rest) rest (λ x. IsTreeInstr m f b i x)
  unfolding instr
  instr_reads i rest follows put =
      weaker _ _ rest _ _ (λ x h. record { result = h.0; kind = h.1 })
      (first _ _ _ _ rest _ _ (bare_instr_reads i.result i.kind rest follows put.kind put.result put.named) (no_attach rest follows.no_attach))

  -- an instruction begins as one
  pub instr_begins : (i : Instr) (rest : List Inked) → IsPutInstr m f b i → Begins instr (script.instr_script m f b i rest) true
  unfolding instr bare_instr storing_instr store
  instr_begins i rest put = by i.result i.kind put.kind put.result
    where
      by : (r : Option Name) (k : Kind) → IsPutKind m f b k → Rattle.printed_trees.proofs.Put.IsPutResult k r → Begins instr (script.result_script r (script.kind_script m f b k rest)) true
      by r (Load v) kind result = record { begins = λ spans. or_first _ _ (or_first _ _ ((named_begins r (Load v) rest tt kind).begins spans)) }
      by r (Compute o os) kind result = record { begins = λ spans. or_first _ _ (or_first _ _ ((named_begins r (Compute o os) rest tt kind).begins spans)) }
      by r (Call c os) kind result = record { begins = λ spans. or_first _ _ (or_first _ _ ((named_begins r (Call c os) rest tt kind).begins spans)) }
      by (Some name) (Store o v) kind result = absurd cc
      by None (Store o v) kind result = record { begins = λ spans. or_first _ _ (or_second _ _ refl) }
