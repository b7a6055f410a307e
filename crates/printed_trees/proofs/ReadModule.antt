-- The functions and globals of a canonical text, read.
use Rattle.std.proofs.Common.{◌≡◌, ◌+◌, ℕ, true, false, List, [], ◌∷◌, Option, Some, None, codes, refl, sym, subst, ◌∙◌}
use Rattle.std.specs.List.{AllByRecursion, AllZip}
use Rattle.mc_num.specs.declared.op.Width.{Width}
use Rattle.mc_num.specs.declared.op.Width.TheVariants.{I1, I8, I16, I32, I64}
use Rattle.ir_types.specs.Names.{IsSpellable, spelled}
use Rattle.ir_types.specs.Program.{Program}
use Rattle.ir_types.specs.TreeOf.{literal_of, type_tree, IsTreeParam, IsTreeType, AreTreeParams, AreTreeBlocks, IsTreeResult, IsTreeFunction, IsTreeGlobal}
use Rattle.ir_types.specs.declared.span.At.{At}
use Rattle.ir_types.specs.declared.span.Span.{Span}
use Rattle.ir_types.specs.declared.name.Name.{Name}
use Rattle.ir_types.specs.declared.syntax.Block.{Block}
use Rattle.ir_types.specs.declared.syntax.Function.{Function}
use Rattle.ir_types.specs.declared.syntax.Global.{Global}
use Rattle.ir_types.specs.declared.tree.RawParam.{RawParam}
use Rattle.ir_types.specs.declared.tree.RawBlock.{RawBlock}
use Rattle.ir_types.specs.declared.tree.RawFunction.{RawFunction}
use Rattle.ir_types.specs.declared.tree.RawGlobal.{RawGlobal}
use Rattle.ir_lexer.specs.Texts.{Inked}
use Rattle.ir_lexer.specs.declared.token.TokenKind.TheVariants as kinds
use Rattle.ir_lexer.specs.Lexeme.{Lexeme}
use Rattle.grammar.specs.Grammar.{choice, pair, gives, repeated}
use Rattle.ir_parser.specs.Tokens.{G, ◌~◌, ◌▸◌, ◌◂◌, mark, one_of, local, global}
use Rattle.ir_parser.specs.Values.{int_type, gvalue, linkage_words, attribute_words, global_words, any_of, attach, attached, extra, extras, detail}
use Rattle.ir_parser.specs.Calls.{call, call_word, phi}
use Rattle.ir_parser.specs.Instrs.{alloca, load, binary, compare, convert, select, computing, giving, store, result_name, giving_instr, storing_instr, bare_instr, instr, instrs, binop, castop}
use Rattle.ir_parser.specs.Terms.{bare_term, term, label, block, blocks}
use Rattle.ir_parser.specs.Module.{par, next_par, some_pars, pars, signature, declare, define, variable, part, parts_of, functions_of, globals_of, module_text}
use Rattle.ir_parser.specs.declared.modules.Member.{Member}
use Rattle.ir_parser.specs.declared.modules.Member.TheVariants as parts
use Rattle.ir_printer.specs.Text.{width_text, type_text, local_text, global_text, constant_text}
use Rattle.printed_trees.proofs.Placed.{at_place, placed, IsRead, made_at, both_at, left_at, right_at, Reads, Begins, one_token, both, made, second, first, left, right, no_option, some_option, none_more, one_more, weaker}
use Rattle.printed_trees.proofs.Put.{IsPutBlock, IsPutFunction, IsPutGlobal}
use Rattle.printed_trees.proofs.ReadValues.{type_reads, type_begins, ret_reads, word_reads, mark_reads, local_reads, global_at, start_reads, no_words, no_attach, no_extra}
use Rattle.printed_trees.proofs.ReadInstrs.{comma_reads, or_first}
use Rattle.printed_trees.proofs.ReadBlocks.{blocks_read}
use Rattle.printed_trees.proofs.Scripts as script

-- ---- parameters

-- what stands behind a parameter
record ParEnds (rest : List Inked) : Type 0 where
  no_attribute : Begins (one_of attribute_words) rest false
  no_name : Begins local rest false

type_par : (p : Width × Name) (rest : List Inked) → Begins (one_of attribute_words) rest false → Begins local rest false → Reads par (script.type_script p rest) rest (λ x. IsTreeType p x)
unfolding par
type_par p rest no_attribute no_name =
    made _ _ _ rest (λ x. (x.0.item ≡ p.0) × (x.1 ≡ None)) _ (λ x h. record { width = h.0; named = h.1 })
    (both _ _ _ _ rest _ _ (type_reads p.0 [] rest) (second _ _ _ _ rest _ _ (no_words attribute_words rest no_attribute) (no_option local rest no_name)))

named_par : (p : Width × Name) (rest : List Inked) → IsSpellable p.1 → Reads par (script.param_script p rest) rest (λ x. IsTreeParam p x)
unfolding par
named_par p rest is =
    made _ _ _ rest (λ x. (x.0.item ≡ p.0) × IsTreeResult (Some p.1) x.1) _ (λ x h. record { width = h.0; named = h.1 })
    (both _ _ _ _ rest _ _ (type_reads p.0 script.space _)
    (second _ _ _ _ rest _ _ (no_words attribute_words _ (record { begins = λ spans. refl }))
    (weaker _ _ rest (λ (o : Option (At Name)). (n : At Name) × (o ≡ Some n) × (n.item ≡ spelled p.1)) (λ o. IsTreeResult (Some p.1) o) (λ o h. rw h.1 h.2) (some_option local _ rest (λ (n : At Name). n.item ≡ spelled p.1) (record { begins = λ spans. refl }) (local_reads p.1 [] rest is)))))

-- a parameter of this form is read
record ReadsPar (one : Width × Name → List Inked → List Inked) (Is : Width × Name → Type 0) (IsTree : Width × Name → RawParam → Type 0) : Type 0 where
  reads : (p : Width × Name) (rest : List Inked) → Is p → ParEnds rest → Reads par (one p rest) rest (λ x. IsTree p x)
  begins : (p : Width × Name) (rest : List Inked) → Begins int_type (one p rest) true

types_read : ReadsPar script.type_script (λ p. Unit {0}) IsTreeType
types_read = record { reads = read; begins = λ p rest. type_begins p.0 [] rest }
  where
    read : (p : Width × Name) (rest : List Inked) → Unit {0} → ParEnds rest → Reads par (script.type_script p rest) rest (λ x. IsTreeType p x)
    read p rest is ends = type_par p rest ends.no_attribute ends.no_name

params_read : ReadsPar script.param_script (λ p. IsSpellable p.1) IsTreeParam
params_read = record { reads = λ p rest is ends. named_par p rest is; begins = λ p rest. type_begins p.0 script.space (script.local (local_text p.1) [] ∷ rest) }

module _ (one : Width × Name → List Inked → List Inked) (Is : Width × Name → Type 0) (IsTree : Width × Name → RawParam → Type 0) (each : ReadsPar one Is IsTree) where
  more_ends : (ps : List (Width × Name)) (gap : List ℕ) (rest : List Inked) → ParEnds (script.more_params one ps (script.punct (codes ")") gap ∷ rest))
  unfolding script.more_params
  more_ends [] gap rest = record { no_attribute = record { begins = λ spans. refl }; no_name = record { begins = λ spans. refl } }
  more_ends (p ∷ ps) gap rest = record { no_attribute = record { begins = λ spans. refl }; no_name = record { begins = λ spans. refl } }

  more_read : (ps : List (Width × Name)) (gap : List ℕ) (rest : List Inked) → AllByRecursion Is ps
      → Reads (repeated next_par) (script.more_params one ps (script.punct (codes ")") gap ∷ rest)) (script.punct (codes ")") gap ∷ rest) (λ xs. AllZip IsTree ps xs)
  unfolding script.more_params next_par
  more_read [] gap rest is = weaker _ _ _ _ _ (λ xs e. rw e tt) (none_more next_par _ (record { begins = λ spans. refl }))
  more_read (p ∷ ps) gap rest is =
      weaker _ _ _ _ _ (λ xs h. rw h.2 (h.3, h.4))
      (one_more next_par _ _ _ _ _ (record { begins = λ spans. refl }) (second _ _ _ _ _ _ _ (comma_reads _) (each.reads p _ is.0 (more_ends ps gap rest))) (more_read ps gap rest is.1))

  pars_read : (ps : List (Width × Name)) (gap : List ℕ) (rest : List Inked) → AllByRecursion Is ps
      → Reads pars (script.params_script one ps (script.punct (codes ")") gap ∷ rest)) (script.punct (codes ")") gap ∷ rest) (λ xs. AllZip IsTree ps xs)
  unfolding pars some_pars par int_type
  pars_read [] gap rest is = made _ _ _ _ (λ o. o ≡ None) _ (λ o e. rw e tt) (no_option _ _ (record { begins = λ spans. refl }))
  pars_read (p ∷ ps) gap rest is =
      made _ _ _ _ (λ found. (xs : List RawParam) × (found ≡ Some xs) × AllZip IsTree (p ∷ ps) xs) _ (λ found h. rw h.1 h.2)
      (some_option _ _ _ _ (record { begins = λ spans. or_first _ _ (or_first _ _ ((each.begins p (script.more_params one ps (script.punct (codes ")") gap ∷ rest))).begins spans)) })
      (made _ _ _ _ (λ x. IsTree p x.0 × AllZip IsTree ps x.1) _ (λ x h. h)
      (both _ _ _ _ _ _ _ (each.reads p _ is.0 (more_ends ps gap rest)) (more_read ps gap rest is.1))))

-- ---- names with their places

-- one of the places from here on
abbrev pub From : (ℕ → Span) → Span → Type 0
From spans s = (k : ℕ) × (s ≡ spans k)

-- a phrase is read, and a place of its tree is that of one of its tokens
pub record Traced {A : Type 0} (g : G A) (is rest : List Inked) (P : A → Type 0) (mark : A → Span) : Type 0 where
  pub at : (spans : ℕ → Span) → IsRead g is rest (λ x. P x × From spans (mark x)) spans

-- a place behind is a place from here on
later : (spans behind : ℕ → Span) (count : ℕ) (s : Span) → ((n : ℕ) → behind n ≡ spans (count + n)) → From behind s → From spans s
later spans behind count s shifted from = (count + from.0, from.1 ∙ shifted from.0)

traced_made : {A B : Type 0} (f : A → B) (g : G A) (is rest : List Inked) (P : A → Type 0) (Q : B → Type 0) (of : A → Span) (mark : B → Span) → ((x : A) → P x → Q (f x)) → ((x : A) → mark (f x) ≡ of x) → Traced g is rest P of → Traced (gives f g) is rest Q mark
traced_made {A} f g is rest P Q of mark to same r = record {
  at = λ spans. Rattle.printed_trees.proofs.Placed.made_at f g is rest (λ x. P x × From spans (of x)) (λ y. Q y × From spans (mark y)) spans (λ x h. (to x h.0, (h.1.0, same x ∙ h.1.1))) (r.at spans);
}

traced_first : {A B : Type 0} (g : G A) (h : G B) (is mid rest : List Inked) (P : A → Type 0) (Q : B → Type 0) (of : A → Span) → Traced g is mid P of → Reads h mid rest Q → Traced (pair g h) is rest (λ x. P x.0 × Q x.1) (λ x. of x.0)
traced_first g h is mid rest P Q of r s = record {
  at = λ spans.
      let one = r.at spans in
      let both = Rattle.printed_trees.proofs.Placed.both_at g h is mid rest (λ x. P x × From spans (of x)) Q spans one (s.at one.behind) in
      record { tree = both.tree; behind = both.behind; count = both.count; shifted = both.shifted; reads = both.reads; holds = ((both.holds.0.0, both.holds.1), both.holds.0.1) };
}

traced_second : {A B : Type 0} (g : G A) (h : G B) (is mid rest : List Inked) (P : A → Type 0) (Q : B → Type 0) (of : B → Span) → Reads g is mid P → Traced h mid rest Q of → Traced (pair g h) is rest (λ x. P x.0 × Q x.1) (λ x. of x.1)
traced_second g h is mid rest P Q of r s = record {
  at = λ spans.
      let one = r.at spans in
      let both = Rattle.printed_trees.proofs.Placed.both_at g h is mid rest P (λ y. Q y × From one.behind (of y)) spans one (s.at one.behind) in
      record { tree = both.tree; behind = both.behind; count = both.count; shifted = both.shifted; reads = both.reads; holds = ((both.holds.0, both.holds.1.0), later spans one.behind one.count (of both.tree.1) one.shifted both.holds.1.1) };
}

traced_global : (name gap : List ℕ) (rest : List Inked) → Traced global (script.ink kinds.Global (global_text name) gap ∷ rest) rest (λ t. t.item ≡ name) (λ t. t.span)
traced_global name gap rest = record {
  at = λ spans.
      let one = global_at name gap rest spans in
      record { tree = one.tree; behind = one.behind; count = one.count; shifted = one.shifted; reads = one.reads; holds = (one.holds.0, (0, one.holds.1)) };
}

traced_weaker : {A : Type 0} (g : G A) (is rest : List Inked) (P Q : A → Type 0) (mark : A → Span) → ((x : A) → P x → Q x) → Traced g is rest P mark → Traced g is rest Q mark
traced_weaker g is rest P Q mark to r = record {
  at = λ spans.
      let one = r.at spans in
      record { tree = one.tree; behind = one.behind; count = one.count; shifted = one.shifted; reads = one.reads; holds = (to one.tree one.holds.0, one.holds.1) };
}

traced_left : {A : Type 0} (g h : G A) (is rest : List Inked) (P : A → Type 0) (mark : A → Span) → Begins g is true → Traced g is rest P mark → Traced (choice g h) is rest P mark
traced_left g h is rest P mark next r = record { at = λ spans. left_at g h is rest (λ x. P x × From spans (mark x)) spans (next.begins spans) (r.at spans) }

traced_right : {A : Type 0} (g h : G A) (is rest : List Inked) (P : A → Type 0) (mark : A → Span) → Begins g is false → Traced h is rest P mark → Traced (choice g h) is rest P mark
traced_right g h is rest P mark next r = record { at = λ spans. right_at g h is rest (λ x. P x × From spans (mark x)) spans (next.begins spans) (r.at spans) }

-- ---- heads of functions

type_no_linkage : (o : Option Width) (gap : List ℕ) (rest : List Inked) → Begins (one_of linkage_words) (script.word (type_text o) gap ∷ rest) false × Begins (one_of attribute_words) (script.word (type_text o) gap ∷ rest) false
type_no_linkage None gap rest = (record { begins = λ spans. refl }, record { begins = λ spans. refl })
type_no_linkage (Some I1) gap rest = (record { begins = λ spans. refl }, record { begins = λ spans. refl })
type_no_linkage (Some I8) gap rest = (record { begins = λ spans. refl }, record { begins = λ spans. refl })
type_no_linkage (Some I16) gap rest = (record { begins = λ spans. refl }, record { begins = λ spans. refl })
type_no_linkage (Some I32) gap rest = (record { begins = λ spans. refl }, record { begins = λ spans. refl })
type_no_linkage (Some I64) gap rest = (record { begins = λ spans. refl }, record { begins = λ spans. refl })

abbrev Head : Type 0
Head = Rattle.ir_types.specs.declared.tree.Ty.Ty × (At (List ℕ) × List RawParam)

-- what a function gives, its name and its parameters
record IsHead (f : Function) (IsTree : Width × Name → RawParam → Type 0) (s : Head) : Type 0 where
  gives : s.0 ≡ type_tree f.ret
  named : s.1.0.item ≡ f.name
  params : AllZip IsTree f.params s.1.1

abbrev head_place : Head → Span
head_place s = s.1.0.span

module _ (one : Width × Name → List Inked → List Inked) (Is : Width × Name → Type 0) (IsTree : Width × Name → RawParam → Type 0) (each : ReadsPar one Is IsTree) where
  -- from the parenthesis on
  tail_read : (f : Function) (gap : List ℕ) (rest : List Inked) → AllByRecursion Is f.params → Begins extra rest false
      → Reads (mark (codes "(") ▸ pars ◂ mark (codes ")") ◂ extras) (script.punct (codes "(") [] ∷ script.params_script one f.params (script.punct (codes ")") gap ∷ rest)) rest (λ xs. AllZip IsTree f.params xs)
  tail_read f gap rest is ends =
      second _ _ _ _ rest _ _ (mark_reads (codes "(") [] _ (λ s. refl))
      (first _ _ _ _ rest _ _ (pars_read one Is IsTree each f.params gap rest is)
      (first _ _ _ _ rest _ _ (mark_reads (codes ")") gap rest (λ s. refl)) (no_extra rest ends)))

  -- from the name on
  name_read : (f : Function) (gap : List ℕ) (rest : List Inked) → AllByRecursion Is f.params → Begins extra rest false
      → Traced (global ~ mark (codes "(") ▸ pars ◂ mark (codes ")") ◂ extras) (script.ink kinds.Global (global_text f.name) [] ∷ script.punct (codes "(") [] ∷ script.params_script one f.params (script.punct (codes ")") gap ∷ rest)) rest
      (λ x. (x.0.item ≡ f.name) × AllZip IsTree f.params x.1) (λ x. x.0.span)
  name_read f gap rest is ends = traced_first _ _ _ _ rest _ _ (λ x. x.span) (traced_global f.name [] _) (tail_read f gap rest is ends)

  head_read : (f : Function) (gap : List ℕ) (rest : List Inked) → AllByRecursion Is f.params → Begins extra rest false → Traced signature (script.head_script f one gap rest) rest (IsHead f IsTree) head_place
  unfolding signature
  head_read f gap rest is ends =
      let none = type_no_linkage f.ret script.space (script.ink kinds.Global (global_text f.name) [] ∷ script.punct (codes "(") [] ∷ script.params_script one f.params (script.punct (codes ")") gap ∷ rest)) in
      traced_made _ _ _ rest (λ (x : Unit {0} × Head). Unit {0} × IsHead f IsTree x.1) (IsHead f IsTree) (λ x. head_place x.1) head_place (λ x h. h.1) (λ x. refl)
      (traced_second _ _ _ _ rest _ _ head_place (no_words linkage_words _ none.0)
      (traced_made _ _ _ rest (λ (x : Unit {0} × Head). Unit {0} × IsHead f IsTree x.1) (IsHead f IsTree) (λ x. head_place x.1) head_place (λ x h. h.1) (λ x. refl)
      (traced_second _ _ _ _ rest _ _ head_place (no_words attribute_words _ none.1)
      (traced_weaker _ _ rest (λ (x : Head). (x.0 ≡ type_tree f.ret) × ((x.1.0.item ≡ f.name) × AllZip IsTree f.params x.1.1)) (IsHead f IsTree) head_place (λ x h. record { gives = h.0; named = h.1.0; params = h.1.1 })
      (traced_second _ _ _ _ rest _ _ (λ (x : At (List ℕ) × List RawParam). x.0.span) (ret_reads f.ret script.space _) (name_read f gap rest is ends))))))

-- ---- functions

any_params : (ps : List (Width × Name)) → AllByRecursion (λ (p : Width × Name). Unit {0}) ps
any_params [] = tt
any_params (p ∷ ps) = (tt, any_params ps)

declared_tree : (m : Program) (f : Function) (s : Head) → IsHead f IsTreeType s → f.blocks ≡ [] → IsTreeFunction m f (Rattle.ir_parser.specs.Module.function_of s [])
declared_tree m f s head none = record {
  named = head.named;
  gives = head.gives;
  params = (let P : List Block → Type 0 = λ bs. AreTreeParams f bs s.1.1 in subst P (sym none) head.params);
  blocks = (let P : List Block → Type 0 = λ bs. AreTreeBlocks m f bs [] in subst P (sym none) tt);
}

defined_tree : (m : Program) (f : Function) (b : Block) (bs : List Block) (x : Head × List RawBlock) → IsHead f IsTreeParam x.0 → AreTreeBlocks m f (b ∷ bs) x.1 → f.blocks ≡ b ∷ bs → IsTreeFunction m f (Rattle.ir_parser.specs.Module.function_of x.0 x.1)
defined_tree m f b bs x head body is = record {
  named = head.named;
  gives = head.gives;
  params = (let P : List Block → Type 0 = λ bs. AreTreeParams f bs x.0.1.1 in subst P (sym is) head.params);
  blocks = (let P : List Block → Type 0 = λ bs. AreTreeBlocks m f bs x.1 in subst P (sym is) body);
}

brace_ends : (gap : List ℕ) (rest : List Inked) → Begins attach (script.punct (codes "}") gap ∷ rest) false × Begins block (script.punct (codes "}") gap ∷ rest) false
unfolding attach block label instrs instr bare_instr giving_instr result_name giving alloca load computing binary compare convert select binop castop call call_word phi storing_instr store term bare_term
brace_ends gap rest = (record { begins = λ spans. refl }, record { begins = λ spans. refl })

brace_no_extra : (rest : List Inked) → Begins extra (script.punct (codes "{") script.line ∷ rest) false
unfolding extra detail
brace_no_extra rest = record { begins = λ spans. refl }

module _ (m : Program) where
  -- a declaration
  declare_read : (f : Function) (gap : List ℕ) (rest : List Inked) → f.blocks ≡ [] → Begins extra rest false
      → Traced declare (script.word (codes "declare") script.space ∷ script.head_script f script.type_script gap rest) rest (λ x. IsTreeFunction m f x) (λ x. x.name.span)
  unfolding declare
  declare_read f gap rest none ends =
      traced_made (λ (s : Head). Rattle.ir_parser.specs.Module.function_of s []) _ _ rest (IsHead f IsTreeType) (λ x. IsTreeFunction m f x) head_place (λ x. x.name.span)
      (λ s h. declared_tree m f s h none) (λ s. refl)
      (traced_made (λ (x : Lexeme × Head). x.1) _ _ rest (λ x. Unit {0} × IsHead f IsTreeType x.1) (IsHead f IsTreeType) (λ x. head_place x.1) head_place (λ x h. h.1) (λ x. refl)
      (traced_second _ _ _ _ rest _ _ head_place (word_reads (codes "declare") script.space _ (λ s. refl))
      (head_read script.type_script (λ _. Unit {0}) IsTreeType types_read f gap rest (any_params f.params) ends)))

  body_read : (f : Function) (b : Block) (bs : List Block) (gap : List ℕ) (rest : List Inked) → IsPutFunction m f → AllByRecursion (IsPutBlock m f) (b ∷ bs)
      → Reads (mark (codes "{") ▸ blocks ◂ mark (codes "}")) (script.punct (codes "{") script.line ∷ script.block_script m f f.vars b (script.later_blocks m f bs (script.punct (codes "}") gap ∷ rest))) rest (λ xs. AreTreeBlocks m f (b ∷ bs) xs)
  body_read f b bs gap rest put all =
      let ends = brace_ends gap rest in
      second _ _ _ _ rest _ _ (mark_reads (codes "{") script.line _ (λ s. refl))
      (first _ _ _ _ rest _ _ (blocks_read m f b bs _ put.vars all ends.0 ends.1) (mark_reads (codes "}") gap rest (λ s. refl)))

  define_read : (f : Function) (b : Block) (bs : List Block) (gap : List ℕ) (rest : List Inked) → f.blocks ≡ b ∷ bs → IsPutFunction m f → AllByRecursion (IsPutBlock m f) (b ∷ bs)
      → Traced define (script.word (codes "define") script.space ∷ script.head_script f script.param_script script.space (script.punct (codes "{") script.line ∷ script.block_script m f f.vars b (script.later_blocks m f bs (script.punct (codes "}") gap ∷ rest)))) rest (λ x. IsTreeFunction m f x) (λ x. x.name.span)
  unfolding define
  define_read f b bs gap rest is put all =
      traced_made (λ (x : Head × List RawBlock). Rattle.ir_parser.specs.Module.function_of x.0 x.1) _ _ rest (λ x. IsHead f IsTreeParam x.0 × AreTreeBlocks m f (b ∷ bs) x.1) (λ x. IsTreeFunction m f x) (λ x. head_place x.0) (λ x. x.name.span)
      (λ x h. defined_tree m f b bs x h.0 h.1 is) (λ x. refl)
      (traced_made (λ (x : Lexeme × (Head × List RawBlock)). x.1) _ _ rest (λ x. Unit {0} × (IsHead f IsTreeParam x.1.0 × AreTreeBlocks m f (b ∷ bs) x.1.1)) (λ x. IsHead f IsTreeParam x.0 × AreTreeBlocks m f (b ∷ bs) x.1) (λ x. head_place x.1.0) (λ x. head_place x.0) (λ x h. h.1) (λ x. refl)
      (traced_second _ _ _ _ rest _ _ (λ x. head_place x.0) (word_reads (codes "define") script.space _ (λ s. refl))
      (traced_first _ _ _ _ rest _ _ head_place
      (head_read script.param_script (λ p. IsSpellable p.1) IsTreeParam params_read f script.space _ put.params (brace_no_extra _))
      (body_read f b bs gap rest put all))))

  -- ---- parts of a text

  abbrev pub place_of_part : Member → Span
  place_of_part (parts.Function f) = f.name.span
  place_of_part (parts.Global g) = g.name.span

  abbrev pub IsFunctionPart : Function → Member → Type 0
  IsFunctionPart f x = (y : RawFunction) × (x ≡ parts.Function y) × IsTreeFunction m f y

  pub function_part : (f : Function) (bs : List Block) (gap : List ℕ) (rest : List Inked) → f.blocks ≡ bs → IsPutFunction m f → AllByRecursion (IsPutBlock m f) bs → Begins extra rest false
      → Traced part (script.function_script m f bs gap rest) rest (IsFunctionPart f) place_of_part
  unfolding part declare define variable
  function_part f [] gap rest is put all ends =
      traced_left _ _ _ rest _ place_of_part (record { begins = λ spans. refl })
      (traced_made parts.Function declare _ rest (λ x. IsTreeFunction m f x) (IsFunctionPart f) (λ x. x.name.span) place_of_part (λ x h. (x, refl, h)) (λ x. refl) (declare_read f gap rest is ends))
  function_part f (b ∷ bs) gap rest is put all ends =
      traced_right _ _ _ rest _ place_of_part (record { begins = λ spans. refl })
      (traced_left _ _ _ rest _ place_of_part (record { begins = λ spans. refl })
      (traced_made parts.Function define _ rest (λ x. IsTreeFunction m f x) (IsFunctionPart f) (λ x. x.name.span) place_of_part (λ x h. (x, refl, h)) (λ x. refl) (define_read f b bs gap rest is put all)))

  abbrev pub IsGlobalPart : Global → (ℕ → Span) → Member → Type 0
  IsGlobalPart g spans x = (y : RawGlobal) × (x ≡ parts.Global y) × (IsTreeGlobal g y × (y.name.span ≡ spans 0))

  value_read : (g : Global) (gap : List ℕ) (rest : List Inked) → IsPutGlobal g → Begins attach rest false
      → Reads (mark (codes "=") ▸ any_of global_words ▸ one_of (codes "global" ∷ codes "constant" ∷ []) ▸ int_type ~ gvalue ◂ attached)
      (script.punct (codes "=") script.space ∷ script.word (codes "global") script.space ∷ script.word (width_text g.width) script.space ∷ script.ink (script.constant_kind g.width) (constant_text g.width g.value) gap ∷ rest) rest
      (λ x. (x.0.item ≡ g.width) × (x.1.item ≡ literal_of g.width g.value))
  value_read g gap rest put ends =
      second _ _ _ _ rest _ _ (mark_reads (codes "=") script.space _ (λ s. refl))
      (second _ _ _ _ rest _ _ (no_words global_words _ (record { begins = λ spans. refl }))
      (second _ _ _ _ rest _ _ (weaker _ _ _ _ (λ _. Unit {0}) (λ t p. tt) (one_token _ (script.word (codes "global") script.space) _ (λ s. refl)))
      (both _ _ _ _ rest _ _ (type_reads g.width script.space _) (first _ _ _ _ rest _ _ (start_reads g.width g.value gap rest put.fits) (no_attach rest ends)))))

  pub global_part : (g : Global) (gap : List ℕ) (rest : List Inked) (spans : ℕ → Span) → IsPutGlobal g → Begins attach rest false → IsRead part (script.global_script g gap rest) rest (IsGlobalPart g spans) spans
  unfolding part declare define variable
  global_part g gap rest spans put ends =
      let name = global_at g.name script.space (script.punct (codes "=") script.space ∷ script.word (codes "global") script.space ∷ script.word (width_text g.width) script.space ∷ script.ink (script.constant_kind g.width) (constant_text g.width g.value) gap ∷ rest) spans in
      right_at _ _ _ rest _ spans refl
      (right_at _ _ _ rest _ spans refl
      (made_at parts.Global variable _ rest (λ y. IsTreeGlobal g y × (y.name.span ≡ spans 0)) _ spans (λ y h. (y, refl, h))
      (made_at _ _ _ rest (λ x. ((x.0.item ≡ g.name) × (x.0.span ≡ spans 0)) × ((x.1.0.item ≡ g.width) × (x.1.1.item ≡ literal_of g.width g.value))) _ spans
      (λ x h. (record { named = h.0.0; width = h.1.0; value = h.1.1 }, h.0.1))
      (both_at _ _ _ _ rest _ _ spans name ((value_read g gap rest put ends).at name.behind)))))
