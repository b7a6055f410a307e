-- The blocks of a canonical text, read.
use Rattle.std.proofs.Common.{◌≡◌, ℕ, true, false, List, [], ◌∷◌, ◌++◌, Option, Some, None, codes, refl, sym, ap, subst, ◌∙◌}
use Rattle.std.specs.List.{AllByRecursion, AllZip}
use Rattle.mc_num.specs.declared.op.Width.{Width}
use Rattle.mc_num.specs.declared.op.Width.TheVariants.{I1, I8, I16, I32, I64}
use Rattle.mc_num.specs.declared.op.Op.TheVariants as op
use Rattle.ir_types.specs.Names.{IsSpellable, spelled, name_text}
use Rattle.ir_types.specs.Program.{Program}
use Rattle.ir_types.specs.TreeOf.{literal_of, value_tree, label_tree, IsTreeResult, IsTreeInstr, IsTreeAlloca, IsTreeCase, IsTreeTerm, IsTreeBlock, AreTreeBlocks}
use Rattle.ir_types.specs.declared.span.Span.{Span}
use Rattle.ir_types.specs.declared.name.Name.{Name}
use Rattle.ir_types.specs.declared.syntax.Operand.{Operand}
use Rattle.ir_types.specs.declared.syntax.Kind.{Kind}
use Rattle.ir_types.specs.declared.syntax.Kind.TheVariants.{Load, Store, Compute, Call}
use Rattle.ir_types.specs.declared.syntax.Instr.{Instr}
use Rattle.ir_types.specs.declared.syntax.Terminator.{Terminator}
use Rattle.ir_types.specs.declared.syntax.Terminator.TheVariants.{Return, Jump, Branch, Switch, Unreachable}
use Rattle.ir_types.specs.declared.syntax.Block.{Block}
use Rattle.ir_types.specs.declared.syntax.Function.{Function}
use Rattle.ir_types.specs.declared.tree.RawInstr.{RawInstr}
use Rattle.ir_types.specs.declared.tree.RawKind.TheVariants as forms
use Rattle.ir_types.specs.declared.tree.RawTerm.{RawTerm}
use Rattle.ir_lexer.specs.Texts.{Inked}
use Rattle.ir_lexer.specs.declared.token.TokenKind.TheVariants as kinds
use Rattle.grammar.specs.Grammar.{gives, repeated}
use Rattle.ir_parser.specs.Words.{name_of}
use Rattle.ir_parser.specs.Tokens.{◌~◌, word}
use Rattle.ir_parser.specs.Values.{int_type, target, attach, attached, extra, detail}
use Rattle.ir_parser.specs.Calls.{call, call_word, phi}
use Rattle.ir_parser.specs.Instrs.{alloca, load, binary, compare, convert, select, computing, giving, store, result_name, giving_instr, storing_instr, bare_instr, instr, instrs, binop, castop}
use Rattle.ir_parser.specs.Terms.{returned, branched, switch_case, cases, switched, bare_term, term, label, block, blocks}
use Rattle.ir_printer.specs.Text.{width_text, constant_text}
use Rattle.printed_trees.proofs.Names.{name_back, label_back}
use Rattle.printed_trees.proofs.Placed.{at_place, Reads, Begins, one_token, both, made, second, first, left, right, some_option, none_more, one_more, weaker}
use Rattle.printed_trees.proofs.Put.{IsPutTarget, IsPutCase, IsPutTerm, IsPutKind, IsPutInstr, IsPutBlock}
use Rattle.printed_trees.proofs.ReadValues.{type_reads, type_begins, word_reads, mark_reads, constant_reads, value_reads, target_reads, no_attach}
use Rattle.printed_trees.proofs.ReadWords.{bin_no_extra, cast_no_extra}
use Rattle.printed_trees.proofs.ReadInstrs.{Follows, comma_reads, typed_reads, instr_reads, instr_begins, result_reads, or_first}
use Rattle.printed_trees.proofs.Scripts as script

-- ---- what may stand behind an instruction

-- behind a word that is none of what may follow arguments
module _ (m : Program) (f : Function) (b : Block) where
  kind_follows : (k : Kind) (rest : List Inked) → IsPutKind m f b k → Follows (script.kind_script m f b k rest)
  unfolding attach extra detail
  kind_follows (Load v) rest put = record { no_attach = record { begins = λ spans. refl }; no_extra = record { begins = λ spans. refl } }
  kind_follows (Store o v) rest put = record { no_attach = record { begins = λ spans. refl }; no_extra = record { begins = λ spans. refl } }
  kind_follows (Compute (op.Bin o w) os) rest put = record { no_attach = record { begins = λ spans. refl }; no_extra = bin_no_extra o script.space _ }
  kind_follows (Compute (op.Icmp p w) os) rest put = record { no_attach = record { begins = λ spans. refl }; no_extra = record { begins = λ spans. refl } }
  kind_follows (Compute (op.Cast c from to) os) rest put = record { no_attach = record { begins = λ spans. refl }; no_extra = cast_no_extra c script.space _ }
  kind_follows (Compute (op.Select w) os) rest put = record { no_attach = record { begins = λ spans. refl }; no_extra = record { begins = λ spans. refl } }
  kind_follows (Call c os) rest put =
      let P : Option Function → Type 0 = λ o. Follows (script.call_of f b os o rest) in
      subst P (sym put.1) (record { no_attach = record { begins = λ spans. refl }; no_extra = record { begins = λ spans. refl } })

  instr_follows : (i : Instr) (rest : List Inked) → IsPutInstr m f b i → Follows (script.instr_script m f b i rest)
  unfolding attach extra detail
  instr_follows i rest put = by i.result
    where
      by : (r : Option Name) → Follows (script.result_script r (script.kind_script m f b i.kind rest))
      by None = kind_follows i.kind rest put.kind
      by (Some name) = record { no_attach = record { begins = λ spans. refl }; no_extra = record { begins = λ spans. refl } }

  instrs_follow : (is : List Instr) (rest : List Inked) → AllByRecursion (IsPutInstr m f b) is → Follows rest → Follows (script.instrs_script m f b is rest)
  unfolding script.instrs_script
  instrs_follow [] rest put follows = follows
  instrs_follow (i ∷ is) rest put follows = instr_follows i _ put.0

  instrs_read : (is : List Instr) (rest : List Inked) → AllByRecursion (IsPutInstr m f b) is → Follows rest → Begins instr rest false → Reads (repeated instr) (script.instrs_script m f b is rest) rest (λ xs. AllZip (IsTreeInstr m f b) is xs)
  unfolding script.instrs_script
  instrs_read [] rest put follows ends = weaker _ _ rest _ _ (λ xs e. rw e tt) (none_more instr rest ends)
  instrs_read (i ∷ is) rest put follows ends =
      weaker _ _ rest _ _ (λ xs h. rw h.2 (h.3, h.4))
      (one_more instr _ _ rest _ _ (instr_begins m f b i _ put.0) (instr_reads m f b i _ (instrs_follow is rest put.1 follows) put.0) (instrs_read is rest put.1 follows ends))

-- ---- allocas

alloca_kind_reads : (x : Width × Name) (rest : List Inked) → Reads giving (script.word (codes "alloca") script.space ∷ script.word (width_text x.0) script.indented ∷ rest) rest (λ y. y.1 ≡ forms.Alloca x.0)
unfolding giving alloca
alloca_kind_reads x rest =
    left _ _ _ rest _ (record { begins = λ spans. refl })
    (made _ _ _ rest (λ y. Unit {0} × (y.1.item ≡ x.0)) _ (λ y h. ap forms.Alloca h.1)
    (both _ _ _ _ rest _ _ (word_reads (codes "alloca") script.space _ (λ s. refl)) (type_reads x.0 script.indented rest)))

alloca_reads : (x : Width × Name) (rest : List Inked) → IsSpellable x.1 → Follows rest → Reads instr (script.alloca_script x rest) rest (λ y. IsTreeAlloca x y)
unfolding instr bare_instr giving_instr result_name
alloca_reads x rest is follows =
    let behind : List Inked = script.word (codes "alloca") script.space ∷ script.word (width_text x.0) script.indented ∷ rest in
    first bare_instr attached (script.alloca_script x rest) rest rest (IsTreeAlloca x) (λ _. Unit {0})
    (left giving_instr storing_instr (script.alloca_script x rest) rest (IsTreeAlloca x) (record { begins = λ spans. refl })
    (made _ (result_name ~ giving) (script.alloca_script x rest) rest (λ y. IsTreeResult (Some x.1) y.0 × (y.1.1 ≡ forms.Alloca x.0)) (IsTreeAlloca x) (λ y h. record { result = h.0; kind = h.1 })
    (both result_name giving (script.alloca_script x rest) behind rest (IsTreeResult (Some x.1)) (λ y. y.1 ≡ forms.Alloca x.0)
    (result_reads (Some x.1) behind is (record { begins = λ spans. refl })) (alloca_kind_reads x rest))))
    (no_attach rest follows.no_attach)

alloca_begins : (x : Width × Name) (rest : List Inked) → Begins instr (script.alloca_script x rest) true
unfolding instr bare_instr giving_instr result_name
alloca_begins x rest = record { begins = λ spans. refl }

allocas_follow : (xs : List (Width × Name)) (rest : List Inked) → Follows rest → Follows (script.allocas_script xs rest)
unfolding script.allocas_script attach extra detail
allocas_follow [] rest follows = follows
allocas_follow (x ∷ xs) rest follows = record { no_attach = record { begins = λ spans. refl }; no_extra = record { begins = λ spans. refl } }

-- allocas, and other instructions behind them
record AreInstrs (m : Program) (f : Function) (b : Block) (vars : List (Width × Name)) (is : List Instr) (xs : List RawInstr) : Type 0 where
  allocas : List RawInstr
  others : List RawInstr
  all : xs ≡ allocas ++ others
  are_allocas : AllZip IsTreeAlloca vars allocas
  are_others : AllZip (IsTreeInstr m f b) is others

module _ (m : Program) (f : Function) (b : Block) where
  one_alloca : (v : Width × Name) (vars : List (Width × Name)) (is : List Instr) (x : RawInstr) (xs : List RawInstr) → IsTreeAlloca v x → AreInstrs m f b vars is xs → AreInstrs m f b (v ∷ vars) is (x ∷ xs)
  one_alloca v vars is x xs one more = record { allocas = x ∷ more.allocas; others = more.others; all = ap (λ (l : List RawInstr). x ∷ l) more.all; are_allocas = (one, more.are_allocas); are_others = more.are_others }

  all_instrs_read : (vars : List (Width × Name)) (is : List Instr) (rest : List Inked) → AllByRecursion (λ x. IsSpellable x.1) vars → AllByRecursion (IsPutInstr m f b) is → Follows rest → Begins instr rest false
      → Reads (repeated instr) (script.allocas_script vars (script.instrs_script m f b is rest)) rest (λ xs. AreInstrs m f b vars is xs)
  unfolding script.allocas_script
  all_instrs_read [] is rest names put follows ends = weaker _ _ rest _ _ (λ xs h. record { allocas = []; others = xs; all = refl; are_allocas = tt; are_others = h }) (instrs_read m f b is rest put follows ends)
  all_instrs_read (v ∷ vars) is rest names put follows ends =
      weaker _ _ rest _ _ (λ xs h. rw h.2 (one_alloca v vars is h.0 h.1 h.3 h.4))
      (one_more instr _ _ rest _ _ (alloca_begins v _) (alloca_reads v _ names.0 (allocas_follow vars _ (instrs_follow m f b is rest put follows))) (all_instrs_read vars is rest names.1 put follows ends))

-- ---- terminators

type_no_void : (w : Width) (rest : List Inked) → Begins (gives (λ t. Rattle.ir_types.specs.declared.tree.RawTerm.TheVariants.Return None) (word (codes "void"))) (script.word (width_text w) script.space ∷ rest) false
type_no_void I1 rest = record { begins = λ spans. refl }
type_no_void I8 rest = record { begins = λ spans. refl }
type_no_void I16 rest = record { begins = λ spans. refl }
type_no_void I32 rest = record { begins = λ spans. refl }
type_no_void I64 rest = record { begins = λ spans. refl }

void_reads : (f : Function) (b : Block) (rest : List Inked) → Reads returned (script.word (codes "void") script.line ∷ rest) rest (λ t. IsTreeTerm f b (Return None) t)
unfolding returned
void_reads f b rest = left _ _ _ rest _ (record { begins = λ spans. refl }) (made _ _ _ rest (λ t. Unit {0}) _ (λ t h. tt) (word_reads (codes "void") script.line rest (λ s. refl)))

bracket_no_case : (rest : List Inked) → Begins switch_case (script.punct (codes "]") script.line ∷ rest) false
unfolding switch_case int_type
bracket_no_case rest = record { begins = λ spans. refl }

jump_reads : (f : Function) (b : Block) (t : ℕ) (rest : List Inked) → IsPutTarget f t → Reads branched (script.target f t script.line rest) rest (λ x. IsTreeTerm f b (Jump t) x)
unfolding branched target
jump_reads f b t rest put = left _ _ _ rest _ (record { begins = λ spans. refl }) (made _ _ _ rest (λ l. l.item ≡ label_tree f t) _ (λ l h. h) (target_reads f t script.line rest put))

module _ (f : Function) (b : Block) where
  case_reads : (w : Width) (c : ℕ × ℕ) (rest : List Inked) → IsPutCase f w c → Reads switch_case (script.case_script f w c rest) rest (λ x. IsTreeCase f w c x)
  unfolding switch_case
  case_reads w c rest put =
      made _ _ _ rest (λ x. (x.0.item ≡ w) × ((x.1.0.item ≡ literal_of w c.0) × (x.1.1.item ≡ label_tree f c.1))) _ (λ x h. record { width = h.0; value = h.1.0; label = h.1.1 })
      (both _ _ _ _ rest _ _ (type_reads w script.space _)
      (both _ _ _ _ rest _ _ (constant_reads w c.0 [] _ put.0) (second _ _ _ _ rest _ _ (comma_reads _) (target_reads f c.1 script.space rest put.1))))

  cases_read : (w : Width) (cs : List (ℕ × ℕ)) (rest : List Inked) → AllByRecursion (IsPutCase f w) cs → Begins switch_case rest false → Reads cases (script.cases_script f w cs rest) rest (λ xs. AllZip (IsTreeCase f w) cs xs)
  unfolding cases script.cases_script switch_case
  cases_read w [] rest put ends = weaker _ _ rest _ _ (λ xs e. rw e tt) (none_more switch_case rest ends)
  cases_read w (c ∷ cs) rest put ends =
      weaker _ _ rest _ _ (λ xs h. rw h.2 (h.3, h.4))
      (one_more switch_case _ _ rest _ _ (record { begins = λ spans. or_first _ _ ((type_begins w script.space (script.ink (script.constant_kind w) (constant_text w c.0) [] ∷ script.comma ∷ script.target f c.1 script.space (script.cases_script f w cs rest))).begins spans) })
      (case_reads w c _ put.0) (cases_read w cs rest put.1 ends))

  -- the value that a `ret` returns
  returned_reads : (o : Operand) (r : Option Width) (w : Width) (rest : List Inked) → r ≡ Some w → f.ret ≡ Some w → Rattle.printed_trees.proofs.Put.IsPutValue f b w o
      → Reads returned (script.returned f b o r rest) rest (λ t. IsTreeTerm f b (Return (Some o)) t)
  unfolding returned
  returned_reads o r w rest e ret put =
      let P : Option Width → Type 0 = λ r. Reads returned (script.returned f b o r rest) rest (λ t. IsTreeTerm f b (Return (Some o)) t) in
      subst P (sym e)
      (right _ _ _ rest _ (type_no_void w _)
      (made _ _ _ rest (λ x. (x.0.item ≡ w) × (x.1.item ≡ value_tree f b w o)) _ (λ x h. (ret ∙ ap Some (sym h.0), h.1 ∙ ap (λ (v : Width). value_tree f b v o) (sym h.0)))
      (typed_reads f b w o script.line rest put)))

  branch_reads : (o : Operand) (t u : ℕ) (rest : List Inked) → IsPutTerm f b (Branch o t u)
      → Reads branched (script.typed f b I1 o [] (script.comma ∷ script.target f t [] (script.comma ∷ script.target f u script.line rest))) rest (λ x. IsTreeTerm f b (Branch o t u) x)
  unfolding branched target
  branch_reads o t u rest put =
      right _ _ _ rest _ (record { begins = λ spans. refl })
      (made _ _ _ rest (λ x. (x.0.item ≡ value_tree f b I1 o) × ((x.1.0.item ≡ label_tree f t) × (x.1.1.item ≡ label_tree f u))) _ (λ x h. (h.0, h.1.0, h.1.1))
      (second _ _ _ _ rest _ _ (word_reads (codes "i1") script.space _ (λ s. refl))
      (both _ _ _ _ rest _ _ (value_reads f b I1 o [] _ put.0)
      (second _ _ _ _ rest _ _ (comma_reads _)
      (both _ _ _ _ rest _ _ (target_reads f t [] _ put.1) (second _ _ _ _ rest _ _ (comma_reads _) (target_reads f u script.line rest put.2)))))))

  switch_reads : (w : Width) (o : Operand) (t : ℕ) (cs : List (ℕ × ℕ)) (rest : List Inked) → IsPutTerm f b (Switch w o t cs)
      → Reads switched (script.typed f b w o [] (script.comma ∷ script.target f t script.space (script.punct (codes "[") script.space ∷ script.cases_script f w cs (script.punct (codes "]") script.line ∷ rest)))) rest (λ x. IsTreeTerm f b (Switch w o t cs) x)
  unfolding switched
  switch_reads w o t cs rest put =
      made _ _ _ rest (λ x. (x.0.item ≡ w) × ((x.1.0.item ≡ value_tree f b w o) × ((x.1.1.0.item ≡ label_tree f t) × AllZip (IsTreeCase f w) cs x.1.1.1))) _ (λ x h. (h.0, h.1.0, h.1.1.0, h.1.1.1))
      (both _ _ _ _ rest _ _ (type_reads w script.space _)
      (both _ _ _ _ rest _ _ (value_reads f b w o [] _ put.0)
      (second _ _ _ _ rest _ _ (comma_reads _)
      (both _ _ _ _ rest _ _ (target_reads f t script.space _ put.1)
      (second _ _ _ _ rest _ _ (mark_reads (codes "[") script.space _ (λ s. refl))
      (first _ _ _ _ rest _ _ (cases_read w cs _ put.2 (bracket_no_case rest)) (mark_reads (codes "]") script.line rest (λ s. refl))))))))

  bare_reads : (t : Terminator) (rest : List Inked) → IsPutTerm f b t → Reads bare_term (script.term_script f b t rest) rest (λ x. IsTreeTerm f b t x.1)
  unfolding bare_term returned branched
  bare_reads (Return None) rest put =
      left _ _ _ rest _ (record { begins = λ spans. refl })
      (made _ _ _ rest (λ x. Unit {0} × IsTreeTerm f b (Return None) x.1) _ (λ x h. h.1)
      (both _ _ _ _ rest _ _ (word_reads (codes "ret") script.space _ (λ s. refl)) (void_reads f b rest)))
  bare_reads (Return (Some o)) rest put =
      left _ _ _ rest _ (record { begins = λ spans. refl })
      (made _ _ _ rest (λ x. Unit {0} × IsTreeTerm f b (Return (Some o)) x.1) _ (λ x h. h.1)
      (both _ _ _ _ rest _ _ (word_reads (codes "ret") script.space _ (λ s. refl)) (returned_reads o f.ret put.0 rest put.1 put.1 put.2)))
  bare_reads (Jump t) rest put =
      right _ _ _ rest _ (record { begins = λ spans. refl })
      (left _ _ _ rest _ (record { begins = λ spans. refl })
      (made _ _ _ rest (λ x. Unit {0} × IsTreeTerm f b (Jump t) x.1) _ (λ x h. h.1)
      (both _ _ _ _ rest _ _ (word_reads (codes "br") script.space _ (λ s. refl)) (jump_reads f b t rest put))))
  bare_reads (Branch o t u) rest put =
      right _ _ _ rest _ (record { begins = λ spans. refl })
      (left _ _ _ rest _ (record { begins = λ spans. refl })
      (made _ _ _ rest (λ x. Unit {0} × IsTreeTerm f b (Branch o t u) x.1) _ (λ x h. h.1)
      (both _ _ _ _ rest _ _ (word_reads (codes "br") script.space _ (λ s. refl)) (branch_reads o t u rest put))))
  bare_reads (Switch w o t cs) rest put =
      right _ _ _ rest _ (record { begins = λ spans. refl })
      (right _ _ _ rest _ (record { begins = λ spans. refl })
      (left _ _ _ rest _ (record { begins = λ spans. refl })
      (made _ _ _ rest (λ x. Unit {0} × IsTreeTerm f b (Switch w o t cs) x.1) _ (λ x h. h.1)
      (both _ _ _ _ rest _ _ (word_reads (codes "switch") script.space _ (λ s. refl)) (switch_reads w o t cs rest put)))))
  bare_reads Unreachable rest put =
      right _ _ _ rest _ (record { begins = λ spans. refl })
      (right _ _ _ rest _ (record { begins = λ spans. refl })
      (right _ _ _ rest _ (record { begins = λ spans. refl })
      (made _ _ _ rest (λ t. Unit {0}) _ (λ t h. tt) (word_reads (codes "unreachable") script.line rest (λ s. refl)))))

  term_reads : (t : Terminator) (rest : List Inked) → Begins attach rest false → IsPutTerm f b t → Reads term (script.term_script f b t rest) rest (λ x. IsTreeTerm f b t x.1)
  unfolding term
  term_reads t rest follows put = first _ _ _ _ rest _ _ (bare_reads t rest put) (no_attach rest follows)

  -- a terminator is no instruction, and nothing that is dropped
  record TermStarts (t : Terminator) (rest : List Inked) : Type 0 where
    no_instr : Begins instr (script.term_script f b t rest) false
    follows : Follows (script.term_script f b t rest)

  term_starts : (t : Terminator) (rest : List Inked) → TermStarts t rest
  unfolding instr bare_instr giving_instr result_name giving alloca load computing binary compare convert select binop castop call call_word phi storing_instr store attach extra detail
  term_starts (Return None) rest = record { no_instr = record { begins = λ spans. refl }; follows = record { no_attach = record { begins = λ spans. refl }; no_extra = record { begins = λ spans. refl } } }
  term_starts (Return (Some o)) rest = record { no_instr = record { begins = λ spans. refl }; follows = record { no_attach = record { begins = λ spans. refl }; no_extra = record { begins = λ spans. refl } } }
  term_starts (Jump t) rest = record { no_instr = record { begins = λ spans. refl }; follows = record { no_attach = record { begins = λ spans. refl }; no_extra = record { begins = λ spans. refl } } }
  term_starts (Branch o t u) rest = record { no_instr = record { begins = λ spans. refl }; follows = record { no_attach = record { begins = λ spans. refl }; no_extra = record { begins = λ spans. refl } } }
  term_starts (Switch w o t cs) rest = record { no_instr = record { begins = λ spans. refl }; follows = record { no_attach = record { begins = λ spans. refl }; no_extra = record { begins = λ spans. refl } } }
  term_starts Unreachable rest = record { no_instr = record { begins = λ spans. refl }; follows = record { no_attach = record { begins = λ spans. refl }; no_extra = record { begins = λ spans. refl } } }

-- ---- blocks

label_reads : (n : Name) (rest : List Inked) → IsSpellable n → Reads label (script.ink kinds.Label (name_text n ++ codes ":") script.indented ∷ rest) rest (λ l. IsTreeResult (Some n) l)
unfolding label
label_reads n rest is =
    weaker _ _ rest _ _ (λ l h. rw h.1 h.2)
    (some_option _ _ _ _ (record { begins = λ spans. refl })
    (made _ _ _ rest (λ t. (s : Span) × (t ≡ at_place (script.ink kinds.Label (name_text n ++ codes ":") script.indented) s)) (λ x. x.item ≡ spelled n) (λ t h. rw h.1 (ap name_of (label_back (name_text n)) ∙ name_back n is))
    (one_token _ _ rest (λ s. refl))))

module _ (m : Program) (f : Function) where
  block_reads : (vars : List (Width × Name)) (b : Block) (rest : List Inked) → AllByRecursion (λ x. IsSpellable x.1) vars → IsPutBlock m f b → Begins attach rest false → Reads block (script.block_script m f vars b rest) rest (λ x. IsTreeBlock m f vars b x)
  unfolding block instrs
  block_reads vars b rest names put follows =
      let starts = term_starts f b b.term rest in
      made _ _ _ rest (λ x. IsTreeResult (Some b.name) x.0 × (AreInstrs m f b vars b.instrs x.1.0 × IsTreeTerm f b b.term x.1.1.1)) _
      (λ x h. record { label = h.0; allocas = h.1.0.allocas; others = h.1.0.others; instrs = h.1.0.all; are_allocas = h.1.0.are_allocas; are_others = h.1.0.are_others; term = h.1.1 })
      (both _ _ _ _ rest _ _ (label_reads b.name _ put.label)
      (both _ _ _ _ rest _ _ (all_instrs_read m f b vars b.instrs _ names put.instrs starts.follows starts.no_instr) (term_reads f b b.term rest follows put.term)))

  -- a block's label is no attach, and begins a block
  block_starts : (vars : List (Width × Name)) (b : Block) (rest : List Inked) → Begins attach (script.block_script m f vars b rest) false × Begins block (script.block_script m f vars b rest) true
  unfolding attach block label
  block_starts vars b rest = (record { begins = λ spans. refl }, record { begins = λ spans. refl })

  later_follow : (bs : List Block) (rest : List Inked) → Begins attach rest false → Begins attach (script.later_blocks m f bs rest) false
  unfolding script.later_blocks
  later_follow [] rest follows = follows
  later_follow (b ∷ bs) rest follows = (block_starts [] b (script.later_blocks m f bs rest)).0

  later_read : (bs : List Block) (rest : List Inked) → AllByRecursion (IsPutBlock m f) bs → Begins attach rest false → Begins block rest false → Reads (repeated block) (script.later_blocks m f bs rest) rest (λ xs. AllZip (IsTreeBlock m f []) bs xs)
  unfolding script.later_blocks
  later_read [] rest put follows ends = weaker _ _ rest _ _ (λ xs e. rw e tt) (none_more block rest ends)
  later_read (b ∷ bs) rest put follows ends =
      weaker _ _ rest _ _ (λ xs h. rw h.2 (h.3, h.4))
      (one_more block _ _ rest _ _ (block_starts [] b (script.later_blocks m f bs rest)).1 (block_reads [] b _ tt put.0 (later_follow bs rest follows)) (later_read bs rest put.1 follows ends))

  pub blocks_read : (b : Block) (bs : List Block) (rest : List Inked) → AllByRecursion (λ x. IsSpellable x.1) f.vars → AllByRecursion (IsPutBlock m f) (b ∷ bs) → Begins attach rest false → Begins block rest false
      → Reads blocks (script.block_script m f f.vars b (script.later_blocks m f bs rest)) rest (λ xs. AreTreeBlocks m f (b ∷ bs) xs)
  unfolding blocks
  blocks_read b bs rest names put follows ends =
      made _ _ _ rest (λ x. IsTreeBlock m f f.vars b x.0 × AllZip (IsTreeBlock m f []) bs x.1) _ (λ x h. (h.0, h.1))
      (both _ _ _ _ rest _ _ (block_reads f.vars b _ names put.0 (later_follow bs rest follows)) (later_read bs rest put.1 follows ends))
