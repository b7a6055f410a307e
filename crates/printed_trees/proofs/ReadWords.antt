-- The words of operations of a canonical text: what they stand for, and what they begin.
use Rattle.std.proofs.Common.{◌≡◌, ℕ, true, false, List, ◌∷◌, refl}
use Rattle.mc_num.specs.declared.op.Width.{Width}
use Rattle.mc_num.specs.declared.op.Width.TheVariants.{I1, I8, I16, I32, I64}
use Rattle.mc_num.specs.declared.op.Bin.{Bin}
use Rattle.mc_num.specs.declared.op.Bin.TheVariants as bins
use Rattle.mc_num.specs.declared.op.Pred.{Pred}
use Rattle.mc_num.specs.declared.op.Pred.TheVariants as preds
use Rattle.mc_num.specs.declared.op.Cast.{Cast}
use Rattle.mc_num.specs.declared.op.Cast.TheVariants as casts
use Rattle.ir_types.specs.declared.span.Span.{Span}
use Rattle.ir_lexer.specs.Texts.{Inked}
use Rattle.ir_parser.specs.Tokens.{one_of}
use Rattle.ir_parser.specs.Values.{detail, extra, flag_words, attribute_words, linkage_words}
use Rattle.ir_parser.specs.Instrs.{binop, predicate, castop, alloca, load, binary, compare, convert}
use Rattle.ir_printer.specs.Text.{width_text, bin_text, pred_text, cast_text}
use Rattle.printed_trees.proofs.Placed.{at_place, Reads, Begins, made, one_token}
use Rattle.printed_trees.proofs.Scripts as script

pub bin_reads : (o : Bin) (gap : List ℕ) (rest : List Inked) → Reads binop (script.word (bin_text o) gap ∷ rest) rest (λ t. t.item ≡ o)
unfolding binop
bin_reads bins.Add gap rest = made _ _ _ _ (λ t. (s : Span) × (t ≡ at_place (script.word (bin_text bins.Add) gap) s)) _ (λ t p. rw p.1 refl) (one_token _ _ rest (λ s. refl))
bin_reads bins.Sub gap rest = made _ _ _ _ (λ t. (s : Span) × (t ≡ at_place (script.word (bin_text bins.Sub) gap) s)) _ (λ t p. rw p.1 refl) (one_token _ _ rest (λ s. refl))
bin_reads bins.Mul gap rest = made _ _ _ _ (λ t. (s : Span) × (t ≡ at_place (script.word (bin_text bins.Mul) gap) s)) _ (λ t p. rw p.1 refl) (one_token _ _ rest (λ s. refl))
bin_reads bins.UDiv gap rest = made _ _ _ _ (λ t. (s : Span) × (t ≡ at_place (script.word (bin_text bins.UDiv) gap) s)) _ (λ t p. rw p.1 refl) (one_token _ _ rest (λ s. refl))
bin_reads bins.SDiv gap rest = made _ _ _ _ (λ t. (s : Span) × (t ≡ at_place (script.word (bin_text bins.SDiv) gap) s)) _ (λ t p. rw p.1 refl) (one_token _ _ rest (λ s. refl))
bin_reads bins.URem gap rest = made _ _ _ _ (λ t. (s : Span) × (t ≡ at_place (script.word (bin_text bins.URem) gap) s)) _ (λ t p. rw p.1 refl) (one_token _ _ rest (λ s. refl))
bin_reads bins.SRem gap rest = made _ _ _ _ (λ t. (s : Span) × (t ≡ at_place (script.word (bin_text bins.SRem) gap) s)) _ (λ t p. rw p.1 refl) (one_token _ _ rest (λ s. refl))
bin_reads bins.Shl gap rest = made _ _ _ _ (λ t. (s : Span) × (t ≡ at_place (script.word (bin_text bins.Shl) gap) s)) _ (λ t p. rw p.1 refl) (one_token _ _ rest (λ s. refl))
bin_reads bins.LShr gap rest = made _ _ _ _ (λ t. (s : Span) × (t ≡ at_place (script.word (bin_text bins.LShr) gap) s)) _ (λ t p. rw p.1 refl) (one_token _ _ rest (λ s. refl))
bin_reads bins.AShr gap rest = made _ _ _ _ (λ t. (s : Span) × (t ≡ at_place (script.word (bin_text bins.AShr) gap) s)) _ (λ t p. rw p.1 refl) (one_token _ _ rest (λ s. refl))
bin_reads bins.And gap rest = made _ _ _ _ (λ t. (s : Span) × (t ≡ at_place (script.word (bin_text bins.And) gap) s)) _ (λ t p. rw p.1 refl) (one_token _ _ rest (λ s. refl))
bin_reads bins.Or gap rest = made _ _ _ _ (λ t. (s : Span) × (t ≡ at_place (script.word (bin_text bins.Or) gap) s)) _ (λ t p. rw p.1 refl) (one_token _ _ rest (λ s. refl))
bin_reads bins.Xor gap rest = made _ _ _ _ (λ t. (s : Span) × (t ≡ at_place (script.word (bin_text bins.Xor) gap) s)) _ (λ t p. rw p.1 refl) (one_token _ _ rest (λ s. refl))

pub pred_reads : (p : Pred) (gap : List ℕ) (rest : List Inked) → Reads predicate (script.word (pred_text p) gap ∷ rest) rest (λ t. t.item ≡ p)
unfolding predicate
pred_reads preds.Eq gap rest = made _ _ _ _ (λ t. (s : Span) × (t ≡ at_place (script.word (pred_text preds.Eq) gap) s)) _ (λ t p. rw p.1 refl) (one_token _ _ rest (λ s. refl))
pred_reads preds.Ne gap rest = made _ _ _ _ (λ t. (s : Span) × (t ≡ at_place (script.word (pred_text preds.Ne) gap) s)) _ (λ t p. rw p.1 refl) (one_token _ _ rest (λ s. refl))
pred_reads preds.Ugt gap rest = made _ _ _ _ (λ t. (s : Span) × (t ≡ at_place (script.word (pred_text preds.Ugt) gap) s)) _ (λ t p. rw p.1 refl) (one_token _ _ rest (λ s. refl))
pred_reads preds.Uge gap rest = made _ _ _ _ (λ t. (s : Span) × (t ≡ at_place (script.word (pred_text preds.Uge) gap) s)) _ (λ t p. rw p.1 refl) (one_token _ _ rest (λ s. refl))
pred_reads preds.Ult gap rest = made _ _ _ _ (λ t. (s : Span) × (t ≡ at_place (script.word (pred_text preds.Ult) gap) s)) _ (λ t p. rw p.1 refl) (one_token _ _ rest (λ s. refl))
pred_reads preds.Ule gap rest = made _ _ _ _ (λ t. (s : Span) × (t ≡ at_place (script.word (pred_text preds.Ule) gap) s)) _ (λ t p. rw p.1 refl) (one_token _ _ rest (λ s. refl))
pred_reads preds.Sgt gap rest = made _ _ _ _ (λ t. (s : Span) × (t ≡ at_place (script.word (pred_text preds.Sgt) gap) s)) _ (λ t p. rw p.1 refl) (one_token _ _ rest (λ s. refl))
pred_reads preds.Sge gap rest = made _ _ _ _ (λ t. (s : Span) × (t ≡ at_place (script.word (pred_text preds.Sge) gap) s)) _ (λ t p. rw p.1 refl) (one_token _ _ rest (λ s. refl))
pred_reads preds.Slt gap rest = made _ _ _ _ (λ t. (s : Span) × (t ≡ at_place (script.word (pred_text preds.Slt) gap) s)) _ (λ t p. rw p.1 refl) (one_token _ _ rest (λ s. refl))
pred_reads preds.Sle gap rest = made _ _ _ _ (λ t. (s : Span) × (t ≡ at_place (script.word (pred_text preds.Sle) gap) s)) _ (λ t p. rw p.1 refl) (one_token _ _ rest (λ s. refl))

pub cast_reads : (c : Cast) (gap : List ℕ) (rest : List Inked) → Reads castop (script.word (cast_text c) gap ∷ rest) rest (λ t. t.item ≡ c)
unfolding castop
cast_reads casts.Zext gap rest = made _ _ _ _ (λ t. (s : Span) × (t ≡ at_place (script.word (cast_text casts.Zext) gap) s)) _ (λ t p. rw p.1 refl) (one_token _ _ rest (λ s. refl))
cast_reads casts.Sext gap rest = made _ _ _ _ (λ t. (s : Span) × (t ≡ at_place (script.word (cast_text casts.Sext) gap) s)) _ (λ t p. rw p.1 refl) (one_token _ _ rest (λ s. refl))
cast_reads casts.Trunc gap rest = made _ _ _ _ (λ t. (s : Span) × (t ≡ at_place (script.word (cast_text casts.Trunc) gap) s)) _ (λ t p. rw p.1 refl) (one_token _ _ rest (λ s. refl))
cast_reads casts.Bitcast gap rest = made _ _ _ _ (λ t. (s : Span) × (t ≡ at_place (script.word (cast_text casts.Bitcast) gap) s)) _ (λ t p. rw p.1 refl) (one_token _ _ rest (λ s. refl))

-- ---- what words begin

pub bin_no_alloca : (x : Bin) (gap : List ℕ) (rest : List Inked) → Begins alloca (script.word (bin_text x) gap ∷ rest) false
unfolding alloca
bin_no_alloca bins.Add gap rest = record { begins = λ spans. refl }
bin_no_alloca bins.Sub gap rest = record { begins = λ spans. refl }
bin_no_alloca bins.Mul gap rest = record { begins = λ spans. refl }
bin_no_alloca bins.UDiv gap rest = record { begins = λ spans. refl }
bin_no_alloca bins.SDiv gap rest = record { begins = λ spans. refl }
bin_no_alloca bins.URem gap rest = record { begins = λ spans. refl }
bin_no_alloca bins.SRem gap rest = record { begins = λ spans. refl }
bin_no_alloca bins.Shl gap rest = record { begins = λ spans. refl }
bin_no_alloca bins.LShr gap rest = record { begins = λ spans. refl }
bin_no_alloca bins.AShr gap rest = record { begins = λ spans. refl }
bin_no_alloca bins.And gap rest = record { begins = λ spans. refl }
bin_no_alloca bins.Or gap rest = record { begins = λ spans. refl }
bin_no_alloca bins.Xor gap rest = record { begins = λ spans. refl }

pub bin_no_load : (x : Bin) (gap : List ℕ) (rest : List Inked) → Begins load (script.word (bin_text x) gap ∷ rest) false
unfolding load
bin_no_load bins.Add gap rest = record { begins = λ spans. refl }
bin_no_load bins.Sub gap rest = record { begins = λ spans. refl }
bin_no_load bins.Mul gap rest = record { begins = λ spans. refl }
bin_no_load bins.UDiv gap rest = record { begins = λ spans. refl }
bin_no_load bins.SDiv gap rest = record { begins = λ spans. refl }
bin_no_load bins.URem gap rest = record { begins = λ spans. refl }
bin_no_load bins.SRem gap rest = record { begins = λ spans. refl }
bin_no_load bins.Shl gap rest = record { begins = λ spans. refl }
bin_no_load bins.LShr gap rest = record { begins = λ spans. refl }
bin_no_load bins.AShr gap rest = record { begins = λ spans. refl }
bin_no_load bins.And gap rest = record { begins = λ spans. refl }
bin_no_load bins.Or gap rest = record { begins = λ spans. refl }
bin_no_load bins.Xor gap rest = record { begins = λ spans. refl }

pub bin_begins : (x : Bin) (gap : List ℕ) (rest : List Inked) → Begins binary (script.word (bin_text x) gap ∷ rest) true
unfolding binary binop
bin_begins bins.Add gap rest = record { begins = λ spans. refl }
bin_begins bins.Sub gap rest = record { begins = λ spans. refl }
bin_begins bins.Mul gap rest = record { begins = λ spans. refl }
bin_begins bins.UDiv gap rest = record { begins = λ spans. refl }
bin_begins bins.SDiv gap rest = record { begins = λ spans. refl }
bin_begins bins.URem gap rest = record { begins = λ spans. refl }
bin_begins bins.SRem gap rest = record { begins = λ spans. refl }
bin_begins bins.Shl gap rest = record { begins = λ spans. refl }
bin_begins bins.LShr gap rest = record { begins = λ spans. refl }
bin_begins bins.AShr gap rest = record { begins = λ spans. refl }
bin_begins bins.And gap rest = record { begins = λ spans. refl }
bin_begins bins.Or gap rest = record { begins = λ spans. refl }
bin_begins bins.Xor gap rest = record { begins = λ spans. refl }

pub cast_no_alloca : (x : Cast) (gap : List ℕ) (rest : List Inked) → Begins alloca (script.word (cast_text x) gap ∷ rest) false
unfolding alloca
cast_no_alloca casts.Zext gap rest = record { begins = λ spans. refl }
cast_no_alloca casts.Sext gap rest = record { begins = λ spans. refl }
cast_no_alloca casts.Trunc gap rest = record { begins = λ spans. refl }
cast_no_alloca casts.Bitcast gap rest = record { begins = λ spans. refl }

pub cast_no_load : (x : Cast) (gap : List ℕ) (rest : List Inked) → Begins load (script.word (cast_text x) gap ∷ rest) false
unfolding load
cast_no_load casts.Zext gap rest = record { begins = λ spans. refl }
cast_no_load casts.Sext gap rest = record { begins = λ spans. refl }
cast_no_load casts.Trunc gap rest = record { begins = λ spans. refl }
cast_no_load casts.Bitcast gap rest = record { begins = λ spans. refl }

pub cast_no_binary : (x : Cast) (gap : List ℕ) (rest : List Inked) → Begins binary (script.word (cast_text x) gap ∷ rest) false
unfolding binary binop
cast_no_binary casts.Zext gap rest = record { begins = λ spans. refl }
cast_no_binary casts.Sext gap rest = record { begins = λ spans. refl }
cast_no_binary casts.Trunc gap rest = record { begins = λ spans. refl }
cast_no_binary casts.Bitcast gap rest = record { begins = λ spans. refl }

pub cast_no_compare : (x : Cast) (gap : List ℕ) (rest : List Inked) → Begins compare (script.word (cast_text x) gap ∷ rest) false
unfolding compare
cast_no_compare casts.Zext gap rest = record { begins = λ spans. refl }
cast_no_compare casts.Sext gap rest = record { begins = λ spans. refl }
cast_no_compare casts.Trunc gap rest = record { begins = λ spans. refl }
cast_no_compare casts.Bitcast gap rest = record { begins = λ spans. refl }

pub cast_begins : (x : Cast) (gap : List ℕ) (rest : List Inked) → Begins convert (script.word (cast_text x) gap ∷ rest) true
unfolding convert castop
cast_begins casts.Zext gap rest = record { begins = λ spans. refl }
cast_begins casts.Sext gap rest = record { begins = λ spans. refl }
cast_begins casts.Trunc gap rest = record { begins = λ spans. refl }
cast_begins casts.Bitcast gap rest = record { begins = λ spans. refl }

pub type_no_flag : (x : Width) (gap : List ℕ) (rest : List Inked) → Begins (one_of flag_words) (script.word (width_text x) gap ∷ rest) false
type_no_flag I1 gap rest = record { begins = λ spans. refl }
type_no_flag I8 gap rest = record { begins = λ spans. refl }
type_no_flag I16 gap rest = record { begins = λ spans. refl }
type_no_flag I32 gap rest = record { begins = λ spans. refl }
type_no_flag I64 gap rest = record { begins = λ spans. refl }

pub pred_no_flag : (x : Pred) (gap : List ℕ) (rest : List Inked) → Begins (one_of flag_words) (script.word (pred_text x) gap ∷ rest) false
pred_no_flag preds.Eq gap rest = record { begins = λ spans. refl }
pred_no_flag preds.Ne gap rest = record { begins = λ spans. refl }
pred_no_flag preds.Ugt gap rest = record { begins = λ spans. refl }
pred_no_flag preds.Uge gap rest = record { begins = λ spans. refl }
pred_no_flag preds.Ult gap rest = record { begins = λ spans. refl }
pred_no_flag preds.Ule gap rest = record { begins = λ spans. refl }
pred_no_flag preds.Sgt gap rest = record { begins = λ spans. refl }
pred_no_flag preds.Sge gap rest = record { begins = λ spans. refl }
pred_no_flag preds.Slt gap rest = record { begins = λ spans. refl }
pred_no_flag preds.Sle gap rest = record { begins = λ spans. refl }

pub type_no_linkage : (x : Width) (gap : List ℕ) (rest : List Inked) → Begins (one_of linkage_words) (script.word (width_text x) gap ∷ rest) false
type_no_linkage I1 gap rest = record { begins = λ spans. refl }
type_no_linkage I8 gap rest = record { begins = λ spans. refl }
type_no_linkage I16 gap rest = record { begins = λ spans. refl }
type_no_linkage I32 gap rest = record { begins = λ spans. refl }
type_no_linkage I64 gap rest = record { begins = λ spans. refl }

pub type_no_attribute : (x : Width) (gap : List ℕ) (rest : List Inked) → Begins (one_of attribute_words) (script.word (width_text x) gap ∷ rest) false
type_no_attribute I1 gap rest = record { begins = λ spans. refl }
type_no_attribute I8 gap rest = record { begins = λ spans. refl }
type_no_attribute I16 gap rest = record { begins = λ spans. refl }
type_no_attribute I32 gap rest = record { begins = λ spans. refl }
type_no_attribute I64 gap rest = record { begins = λ spans. refl }

pub bin_no_extra : (x : Bin) (gap : List ℕ) (rest : List Inked) → Begins extra (script.word (bin_text x) gap ∷ rest) false
unfolding extra detail
bin_no_extra bins.Add gap rest = record { begins = λ spans. refl }
bin_no_extra bins.Sub gap rest = record { begins = λ spans. refl }
bin_no_extra bins.Mul gap rest = record { begins = λ spans. refl }
bin_no_extra bins.UDiv gap rest = record { begins = λ spans. refl }
bin_no_extra bins.SDiv gap rest = record { begins = λ spans. refl }
bin_no_extra bins.URem gap rest = record { begins = λ spans. refl }
bin_no_extra bins.SRem gap rest = record { begins = λ spans. refl }
bin_no_extra bins.Shl gap rest = record { begins = λ spans. refl }
bin_no_extra bins.LShr gap rest = record { begins = λ spans. refl }
bin_no_extra bins.AShr gap rest = record { begins = λ spans. refl }
bin_no_extra bins.And gap rest = record { begins = λ spans. refl }
bin_no_extra bins.Or gap rest = record { begins = λ spans. refl }
bin_no_extra bins.Xor gap rest = record { begins = λ spans. refl }

pub cast_no_extra : (x : Cast) (gap : List ℕ) (rest : List Inked) → Begins extra (script.word (cast_text x) gap ∷ rest) false
unfolding extra detail
cast_no_extra casts.Zext gap rest = record { begins = λ spans. refl }
cast_no_extra casts.Sext gap rest = record { begins = λ spans. refl }
cast_no_extra casts.Trunc gap rest = record { begins = λ spans. refl }
cast_no_extra casts.Bitcast gap rest = record { begins = λ spans. refl }
