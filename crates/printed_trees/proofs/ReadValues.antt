-- Types, values, addresses and labels of a canonical text, read.
use Rattle.std.proofs.Common.{◌≡◌, ◌<◌, ◌≤◌, ◌+◌, ◌-◌, ◌^◌, ◌==◌, not, nat_lt, ℕ, pos, negsuc, Bool, true, false, cond, List, [], ◌∷◌, Option, Some, None, codes, refl, sym, ap, subst, ◌∙◌, arith}
use Rattle.std.specs.List.{list_all}
use Rattle.std.specs.Option.{option_map_or}
use Rattle.std.specs.Fmt.{signed_decimal}
use Rattle.mc_num.specs.Op.{bits}
use Rattle.mc_num.specs.declared.op.Width.{Width}
use Rattle.mc_num.specs.declared.op.Width.TheVariants.{I1, I8, I16, I32, I64}
use Rattle.ir_types.specs.Bytes.{is_digit}
use Rattle.ir_types.specs.Names.{IsSpellable, spelled, quoted_text}
use Rattle.ir_types.specs.Program.{Program}
use Rattle.ir_types.specs.TreeOf.{signed, literal_of, operand_name, value_tree, address_tree, label_tree, type_tree}
use Rattle.ir_types.specs.declared.name.Name.{Name}
use Rattle.ir_types.specs.declared.name.Name.TheVariants.{Text, Number}
use Rattle.ir_types.specs.declared.span.At.{At}
use Rattle.ir_types.specs.declared.span.Span.{Span}
use Rattle.ir_types.specs.declared.syntax.Operand.{Operand}
use Rattle.ir_types.specs.declared.syntax.Operand.TheVariants.{Const, Param, Reg}
use Rattle.ir_types.specs.declared.syntax.Variable.{Variable}
use Rattle.ir_types.specs.declared.syntax.Variable.TheVariants as variable
use Rattle.ir_types.specs.declared.syntax.Block.{Block}
use Rattle.ir_types.specs.declared.syntax.Function.{Function}
use Rattle.ir_types.specs.declared.syntax.Global.{Global}
use Rattle.ir_types.specs.declared.tree.Ty.{Ty}
use Rattle.ir_types.specs.declared.tree.Address.TheVariants as addresses
use Rattle.ir_types.specs.declared.tree.RawValue.{RawValue}
use Rattle.ir_types.specs.declared.tree.RawValue.TheVariants as values
use Rattle.ir_lexer.specs.Lexeme.{Lexeme}
use Rattle.ir_lexer.specs.Texts.{Inked}
use Rattle.ir_lexer.specs.declared.token.TokenKind.TheVariants as kinds
use Rattle.grammar.specs.Grammar.{token, gives}
use Rattle.ir_parser.specs.Words.{unquoted, name_of, local_name, global_name, literal}
use Rattle.ir_parser.specs.Tokens.{is_spelled, is_named_global, a, word, mark, one_of, at, local, global}
use Rattle.ir_parser.specs.Values.{int_type, ret, cvalue, gvalue, value, addr, target, attach, attached, extra, extras, any_of}
use Rattle.ir_printer.specs.Text.{width_text, type_text, local_text, global_text, constant_text, variable_text}
use Rattle.printed_trees.proofs.Names.{name_back, text_back, literal_back, number_of_back, negative_back}
use Rattle.printed_trees.proofs.Placed.{at_place, IsRead, made_at, token_at, Reads, Begins, one_token, made, second, left, right, none_more, weaker}
use Rattle.printed_trees.proofs.Put.{IsPutName, IsPutValue, IsPutVariable, IsPutTarget}
use Rattle.printed_trees.proofs.Scripts as script

-- ---- types

pub type_reads : (w : Width) (gap : List ℕ) (rest : List Inked) → Reads int_type (script.word (width_text w) gap ∷ rest) rest (λ t. t.item ≡ w)
unfolding int_type
type_reads I1 gap rest = made _ _ _ _ (λ t. (s : Span) × (t ≡ at_place (script.word (width_text I1) gap) s)) _ (λ t p. rw p.1 refl) (one_token _ _ rest (λ s. refl))
type_reads I8 gap rest = made _ _ _ _ (λ t. (s : Span) × (t ≡ at_place (script.word (width_text I8) gap) s)) _ (λ t p. rw p.1 refl) (one_token _ _ rest (λ s. refl))
type_reads I16 gap rest = made _ _ _ _ (λ t. (s : Span) × (t ≡ at_place (script.word (width_text I16) gap) s)) _ (λ t p. rw p.1 refl) (one_token _ _ rest (λ s. refl))
type_reads I32 gap rest = made _ _ _ _ (λ t. (s : Span) × (t ≡ at_place (script.word (width_text I32) gap) s)) _ (λ t p. rw p.1 refl) (one_token _ _ rest (λ s. refl))
type_reads I64 gap rest = made _ _ _ _ (λ t. (s : Span) × (t ≡ at_place (script.word (width_text I64) gap) s)) _ (λ t p. rw p.1 refl) (one_token _ _ rest (λ s. refl))

pub type_begins : (w : Width) (gap : List ℕ) (rest : List Inked) → Begins int_type (script.word (width_text w) gap ∷ rest) true
unfolding int_type
type_begins I1 gap rest = record { begins = λ spans. refl }
type_begins I8 gap rest = record { begins = λ spans. refl }
type_begins I16 gap rest = record { begins = λ spans. refl }
type_begins I32 gap rest = record { begins = λ spans. refl }
type_begins I64 gap rest = record { begins = λ spans. refl }

void_is_no_type : (gap : List ℕ) (rest : List Inked) → Begins (gives (λ (w : At Width). Rattle.ir_types.specs.declared.tree.Ty.TheVariants.Int w.item) int_type) (script.word (codes "void") gap ∷ rest) false
unfolding int_type
void_is_no_type gap rest = record { begins = λ spans. refl }

pub ret_reads : (o : Option Width) (gap : List ℕ) (rest : List Inked) → Reads ret (script.word (type_text o) gap ∷ rest) rest (λ t. t ≡ type_tree o)
unfolding ret
ret_reads (Some w) gap rest = left _ _ _ rest _ (record { begins = (type_begins w gap rest).begins }) (made _ _ _ _ (λ t. t.item ≡ w) _ (λ t p. rw p refl) (type_reads w gap rest))
ret_reads None gap rest = right _ _ _ rest _ (void_is_no_type gap rest) (made _ _ _ _ (λ t. (s : Span) × (t ≡ at_place (script.word (codes "void") gap) s)) _ (λ t p. refl) (one_token _ _ rest (λ s. refl)))

-- ---- words and marks

pub word_reads : (text gap : List ℕ) (rest : List Inked) → ((s : Span) → is_spelled kinds.Word text (at_place (script.word text gap) s) ≡ true) → Reads (word text) (script.word text gap ∷ rest) rest (λ t. Unit {0})
word_reads text gap rest passes = weaker _ _ rest _ _ (λ t p. tt) (one_token (is_spelled kinds.Word text) (script.word text gap) rest passes)

pub mark_reads : (text gap : List ℕ) (rest : List Inked) → ((s : Span) → is_spelled kinds.Punct text (at_place (script.punct text gap) s) ≡ true) → Reads (mark text) (script.punct text gap ∷ rest) rest (λ t. Unit {0})
mark_reads text gap rest passes = weaker _ _ rest _ _ (λ t p. tt) (one_token (is_spelled kinds.Punct text) (script.punct text gap) rest passes)

-- ---- names

pub local_reads : (n : Name) (gap : List ℕ) (rest : List Inked) → IsSpellable n → Reads local (script.local (local_text n) gap ∷ rest) rest (λ t. t.item ≡ spelled n)
local_reads n gap rest is = made _ _ _ rest (λ t. (s : Span) × (t ≡ at_place (script.local (local_text n) gap) s)) _ (λ t p. rw p.1 (name_back n is)) (one_token _ _ rest (λ s. refl))

text_is : (x : Name) (bytes : List ℕ) → (let t : Name = Text bytes in x ≡ t) → (b : Bool) (k : ℕ) (rest : List ℕ) → x ≡ cond b (Number k) (Text rest) → (b ≡ false) × (rest ≡ bytes)
text_is x bytes e true k rest f = absurd (let g : Number k ≡ Text bytes = sym f ∙ e in cc)
text_is x bytes e false k rest f = (refl, (let g : Text rest ≡ Text bytes = sym f ∙ e in cc))

-- a quoted name is no number, and gives its text back
quoted_is : (bytes : List ℕ) → (list_all is_digit (quoted_text bytes) ≡ false) × (unquoted (quoted_text bytes) ≡ bytes)
quoted_is bytes = text_is (name_of (quoted_text bytes)) bytes (text_back bytes) (list_all is_digit (quoted_text bytes)) _ (unquoted (quoted_text bytes)) refl

not_off : (b : Bool) → b ≡ false → not b ≡ true
not_off b e = rw e refl

pub named_global : (name gap : List ℕ) (s : Span) → is_named_global (at_place (script.ink kinds.Global (global_text name) gap) s) ≡ true
named_global name gap s = not_off (list_all is_digit (quoted_text name)) (quoted_is name).0

pub global_reads : (name gap : List ℕ) (rest : List Inked) → Reads global (script.ink kinds.Global (global_text name) gap ∷ rest) rest (λ t. t.item ≡ name)
global_reads name gap rest = made _ _ _ rest (λ t. (s : Span) × (t ≡ at_place (script.ink kinds.Global (global_text name) gap) s)) _ (λ t p. rw p.1 (quoted_is name).1) (one_token _ _ rest (named_global name gap))

-- the same with its place
pub global_at : (name gap : List ℕ) (rest : List Inked) (spans : ℕ → Span) → IsRead global (script.ink kinds.Global (global_text name) gap ∷ rest) rest (λ t. (t.item ≡ name) × (t.span ≡ spans 0)) spans
global_at name gap rest spans =
    made_at (λ t. at (global_name t.text) t) (token is_named_global) _ rest (λ t. t ≡ at_place (script.ink kinds.Global (global_text name) gap) (spans 0)) _ spans (λ t e. (ap (λ (t : Lexeme). global_name t.text) e ∙ (quoted_is name).1, ap (λ (t : Lexeme). t.span) e))
    (token_at is_named_global (script.ink kinds.Global (global_text name) gap) rest (named_global name gap) spans)

-- ---- constants

signed_back : (h : ℕ) (top : ℕ) (n : ℕ) → h ≤ 2 ^ 63 → top ≤ 2 ^ 64 → top ≤ h + h → n < top → (let z = cond (nat_lt n h) (pos n) (negsuc (top - (n + 1))) in literal (signed_decimal z) ≡ values.Number z)
signed_back h top n small wide half lt = go (nat_lt n h) refl
  where
    below : nat_lt n h ≡ true → n < h
    below e = grind arith

    above : nat_lt n h ≡ false → h ≤ n
    above e = grind arith

    fits : (k : ℕ) → k < 2 ^ 127 → nat_lt k (2 ^ 127) ≡ true
    fits k lt = grind arith

    go : (b : Bool) → nat_lt n h ≡ b → literal (signed_decimal (cond b (pos n) (negsuc (top - (n + 1))))) ≡ values.Number (cond b (pos n) (negsuc (top - (n + 1))))
    go true e = literal_back (pos n) (let l = below e in rw (fits n (omega arith)) refl) (number_of_back n (let l = below e in omega arith))
    go false e = literal_back (negsuc (top - (n + 1))) (let l = above e in rw (fits (top - (n + 1)) (omega arith)) refl) (negative_back (top - (n + 1)) (let l = above e in omega arith))

number_item : (w : Width) (n : ℕ) → n < 2 ^ bits w → literal (signed_decimal (signed w n)) ≡ values.Number (signed w n)
number_item I1 n lt = signed_back 1 2 n (omega arith) (omega arith) (omega arith) lt
number_item I8 n lt = signed_back (2 ^ 7) (2 ^ 8) n (omega arith) (omega arith) (omega arith) lt
number_item I16 n lt = signed_back (2 ^ 15) (2 ^ 16) n (omega arith) (omega arith) (omega arith) lt
number_item I32 n lt = signed_back (2 ^ 31) (2 ^ 32) n (omega arith) (omega arith) (omega arith) lt
number_item I64 n lt = signed_back (2 ^ 63) (2 ^ 64) n (omega arith) (omega arith) (omega arith) lt

number_reads : (text gap : List ℕ) (rest : List Inked) (item : RawValue) → literal text ≡ item → Reads cvalue (script.ink kinds.Number text gap ∷ rest) rest (λ v. v.item ≡ item)
unfolding cvalue
number_reads text gap rest item e =
    left _ _ _ rest _ (record { begins = λ spans. refl })
    (made _ _ _ rest (λ t. (s : Span) × (t ≡ at_place (script.ink kinds.Number text gap) s)) _ (λ t p. rw p.1 e) (one_token _ _ rest (λ s. refl)))

bool_reads : (b : Bool) (gap : List ℕ) (rest : List Inked) → Reads cvalue (script.word (cond b (codes "true") (codes "false")) gap ∷ rest) rest (λ v. v.item ≡ values.Bool b)
unfolding cvalue
bool_reads true gap rest =
    right _ _ _ rest _ (record { begins = λ spans. refl })
    (left _ _ _ rest _ (record { begins = λ spans. refl })
    (made _ _ _ rest (λ t. (s : Span) × (t ≡ at_place (script.word (codes "true") gap) s)) _ (λ t p. refl) (one_token _ _ rest (λ s. refl))))
bool_reads false gap rest =
    right _ _ _ rest _ (record { begins = λ spans. refl })
    (right _ _ _ rest _ (record { begins = λ spans. refl })
    (made _ _ _ rest (λ t. (s : Span) × (t ≡ at_place (script.word (codes "false") gap) s)) _ (λ t p. refl) (one_token _ _ rest (λ s. refl))))

pub constant_reads : (w : Width) (n : ℕ) (gap : List ℕ) (rest : List Inked) → n < 2 ^ bits w → Reads cvalue (script.ink (script.constant_kind w) (constant_text w n) gap ∷ rest) rest (λ v. v.item ≡ literal_of w n)
constant_reads I1 n gap rest lt = bool_reads (n == 1) gap rest
constant_reads I8 n gap rest lt = number_reads _ gap rest _ (number_item I8 n lt)
constant_reads I16 n gap rest lt = number_reads _ gap rest _ (number_item I16 n lt)
constant_reads I32 n gap rest lt = number_reads _ gap rest _ (number_item I32 n lt)
constant_reads I64 n gap rest lt = number_reads _ gap rest _ (number_item I64 n lt)

bool_begins : (b : Bool) (gap : List ℕ) (rest : List Inked) → Begins cvalue (script.word (cond b (codes "true") (codes "false")) gap ∷ rest) true
unfolding cvalue
bool_begins true gap rest = record { begins = λ spans. refl }
bool_begins false gap rest = record { begins = λ spans. refl }

number_begins : (text gap : List ℕ) (rest : List Inked) → Begins cvalue (script.ink kinds.Number text gap ∷ rest) true
unfolding cvalue
number_begins text gap rest = record { begins = λ spans. refl }

constant_begins : (w : Width) (n : ℕ) (gap : List ℕ) (rest : List Inked) → Begins cvalue (script.ink (script.constant_kind w) (constant_text w n) gap ∷ rest) true
constant_begins I1 n gap rest = bool_begins (n == 1) gap rest
constant_begins I8 n gap rest = number_begins _ gap rest
constant_begins I16 n gap rest = number_begins _ gap rest
constant_begins I32 n gap rest = number_begins _ gap rest
constant_begins I64 n gap rest = number_begins _ gap rest

pub start_reads : (w : Width) (n : ℕ) (gap : List ℕ) (rest : List Inked) → n < 2 ^ bits w → Reads gvalue (script.ink (script.constant_kind w) (constant_text w n) gap ∷ rest) rest (λ v. v.item ≡ literal_of w n)
unfolding gvalue
start_reads w n gap rest lt = left _ _ _ rest _ (constant_begins w n gap rest) (constant_reads w n gap rest lt)

-- ---- values

found_value : (o : Option Name) → IsPutName o → values.Local (local_name (option_map_or local_text o [])) ≡ option_map_or (λ n. values.Local (spelled n)) o values.Zero
found_value o put = let P : Option Name → Type 0 = λ o. values.Local (local_name (option_map_or local_text o [])) ≡ option_map_or (λ n. values.Local (spelled n)) o values.Zero in subst P (sym put.1) (ap values.Local (name_back put.0 put.2))

named_reads : (text gap : List ℕ) (rest : List Inked) (item : RawValue) → values.Local (local_name text) ≡ item → Reads value (script.local text gap ∷ rest) rest (λ v. v.item ≡ item)
unfolding value
named_reads text gap rest item e =
    left _ _ _ rest _ (record { begins = λ spans. refl })
    (made _ _ _ rest (λ t. (s : Span) × (t ≡ at_place (script.local text gap) s)) _ (λ t p. rw p.1 e) (one_token _ _ rest (λ s. refl)))

-- what begins a constant begins no local
constant_value : (w : Width) (n : ℕ) (gap : List ℕ) (rest : List Inked) → Begins (gives (λ t. at (values.Local (local_name t.text)) t) (a kinds.Local)) (script.ink (script.constant_kind w) (constant_text w n) gap ∷ rest) false
constant_value I1 n gap rest = record { begins = λ spans. refl }
constant_value I8 n gap rest = record { begins = λ spans. refl }
constant_value I16 n gap rest = record { begins = λ spans. refl }
constant_value I32 n gap rest = record { begins = λ spans. refl }
constant_value I64 n gap rest = record { begins = λ spans. refl }

pub value_reads : (f : Function) (b : Block) (w : Width) (o : Operand) (gap : List ℕ) (rest : List Inked) → IsPutValue f b w o → Reads value (script.value_ink f b w o gap ∷ rest) rest (λ v. v.item ≡ value_tree f b w o)
unfolding value
value_reads f b w (Const n) gap rest put = right _ _ _ rest _ (constant_value w n gap rest) (start_reads w n gap rest put)
value_reads f b w (Param p) gap rest put = named_reads _ gap rest _ (found_value (operand_name f b (Param p)) put)
value_reads f b w (Reg r) gap rest put = named_reads _ gap rest _ (found_value (operand_name f b (Reg r)) put)

-- ---- addresses and labels

pub variable_reads : (m : Program) (f : Function) (v : Variable) (gap : List ℕ) (rest : List Inked) → IsPutVariable m f v → Reads addr (script.ink (script.variable_kind v) (variable_text m f v) gap ∷ rest) rest (λ t. t.item ≡ address_tree m f v)
unfolding addr
variable_reads m f (variable.Local v) gap rest put =
    let P : Option (Width × Name) → Type 0 = λ o. Reads addr (script.local (option_map_or (λ x. local_text x.1) o []) gap ∷ rest) rest (λ t. t.item ≡ option_map_or (λ x. addresses.Local (spelled x.1)) o (addresses.Local (Number 0))) in
    subst P (sym put.1)
    (left _ _ _ rest _ (record { begins = λ spans. refl })
    (made _ _ _ rest (λ n. n.item ≡ spelled put.0.1) _ (λ n p. ap addresses.Local p) (local_reads put.0.1 gap rest put.2)))
variable_reads m f (variable.Global g) gap rest put =
    let P : Option Global → Type 0 = λ o. Reads addr (script.ink kinds.Global (option_map_or (λ x. global_text x.name) o []) gap ∷ rest) rest (λ t. t.item ≡ option_map_or (λ x. addresses.Global x.name) o (addresses.Local (Number 0))) in
    subst P (sym put.1)
    (right _ _ _ rest _ (record { begins = λ spans. refl })
    (made _ _ _ rest (λ n. n.item ≡ put.0.name) _ (λ n p. ap addresses.Global p) (global_reads put.0.name gap rest)))

pub target_reads : (f : Function) (t : ℕ) (gap : List ℕ) (rest : List Inked) → IsPutTarget f t → Reads target (script.target f t gap rest) rest (λ l. l.item ≡ label_tree f t)
unfolding target
target_reads f t gap rest put =
    let P : Option Block → Type 0 = λ o. Reads target (script.word (codes "label") script.space ∷ script.local (option_map_or (λ x. local_text x.name) o []) gap ∷ rest) rest (λ l. l.item ≡ option_map_or (λ x. spelled x.name) o (Number 0)) in
    subst P (sym put.1) (second _ _ _ _ rest _ _ (word_reads (codes "label") script.space _ (λ s. refl)) (local_reads put.0.name gap rest put.2))

-- ---- what is not there

pub no_words : (words : List (List ℕ)) (rest : List Inked) → Begins (one_of words) rest false → Reads (any_of words) rest rest (λ t. Unit {0})
no_words words rest next = made _ _ rest rest _ _ (λ x p. tt) (none_more (one_of words) rest next)

pub no_attach : (rest : List Inked) → Begins attach rest false → Reads attached rest rest (λ t. Unit {0})
unfolding attached
no_attach rest next = made _ _ rest rest _ _ (λ x p. tt) (none_more attach rest next)

pub no_extra : (rest : List Inked) → Begins extra rest false → Reads extras rest rest (λ t. Unit {0})
unfolding extras
no_extra rest next = made _ _ rest rest _ _ (λ x p. tt) (none_more extra rest next)
