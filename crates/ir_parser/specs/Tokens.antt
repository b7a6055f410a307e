-- Tests of tokens, and how the phrases of the grammar are put together.
use Rattle.std.specs.Prelude.{ℕ, Bool, ◌&&◌, ◌==◌, not, List, [], ◌∷◌, Option, Some, None, drop, map, if◌then◌else◌, codes}
use Rattle.std.specs.Str.{bytes_eq}
use Rattle.std.specs.List.{list_all, list_any}
use Rattle.ir_types.specs.Bytes.{is_digit}
use Rattle.ir_types.specs.declared.span.At.{At}
use Rattle.ir_types.specs.declared.name.Name.{Name}
use Rattle.ir_lexer.specs.Lexeme.{Lexeme}
use Rattle.ir_lexer.specs.declared.token.TokenKind.{TokenKind}
use Rattle.ir_lexer.specs.declared.token.TokenKind.TheVariants as kinds
use Rattle.grammar.specs.Grammar.{Grammar, token, pair, choice, repeated, gives}
use Rattle.ir_parser.specs.Words.{local_name, global_name}

-- ---- tests

abbrev pub place_of : TokenKind → ℕ
place_of kinds.Local = 0
place_of kinds.Global = 1
place_of kinds.Label = 2
place_of kinds.Number = 3
place_of kinds.Word = 4
place_of kinds.Hash = 5
place_of kinds.Bang = 6
place_of kinds.Punct = 7

abbrev pub is_kind : TokenKind → Lexeme → Bool
is_kind k t = place_of t.kind == place_of k

abbrev pub is_spelled : TokenKind → List ℕ → Lexeme → Bool
is_spelled k text t = is_kind k t && bytes_eq t.text text

-- a word that is one of these
abbrev pub is_one_of : List (List ℕ) → Lexeme → Bool
is_one_of words t = is_kind kinds.Word t && list_any (λ word. bytes_eq t.text word) words

-- only digits behind the sign
abbrev pub is_numbered : Lexeme → Bool
is_numbered t = list_all is_digit (drop 1 t.text)

-- a global with a name: no text of the language has one with a number
abbrev pub is_named_global : Lexeme → Bool
is_named_global t = is_kind kinds.Global t && not (is_numbered t)

-- a number of a group of attributes
abbrev pub is_group : Lexeme → Bool
is_group t = is_kind kinds.Hash t && is_numbered t

-- ---- how phrases are put together

abbrev pub G : Type 0 → Type 1
G A = Grammar Lexeme A

infixr 30 ◌~◌
infixr 30 ◌▸◌
infixr 30 ◌◂◌
infixr 20 ◌∣◌
-- Both, of which the tree is a pair, or only one tree. Of a choice, the first that the next token begins.
abbrev pub ◌~◌ : {A B : Type 0} → G A → G B → G (A × B)
g ~ h = pair g h

abbrev pub ◌▸◌ : {A B : Type 0} → G A → G B → G B
g ▸ h = gives (λ x. x.1) (pair g h)

abbrev pub ◌◂◌ : {A B : Type 0} → G A → G B → G A
g ◂ h = gives (λ x. x.0) (pair g h)

abbrev pub ◌∣◌ : {A : Type 0} → G A → G A → G A
g ∣ h = choice g h

-- what is read and leaves nothing in the tree
abbrev pub dropped : {A : Type 0} → G A → G (Unit {0})
dropped g = gives (λ x. tt) g

-- a first, and any number of further ones
abbrev pub led : {A : Type 0} → G A → G A → G (List A)
led first further = gives (λ x. x.0 ∷ x.1) (first ~ repeated further)

-- ---- single tokens

abbrev pub a : TokenKind → G Lexeme
a k = token (is_kind k)

abbrev pub word : List ℕ → G Lexeme
word text = token (is_spelled kinds.Word text)

abbrev pub one_of : List (List ℕ) → G Lexeme
one_of words = token (is_one_of words)

abbrev pub mark : List ℕ → G Lexeme
mark text = token (is_spelled kinds.Punct text)

abbrev pub comma : G Lexeme
comma = mark (codes ",")

-- a part of a tree, at the place of a token
abbrev pub at : {T : Type 0} → T → Lexeme → At T
at item t = record { item = item; span = t.span }

-- the name of a local, as it is defined or as it is used
abbrev pub local : G (At Name)
local = gives (λ t. at (local_name t.text) t) (a kinds.Local)

abbrev pub global : G (At (List ℕ))
global = gives (λ t. at (global_name t.text) t) (token is_named_global)

-- ---- tables of words, each with what it stands for

abbrev pub Table : Type 0 → Type 0
Table A = List (List ℕ × A)

-- what the word stands for, and `other` where the table doesn't have it
abbrev pub meaning : {A : Type 0} → Table A → A → List ℕ → A
meaning [] other text = other
meaning (x ∷ xs) other text = if bytes_eq text x.0 then x.1 else meaning xs other text

-- One of the words of a table. `other` stands for none of them.
abbrev pub one_from : {A : Type 0} → Table A → A → G (At A)
one_from table other = gives (λ t. at (meaning table other t.text) t) (one_of (map (λ x. x.0) table))

-- the items, or none
abbrev pub or_none : {A : Type 0} → Option (List A) → List A
or_none None = []
or_none (Some xs) = xs
