-- Calls and phis:
--   call = [ "tail" | "notail" ] "call" {A | "ccc"} ret GLOBAL "(" [ arg { "," arg } ] ")" {T}
--   arg = type {A} value | "ptr" {A} LOCAL
--   phi = "phi" type "[" value "," LOCAL "]" { "," "[" value "," LOCAL "]" }
use Rattle.std.specs.Prelude.{Bool, List, [], ◌∷◌, drop, codes}
use Rattle.ir_types.specs.declared.span.At.{At}
use Rattle.ir_types.specs.declared.span.Span.{Span}
use Rattle.ir_types.specs.declared.name.Name.{Name}
use Rattle.ir_types.specs.declared.tree.Ty.TheVariants.{Int, Ptr}
use Rattle.ir_types.specs.declared.tree.RawValue.{RawValue}
use Rattle.ir_types.specs.declared.tree.RawValue.TheVariants as values
use Rattle.ir_types.specs.declared.tree.RawArg.{RawArg}
use Rattle.ir_types.specs.declared.tree.RawKind.{RawKind}
use Rattle.ir_types.specs.declared.tree.RawKind.TheVariants as forms
use Rattle.ir_lexer.specs.Lexeme.{Lexeme}
use Rattle.ir_lexer.specs.declared.token.TokenKind.TheVariants as kinds
use Rattle.grammar.specs.Grammar.{heads, optional, gives, provided}
use Rattle.ir_parser.specs.Words.{local_name}
use Rattle.ir_parser.specs.Tokens.{G, is_spelled, ◌~◌, ◌▸◌, ◌◂◌, ◌∣◌, led, or_none, a, word, one_of, mark, comma, at, local, global}
use Rattle.ir_parser.specs.Values.{int_type, ret, value, attribute_words, any_of, extras}

-- what an instruction does, and the place of its own word
abbrev pub Worded : Type 0
Worded = Span × RawKind

-- ---- calls

unfoldable pub arg : G RawArg
arg =
    gives (λ x. record { ty = Int x.0.item; value = x.1 }) (int_type ~ any_of attribute_words ▸ value)
    ∣ gives (λ t. record { ty = Ptr; value = at (values.Local (local_name t.text)) t }) (word (codes "ptr") ▸ any_of attribute_words ▸ a kinds.Local)

-- a further argument
unfoldable pub next_arg : G RawArg
next_arg = comma ▸ arg

unfoldable pub some_args : G (List RawArg)
some_args = led arg next_arg

unfoldable pub args : G (List RawArg)
args = gives or_none (optional some_args)

unfoldable pub call_word : G Lexeme
call_word = optional (one_of (codes "tail" ∷ codes "notail" ∷ [])) ▸ word (codes "call")

unfoldable pub call_words : G (Unit {0})
call_words = any_of (codes "ccc" ∷ attribute_words)

unfoldable pub call : G Worded
call = gives (λ x. (x.0.span, forms.Call x.1.0 x.1.1.0 x.1.1.1))
    (call_word ~ call_words ▸ ret ~ global ~ mark (codes "(") ▸ args ◂ mark (codes ")") ◂ extras)

-- ---- phis

-- a value, and the block that it comes from
abbrev pub Incoming : Type 0
Incoming = At RawValue × At Name

unfoldable pub incoming : G Incoming
incoming = mark (codes "[") ▸ value ~ comma ▸ local ◂ mark (codes "]")

-- a bracket stands behind the next token
abbrev pub brackets_next : List Lexeme → Bool
brackets_next ts = heads (is_spelled kinds.Punct (codes "[")) (drop 1 ts)

-- behind a comma, where a bracket follows it; any other comma begins an attach
unfoldable pub next_incoming : G Incoming
next_incoming = provided brackets_next (comma ▸ incoming)

unfoldable pub incomings : G (List Incoming)
incomings = led incoming next_incoming

unfoldable pub phi : G Worded
phi = gives (λ x. (x.0.span, forms.Phi x.1.0.item x.1.1)) (word (codes "phi") ~ int_type ~ incomings)
