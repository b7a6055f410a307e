-- Terminators and blocks:
--   term = ( "ret" "void" | "ret" type value | "br" "label" LOCAL
--          | "br" "i1" value "," "label" LOCAL "," "label" LOCAL
--          | "switch" type value "," "label" LOCAL "[" { type cvalue "," "label" LOCAL } "]"
--          | "unreachable" ) { attach }
--   block = [ LABEL ] { instr } term
use Rattle.std.specs.Prelude.{List, Option, Some, None, codes}
use Rattle.ir_types.specs.declared.span.At.{At}
use Rattle.ir_types.specs.declared.span.Span.{Span}
use Rattle.ir_types.specs.declared.name.Name.{Name}
use Rattle.ir_types.specs.declared.tree.RawCase.{RawCase}
use Rattle.ir_types.specs.declared.tree.RawTerm.{RawTerm}
use Rattle.ir_types.specs.declared.tree.RawTerm.TheVariants as terms
use Rattle.ir_types.specs.declared.tree.RawBlock.{RawBlock}
use Rattle.ir_lexer.specs.declared.token.TokenKind.TheVariants as kinds
use Rattle.grammar.specs.Grammar.{repeated, optional, gives}
use Rattle.ir_parser.specs.Words.{label_name}
use Rattle.ir_parser.specs.Tokens.{G, ◌~◌, ◌▸◌, ◌◂◌, ◌∣◌, led, a, word, mark, comma, at}
use Rattle.ir_parser.specs.Values.{int_type, cvalue, value, target, attached}
use Rattle.ir_parser.specs.Instrs.{instrs}

-- what a `ret` returns
unfoldable pub returned : G RawTerm
returned =
    gives (λ t. terms.Return None) (word (codes "void"))
    ∣ gives (λ x. terms.Return (Some (x.0.item, x.1))) (int_type ~ value)

-- where a `br` goes
unfoldable pub branched : G RawTerm
branched =
    gives terms.Jump target
    ∣ gives (λ x. terms.Branch x.0 x.1.0 x.1.1) (word (codes "i1") ▸ value ~ comma ▸ target ~ comma ▸ target)

unfoldable pub switch_case : G RawCase
switch_case = gives (λ x. record { width = x.0; value = x.1.0; label = x.1.1 }) (int_type ~ cvalue ~ comma ▸ target)

unfoldable pub cases : G (List RawCase)
cases = repeated switch_case

-- what a `switch` has behind its word
unfoldable pub switched : G RawTerm
switched = gives (λ x. terms.Switch x.0.item x.1.0 x.1.1.0 x.1.1.1)
    (int_type ~ value ~ comma ▸ target ~ mark (codes "[") ▸ cases ◂ mark (codes "]"))

-- a terminator with the place of its word
unfoldable pub bare_term : G (Span × RawTerm)
bare_term =
    gives (λ x. (x.0.span, x.1)) (word (codes "ret") ~ returned)
    ∣ gives (λ x. (x.0.span, x.1)) (word (codes "br") ~ branched)
    ∣ gives (λ x. (x.0.span, x.1)) (word (codes "switch") ~ switched)
    ∣ gives (λ t. (t.span, terms.Unreachable)) (word (codes "unreachable"))

unfoldable pub term : G (Span × RawTerm)
term = bare_term ◂ attached

unfoldable pub label : G (Option (At Name))
label = optional (gives (λ t. at (label_name t.text) t) (a kinds.Label))

unfoldable pub block : G RawBlock
block = gives (λ x. record { label = x.0; instrs = x.1.0; term = x.1.1.1; term_word = x.1.1.0 }) (label ~ instrs ~ term)

unfoldable pub blocks : G (List RawBlock)
blocks = led block block
