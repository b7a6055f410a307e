use Rattle.std.proofs.Common.{◌≡◌, ◌&&◌, length, drop, map}
use Rattle.std.specs.List.{list_any}
use Rattle.std.specs.Str.{bytes_eq}
use Rattle.ir_lexer.specs.Lexeme.{lexeme}
use Rattle.ir_lexer.specs.declared.token.TokenKind.TheVariants.{Word}
use Rattle.grammar.specs.Grammar.{token, repeated}
use Rattle.grammar.specs.Reading.{read}
use Rattle.ir_parser.specs.Tokens.{is_kind, dropped}
use Rattle.ir_parser.proofs.tokens.skip_words.Given as goal

abbrev pub invariant-loop-after : goal.invariant-loop-after
invariant-loop-after l =
    read (dropped (repeated (token (λ t. is_kind Word t && list_any (λ w. bytes_eq t.text w.now) l.words)))) (map lexeme (drop l.next l.tokens))
    ≡ read (dropped (repeated (token (λ t. is_kind Word t && list_any (λ w. bytes_eq t.text w.now) l.words)))) (map lexeme (drop l.at l.tokens))

abbrev pub decreases-loop-after : goal.decreases-loop-after
decreases-loop-after l = length (map lexeme (drop l.next l.tokens))
