use Rattle.std.proofs.Common.{◌≡◌, length, drop, map}
use Rattle.ir_lexer.specs.Lexeme.{lexeme}
use Rattle.grammar.specs.Grammar.{repeated}
use Rattle.grammar.specs.Reading.{read}
use Rattle.ir_parser.specs.Tokens.{dropped}
use Rattle.ir_parser.specs.Values.{extra}
use Rattle.ir_parser.proofs.values.extras.Given as goal

abbrev pub invariant-loop-next : goal.invariant-loop-next
invariant-loop-next l = read (dropped (repeated extra)) (map lexeme (drop l.next l.tokens)) ≡ read (dropped (repeated extra)) (map lexeme (drop l.at l.tokens))

abbrev pub decreases-loop-next : goal.decreases-loop-next
decreases-loop-next l = length (map lexeme (drop l.next l.tokens))
