use Rattle.std.proofs.Common.{◌≡◌, length, drop, map}
use Rattle.ir_lexer.specs.Lexeme.{lexeme}
use Rattle.grammar.specs.Grammar.{repeated}
use Rattle.grammar.specs.Reading.{read}
use Rattle.grammar.proofs.Rows.{with_front}
use Rattle.ir_parser.specs.Terms.{switch_case}
use Rattle.ir_parser.proofs.terms.cases.Given as goal

abbrev pub invariant-loop-cases : goal.invariant-loop-cases
invariant-loop-cases l = with_front l.cases (read (repeated switch_case) (map lexeme (drop l.next l.tokens))) ≡ read (repeated switch_case) (map lexeme (drop l.at l.tokens))

abbrev pub decreases-loop-cases : goal.decreases-loop-cases
decreases-loop-cases l = length (map lexeme (drop l.next l.tokens))
