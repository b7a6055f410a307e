use Rattle.std.proofs.Common.{◌≡◌, length, drop, map}
use Rattle.ir_lexer.specs.Lexeme.{lexeme}
use Rattle.grammar.specs.Grammar.{repeated}
use Rattle.grammar.specs.Reading.{read}
use Rattle.grammar.proofs.Rows.{with_front}
use Rattle.ir_parser.specs.Tokens.{led}
use Rattle.ir_parser.specs.Calls.{next_incoming, incoming}
use Rattle.ir_parser.proofs.calls.incomings.Given as goal

abbrev pub invariant-loop-pairs : goal.invariant-loop-pairs
invariant-loop-pairs l = with_front l.pairs (read (repeated next_incoming) (map lexeme (drop l.next l.tokens))) ≡ read (led incoming next_incoming) (map lexeme (drop l.at l.tokens))

abbrev pub decreases-loop-pairs : goal.decreases-loop-pairs
decreases-loop-pairs l = length (map lexeme (drop l.next l.tokens))
