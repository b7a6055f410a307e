use Rattle.std.proofs.Common.{◌≡◌, length, drop, map}
use Rattle.ir_lexer.specs.Lexeme.{lexeme}
use Rattle.grammar.specs.Grammar.{repeated}
use Rattle.grammar.specs.Reading.{read}
use Rattle.grammar.proofs.Rows.{with_front}
use Rattle.ir_parser.specs.Tokens.{led}
use Rattle.ir_parser.specs.Calls.{next_arg, arg}
use Rattle.ir_parser.proofs.calls.some_args.Given as goal

abbrev pub invariant-loop-args : goal.invariant-loop-args
invariant-loop-args l = with_front l.args (read (repeated next_arg) (map lexeme (drop l.next l.tokens))) ≡ read (led arg next_arg) (map lexeme (drop l.at l.tokens))

abbrev pub decreases-loop-args : goal.decreases-loop-args
decreases-loop-args l = length (map lexeme (drop l.next l.tokens))
