use Rattle.std.proofs.Common.{◌≡◌, length, drop, map}
use Rattle.ir_lexer.specs.Lexeme.{lexeme}
use Rattle.grammar.specs.Grammar.{repeated}
use Rattle.grammar.specs.Reading.{read}
use Rattle.grammar.proofs.Rows.{with_front}
use Rattle.ir_parser.specs.Tokens.{led}
use Rattle.ir_parser.specs.Module.{next_par, par}
use Rattle.ir_parser.proofs.modules.some_pars.Given as goal

abbrev pub invariant-loop-pars : goal.invariant-loop-pars
invariant-loop-pars l = with_front l.pars (read (repeated next_par) (map lexeme (drop l.next l.tokens))) ≡ read (led par next_par) (map lexeme (drop l.at l.tokens))

abbrev pub decreases-loop-pars : goal.decreases-loop-pars
decreases-loop-pars l = length (map lexeme (drop l.next l.tokens))
