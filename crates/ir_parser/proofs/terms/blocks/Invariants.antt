use Rattle.std.proofs.Common.{◌≡◌, length, drop, map}
use Rattle.ir_lexer.specs.Lexeme.{lexeme}
use Rattle.grammar.specs.Grammar.{repeated}
use Rattle.grammar.specs.Reading.{read}
use Rattle.grammar.proofs.Rows.{with_front}
use Rattle.ir_parser.specs.Tokens.{led}
use Rattle.ir_parser.specs.Terms.{block}
use Rattle.ir_parser.proofs.terms.blocks.Given as goal

abbrev pub invariant-loop-alloc : goal.invariant-loop-alloc
invariant-loop-alloc l = with_front l.blocks (read (repeated block) (map lexeme (drop l.next l.tokens))) ≡ read (led block block) (map lexeme (drop l.at l.tokens))

abbrev pub decreases-loop-alloc : goal.decreases-loop-alloc
decreases-loop-alloc l = length (map lexeme (drop l.next l.tokens))
