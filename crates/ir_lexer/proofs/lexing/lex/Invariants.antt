use Rattle.std.proofs.Common.{◌-◌, length, map}
use Rattle.ir_lexer.specs.Lexeme.{lexeme}
use Rattle.ir_lexer.specs.Tokens.{tokens_of}
use Rattle.ir_lexer.proofs.Tokens.{Kept}
use Rattle.ir_lexer.proofs.lexing.lex.Given as goal

abbrev pub invariant-loop-here : goal.invariant-loop-here
invariant-loop-here l = Kept l.source l.here (map lexeme l.tokens.items) (tokens_of l.source)

abbrev pub decreases-loop-here : goal.decreases-loop-here
decreases-loop-here l = length l.source - l.here.offset
