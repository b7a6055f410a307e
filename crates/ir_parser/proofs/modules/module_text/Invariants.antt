use Rattle.std.proofs.Common.{length, drop, map}
use Rattle.ir_lexer.specs.Lexeme.{lexeme}
use Rattle.ir_parser.proofs.Members.{IsSoFar}
use Rattle.ir_parser.proofs.modules.module_text.Given as goal

abbrev pub invariant-loop-alloc : goal.invariant-loop-alloc
invariant-loop-alloc l = IsSoFar l.functions l.globals (map lexeme (drop l.next l.tokens)) (map lexeme (drop l.at l.tokens))

abbrev pub decreases-loop-alloc : goal.decreases-loop-alloc
decreases-loop-alloc l = length (map lexeme (drop l.next l.tokens))
