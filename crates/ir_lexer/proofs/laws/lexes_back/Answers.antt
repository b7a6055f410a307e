use Rattle.ir_lexer.proofs.Scripts.{lexes_back}
use Rattle.ir_lexer.proofs.laws.lexes_back.Goals as goal

pub returns : goal.returns
returns c = lexes_back
