use Rattle.ir_lexer.proofs.Each.{tokens_ordered}
use Rattle.ir_lexer.proofs.laws.tokens_in_order.Goals as goal

pub returns : goal.returns
returns c = tokens_ordered
