use Rattle.ir_lexer.proofs.Sized.{piece_sized}
use Rattle.ir_lexer.proofs.pieces.front_piece.Goals as goal

pub returns-clause-sized : goal.returns-clause-sized
returns-clause-sized c = rw c.front.ensures (piece_sized c.args.fresh c.args.bytes.now)
