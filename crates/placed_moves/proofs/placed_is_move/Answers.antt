use Rattle.placed_moves.proofs.Told.{placed_move}
use Rattle.placed_moves.proofs.placed_is_move.Goals as goal

pub returns : goal.returns
returns c = placed_move
