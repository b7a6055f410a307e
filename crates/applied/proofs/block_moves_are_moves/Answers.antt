use Rattle.applied.proofs.WithinBlocks.{block_move}
use Rattle.applied.proofs.block_moves_are_moves.Goals as goal

pub returns : goal.returns
returns c = block_move
