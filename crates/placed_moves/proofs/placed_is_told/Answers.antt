use Rattle.placed_moves.proofs.Told.{placed_told, occurs_told}
use Rattle.placed_moves.proofs.placed_is_told.Goals as goal

pub returns-clause-told : goal.returns-clause-told
returns-clause-told c = placed_told

pub returns-clause-occurs : goal.returns-clause-occurs
returns-clause-occurs c = occurs_told
