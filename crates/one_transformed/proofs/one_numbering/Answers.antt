use Rattle.one_transformed.proofs.Numbering.{are_same}
use Rattle.one_transformed.proofs.one_numbering.Goals as goal

pub returns : goal.returns
returns c = are_same c.points_are_told.ensures
