use Rattle.point_numbers.proofs.Told.{are_told}
use Rattle.point_numbers.proofs.points_are_told.Goals as goal

pub returns : goal.returns
returns c = are_told
