use Rattle.places_check.proofs.Passing.{unset_passed}
use Rattle.places_check.proofs.cursor.Cursor.skip.Goals as goal

pub returns : goal.returns
returns c edge point = unset_passed c.args.self.now edge point c.args.bits
