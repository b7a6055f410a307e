use Rattle.profile.proofs.Fronts.{front_behind, front_none}
use Rattle.profile.proofs.numbers.front_number.Goals as goal

pub returns-in-Some : goal.returns-in-Some
returns-in-Some c = rw (front_behind c.args.bytes.now c.in-Some.rest.now c.in-Some.ensures) c.front_digits.ensures

pub returns-in-None : goal.returns-in-None
returns-in-None c = front_none c.args.bytes.now c.in-None.ensures
