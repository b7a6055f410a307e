use Rattle.interp.proofs.Adding.{nothing_added, is_neither}
use Rattle.interp.proofs.tally.Tally.add.Goals as goal

pub returns-in-Went : goal.returns-in-Went
returns-in-Went c = λ m main events is known few.
    let neither = is_neither c.args.event c.in-Went.is in
    nothing_added m main events c.args.self.now c.args.event neither.0 neither.1 is
