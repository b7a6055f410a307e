use Rattle.ir_check.proofs.Seen.{noted}
use Rattle.ir_check.proofs.terms.note.Goals as goal

pub returns-in_ok-insert : goal.returns-in_ok-insert
returns-in_ok-insert c = noted c.args.seen.now.keys c.args.value c.in-Some.value c.insert.new.self.keys c.in-Some.is c.requires.new c.in_ok-insert.ensures.keys
