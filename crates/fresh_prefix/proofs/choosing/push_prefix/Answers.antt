use Rattle.fresh_prefix.proofs.Extending.{ext_some}
use Rattle.fresh_prefix.proofs.choosing.push_prefix.Goals as goal

pub returns-in_ok-push : goal.returns-in_ok-push
returns-in_ok-push c = ext_some c.args.name.now c.prefix_of.result c.prefix_of.ensures c.args.numbers.now.items c.push.new.self.items c.in-Some.number c.in-Some.is c.in_ok-push.ensures.items
