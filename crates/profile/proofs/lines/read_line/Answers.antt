use Rattle.profile.proofs.Runs.{from_function, from_block}
use Rattle.profile.proofs.lines.read_line.Goals as goal

pub returns-in-Some : goal.returns-in-Some
returns-in-Some c = from_function c.args.bytes.now c.in-Some.rest.now c.args.lines.now _ c.in-Some.ensures c.read_function.result c.read_function.ensures

pub returns-in-Some-after : goal.returns-in-Some-after
returns-in-Some-after c = from_block c.args.bytes.now c.in-Some-after.rest.now c.args.lines.now _ c.in-Some-after.ensures c.read_block.result c.read_block.ensures
