use Rattle.profile.proofs.Runs.{none_run}
use Rattle.profile.proofs.lines.read_block.Goals as goal

pub returns-in_default-after : goal.returns-in_default-after
returns-in_default-after c =
    none_run c.args.bytes.now c.in-Some.number c.in_ok-rest.ensures.0 c.in-Some.rest.now c.in_ok-rest.rest.now c.in-Some.ensures c.in_ok-rest.ensures.2 c.in_ok-rest.ensures.3 c.in_default-after.ensures
