use Rattle.std.proofs.Common.{arith}
use Rattle.flow_net.specs.Network.{loads}
use Rattle.flow_net.proofs.Loads.{loads_len}
use Rattle.max_flow.proofs.Phases.{levels_more, dead_more}
use Rattle.max_flow.proofs.Passed.{passed_more}
use Rattle.max_flow.proofs.blocking.advance.Goals as goal

pub returns-clause-levels : goal.returns-clause-levels
returns-clause-levels c =
    levels_more c.args.net.now.nodes (loads c.args.net.now c.args.flow.now) (loads c.args.net.now c.augment.new.flow) c.args.found.now c.augment.ensures.farther c.requires.levels

pub returns-clause-dead : goal.returns-clause-dead
returns-clause-dead c =
    dead_more c.args.net.now.nodes (loads c.args.net.now c.args.flow.now) (loads c.args.net.now c.augment.new.flow) c.args.found.now c.live_path.new.marks.dead.items c.augment.ensures.farther c.live_path.ensures.dead

pub returns-clause-passed : goal.returns-clause-passed
returns-clause-passed c =
    passed_more c.args.net.now.nodes (loads c.args.net.now c.args.flow.now) (loads c.args.net.now c.augment.new.flow) c.args.found.now c.args.incidence.now c.live_path.new.marks
    (λ v k long. omega (arith, c.requires.incidence.inside v k 0 long, loads_len c.args.net.now c.augment.new.flow c.augment.ensures.within))
    c.augment.ensures.farther c.live_path.ensures.passed
