use Rattle.motion_events.proofs.Events.{occurs_agree, kills_agree}
use Rattle.motion_events.proofs.instructions_agree.Goals as goal

pub returns-clause-occurs : goal.returns-clause-occurs
returns-clause-occurs c = occurs_agree

pub returns-clause-kills : goal.returns-clause-kills
returns-clause-kills c = kills_agree
