use Rattle.workload.proofs.Rules.{keeps_rules, keeps_limits}
use Rattle.workload.proofs.Kept.{accepted}
use Rattle.workload.proofs.laws.workloads_are_sound.Goals as goal

pub returns : goal.returns
returns c = λ n le. record { rules = keeps_rules n le; limits = keeps_limits n le; accepted = accepted n le }
