use Rattle.std.proofs.Common.{◌≡◌}
use Rattle.flow_paths.specs.declared.marks.Mark.TheVariants.{Write, Kill}
use Rattle.flow_paths.proofs.Wordings.{IsValid-WritesLast, kill_or_not, write_no_kill}
use Rattle.flow_paths.proofs.wording.after_last_kill.Goals as goal

pub returns : goal.returns
returns c mark places = IsValid-WritesLast (λ m. mark m ≡ Write) (λ m. mark m ≡ Kill) (λ m. kill_or_not (mark m)) (λ m. write_no_kill (mark m)) places
