use Rattle.flow_paths.proofs.Validity.{Sorted-start}
use Rattle.flow_paths.proofs.stretches.begin_invalid.Goals as goal

pub loop-arc-init : goal.loop-arc-init
loop-arc-init c = Sorted-start _ _ _ _ _ c.requires.none_pass
