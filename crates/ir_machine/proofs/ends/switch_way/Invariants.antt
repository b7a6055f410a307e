use Rattle.std.proofs.Common.{◌≡◌, ◌+◌, drop}
use Rattle.ir_machine.specs.Step.{Globals, switched}
use Rattle.ir_machine.specs.declared.frame.Frame.{Frame}
use Rattle.ir_machine.proofs.ends.switch_way.Given as goal

abbrev pub invariant-loop-i : goal.invariant-loop-i
invariant-loop-i l = (globals : Globals) (frame : Frame) → switched l.value 1 l.other l.cases globals frame ≡ switched l.value (1 + l.i) l.other (drop l.i l.cases) globals frame
