use Rattle.std.proofs.Common.{◌≡◌, map, take}
use Rattle.ir_machine.proofs.machine.written.Given as goal

abbrev pub invariant-loop-global : goal.invariant-loop-global
invariant-loop-global l = l.values ≡ map (λ g. g.value) (take l.global-index l.globals)
