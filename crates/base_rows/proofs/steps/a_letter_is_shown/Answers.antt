use Rattle.std.proofs.Common.{sym, subst}
use Rattle.ir_machine.specs.Code.{CanStart}
use Rattle.base_rows.proofs.Small.{small_starts}
use Rattle.base_rows.proofs.steps.a_letter_is_shown.Goals as goal

pub start-requires : goal.start-requires
start-requires g c = subst (λ m. CanStart m 2) (sym c.in_ok-program.ensures) small_starts
