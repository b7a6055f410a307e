use Rattle.std.proofs.Common.{◌≡◌, false, ap, ◌∙◌}
use Rattle.ir_machine.proofs.Closing.{goes_on, as_before, waits_on}
use Rattle.ir_machine.proofs.machine.Machine.step.Goals as goal

pub invariant_of-self-in-Wants : goal.invariant_of-self-in-Wants
invariant_of-self-in-Wants c =
    let old = c.self.inside in
    let new = c.run_step.new in
    let waits : old.waits ≡ false = ap (λ s. s.waits) c.self.view_is ∙ c.requires.ready in
    waits_on old.program.now old.waits old.top new.top old.below.items new.below.items old.globals new.globals c.in_ok-event.event c.push.new.self waits c.in-Wants.is c.in_ok-push-in-Wants.ensures.ok c.self.invariant c.in_ok-event.ensures.ok

pub invariant_of-self-in-Returned : goal.invariant_of-self-in-Returned
invariant_of-self-in-Returned c =
    let old = c.self.inside in
    let new = c.run_step.new in
    let waits : old.waits ≡ false = ap (λ s. s.waits) c.self.view_is ∙ c.requires.ready in
    as_before _ _ _ _ _ waits (goes_on old.program.now old.waits old.top new.top old.below.items new.below.items old.globals new.globals c.in_ok-event.event waits c.self.invariant c.in_ok-event.ensures.ok)

pub invariant_of-self-in_default : goal.invariant_of-self-in_default
invariant_of-self-in_default c =
    let old = c.self.inside in
    let new = c.run_step.new in
    let waits : old.waits ≡ false = ap (λ s. s.waits) c.self.view_is ∙ c.requires.ready in
    as_before _ _ _ _ _ waits (goes_on old.program.now old.waits old.top new.top old.below.items new.below.items old.globals new.globals c.in_ok-event.event waits c.self.invariant c.in_ok-event.ensures.ok)
