use Rattle.std.proofs.Common.{◌≡◌, ap, sym, ◌∙◌, subst, Some}
use Rattle.std.specs.Prelude.{slice_get}
use Rattle.expressions.specs.Expressions.{Content, content, instr_at, instr_there}
use Rattle.expressions.specs.Events.{changes_some, content_bars, other_event}
use Rattle.expressions.proofs.EventSteps.{content_instr}
use Rattle.expressions.proofs.Sound.{instr_sound}
use Rattle.expressions.proofs.events.other_event.Goals as goal

pub kind_bars-requires : goal.kind_bars-requires
kind_bars-requires c =
    let there : instr_at c.args.function.now c.in-Instr.block c.in-Instr.instr ≡ Some c.in-Some.instr.now = sym c.in-Some.ensures in
    instr_sound c.args.module.now c.args.function.now c.requires c.in-Instr.block c.in-Instr.instr c.in-Some.instr.now there

pub returns-in-Some : goal.returns-in-Some
returns-in-Some c =
    let m = c.args.module.now in
    let f = c.args.function.now in
    let there : instr_at f c.in-Instr.block c.in-Instr.instr ≡ Some c.in-Some.instr.now = sym c.in-Some.ensures in
    let at = content_instr f c.in-Instr.block c.in-Instr.instr c.in-Some.instr.now there in
    let same : content f c.args.point ≡ instr_there at.before c.in-Some.instr.now.kind = ap (content f) c.in-Instr.is ∙ at.is in
    c.event_of.ensures
    ∙ ap (λ b. other_event b c.kind_bars.result) c.changes_some.ensures
    ∙ ap (other_event (changes_some m c.args.args.now (instr_there at.before c.in-Some.instr.now.kind))) c.kind_bars.ensures
    ∙ sym (ap (λ (there : Content). other_event (changes_some m c.args.args.now there) (content_bars there)) same)
