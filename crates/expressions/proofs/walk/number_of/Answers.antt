use Rattle.std.proofs.Common.{◌≡◌, ap, sym, ◌∙◌, subst, Some}
use Rattle.expressions.specs.Walking.{AddsNumber, IsSoundIfAny}
use Rattle.expressions.proofs.WalkSteps.{adds_some, sound_joined}
use Rattle.expressions.proofs.walk.number_of.Goals as goal

pub returns-in_ok-number-in-Some-clause-adds : goal.returns-in_ok-number-in-Some-clause-adds
returns-in_ok-number-in-Some-clause-adds c =
    let stored = c.in_ok-number-in-Some.ensures.stored in
    subst (λ e. AddsNumber e c.args.exprs.now.keys c.insert_full.new.self.keys (Some c.in_ok-number-in-Some.number)) (sym c.in-Some.is)
    (adds_some c.args.exprs.now.keys c.insert_full.new.self.keys c.in-Some.expr stored.0 c.in_ok-number-in-Some.number c.in_ok-number-in-Some.ensures.keys stored.1 stored.2)

pub returns-in_ok-number-in-Some-clause-sound : goal.returns-in_ok-number-in-Some-clause-sound
returns-in_ok-number-in-Some-clause-sound c =
    let stored = c.in_ok-number-in-Some.ensures.stored in
    let adds = adds_some c.args.exprs.now.keys c.insert_full.new.self.keys c.in-Some.expr stored.0 c.in_ok-number-in-Some.number c.in_ok-number-in-Some.ensures.keys stored.1 stored.2 in
    sound_joined c.args.exprs.now.keys c.insert_full.new.self.keys c.in-Some.expr adds.joined c.requires.all_sound (subst IsSoundIfAny c.in-Some.is c.requires.sound)
