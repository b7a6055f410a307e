use Rattle.std.proofs.Common.{◌≡◌, ◌<◌, ◌^◌, Some, Ok, refl, sym, ap, ◌∙◌, subst, arith, length}
use Rattle.std.proofs.lemmas.Result.{err_from_is_err_and}
use Rattle.ir_machine.specs.Code.{started, event_of}
use Rattle.interp.specs.Follows.{Follows}
use Rattle.interp.specs.Run.{Ran}
use Rattle.interp.proofs.Mains.{main_there, main_defined, main_starts}
use Rattle.interp.proofs.Going.{Stepped, going_starts, goes_on, event_known}
use Rattle.interp.proofs.Stopping.{ran_short, ran_on, stops, for_any_err}
use Rattle.interp.proofs.running.run_main.Goals as goal

pub start-requires : goal.start-requires
start-requires g c = main_starts c.args.program.now c.args.main c.requires.main.0 c.requires.main.1

pub loop-init : goal.loop-init
loop-init g c =
    let m = c.args.program.now in
    let main = c.args.main in
    let f = c.requires.main.0 in
    let of = c.requires.main.1 in
    let there = main_there m main f of in
    let made = c.in_ok-machine.ensures in
    let some : Some made.0 ≡ Some f = sym made.1 ∙ there in
    let same : made.0 ≡ f = cc in
    let is = made.2 ∙ ap (started m main) same in
    (f, c.requires.rules, of, going_starts m c.requires.rules main f c.in_ok-machine.machine c.in_ok-tally.tally _ _ (f, there, main_defined m main f of) is c.in_ok-tally.ensures)

pub step-requires-clause-ready : goal.step-requires-clause-ready
step-requires-clause-ready g c = ap (λ s. s.waits) c.loop.invariant.3.machine_is

pub step-requires-clause-runs : goal.step-requires-clause-runs
step-requires-clause-runs g c = ap (λ s. s.ended) c.loop.invariant.3.machine_is

pub returns-in_err-event : goal.returns-in_err-event
returns-in_err-event g c =
    let i = c.loop.invariant in
    let p = err_from_is_err_and c.from_residual-in_err-event.result c.from_residual-in_err-event.ensures.1 in
    for_any_err c.from_residual-in_err-event.result p.0 p.1
    (ran_short c.args.program.now c.args.main i.0 i.2 i.1 c.args.limit c.loop.counter c.loop.machine c.loop.tally _ _ _ _ i.3 (omega (arith, c.loop-test.true)))

pub add-requires : goal.add-requires
add-requires g c =
    let i = c.loop.invariant in
    let event_is = sym (c.in_ok-event.ensures.event ∙ ap event_of i.3.machine_is) in
    record {
      program = c.args.program.now;
      main = c.args.main;
      events = i.3.events;
      is = i.3.counted;
      known = event_known c.args.program.now i.3.running c.in_ok-event.event event_is;
    }

pub returns-in-Some : goal.returns-in-Some
returns-in-Some g c =
    let i = c.loop.invariant in
    let m = c.args.program.now in
    let main = c.args.main in
    let event = c.in_ok-event.event in
    let event_is = sym (c.in_ok-event.ensures.event ∙ ap event_of i.3.machine_is) in
    let few : length i.3.events < 2 ^ 63 = omega (arith, i.3.few, c.loop-test.true, c.requires.limited) in
    let stepped : Stepped m main i.3.events c.loop.machine c.step.new.self event c.add.new.self = record {
      event_is = c.in_ok-event.ensures.event;
      machine_is = c.in_ok-event.ensures.state;
      counted = c.add.ensures m main i.3.events i.3.counted (event_known m i.3.running event event_is) few;
    } in
    let follows = subst (λ r. Follows event r c.step.new.self c.follow.new.machine (g.I.Source.state c.loop.input) (g.I.Source.state c.follow.new.input) (g.O.Sink.state c.loop.out) (g.O.Sink.state c.follow.new.out)) c.in-Some.is c.follow.ensures in
    subst (λ r. Ran m c.args.limit (g.I.Source.state c.args.input.now) (g.I.Source.state c.follow.new.input) (g.O.Sink.state c.args.out.now) (g.O.Sink.state c.follow.new.out) (Ok r)) (sym c.ended.ensures)
    (stops m main i.0 i.2 (main_there m main i.0 i.2) (main_defined m main i.0 i.2) i.1 c.args.limit c.loop.counter c.loop.machine c.step.new.self c.follow.new.machine c.loop.tally c.add.new.self event _ _ _ _ _ _ i.3 stepped c.loop-test.true c.requires.limited event refl c.in-Some.stop follows)

pub loop-preserved : goal.loop-preserved
loop-preserved g c =
    let i = c.loop.invariant in
    let m = c.args.program.now in
    let main = c.args.main in
    let event = c.in_ok-event.event in
    let event_is = sym (c.in_ok-event.ensures.event ∙ ap event_of i.3.machine_is) in
    let few : length i.3.events < 2 ^ 63 = omega (arith, i.3.few, c.loop-test.true, c.requires.limited) in
    let stepped : Stepped m main i.3.events c.loop.machine c.step.new.self event c.add.new.self = record {
      event_is = c.in_ok-event.ensures.event;
      machine_is = c.in_ok-event.ensures.state;
      counted = c.add.ensures m main i.3.events i.3.counted (event_known m i.3.running event event_is) few;
    } in
    let follows = subst (λ r. Follows event r c.step.new.self c.follow.new.machine (g.I.Source.state c.loop.input) (g.I.Source.state c.follow.new.input) (g.O.Sink.state c.loop.out) (g.O.Sink.state c.follow.new.out)) c.in_default.is c.follow.ensures in
    (i.0, i.1, i.2, goes_on m i.1 main i.0 c.loop.counter c.loop.machine c.step.new.self c.loop.tally c.add.new.self event _ _ _ _ i.3 stepped event refl c.follow.new.machine _ _ follows)

pub returns : goal.returns
returns g c =
    let i = c.loop.invariant in
    ran_on c.args.program.now c.args.main i.0 i.2 i.1 c.args.limit c.loop.counter c.loop.machine c.loop.tally _ _ _ _ i.3 (omega (arith, c.loop-test.false, c.loop.auto.counter-end))
