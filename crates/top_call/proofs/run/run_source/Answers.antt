use Rattle.std.proofs.Common.{option_map}
use Rattle.std.proofs.lemmas.Result.{err_from_is_err_and}
use Rattle.top_call.proofs.RunLemmas.{run_stopped, profile_stopped, done}
use Rattle.top_call.proofs.run.run_source.Goals as goal

pub returns-in_err-value-clause-ends : goal.returns-in_err-value-clause-ends
returns-in_err-value-clause-ends g c = λ before read holds.
    let mid = g.H.Host.state c.args.host.now in
    let p = err_from_is_err_and c.from_residual-in_err-value.result c.from_residual-in_err-value.ensures.1 in
    rw (p.1, p.2) (run_stopped c.args.asked.limit c.args.asked.input.now (option_map (λ name. name.now) c.args.asked.profile) before mid c.args.source.now read holds c.requires.short _ c.in_ok-program.ensures.read
    (g.I.Source.state c.args.input.now) (g.I.Source.state c.returned.new.input) (g.O.Sink.state c.args.out.now) (g.O.Sink.state c.returned.new.out) c.in_err-value.field-0.0 (c.in_err-value.ensures.stops mid mid))

pub returns-in_err-write_profile-clause-ends : goal.returns-in_err-write_profile-clause-ends
returns-in_err-write_profile-clause-ends g c = λ before read holds.
    let p = err_from_is_err_and c.from_residual-in_err-write_profile.result c.from_residual-in_err-write_profile.ensures.1 in
    rw (p.1, p.2) (profile_stopped c.args.asked.limit c.args.asked.input.now (option_map (λ name. name.now) c.args.asked.profile) before (g.H.Host.state c.args.host.now) c.args.source.now read holds c.requires.short _ c.in_ok-program.ensures.read
    (g.I.Source.state c.args.input.now) (g.I.Source.state c.returned.new.input) (g.O.Sink.state c.args.out.now) (g.O.Sink.state c.returned.new.out)
    c.in_ok-value.value c.in_ok-value.profile (g.H.Host.state c.write_profile.new.host) c.in_ok-value.ensures.ran c.in_err-write_profile.field-0.0 c.in_err-write_profile.ensures.stops)

pub returns-clause-ends : goal.returns-clause-ends
returns-clause-ends g c = λ before read holds.
    done c.args.asked.limit c.args.asked.input.now (option_map (λ name. name.now) c.args.asked.profile) before (g.H.Host.state c.args.host.now) c.args.source.now read holds c.requires.short _ c.in_ok-program.ensures.read
    (g.I.Source.state c.args.input.now) (g.I.Source.state c.returned.new.input) (g.O.Sink.state c.args.out.now) (g.O.Sink.state c.returned.new.out)
    c.in_ok-value.value c.in_ok-value.profile (g.H.Host.state c.write_profile.new.host) c.in_ok-value.ensures.ran c.typed.result c.typed.ensures c.in_ok-write_profile.ensures.written
