use Rattle.std.proofs.Common.{ℕ, List, IsTrue, refl, sym, subst}
use Rattle.std.proofs.lemmas.Result.{err_from_is_err_and}
use Rattle.top_call.specs.Report.{IsReported}
use Rattle.top_call.proofs.ReadLemmas.{reads_twice}
use Rattle.top_call.proofs.ReportEndings.{put_ends, unaccepted_ends}
use Rattle.top_call.proofs.reporting.report_source.Goals as goal

pub returns-in_err-accepted-clause-ends : goal.returns-in_err-accepted-clause-ends
returns-in_err-accepted-clause-ends g c = λ before read holds.
    let p = err_from_is_err_and c.from_residual.result c.from_residual.ensures.1 in
    rw (p.1, p.2) (unaccepted_ends c.args.names.input.now c.args.names.profile.now before (g.H.Host.state c.accept.new.host) (g.O.Sink.state c.args.out.now) (g.O.Sink.state c.args.out.now)
    c.in_err-accepted.field-0.0 (c.in_err-accepted.ensures.stops before read holds) refl)

pub returns-in-Ok-clause-ends : goal.returns-in-Ok-clause-ends
returns-in-Ok-clause-ends g c = λ before read holds.
    let late = g.H.Host.state c.accept.new.host in
    let both = reads_twice before (g.H.Host.state c.args.host.now) late read c.accept.ensures.rest in
    let accepted = c.in_ok-accepted.accepted in
    let Made : List ℕ → Type 0 = λ text. IsTrue before.tells → IsReported c.args.names.input.now c.args.names.profile.now before text in
    let made : Made c.in-Ok.text.items = λ tells. record {
      program = accepted.program;
      accepted = record {
        reads = c.in_ok-accepted.ensures.reads before read holds tells;
        counts = accepted.counts.functions;
        profile = c.in_ok-accepted.ensures.says before read tells;
      };
      rules = c.in_ok-accepted.ensures.rules;
      placements = c.in-Ok.ensures.0;
      chosen = c.in-Ok.ensures.1;
      report = c.in-Ok.ensures.2;
    } in
    put_ends c.args.names.input.now c.args.names.profile.now before late (g.O.Sink.state c.args.out.now) (g.O.Sink.state c.put_text.new.out)
    c.deref.result.now both.files (subst Made (sym c.deref.ensures.value) made) c.put_text.result c.put_text.ensures.written c.put_text.ensures.put c.put_text.ensures.stops
