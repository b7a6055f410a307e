use Rattle.std.proofs.Common.{Err, refl}
use Rattle.top_call.proofs.Accepting.{module_unread}
use Rattle.top_call.proofs.ReportEndings.{unaccepted_ends}
use Rattle.top_call.proofs.reporting.report_files.Goals as goal

pub returns-in-Err-clause-ends : goal.returns-in-Err-clause-ends
returns-in-Err-clause-ends g c =
    let old = g.H.Host.state c.args.host.now in
    let new = g.H.Host.state c.read_short.new.host in
    let out = g.O.Sink.state c.args.out.now in
    record {
      ending = Err c.in-Err.stop;
      status_is = c.finish-in-Err.ensures.status;
      line = c.finish-in-Err.ensures.line;
      ends = unaccepted_ends c.args.names.input.now c.args.names.profile.now old new out out c.in-Err.stop
          (module_unread c.args.names.input.now c.args.names.profile.now old new c.in-Err.stop c.in-Err.ensures.stops c.read_short.ensures.rest) refl;
    }
