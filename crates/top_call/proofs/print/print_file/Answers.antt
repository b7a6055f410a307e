use Rattle.std.proofs.Common.{Err}
use Rattle.top_call.proofs.Endings.{read_stopped}
use Rattle.top_call.proofs.print.print_file.Goals as goal

pub returns-in-Err-clause-ends : goal.returns-in-Err-clause-ends
returns-in-Err-clause-ends g c =
    let state = g.H.Host.state in
    record {
      ending = Err c.in-Err.stop;
      status_is = c.finish-in-Err.ensures.status;
      line = c.finish-in-Err.ensures.line;
      ends = read_stopped c.args.input.now c.args.output.now (state c.args.host.now) (state c.read_short.new.host) c.in-Err.stop c.in-Err.ensures.stops c.read_short.ensures.rest;
    }
