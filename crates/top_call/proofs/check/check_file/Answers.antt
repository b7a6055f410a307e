use Rattle.std.proofs.Common.{Err}
use Rattle.top_call.specs.Command.{files_of}
use Rattle.top_call.proofs.CheckLemmas.{read_stopped}
use Rattle.top_call.proofs.check.check_file.Goals as goal

pub returns-in-Err-clause-ends : goal.returns-in-Err-clause-ends
returns-in-Err-clause-ends g c =
    record {
      ending = Err c.in-Err.stop;
      status_is = c.finish-in-Err.ensures.status;
      line = c.finish-in-Err.ensures.line;
      ends = read_stopped (files_of c.args.names) (g.H.Host.state c.args.host.now) (g.H.Host.state c.read_short.new.host) c.in-Err.stop c.in-Err.ensures.stops c.read_short.ensures.rest;
    }
