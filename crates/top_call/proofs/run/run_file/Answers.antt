use Rattle.std.proofs.Common.{Err, option_map}
use Rattle.top_call.proofs.RunLemmas.{read_stopped}
use Rattle.top_call.proofs.run.run_file.Goals as goal

pub returns-in-Err-clause-ends : goal.returns-in-Err-clause-ends
returns-in-Err-clause-ends g c =
    record {
      ending = Err c.in-Err.stop;
      status_is = c.finish-in-Err.ensures.status;
      line = c.finish-in-Err.ensures.line;
      ends = read_stopped c.args.asked.limit c.args.asked.input.now (option_map (λ name. name.now) c.args.asked.profile) (g.H.Host.state c.args.host.now) (g.H.Host.state c.read_short.new.host)
          (g.I.Source.state c.args.input.now) (g.O.Sink.state c.args.out.now) c.in-Err.stop c.in-Err.ensures.stops c.read_short.ensures.rest;
    }
