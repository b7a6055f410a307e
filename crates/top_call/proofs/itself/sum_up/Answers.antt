use Rattle.std.proofs.Common.{ℕ, List, Err, refl, sym, subst}
use Rattle.top_call.specs.Report.{IsSummarised}
use Rattle.top_call.proofs.ReportEndings.{put_summary_ends, unsummed_ends}
use Rattle.top_call.proofs.itself.sum_up.Goals as goal

pub returns-in-Ok : goal.returns-in-Ok
returns-in-Ok g c =
    let out = g.O.Sink.state c.args.out.now in
    let Made : List ℕ → Type 0 = λ text. IsSummarised c.args.n text in
    record {
      ending = c.put_text-ending.result;
      status_is = c.finish.ensures.status;
      line = c.finish.ensures.line;
      ends = put_summary_ends c.args.n out (g.O.Sink.state c.put_text-ending.new.out) c.deref.result.now (subst Made (sym c.deref.ensures.value) c.in-Ok.ensures.text)
          c.put_text-ending.result c.put_text-ending.ensures.written c.put_text-ending.ensures.put c.put_text-ending.ensures.stops;
    }

pub returns-in-Err : goal.returns-in-Err
returns-in-Err g c =
    let out = g.O.Sink.state c.args.out.now in
    record {
      ending = Err c.in-Err.stop;
      status_is = c.finish-in-Err.ensures.status;
      line = c.finish-in-Err.ensures.line;
      ends = unsummed_ends c.args.n out out c.in-Err.stop c.in-Err.ensures.stops refl;
    }
