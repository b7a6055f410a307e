use Rattle.std.proofs.Common.{List, ℕ, codes, Err, subst}
use Rattle.mc_host.specs.Streams.{Puts}
use Rattle.mc_host.specs.declared.faults.Failed.{Failed}
use Rattle.call_lines.specs.Reasons.{key_text, under}
use Rattle.call_lines.proofs.FourPuts.{first_fails, second_fails, third_fails}
use Rattle.call_lines.proofs.path.put_path.Goals as goal

pub returns-in_err-put_number : goal.returns-in_err-put_number
returns-in_err-put_number g c =
    let path = c.args.path in
    first_fails (under (codes "/functions/") path.function) (under (codes "/expressions/") path.expression) (key_text path.key) (under (codes "/") path.index) c.in_err-put_number.field-0.0
    c.from_residual.result c.from_residual.ensures.0 (g.S.Sink.state c.args.sink.now) (g.S.Sink.state c.put_number.new.sink) c.in_err-put_number.ensures

pub returns-in_err-put_number-2 : goal.returns-in_err-put_number-2
returns-in_err-put_number-2 g c =
    let path = c.args.path in
    second_fails (under (codes "/functions/") path.function) (under (codes "/expressions/") path.expression) (key_text path.key) (under (codes "/") path.index) c.in_err-put_number-2.field-0.0
    c.from_residual-in_err-put_number-2.result c.from_residual-in_err-put_number-2.ensures.0 (g.S.Sink.state c.args.sink.now) (g.S.Sink.state c.put_number.new.sink)
    (g.S.Sink.state c.put_number-2.new.sink) c.in_ok-put_number.ensures c.in_err-put_number-2.ensures

pub returns-in_err-put : goal.returns-in_err-put
returns-in_err-put g c =
    let path = c.args.path in
    let e = c.in_err-put.field-0.0 in
    let third = subst (λ (key : List ℕ). Puts {E = Failed} key (Err e) (g.S.Sink.state c.put_number-2.new.sink) (g.S.Sink.state c.put.new.self)) c.key_name.ensures c.in_err-put.ensures in
    third_fails (under (codes "/functions/") path.function) (under (codes "/expressions/") path.expression) (key_text path.key) (under (codes "/") path.index) e
    c.from_residual-in_err-put.result c.from_residual-in_err-put.ensures.0 (g.S.Sink.state c.args.sink.now) (g.S.Sink.state c.put_number.new.sink) (g.S.Sink.state c.put_number-2.new.sink)
    (g.S.Sink.state c.put.new.self) c.in_ok-put_number.ensures c.in_ok-put_number-2.ensures third
