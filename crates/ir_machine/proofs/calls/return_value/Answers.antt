use Rattle.std.proofs.Common.{◌≡◌, ◌<◌, ◌-◌, length, get_or, take, ap, ◌∙◌, arith}
use Rattle.std.proofs.Math.ListN.{set}
use Rattle.ir_machine.specs.Step.{past}
use Rattle.ir_machine.proofs.Waiting.{returned_to}
use Rattle.ir_machine.proofs.calls.return_value.Goals as goal

pub returns-in-Some-clause-ok : goal.returns-in-Some-clause-ok
returns-in-Some-clause-ok c m globals =
    let below = c.args.below.now in
    let lt : 0 < length below.items = omega (arith, c.in-Some.ensures.cases, below.ok.0) in
    let value = c.in-Some.ensures.value c.pass.new.self (omega (arith, lt, below.ok.0)) in
    let caller : c.in-Some.caller ≡ get_or (set below.items (c.len-last.result - 1) c.pass.new.self) (below.len - 1) c.pass.new.self = cc in
    returned_to m c.args.value c.args.top.now below.items c.pop.new.self.items c.index_mut.result.now c.in-Some.caller c.pass.new.self c.len-last.result globals lt (c.len-last.ensures ∙ below.ok.0) c.index_mut.ensures.value
    (c.in_ok-pass.ensures.ok ∙ ap (past c.index_mut.result.now) c.unwrap_or.ensures)
    (caller ∙ ap (λ n. get_or (set below.items (c.len-last.result - 1) c.pass.new.self) (n - 1) c.pass.new.self) below.ok.0)
    (c.in-Some.ensures.rest ∙ ap (λ n. take (n - 1) (set below.items (c.len-last.result - 1) c.pass.new.self)) below.ok.0)
