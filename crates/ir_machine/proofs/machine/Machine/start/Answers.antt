use Rattle.std.proofs.Common.{◌≡◌, get_or, map, ap, ◌∙◌}
use Rattle.ir_machine.specs.Code.{started}
use Rattle.ir_machine.proofs.Closing.{state_at, starts, is_machine}
use Rattle.ir_machine.proofs.machine.Machine.start.Goals as goal

begins : (c : goal.After-new-2) → state_at c.args.program.now c.in_ok-top.top c.new-2.result.items c.in_ok-globals.globals ≡ started c.args.program.now c.args.main c.requires.function
begins c =
    let m = c.args.program.now in
    let function = c.index-functions-main.result in
    let at : function ≡ get_or m.functions c.args.main function = c.index-functions-main.is ∙ ap (λ l. get_or l c.args.main function) c.functions.ensures.list in
    let globals = c.in_ok-globals.ensures ∙ ap (map (λ g. g.value)) c.globals.ensures.list in
    starts m c.args.main c.requires.function function c.new.result c.in_ok-top.top c.new-2.result.items c.in_ok-globals.globals c.requires.there at c.new.ensures c.in_ok-top.ensures c.new-2.ensures.items globals

pub invariant_of-result : goal.invariant_of-result
invariant_of-result c = is_machine c.args.program.now c.args.main c.requires.function c.index-functions-main.result c.new.result c.in_ok-top.top c.new-2.result.items c.in_ok-globals.globals c.functions.ensures.rules (begins c)

pub returns : goal.returns
returns c = (c.requires.function, c.requires.there, begins c)
