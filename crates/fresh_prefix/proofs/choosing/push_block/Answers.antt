use Rattle.std.proofs.Common.{◌≡◌, ◌<◌, ◌≤◌, ◌++◌, ◌∷◌, ◌+◌, length, take, get_or, ap, sym, ◌∙◌, arith}
use Rattle.std.specs.Prelude.{filter_map}
use Rattle.std.specs.Option.{option_to_list}
use Rattle.std.proofs.lemmas.List.{take_all}
use Rattle.ir_types.specs.declared.syntax.Instr.{Instr}
use Rattle.fresh_prefix.proofs.Extending.{ext_same, ext_append, results_more}
use Rattle.fresh_prefix.proofs.choosing.push_block.Goals as goal

pub loop-instr-preserved : goal.loop-instr-preserved
loop-instr-preserved c =
    let name = c.args.block.now.name in
    let instrs = c.args.block.now.instrs in
    let i = c.loop-instr.instr-index in
    let result = λ (instr : Instr). instr.result in
    let same = c.as_slice-instr-items.ensures in
    let inside : c.loop-instr.instr-index < length c.args.block.now.instrs = omega (arith, c.loop-instr-test.true, ap length same) in
    let is : c.instr-item.result ≡ get_or c.args.block.now.instrs c.loop-instr.instr-index c.instr-item.result = c.instr-item.is ∙ ap (λ l. get_or l i c.instr-item.result) same in
    ext_same (name ∷ filter_map result (take (i + 1) instrs)) ((name ∷ filter_map result (take i instrs)) ++ option_to_list c.instr-item.result.result) c.args.numbers.now.items c.push_result.new.numbers.items
    (ap (λ l. name ∷ l) (results_more instrs i c.instr-item.result inside ∙ ap (λ (y : Instr). filter_map result (take i instrs) ++ option_to_list y.result) (sym is)))
    (ext_append (name ∷ filter_map result (take i instrs)) (option_to_list c.instr-item.result.result) c.args.numbers.now.items c.loop-instr.numbers.items c.push_result.new.numbers.items c.loop-instr.invariant c.in_ok-push_result.ensures)

pub returns : goal.returns
returns c =
    let result = λ (instr : Instr). instr.result in
    let past : length c.args.block.now.instrs ≤ c.loop-instr.instr-index = omega (arith, c.loop-instr-test.false, ap length c.as_slice-instr-items.ensures) in
    ext_same (c.args.block.now.name ∷ filter_map result c.args.block.now.instrs) (c.args.block.now.name ∷ filter_map result (take c.loop-instr.instr-index c.args.block.now.instrs)) c.args.numbers.now.items c.loop-instr.numbers.items
    (ap (λ l. c.args.block.now.name ∷ filter_map result l) (sym (take_all c.loop-instr.instr-index c.args.block.now.instrs past))) c.loop-instr.invariant
