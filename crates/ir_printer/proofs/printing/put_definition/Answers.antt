use Rattle.std.proofs.Common.{List, ◌++◌, map, ap, ◌∙◌, codes, refl}
use Rattle.ir_printer.specs.Text.{listed, param_text, type_text, global_text, blocks_text}
use Rattle.ir_types.specs.declared.syntax.Block.{Block}
use Rattle.ir_printer.proofs.Appended.{last_put, in_six, regrouped_head}
use Rattle.ir_printer.proofs.printing.put_definition.Goals as goal

pub returns : goal.returns
returns c =
    let f = c.args.function.now in
    let head = type_text f.ret ++ (codes " " ++ (global_text f.name ++ codes "(")) in
    let params = listed (map param_text f.params) in
    let blocks = blocks_text c.args.program.now f f.blocks in
    last_put _ _ _ _ _ c.put-3.ensures refl
    (in_six c.args.out.now.written (codes "define ") head params (codes ") {\n") blocks (codes "}\n") c.put.new.self.written c.put_head.new.out.written c.put_params.new.out.written c.put-2.new.self.written c.put_blocks.new.out.written
    (c.in_ok-put.ensures.whole refl) c.in_ok-put_head.ensures (rw (← c.as_slice.ensures) c.in_ok-put_params.ensures) (c.in_ok-put-2.ensures.whole refl) (c.in_ok-put_blocks.ensures ∙ ap (λ (bs : List Block). c.put-2.new.self.written ++ blocks_text c.args.program.now f bs) c.as_slice-2.ensures)
    ∙ ap (λ (l : List _). c.args.out.now.written ++ (codes "define " ++ l)) (regrouped_head (type_text f.ret) (global_text f.name) params blocks))
