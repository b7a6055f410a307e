use Rattle.std.proofs.Common.{List, ◌++◌, ap, sym, ◌∙◌, append-nil, codes, ◌==◌}
use Rattle.ir_printer.specs.Text.{separated}
use Rattle.ir_printer.proofs.Arguments.{arguments_end}
use Rattle.ir_printer.proofs.instrs.put_arguments.Goals as goal

pub returns : goal.returns
returns c =
    let none = arguments_end c.args.function.now c.args.block.now c.args.params.now c.args.arguments.now c.loop-index.index (rw (← c.min-index-end.ensures) c.loop-index-test.false) in
    sym (append-nil c.loop-index.out.written)
    ∙ ap (λ (texts : List (List _)). c.loop-index.out.written ++ separated (codes ", ") (c.loop-index.index == 0) texts) (sym none)
    ∙ c.loop-index.invariant
