use Rattle.std.proofs.Common.{drop, map, sym, ◌∙◌}
use Rattle.std.proofs.lemmas.Result.{err_from_is_err_and}
use Rattle.ir_lexer.specs.Lexeme.{lexeme}
use Rattle.grammar.proofs.Rows.{shrinks}
use Rattle.ir_parser.specs.Module.{part}
use Rattle.ir_parser.proofs.Members.{none_so_far, one_more, all_read, stops_so}
use Rattle.ir_parser.proofs.modules.module_text.Goals as goal

pub loop-alloc-init : goal.loop-alloc-init
loop-alloc-init c = none_so_far _ _ (map lexeme (drop c.args.at c.args.tokens.now)) c.new-functions.ensures c.new-globals.ensures

pub returns-in_err-part : goal.returns-in_err-part
returns-in_err-part c =
    let p = err_from_is_err_and c.from_residual.result c.from_residual.ensures.1 in
    rw (p.1, p.2) (stops_so _ _ (map lexeme (drop c.loop-alloc.next c.args.tokens.now)) (map lexeme (drop c.args.at c.args.tokens.now)) c.args.tokens.now c.in_err-part.field-0.0 c.loop-alloc.invariant (sym c.is_part_next.ensures ∙ c.loop-alloc-test.true) c.in_err-part.ensures)

pub loop-alloc-smaller : goal.loop-alloc-smaller
loop-alloc-smaller c = shrinks part (map lexeme (drop c.loop-alloc.next c.args.tokens.now)) c.in_ok-part.part (map lexeme (drop c.in_ok-part.after c.args.tokens.now)) (sym c.is_part_next.ensures ∙ c.loop-alloc-test.true) c.in_ok-part.ensures

pub loop-alloc-preserved : goal.loop-alloc-preserved
loop-alloc-preserved c = one_more c.loop-alloc.functions c.loop-alloc.globals _ _ (map lexeme (drop c.loop-alloc.next c.args.tokens.now)) (map lexeme (drop c.in_ok-part.after c.args.tokens.now)) (map lexeme (drop c.args.at c.args.tokens.now)) c.in_ok-part.part c.loop-alloc.invariant (sym c.is_part_next.ensures ∙ c.loop-alloc-test.true) c.in_ok-part.ensures c.in_ok-put_part.ensures.functions c.in_ok-put_part.ensures.globals

pub returns : goal.returns
returns c = all_read c.loop-alloc.functions c.loop-alloc.globals (map lexeme (drop c.loop-alloc.next c.args.tokens.now)) (map lexeme (drop c.args.at c.args.tokens.now)) c.loop-alloc.invariant (sym c.is_part_next.ensures ∙ c.loop-alloc-test.false)
