use Rattle.std.proofs.Common.{List, drop, map, sym, ap, ◌∙◌}
use Rattle.std.proofs.lemmas.Result.{err_from_is_err_and}
use Rattle.ir_lexer.specs.Lexeme.{Lexeme, lexeme}
use Rattle.grammar.specs.Grammar.{repeated}
use Rattle.grammar.specs.Reading.{read}
use Rattle.grammar.proofs.Rows.{with_front, shrinks, goes_on}
use Rattle.ir_types.specs.declared.tree.RawInstr.{RawInstr}
use Rattle.ir_parser.specs.Instrs.{instr, instrs}
use Rattle.ir_parser.proofs.Loops.{halts_so}
use Rattle.ir_parser.proofs.instrs.instrs.Goals as goal

pub returns-in_err-instr : goal.returns-in_err-instr
unfolding instrs
returns-in_err-instr c =
    let p = err_from_is_err_and c.from_residual.result c.from_residual.ensures.1 in
    rw (p.1, p.2) (halts_so instr c.loop-alloc.instrs (map lexeme (drop c.loop-alloc.next c.args.tokens.now)) c.args.tokens.now c.in_err-instr.field-0.0 (read (repeated instr) (map lexeme (drop c.args.at c.args.tokens.now))) (sym c.is_instr_next.ensures ∙ c.loop-alloc-test.true) c.in_err-instr.ensures c.loop-alloc.invariant)

pub loop-alloc-smaller : goal.loop-alloc-smaller
loop-alloc-smaller c = shrinks instr (map lexeme (drop c.loop-alloc.next c.args.tokens.now)) c.in_ok-instr.instr (map lexeme (drop c.in_ok-instr.after c.args.tokens.now)) (sym c.is_instr_next.ensures ∙ c.loop-alloc-test.true) c.in_ok-instr.ensures

pub loop-alloc-preserved : goal.loop-alloc-preserved
loop-alloc-preserved c =
    let rest : List Lexeme = map lexeme (drop c.in_ok-instr.after c.args.tokens.now) in
    ap (λ (front : List RawInstr). with_front front (read (repeated instr) rest)) c.in_ok-push.ensures.ok ∙ goes_on instr c.loop-alloc.instrs (map lexeme (drop c.loop-alloc.next c.args.tokens.now)) rest c.in_ok-instr.instr (read (repeated instr) (map lexeme (drop c.args.at c.args.tokens.now))) (sym c.is_instr_next.ensures ∙ c.loop-alloc-test.true) c.in_ok-instr.ensures c.loop-alloc.invariant
