use Rattle.std.proofs.Common.{drop, map, sym, ◌∙◌}
use Rattle.std.proofs.lemmas.Result.{err_from_is_err_and}
use Rattle.ir_lexer.specs.Lexeme.{lexeme}
use Rattle.grammar.specs.Grammar.{repeated}
use Rattle.grammar.specs.Reading.{read}
use Rattle.grammar.proofs.Rows.{shrinks}
use Rattle.ir_parser.specs.Tokens.{dropped}
use Rattle.ir_parser.specs.Values.{extra, extras}
use Rattle.ir_parser.proofs.Loops.{passes_on, passing_halts}
use Rattle.ir_parser.proofs.values.extras.Goals as goal

pub returns-in_err-next : goal.returns-in_err-next
unfolding extras
returns-in_err-next c =
    let p = err_from_is_err_and c.from_residual.result c.from_residual.ensures.1 in
    rw (p.1, p.2) (passing_halts extra (map lexeme (drop c.loop-next.next c.args.tokens.now)) _ (read (dropped (repeated extra)) (map lexeme (drop c.args.at c.args.tokens.now))) (sym c.is_extra_next.ensures ∙ c.loop-next-test.true) c.in_err-next.ensures c.loop-next.invariant)

pub loop-next-smaller : goal.loop-next-smaller
loop-next-smaller c = shrinks extra (map lexeme (drop c.loop-next.next c.args.tokens.now)) tt (map lexeme (drop c.in_ok-next.next c.args.tokens.now)) (sym c.is_extra_next.ensures ∙ c.loop-next-test.true) c.in_ok-next.ensures

pub loop-next-preserved : goal.loop-next-preserved
loop-next-preserved c = passes_on extra (map lexeme (drop c.loop-next.next c.args.tokens.now)) (map lexeme (drop c.in_ok-next.next c.args.tokens.now)) tt (read (dropped (repeated extra)) (map lexeme (drop c.args.at c.args.tokens.now))) (sym c.is_extra_next.ensures ∙ c.loop-next-test.true) c.in_ok-next.ensures c.loop-next.invariant
