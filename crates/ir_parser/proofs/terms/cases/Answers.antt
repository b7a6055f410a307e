use Rattle.std.proofs.Common.{List, drop, map, sym, ap, ◌∙◌}
use Rattle.std.proofs.lemmas.Result.{err_from_is_err_and}
use Rattle.ir_lexer.specs.Lexeme.{Lexeme, lexeme}
use Rattle.grammar.specs.Grammar.{repeated}
use Rattle.grammar.specs.Reading.{read}
use Rattle.grammar.proofs.Rows.{with_front, shrinks, goes_on, halts}
use Rattle.ir_types.specs.declared.tree.RawCase.{RawCase}
use Rattle.ir_parser.specs.Terms.{switch_case, cases}
use Rattle.ir_parser.proofs.terms.cases.Goals as goal

pub returns-in_err-case : goal.returns-in_err-case
unfolding cases
returns-in_err-case c =
    let p = err_from_is_err_and c.from_residual.result c.from_residual.ensures.1 in
    rw (p.1, p.2) (halts switch_case c.loop-cases.cases (map lexeme (drop c.loop-cases.next c.args.tokens.now)) _ (read (repeated switch_case) (map lexeme (drop c.args.at c.args.tokens.now))) (sym c.is_case_next.ensures ∙ c.loop-cases-test.true) c.in_err-case.ensures c.loop-cases.invariant)

pub loop-cases-smaller : goal.loop-cases-smaller
loop-cases-smaller c = shrinks switch_case (map lexeme (drop c.loop-cases.next c.args.tokens.now)) c.in_ok-case.case (map lexeme (drop c.in_ok-case.after c.args.tokens.now)) (sym c.is_case_next.ensures ∙ c.loop-cases-test.true) c.in_ok-case.ensures

pub loop-cases-preserved : goal.loop-cases-preserved
loop-cases-preserved c =
    let rest : List Lexeme = map lexeme (drop c.in_ok-case.after c.args.tokens.now) in
    ap (λ (front : List RawCase). with_front front (read (repeated switch_case) rest)) c.in_ok-push.ensures.ok ∙ goes_on switch_case c.loop-cases.cases (map lexeme (drop c.loop-cases.next c.args.tokens.now)) rest c.in_ok-case.case (read (repeated switch_case) (map lexeme (drop c.args.at c.args.tokens.now))) (sym c.is_case_next.ensures ∙ c.loop-cases-test.true) c.in_ok-case.ensures c.loop-cases.invariant
