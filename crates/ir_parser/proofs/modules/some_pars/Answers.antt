use Rattle.std.proofs.Common.{List, [], ◌∷◌, ◌++◌, drop, map, sym, ap, ◌∙◌}
use Rattle.std.proofs.lemmas.Result.{err_from_is_err_and}
use Rattle.ir_lexer.specs.Lexeme.{Lexeme, lexeme}
use Rattle.grammar.specs.Grammar.{repeated}
use Rattle.grammar.specs.Reading.{read}
use Rattle.grammar.proofs.Rows.{with_front, shrinks, goes_on, halts}
use Rattle.ir_types.specs.declared.tree.RawParam.{RawParam}
use Rattle.ir_parser.specs.Tokens.{led}
use Rattle.ir_parser.specs.Module.{next_par, par, some_pars}
use Rattle.ir_parser.proofs.Loops.{led_begins}
use Rattle.ir_parser.proofs.modules.some_pars.Goals as goal

pub loop-pars-init : goal.loop-pars-init
unfolding some_pars
loop-pars-init c =
    let rest : List Lexeme = map lexeme (drop c.in_ok-first.next c.args.tokens.now) in
    ap (λ (front : List RawParam). with_front front (read (repeated next_par) rest)) (c.in_ok-push.ensures.ok ∙ ap (λ (l : List RawParam). l ++ c.in_ok-first.first ∷ []) c.new-pars.ensures)
    ∙ led_begins par next_par (map lexeme (drop c.args.at c.args.tokens.now)) rest c.in_ok-first.first c.in_ok-first.ensures

pub returns-in_err-further : goal.returns-in_err-further
unfolding some_pars
returns-in_err-further c =
    let p = err_from_is_err_and c.from_residual-in_err-further.result c.from_residual-in_err-further.ensures.1 in
    rw (p.1, p.2) (halts next_par c.loop-pars.pars (map lexeme (drop c.loop-pars.next c.args.tokens.now)) _ (read (led par next_par) (map lexeme (drop c.args.at c.args.tokens.now))) (sym c.is_next_par.ensures ∙ c.loop-pars-test.true) c.in_err-further.ensures c.loop-pars.invariant)

pub loop-pars-smaller : goal.loop-pars-smaller
loop-pars-smaller c = shrinks next_par (map lexeme (drop c.loop-pars.next c.args.tokens.now)) c.in_ok-further.further (map lexeme (drop c.in_ok-further.after c.args.tokens.now)) (sym c.is_next_par.ensures ∙ c.loop-pars-test.true) c.in_ok-further.ensures

pub loop-pars-preserved : goal.loop-pars-preserved
loop-pars-preserved c =
    let rest : List Lexeme = map lexeme (drop c.in_ok-further.after c.args.tokens.now) in
    ap (λ (front : List RawParam). with_front front (read (repeated next_par) rest)) c.in_ok-push-2.ensures.ok ∙ goes_on next_par c.loop-pars.pars (map lexeme (drop c.loop-pars.next c.args.tokens.now)) rest c.in_ok-further.further (read (led par next_par) (map lexeme (drop c.args.at c.args.tokens.now))) (sym c.is_next_par.ensures ∙ c.loop-pars-test.true) c.in_ok-further.ensures c.loop-pars.invariant
