use Rattle.std.proofs.Common.{List, [], ◌∷◌, ◌++◌, drop, map, sym, ap, ◌∙◌}
use Rattle.std.proofs.lemmas.Result.{err_from_is_err_and}
use Rattle.ir_lexer.specs.Lexeme.{Lexeme, lexeme}
use Rattle.grammar.specs.Grammar.{repeated}
use Rattle.grammar.specs.Reading.{read}
use Rattle.grammar.proofs.Rows.{with_front, shrinks, goes_on, halts}
use Rattle.ir_types.specs.declared.tree.RawArg.{RawArg}
use Rattle.ir_parser.specs.Tokens.{led}
use Rattle.ir_parser.specs.Calls.{next_arg, arg, some_args}
use Rattle.ir_parser.proofs.Loops.{led_begins}
use Rattle.ir_parser.proofs.calls.some_args.Goals as goal

pub loop-args-init : goal.loop-args-init
unfolding some_args
loop-args-init c =
    let rest : List Lexeme = map lexeme (drop c.in_ok-first.next c.args.tokens.now) in
    ap (λ (front : List RawArg). with_front front (read (repeated next_arg) rest)) (c.in_ok-push.ensures.ok ∙ ap (λ (l : List RawArg). l ++ c.in_ok-first.first ∷ []) c.new-args.ensures)
    ∙ led_begins arg next_arg (map lexeme (drop c.args.at c.args.tokens.now)) rest c.in_ok-first.first c.in_ok-first.ensures

pub returns-in_err-further : goal.returns-in_err-further
unfolding some_args
returns-in_err-further c =
    let p = err_from_is_err_and c.from_residual-in_err-further.result c.from_residual-in_err-further.ensures.1 in
    rw (p.1, p.2) (halts next_arg c.loop-args.args (map lexeme (drop c.loop-args.next c.args.tokens.now)) _ (read (led arg next_arg) (map lexeme (drop c.args.at c.args.tokens.now))) (sym c.is_next_arg.ensures ∙ c.loop-args-test.true) c.in_err-further.ensures c.loop-args.invariant)

pub loop-args-smaller : goal.loop-args-smaller
loop-args-smaller c = shrinks next_arg (map lexeme (drop c.loop-args.next c.args.tokens.now)) c.in_ok-further.further (map lexeme (drop c.in_ok-further.after c.args.tokens.now)) (sym c.is_next_arg.ensures ∙ c.loop-args-test.true) c.in_ok-further.ensures

pub loop-args-preserved : goal.loop-args-preserved
loop-args-preserved c =
    let rest : List Lexeme = map lexeme (drop c.in_ok-further.after c.args.tokens.now) in
    ap (λ (front : List RawArg). with_front front (read (repeated next_arg) rest)) c.in_ok-push-2.ensures.ok ∙ goes_on next_arg c.loop-args.args (map lexeme (drop c.loop-args.next c.args.tokens.now)) rest c.in_ok-further.further (read (led arg next_arg) (map lexeme (drop c.args.at c.args.tokens.now))) (sym c.is_next_arg.ensures ∙ c.loop-args-test.true) c.in_ok-further.ensures c.loop-args.invariant
