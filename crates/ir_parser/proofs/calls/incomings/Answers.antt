use Rattle.std.proofs.Common.{List, [], ◌∷◌, ◌++◌, drop, map, sym, ap, ◌∙◌}
use Rattle.std.proofs.lemmas.Result.{err_from_is_err_and}
use Rattle.ir_lexer.specs.Lexeme.{Lexeme, lexeme}
use Rattle.grammar.specs.Grammar.{repeated}
use Rattle.grammar.specs.Reading.{read}
use Rattle.grammar.proofs.Rows.{with_front, shrinks, goes_on, halts}
use Rattle.ir_parser.specs.Tokens.{led}
use Rattle.ir_parser.specs.Calls.{Incoming, next_incoming, incoming, incomings}
use Rattle.ir_parser.proofs.Loops.{led_begins}
use Rattle.ir_parser.proofs.calls.incomings.Goals as goal

pub loop-pairs-init : goal.loop-pairs-init
unfolding incomings
loop-pairs-init c =
    let rest : List Lexeme = map lexeme (drop c.in_ok-first.next c.args.tokens.now) in
    ap (λ (front : List Incoming). with_front front (read (repeated next_incoming) rest)) (c.in_ok-push.ensures.ok ∙ ap (λ (l : List Incoming). l ++ c.in_ok-first.first ∷ []) c.new-pairs.ensures)
    ∙ led_begins incoming next_incoming (map lexeme (drop c.args.at c.args.tokens.now)) rest c.in_ok-first.first c.in_ok-first.ensures

pub returns-in_err-further : goal.returns-in_err-further
unfolding incomings
returns-in_err-further c =
    let p = err_from_is_err_and c.from_residual-in_err-further.result c.from_residual-in_err-further.ensures.1 in
    rw (p.1, p.2) (halts next_incoming c.loop-pairs.pairs (map lexeme (drop c.loop-pairs.next c.args.tokens.now)) _ (read (led incoming next_incoming) (map lexeme (drop c.args.at c.args.tokens.now))) (sym c.is_next_incoming.ensures ∙ c.loop-pairs-test.true) c.in_err-further.ensures c.loop-pairs.invariant)

pub loop-pairs-smaller : goal.loop-pairs-smaller
loop-pairs-smaller c = shrinks next_incoming (map lexeme (drop c.loop-pairs.next c.args.tokens.now)) c.in_ok-further.further (map lexeme (drop c.in_ok-further.after c.args.tokens.now)) (sym c.is_next_incoming.ensures ∙ c.loop-pairs-test.true) c.in_ok-further.ensures

pub loop-pairs-preserved : goal.loop-pairs-preserved
loop-pairs-preserved c =
    let rest : List Lexeme = map lexeme (drop c.in_ok-further.after c.args.tokens.now) in
    ap (λ (front : List Incoming). with_front front (read (repeated next_incoming) rest)) c.in_ok-push-2.ensures.ok ∙ goes_on next_incoming c.loop-pairs.pairs (map lexeme (drop c.loop-pairs.next c.args.tokens.now)) rest c.in_ok-further.further (read (led incoming next_incoming) (map lexeme (drop c.args.at c.args.tokens.now))) (sym c.is_next_incoming.ensures ∙ c.loop-pairs-test.true) c.in_ok-further.ensures c.loop-pairs.invariant
