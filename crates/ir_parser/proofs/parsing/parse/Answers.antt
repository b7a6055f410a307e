use Rattle.std.proofs.Common.{take, drop, map, arith}
use Rattle.std.proofs.lemmas.List.{length-map}
use Rattle.ir_lexer.specs.Lexeme.{lexeme}
use Rattle.ir_parser.specs.Module.{module_text}
use Rattle.ir_parser.proofs.Whole.{err_stop, err_only, over_stop, over_only, whole_found, whole_only, some_left, none_left}
use Rattle.ir_parser.proofs.Sizes.{few_items}
use Rattle.ir_parser.proofs.Spelled.{spelled_tree}
use Rattle.ir_parser.proofs.Refused.{parted, refused}
use Rattle.ir_parser.proofs.parsing.parse.Goals as goal

pub returns-then-at-tokens-clause-only : goal.returns-then-at-tokens-clause-only
returns-then-at-tokens-clause-only c = λ tree s.
    absurd (over_only module_text (map lexeme c.args.tokens.now) (map lexeme (drop c.in-Ok.at c.args.tokens.now)) c.in-Ok.raw tree c.in-Ok.ensures (some_left lexeme c.in-Ok.at c.args.tokens.now c.if-at-tokens.true) s)

pub returns-then-at-tokens-clause-stop : goal.returns-then-at-tokens-clause-stop
returns-then-at-tokens-clause-stop c =
    refused (map lexeme c.args.tokens.now) (map lexeme (take c.in-Ok.at c.args.tokens.now)) (map lexeme (drop c.in-Ok.at c.args.tokens.now)) c.args.end c.refusal.result
    (parted lexeme c.in-Ok.at c.args.tokens.now)
    (over_stop module_text (map lexeme c.args.tokens.now) (map lexeme (drop c.in-Ok.at c.args.tokens.now)) c.in-Ok.raw c.in-Ok.ensures (some_left lexeme c.in-Ok.at c.args.tokens.now c.if-at-tokens.true))
    c.refusal.ensures

pub returns-else-at-tokens-clause-found : goal.returns-else-at-tokens-clause-found
returns-else-at-tokens-clause-found c =
    whole_found module_text (map lexeme c.args.tokens.now) (map lexeme (drop c.in-Ok.at c.args.tokens.now)) c.in-Ok.raw c.in-Ok.ensures (none_left lexeme c.in-Ok.at c.args.tokens.now c.if-at-tokens.false)

pub returns-else-at-tokens-clause-only : goal.returns-else-at-tokens-clause-only
returns-else-at-tokens-clause-only c = λ tree s.
    whole_only module_text (map lexeme c.args.tokens.now) (map lexeme (drop c.in-Ok.at c.args.tokens.now)) c.in-Ok.raw tree c.in-Ok.ensures s

pub returns-else-at-tokens-clause-few : goal.returns-else-at-tokens-clause-few
returns-else-at-tokens-clause-few c =
    let l = few_items (map lexeme c.args.tokens.now) c.in-Ok.raw (returns-else-at-tokens-clause-found c) in
    omega (arith, length-map c.args.tokens.now lexeme)

pub returns-else-at-tokens-clause-spelled : goal.returns-else-at-tokens-clause-spelled
returns-else-at-tokens-clause-spelled c = λ spelled. spelled_tree c.args.tokens.now c.in-Ok.raw (returns-else-at-tokens-clause-found c) spelled

pub returns-in-Err-Stopped-clause-only : goal.returns-in-Err-Stopped-clause-only
returns-in-Err-Stopped-clause-only c = λ tree s.
    absurd (err_only module_text (map lexeme c.args.tokens.now) (map lexeme (drop c.in-Err-Stopped.stop.at c.args.tokens.now)) tree (rw c.in-Err-Stopped.field-0-is at c.in-Err-Stopped.ensures) s)

pub returns-in-Err-Stopped-clause-stop : goal.returns-in-Err-Stopped-clause-stop
returns-in-Err-Stopped-clause-stop c =
    refused (map lexeme c.args.tokens.now) (map lexeme (take c.in-Err-Stopped.stop.at c.args.tokens.now)) (map lexeme (drop c.in-Err-Stopped.stop.at c.args.tokens.now)) c.args.end c.refusal-in-Err-Stopped.result
    (parted lexeme c.in-Err-Stopped.stop.at c.args.tokens.now)
    (err_stop module_text (map lexeme c.args.tokens.now) (map lexeme (drop c.in-Err-Stopped.stop.at c.args.tokens.now)) (rw c.in-Err-Stopped.field-0-is at c.in-Err-Stopped.ensures))
    c.refusal-in-Err-Stopped.ensures
