use Rattle.std.proofs.Common.{List, [], ◌∷◌, ◌++◌, ap, ◌∙◌}
use Rattle.ir_lexer.specs.declared.token.Token.{Token}
use Rattle.ir_parser.proofs.Probes.{read_at, stops_at}
use Rattle.ir_parser.proofs.profile.goes_on.Goals as goal

pub returns-in-Ok : goal.returns-in-Ok
returns-in-Ok c =
    let x : Token = record { kind = c.args.kind; text = c.args.text; span = record { line = 0; start = 0; end = 0 } } in
    read_at c.args.front.now c.deref.result.now x c.in-Ok.at c.in-Ok.field-0-0 (c.deref.ensures.value ∙ c.in_ok-push.ensures.items ∙ ap (λ (l : List Token). l ++ x ∷ []) c.in_ok-tokens.ensures.items) c.in-Ok.ensures

pub returns-in-Err-Stopped : goal.returns-in-Err-Stopped
returns-in-Err-Stopped c =
    let x : Token = record { kind = c.args.kind; text = c.args.text; span = record { line = 0; start = 0; end = 0 } } in
    stops_at c.args.front.now c.deref.result.now x c.in-Err-Stopped.stop.at (c.deref.ensures.value ∙ c.in_ok-push.ensures.items ∙ ap (λ (l : List Token). l ++ x ∷ []) c.in_ok-tokens.ensures.items) (rw c.in-Err-Stopped.field-0-is at c.in-Err-Stopped.ensures)
