use Rattle.std.proofs.Common.{◌≡◌, ◌<◌, length, ap, sym, ◌∙◌, subst, arith, Some, false, true}
use Rattle.std.specs.Prelude.{slice_get}
use Rattle.std.proofs.lemmas.Bool.{true≢false}
use Rattle.std.proofs.lemmas.Option.{slice_get-get_or}
use Rattle.std.specs.Prelude.{List}
use Rattle.ir_types.specs.Program.{Program}
use Rattle.expressions.specs.declared.syntax.Arg.{Arg}
use Rattle.expressions.specs.Expressions.{content, expr_at}
use Rattle.expressions.specs.Events.{changes_some, content_bars, other_event}
use Rattle.expressions.specs.Tables.{IsNumberOf}
use Rattle.expressions.proofs.EventSteps.{occurs_there, other_there}
use Rattle.expressions.proofs.FirstSeen.{get_some, zip_length}
use Rattle.expressions.proofs.events.event.Goals as goal

pub occurs-requires : goal.occurs-requires
occurs-requires c =
    let t = c.args.table.now in
    let same = zip_length (λ point x. IsNumberOf t.exprs (expr_at t.module_of c.args.function.now point) x) c.args.points.now.points t.occurring c.requires.table.occurring in
    omega (arith, same, c.requires.point)

pub returns-then-occurs : goal.returns-then-occurs
returns-then-occurs c =
    let at = get_some c.args.points.now.points c.args.point c.requires.point in
    occurs_there c.args.function.now c.args.points.now c.args.table.now c.requires.table c.args.e c.args.point at.0 at.1 (c.occurs.ensures.0 c.if-occurs.true)

pub returns : goal.returns
returns c =
    let t = c.args.table.now in
    let f = c.args.function.now in
    let there = content f c.point_at.result in
    other_there f c.args.points.now t c.requires.table c.args.e c.args.point c.point_at.result c.point_at.ensures c.expr.result.now c.expr.ensures.there
    (λ occurs. true≢false (sym (c.occurs.ensures.1 occurs) ∙ c.if-occurs.false))
    c.other_event.result
    (c.other_event.ensures
    ∙ ap (λ (m : Program). other_event (changes_some m c.as_slice-args.result.now there) (content_bars there)) c.module.ensures
    ∙ ap (λ (l : List Arg). other_event (changes_some t.module_of l there) (content_bars there)) c.as_slice-args.ensures)
