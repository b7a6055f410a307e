use Rattle.std.proofs.Common.{Option, Err, refl, sym, ap, subst, ◌∙◌}
use Rattle.std.specs.Prelude.{option_map}
use Rattle.top_call.specs.declared.command.Command.{Command}
use Rattle.call_lines.specs.declared.ending.Stop.TheVariants.{Usage}
use Rattle.top_call.specs.Command.{row_of_command}
use Rattle.top_call.specs.Row.{Row}
use Rattle.top_call.specs.Top.{Ends}
use Rattle.top_call.specs.World.{World, world}
use Rattle.top_call.proofs.top.answer.Goals as goal

pub returns-in-None-clause-ends : goal.returns-in-None-clause-ends
returns-in-None-clause-ends g c =
    let here : World = world (g.H.Host.state c.args.host.now) (g.I.Source.state c.args.input.now) (g.O.Sink.state c.args.out.now) in
    let P : Option Row → Type 0 = λ row. Ends row here here (Err Usage) in
    let none = sym (ap (λ (command : Option Command). option_map row_of_command command) c.in-None.is) ∙ c.command_of.ensures.row in
    record { ending = Err Usage; status_is = c.finish.ensures.status; line = c.finish.ensures.line; ends = subst P none (refl, refl) }
