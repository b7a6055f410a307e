use Rattle.std.proofs.Common.{◌≡◌, None, Some, rules, sym, ◌∙◌}
use Rattle.indexmap.specs.IndexMap.{get}
use Rattle.ir_types.specs.Definitions.{same_name}
use Rattle.ir_uses.proofs.Table.{added, kept}
use Rattle.ir_uses.proofs.definitions.Definitions.add.Goals as goal

pub returns-in_ok-insert : goal.returns-in_ok-insert
returns-in_ok-insert c =
    let there : get same_name c.self.inside.meanings c.args.name ≡ Some c.in-Some.first = sym c.in_ok-first.ensures.old ∙ c.in-Some.is in
    let put = rw c.copied-again.ensures at c.in_ok-insert.ensures.entries in
    rw (← c.self.view_is, kept c.self.inside.meanings c.args.name c.args.meaning c.in-Some.first c.insert.new.self.entries c.insert-in-Some.new.self.entries there c.in_ok-first.ensures.entries put)

pub returns-in_default : goal.returns-in_default
returns-in_default c =
    let none : c.in_ok-first.field-0 ≡ None = search rules in
    let absent : get same_name c.self.inside.meanings c.args.name ≡ None = sym c.in_ok-first.ensures.old ∙ none in
    rw (← c.self.view_is, added c.self.inside.meanings c.args.name c.args.meaning c.insert.new.self.entries absent c.in_ok-first.ensures.entries)
