use Rattle.std.proofs.Common.{false, ◌∙◌, sym, refl}
use Rattle.std.proofs.lemmas.List.{get_or_read}
use Rattle.flow_paths.proofs.SearchSteps.{Reaches-one}
use Rattle.flow_paths.proofs.spreading.Search.reach.Goals as goal

pub returns-in_ok-push : goal.returns-in_ok-push
returns-in_ok-push c =
    Reaches-one c.args.point c.args.self.now _ c.requires
    (sym (get_or_read c.args.self.now.bits.items c.args.point c.index.result.now c.requires c.index.ensures false) ∙ c.if-not-index.true)
    refl c.in_ok-push.ensures.items
