use Rattle.std.proofs.Common.{false, ◌∙◌, sym, refl, arith}
use Rattle.std.proofs.lemmas.List.{get_or_read}
use Rattle.flow_graph.proofs.SearchSteps.{Reaches-one}
use Rattle.flow_graph.proofs.reaching.Search.reach.Goals as goal

pub returns-in_ok-push : goal.returns-in_ok-push
returns-in_ok-push c =
    Reaches-one c.args.block c.args.self.now _ (omega (arith, c.if-index-len.true, c.len.ensures, c.args.self.now.marks.ok.0))
    (sym (get_or_read c.args.self.now.marks.items c.args.block c.index.result.now (omega (arith, c.if-index-len.true, c.len.ensures, c.args.self.now.marks.ok.0)) c.index.ensures false) ∙ c.if-not-index.true)
    refl c.in_ok-push.ensures.items
