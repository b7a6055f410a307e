use Rattle.std.proofs.Common.{◌∙◌, ap, false, replicate}
use Rattle.flow_graph.proofs.SearchSteps.{Searching-start}
use Rattle.flow_graph.proofs.reaching.reachable.Goals as goal

pub visit_all-requires : goal.visit_all-requires
visit_all-requires c =
    Searching-start c.args.function.now c.in_ok-search.search c.reach.new.self (c.in_ok-search.ensures.marks ∙ ap (λ n. replicate n false) c.len.ensures) c.in_ok-search.ensures.pending c.in_ok-reach.ensures
