use Rattle.std.proofs.Common.{ℕ, List, map, sym, subst}
use Rattle.std.proofs.lemmas.List.{map_more, take_all}
use Rattle.flow_graph.specs.Searching.{Reaches}
use Rattle.flow_graph.proofs.SearchSteps.{Reaches-both, Reaches-nil}
use Rattle.flow_graph.proofs.reaching.Search.reach_cases.Goals as goal

pub loop-block-init : goal.loop-block-init
loop-block-init c = Reaches-nil c.args.self.now

pub loop-block-preserved : goal.loop-block-preserved
loop-block-preserved c =
    let more = map_more (λ (x : ℕ × ℕ). x.1) c.args.cases.now c.loop-block.block-index (0, 0) c.loop-block-test.true in
    subst (λ (l : List ℕ). Reaches l c.args.self.now c.reach.new.self) (sym more)
    (Reaches-both _ _ c.args.self.now c.loop-block.self c.reach.new.self c.loop-block.invariant c.in_ok-reach.ensures)

pub returns : goal.returns
returns c =
    subst (λ (l : List (ℕ × ℕ)). Reaches (map (λ (x : ℕ × ℕ). x.1) l) c.args.self.now c.loop-block.self)
    (take_all c.loop-block.block-index c.args.cases.now c.loop-block-test.false) c.loop-block.invariant
