use Rattle.std.proofs.Common.{◌<◌, ℕ, List, take, get_or, sym, subst}
use Rattle.std.proofs.lemmas.List.{take_more, take_all}
use Rattle.flow_paths.specs.Searching.{Reaches}
use Rattle.flow_paths.proofs.SearchSteps.{Reaches-both, Reaches-nil}
use Rattle.flow_paths.proofs.spreading.Search.reach_all.Goals as goal

pub loop-point-init : goal.loop-point-init
loop-point-init c = Reaches-nil c.args.self.now

pub reach-requires : goal.reach-requires
reach-requires c = subst (λ n. get_or c.args.points.now c.loop-point.point-index 0 < n) (sym c.loop-point.invariant.len) (c.requires c.loop-point.point-index 0 c.loop-point-test.true)

pub loop-point-preserved : goal.loop-point-preserved
loop-point-preserved c =
    subst (λ (l : List ℕ). Reaches l c.args.self.now c.reach.new.self) (sym (take_more c.args.points.now c.loop-point.point-index 0 c.loop-point-test.true))
    (Reaches-both _ _ c.args.self.now c.loop-point.self c.reach.new.self c.loop-point.invariant c.in_ok-reach.ensures)

pub returns : goal.returns
returns c = subst (λ (l : List ℕ). Reaches l c.args.self.now c.loop-point.self) (take_all c.loop-point.point-index c.args.points.now c.loop-point-test.false) c.loop-point.invariant
