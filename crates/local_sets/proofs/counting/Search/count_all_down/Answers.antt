use Rattle.std.proofs.Common.{◌<◌, ℕ, List, get_or, sym, subst, arith}
use Rattle.std.proofs.lemmas.List.{take_more, take_all}
use Rattle.local_sets.specs.Counting.{CountsDown, left_at}
use Rattle.local_sets.proofs.CountLemmas.{CountsDown-both, CountsDown-nil, one_more}
use Rattle.local_sets.proofs.counting.Search.count_all_down.Goals as goal

pub loop-point-init : goal.loop-point-init
loop-point-init c = CountsDown-nil c.args.free.now c.args.self.now

pub count_down-requires-clause-point : goal.count_down-requires-clause-point
count_down-requires-clause-point c = subst (λ n. get_or c.args.points.now c.loop-point.point-index 0 < n) (sym c.loop-point.invariant.len) (c.requires.points c.loop-point.point-index 0 c.loop-point-test.true)

pub count_down-requires-clause-left : goal.count_down-requires-clause-left
count_down-requires-clause-left c =
    let inside = c.requires.points c.loop-point.point-index 0 c.loop-point-test.true in
    one_more c.args.points.now c.loop-point.point-index c.loop-point-test.true (left_at c.args.self.now _) (left_at c.loop-point.self _) (c.requires.left _ inside) (c.loop-point.invariant.left _)

pub count_down-requires-clause-free : goal.count_down-requires-clause-free
count_down-requires-clause-free c = omega (arith, c.requires.free, c.loop-point.invariant.len)

pub loop-point-preserved : goal.loop-point-preserved
loop-point-preserved c =
    subst (λ (l : List ℕ). CountsDown c.args.free.now l c.args.self.now c.count_down.new.self) (sym (take_more c.args.points.now c.loop-point.point-index 0 c.loop-point-test.true))
    (CountsDown-both c.args.free.now _ _ c.args.self.now c.loop-point.self c.count_down.new.self c.loop-point.invariant c.in_ok-count_down.ensures)

pub returns : goal.returns
returns c = subst (λ (l : List ℕ). CountsDown c.args.free.now l c.args.self.now c.loop-point.self) (take_all c.loop-point.point-index c.args.points.now c.loop-point-test.false) c.loop-point.invariant
