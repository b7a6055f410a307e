use Rattle.std.proofs.Common.{List, sym, subst, arith}
use Rattle.std.specs.Prelude.{filter}
use Rattle.std.specs.List.{AllZip}
use Rattle.ir_types.specs.declared.syntax.Function.{Function}
use Rattle.profile.specs.Counts.{AreCounts, is_defined}
use Rattle.point_rows.proofs.First.{first_counts}
use Rattle.point_rows.proofs.costing.cost_in_first.Goals as goal

pub cost_in-requires-clause-counts : goal.cost_in-requires-clause-counts
cost_in-requires-clause-counts c =
    let all = c.functions-function-items.result.now in
    let are : AllZip AreCounts (filter is_defined all) c.args.counts.now =
    subst (λ (l : List Function). AllZip AreCounts (filter is_defined l) c.args.counts.now) (sym c.loop-function.invariant.functions) c.requires.accepted.functions in
    first_counts all c.args.counts.now c.loop-function.function-index c.function-item.result c.in-Some.own.now c.loop-function-test.true c.function-item.is (omega (arith, c.len.ensures, c.if-len-ne0.true)) c.loop-function.invariant.none are (sym c.in-Some.ensures.value)
