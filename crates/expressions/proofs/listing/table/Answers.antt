use Rattle.std.proofs.Common.{◌≡◌, ◌<◌, [], length, map, ap, sym, ◌∙◌, subst, arith}
use Rattle.std.specs.Prelude.{List, ℕ, Option}
use Rattle.point_graph.specs.Building.{AreBlocks}
use Rattle.point_graph.specs.Numbers.{all_points}
use Rattle.point_graph.specs.declared.graph.Point.{Point}
use Rattle.expressions.specs.Expressions.{expr_at}
use Rattle.expressions.specs.Walking.{AddsAll, seen_of}
use Rattle.expressions.proofs.WalkSteps.{blocks_inside, passed_all, table_is}
use Rattle.expressions.proofs.listing.table.Goals as goal

pub walk-requires-clause-within : goal.walk-requires-clause-within
walk-requires-clause-within c =
    subst (AreBlocks c.args.function.now) (sym c.as_slice.ensures) (blocks_inside c.args.function.now c.args.points.now.blocks c.requires.points.blocks)

pub invariant_of-result : goal.invariant_of-result
invariant_of-result c =
    let f = c.args.function.now in
    let all = passed_all c.args.module.now f c.as_slice.result.now (seen_of c.in_ok-found.found) c.in_ok-found.ensures.adds in
    let points = ap length c.requires.points.points in
    let same = ap (λ bs. length (all_points f bs)) c.as_slice.ensures in
    record { each = c.in_ok-found.ensures.fit.sound; few = omega (arith, all, points, same, c.in_ok-found.ensures.fit.few, c.requires.points.few) }

pub returns-clause-table : goal.returns-clause-table
returns-clause-table c =
    let m = c.args.module.now in
    let f = c.args.function.now in
    let points : all_points f c.as_slice.result.now ≡ c.args.points.now.points = ap (all_points f) c.as_slice.ensures ∙ sym c.requires.points.points in
    let exprs = c.in_ok-found.found.exprs.keys in
    let walked : AddsAll (map (expr_at m f) c.args.points.now.points) (record { exprs = []; occurring = [] }) (record { exprs = exprs; occurring = c.from.result }) =
    subst (λ (l : List Point). AddsAll (map (expr_at m f) l) (record { exprs = []; occurring = [] }) (record { exprs = exprs; occurring = c.from.result })) points
    (subst (λ (o : List (Option ℕ)). AddsAll (map (expr_at m f) (all_points f c.as_slice.result.now)) (record { exprs = []; occurring = [] }) (record { exprs = exprs; occurring = o })) (sym c.from.ensures) c.in_ok-found.ensures.adds) in
    table_is m f c.args.points.now exprs c.from.result c.requires.rules walked
