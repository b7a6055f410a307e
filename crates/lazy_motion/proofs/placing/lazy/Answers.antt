use Rattle.std.proofs.Common.{length}
use Rattle.std.proofs.lemmas.Result.{IfOk-weaker}
use Rattle.expressions.specs.Tables.{IsEventOf}
use Rattle.placement.specs.Placements.{arcs_of, IsCorrect, IsSafe}
use Rattle.placement.proofs.GraphLemmas.{arcs_within}
use Rattle.best_placement.specs.Blocks.{HasEvent}
use Rattle.best_choice.specs.Best.{IsPlacementOn}
use Rattle.lazy_motion.specs.Motion.{IsLazy}
use Rattle.lazy_motion.specs.Optimality.{ComputesLeast, LivesLeast}
use Rattle.lazy_motion.specs.Steps.{event_at}
use Rattle.lazy_motion.proofs.Alike.{events_alike, lazy_too, placement_too, is_correct_too, safe_too, least_too, lives_too, inevitable_same}
use Rattle.lazy_motion.proofs.Graphs.{start_passes, all_reached}
use Rattle.lazy_motion.proofs.placing.lazy.Goals as goal

pub lazy_with-requires-clause-passes : goal.lazy_with-requires-clause-passes
lazy_with-requires-clause-passes c =
    rw c.deref-2.ensures.value (start_passes c.args.function.now c.args.points.now c.args.table.now c.args.e c.in_ok-events.events.items c.requires.defined c.requires.points c.requires.table c.in_ok-events.ensures c.functions_have_graphs.ensures)

pub lazy_with-requires-clause-within : goal.lazy_with-requires-clause-within
lazy_with-requires-clause-within c =
    rw (c.deref.ensures.value, c.deref-2.ensures.value, c.in_ok-arcs.ensures, c.as_slice.ensures, c.in_ok-events.ensures.len) (arcs_within c.args.function.now c.args.points.now c.requires.points)

pub lazy_with-requires-clause-reached : goal.lazy_with-requires-clause-reached
lazy_with-requires-clause-reached c =
    rw (c.deref.ensures.value, c.deref-2.ensures.value, c.in_ok-arcs.ensures, c.as_slice.ensures, c.in_ok-events.ensures.len)
    (all_reached c.args.function.now c.args.points.now c.args.table.now c.args.e c.in_ok-events.events.items c.requires.defined c.requires.points c.requires.table c.in_ok-events.ensures c.functions_have_graphs.ensures)

pub lazy_with-requires-clause-inevitable : goal.lazy_with-requires-clause-inevitable
lazy_with-requires-clause-inevitable c =
    rw (c.deref.ensures.value, c.deref-2.ensures.value, c.deref-3.ensures.value, c.in_ok-arcs.ensures, c.as_slice.ensures, c.in_ok-events.ensures.len)
    (inevitable_same c.args.function.now c.args.points.now c.args.table.now c.args.e c.in_ok-events.events.items c.in_ok-events.ensures (arcs_of c.args.points.now.edges) c.in_ok-ahead.ahead.items c.in_ok-ahead.ensures.bits)

pub returns : goal.returns
returns c =
    let arcs = arcs_of c.args.points.now.edges in
    let n = length c.args.points.now.points in
    let told = IsEventOf c.args.function.now c.args.points.now c.args.table.now c.args.e in
    let listed = HasEvent (event_at c.in_ok-events.events.items) in
    let alike = events_alike c.args.function.now c.args.points.now c.args.table.now c.args.e c.in_ok-events.events.items c.in_ok-events.ensures in
    let r = c.lazy_with.result in
    record {
      lazy = IfOk-weaker r (λ p. IsLazy arcs listed p) (λ p. IsLazy arcs told p) (λ p h. lazy_too arcs listed told alike p h)
          (rw (c.deref.ensures.value, c.deref-2.ensures.value, c.in_ok-arcs.ensures, c.as_slice.ensures) at c.lazy_with.ensures.lazy);
      placement = IfOk-weaker r (λ p. IsPlacementOn arcs n listed p) (λ p. IsPlacementOn arcs n told p) (λ p h. placement_too arcs n listed told alike p h)
          (rw (c.deref.ensures.value, c.deref-2.ensures.value, c.in_ok-arcs.ensures, c.as_slice.ensures, c.in_ok-events.ensures.len) at c.lazy_with.ensures.placement);
      correct = IfOk-weaker r (λ p. IsCorrect arcs listed p) (λ p. IsCorrect arcs told p) (λ p h. is_correct_too arcs listed told alike p h)
          (rw (c.deref.ensures.value, c.deref-2.ensures.value, c.in_ok-arcs.ensures, c.as_slice.ensures) at c.lazy_with.ensures.correct);
      safe = IfOk-weaker r (λ p. IsSafe arcs listed p) (λ p. IsSafe arcs told p) (λ p h. safe_too arcs listed told alike p h)
          (rw (c.deref.ensures.value, c.deref-2.ensures.value, c.in_ok-arcs.ensures, c.as_slice.ensures) at c.lazy_with.ensures.safe);
      best = IfOk-weaker r (λ p. ComputesLeast arcs listed p) (λ p. ComputesLeast arcs told p) (λ p h. least_too arcs listed told alike p h)
          (rw (c.deref.ensures.value, c.deref-2.ensures.value, c.in_ok-arcs.ensures, c.as_slice.ensures) at c.lazy_with.ensures.best);
      lives = IfOk-weaker r (λ p. LivesLeast arcs n listed p) (λ p. LivesLeast arcs n told p) (λ p h. lives_too arcs n listed told alike p h)
          (rw (c.deref.ensures.value, c.deref-2.ensures.value, c.in_ok-arcs.ensures, c.as_slice.ensures, c.in_ok-events.ensures.len) at c.lazy_with.ensures.lives);
    }
