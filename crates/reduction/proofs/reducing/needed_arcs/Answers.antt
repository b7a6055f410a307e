use Rattle.std.proofs.Common.{◌∙◌, ap}
use Rattle.reduction.proofs.ReducedLemmas.{arc_kept, arc_left, number_kept, number_left}
use Rattle.reduction.proofs.reducing.needed_arcs.Goals as goal
use Rattle.reduction.proofs.reducing.needed_arcs.Goals.{in-Some+in_ok-push-in-Some+in_ok-push-in-Some-2, in-None}

pub loop-number-preserved : goal.loop-number-preserved
loop-number-preserved c =
    elim c.match-renumbered.branch [
      | in-Some+in_ok-push-in-Some+in_ok-push-in-Some-2 w ↦ record {
        kept = ap (λ v. v.items) w.kept-is ∙ w.in_ok-push-in-Some.ensures.items ∙ arc_kept c.args.numbers.now c.args.arcs.now c.loop-number.number _ c.loop-number-test.true w.in-Some.new w.in-Some.ensures c.loop-number.kept.items c.loop-number.invariant.kept;
        numbers = ap (λ v. v.items) w.arc_of-is ∙ w.in_ok-push-in-Some-2.ensures.items ∙ number_kept c.args.numbers.now c.args.arcs.now c.loop-number.number _ c.loop-number-test.true w.in-Some.new w.in-Some.ensures c.loop-number.arc_of.items c.loop-number.invariant.numbers;
      }
      | in-None w ↦ record {
        kept = ap (λ v. v.items) w.kept-is ∙ arc_left c.args.numbers.now c.args.arcs.now c.loop-number.number _ c.loop-number-test.true w.in-None.ensures c.loop-number.kept.items c.loop-number.invariant.kept;
        numbers = ap (λ v. v.items) w.arc_of-is ∙ number_left c.args.numbers.now c.args.arcs.now c.loop-number.number _ c.loop-number-test.true w.in-None.ensures c.loop-number.arc_of.items c.loop-number.invariant.numbers;
      }
    ]
