use Rattle.std.proofs.Common.{List, ℕ, ◌++◌, ◌∷◌, [], ap, ◌∙◌, append_assoc}
use Rattle.profile.proofs.Fronts.{front_shorter}
use Rattle.profile.proofs.Runs.{run_push}
use Rattle.profile.proofs.lines.read_run.Goals as goal

pub loop-number-smaller : goal.loop-number-smaller
loop-number-smaller c = front_shorter c.loop-number.rest.now c.in-Some.number c.in-Some.later.now c.in-Some.ensures

pub loop-number-preserved : goal.loop-number-preserved
loop-number-preserved c =
    let ns = c.loop-number.invariant.0 in
    let n = c.in-Some.number in (
      ns ++ n ∷ [],
      c.in_ok-push.ensures.ok ∙ ap (λ (l : List ℕ). l ++ n ∷ []) c.loop-number.invariant.1 ∙ append_assoc c.args.counts.now ns (n ∷ []),
      run_push c.args.bytes.now ns c.loop-number.rest.now n c.in-Some.later.now c.loop-number.invariant.2 c.in-Some.ensures,
    )
