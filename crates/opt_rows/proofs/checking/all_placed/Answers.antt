use Rattle.std.proofs.Common.{◌≡◌, ◌∙◌, sym, refl, Some}
use Rattle.std.specs.Prelude.{slice_get}
use Rattle.std.proofs.lemmas.Option.{slice_get_read}
use Rattle.transform.specs.Transformed.{IsSoundIn}
use Rattle.opt_rows.proofs.Checks.{one_more_placed, none_more_placed}
use Rattle.opt_rows.proofs.checking.all_placed.Goals as goal
use Rattle.opt_rows.proofs.checking.all_placed.Goals.{then-is_defined+in-Some+in_ok-one+in-Some-2+in_ok-push-in-Some-2, else-is_defined}

pub loop-function-preserved : goal.loop-function-preserved
loop-function-preserved c =
    let m = c.args.program.now in
    let f = c.function-item.result in
    let n = c.loop-function.function-index in
    let placed = c.loop-function.placed.items in
    let there : slice_get m.functions n ≡ Some f = rw (sym c.functions-function-items.ensures.list) (slice_get_read c.functions-function-items.result.now _ n f refl c.loop-function-test.true c.function-item.is) in
    elim c.if-is_defined.branch [
      | then-is_defined+in-Some+in_ok-one+in-Some-2+in_ok-push-in-Some-2 w ↦
          let is : IsSoundIn m f w.in-Some-2.one = rw w.in-Some-2.is at w.in_ok-one.ensures in
          rw (w.placed-is, w.in_ok-push-in-Some-2.ensures.items) (one_more_placed m n f placed there c.loop-function.invariant w.in-Some-2.one (sym c.is_defined.ensures ∙ w.if-is_defined.true) is)
      | else-is_defined w ↦ rw w.placed-is (none_more_placed m n f placed there c.loop-function.invariant (sym c.is_defined.ensures ∙ w.if-is_defined.false))
    ]
