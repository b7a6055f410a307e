use Rattle.std.proofs.Common.{◌≡◌, ◌<◌, ◌∙◌, sym, refl, subst, length, get_or, arith, Some}
use Rattle.std.specs.Prelude.{slice_get}
use Rattle.std.proofs.lemmas.Option.{slice_get_read}
use Rattle.std.proofs.lemmas.Result.{err_from_is_err_and}
use Rattle.optimise.proofs.Growing.{one_more_chosen, none_more_chosen, next_inside, next_good, unplaced}
use Rattle.optimise.proofs.optimising.all_chosen.Goals as goal
use Rattle.optimise.proofs.optimising.all_chosen.Goals.{then-is_defined+in_ok-chosen_in+in_ok-push, else-is_defined}

pub bounds-counts-len : goal.bounds-counts-len
bounds-counts-len c =
    let m = c.args.program.now in
    let f = c.function-item.result in
    let n = c.loop-function.function-index in
    let placed = c.loop-function.chosen.items in
    let there : slice_get m.functions n ≡ Some f = rw (sym c.functions-function-items.ensures.list) (slice_get_read c.functions-function-items.result.now _ n f refl c.loop-function-test.true c.function-item.is) in
    let inside : length placed < length c.args.counts.now = next_inside m c.args.counts.now n f placed there c.loop-function.invariant c.requires.counts (sym c.is_defined.ensures ∙ c.if-is_defined.true) in
    omega (arith, inside, c.len.ensures, c.loop-function.chosen.ok.0)

pub chosen_in-requires-clause-counts : goal.chosen_in-requires-clause-counts
chosen_in-requires-clause-counts c =
    let m = c.args.program.now in
    let counts = c.args.counts.now in
    let f = c.function-item.result in
    let n = c.loop-function.function-index in
    let placed = c.loop-function.chosen.items in
    let own = c.index-counts-len.result in
    let there : slice_get m.functions n ≡ Some f = rw (sym c.functions-function-items.ensures.list) (slice_get_read c.functions-function-items.result.now _ n f refl c.loop-function-test.true c.function-item.is) in
    let len : c.len.result ≡ length placed = omega (arith, c.len.ensures, c.loop-function.chosen.ok.0) in
    let read : own ≡ get_or counts (length placed) own = subst (λ j. own ≡ get_or counts j own) len c.index-counts-len.is in
    next_good m counts n f placed there c.loop-function.invariant c.requires.counts (sym c.is_defined.ensures ∙ c.if-is_defined.true) own read

pub returns-in_err-chosen_in-clause-unchosen : goal.returns-in_err-chosen_in-clause-unchosen
returns-in_err-chosen_in-clause-unchosen c =
    let m = c.args.program.now in
    let counts = c.args.counts.now in
    let f = c.function-item.result in
    let n = c.loop-function.function-index in
    let placed = c.loop-function.chosen.items in
    let own = c.index-counts-len.result in
    let there : slice_get m.functions n ≡ Some f = rw (sym c.functions-function-items.ensures.list) (slice_get_read c.functions-function-items.result.now _ n f refl c.loop-function-test.true c.function-item.is) in
    let len : c.len.result ≡ length placed = omega (arith, c.len.ensures, c.loop-function.chosen.ok.0) in
    let read : own ≡ get_or counts (length placed) own = subst (λ j. own ≡ get_or counts j own) len c.index-counts-len.is in
    let p = err_from_is_err_and c.from_residual.result c.from_residual.ensures.1 in
    rw (p.1, p.2) (unplaced m counts n f placed there c.loop-function.invariant c.requires.counts (sym c.is_defined.ensures ∙ c.if-is_defined.true) own read c.in_err-chosen_in.field-0.0 c.in_err-chosen_in.ensures.unplaced)

pub loop-function-preserved : goal.loop-function-preserved
loop-function-preserved c =
    let m = c.args.program.now in
    let counts = c.args.counts.now in
    let f = c.function-item.result in
    let n = c.loop-function.function-index in
    let placed = c.loop-function.chosen.items in
    let there : slice_get m.functions n ≡ Some f = rw (sym c.functions-function-items.ensures.list) (slice_get_read c.functions-function-items.result.now _ n f refl c.loop-function-test.true c.function-item.is) in
    elim c.if-is_defined.branch [
      | then-is_defined+in_ok-chosen_in+in_ok-push w ↦
          let own = w.index-counts-len.result in
          let len : w.len.result ≡ length placed = omega (arith, w.len.ensures, c.loop-function.chosen.ok.0) in
          let read : own ≡ get_or counts (length placed) own = subst (λ j. own ≡ get_or counts j own) len w.index-counts-len.is in
          rw (w.chosen-is, w.in_ok-push.ensures.items)
          (one_more_chosen m counts n f placed there c.loop-function.invariant c.requires.counts (sym c.is_defined.ensures ∙ w.if-is_defined.true) own read w.in_ok-chosen_in.field-0 w.in_ok-chosen_in.ensures.chosen)
      | else-is_defined w ↦ rw w.chosen-is (none_more_chosen m counts n f placed there c.loop-function.invariant (sym c.is_defined.ensures ∙ w.if-is_defined.false))
    ]
