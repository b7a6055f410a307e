use Rattle.std.proofs.Common.{◌≡◌, ◌<◌, ◌∙◌, sym, refl, ap, subst, List, length, get_or, arith, Some}
use Rattle.std.specs.Prelude.{slice_get}
use Rattle.std.proofs.lemmas.Option.{slice_get_read}
use Rattle.ir_types.specs.declared.syntax.Function.{Function}
use Rattle.profile.specs.declared.counts.FnCounts.{FnCounts}
use Rattle.optimise.proofs.Gathered.{ChoicesSoFar, all_choices, next_good, next_inside, no_more_list, one_more_list}
use Rattle.optimise.proofs.choices.choose.Goals as goal
use Rattle.optimise.proofs.choices.choose.Goals.{then-is_defined+in_ok-placements+in_ok-push, else-is_defined}

pub bounds-counts-len : goal.bounds-counts-len
bounds-counts-len c =
    let m = c.args.program.now in
    let counts = c.args.profile.now.functions in
    let f = c.function-item.result in
    let n = c.loop-function.function-index in
    let chosen = c.loop-function.chosen.items in
    let there : slice_get m.functions n ≡ Some f = rw (sym c.functions-function-items.ensures.list) (slice_get_read c.functions-function-items.result.now _ n f refl c.loop-function-test.true c.function-item.is) in
    let inside : length chosen < length counts = next_inside m counts n f chosen there c.loop-function.invariant c.requires.counts (sym c.is_defined.ensures ∙ c.if-is_defined.true) in
    rw c.as_slice-counts.ensures (omega (arith, inside, c.len.ensures, c.loop-function.chosen.ok.0))

pub choices_in-requires-clause-counts : goal.choices_in-requires-clause-counts
choices_in-requires-clause-counts c =
    let m = c.args.program.now in
    let counts = c.args.profile.now.functions in
    let f = c.function-item.result in
    let n = c.loop-function.function-index in
    let chosen = c.loop-function.chosen.items in
    let own = c.index-counts-len.result in
    let there : slice_get m.functions n ≡ Some f = rw (sym c.functions-function-items.ensures.list) (slice_get_read c.functions-function-items.result.now _ n f refl c.loop-function-test.true c.function-item.is) in
    let len : c.len.result ≡ length chosen = omega (arith, c.len.ensures, c.loop-function.chosen.ok.0) in
    let read : own ≡ get_or counts (length chosen) own = subst (λ j. own ≡ get_or counts j own) len (subst (λ (l : List FnCounts). own ≡ get_or l c.len.result own) c.as_slice-counts.ensures c.index-counts-len.is) in
    next_good m counts n f chosen there c.loop-function.invariant c.requires.counts (sym c.is_defined.ensures ∙ c.if-is_defined.true) own read

pub loop-function-preserved : goal.loop-function-preserved
loop-function-preserved c =
    let m = c.args.program.now in
    let counts = c.args.profile.now.functions in
    let f = c.function-item.result in
    let n = c.loop-function.function-index in
    let chosen = c.loop-function.chosen.items in
    let there : slice_get m.functions n ≡ Some f = rw (sym c.functions-function-items.ensures.list) (slice_get_read c.functions-function-items.result.now _ n f refl c.loop-function-test.true c.function-item.is) in
    elim c.if-is_defined.branch [
      | then-is_defined+in_ok-placements+in_ok-push w ↦
          let own = w.index-counts-len.result in
          let len : w.len.result ≡ length chosen = omega (arith, w.len.ensures, c.loop-function.chosen.ok.0) in
          let read : own ≡ get_or counts (length chosen) own = subst (λ j. own ≡ get_or counts j own) len (subst (λ (l : List FnCounts). own ≡ get_or l w.len.result own) c.as_slice-counts.ensures w.index-counts-len.is) in
          rw (w.chosen-is, w.in_ok-push.ensures.items, w.from.ensures)
          (one_more_list m counts n f chosen there c.loop-function.invariant c.requires.counts (sym c.is_defined.ensures ∙ w.if-is_defined.true) own read w.in_ok-placements.placements.items w.in_ok-placements.ensures)
      | else-is_defined w ↦ rw w.chosen-is (no_more_list m counts n f chosen there c.loop-function.invariant (sym c.is_defined.ensures ∙ w.if-is_defined.false))
    ]

pub returns : goal.returns
returns c =
    let m = c.args.program.now in
    let counts = c.args.profile.now.functions in
    let chosen = c.loop-function.chosen.items in
    let same = ap (λ (l : List Function). length l) c.functions-function-items.ensures.list in
    let n : c.loop-function.function-index ≡ length m.functions = omega (arith, same, c.loop-function-test.false, c.loop-function.auto.function-index-end) in
    all_choices m counts chosen (subst (λ n. ChoicesSoFar m counts n chosen) n c.loop-function.invariant)
