use Rattle.std.proofs.Common.{◌≡◌, ◌<◌, ◌≤◌, ◌^◌, ◌∙◌, ap, sym, refl, subst, length, get_or, arith, Some}
use Rattle.std.specs.Prelude.{slice_get}
use Rattle.std.proofs.lemmas.Option.{slice_get_read}
use Rattle.tallies.specs.Sums.{plus, totals_in}
use Rattle.tallies.proofs.Growing.{all_tallied, counts_inside, next_fits, next_good, none_more_tallied, nothing_tallied, one_more_tallied, placed_inside, room, room_last}
use Rattle.tallies.proofs.tallying.each_function.Goals as goal
use Rattle.tallies.proofs.tallying.each_function.Goals.{then-is_defined+in_ok-tallies+in_ok-push, else-is_defined}

pub loop-function-init : goal.loop-function-init
loop-function-init c = rw c.new-functions.ensures.items (nothing_tallied c.args.program.now c.args.counts.now c.args.placements.now c.none-totals.result c.none-totals.ensures)

pub bounds-counts-place : goal.bounds-counts-place
bounds-counts-place c =
    let m = c.args.program.now in
    let counts = c.args.counts.now in
    let placements = c.args.placements.now in
    let f = c.function-item.result in
    let n = c.loop-function.function-index in
    let lists = c.loop-function.functions.items in
    let totals = c.loop-function.totals in
    let there : slice_get m.functions n ≡ Some f = rw (sym c.functions-function-items.ensures.list) (slice_get_read c.functions-function-items.result.now _ n f refl c.loop-function-test.true c.function-item.is) in
    let defined = sym c.is_defined.ensures ∙ c.if-is_defined.true in
    let inside : length lists < length counts = counts_inside m counts placements n f lists totals there c.loop-function.invariant c.requires.counts c.requires.placements defined in
    omega (arith, inside, c.len-place.ensures, c.loop-function.functions.ok.0)

pub bounds-placements-place : goal.bounds-placements-place
bounds-placements-place c =
    let m = c.args.program.now in
    let counts = c.args.counts.now in
    let placements = c.args.placements.now in
    let f = c.function-item.result in
    let n = c.loop-function.function-index in
    let lists = c.loop-function.functions.items in
    let totals = c.loop-function.totals in
    let there : slice_get m.functions n ≡ Some f = rw (sym c.functions-function-items.ensures.list) (slice_get_read c.functions-function-items.result.now _ n f refl c.loop-function-test.true c.function-item.is) in
    let defined = sym c.is_defined.ensures ∙ c.if-is_defined.true in
    let inside : length lists < length placements = placed_inside m counts placements n f lists totals there c.loop-function.invariant c.requires.counts c.requires.placements defined in
    omega (arith, inside, c.len-place.ensures, c.loop-function.functions.ok.0)

pub tallies_in-requires-clause-counts : goal.tallies_in-requires-clause-counts
tallies_in-requires-clause-counts c =
    let m = c.args.program.now in
    let counts = c.args.counts.now in
    let placements = c.args.placements.now in
    let f = c.function-item.result in
    let n = c.loop-function.function-index in
    let lists = c.loop-function.functions.items in
    let totals = c.loop-function.totals in
    let there : slice_get m.functions n ≡ Some f = rw (sym c.functions-function-items.ensures.list) (slice_get_read c.functions-function-items.result.now _ n f refl c.loop-function-test.true c.function-item.is) in
    let defined = sym c.is_defined.ensures ∙ c.if-is_defined.true in
    let own = c.index-counts-place.result in
    let len : c.len-place.result ≡ length lists = omega (arith, c.len-place.ensures, c.loop-function.functions.ok.0) in
    let read : own ≡ get_or counts (length lists) own = subst (λ j. own ≡ get_or counts j own) len c.index-counts-place.is in
    next_good m counts placements n f lists totals there c.loop-function.invariant c.requires.counts c.requires.placements defined own read

pub tallies_in-requires-clause-fitting : goal.tallies_in-requires-clause-fitting
tallies_in-requires-clause-fitting c =
    let m = c.args.program.now in
    let counts = c.args.counts.now in
    let placements = c.args.placements.now in
    let f = c.function-item.result in
    let n = c.loop-function.function-index in
    let lists = c.loop-function.functions.items in
    let totals = c.loop-function.totals in
    let there : slice_get m.functions n ≡ Some f = rw (sym c.functions-function-items.ensures.list) (slice_get_read c.functions-function-items.result.now _ n f refl c.loop-function-test.true c.function-item.is) in
    let defined = sym c.is_defined.ensures ∙ c.if-is_defined.true in
    let own = c.index-counts-place.result in
    let len : c.len-place.result ≡ length lists = omega (arith, c.len-place.ensures, c.loop-function.functions.ok.0) in
    let read : own ≡ get_or counts (length lists) own = subst (λ j. own ≡ get_or counts j own) len c.index-counts-place.is in
    let placed = c.as_slice-placed.result.now in
    let found = c.index-placements-place.result in
    let read_found : found ≡ get_or placements (length lists) found = subst (λ j. found ≡ get_or placements j found) len c.index-placements-place.is in
    let read_placed : placed ≡ get_or placements (length lists) placed = subst (λ q. q ≡ get_or placements (length lists) q) (sym c.as_slice-placed.ensures) read_found in
    next_fits m counts placements n f lists totals there c.loop-function.invariant c.requires.counts c.requires.placements defined own read placed read_placed

pub over-requires : goal.over-requires
over-requires c =
    let m = c.args.program.now in
    let counts = c.args.counts.now in
    let placements = c.args.placements.now in
    let f = c.function-item.result in
    let n = c.loop-function.function-index in
    let lists = c.loop-function.functions.items in
    let totals = c.loop-function.totals in
    let there : slice_get m.functions n ≡ Some f = rw (sym c.functions-function-items.ensures.list) (slice_get_read c.functions-function-items.result.now _ n f refl c.loop-function-test.true c.function-item.is) in
    let defined = sym c.is_defined.ensures ∙ c.if-is_defined.true in
    let own = c.index-counts-place.result in
    let len : c.len-place.result ≡ length lists = omega (arith, c.len-place.ensures, c.loop-function.functions.ok.0) in
    let read : own ≡ get_or counts (length lists) own = subst (λ j. own ≡ get_or counts j own) len c.index-counts-place.is in
    let placed = c.as_slice-placed.result.now in
    let found = c.index-placements-place.result in
    let read_found : found ≡ get_or placements (length lists) found = subst (λ j. found ≡ get_or placements j found) len c.index-placements-place.is in
    let read_placed : placed ≡ get_or placements (length lists) placed = subst (λ q. q ≡ get_or placements (length lists) q) (sym c.as_slice-placed.ensures) read_found in
    rw c.deref.ensures.value (room_last m counts placements n f lists totals there c.loop-function.invariant c.requires.counts c.requires.placements defined own read placed read_placed c.in_ok-tallies.tallies.items c.in_ok-tallies.ensures.tallies c.in_ok-tallies.ensures.light)

pub plus-totals-requires : goal.plus-totals-requires
plus-totals-requires c =
    let m = c.args.program.now in
    let counts = c.args.counts.now in
    let placements = c.args.placements.now in
    let f = c.function-item.result in
    let n = c.loop-function.function-index in
    let lists = c.loop-function.functions.items in
    let totals = c.loop-function.totals in
    let there : slice_get m.functions n ≡ Some f = rw (sym c.functions-function-items.ensures.list) (slice_get_read c.functions-function-items.result.now _ n f refl c.loop-function-test.true c.function-item.is) in
    let defined = sym c.is_defined.ensures ∙ c.if-is_defined.true in
    let own = c.index-counts-place.result in
    let len : c.len-place.result ≡ length lists = omega (arith, c.len-place.ensures, c.loop-function.functions.ok.0) in
    let read : own ≡ get_or counts (length lists) own = subst (λ j. own ≡ get_or counts j own) len c.index-counts-place.is in
    let placed = c.as_slice-placed.result.now in
    let found = c.index-placements-place.result in
    let read_found : found ≡ get_or placements (length lists) found = subst (λ j. found ≡ get_or placements j found) len c.index-placements-place.is in
    let read_placed : placed ≡ get_or placements (length lists) placed = subst (λ q. q ≡ get_or placements (length lists) q) (sym c.as_slice-placed.ensures) read_found in
    let few : length lists < 2 ^ 64 = omega (arith, len) in
    rw (c.over.ensures, c.deref.ensures.value) (room m counts placements n f lists totals there c.loop-function.invariant c.requires.counts c.requires.placements defined own read placed read_placed c.in_ok-tallies.tallies.items c.in_ok-tallies.ensures.tallies c.in_ok-tallies.ensures.light few)

pub loop-function-preserved : goal.loop-function-preserved
loop-function-preserved c =
    let m = c.args.program.now in
    let counts = c.args.counts.now in
    let placements = c.args.placements.now in
    let f = c.function-item.result in
    let n = c.loop-function.function-index in
    let lists = c.loop-function.functions.items in
    let totals = c.loop-function.totals in
    let there : slice_get m.functions n ≡ Some f = rw (sym c.functions-function-items.ensures.list) (slice_get_read c.functions-function-items.result.now _ n f refl c.loop-function-test.true c.function-item.is) in
    elim c.if-is_defined.branch [
      | then-is_defined+in_ok-tallies+in_ok-push w ↦
          let defined = sym c.is_defined.ensures ∙ w.if-is_defined.true in
          let own = w.index-counts-place.result in
          let len : w.len-place.result ≡ length lists = omega (arith, w.len-place.ensures, c.loop-function.functions.ok.0) in
          let read : own ≡ get_or counts (length lists) own = subst (λ j. own ≡ get_or counts j own) len w.index-counts-place.is in
          let placed = w.as_slice-placed.result.now in
          let found = w.index-placements-place.result in
          let read_found : found ≡ get_or placements (length lists) found = subst (λ j. found ≡ get_or placements j found) len w.index-placements-place.is in
          let read_placed : placed ≡ get_or placements (length lists) placed = subst (λ q. q ≡ get_or placements (length lists) q) (sym w.as_slice-placed.ensures) read_found in
          rw (w.functions-is, w.totals-is, w.in_ok-push.ensures.items, w.from.ensures)
          (one_more_tallied m counts placements n f lists totals there c.loop-function.invariant c.requires.counts c.requires.placements defined own read placed read_placed w.in_ok-tallies.tallies.items w.in_ok-tallies.ensures.tallies w.in_ok-tallies.ensures.light
          w.plus-totals.result (w.plus-totals.ensures ∙ ap (plus totals) (w.over.ensures ∙ ap totals_in w.deref.ensures.value)))
      | else-is_defined w ↦ rw (w.functions-is, w.totals-is) (none_more_tallied m counts placements n f lists totals there c.loop-function.invariant (sym c.is_defined.ensures ∙ w.if-is_defined.false))
    ]

pub returns-clause-tallies : goal.returns-clause-tallies
returns-clause-tallies c =
    let list = c.functions-function-items.ensures.list in
    let past : length c.args.program.now.functions ≤ c.loop-function.function-index = omega (arith, ap length list, c.loop-function-test.false) in
    let within : c.loop-function.function-index ≤ length c.args.program.now.functions = omega (arith, ap length list, c.loop-function.auto.function-index-end) in
    all_tallied c.args.program.now c.args.counts.now c.args.placements.now c.loop-function.function-index c.loop-function.functions.items c.loop-function.totals past within c.loop-function.invariant
