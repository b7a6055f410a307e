use Rattle.std.proofs.Common.{◌<◌, ℕ, List, true, false, ◌∙◌, refl, sym, subst, arith, length, All}
use Rattle.std.proofs.lemmas.List.{length-map, get_or_read}
use Rattle.std.specs.Vec.{with_item}
use Rattle.local_sets.proofs.CountLemmas.{Counting-skip, Counting-step, counts_enough, sources_within, sources_read}
use Rattle.local_sets.proofs.counting.Search.visit.Goals as goal

pub count_all_down-requires-clause-points : goal.count_all_down-requires-clause-points
count_all_down-requires-clause-points c =
    let inside : c.args.point < length c.args.self.now.bits.items = omega (arith, c.requires.point, c.requires.counting.len) in
    let fresh = sym (get_or_read c.args.self.now.bits.items c.args.point c.index.result.now inside c.index.ensures false) ∙ c.if-not-index.true in
    let there : c.args.point < length c.args.sources.now = omega (arith, c.requires.point, c.requires.sources.len, length-map c.args.sources.now (λ list. list.items)) in
    let read = sources_read (λ list. list.items) c.args.arcs.now (length c.args.events.now) c.args.point c.args.sources.now c.index-sources-point.result c.deref.result.now there c.index-sources-point.is c.deref.ensures.value c.requires.sources in
    subst (λ (l : List ℕ). All (λ v. v < length c.args.self.now.left.items) l) (sym read)
    (sources_within c.args.arcs.now c.args.events.now c.args.point c.args.self.now fresh c.requires.counting c.requires.within)

pub count_all_down-requires-clause-left : goal.count_all_down-requires-clause-left
count_all_down-requires-clause-left c v h =
    let inside : c.args.point < length c.args.self.now.bits.items = omega (arith, c.requires.point, c.requires.counting.len) in
    let fresh = sym (get_or_read c.args.self.now.bits.items c.args.point c.index.result.now inside c.index.ensures false) ∙ c.if-not-index.true in
    let there : c.args.point < length c.args.sources.now = omega (arith, c.requires.point, c.requires.sources.len, length-map c.args.sources.now (λ list. list.items)) in
    let read = sources_read (λ list. list.items) c.args.arcs.now (length c.args.events.now) c.args.point c.args.sources.now c.index-sources-point.result c.deref.result.now there c.index-sources-point.is c.deref.ensures.value c.requires.sources in
    rw read (counts_enough c.args.arcs.now c.args.events.now c.args.point c.args.self.now fresh c.requires.counting v h)

pub returns-in_ok-count_all_down-clause-counting : goal.returns-in_ok-count_all_down-clause-counting
returns-in_ok-count_all_down-clause-counting c =
    let inside : c.args.point < length c.args.self.now.bits.items = omega (arith, c.requires.point, c.requires.counting.len) in
    let fresh = sym (get_or_read c.args.self.now.bits.items c.args.point c.index.result.now inside c.index.ensures false) ∙ c.if-not-index.true in
    let there : c.args.point < length c.args.sources.now = omega (arith, c.requires.point, c.requires.sources.len, length-map c.args.sources.now (λ list. list.items)) in
    let read = sources_read (λ list. list.items) c.args.arcs.now (length c.args.events.now) c.args.point c.args.sources.now c.index-sources-point.result c.deref.result.now there c.index-sources-point.is c.deref.ensures.value c.requires.sources in
    Counting-step c.args.arcs.now c.args.events.now c.args.point c.args.free.now c.args.self.now c.count_all_down.new.self
    (record { bits = with_item c.args.self.now.bits c.args.point true; left = c.args.self.now.left; pending = c.args.self.now.pending })
    fresh c.requires.free refl refl refl c.requires.counting
    (rw read at c.in_ok-count_all_down.ensures)
    c.requires.within

pub returns-else-not-index-clause-counting : goal.returns-else-not-index-clause-counting
returns-else-not-index-clause-counting c =
    let inside : c.args.point < length c.args.self.now.bits.items = omega (arith, c.requires.point, c.requires.counting.len) in
    let marked = sym (get_or_read c.args.self.now.bits.items c.args.point c.index.result.now inside c.index.ensures false) ∙ c.if-not-index.false in
    Counting-skip c.args.arcs.now c.args.events.now c.args.point c.args.self.now.bits.items c.args.self.now.left.items c.args.self.now.pending.items marked c.requires.counting
