use Rattle.std.proofs.Common.{◌≡◌, ◌<◌, ℕ, refl, sym, subst, ap, length, map, get_or, arith}
use Rattle.std.proofs.lemmas.List.{length-map, nil_from_length}
use Rattle.flow_paths.proofs.SearchSteps.{Searching-start, Searching-step, Searching-end, popped_inside, ends_read, ends_within}
use Rattle.flow_paths.proofs.spreading.Search.visit_all.Goals as goal

pub loop-point-init : goal.loop-point-init
loop-point-init c = Searching-start _ _ _ c.args.self.now refl c.requires.begun

pub bounds-ends-point : goal.bounds-ends-point
bounds-ends-point c =
    let inside = popped_inside _ _ _ c.loop-point.self c.pop.new.self.items c.in-Some.point c.in-Some.ensures.items c.loop-point.invariant in
    omega (arith, inside, c.loop-point.invariant.len, c.requires.ends.len, length-map c.args.ends.now (λ list. list.items))

pub reach_all-requires : goal.reach_all-requires
reach_all-requires c =
    let point = c.in-Some.point in
    let inside = popped_inside _ _ _ c.loop-point.self c.pop.new.self.items point c.in-Some.ensures.items c.loop-point.invariant in
    let there : point < length c.args.ends.now = omega (arith, inside, c.loop-point.invariant.len, c.requires.ends.len, length-map c.args.ends.now (λ list. list.items)) in
    ends_within c.args.arcs.now c.args.passes.now (length c.loop-point.self.bits.items) point c.deref.result.now
    (subst (λ n. (e : ℕ) → e < length c.args.arcs.now → ((get_or c.args.arcs.now e (0, 0)).0 < n) × ((get_or c.args.arcs.now e (0, 0)).1 < n)) (sym c.loop-point.invariant.len) c.requires.within)
    (ends_read (λ list. list.items) c.args.arcs.now c.args.passes.now _ point c.args.ends.now c.index-ends-point.result c.deref.result.now there c.index-ends-point.is c.deref.ensures.value c.requires.ends)

pub loop-point-preserved : goal.loop-point-preserved
loop-point-preserved c =
    let point = c.in-Some.point in
    let inside = popped_inside _ _ _ c.loop-point.self c.pop.new.self.items point c.in-Some.ensures.items c.loop-point.invariant in
    let there : point < length c.args.ends.now = omega (arith, inside, c.loop-point.invariant.len, c.requires.ends.len, length-map c.args.ends.now (λ list. list.items)) in
    Searching-step _ _ _ point c.deref.result.now c.loop-point.self (record { bits = c.loop-point.self.bits; pending = c.pop.new.self }) c.reach_all.new.self refl c.in-Some.ensures.items
    (ends_read (λ list. list.items) c.args.arcs.now c.args.passes.now _ point c.args.ends.now c.index-ends-point.result c.deref.result.now there c.index-ends-point.is c.deref.ensures.value c.requires.ends)
    c.in_ok-reach_all.ensures c.loop-point.invariant

pub returns-clause-spread : goal.returns-clause-spread
returns-clause-spread c = Searching-end _ _ _ c.loop-point.self (nil_from_length c.loop-point.self.pending.items (omega (arith, c.in_default.ensures.cases.0, c.loop-point.self.pending.ok.0))) c.loop-point.invariant
