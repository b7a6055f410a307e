use Rattle.std.proofs.Common.{◌≡◌, ◌<◌, ◌+◌, None, Some, arith, length, refl, sym}
use Rattle.std.proofs.lemmas.List.{length-map, length_push}
use Rattle.std.proofs.lemmas.Result.{on_ok_weaker}
use Rattle.dataflow.proofs.Walks.{Walking-taken, Walking-left, taken_below, fewer_ends}
use Rattle.dataflow.proofs.order.Walk.step.Goals as goal

pub enter-requires-clause-node : goal.enter-requires-clause-node
enter-requires-clause-node c =
    let inside : c.args.node < length c.args.self.now.ends.items = omega (arith, c.requires.node, c.requires.walking.lists, length-map c.args.self.now.ends.items (λ list. list.items)) in
    taken_below (λ list. list.items) c.args.self.now.ends.items c.args.node c.index_mut.result.now c.pop.new.self (Some c.in-Some.end) inside (sym c.index_mut.ensures.value) c.in-Some.ensures.items
    c.args.self.now.entered.items _ _ c.in-Some.end refl c.requires.walking

pub enter-requires-clause-walking : goal.enter-requires-clause-walking
enter-requires-clause-walking c =
    let inside : c.args.node < length c.args.self.now.ends.items = omega (arith, c.requires.node, c.requires.walking.lists, length-map c.args.self.now.ends.items (λ list. list.items)) in
    rw c.in_ok-push-in-Some.ensures.items
    (Walking-taken (λ list. list.items) c.args.self.now.ends.items c.args.node c.index_mut.result.now c.pop.new.self (Some c.in-Some.end) inside (sym c.index_mut.ensures.value) c.in-Some.ensures.items
    c.args.self.now.entered.items _ _ c.requires.walking)

pub returns-in_ok-push-in-Some-clause-work : goal.returns-in_ok-push-in-Some-clause-work
returns-in_ok-push-in-Some-clause-work c =
    let inside : c.args.node < length c.args.self.now.ends.items = omega (arith, c.requires.node, c.requires.walking.lists, length-map c.args.self.now.ends.items (λ list. list.items)) in
    let fewer = fewer_ends (λ list. list.items) c.args.self.now.ends.items c.args.node c.index_mut.result.now c.pop.new.self (Some c.in-Some.end) inside (sym c.index_mut.ensures.value) c.in-Some.ensures.items in
    let more : length c.push.new.self.items ≡ length c.args.self.now.path.items + 1 = rw c.in_ok-push-in-Some.ensures.items (length_push c.args.self.now.path.items c.args.node) in
    on_ok_weaker c.enter.result (λ h. omega (arith, h, fewer, more)) c.enter.ensures.work

pub returns-in_ok-push-in-None-clause-walking : goal.returns-in_ok-push-in-None-clause-walking
returns-in_ok-push-in-None-clause-walking c =
    let inside : c.args.node < length c.args.self.now.ends.items = omega (arith, c.requires.node, c.requires.walking.lists, length-map c.args.self.now.ends.items (λ list. list.items)) in
    rw c.in_ok-push-in-None.ensures.items
    (Walking-left _ _ _ _ c.args.node
    (Walking-taken (λ list. list.items) c.args.self.now.ends.items c.args.node c.index_mut.result.now c.pop.new.self None inside (sym c.index_mut.ensures.value) c.in-None.ensures.items
    c.args.self.now.entered.items _ _ c.requires.walking))

pub returns-in_ok-push-in-None-clause-work : goal.returns-in_ok-push-in-None-clause-work
returns-in_ok-push-in-None-clause-work c =
    let inside : c.args.node < length c.args.self.now.ends.items = omega (arith, c.requires.node, c.requires.walking.lists, length-map c.args.self.now.ends.items (λ list. list.items)) in
    let fewer = fewer_ends (λ list. list.items) c.args.self.now.ends.items c.args.node c.index_mut.result.now c.pop.new.self None inside (sym c.index_mut.ensures.value) c.in-None.ensures.items in
    omega (arith, fewer)
