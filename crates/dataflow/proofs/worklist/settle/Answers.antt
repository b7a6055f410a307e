use Rattle.std.proofs.Common.{◌≡◌, ◌<◌, ◌∙◌, All, Contains, length, get_or, set, arith, subst, sym, ap, Some, get_or-set_same}
use Rattle.std.proofs.lemmas.List.{get_or_default}
use Rattle.std.proofs.lemmas.List.Elements.{All-pop}
use Rattle.dataflow.specs.Meeting.{MetEnds}
use Rattle.dataflow.proofs.Settling.{Settling, Settling-start, Settling-work, settled, across, leaving_alike}
use Rattle.dataflow.specs.FixedPoints.{ends_from}
use Rattle.dataflow.proofs.Ends.{ends_at, ends_within}
use Rattle.dataflow.proofs.worklist.settle.Goals as goal

pub loop-node-init : goal.loop-node-init
loop-node-init g c = record {
  settling = λ d. Settling-start g.met.V.Meet.laws (g.met.T.Transfer.laws c.args.transfer.now) c.args.graph.now.arcs.items (length c.args.entry.now) c.requires.within
      (λ n. get_or c.args.entry.now n d) (c.requires.entries_alike d) (c.requires.knows d) (λ n. get_or c.args.exit.now n d) (λ n. ¬ Contains c.in_ok-pending.pending.items n) (λ n h q. q (c.in_ok-pending.ensures.each n (omega (arith, h, c.requires.nodes)))) (c.requires.exits_alike d);
  nodes = subst (λ k. All (λ n. n < k) c.in_ok-pending.pending.items) (sym c.requires.nodes) c.in_ok-pending.ensures.below;
}

pub leave-requires-clause-knows : goal.leave-requires-clause-knows
leave-requires-clause-knows g c =
    let popped = All-pop (λ n. n < length c.args.entry.now) _ _ (Some c.in-Some.node) c.in-Some.ensures.items c.loop-node.invariant.nodes in
    let d = c.index-entry-node.result in
    c.requires.knows d c.in-Some.node _ popped.1 ((c.loop-node.invariant.settling d).alike c.in-Some.node popped.1)

pub leave-requires-clause-alike : goal.leave-requires-clause-alike
leave-requires-clause-alike g c =
    let popped = All-pop (λ n. n < length c.args.entry.now) _ _ (Some c.in-Some.node) c.in-Some.ensures.items c.loop-node.invariant.nodes in
    let d = c.index-entry-node.result in
    let s = c.loop-node.invariant.settling d in
    let inside : c.in-Some.node < length c.loop-node.exit = omega (arith, popped.1, c.loop-node.auto.exit, c.requires.same) in
    subst (λ x. g.V.Meet.Alike x (get_or c.loop-node.entry c.in-Some.node d)) (get_or_default c.loop-node.exit c.in-Some.node d c.index-exit-node.result inside)
    (g.met.V.Meet.laws.on _ _ _ (s.exit_alike c.in-Some.node popped.1) (g.met.V.Meet.laws.back _ _ (s.alike c.in-Some.node popped.1)))

pub index-requires : goal.index-requires
index-requires g c =
    let popped = All-pop (λ n. n < length c.args.entry.now) _ _ (Some c.in-Some.node) c.in-Some.ensures.items c.loop-node.invariant.nodes in
    omega (arith, popped.1, c.in_ok-ends.ensures.each, c.requires.nodes, c.in_ok-ends.ends.ok.0)

pub meet_ends-requires-clause-within : goal.meet_ends-requires-clause-within
meet_ends-requires-clause-within g c =
    let popped = All-pop (λ n. n < length c.args.entry.now) _ _ (Some c.in-Some.node) c.in-Some.ensures.items c.loop-node.invariant.nodes in
    let ends : c.deref-in-Some.result.now ≡ ends_from c.args.graph.now.arcs.items c.in-Some.node =
    ends_at (λ list. list.items) c.in_ok-ends.ends.items c.in-Some.node c.index.result.now c.deref-in-Some.result.now (ends_from c.deref.result.now c.in-Some.node)
    (omega (arith, popped.1, c.in_ok-ends.ensures.each, c.requires.nodes)) c.index.ensures c.deref-in-Some.ensures.value
    (c.in_ok-ends.ensures.ends c.in-Some.node (omega (arith, popped.1, c.requires.nodes)))
    ∙ ap (λ arcs. ends_from arcs c.in-Some.node) c.deref.ensures.value in
    subst (λ k. All (λ n. n < k) c.deref-in-Some.result.now) (sym c.loop-node.auto.entry)
    (subst (All (λ n. n < length c.args.entry.now)) (sym ends) (ends_within c.args.graph.now.arcs.items (length c.args.entry.now) c.in-Some.node c.requires.within))

pub meet_ends-requires-clause-alike : goal.meet_ends-requires-clause-alike
meet_ends-requires-clause-alike g c d n h =
    let popped = All-pop (λ n. n < length c.args.entry.now) _ _ (Some c.in-Some.node) c.in-Some.ensures.items c.loop-node.invariant.nodes in
    let s = c.loop-node.invariant.settling d in
    let node_in : c.in-Some.node < length c.loop-node.entry = omega (arith, popped.1, c.loop-node.auto.entry) in
    let n_in : n < length c.args.entry.now = omega arith in
    let left : c.leave.new.exit ≡ g.T.Transfer.leaving c.args.transfer.now c.in-Some.node (get_or c.loop-node.entry c.in-Some.node d) =
    c.leave.ensures.leaving ∙ ap (g.T.Transfer.leaving c.args.transfer.now c.in-Some.node) (get_or_default c.loop-node.entry c.in-Some.node c.index-entry-node.result d node_in) in
    across g.met.V.Meet.laws (g.met.T.Transfer.laws c.args.transfer.now) c.args.graph.now.arcs.items (length c.args.entry.now) c.requires.within
    (λ n. get_or c.args.entry.now n d) (c.requires.entries_alike d) (c.requires.knows d) n c.in-Some.node _ _ n_in popped.1
    (s.alike n n_in)
    (subst (λ x. g.V.Meet.Alike x (get_or c.args.entry.now c.in-Some.node d)) (sym left)
    (leaving_alike g.met.V.Meet.laws (g.met.T.Transfer.laws c.args.transfer.now) c.args.graph.now.arcs.items (length c.args.entry.now) c.requires.within
    (λ n. get_or c.args.entry.now n d) (c.requires.entries_alike d) (c.requires.knows d) c.in-Some.node _ popped.1 (s.alike c.in-Some.node popped.1)))

pub loop-node-preserved : goal.loop-node-preserved
loop-node-preserved g c =
    let popped = All-pop (λ n. n < length c.args.entry.now) _ _ (Some c.in-Some.node) c.in-Some.ensures.items c.loop-node.invariant.nodes in
    let node_in : c.in-Some.node < length c.loop-node.entry = omega (arith, popped.1, c.loop-node.auto.entry) in
    let exit_in : c.in-Some.node < length c.loop-node.exit = omega (arith, popped.1, c.loop-node.auto.exit, c.requires.same) in
    let ends : c.deref-in-Some.result.now ≡ ends_from c.args.graph.now.arcs.items c.in-Some.node =
    ends_at (λ list. list.items) c.in_ok-ends.ends.items c.in-Some.node c.index.result.now c.deref-in-Some.result.now (ends_from c.deref.result.now c.in-Some.node)
    (omega (arith, popped.1, c.in_ok-ends.ensures.each, c.requires.nodes)) c.index.ensures c.deref-in-Some.ensures.value
    (c.in_ok-ends.ensures.ends c.in-Some.node (omega (arith, popped.1, c.requires.nodes)))
    ∙ ap (λ arcs. ends_from arcs c.in-Some.node) c.deref.ensures.value in
    record {
      settling = λ d.
          let left : c.leave.new.exit ≡ g.T.Transfer.leaving c.args.transfer.now c.in-Some.node (get_or c.loop-node.entry c.in-Some.node d) =
          c.leave.ensures.leaving ∙ ap (g.T.Transfer.leaving c.args.transfer.now c.in-Some.node) (get_or_default c.loop-node.entry c.in-Some.node c.index-entry-node.result d node_in) in
          Settling-work g.met.V.Meet.laws (g.met.T.Transfer.laws c.args.transfer.now) c.args.graph.now.arcs.items (length c.args.entry.now) c.requires.within
          (λ n. get_or c.args.entry.now n d) (c.requires.entries_alike d) (c.requires.knows d)
          d c.loop-node.entry c.meet_ends.new.entry c.loop-node.exit (set c.loop-node.exit c.in-Some.node c.leave.new.exit) c.pop.new.self.items c.meet_ends.new.pending.items c.in-Some.node
          c.loop-node.auto.entry (c.loop-node.auto.exit ∙ c.requires.same) popped.1
          (subst (λ xs. Settling g.V.Meet.Alike g.V.Meet.met (g.T.Transfer.leaving c.args.transfer.now) c.args.graph.now.arcs.items (length c.args.entry.now) (λ n. get_or c.args.entry.now n d) (λ n. get_or c.loop-node.entry n d) (λ n. get_or c.loop-node.exit n d) (λ n. ¬ Contains xs n)) c.in-Some.ensures.items (c.loop-node.invariant.settling d))
          (ap (set c.loop-node.exit c.in-Some.node) left)
          (subst (λ x. MetEnds g.V.Meet.Alike g.V.Meet.met d (ends_from c.args.graph.now.arcs.items c.in-Some.node) c.loop-node.entry c.meet_ends.new.entry x c.pop.new.self.items c.meet_ends.new.pending.items (length (ends_from c.args.graph.now.arcs.items c.in-Some.node)))
          (sym (get_or-set_same c.loop-node.exit c.in-Some.node c.leave.new.exit d exit_in))
          (subst (λ xs. MetEnds g.V.Meet.Alike g.V.Meet.met d xs c.loop-node.entry c.meet_ends.new.entry c.leave.new.exit c.pop.new.self.items c.meet_ends.new.pending.items (length xs)) ends (c.in_ok-meet_ends.ensures.met d)));
      nodes = subst (λ k. All (λ n. n < k) c.meet_ends.new.pending.items) c.loop-node.auto.entry c.in_ok-meet_ends.ensures.pending;
    }

pub returns : goal.returns
returns g c d =
    settled g.met.V.Meet.laws (g.met.T.Transfer.laws c.args.transfer.now) c.args.graph.now.arcs.items (length c.args.entry.now) c.requires.within
    (λ n. get_or c.args.entry.now n d) (c.requires.entries_alike d) (c.requires.knows d)
    (λ n. get_or c.loop-node.entry n d) (λ n. get_or c.loop-node.exit n d)
    (λ n. ¬ Contains c.loop-node.pending.items n)
    (λ n h m. let k : m.0 < length c.loop-node.pending.items = m.1 in absurd (omega (arith, k, c.loop-node.pending.ok.0, c.in_default.ensures.cases.0)))
    (c.loop-node.invariant.settling d)
