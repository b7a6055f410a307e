-- A maximum flow of the needed part of the block network of an expression is one of the whole.
use Rattle.std.proofs.Common.{◌≡◌, ◌<◌, ◌≤◌, ◌+◌, ◌*◌, ◌↔◌, not, ℕ, suc, zero, Bool, true, false, List, length, get_or, Some, refl, sym, ap, ◌∙◌, subst, inl, inr, arith}
use Rattle.std.specs.Prelude.{slice_get, filter, Contains}
use Rattle.std.specs.List.{AllByRecursion, AllZip, range_with_len}
use Rattle.std.proofs.lemmas.Bool.{cases_Bool, and_parts, and_from}
use Rattle.std.proofs.lemmas.List.Elements.{All-from_recursion}
use Rattle.std.proofs.lemmas.Option.{same_Some, slice_get-get_or}
use Rattle.ir_types.specs.declared.syntax.Function.{Function}
use Rattle.point_graph.specs.declared.graph.Points.{Points}
use Rattle.expressions.specs.declared.syntax.Event.{Event}
use Rattle.expressions.specs.Kept.{Kept}
use Rattle.expressions.specs.Tables.{IsEventOf}
use Rattle.profile.specs.declared.counts.FnCounts.{FnCounts}
use Rattle.flow_net.specs.declared.Arc.{Arc}
use Rattle.flow_net.specs.declared.Net.{Net}
use Rattle.flow_net.specs.declared.Flow.{Flow}
use Rattle.flow_net.specs.Network.{IsMaximum, loads}
use Rattle.local_sets.specs.declared.flags.Reach.{Reach}
use Rattle.local_sets.specs.Reaching.{IsAvailable, IsWanted}
use Rattle.best_placement.specs.Blocks as graphs
use Rattle.best_placement.specs.Reduction.{Splits}
use Rattle.best_placement.specs.Laws.{ExpressionGraph, IsExpressionGraph, IsBlockNetwork}
use Rattle.best_placement.proofs.Lists.{each_both, each_weaker}
use Rattle.function_graphs.specs.Graphs.{graph_of, IsIn}
use Rattle.function_graphs.proofs.Suiting.{all_laid, functions_have_graphs}
use Rattle.reduction.specs.declared.reducing.Reduced.{Reduced}
use Rattle.reduction.specs.Reduced.{IsReduced, Stands, is_flagged, is_needed, is_needed_arc, joins_needed}
use Rattle.reduced_flows.specs.Flows.{IsReachOf, IsSpread, ReducedFlowsAreMaximum}
use Rattle.reduced_flows.proofs.Merged.{Beside, Merges, merges_from}
use Rattle.reduced_flows.proofs.Named.{AreNamed, are_named}
use Rattle.reduced_flows.proofs.Maximum.{is_maximum}
use Rattle.reduced_flows.proofs.Flagged.{part, free, splits, needed_part, are_events, AreFlagged, flagged_from}
use Rattle.reduced_flows.proofs.Along.{AreEvents}
use Rattle.reduced_flows.proofs.Splitting as splitting

-- ---- the nodes

module _ (f : Function) (p : Points) (t : Kept) (e : ℕ) (c : FnCounts) (reached : ℕ → Bool) (event : ℕ → Event) (is : IsIn f p t e reached event) (reach : Reach) (told : IsReachOf f p t e reach) where
  abbrev g : ExpressionGraph
  g = graph_of f p c reached event

  abbrev Is : ℕ → Event → Type 0
  Is v k = IsEventOf f p t e v k

  graph : IsExpressionGraph g
  graph = functions_have_graphs f p t e c reached event is

  events : AreEvents Is event
  events = are_events f p t e event is.events

  abbrev IsNode : ℕ → ℕ → Type 0
  IsNode node point = splitting.IsTold g graph Is events (part reach) (free reach) (splits reach) node point

  node_told : (v node point : ℕ) → node ≡ suc (suc v) → (is_flagged reach.available.items v ≡ true) ↔ IsAvailable g.arcs Is point → (is_flagged reach.wanted.items v ≡ true) ↔ IsWanted g.arcs Is point → IsNode node point
  node_told v node point at available wanted = record {
    free_is = (λ h. available.0 (sym (ap (free reach) at) ∙ h), λ h. ap (free reach) at ∙ available.1 h);
    part_wanted = λ h. wanted.0 (and_parts (is_flagged reach.wanted.items v) (not (is_flagged reach.available.items v)) (sym (ap (part reach) at) ∙ h)).0;
    wanted_part = λ w. elim (cases_Bool (is_flagged reach.available.items v)) [
      | inl there ↦ inr (ap (free reach) at ∙ there)
      | inr absent ↦ inl (ap (part reach) at ∙ and_from (is_flagged reach.wanted.items v) (not (is_flagged reach.available.items v)) (wanted.1 w) (ap not absent))
    ];
  }

  abbrev AreNodes : graphs.Block → Type 0
  AreNodes b = splitting.AreTold g graph Is events (part reach) (free reach) (splits reach) b

  all_told : AllByRecursion AreNodes g.blocks
  all_told =
      let A : graphs.Block → Type 0 = AreFlagged f p c reached (IsAvailable g.arcs Is) reach.available.items in
      let W : graphs.Block → Type 0 = AreFlagged f p c reached (IsWanted g.arcs Is) reach.wanted.items in
      let start = λ (flags : List Bool) (k : ℕ). (let none : 2 * 0 + k ≡ k = omega arith in ap (λ i. get_or flags i false) none) in
      each_weaker (λ b. A b × W b) AreNodes
      (λ b h. (
        node_told (2 * b.index) (2 + 2 * b.index) b.head (omega arith) h.0.0 h.1.0,
        node_told (2 * b.index + 1) (3 + 2 * b.index) b.terminator (omega arith) h.0.1 h.1.1,
      )) g.blocks
      (each_both A W g.blocks
      (flagged_from f p c reached (IsAvailable g.arcs Is) reach.available.items 0 1 1 p.blocks reach.available.items (all_laid f p t e c reached event is) told.available (start reach.available.items))
      (flagged_from f p c reached (IsWanted g.arcs Is) reach.wanted.items 0 1 1 p.blocks reach.wanted.items (all_laid f p t e c reached event is) told.wanted (start reach.wanted.items)))

  abbrev pub IsSound : Arc → Type 0
  IsSound a = Splits (part reach) (free reach) a × (a.to ≡ 0 → ⊥)

  pub all_sound : (net : Net) → IsBlockNetwork g net → AllByRecursion IsSound net.arcs.items
  all_sound net n = subst (λ arcs. AllByRecursion IsSound arcs) (sym n.arcs)
      (splitting.network_sound g graph Is events (part reach) (free reach) (splits reach) (All-from_recursion AreNodes g.blocks all_told))

-- ---- the arcs

module _ (net : Net) (reach : Reach) (reduced : Reduced) (is : IsReduced net reach reduced) where
  pub nodes_named : AreNamed (is_needed reach) 0 net.nodes reduced.node_of.items
  nodes_named = subst (λ list. AreNamed (is_needed reach) 0 net.nodes list) (sym is.node_of) (are_named (is_needed reach) 0 net.nodes net.nodes (omega arith))

  -- each arc of the part is named once
  pub arcs_named : AreNamed (is_needed_arc reach net.arcs.items) 0 (length net.arcs.items) reduced.arc_of.items
  arcs_named = subst (λ list. AreNamed (is_needed_arc reach net.arcs.items) 0 (length net.arcs.items) list) (sym is.arc_of) (are_named (is_needed_arc reach net.arcs.items) 0 (length net.arcs.items) (length net.arcs.items) (omega arith))

  unneeded : (k : ℕ) → is_needed_arc reach net.arcs.items k ≡ false → ¬ Contains reduced.arc_of.items k
  unneeded k fails at =
      let there = slice_get-get_or reduced.arc_of.items at.0 k at.1 ∙ ap (λ x. Some x) at.2 in
      let passes : is_needed_arc reach net.arcs.items k ≡ true = (arcs_named.pass at.0 k there).2 in
      cc

  two_first : (n : ℕ) → 2 ≤ n → (slice_get (filter (is_needed reach) (range_with_len 0 n)) 0 ≡ Some 0) × (slice_get (filter (is_needed reach) (range_with_len 0 n)) 1 ≡ Some 1)
  two_first zero two = absurd (omega (arith, two))
  two_first (suc zero) two = absurd (omega (arith, two))
  two_first (suc (suc n)) two = (refl, refl)

  pub front : 2 ≤ net.nodes → (slice_get reduced.node_of.items 0 ≡ Some 0) × (slice_get reduced.node_of.items 1 ≡ Some 1)
  front two = subst (λ list. (slice_get list 0 ≡ Some 0) × (slice_get list 1 ≡ Some 1)) (sym is.node_of) (two_first net.nodes two)

  beside : (k : ℕ) (a b : Arc) → Stands net.arcs.items reduced.node_of.items k b → slice_get net.arcs.items k ≡ Some a → Beside reduced.node_of.items a b
  beside k a b s there =
      let same : s.arc ≡ a = same_Some s.arc a (sym s.there ∙ there) in
      record { from = s.from ∙ ap (λ (x : Arc). Some x.from) same; to = s.to ∙ ap (λ (x : Arc). Some x.to) same; cap = s.cap ∙ ap (λ (x : Arc). x.cap) same }

  pub merged : (small flow : Flow) → IsMaximum reduced.net small → IsSpread (length net.arcs.items) reduced.arc_of.items small.amounts.items flow.amounts.items → Merges reduced.node_of.items (joins_needed reach) (loads net flow) (loads reduced.net small)
  merged small flow max spread =
      merges_from reduced.node_of.items (joins_needed reach) net.arcs.items flow.amounts.items (Stands net.arcs.items reduced.node_of.items) beside (λ k fails. spread.others k (unneeded k fails)) 0 net.arcs.items flow.amounts.items spread.len
      (λ i. let none : 0 + i ≡ i = omega arith in ap (slice_get net.arcs.items) none) (λ i. let none : 0 + i ≡ i = omega arith in ap (λ j. get_or flow.amounts.items j 0) none)
      reduced.net.arcs.items small.amounts.items (subst (λ list. AllZip (Stands net.arcs.items reduced.node_of.items) list reduced.net.arcs.items) is.arc_of is.arcs) max.within.len
      (subst (λ list. (i : ℕ) → i < length list → get_or flow.amounts.items (get_or list i 0) 0 ≡ get_or small.amounts.items i 0) is.arc_of spread.named)

pub reduced_flows_are_maximum : ReducedFlowsAreMaximum
reduced_flows_are_maximum f p t e c reached event net reach reduced small flow is n told r max spread =
    is_maximum net reduced.net flow small (is_needed reach) (part reach) (free reach) reduced.node_of.items (record {
      split = splits reach;
      sound = all_sound f p t e c reached event is reach told net n;
      ends = (refl, refl);
      others = needed_part reach;
      count = r.nodes;
      named = nodes_named net reach reduced r;
      front = front net reach reduced r (omega (arith, n.nodes));
      len = spread.len;
      merged = merged net reach reduced r small flow max spread;
    }) max
