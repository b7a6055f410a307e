-- An entry with a fault isn't good.
use Rattle.std.proofs.Common.{◌≡◌, ◌≢◌, ◌≤◌, ◌<◌, ◌+◌, ◌⊎◌, ℕ, true, List, length, zip, get_or, refl, sym, ap, ◌∙◌, subst, inl, inr, ⊎_elim, arith, All}
use Rattle.std.proofs.lemmas.Option.{same_Some, slice_get_within, slice_get-get_or}
use Rattle.std.proofs.lemmas.Bool.{cases_eq}
use Rattle.std.proofs.lemmas.Bool.Decides.{nat_tests}
use Rattle.ir_types.specs.declared.syntax.Function.{Function}
use Rattle.profile.specs.declared.counts.FnCounts.{FnCounts}
use Rattle.point_graph.specs.declared.graph.Points.{Points}
use Rattle.expressions.specs.Kept.{Kept}
use Rattle.flow_net.specs.declared.Net.{Net}
use Rattle.flow_net.specs.declared.Arc.{Arc}
use Rattle.flow_net.specs.declared.Flow.{Flow}
use Rattle.flow_net.specs.Laws.{AreFallingRanks}
use Rattle.flow_net.specs.Network.{IsWithin, ResidualArc, inflow, outflow, loads}
use Rattle.flow_check.specs.Faults.{IsAbove, RanksFall}
use Rattle.placement.specs.declared.placements.Placement.{Placement}
use Rattle.best_placement.specs.BlockNetwork.{constant}
use Rattle.best_placement.specs.Laws.{ExpressionGraph, Certifies, cost_on, ranked}
use Rattle.function_graphs.specs.Graphs.{graph_of}
use Rattle.certificate.specs.declared.types.Entry.{Entry}
use Rattle.certified.specs.Entries.{IsGood, IsPlain, rank_in, Shows}
use Rattle.entry_check.specs.declared.fault.Fault.{Fault}
use Rattle.entry_check.specs.declared.fault.Fault.TheVariants.{Lists, Missing, Incorrect, Unsafe, Capacity, Balance, Value, Rank, Places}
use Rattle.entry_check.specs.Faults.{FailsBy, HasFailure, InNetwork, IsFault, IsWhole}
use Rattle.entry_check.proofs.Networks.{HasGraph}

-- ---- what certifies fails nowhere

module _ (rank : ℕ → ℕ) (source : rank 0 ≡ 0) (sink : rank 1 ≡ 0) where
  -- a node of a rank above 0 is ranked, and isn't the sink
  pub on_ranked : (v : ℕ) → 0 < rank v → ranked rank v ≡ true
  on_ranked v on = grind (arith, nat_tests)

  pub off_sink : (v : ℕ) → 0 < rank v → v ≢ 1
  off_sink v on same = let r : rank v ≡ 0 = ap rank same ∙ sink in omega arith

  -- a ranked node that isn't the sink has a rank above 0
  pub above_zero : (v : ℕ) → ranked rank v ≡ true → v ≢ 1 → 0 < rank v
  above_zero v on other = grind (arith, nat_tests)

  lower_from : (v w : ℕ) → (w ≡ 1) ⊎ ((ranked rank w ≡ true) × (rank w < rank v)) → (w ≡ 1) ⊎ ((0 < rank w) × (rank w < rank v))
  lower_from v w (inl same) = inl same
  lower_from v w (inr h) = ⊎_elim (λ (same : w ≡ 1). inl same) (λ (other : w ≡ 1 → ⊥). inr (above_zero w h.0 other, h.1)) (cases_eq w 1)

  lower_to : (v w : ℕ) → (w ≡ 1) ⊎ ((0 < rank w) × (rank w < rank v)) → (w ≡ 1) ⊎ ((ranked rank w ≡ true) × (rank w < rank v))
  lower_to v w (inl same) = inl same
  lower_to v w (inr h) = inr (on_ranked w h.0, h.1)

  module _ (net : Net) (flow : Flow) where
    pub falls_from : AreFallingRanks net flow (ranked rank) rank → RanksFall net flow rank
    falls_from h v on = let here = h v (on_ranked v on) (off_sink v on) in (here.0, here.1, lower_from v here.0 here.2)

    pub falls_to : RanksFall net flow rank → AreFallingRanks net flow (ranked rank) rank
    falls_to h v on other = let here = h v (above_zero v on other) in (here.0, here.1, lower_to v here.0 here.2)

within_not_above : (net : Net) (flow : Flow) (k : ℕ) → IsWithin net flow → IsAbove net flow k → ⊥
within_not_above net flow k w a =
    let inside : k < length (loads net flow) = slice_get_within (loads net flow) k a.load a.there in
    let read : get_or (loads net flow) k a.load ≡ a.load = same_Some _ _ (sym (slice_get-get_or (loads net flow) k a.load inside) ∙ a.there) in
    let below : (get_or (loads net flow) k a.load).1 ≤ (get_or (loads net flow) k a.load).0.cap = w.below k a.load inside in
    let at : a.load.1 ≤ a.load.0.cap = subst (λ (l : Arc × ℕ). l.1 ≤ l.0.cap) read below in
    let above : a.load.0.cap < a.load.1 = a.above in
    omega arith

pub not_both : (g : ExpressionGraph) (net : Net) (flow : Flow) (rank : ℕ → ℕ) (placement : Placement) → rank 1 ≡ 0 → Certifies g net flow rank placement → (fault : Fault) → FailsBy g net flow rank placement fault → ⊥
not_both g net flow rank placement sink c Lists h = absurd h
not_both g net flow rank placement sink c Missing h = absurd h
not_both g net flow rank placement sink c (Incorrect point) h = absurd h
not_both g net flow rank placement sink c (Unsafe edge) h = absurd h
not_both g net flow rank placement sink c (Capacity arc) h = within_not_above net flow arc c.within h.is_above
not_both g net flow rank placement sink c (Balance node) h = h.1.unbalanced (c.balanced node h.1.inner h.1.node)
not_both g net flow rank placement sink c (Value cost sum) h = h.4 (h.2 ∙ sym c.value ∙ sym h.3)
not_both g net flow rank placement sink c (Rank node) h = h.3.stuck (falls_from rank c.source sink net flow c.falls node h.3.ranked)
not_both g net flow rank placement sink c Places h = h.4 c.read

-- ---- the flow and the ranks are those of the entry

module _ (g : ExpressionGraph) (net : Net) (placement : Placement) (flow other : Flow) (same : flow.amounts.items ≡ other.amounts.items) (rank : ℕ → ℕ) where
  certifies_too : Certifies g net flow rank placement → Certifies g net other rank placement
  certifies_too c = record {
    source = c.source;
    read = c.read;
    within = record {
      len = sym (ap length same) ∙ c.within.len;
      below = subst (λ (l : List ℕ). All (λ (a : Arc × ℕ). a.1 ≤ a.0.cap) (zip net.arcs.items l)) same c.within.below;
    };
    balanced = λ v low lt. subst (λ (l : List ℕ). inflow (zip net.arcs.items l) v ≡ outflow (zip net.arcs.items l) v) same (c.balanced v low lt);
    value = subst (λ (l : List ℕ). outflow (zip net.arcs.items l) 0 + constant g.event g.blocks ≡ cost_on g placement) same c.value;
    falls = λ v on off. let here = c.falls v on off in (here.0, subst (λ (l : List ℕ). ResidualArc (zip net.arcs.items l) v here.0) same here.1, here.2);
  }

pub shown_not_failed : (g : ExpressionGraph) (net : Net) (entry : Entry) (fault : Fault) → Shows g net entry → HasFailure g net entry fault → ⊥
shown_not_failed g net entry fault s h =
    let amounts : s.flow.amounts.items ≡ h.flow.amounts.items = same_Some _ _ (sym s.has.flow_there ∙ h.has.flow_there) in
    let ranks : s.ranks ≡ h.ranks = same_Some _ _ (sym s.has.ranks_there ∙ h.has.ranks_there) in
    let certified : Certifies g net s.flow (rank_in h.ranks) entry.placement = subst (λ (r : List ℕ). Certifies g net s.flow (rank_in r) entry.placement) ranks s.certifies in
    not_both g net h.flow (rank_in h.ranks) entry.placement refl (certifies_too g net entry.placement s.flow h.flow amounts (rank_in h.ranks) certified) fault h.fails

-- ---- the faults of an entry

module _ (f : Function) (p : Points) (t : Kept) (counts : FnCounts) (x : ℕ) (entry : Entry) (graph : HasGraph f p t x) (good : IsGood f p t counts x entry) where
  not_failed : (fault : Fault) → IsPlain t x → InNetwork (λ g net. HasFailure g net entry fault) f p t counts x → ⊥
  not_failed fault plain h =
      let here = good.certifies plain in
      let network = here.network graph.reached graph.event graph.is in
      shown_not_failed (graph_of f p counts graph.reached graph.event) here.net entry fault (here.shows graph.reached graph.event graph.is) (h graph.reached graph.event here.net graph.is network)

  not_missing : IsPlain t x → InNetwork (λ g net. ¬ (IsWhole net entry)) f p t counts x → ⊥
  not_missing plain h =
      let here = good.certifies plain in
      let network = here.network graph.reached graph.event graph.is in
      let shows = here.shows graph.reached graph.event graph.is in
      h graph.reached graph.event here.net graph.is network (shows.flow, shows.ranks, shows.has)

  pub not_good : (fault : Fault) → IsFault f p t counts x entry fault → ⊥
  not_good Lists h = h good.listed
  not_good Missing h = not_missing h.1 h.2
  not_good (Incorrect point) h = h.2.is_invalid.invalid (good.correct point h.2.is_invalid.path h.2.is_invalid.deleted h.2.is_invalid.leads)
  not_good (Unsafe edge) h = h.3.unsafe (good.safe h.1 edge h.3.inserted)
  not_good (Capacity arc) h = not_failed (Capacity arc) h.1 h.3
  not_good (Balance node) h = not_failed (Balance node) h.1 h.3
  not_good (Value cost sum) h = not_failed (Value cost sum) h.1 h.3
  not_good (Rank node) h = not_failed (Rank node) h.1 h.3
  not_good Places h = not_failed Places h.1 h.3
