-- What the checks find, as a fault of the entry, or that it is good.
use Rattle.std.proofs.Common.{◌≡◌, ◌≢◌, ◌+◌, ℕ, Bool, true, false, List, length, refl, sym, ap, ◌∙◌, subst, arith}
use Rattle.std.specs.Prelude.{slice_index_or, IfOk, IfSome, MatchOption, Option, Some, None, Result, Ok, Err}
use Rattle.std.proofs.lemmas.Bool.{false≢true, true≢false}
use Rattle.std.proofs.lemmas.Option.{same_Some}
use Rattle.ir_types.specs.declared.syntax.Function.{Function}
use Rattle.profile.specs.declared.counts.FnCounts.{FnCounts}
use Rattle.point_graph.specs.declared.graph.Points.{Points}
use Rattle.expressions.specs.declared.syntax.Event.{Event}
use Rattle.expressions.specs.Expressions.{expr_traps}
use Rattle.expressions.specs.Kept.{Kept}
use Rattle.expressions.specs.Tables.{TrapsAsTold}
use Rattle.flow_net.specs.declared.Net.{Net}
use Rattle.flow_net.specs.declared.Flow.{Flow}
use Rattle.placement.specs.Placements.{arcs_of, IsSafe}
use Rattle.expressions.specs.Tables.{IsEventOf}
use Rattle.best_placement.specs.Laws.{Certifies, ExpressionGraph, cost_on, IsReadOffOn, ranked}
use Rattle.flow_net.specs.Network.{IsWithin, IsBalanced, flow_value}
use Rattle.flow_check.specs.Faults.{RanksFall}
use Rattle.placement.specs.declared.placements.Placement.{Placement}
use Rattle.flow_graph.specs.Paths.{AreReached}
use Rattle.placement.specs.Costs.{cost_of}
use Rattle.best_placement.specs.BlockNetwork.{constant}
use Rattle.function_graphs.specs.Graphs.{PlacementsAgree, graph_of, IsIn}
use Rattle.reduction.specs.declared.building.BlockNet.{BlockNet}
use Rattle.certificate.specs.declared.types.Entry.{Entry}
use Rattle.certified.specs.Entries.{CanTrap, CertifiesIn, IsGood, IsListed, IsPlain, IsRight, rank_in}
use Rattle.entry_check.specs.declared.fault.Fault.{Fault}
use Rattle.entry_check.specs.declared.fault.Fault.TheVariants.{Lists, Missing, Incorrect, Unsafe, Capacity, Balance, Value, Rank, Places}
use Rattle.entry_check.specs.declared.shown.Shown.{Shown}
use Rattle.entry_check.specs.Faults.{CostsTheFlow, FailsBy, HasFailure, InNetwork, IsFault, IsWhole}
use Rattle.entry_check.specs.Parts.{HasPlaces, IsNetworkIn, IsPlainFault, IsShownBy, IsTrappingFault, rank_at}
use Rattle.entry_check.proofs.Networks.{HasGraph, fails_too, has_too, same_arcs, same_nodes}
use Rattle.entry_check.proofs.Refuting.{falls_to, not_good}

-- ---- what is shown has its places

pub has_places : (net : Net) (entry : Entry) (shown : Shown) → IsShownBy net entry shown → HasPlaces net shown
has_places net entry shown h = record {
  amounts = h.has.arcs;
  ranks = ap length h.ends ∙ omega (arith, h.has.nodes);
  source = rw h.ends refl;
  sink = rw h.ends refl;
}

ranks_are : (net : Net) (entry : Entry) (shown : Shown) → (h : IsShownBy net entry shown) → rank_at shown ≡ rank_in h.listed
ranks_are net entry shown h = ap (λ (l : List ℕ). λ v. slice_index_or l v 0) h.ends

-- ---- faults of an expression that can't trap

module _ (f : Function) (p : Points) (t : Kept) (counts : FnCounts) (x : ℕ) (entry : Entry) (full : BlockNet) (is : IsNetworkIn f p t counts x full) where
  pub missing : ¬ (IsWhole full.net entry) → InNetwork (λ g net. ¬ (IsWhole net entry)) f p t counts x
  missing none reached event net there network w =
      let g = graph_of f p counts reached event in
      let own = (is.each reached event there).network in
      none (w.0, w.1, has_too net full.net (same_nodes g net full.net network own) (same_arcs g net full.net network own) w.0 entry w.1 w.2)

  module _ (shown : Shown) (by : IsShownBy full.net entry shown) where
    pub whole : InNetwork (λ g net. IsWhole net entry) f p t counts x
    whole reached event net there network =
        let g = graph_of f p counts reached event in
        let own = (is.each reached event there).network in
        (shown.flow, by.listed, has_too full.net net (same_nodes g full.net net own network) (same_arcs g full.net net own network) shown.flow entry by.listed by.has)

    pub certifies_in : ((reached : ℕ → Bool) (event : ℕ → Event) → IsIn f p t x reached event → Certifies (graph_of f p counts reached event) full.net shown.flow (rank_at shown) entry.placement) → CertifiesIn f p t counts x entry
    certifies_in each = record {
      net = full.net;
      network = λ reached event there. (is.each reached event there).network;
      shows = λ reached event there. record {
        flow = shown.flow;
        ranks = by.listed;
        has = by.has;
        certifies = subst (λ (r : ℕ → ℕ). Certifies (graph_of f p counts reached event) full.net shown.flow r entry.placement) (ranks_are full.net entry shown by) (each reached event there);
      };
    }

    fails_in : (fault : Fault) → ((reached : ℕ → Bool) (event : ℕ → Event) → IsIn f p t x reached event → FailsBy (graph_of f p counts reached event) full.net shown.flow (rank_at shown) entry.placement fault)
        → InNetwork (λ g net. HasFailure g net entry fault) f p t counts x
    fails_in fault each reached event net there network =
        let g = graph_of f p counts reached event in
        let own = (is.each reached event there).network in
        let nodes = same_nodes g full.net net own network in
        let arcs = same_arcs g full.net net own network in
        record {
          flow = shown.flow;
          ranks = by.listed;
          has = has_too full.net net nodes arcs shown.flow entry by.listed by.has;
          fails = fails_too full.net net nodes arcs shown.flow g (rank_in by.listed) entry.placement fault
              (subst (λ (r : ℕ → ℕ). FailsBy g full.net shown.flow r entry.placement fault) (ranks_are full.net entry shown by) (each reached event there));
        }

    pub failed : HasGraph f p t x → IsRight f p t x entry → (fault : Fault)
        → ((reached : ℕ → Bool) (event : ℕ → Event) → IsIn f p t x reached event → FailsBy (graph_of f p counts reached event) full.net shown.flow (rank_at shown) entry.placement fault)
        → IsPlainFault f p t counts x entry fault
    failed has right Lists each = each has.reached has.event has.is
    failed has right Missing each = absurd (each has.reached has.event has.is)
    failed has right (Incorrect point) each = absurd (each has.reached has.event has.is)
    failed has right (Unsafe edge) each = each has.reached has.event has.is
    failed has right (Capacity arc) each = (right, fails_in (Capacity arc) each)
    failed has right (Balance node) each = (right, fails_in (Balance node) each)
    failed has right (Value cost sum) each = (right, fails_in (Value cost sum) each)
    failed has right (Rank node) each = (right, fails_in (Rank node) each)
    failed has right Places each = (right, fails_in Places each)

-- ---- the entry

module _ (f : Function) (p : Points) (t : Kept) (counts : FnCounts) (x : ℕ) (entry : Entry) (listed : IsListed f p t x entry) where
  module _ (told : TrapsAsTold t.exprs x false) where
    pub is_plain : IsPlain t x
    is_plain expr there = ap expr_traps (same_Some expr told.expr (sym there ∙ told.there)) ∙ sym told.test

    pub good_plain : IsRight f p t x entry × CertifiesIn f p t counts x entry → IsGood f p t counts x entry
    good_plain h = record {
      listed = listed;
      correct = h.0;
      certifies = λ _. h.1;
      safe = λ traps. absurd (false≢true (told.test ∙ traps told.expr told.there));
    }

    pub fault_plain : (fault : Fault) → IsPlainFault f p t counts x entry fault → IsFault f p t counts x entry fault
    fault_plain Lists h = absurd h
    fault_plain Missing h = (listed, is_plain, h)
    fault_plain (Incorrect point) h = (listed, (λ _. h.0), h.1)
    fault_plain (Unsafe edge) h = absurd h
    fault_plain (Capacity arc) h = (listed, is_plain, h.0, h.1)
    fault_plain (Balance node) h = (listed, is_plain, h.0, h.1)
    fault_plain (Value cost sum) h = (listed, is_plain, h.0, h.1)
    fault_plain (Rank node) h = (listed, is_plain, h.0, h.1)
    fault_plain Places h = (listed, is_plain, h.0, h.1)

  module _ (told : TrapsAsTold t.exprs x true) where
    pub can_trap : CanTrap t x
    can_trap expr there = ap expr_traps (same_Some expr told.expr (sym there ∙ told.there)) ∙ sym told.test

    not_plain : IsPlain t x → ⊥
    not_plain plain = true≢false (told.test ∙ plain told.expr told.there)

    pub good_trapping : IsRight f p t x entry × IsSafe (arcs_of p.edges) (IsEventOf f p t x) entry.placement → IsGood f p t counts x entry
    good_trapping h = record {
      listed = listed;
      correct = h.0;
      certifies = λ plain. absurd (not_plain plain);
      safe = λ _. h.1;
    }

    pub fault_trapping : (fault : Fault) → IsTrappingFault f p t x entry.placement fault → IsFault f p t counts x entry fault
    fault_trapping Lists h = absurd h
    fault_trapping Missing h = absurd h
    fault_trapping (Incorrect point) h = (listed, (λ plain. absurd (not_plain plain)), h)
    fault_trapping (Unsafe edge) h = (listed, can_trap, h.0, h.1)
    fault_trapping (Capacity arc) h = absurd h
    fault_trapping (Balance node) h = absurd h
    fault_trapping (Value cost sum) h = absurd h
    fault_trapping (Rank node) h = absurd h
    fault_trapping Places h = absurd h

-- ---- what a flow and ranks show

module _ (g : ExpressionGraph) (net : Net) (shown : Shown) (places : HasPlaces net shown) (placement : Placement) (side : List Bool) (each : (v : ℕ) → slice_index_or side v false ≡ ranked (rank_at shown) v) where
  as_ranked : (λ (v : ℕ). slice_index_or side v false) ≡ ranked (rank_at shown)
  as_ranked = λ i v. each v i

  pub read_by_ranks : IsReadOffOn g (λ v. slice_index_or side v false) placement → IsReadOffOn g (ranked (rank_at shown)) placement
  read_by_ranks read = subst (λ (nodes : ℕ → Bool). IsReadOffOn g nodes placement) as_ranked read

  pub read_by_side : IsReadOffOn g (ranked (rank_at shown)) placement → IsReadOffOn g (λ v. slice_index_or side v false) placement
  read_by_side read = subst (λ (nodes : ℕ → Bool). IsReadOffOn g nodes placement) (sym as_ranked) read

  pub certified : IsWithin net shown.flow → IsBalanced net shown.flow → CostsTheFlow g net shown.flow placement → RanksFall net shown.flow (rank_at shown) → IsReadOffOn g (λ v. slice_index_or side v false) placement
      → Certifies g net shown.flow (rank_at shown) placement
  certified within balanced costs falls read = record {
    source = places.source;
    read = read_by_ranks read;
    within = within;
    balanced = balanced;
    value = sym costs;
    falls = falls_to (rank_at shown) places.source places.sink net shown.flow falls;
  }

-- ---- what is returned

module _ (f : Function) (p : Points) (t : Kept) (counts : FnCounts) (x : ℕ) (entry : Entry) (full : BlockNet) (is : IsNetworkIn f p t counts x full) (shown : Shown) (by : IsShownBy full.net entry shown) (has : HasGraph f p t x) (right : IsRight f p t x entry) where
  pub plain_ends : {E : Type 0} (r : Result (Option Fault) E)
      → IfOk r (λ fault. (reached : ℕ → Bool) (event : ℕ → Event) → IsIn f p t x reached event → MatchOption fault (Certifies (graph_of f p counts reached event) full.net shown.flow (rank_at shown) entry.placement) (FailsBy (graph_of f p counts reached event) full.net shown.flow (rank_at shown) entry.placement))
      → IfOk r (λ fault. MatchOption fault (IsRight f p t x entry × CertifiesIn f p t counts x entry) (IsPlainFault f p t counts x entry))
  plain_ends (Ok None) each = (right, certifies_in f p t counts x entry full is shown by each)
  plain_ends (Ok (Some fault)) each = failed f p t counts x entry full is shown by has right fault each
  plain_ends (Err e) each = tt

module _ (f : Function) (p : Points) (t : Kept) (counts : FnCounts) (x : ℕ) (entry : Entry) (listed : IsListed f p t x entry) where
  pub ends_plain : {E : Type 0} (r : Result (Option Fault) E) → TrapsAsTold t.exprs x false
      → IfOk r (λ fault. MatchOption fault (IsRight f p t x entry × CertifiesIn f p t counts x entry) (IsPlainFault f p t counts x entry))
      → IfOk r (λ fault. MatchOption fault (IsGood f p t counts x entry) (IsFault f p t counts x entry))
  ends_plain (Ok None) told h = good_plain f p t counts x entry listed told h
  ends_plain (Ok (Some fault)) told h = fault_plain f p t counts x entry listed told fault h
  ends_plain (Err e) told h = tt

  pub ends_trapping : {E : Type 0} (r : Result (Option Fault) E) → TrapsAsTold t.exprs x true
      → IfOk r (λ fault. MatchOption fault (IsRight f p t x entry × IsSafe (arcs_of p.edges) (IsEventOf f p t x) entry.placement) (IsTrappingFault f p t x entry.placement))
      → IfOk r (λ fault. MatchOption fault (IsGood f p t counts x entry) (IsFault f p t counts x entry))
  ends_trapping (Ok None) told h = good_trapping f p t counts x entry listed told h
  ends_trapping (Ok (Some fault)) told h = fault_trapping f p t counts x entry listed told fault h
  ends_trapping (Err e) told h = tt

-- what has a fault isn't good
pub ends_bad : {E : Type 0} (f : Function) (p : Points) (t : Kept) (counts : FnCounts) (x : ℕ) (entry : Entry) → HasGraph f p t x → (r : Result (Option Fault) E)
    → IfOk r (λ fault. MatchOption fault (IsGood f p t counts x entry) (IsFault f p t counts x entry))
    → IfOk r (λ fault. IfSome fault (λ _. ¬ (IsGood f p t counts x entry)))
ends_bad f p t counts x entry has (Ok None) h = tt
ends_bad f p t counts x entry has (Ok (Some fault)) h = λ good. not_good f p t counts x entry has good fault h
ends_bad f p t counts x entry has (Err e) h = tt

-- ---- costs on the graph

module _ (f : Function) (p : Points) (t : Kept) (counts : FnCounts) (x : ℕ) (full : BlockNet) (is : IsNetworkIn f p t counts x full) (agree : PlacementsAgree) (placement : Placement) (flow : Flow) where
  pub costs_the_flow : ((reached : ℕ → Bool) → AreReached f reached → cost_of f counts reached p placement ≡ flow_value full.net flow + full.constant)
      → (reached : ℕ → Bool) (event : ℕ → Event) → IsIn f p t x reached event → CostsTheFlow (graph_of f p counts reached event) full.net flow placement
  costs_the_flow equal reached event there =
      (agree f p t x counts reached event placement there).cost ∙ equal reached there.blocks ∙ ap (λ k. flow_value full.net flow + k) (is.each reached event there).paid

  pub cost_is : (cost : ℕ) → ((reached : ℕ → Bool) → AreReached f reached → cost ≡ cost_of f counts reached p placement)
      → (reached : ℕ → Bool) (event : ℕ → Event) → IsIn f p t x reached event → cost ≡ cost_on (graph_of f p counts reached event) placement
  cost_is cost equal reached event there = equal reached there.blocks ∙ sym (agree f p t x counts reached event placement there).cost

  pub sum_is : (sum : ℕ) → ((reached : ℕ → Bool) → AreReached f reached → sum ≡ flow_value full.net flow + full.constant)
      → (reached : ℕ → Bool) (event : ℕ → Event) → IsIn f p t x reached event → sum ≡ flow_value full.net flow + constant event (graph_of f p counts reached event).blocks
  sum_is sum equal reached event there = equal reached there.blocks ∙ ap (λ k. flow_value full.net flow + k) (is.each reached event there).paid

  pub differ : (cost sum : ℕ) → ((reached : ℕ → Bool) → AreReached f reached → cost ≢ sum) → (reached : ℕ → Bool) (event : ℕ → Event) → IsIn f p t x reached event → cost ≢ sum
  differ cost sum other reached event there = other reached there.blocks
