-- What was solved is certified: the ranks are above 0 just on the side, and fall to the sink.
use Rattle.std.proofs.Common.{◌≡◌, ◌<◌, ◌≤◌, ◌==◌, ◌||◌, ◌⊎◌, nat_lt, ℕ, zero, suc, Bool, true, false, List, refl, sym, ap, ◌∙◌, subst, inr, ⊎_elim, arith, eq-eqb, ne_eqb}
use Rattle.std.proofs.lemmas.Bool.{cases_Bool, cases_eq}
use Rattle.std.proofs.lemmas.Bool.Decides.{nat_tests}
use Rattle.ir_types.specs.declared.syntax.Function.{Function}
use Rattle.profile.specs.declared.counts.FnCounts.{FnCounts}
use Rattle.point_graph.specs.declared.graph.Points.{Points}
use Rattle.expressions.specs.declared.syntax.Event.{Event}
use Rattle.flow_net.specs.declared.Net.{Net}
use Rattle.flow_net.specs.declared.Arc.{Arc}
use Rattle.flow_net.specs.Network.{IsSide, ReachesSink, ResidualArc, loads}
use Rattle.latest_cut.specs.declared.Cut.{Cut}
use Rattle.latest_cut.specs.Cut.{sink_side_of, rank_of, IsSinkSide, AreRanks}
use Rattle.best_placement.specs.Laws.{ranked, Certifies, IsReadOffOn}
use Rattle.function_graphs.specs.Graphs.{graph_of}
use Rattle.mc_solve.specs.declared.Solved.{Solved}
use Rattle.mc_solve.specs.Solved.{IsSolved}

module _ (nodes : ℕ) (ls : List (Arc × ℕ)) (cut : Cut) (is : IsSide (sink_side_of cut)) (side : IsSinkSide nodes ls cut) (ranks : AreRanks nodes ls cut) where
  above : (n v : ℕ) → (v ≡ 1 → ⊥) → ReachesSink ls n v → nat_lt 0 n ≡ true
  above zero v other walk = absurd (other walk)
  above (suc n) v other walk = grind (arith, nat_tests)

  off_sink : (v : ℕ) → (b : Bool) → sink_side_of cut v ≡ b → (v ≡ 1 → ⊥) → nat_lt 0 (rank_of cut v) ≡ b
  off_sink v true on other = above (rank_of cut v) v other (ranks.walk v on)
  off_sink v false off other = ap (λ n. nat_lt 0 n) (ranks.others v off)

  pub ranked_is : (v : ℕ) → ranked (rank_of cut) v ≡ sink_side_of cut v
  ranked_is v =
      ⊎_elim
      (λ (same : v ≡ 1). ap (λ b. b || nat_lt 0 (rank_of cut v)) (eq-eqb v 1 same) ∙ sym (ap (sink_side_of cut) same ∙ is.0))
      (λ (other : v ≡ 1 → ⊥). ap (λ b. b || nat_lt 0 (rank_of cut v)) (ne_eqb v 1 other) ∙ off_sink v (sink_side_of cut v) refl other)
      (cases_eq v 1)

  falls_from : (n v : ℕ) → rank_of cut v ≡ n → ReachesSink ls n v → (v ≡ 1 → ⊥) → (w : ℕ) × ResidualArc ls v w × ((w ≡ 1) ⊎ ((ranked (rank_of cut) w ≡ true) × (rank_of cut w < rank_of cut v)))
  falls_from zero v steps walk other = absurd (other walk)
  falls_from (suc n) v steps walk other =
      let fewer = ranks.fewest n walk.0 walk.2 in
      (walk.0, walk.1, inr (ranked_is walk.0 ∙ (side.exact walk.0).1 (n, walk.2), omega (arith, steps, fewer)))

  pub falls : (v : ℕ) → ranked (rank_of cut) v ≡ true → (v ≡ 1 → ⊥) → (w : ℕ) × ResidualArc ls v w × ((w ≡ 1) ⊎ ((ranked (rank_of cut) w ≡ true) × (rank_of cut w < rank_of cut v)))
  falls v on other = falls_from (rank_of cut v) v refl (ranks.walk v (sym (ranked_is v) ∙ on)) other

pub certifies : (f : Function) (p : Points) (c : FnCounts) (reached : ℕ → Bool) (event : ℕ → Event) (net : Net) (s : Solved) → IsSolved f p c reached event net s
    → Certifies (graph_of f p c reached event) net s.flow (rank_of s.cut) s.placement
certifies f p c reached event net s h =
    let ls = loads net s.flow in
    let same : ranked (rank_of s.cut) ≡ sink_side_of s.cut = λ i v. ranked_is net.nodes ls s.cut h.least.0 h.side h.ranks v i in
    record {
      source = h.ranks.others 0 h.least.0.1;
      read = subst (λ (k : ℕ → Bool). IsReadOffOn (graph_of f p c reached event) k s.placement) (sym same) h.read;
      within = h.maximum.within;
      balanced = h.maximum.balanced;
      value = sym h.cost;
      falls = falls net.nodes ls s.cut h.least.0 h.side h.ranks;
    }
