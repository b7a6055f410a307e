-- What is said of a network is said of each with the same nodes and the same arcs.
use Rattle.std.proofs.Common.{◌≡◌, ◌≤◌, ◌<◌, ℕ, Bool, List, length, zip, All, sym, ap, ◌∙◌, subst}
use Rattle.flow_net.specs.declared.Net.{Net}
use Rattle.flow_net.specs.declared.Arc.{Arc}
use Rattle.flow_net.specs.declared.Flow.{Flow}
use Rattle.flow_net.specs.Network.{IsWithin, IsBalanced, IsMaximum, IsLeastSide, IsLatestSide, inflow, outflow, capacity_where, enters}

module _ (one other : Net) (nodes : one.nodes ≡ other.nodes) (arcs : one.arcs.items ≡ other.arcs.items) where
  within_too : (flow : Flow) → IsWithin one flow → IsWithin other flow
  within_too flow w = record {
    len = w.len ∙ ap length arcs;
    below = subst (λ (l : List Arc). All (λ (x : Arc × ℕ). x.1 ≤ x.0.cap) (zip l flow.amounts.items)) arcs w.below;
  }

  balanced_too : (flow : Flow) → IsBalanced one flow → IsBalanced other flow
  balanced_too flow b v low lt =
      subst (λ (l : List Arc). inflow (zip l flow.amounts.items) v ≡ outflow (zip l flow.amounts.items) v) arcs
      (b v low (subst (λ n. v < n) (sym nodes) lt))

  pub maximum_too : (flow : Flow) → IsMaximum one flow → IsMaximum other flow
  maximum_too flow m = record {
    within = within_too flow m.within;
    balanced = balanced_too flow m.balanced;
    meets = (
      m.meets.0,
      m.meets.1,
      subst (λ (l : List Arc). outflow (zip l flow.amounts.items) 0 ≡ capacity_where (enters m.meets.0) l) arcs m.meets.2,
    );
  }

  pub least_too : (side : ℕ → Bool) → IsLeastSide one side → IsLeastSide other side
  least_too side h = (h.0, λ o is. subst (λ (l : List Arc). capacity_where (enters side) l ≤ capacity_where (enters o) l) arcs (h.1 o is))

module _ (one other : Net) (nodes : one.nodes ≡ other.nodes) (arcs : one.arcs.items ≡ other.arcs.items) where
  pub latest_too : (side : ℕ → Bool) → IsLatestSide one side → IsLatestSide other side
  latest_too side h v lt =
      let here = h v (subst (λ n. v < n) (sym nodes) lt) in (
        (λ in_side least is. here.0 in_side least (least_too other one (sym nodes) (sym arcs) least is)),
        (λ each. here.1 (λ least is. each least (least_too one other nodes arcs least is))),
      )
