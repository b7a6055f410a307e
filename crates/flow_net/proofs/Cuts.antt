-- The nodes that reach the sink by residual arcs, and the sides of a maximum flow.
use Rattle.std.proofs.Common.{◌≡◌, ◌≢◌, ℕ, suc, zero, ◌+◌, ◌<◌, ◌≤◌, Bool, true, false, cond, ◌⊎◌, List, [], ◌∷◌, length, refl, ap, arith, sym, ◌∙◌, inl, inr}
use Rattle.std.specs.List.{AllByRecursion, zip}
use Rattle.std.proofs.lemmas.Bool.{cases_Bool, cases_eq, true≢false}
use Rattle.std.proofs.lemmas.List.Elements.{recursion_from_All}
use Rattle.flow_net.specs.declared.Arc.{Arc}
use Rattle.flow_net.specs.declared.Net.{Net}
use Rattle.flow_net.specs.declared.Flow.{Flow}
use Rattle.flow_net.specs.Network.{IsValid, IsWithin, IsBalanced, IsMaximum, IsSide, IsLeastSide, IsLatestSide, IsArcOf, loads, enters, flow_value, capacity_into, ReachesSink, ResidualArc, IsSinkSet}
use Rattle.flow_net.specs.Laws.{AreFallingRanks}
use Rattle.flow_net.proofs.Sums.{sum_by-firsts}
use Rattle.flow_net.proofs.Duality.{Flows, IsShut, room_where, weak_duality, shut_from_meets, meets_from_shut, shut_walk, shut_from_closed}

-- ---- a network and its flow, as loads
arcs_of : (nodes : ℕ) (arcs : List Arc) (xs : List ℕ) → length xs ≡ length arcs → AllByRecursion (IsArcOf nodes) arcs → AllByRecursion (λ (l : Arc × ℕ). IsArcOf nodes l.0) (zip arcs xs)
arcs_of nodes [] [] same all = tt
arcs_of nodes [] (x ∷ xs) same all = tt
arcs_of nodes (a ∷ arcs) [] same all = tt
arcs_of nodes (a ∷ arcs) (x ∷ xs) same all = (all.0, arcs_of nodes arcs xs (omega arith) all.1)

pub flows : (net : Net) (flow : Flow) → IsValid net → IsWithin net flow → IsBalanced net flow → Flows net.nodes (loads net flow)
flows net flow v w b = record {
  two = v.nodes;
  conserves = record {
    arcs = arcs_of net.nodes net.arcs.items flow.amounts.items w.len (recursion_from_All (IsArcOf net.nodes) net.arcs.items v.arcs);
    balanced = b;
  };
  within = recursion_from_All (λ l. l.1 ≤ l.0.cap) (loads net flow) w.below;
}

pub capacity_of_loads : (net : Net) (flow : Flow) → IsWithin net flow → (side : ℕ → Bool) → room_where (enters side) (loads net flow) ≡ capacity_into net side
capacity_of_loads net flow w side = sum_by-firsts (λ a. cond (enters side a) a.cap 0) net.arcs.items flow.amounts.items w.len

-- the value of a flow is at most the capacity of each side
pub value_below : (net : Net) (flow : Flow) → IsValid net → IsWithin net flow → IsBalanced net flow → (side : ℕ → Bool) → IsSide side → flow_value net flow ≤ capacity_into net side
value_below net flow v w b side s = omega (arith, weak_duality net.nodes (loads net flow) (flows net flow v w b) side s, capacity_of_loads net flow w side)

-- a side that the value meets has each node that reaches the sink
pub in_meeting_side : (net : Net) (flow : Flow) → IsValid net → IsWithin net flow → IsBalanced net flow → (side : ℕ → Bool) → IsSide side → capacity_into net side ≤ flow_value net flow →
    (n v : ℕ) → ReachesSink (loads net flow) n v → side v ≡ true
in_meeting_side net flow v w b side s meets n node walk =
    shut_walk side (loads net flow) (shut_from_meets net.nodes (loads net flow) (flows net flow v w b) side s (omega (arith, capacity_of_loads net flow w side))) s.0 n node walk

module _ (net : Net) (flow : Flow) (v : IsValid net) (w : IsWithin net flow) (b : IsBalanced net flow) (side : ℕ → Bool) (t : IsSinkSet (loads net flow) side) where
  -- where the source does not reach the sink, the nodes that do are a side, whose capacity is the value
  set_meets : side 0 ≡ false → IsSide side × (flow_value net flow ≡ capacity_into net side)
  set_meets away =
      let s : IsSide side = ((t 1).1 (0, refl), away) in
      let shut : AllByRecursion (IsShut side) (loads net flow) =
      shut_from_closed side (loads net flow) (flows net flow v w b).within
      (λ from to arc h. (let walk = (t to).0 h in (t from).1 (suc walk.0, (to, arc, walk.1)))) in
      (s, meets_from_shut net.nodes (loads net flow) (flows net flow v w b) side s shut ∙ capacity_of_loads net flow w side)

  pub no_way_maximum : side 0 ≡ false → IsMaximum net flow
  no_way_maximum away = record { within = w; balanced = b; meets = (side, (set_meets away).0, (set_meets away).1) }

  source_outside : IsMaximum net flow → side 0 ≡ false
  source_outside m = elim (cases_Bool (side 0)) [
    | inl there ↦
        (let walk = (t 0).0 there in
        let in_side : m.meets.0 0 ≡ true = in_meeting_side net flow v w b m.meets.0 m.meets.1 (omega (arith, m.meets.2)) walk.0 0 walk.1 in
        absurd (true≢false (sym in_side ∙ m.meets.1.1)))
    | inr away ↦ away
  ]

  set_least : side 0 ≡ false → IsLeastSide net side
  set_least away = (
    (set_meets away).0,
    λ other s. omega (arith, (set_meets away).1, value_below net flow v w b other s),
  )

  pub set_latest : IsMaximum net flow → IsLeastSide net side × IsLatestSide net side
  set_latest m =
      let away : side 0 ≡ false = source_outside m in
      let meets : IsSide side × (flow_value net flow ≡ capacity_into net side) = set_meets away in (
        set_least away,
        (λ node inside. (
          (λ h least l.
              (let walk = (t node).0 h in
              in_meeting_side net flow v w b least l.0 (omega (arith, meets.1, l.1 side meets.0)) walk.0 node walk.1)),
          (λ all. all side (set_least away)),
        )),
      )

-- ranks that fall to the sink give walks
walk_from_ranks : (ls : List (Arc × ℕ)) (side : ℕ → Bool) (rank : ℕ → ℕ) →
    ((v : ℕ) → side v ≡ true → v ≢ 1 → (w : ℕ) × ResidualArc ls v w × ((w ≡ 1) ⊎ ((side w ≡ true) × (rank w < rank v)))) →
    (bound v : ℕ) → rank v < bound → side v ≡ true → (n : ℕ) × ReachesSink ls n v
walk_from_ranks ls side rank falls zero v below h = absurd (omega arith)
walk_from_ranks ls side rank falls (suc bound) v below h = elim (cases_eq v 1) [
  | inl sink ↦ (0, sink)
  | inr other ↦
      (let next = falls v h other in
      elim next.2 [
        | inl sink ↦ (1, (next.0, next.1, sink))
        | inr lower ↦
            (let walk : (n : ℕ) × ReachesSink ls n next.0 = walk_from_ranks ls side rank falls bound next.0 (omega (arith, lower.1)) lower.0 in
            (suc walk.0, (next.0, next.1, walk.1)))
      ])
]

pub latest_from_ranks : (net : Net) (flow : Flow) → IsValid net → IsWithin net flow → IsBalanced net flow →
    (side : ℕ → Bool) → IsSide side → capacity_into net side ≡ flow_value net flow → (rank : ℕ → ℕ) → AreFallingRanks net flow side rank → IsLeastSide net side × IsLatestSide net side
latest_from_ranks net flow v w b side s meets rank falls =
    let least : IsLeastSide net side = (s, λ other o. omega (arith, value_below net flow v w b other o)) in (
      least,
      (λ node inside. (
        (λ h t l.
            (let walk = walk_from_ranks (loads net flow) side rank falls (suc (rank node)) node (omega arith) h in
            in_meeting_side net flow v w b t l.0 (omega (arith, l.1 side s)) walk.0 node walk.1)),
        (λ all. all side least),
      )),
    )
