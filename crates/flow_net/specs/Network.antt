use Rattle.std.specs.Prelude.{◌≡◌, ℕ, ◌^◌, ◌<◌, ◌≤◌, ◌==◌, Bool, true, false, if◌then◌else◌, not, ◌&&◌, suc, zero, List, ◌⊎◌, ◌↔◌, length, All, Any, sum_by}
use Rattle.std.specs.List.{zip}
use Rattle.flow_net.specs.declared.Net.{Net}
use Rattle.flow_net.specs.declared.Arc.{Arc}
use Rattle.flow_net.specs.declared.Flow.{Flow}

-- the sum of the capacities of the arcs that pass a test
abbrev pub capacity_where : (Arc → Bool) → List Arc → ℕ
capacity_where test arcs = sum_by (λ a. if test a then a.cap else 0) arcs

-- both ends are nodes of the network, and none leads into the source or out of the sink
abbrev pub IsArcOf : ℕ → Arc → Type 0
IsArcOf nodes a = (a.from < nodes) × (a.to < nodes) × (0 < a.to) × (a.from ≡ 1 → ⊥)

-- node 0 is the source and node 1 the sink
pub record IsValid (net : Net) : Type 0 where
  pub nodes : 2 ≤ net.nodes
  pub arcs : All (IsArcOf net.nodes) net.arcs.items
  pub total : sum_by (λ a. a.cap) net.arcs.items < 2 ^ 120

-- the arcs, each with the amount that flows on it
abbrev pub loads : Net → Flow → List (Arc × ℕ)
loads net flow = zip net.arcs.items flow.amounts.items

-- one amount for each arc, none above its capacity
pub record IsWithin (net : Net) (flow : Flow) : Type 0 where
  pub len : length flow.amounts.items ≡ length net.arcs.items
  pub below : All (λ l. l.1 ≤ l.0.cap) (loads net flow)

-- what flows on the arcs that pass a test
abbrev pub amount_where : (Arc → Bool) → List (Arc × ℕ) → ℕ
amount_where test ls = sum_by (λ l. if test l.0 then l.1 else 0) ls

-- what flows into a node
abbrev pub inflow : List (Arc × ℕ) → ℕ → ℕ
inflow ls v = amount_where (λ a. a.to == v) ls

-- what flows out of a node
abbrev pub outflow : List (Arc × ℕ) → ℕ → ℕ
outflow ls v = amount_where (λ a. a.from == v) ls

-- what enters a node leaves it, but at the source and the sink
abbrev pub IsBalanced : Net → Flow → Type 0
IsBalanced net flow = (v : ℕ) → 2 ≤ v → v < net.nodes → inflow (loads net flow) v ≡ outflow (loads net flow) v

-- what flows out of the source
abbrev pub flow_value : Net → Flow → ℕ
flow_value net flow = outflow (loads net flow) 0

-- a set of nodes, given by its test, with the sink and without the source
abbrev pub IsSide : (ℕ → Bool) → Type 0
IsSide side = (side 1 ≡ true) × (side 0 ≡ false)

-- an arc from outside a set of nodes into it
abbrev pub enters : (ℕ → Bool) → Arc → Bool
enters side a = side a.to && not (side a.from)

-- the capacity of a set of nodes: of the arcs from outside it into it
abbrev pub capacity_into : Net → (ℕ → Bool) → ℕ
capacity_into net side = capacity_where (enters side) net.arcs.items

-- a side of the least capacity
abbrev pub IsLeastSide : Net → (ℕ → Bool) → Type 0
IsLeastSide net side = IsSide side × ((other : ℕ → Bool) → IsSide other → capacity_into net side ≤ capacity_into net other)

-- the intersection of all least sides
abbrev pub IsLatestSide : Net → (ℕ → Bool) → Type 0
IsLatestSide net side = (v : ℕ) → v < net.nodes → (side v ≡ true) ↔ ((least : ℕ → Bool) → IsLeastSide net least → least v ≡ true)

-- more can go from u to v: on an arc that isn't full, or by taking back from an arc that isn't empty
abbrev pub LetsMore : ℕ → ℕ → Arc × ℕ → Type 0
LetsMore u v l = ((l.0.from ≡ u) × (l.0.to ≡ v) × (l.1 < l.0.cap)) ⊎ ((l.0.to ≡ u) × (l.0.from ≡ v) × (0 < l.1))

-- more can go from u to v by some arc
abbrev pub ResidualArc : List (Arc × ℕ) → ℕ → ℕ → Type 0
ResidualArc ls u v = Any (LetsMore u v) ls

-- a walk of n residual arcs from v to the sink
abbrev pub ReachesSink : List (Arc × ℕ) → ℕ → ℕ → Type 0
ReachesSink ls zero v = v ≡ 1
ReachesSink ls (suc n) v = (w : ℕ) × ResidualArc ls v w × ReachesSink ls n w

-- the set has exactly the nodes that reach the sink by residual arcs
abbrev pub IsSinkSet : List (Arc × ℕ) → (ℕ → Bool) → Type 0
IsSinkSet ls side = (v : ℕ) → (side v ≡ true) ↔ ((n : ℕ) × ReachesSink ls n v)

-- a flow whose value is the capacity of a side: none is larger
pub record IsMaximum (net : Net) (flow : Flow) : Type 0 where
  pub within : IsWithin net flow
  pub balanced : IsBalanced net flow
  pub meets : (side : ℕ → Bool) × IsSide side × (flow_value net flow ≡ capacity_into net side)
