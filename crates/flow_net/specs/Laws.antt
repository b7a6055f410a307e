use Rattle.std.specs.Prelude.{◌≡◌, ◌≢◌, ℕ, ◌<◌, ◌≤◌, Bool, true, false, ◌⊎◌}
use Rattle.flow_net.specs.declared.Net.{Net}
use Rattle.flow_net.specs.declared.Flow.{Flow}
use Rattle.flow_net.specs.Network.{IsValid, IsWithin, IsBalanced, IsMaximum, IsSide, IsLeastSide, IsLatestSide, ResidualArc, IsSinkSet, loads, flow_value, capacity_into}

-- no flow is worth more than a side lets in
abbrev pub ValueIsBelowSides : Type 0
ValueIsBelowSides = (net : Net) (flow : Flow) → IsValid net → IsWithin net flow → IsBalanced net flow →
    (side : ℕ → Bool) → IsSide side → flow_value net flow ≤ capacity_into net side

-- each node of a set but the sink has a residual arc to the sink, or to one of a lower rank in the set
abbrev pub AreFallingRanks : Net → Flow → (ℕ → Bool) → (ℕ → ℕ) → Type 0
AreFallingRanks net flow side rank = (v : ℕ) → side v ≡ true → v ≢ 1 →
    (w : ℕ) × ResidualArc (loads net flow) v w × ((w ≡ 1) ⊎ ((side w ≡ true) × (rank w < rank v)))

-- a side that a flow's value meets, and from which ranks fall to the sink, is the latest
abbrev pub RanksShowTheLatestSide : Type 0
RanksShowTheLatestSide = (net : Net) (flow : Flow) → IsValid net → IsWithin net flow → IsBalanced net flow →
    (side : ℕ → Bool) → IsSide side → capacity_into net side ≡ flow_value net flow → (rank : ℕ → ℕ) → AreFallingRanks net flow side rank →
    IsLeastSide net side × IsLatestSide net side

-- a flow is a maximum one where no residual arcs lead from the source to the sink
abbrev pub NoWayIsMaximum : Type 0
NoWayIsMaximum = (net : Net) (flow : Flow) → IsValid net → IsWithin net flow → IsBalanced net flow →
    (side : ℕ → Bool) → IsSinkSet (loads net flow) side → side 0 ≡ false → IsMaximum net flow

-- the nodes that reach the sink by residual arcs of a maximum flow are the latest side
abbrev pub SinkSetIsLatest : Type 0
SinkSetIsLatest = (net : Net) (flow : Flow) → IsValid net → IsMaximum net flow →
    (side : ℕ → Bool) → IsSinkSet (loads net flow) side → IsLeastSide net side × IsLatestSide net side
