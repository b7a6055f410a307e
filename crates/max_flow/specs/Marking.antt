use Rattle.std.specs.Prelude.{◌≡◌, ℕ, ◌<◌, List, length, slice_index_or}
use Rattle.flow_net.specs.declared.Arc.{Arc}
use Rattle.flow_net.specs.declared.incidence.Incidence.{Incidence}
use Rattle.flow_net.specs.declared.levels.Distances.{Distances}
use Rattle.flow_net.specs.Incidence.{arcs_in}
use Rattle.max_flow.specs.declared.blocking.Marks.{Marks}
use Rattle.max_flow.specs.Path.{LeadsNowhere}

-- there are marks for so many nodes
pub record HasMarks (nodes : ℕ) (marks : Marks) : Type 0 where
  pub dead_len : length marks.dead.items ≡ nodes
  pub next_len : length marks.next.items ≡ nodes

-- the arcs of a node before its mark lead nowhere
pub record ArePassed (nodes : ℕ) (ls : List (Arc × ℕ)) (found : Distances) (incidence : Incidence) (marks : Marks) : Type 0 where
  pub len : length marks.next.items ≡ nodes
  pub each : (v k : ℕ) → k < slice_index_or marks.next.items v 0 → k < length (arcs_in incidence.arcs_at.items v) →
      LeadsNowhere ls found marks.dead.items v (slice_index_or (arcs_in incidence.arcs_at.items v) k 0)
