use Rattle.std.specs.Prelude.{◌≡◌, ℕ, ◌+◌, ◌-◌, ◌<◌, ◌≤◌, Bool, true, false, if◌then◌else◌, List, [], ◌∷◌, length, slice_index_or, slice_set, All, ◌⊎◌}
use Rattle.flow_net.specs.declared.Arc.{Arc}
use Rattle.flow_net.specs.declared.levels.Distances.{Distances}
use Rattle.flow_net.specs.Network.{LetsMore, ResidualArc, ReachesSink}
use Rattle.flow_net.specs.Levels.{is_reached, distance_of}
use Rattle.max_flow.specs.declared.pushing.Step.{Step}

-- the arc at an index
abbrev pub arc_at : List Arc → ℕ → Arc
arc_at arcs i = slice_index_or arcs i (record { from = 0; to = 0; cap = 0 })

-- the node that a step starts from
abbrev pub start_of : List Arc → Step → ℕ
start_of arcs s = if s.forward then (arc_at arcs s.arc).from else (arc_at arcs s.arc).to

-- the node that a step leads to
abbrev pub end_of : List Arc → Step → ℕ
end_of arcs s = if s.forward then (arc_at arcs s.arc).to else (arc_at arcs s.arc).from

-- how much more can go that way
abbrev pub room_of : List Arc → List ℕ → Step → ℕ
room_of arcs amounts s = if s.forward then (arc_at arcs s.arc).cap - slice_index_or amounts s.arc 0 else slice_index_or amounts s.arc 0

-- some more can go that way
abbrev pub HasRoom : List Arc → List ℕ → Step → Type 0
HasRoom arcs amounts s = 0 < room_of arcs amounts s

-- the next node is reached, and is one nearer to the sink
abbrev pub IsNearer : Distances → ℕ → ℕ → Type 0
IsNearer found v next = (is_reached found next ≡ true) × (distance_of found v ≡ distance_of found next + 1)

-- whether a node is marked as dead
abbrev pub is_dead : List Bool → ℕ → Bool
is_dead dead v = slice_index_or dead v false

-- the arc at an index has no room from v to a nearer node that isn't dead
abbrev pub LeadsNowhere : List (Arc × ℕ) → Distances → List Bool → ℕ → ℕ → Type 0
LeadsNowhere ls found dead v i = (u : ℕ) (d : Arc × ℕ) → LetsMore v u (slice_index_or ls i d) → IsNearer found v u → is_dead dead u ≡ true

-- from a node no way on leads nearer, but to dead nodes
abbrev pub IsStuck : List (Arc × ℕ) → Distances → List Bool → ℕ → Type 0
IsStuck ls found dead v = (next : ℕ) → ResidualArc ls v next → IsNearer found v next → is_dead dead next ≡ true

-- the dead nodes lead nearer to dead nodes alone, and the sink isn't one
pub record AreDead (nodes : ℕ) (ls : List (Arc × ℕ)) (found : Distances) (dead : List Bool) : Type 0 where
  pub len : length dead ≡ nodes
  pub sink : is_dead dead 1 ≡ false
  pub stuck : (v : ℕ) → is_dead dead v ≡ true → IsStuck ls found dead v

-- each residual arc leads at most one nearer
pub record AreLevels (nodes : ℕ) (ls : List (Arc × ℕ)) (found : Distances) : Type 0 where
  pub reached_len : length found.reached.items ≡ nodes
  pub distance_len : length found.distance.items ≡ nodes
  pub sink : is_reached found 1 ≡ true
  pub closed : (u v : ℕ) → ResidualArc ls u v → is_reached found v ≡ true → (is_reached found u ≡ true) × (distance_of found u ≤ distance_of found v + 1)

-- what an arc newly lets go leads one farther
pub record LeadsFarther (found : Distances) (old new : List (Arc × ℕ)) : Type 0 where
  pub len : length new ≡ length old
  pub each : (i u v : ℕ) (l : Arc × ℕ) → i < length new → LetsMore u v (slice_index_or new i l) → LetsMore u v (slice_index_or old i l) ⊎ IsNearer found v u

-- where the sink was reached in m residual arcs and no fewer, it is now not reached in as few
abbrev pub RisesAbove : List (Arc × ℕ) → List (Arc × ℕ) → Type 0
RisesAbove old new = (m : ℕ) → ((k : ℕ) → ReachesSink old k 0 → m ≤ k) → (n : ℕ) → ReachesSink new n 0 → m < n

-- a step from v to a node that is one nearer to the sink
pub record StepsFrom (arcs : List Arc) (found : Distances) (v : ℕ) (s : Step) : Type 0 where
  pub inside : s.arc < length arcs
  pub start : start_of arcs s ≡ v
  pub nearer : IsNearer found v (end_of arcs s)

-- steps from v to the sink
abbrev pub IsPath : List Arc → Distances → ℕ → List Step → Type 0
IsPath arcs found v [] = v ≡ 1
IsPath arcs found v (s ∷ steps) = StepsFrom arcs found v s × IsPath arcs found (end_of arcs s) steps

-- the amounts with more on one step
abbrev pub pushed : List ℕ → Step → ℕ → List ℕ
pushed amounts s amount = slice_set amounts s.arc (if s.forward then slice_index_or amounts s.arc 0 + amount else slice_index_or amounts s.arc 0 - amount)

-- steps with room from the source to the sink
abbrev pub HasPath : List Arc → List ℕ → Distances → List Step → Type 0
HasPath arcs amounts found path = IsPath arcs found 0 path × All (HasRoom arcs amounts) path
