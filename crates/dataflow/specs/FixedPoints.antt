-- Fixed points of a transfer over a graph.
use Rattle.std.specs.Prelude.{◌≡◌, ℕ, ◌<◌, ◌==◌, List, [], ◌∷◌, length, slice_index_or, if◌then◌else◌}
use Rattle.dataflow.specs.Laws.{IsBelow}

-- where arc e begins
abbrev pub source : List (ℕ × ℕ) → ℕ → ℕ
source arcs e = (slice_index_or arcs e (0, 0)).0

-- where arc e ends
abbrev pub target : List (ℕ × ℕ) → ℕ → ℕ
target arcs e = (slice_index_or arcs e (0, 0)).1

-- each arc joins two of the first n nodes
abbrev pub ArcsWithin : List (ℕ × ℕ) → ℕ → Type 0
ArcsWithin arcs n = (e : ℕ) → e < length arcs → (source arcs e < n) × (target arcs e < n)

-- the ends of the arcs from node n, in the order of the arcs
abbrev pub ends_from : List (ℕ × ℕ) → ℕ → List ℕ
ends_from [] n = []
ends_from (arc ∷ arcs) n = if arc.0 == n then arc.1 ∷ ends_from arcs n else ends_from arcs n

-- the start entry of node n, met with the exits of all nodes that have an arc to n
abbrev pub inflow : {V : Type 0} → (V → V → V) → List (ℕ × ℕ) → (ℕ → V) → ℕ → V → V
inflow met [] exit n start = start
inflow met (arc ∷ arcs) exit n start = if arc.1 == n then met (inflow met arcs exit n start) (exit arc.0) else inflow met arcs exit n start

-- each entry is the start entry met with the exits of all nodes that have an arc to it, and each exit is what leaves for the entry
pub record IsFixedPoint {V : Type 0} (met : V → V → V) (leaving : ℕ → V → V) (arcs : List (ℕ × ℕ)) (nodes : ℕ) (start entry exit : ℕ → V) : Type 0 where
  pub entries : (n : ℕ) → n < nodes → entry n ≡ inflow met arcs exit n (start n)
  pub exits : (n : ℕ) → n < nodes → exit n ≡ leaving n (entry n)

-- of the fixed points with entries alike to the start, the one above all others
pub record IsGreatestFixedPoint {V : Type 0} (Alike : V → V → Type 0) (met : V → V → V) (leaving : ℕ → V → V) (arcs : List (ℕ × ℕ)) (nodes : ℕ) (start entry exit : ℕ → V) : Type 0 where
  pub fixed : IsFixedPoint met leaving arcs nodes start entry exit
  pub alike : (n : ℕ) → n < nodes → Alike (entry n) (start n)
  pub greatest : (other other_exit : ℕ → V) → ((n : ℕ) → n < nodes → Alike (other n) (start n)) → IsFixedPoint met leaving arcs nodes start other other_exit → (n : ℕ) → n < nodes → IsBelow met (other n) (entry n) × IsBelow met (other_exit n) (exit n)
