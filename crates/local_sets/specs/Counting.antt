-- How the arcs to points that aren't known to be inevitable are counted.
use Rattle.std.specs.Prelude.{◌≡◌, ◌≢◌, ◌<◌, ◌≤◌, ◌+◌, ◌==◌, ◌↔◌, ◌⊎◌, ℕ, Bool, false, not, cond, List, [], ◌∷◌, Contains, ◌++◌, length, map, slice_index_or}
use Rattle.std.specs.List.{sum_by}
use Rattle.expressions.specs.declared.syntax.Event.{Event}
use Rattle.expressions.specs.declared.syntax.Event.TheVariants.{Occurs, Passes}
use Rattle.flow_paths.specs.Inevitable.{LeadsAllTo}
use Rattle.flow_paths.specs.Spreads.{IsSet}
use Rattle.placement.specs.Placements.{IsInevitable}
use Rattle.local_sets.specs.declared.counting.Search.{Search}

abbrev pub event_at : List Event → ℕ → Event
event_at events v = slice_index_or events v Occurs

abbrev pub EventAt : List Event → ℕ → Event → Type 0
EventAt events v event = event_at events v ≡ event

-- how often v stands in the list
abbrev pub times : ℕ → List ℕ → ℕ
times v [] = 0
times v (u ∷ us) = cond (u == v) 1 0 + times v us

-- where the arcs begin that end at a point with the test
abbrev pub sources_where : (ℕ → Bool) → List (ℕ × ℕ) → List ℕ
sources_where p [] = []
sources_where p (arc ∷ arcs) = cond (p arc.1) (arc.0 ∷ sources_where p arcs) (sources_where p arcs)

abbrev pub unmarked : List Bool → ℕ → Bool
unmarked bits w = not (slice_index_or bits w false)

-- for each point where the arcs to it begin
pub record AreSources (points : ℕ) (arcs : List (ℕ × ℕ)) (lists : List (List ℕ)) : Type 0 where
  pub len : length lists ≡ points
  pub are : (w : ℕ) → w < points → slice_index_or lists w [] ≡ sources_where (λ x. x == w) arcs

-- for each point how many arcs leave it
pub record AreCounts (points : ℕ) (arcs : List (ℕ × ℕ)) (counts : List ℕ) : Type 0 where
  pub len : length counts ≡ points
  pub are : (v : ℕ) → v < points → slice_index_or counts v 0 ≡ times v (map (λ a. a.0) arcs)

abbrev pub IsFree : ℕ → Event → Type 0
IsFree v event = (v ≢ 0) × (event ≡ Passes)

abbrev pub IsStart : ℕ → Event → Type 0
IsStart v event = (v ≢ 0) × (event ≡ Occurs)

-- the bits of the free ones of the first n points
pub record AreFree (events : List Event) (n : ℕ) (bits : List Bool) : Type 0 where
  pub len : length bits ≡ n
  pub are : (v : ℕ) → v < n → IsSet bits v ↔ IsFree v (event_at events v)

-- those of the first n points that are starts
pub record AreStarts (events : List Event) (n : ℕ) (points : List ℕ) : Type 0 where
  pub are : (v : ℕ) → Contains points v ↔ ((v < n) × IsStart v (event_at events v))

abbrev pub left_at : Search → ℕ → ℕ
left_at s v = slice_index_or s.left.items v 0

abbrev pub work : Search → ℕ
work s = length s.pending.items + sum_by (λ n. n) s.left.items

-- an arc of each of these points is counted down, and the free ones without arcs are to be visited
pub record CountsDown (free : List Bool) (points : List ℕ) (old new : Search) : Type 0 where
  pub bits : new.bits.items ≡ old.bits.items
  pub len : length new.left.items ≡ length old.left.items
  pub left : (v : ℕ) → left_at new v + times v points ≡ left_at old v
  pub waiting : (v : ℕ) → Contains old.pending.items v → Contains new.pending.items v
  pub added : (v : ℕ) → Contains new.pending.items v → Contains old.pending.items v ⊎ (IsSet free v × (0 < times v points) × (left_at new v ≡ 0))
  pub ready : (v : ℕ) → 0 < times v points → IsSet free v → left_at new v ≡ 0 → Contains new.pending.items v
  pub work : work new ≤ work old

-- only inevitable points are marked or to be visited, and so are all that the marked ones tell
pub record Counting (arcs : List (ℕ × ℕ)) (events : List Event) (bits : List Bool) (left pending : List ℕ) : Type 0 where
  pub len : length bits ≡ length events
  pub left_len : length left ≡ length events
  pub left_are : (v : ℕ) → v < length events → slice_index_or left v 0 ≡ times v (sources_where (unmarked bits) arcs)
  pub sound : (v : ℕ) → IsSet bits v → IsInevitable arcs (EventAt events) v
  pub waiting : (v : ℕ) → Contains pending v → (v < length events) × IsInevitable arcs (EventAt events) v
  pub starting : (v : ℕ) → v < length events → IsStart v (event_at events v) → IsSet bits v ⊎ Contains pending v
  pub closed : (v : ℕ) → v < length events → IsFree v (event_at events v) → LeadsAllTo arcs (IsSet bits) v → IsSet bits v ⊎ Contains pending v

abbrev pub IsCounting : List (ℕ × ℕ) → List Event → Search → Type 0
IsCounting arcs events s = Counting arcs events s.bits.items s.left.items s.pending.items

-- with one point more that is to be visited
abbrev pub IsCountingWith : ℕ → List (ℕ × ℕ) → List Event → Search → Type 0
IsCountingWith point arcs events s = Counting arcs events s.bits.items s.left.items (s.pending.items ++ point ∷ [])
