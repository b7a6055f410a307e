-- What the bits hold from which the lazy placement is read.
use Rattle.std.specs.Prelude.{◌≡◌, ◌≢◌, ℕ, ◌<◌, ◌↔◌, ◌⊎◌, Bool, true, false, List, length, slice_index_or}
use Rattle.expressions.specs.declared.syntax.Event.{Event}
use Rattle.expressions.specs.declared.syntax.Event.TheVariants.{Occurs, Kills, Bars, Passes}
use Rattle.flow_paths.specs.declared.marks.Mark.{Mark}
use Rattle.flow_paths.specs.declared.marks.Mark.TheVariants.{Write, Kill, Pass}
use Rattle.flow_paths.specs.Paths.{source, target}
use Rattle.flow_paths.specs.Spreads.{IsSet}

-- occurrences compute the value
abbrev pub computing_mark : Event → Mark
computing_mark Occurs = Write
computing_mark Kills = Kill
computing_mark Bars = Pass
computing_mark Passes = Pass

-- occurrences end a delay
abbrev pub ending_mark : Event → Mark
ending_mark Occurs = Kill
ending_mark Kills = Pass
ending_mark Bars = Pass
ending_mark Passes = Pass

-- early edges begin a delay
abbrev pub beginning_mark : Bool → Mark
beginning_mark true = Write
beginning_mark false = Pass

-- behind a point with this event a path is not computed, from whether it may be so before
abbrev pub UncomputedBehind : Event → Bool → Type 0
UncomputedBehind event before = (event ≡ Kills) ⊎ ((event ≢ Occurs) × (before ≡ true))

-- an edge is delayed where it is early, or leaves a point that delays on and does not occur
abbrev pub DelayedBehind : Event → Bool → Bool → Type 0
DelayedBehind event early undelayed = (early ≡ true) ⊎ ((event ≢ Occurs) × (undelayed ≡ false))

-- the event of each point; past the points nothing is done
abbrev pub event_at : List Event → ℕ → Event
event_at events v = slice_index_or events v Passes

abbrev pub bit : List Bool → ℕ → Bool
bit bits k = slice_index_or bits k false

-- an edge is early that enters the inevitable points from a point with this event, behind which some path is not computed
abbrev pub EarlyBehind : Event → Bool → Bool → Bool → Type 0
EarlyBehind event at_end at_beginning uncomputed = (at_end ≡ true) × (at_beginning ≡ false) × UncomputedBehind event uncomputed

-- exactly the early ones of the first n arcs are set
pub record EarlyBits (arcs : List (ℕ × ℕ)) (events : List Event) (inevitable uncomputed : List Bool) (n : ℕ) (bits : List Bool) : Type 0 where
  pub len : length bits ≡ n
  pub bits_are : (e : ℕ) → e < n → IsSet bits e
      ↔ EarlyBehind (slice_index_or events (source arcs e) Occurs) (bit inevitable (target arcs e)) (bit inevitable (source arcs e)) (bit uncomputed (source arcs e))

-- exactly the delayed ones of the first n arcs are set
pub record DelayedBits (arcs : List (ℕ × ℕ)) (events : List Event) (early undelayed : List Bool) (n : ℕ) (bits : List Bool) : Type 0 where
  pub len : length bits ≡ n
  pub bits_are : (e : ℕ) → e < n → IsSet bits e
      ↔ DelayedBehind (slice_index_or events (source arcs e) Occurs) (bit early e) (bit undelayed (source arcs e))

-- an edge among the first n that isn't delayed ends at v
pub record EndsUndelayed (arcs : List (ℕ × ℕ)) (delayed : List Bool) (n v : ℕ) : Type 0 where
  pub edge : ℕ
  pub is_edge : edge < n
  pub undelayed : ¬ (IsSet delayed edge)
  pub ends : target arcs edge ≡ v
