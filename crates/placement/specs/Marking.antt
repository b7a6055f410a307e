-- Marks of points and edges.
use Rattle.std.specs.Prelude.{◌≡◌, ◌<◌, ◌↔◌, ℕ, Bool, List, length, slice_index_or, Contains}
use Rattle.expressions.specs.declared.syntax.Event.{Event}
use Rattle.expressions.specs.declared.syntax.Event.TheVariants.{Occurs, Kills, Bars, Passes}
use Rattle.flow_paths.specs.declared.marks.Mark.{Mark}
use Rattle.flow_paths.specs.declared.marks.Mark.TheVariants.{Write, Kill, Pass}
use Rattle.flow_paths.specs.Spreads.{IsSet}

-- the events of the first n points
pub record AreEvents (Is : ℕ → Event → Type 0) (n : ℕ) (events : List Event) : Type 0 where
  pub len : length events ≡ n
  pub are : (v : ℕ) → v < n → Is v (slice_index_or events v Occurs)

-- the mark of a point that isn't kept
abbrev pub mark_of_event : Event → Mark
mark_of_event Occurs = Pass
mark_of_event Kills = Kill
mark_of_event Bars = Pass
mark_of_event Passes = Pass

-- exactly the inserted ones of n edges write, and none kills
pub record EdgeMarks (n : ℕ) (inserted : List ℕ) (marks : List Mark) : Type 0 where
  pub len : length marks ≡ n
  pub writes : (e : ℕ) → e < n → (slice_index_or marks e Write ≡ Write) ↔ Contains inserted e
  pub no_kill : (e : ℕ) → e < n → ¬ (slice_index_or marks e Write ≡ Kill)

-- exactly the kept occurrences write, and exactly the kills kill
pub record PointMarks (events : List Event) (kept : List ℕ) (marks : List Mark) : Type 0 where
  pub len : length marks ≡ length events
  pub writes : (v : ℕ) → v < length events → (slice_index_or marks v Write ≡ Write) ↔ ((slice_index_or events v Occurs ≡ Occurs) × Contains kept v)
  pub kills : (v : ℕ) → v < length events → (slice_index_or marks v Write ≡ Kill) ↔ (slice_index_or events v Occurs ≡ Kills)

-- the point is a deleted occurrence by its mark
abbrev pub DeletedBy : List Event → List Mark → ℕ → Type 0
DeletedBy events marks v = (slice_index_or events v Occurs ≡ Occurs) × ¬ (slice_index_or marks v Write ≡ Write)

-- and its bit is set
abbrev pub DeletedAndSet : List Event → List Mark → List Bool → ℕ → Type 0
DeletedAndSet events marks bits v = (slice_index_or events v Occurs ≡ Occurs) × ¬ (slice_index_or marks v Write ≡ Write) × IsSet bits v

-- exactly the deleted ones of the first n points are set
pub record DeletedBits (events : List Event) (points : List Mark) (n : ℕ) (bits : List Bool) : Type 0 where
  pub len : length bits ≡ n
  pub bits_are : (v : ℕ) → v < n → IsSet bits v ↔ DeletedBy events points v
