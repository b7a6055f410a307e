-- Where invalid stretches of paths begin, and along which arcs they and unwritten ones last.
use Rattle.std.specs.Prelude.{◌≡◌, ◌<◌, ◌↔◌, ℕ, Bool, List, length, slice_index_or}
use Rattle.flow_paths.specs.declared.marks.Mark.{Mark}
use Rattle.flow_paths.specs.declared.marks.Mark.TheVariants.{Write, Kill, Pass}
use Rattle.flow_paths.specs.Paths.{source, target, Place, at_point, on_edge}
use Rattle.flow_paths.specs.Spreads.{IsSet}

-- the mark of two places in a row
abbrev pub then_mark : Mark → Mark → Mark
then_mark first Write = Write
then_mark first Kill = Kill
then_mark first Pass = first

-- the mark of an edge with the point that it leaves
abbrev pub arc_mark : (Place → Mark) → List (ℕ × ℕ) → ℕ → Mark
arc_mark mark arcs e = then_mark (mark (at_point (source arcs e))) (mark (on_edge e))

-- arc e is among the first n, and neither writes nor kills
abbrev pub PassesAt : (Place → Mark) → List (ℕ × ℕ) → ℕ → ℕ → Type 0
PassesAt mark arcs n e = (e < n) × (arc_mark mark arcs e ≡ Pass)

-- a reached arc that kills, among the first n, ends at v
pub record IsKilledBefore (mark : Place → Mark) (arcs : List (ℕ × ℕ)) (reached : List Bool) (n v : ℕ) : Type 0 where
  pub arc : ℕ
  pub is_arc : arc < n
  pub kills : arc_mark mark arcs arc ≡ Kill
  pub is_reached : IsSet reached (source arcs arc)
  pub ends : target arcs arc ≡ v

-- exactly the edges that do not write, and leave points that do not, pass
pub record AreUnwritten (arcs : List (ℕ × ℕ)) (points edges : List Mark) (n : ℕ) (passes : List Bool) : Type 0 where
  pub len : length passes ≡ n
  pub passes_are : (e : ℕ) → e < n → IsSet passes e ↔ (¬ (slice_index_or points (source arcs e) Write ≡ Write) × ¬ (slice_index_or edges e Write ≡ Write))
