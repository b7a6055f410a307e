-- What marks say of paths.
use Rattle.std.specs.Prelude.{◌≡◌, ℕ, Bool, List, All, slice_index_or}
use Rattle.flow_paths.specs.declared.marks.Mark.{Mark}
use Rattle.flow_paths.specs.declared.marks.Mark.TheVariants.{Write, Kill}
use Rattle.flow_paths.specs.Paths.{Place, at_point, on_edge, IsPath, IsValid, WritesLast, met}
use Rattle.flow_paths.specs.Spreads.{IsSet}

-- the mark of a place, by those of the points and those of the edges
abbrev pub mark_at : List Mark → List Mark → Place → Mark
mark_at points edges (at_point v) = slice_index_or points v Write
mark_at points edges (on_edge e) = slice_index_or edges e Write

-- some write has no kill after it
abbrev pub ValidBy : (Place → Mark) → List Place → Type 0
ValidBy mark places = IsValid (λ m. mark m ≡ Write) (λ m. mark m ≡ Kill) places

-- a write comes after the last kill, or there is a write and no kill
abbrev pub WritesLastBy : (Place → Mark) → List Place → Type 0
WritesLastBy mark places = WritesLast (λ m. mark m ≡ Write) (λ m. mark m ≡ Kill) places

-- some path from point 0 reaches v and is not valid there
pub record ReachedInvalid (arcs : List (ℕ × ℕ)) (mark : Place → Mark) (v : ℕ) : Type 0 where
  pub path : List ℕ
  pub leads : IsPath arcs 0 path v
  pub invalid : ¬ ValidBy mark (met arcs path)

-- some path from v meets a goal with no write before it
pub record MeetsUnwritten (arcs : List (ℕ × ℕ)) (mark : Place → Mark) (goals : List Bool) (v : ℕ) : Type 0 where
  pub path : List ℕ
  pub goal : ℕ
  pub leads : IsPath arcs v path goal
  pub is_goal : IsSet goals goal
  pub unwritten : All (λ m. ¬ (mark m ≡ Write)) (met arcs path)
