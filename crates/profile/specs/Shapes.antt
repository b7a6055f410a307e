-- The lines of a text beside those of a module.
use Rattle.std.specs.Prelude.{◌≡◌, ◌<◌, ◌≤◌, ◌+◌, ℕ, List, ◌∷◌, take, drop, length}
use Rattle.ir_types.specs.declared.syntax.Block.{Block}
use Rattle.ir_types.specs.declared.syntax.Function.{Function}
use Rattle.flow_graph.specs.Slots.{slots_from}
use Rattle.profile.specs.declared.counts.FnCounts.{FnCounts}
use Rattle.profile.specs.declared.lines.Line.{Line}
use Rattle.profile.specs.declared.lines.Line.TheVariants as line
use Rattle.profile.specs.declared.reading.ProfileError.{ProfileError}
use Rattle.profile.specs.declared.reading.ProfileError.TheVariants.{Shape, NoMemory}
use Rattle.profile.specs.Counts.{HasSlots}
use Rattle.profile.specs.Text.{block_lines}
use Rattle.profile.specs.Reading.{Outline, IsFirstDifference}

-- from an index on, the outlines differ from those that are wanted, first at this line
pub record DiffersAt (wanted there : List Outline) (at line : ℕ) : Type 0 where
  pub place : ℕ
  pub inside : place < length wanted
  pub first : IsFirstDifference wanted (drop at there) place
  pub line_is : line ≡ at + place + 2

abbrev pub FailsAt : List Outline → List Outline → ℕ → ProfileError → Type 0
FailsAt wanted there at (Shape line) = DiffersAt wanted there at line
FailsAt wanted there at NoMemory = Unit {0}
FailsAt wanted there at _ = ⊥

-- from an index on, the lines are those of these blocks with these counts
pub record AreBlocks (blocks : List Block) (read : List Line) (at : ℕ) (counts : List ℕ) : Type 0 where
  pub inside : at + length blocks ≤ length read
  pub len : length counts ≡ length (slots_from 0 blocks)
  pub same : take (length blocks) (drop at read) ≡ block_lines 0 blocks counts

-- from an index on, the lines are those of a function with these counts
pub record AreFunction (f : Function) (k : ℕ) (read : List Line) (at : ℕ) (c : FnCounts) : Type 0 where
  pub inside : at + 1 + length f.blocks ≤ length read
  pub slots : HasSlots f c
  pub same : take (1 + length f.blocks) (drop at read) ≡ line.Function k c.entry ∷ block_lines 0 f.blocks c.slots
