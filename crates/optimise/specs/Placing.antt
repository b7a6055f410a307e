-- What is placed so far.
use Rattle.std.specs.Prelude.{◌≡◌, ◌<◌, ◌^◌, ℕ, true, List, Some, length, slice_get}
use Rattle.std.specs.List.{AllByRecursion}
use Rattle.ir_types.specs.Program.{Program}
use Rattle.ir_types.specs.declared.syntax.Function.{Function}
use Rattle.ir_machine.specs.Same.{is_defined}
use Rattle.point_graph.specs.declared.graph.Points.{Points}
use Rattle.expressions.specs.Kept.{Kept}
use Rattle.profile.specs.Counts.{HasSlots, IsUnreachedZero, total}
use Rattle.profile.specs.declared.counts.FnCounts.{FnCounts}
use Rattle.certificate.specs.Limits.{EntryIsWithin}
use Rattle.certificate.specs.declared.types.Entry.{Entry}
use Rattle.certified.specs.Certified.{AreGood}
use Rattle.transform.specs.Transformed.{defined_before}
use Rattle.optimise.specs.Choice.{IsChosenEntry, IsCrowded, IsPlacedBy}
use Rattle.optimise.specs.Written.{AreWritten}
use Rattle.optimise.specs.declared.choosing.Chosen.{Chosen}
use Rattle.optimise.specs.declared.error.OptimiseError.{OptimiseError}
use Rattle.optimise.specs.declared.error.OptimiseError.TheVariants.{TooMany, NoMemory}

-- what is asked of the counts of a function
pub record AreCountsOf (f : Function) (counts : FnCounts) : Type 0 where
  pub slots : HasSlots f counts
  pub unreached : IsUnreachedZero f counts
  pub total : total counts < 2 ^ 62

-- the entries of the first n expressions have what is chosen
pub record AreChosenEntries (f : Function) (p : Points) (t : Kept) (counts : FnCounts) (n : ℕ) (entries : List Entry) : Type 0 where
  pub count : length entries ≡ n
  pub each : (x : ℕ) (entry : Entry) → slice_get entries x ≡ Some entry → IsChosenEntry f p t counts x entry

-- what is placed in a function is chosen, and its entries show it
pub record IsChosenIn (m : Program) (f : Function) (counts : FnCounts) (c : Chosen) : Type 0 where
  pub placed : IsPlacedBy m f counts c.placed
  pub good : AreGood m f counts c.entries c.placed
  pub written : AreWritten f c.placed.points c.placed.table counts c.entries
  pub within : AllByRecursion EntryIsWithin c.entries

-- why nothing is placed in a function
abbrev pub IsUnplaced : Program → Function → FnCounts → OptimiseError → Type 0
IsUnplaced m f counts TooMany = IsCrowded m f counts
IsUnplaced m f counts NoMemory = Unit {0}

-- what is chosen in the function k is the one at its place
pub record HasChosenIn (m : Program) (counts : List FnCounts) (chosen : List Chosen) (k : ℕ) (f : Function) : Type 0 where
  pub own : FnCounts
  pub counted : slice_get counts (defined_before m.functions k) ≡ Some own
  pub chosen_here : Chosen
  pub there : slice_get chosen (defined_before m.functions k) ≡ Some chosen_here
  pub holds : IsChosenIn m f own chosen_here

-- what is chosen in the first n functions
pub record ChosenSoFar (m : Program) (counts : List FnCounts) (n : ℕ) (chosen : List Chosen) : Type 0 where
  pub count : length chosen ≡ defined_before m.functions n
  pub each : (k : ℕ) (f : Function) → k < n → slice_get m.functions k ≡ Some f → is_defined f.blocks ≡ true → HasChosenIn m counts chosen k f
  pub within : AllByRecursion (λ (c : Chosen). AllByRecursion EntryIsWithin c.entries) chosen
