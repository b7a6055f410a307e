-- What an optimised module is.
use Rattle.std.specs.Prelude.{◌≡◌, ℕ, true, List, Some, length, slice_get}
use Rattle.ir_types.specs.Program.{Program}
use Rattle.ir_types.specs.declared.syntax.Function.{Function}
use Rattle.ir_machine.specs.Same.{is_defined}
use Rattle.profile.specs.declared.counts.FnCounts.{FnCounts}
use Rattle.transform.specs.Transformed.{IsTransformed, defined_before}
use Rattle.transform.specs.declared.placed.Placed.{Placed}
use Rattle.certificate.specs.declared.types.Certificate.{Certificate}
use Rattle.certificate.specs.declared.types.Entry.{Entry}
use Rattle.certified.specs.Certified.{EachGood}
use Rattle.optimise.specs.Choice.{IsPlacedBy, IsCrowded}
use Rattle.optimise.specs.Written.{AreWritten}
use Rattle.optimise.specs.declared.error.OptimiseError.{OptimiseError}
use Rattle.optimise.specs.declared.error.OptimiseError.TheVariants.{TooMany, NoMemory}

-- what is placed in the function k is what its own counts choose
pub record HasChosen (m : Program) (counts : List FnCounts) (placed : List Placed) (k : ℕ) (f : Function) : Type 0 where
  pub own : FnCounts
  pub counted : slice_get counts (defined_before m.functions k) ≡ Some own
  pub placed_here : Placed
  pub there : slice_get placed (defined_before m.functions k) ≡ Some placed_here
  pub holds : IsPlacedBy m f own placed_here

-- what is placed in each function that has blocks is what its own counts choose
pub record EachChosen (m : Program) (counts : List FnCounts) (placed : List Placed) : Type 0 where
  pub count : length placed ≡ defined_before m.functions (length m.functions)
  pub each : (k : ℕ) (f : Function) → slice_get m.functions k ≡ Some f → is_defined f.blocks ≡ true → HasChosen m counts placed k f

-- m' is m with the placements applied that are chosen by these counts, and does what m does
pub record IsOptimised (m : Program) (counts : List FnCounts) (m' : Program) : Type 0 where
  pub placed : List Placed
  pub are_chosen : EachChosen m counts placed
  pub transformed : IsTransformed m placed m'

-- the entries of the function k in the certificate are written over its points, its table and its own counts
pub record HasWritten (m : Program) (counts : List FnCounts) (certificate : Certificate) (placed : List Placed) (k : ℕ) (f : Function) : Type 0 where
  pub own : FnCounts
  pub counted : slice_get counts (defined_before m.functions k) ≡ Some own
  pub entries : List Entry
  pub listed : slice_get certificate.functions (defined_before m.functions k) ≡ Some entries
  pub placed_here : Placed
  pub there : slice_get placed (defined_before m.functions k) ≡ Some placed_here
  pub written : AreWritten f placed_here.points placed_here.table own entries

-- so are the entries of each function that has blocks
abbrev pub EachWritten : Program → List FnCounts → Certificate → List Placed → Type 0
EachWritten m counts certificate placed = (k : ℕ) (f : Function) → slice_get m.functions k ≡ Some f → is_defined f.blocks ≡ true → HasWritten m counts certificate placed k f

-- m' is m with the placements applied that are chosen by these counts, and the certificate names them and shows that they are good
pub record IsOptimisedBy (m : Program) (counts : List FnCounts) (certificate : Certificate) (m' : Program) : Type 0 where
  pub placed : List Placed
  pub are_chosen : EachChosen m counts placed
  pub each_good : EachGood m counts certificate placed
  pub each_written : EachWritten m counts certificate placed
  pub transformed : IsTransformed m placed m'

-- in some function of m the placements that are chosen by its counts insert at 2^28 edges or more
pub record HasTooMany (m : Program) (counts : List FnCounts) : Type 0 where
  pub number : ℕ
  pub function : Function
  pub there : slice_get m.functions number ≡ Some function
  pub defined : is_defined function.blocks ≡ true
  pub own : FnCounts
  pub counted : slice_get counts (defined_before m.functions number) ≡ Some own
  pub crowded : IsCrowded m function own

-- why there is no optimised module
abbrev pub IsUnoptimised : Program → List FnCounts → OptimiseError → Type 0
IsUnoptimised m counts TooMany = HasTooMany m counts
IsUnoptimised m counts NoMemory = Unit {0}
