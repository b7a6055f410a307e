-- Why a certificate, or the text beside it, is refused: the first reason.
use Rattle.std.specs.Prelude.{◌≡◌, ◌≢◌, ◌⊎◌, ◌<◌, ◌≤◌, ◌^◌, ℕ, true, List, Some, length, min, slice_get, take}
use Rattle.ir_types.specs.Program.{Program}
use Rattle.ir_types.specs.declared.syntax.Function.{Function}
use Rattle.ir_printer.specs.Text.{text_of}
use Rattle.ir_machine.specs.Same.{is_defined}
use Rattle.point_graph.specs.Numbers.{ArePoints}
use Rattle.expressions.specs.Tables.{IsTable}
use Rattle.profile.specs.declared.counts.FnCounts.{FnCounts}
use Rattle.certificate.specs.declared.types.Entry.{Entry}
use Rattle.certificate.specs.declared.types.Certificate.{Certificate}
use Rattle.transform.specs.Transformed.{defined_before}
use Rattle.certified.specs.Entries.{IsGood}
use Rattle.certified.specs.Certified.{IsCertified, insertions, placements_in}
use Rattle.entry_check.specs.Faults.{IsFault}
use Rattle.entry_check.specs.declared.fault.Fault.{Fault}
use Rattle.entry_check.specs.declared.fault.Fault.TheVariants as faults
use Rattle.checker.specs.declared.numbered.Numbered.{Numbered}
use Rattle.checker.specs.declared.verdict.Reason.{Reason}
use Rattle.checker.specs.declared.verdict.Reason.TheVariants.{Shape, Missing, Incorrect, Unsafe, Capacity, Balance, Value, Rank, Places, Text}

-- ---- the functions that have blocks

-- the function with its points and its table
pub record IsNumbered (m : Program) (f : Function) (q : Numbered) : Type 0 where
  pub function : q.function.now ≡ f
  pub are_points : ArePoints f q.points
  pub of_module : q.table.module_of ≡ m
  pub is_table : IsTable f q.points q.table

pub record HasNumbers (m : Program) (numbered : List Numbered) (k : ℕ) (f : Function) : Type 0 where
  pub numbers : Numbered
  pub there : slice_get numbered (defined_before m.functions k) ≡ Some numbers
  pub are : IsNumbered m f numbers

-- the functions that have blocks, in text order
pub record AreNumbered (m : Program) (numbered : List Numbered) : Type 0 where
  pub count : length numbered ≡ defined_before m.functions (length m.functions)
  pub each : (k : ℕ) (f : Function) → slice_get m.functions k ≡ Some f → is_defined f.blocks ≡ true → HasNumbers m numbered k f

-- ---- lengths

-- the function k has a list of entries of another length than its table; n is the shorter of the two
pub record DiffersAt (numbered : List Numbered) (certificate : Certificate) (k n : ℕ) : Type 0 where
  pub numbers : Numbered
  pub there : slice_get numbered k ≡ Some numbers
  pub entries : List Entry
  pub listed : slice_get certificate.functions k ≡ Some entries
  pub differs : length entries ≢ length numbers.table.exprs
  pub shorter : n ≡ min (length entries) (length numbers.table.exprs)

-- there isn't one list of entries for each function, or in this function, the first one, not one entry for each expression
abbrev pub IsWrongLength : List Numbered → Certificate → (function expression : ℕ) → Type 0
IsWrongLength numbered certificate function expression =
    ((length certificate.functions ≢ length numbered) × (function ≡ min (length certificate.functions) (length numbered)) × (expression ≡ 0))
    ⊎ ((length certificate.functions ≡ length numbered) × DiffersAt numbered certificate function expression
    × ((k n : ℕ) → k < function → ¬ (DiffersAt numbered certificate k n)))

abbrev pub AreLengths : List Numbered → Certificate → Type 0
AreLengths numbered certificate = (length certificate.functions ≡ length numbered) × ((k n : ℕ) → ¬ (DiffersAt numbered certificate k n))

-- ---- sums

-- the entries of the function k insert at 2^28 edges or more
pub record IsCrowded (certificate : Certificate) (k : ℕ) : Type 0 where
  pub entries : List Entry
  pub listed : slice_get certificate.functions k ≡ Some entries
  pub many : 2 ^ 28 ≤ insertions (placements_in entries)

abbrev pub IsFirstCrowded : Certificate → ℕ → Type 0
IsFirstCrowded certificate k = IsCrowded certificate k × ((i : ℕ) → i < k → ¬ (IsCrowded certificate i))

abbrev pub NoneIsCrowded : Certificate → Type 0
NoneIsCrowded certificate = (k : ℕ) → ¬ (IsCrowded certificate k)

-- ---- entries

-- the entry of expression x of the function k, and all that belongs to it
pub record EntryAt (counts : List FnCounts) (numbered : List Numbered) (certificate : Certificate) (k x : ℕ) : Type 0 where
  pub numbers : Numbered
  pub there : slice_get numbered k ≡ Some numbers
  pub own : FnCounts
  pub counted : slice_get counts k ≡ Some own
  pub entries : List Entry
  pub listed : slice_get certificate.functions k ≡ Some entries
  pub entry : Entry
  pub entered : slice_get entries x ≡ Some entry

abbrev pub IsGoodAt : (counts : List FnCounts) (numbered : List Numbered) (certificate : Certificate) (k x : ℕ) → EntryAt counts numbered certificate k x → Type 0
IsGoodAt counts numbered certificate k x at = IsGood at.numbers.function.now at.numbers.points at.numbers.table at.own x at.entry

-- the entry of expression x of the function k has the fault, so it isn't good; all entries before it are
pub record IsFirstFault (counts : List FnCounts) (numbered : List Numbered) (certificate : Certificate) (k x : ℕ) (fault : Fault) : Type 0 where
  pub at : EntryAt counts numbered certificate k x
  pub is_fault : IsFault at.numbers.function.now at.numbers.points at.numbers.table at.own x at.entry fault
  pub not_good : ¬ (IsGoodAt counts numbered certificate k x at)
  pub before : (i y : ℕ) → (i < k) ⊎ ((i ≡ k) × (y < x)) → (earlier : EntryAt counts numbered certificate i y) → IsGoodAt counts numbered certificate i y earlier

-- all lengths fit, no function has too many insertions, and this is the first entry with a fault
abbrev pub FaultsAt : List FnCounts → List Numbered → Certificate → (k x : ℕ) → Fault → Type 0
FaultsAt counts numbered certificate k x fault = AreLengths numbered certificate × NoneIsCrowded certificate × IsFirstFault counts numbered certificate k x fault

-- ---- texts

-- n is the place of the first byte that differs, or the shorter length
pub record IsFirstDifference (one other : List ℕ) (n : ℕ) : Type 0 where
  pub same : take n one ≡ take n other
  pub differs : slice_get one n ≢ slice_get other n

-- the module of the certificate has another text
pub record HasOtherText (m : Program) (counts : List FnCounts) (bytes : List ℕ) (certificate : Certificate) (n : ℕ) : Type 0 where
  pub program' : Program
  pub certified : IsCertified m counts certificate program'
  pub difference : IsFirstDifference bytes (text_of program') n

-- ---- the first reason

abbrev pub IsFirstReason : Program → List FnCounts → (bytes : List ℕ) → Certificate → List Numbered → Reason → Type 0
IsFirstReason m counts bytes certificate numbered (Shape function expression) =
    IsWrongLength numbered certificate function expression
    ⊎ (AreLengths numbered certificate × IsFirstCrowded certificate function × (expression ≡ 0))
    ⊎ FaultsAt counts numbered certificate function expression faults.Lists
IsFirstReason m counts bytes certificate numbered (Missing function expression) = FaultsAt counts numbered certificate function expression faults.Missing
IsFirstReason m counts bytes certificate numbered (Incorrect function expression point) = FaultsAt counts numbered certificate function expression (faults.Incorrect point)
IsFirstReason m counts bytes certificate numbered (Unsafe function expression edge) = FaultsAt counts numbered certificate function expression (faults.Unsafe edge)
IsFirstReason m counts bytes certificate numbered (Capacity function expression arc) = FaultsAt counts numbered certificate function expression (faults.Capacity arc)
IsFirstReason m counts bytes certificate numbered (Balance function expression node) = FaultsAt counts numbered certificate function expression (faults.Balance node)
IsFirstReason m counts bytes certificate numbered (Value function expression cost sum) = FaultsAt counts numbered certificate function expression (faults.Value cost sum)
IsFirstReason m counts bytes certificate numbered (Rank function expression node) = FaultsAt counts numbered certificate function expression (faults.Rank node)
IsFirstReason m counts bytes certificate numbered (Places function expression) = FaultsAt counts numbered certificate function expression faults.Places
IsFirstReason m counts bytes certificate numbered (Text byte) = HasOtherText m counts bytes certificate byte

-- the answer is No for this reason
pub record IsNo (m : Program) (counts : List FnCounts) (bytes : List ℕ) (certificate : Certificate) (reason : Reason) : Type 0 where
  pub numbered : List Numbered
  pub are : AreNumbered m numbered
  pub first : IsFirstReason m counts bytes certificate numbered reason
