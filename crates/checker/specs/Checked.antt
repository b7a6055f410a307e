-- What the checks of a certificate tell, one by one.
use Rattle.std.specs.Prelude.{◌≡◌, ◌<◌, ◌^◌, ℕ, List, Some, length, slice_get}
use Rattle.ir_types.specs.declared.syntax.Function.{Function}
use Rattle.point_graph.specs.Numbers.{ArePoints}
use Rattle.expressions.specs.Tables.{IsTable}
use Rattle.profile.specs.Counts.{HasSlots, IsUnreachedZero, total}
use Rattle.profile.specs.declared.counts.FnCounts.{FnCounts}
use Rattle.certificate.specs.declared.types.Entry.{Entry}
use Rattle.certificate.specs.declared.types.Certificate.{Certificate}
use Rattle.certified.specs.Entries.{IsGood}
use Rattle.entry_check.specs.Faults.{IsFault}
use Rattle.entry_check.specs.declared.fault.Fault.{Fault}
use Rattle.entry_check.specs.declared.fault.Fault.TheVariants as faults
use Rattle.checker.specs.Reasons.{AreLengths, DiffersAt, EntryAt, IsFirstCrowded, IsFirstDifference, IsFirstFault, IsGoodAt, NoneIsCrowded}
use Rattle.checker.specs.declared.numbered.Numbered.{Numbered}
use Rattle.checker.specs.declared.verdict.Reason.{Reason}
use Rattle.checker.specs.declared.verdict.Reason.TheVariants.{Shape, Missing, Incorrect, Unsafe, Capacity, Balance, Value, Rank, Places, Text}
use Rattle.checker.specs.declared.verdict.Verdict.{Verdict}
use Rattle.checker.specs.declared.verdict.Verdict.TheVariants.{Yes, No}

-- ---- lengths and sums

-- the reason is the shape at this function and this expression
abbrev pub IsShapeOf : (ℕ → ℕ → Type 0) → Reason → Type 0
IsShapeOf P (Shape function expression) = P function expression
IsShapeOf P _ = ⊥

abbrev pub NoneDiffers : List Numbered → Certificate → Type 0
NoneDiffers numbered certificate = (k n : ℕ) → ¬ (DiffersAt numbered certificate k n)

abbrev pub IsFirstOther : List Numbered → Certificate → ℕ → ℕ → Type 0
IsFirstOther numbered certificate function expression =
    DiffersAt numbered certificate function expression × ((k n : ℕ) → k < function → ¬ (DiffersAt numbered certificate k n))

abbrev pub IsCrowdedShape : Certificate → ℕ → ℕ → Type 0
IsCrowdedShape certificate function expression = IsFirstCrowded certificate function × (expression ≡ 0)

-- ---- the entries of a function

-- what is asked of a function
pub record HasRules (q : Numbered) : Type 0 where
  pub defined : 0 < length q.function.now.blocks
  pub are_points : ArePoints q.function.now q.points
  pub is_table : IsTable q.function.now q.points q.table

-- what is asked of the counts of a function
pub record IsCounting (f : Function) (own : FnCounts) : Type 0 where
  pub slots : HasSlots f own
  pub unreached : IsUnreachedZero f own
  pub total : total own < 2 ^ 62

-- the first n of these entries are good
abbrev pub AreGoodEntries : Numbered → FnCounts → List Entry → ℕ → Type 0
AreGoodEntries q own entries n = (x : ℕ) (entry : Entry) → x < n → slice_get entries x ≡ Some entry → IsGood q.function.now q.points q.table own x entry

-- the fault of an entry, with where the entry is
abbrev pub reason_of : (function expression : ℕ) → Fault → Reason
reason_of function expression faults.Lists = Shape function expression
reason_of function expression faults.Missing = Missing function expression
reason_of function expression (faults.Incorrect point) = Incorrect function expression point
reason_of function expression (faults.Unsafe edge) = Unsafe function expression edge
reason_of function expression (faults.Capacity arc) = Capacity function expression arc
reason_of function expression (faults.Balance node) = Balance function expression node
reason_of function expression (faults.Value cost sum) = Value function expression cost sum
reason_of function expression (faults.Rank node) = Rank function expression node
reason_of function expression faults.Places = Places function expression

-- the first of the entries of function k that isn't good has this fault
pub record IsReasonIn (q : Numbered) (own : FnCounts) (entries : List Entry) (k : ℕ) (reason : Reason) : Type 0 where
  pub expression : ℕ
  pub fault : Fault
  pub entry : Entry
  pub entered : slice_get entries expression ≡ Some entry
  pub is_fault : IsFault q.function.now q.points q.table own expression entry fault
  pub not_good : ¬ (IsGood q.function.now q.points q.table own expression entry)
  pub before : AreGoodEntries q own entries expression
  pub is : reason ≡ reason_of k expression fault

-- ---- the entries of all functions

-- a function of this number has its own counts
pub record HasCounts (counts : List FnCounts) (j : ℕ) (q : Numbered) : Type 0 where
  pub own : FnCounts
  pub there : slice_get counts j ≡ Some own
  pub are : IsCounting q.function.now own

-- the functions can be checked with these counts
pub record AreReady (numbered : List Numbered) (counts : List FnCounts) : Type 0 where
  pub rules : (j : ℕ) (q : Numbered) → slice_get numbered j ≡ Some q → HasRules q
  pub counted : (j : ℕ) (q : Numbered) → slice_get numbered j ≡ Some q → HasCounts counts j q

-- the entries of the first n functions are good
abbrev pub NoneIsFaulty : List FnCounts → List Numbered → Certificate → ℕ → Type 0
NoneIsFaulty counts numbered certificate n = (k x : ℕ) (at : EntryAt counts numbered certificate k x) → k < n → IsGoodAt counts numbered certificate k x at

-- the first entry that isn't good has the fault that the reason tells
pub record IsReasonAt (counts : List FnCounts) (numbered : List Numbered) (certificate : Certificate) (reason : Reason) : Type 0 where
  pub function : ℕ
  pub expression : ℕ
  pub fault : Fault
  pub first : IsFirstFault counts numbered certificate function expression fault
  pub is : reason ≡ reason_of function expression fault

-- the certificate is good
pub record IsChecked (counts : List FnCounts) (numbered : List Numbered) (certificate : Certificate) : Type 0 where
  pub lengths : AreLengths numbered certificate
  pub none_crowded : NoneIsCrowded certificate
  pub good : (k x : ℕ) (at : EntryAt counts numbered certificate k x) → IsGoodAt counts numbered certificate k x at

-- ---- texts

-- the verdict on a text that should be another
abbrev pub Tells : List ℕ → List ℕ → Verdict → Type 0
Tells text expected Yes = text ≡ expected
Tells text expected (No (Text place)) = IsFirstDifference text expected place
Tells text expected (No _) = ⊥
