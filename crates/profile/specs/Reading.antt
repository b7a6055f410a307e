-- What the text of a profile means, or why it is refused.
use Rattle.std.specs.Prelude.{◌≡◌, ◌≢◌, ◌<◌, ◌≤◌, ◌+◌, ◌^◌, ◌⊎◌, ℕ, Bool, List, [], ◌∷◌, ◌++◌, All, IsTrue, Some, take, map, length, slice_get, sum_by}
use Rattle.std.specs.List.{AllZip}
use Rattle.ir_types.specs.Program.{Program}
use Rattle.ir_types.specs.declared.syntax.Block.{Block}
use Rattle.ir_types.specs.declared.syntax.Function.{Function}
use Rattle.flow_graph.specs.Paths.{IsReached, AreReached}
use Rattle.profile.specs.declared.counts.FnCounts.{FnCounts}
use Rattle.profile.specs.declared.reading.ProfileError.{ProfileError}
use Rattle.profile.specs.declared.reading.ProfileError.TheVariants.{Form, Shape, Unbalanced, Unreached, Total, NoMemory}
use Rattle.profile.specs.Counts.{defined, HasShape, IsBalanced, IsUnreachedZero, IsAccepted, entering, leaving, goes_on, total}
use Rattle.profile.specs.declared.lines.Line.{Line}
use Rattle.profile.specs.declared.lines.Line.TheVariants as line
use Rattle.profile.specs.Text.{numbers, line_text, first_line, text_of_lines, lines, prof_text, width}

-- ---- lines of the forms

-- each number is at most 2^64 - 1
abbrev pub Fits : Line → Type 0
Fits l = All (λ n. n < 2 ^ 64) (numbers l)

-- the text consists of the first line and of these lines
pub record HasLines (bytes : List ℕ) (ls : List Line) : Type 0 where
  pub text : bytes ≡ text_of_lines ls
  pub fit : All Fits ls

-- the text begins with a line
pub record BeginsWithLine (bytes : List ℕ) : Type 0 where
  pub line : Line
  pub fits : Fits line
  pub rest : List ℕ
  pub text : bytes ≡ line_text line ++ rest

-- the text goes on behind the first line and these lines, and not by a line of a form
pub record StopsBehind (bytes : List ℕ) (ls : List Line) : Type 0 where
  pub fit : All Fits ls
  pub rest : List ℕ
  pub text : bytes ≡ text_of_lines ls ++ rest
  pub goes_on : rest ≢ []
  pub formless : ¬ (BeginsWithLine rest)

-- the text doesn't begin by the first line
abbrev pub LacksFirstLine : List ℕ → Type 0
LacksFirstLine bytes = (rest : List ℕ) → bytes ≢ first_line ++ rest

-- the first line that is of no form, counted from 1
abbrev pub IsFormless : List ℕ → ℕ → Type 0
IsFormless bytes line = ((line ≡ 1) × LacksFirstLine bytes) ⊎ ((ls : List Line) × StopsBehind bytes ls × (line ≡ length ls + 2))

-- ---- the shape of the module

-- the word and the number of a line, and how many counts it has
pub data Outline : Type 0 where
  FunctionLine : ℕ → Outline
  BlockLine : ℕ → ℕ → Outline

abbrev pub outline : Line → Outline
outline (line.Function k _) = FunctionLine k
outline (line.Block b ns) = BlockLine b (length ns)

-- the outlines that the module's lines have
abbrev pub block_outlines : ℕ → List Block → List Outline
block_outlines b [] = []
block_outlines b (x ∷ xs) = BlockLine b (width x) ∷ block_outlines (b + 1) xs

abbrev pub function_outlines : ℕ → List Function → List Outline
function_outlines k [] = []
function_outlines k (f ∷ fs) = FunctionLine k ∷ (block_outlines 0 f.blocks ++ function_outlines (k + 1) fs)

abbrev pub outlines : Program → List Outline
outlines m = function_outlines 0 (defined m)

-- two lists agree up to this place, and not at it
pub record IsFirstDifference {X : Type 0} (xs ys : List X) (place : ℕ) : Type 0 where
  pub before : take place xs ≡ take place ys
  pub differs : slice_get xs place ≢ slice_get ys place

-- the first line that isn't the module's, counted from 1
pub record IsMisshapen (m : Program) (bytes : List ℕ) (line : ℕ) : Type 0 where
  pub read : List Line
  pub has : HasLines bytes read
  pub place : ℕ
  pub first : IsFirstDifference (outlines m) (map outline read) place
  pub line_is : line ≡ place + 2

-- ---- the counts

-- the text is that of these counts of the module's shape
pub record Says (m : Program) (bytes : List ℕ) (counts : List FnCounts) : Type 0 where
  pub shape : HasShape m counts
  pub has : HasLines bytes (lines m counts)

-- of the reached blocks that don't end by `ret` this one is the first out of balance, with what enters and what leaves
pub record IsFirstUnbalanced (f : Function) (c : FnCounts) (b into out : ℕ) : Type 0 where
  pub test : ℕ → Bool
  pub reached : AreReached f test
  pub here : IsTrue (test b) × IsTrue (goes_on f b)
  pub sums : (into ≡ entering test f c b) × (out ≡ leaving f c b)
  pub differ : into ≢ out
  pub first : (a : ℕ) → a < b → IsTrue (test a) → IsTrue (goes_on f a) → entering test f c a ≡ leaving f c a

-- this block is the first unreached one that something leaves
pub record IsFirstUnreached (f : Function) (c : FnCounts) (b : ℕ) : Type 0 where
  pub unreached : ¬ (IsReached f b)
  pub leaves : 0 < leaving f c b
  pub first : (a : ℕ) → a < b → ¬ (IsReached f a) → leaving f c a ≡ 0

-- of these functions and their counts the one at place k is the first that is not good, and it is bad in this way
pub record IsFirstBad (Good Bad : Function → FnCounts → Type 0) (fs : List Function) (cs : List FnCounts) (k : ℕ) : Type 0 where
  pub before : AllZip Good (take k fs) (take k cs)
  pub function : Function
  pub counts : FnCounts
  pub is_function : slice_get fs k ≡ Some function
  pub is_counts : slice_get cs k ≡ Some counts
  pub bad : Bad function counts

-- ---- the answers

-- the text is the profile of accepted counts
pub record Reads (m : Program) (bytes : List ℕ) (counts : List FnCounts) : Type 0 where
  pub text : bytes ≡ prof_text m counts
  pub accepted : IsAccepted m counts

-- some counts that the text says, and what is wrong with them
pub record SaysBad (m : Program) (bytes : List ℕ) (Wrong : List FnCounts → Type 0) : Type 0 where
  pub counts : List FnCounts
  pub says : Says m bytes counts
  pub wrong : Wrong counts

-- A text is refused: a line is of no form, or isn't the module's, or the counts are out of balance, or leave an unreached block, or are too many; the first in this order.
abbrev pub Refuses : Program → List ℕ → ProfileError → Type 0
Refuses m bytes (Form line) = IsFormless bytes line
Refuses m bytes (Shape line) = IsMisshapen m bytes line
Refuses m bytes (Unbalanced k b into out) = SaysBad m bytes (λ counts. IsFirstBad IsBalanced (λ f c. IsFirstUnbalanced f c b into out) (defined m) counts k)
Refuses m bytes (Unreached k b) = SaysBad m bytes (λ counts. AllZip IsBalanced (defined m) counts × IsFirstBad IsUnreachedZero (λ f c. IsFirstUnreached f c b) (defined m) counts k)
Refuses m bytes Total = SaysBad m bytes (λ counts. AllZip IsBalanced (defined m) counts × AllZip IsUnreachedZero (defined m) counts × (2 ^ 62 ≤ sum_by total counts))
Refuses m bytes NoMemory = Unit {0}

-- a text says the profile of one list of counts at most, or is refused for one reason at most, and not both
pub record HasOneAnswer (m : Program) (bytes : List ℕ) : Type 0 where
  pub one_profile : (c d : List FnCounts) → Reads m bytes c → Reads m bytes d → c ≡ d
  pub one_refusal : (e f : ProfileError) → Refuses m bytes e → Refuses m bytes f → e ≢ NoMemory → f ≢ NoMemory → e ≡ f
  pub not_both : (c : List FnCounts) (e : ProfileError) → Reads m bytes c → Refuses m bytes e → e ≡ NoMemory
