-- The functions that have blocks, as they are numbered one by one.
use Rattle.std.specs.Prelude.{◌≡◌, ◌<◌, ℕ, true, List, Some, length, map, take, filter, slice_get}
use Rattle.ir_types.specs.Program.{Program}
use Rattle.ir_types.specs.declared.syntax.Function.{Function}
use Rattle.ir_machine.specs.Same.{is_defined}
use Rattle.profile.specs.Counts as counts
use Rattle.transform.specs.Transformed.{defined_before}
use Rattle.checker.specs.Reasons.{HasNumbers, IsNumbered}
use Rattle.checker.specs.declared.numbered.Numbered.{Numbered}

-- the number j among the functions that have blocks is that of a function of the module
pub record IsOwn (m : Program) (j : ℕ) (q : Numbered) : Type 0 where
  pub number : ℕ
  pub there : slice_get m.functions number ≡ Some q.function.now
  pub defined : is_defined q.function.now.blocks ≡ true
  pub before : defined_before m.functions number ≡ j
  pub is_numbered : IsNumbered m q.function.now q

abbrev pub function_of : Numbered → Function
function_of q = q.function.now

-- the functions that have blocks among the first n
pub record AreNumberedSoFar (m : Program) (n : ℕ) (numbered : List Numbered) : Type 0 where
  pub count : length numbered ≡ defined_before m.functions n
  pub each : (k : ℕ) (f : Function) → k < n → slice_get m.functions k ≡ Some f → is_defined f.blocks ≡ true → HasNumbers m numbered k f
  pub functions : map function_of numbered ≡ filter counts.is_defined (take n m.functions)
  pub own : (j : ℕ) (q : Numbered) → slice_get numbered j ≡ Some q → IsOwn m j q
