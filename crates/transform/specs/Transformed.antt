-- When a module is another with placements applied.
use Rattle.std.specs.Prelude.{◌≡◌, ◌<◌, ◌^◌, ℕ, true, false, List, [], Some, length, take, slice_get, sum_by, count_by}
use Rattle.ir_types.specs.Program.{Program}
use Rattle.ir_types.specs.declared.syntax.Function.{Function}
use Rattle.point_graph.specs.Numbers.{ArePoints}
use Rattle.expressions.specs.Tables.{IsTable}
use Rattle.applied.specs.Motion.{Move, IsMove}
use Rattle.applied.specs.Applied.{Plan}
use Rattle.applied.specs.Built.{applied}
use Rattle.ir_machine.specs.Same.{Same, is_defined}
use Rattle.planning.specs.PlanOf.{IsMoveOf, IsPlanOf, ArePlacementsOf}
use Rattle.transform.specs.declared.placed.Placed.{Placed}

-- the points, the table and one placement for each expression, inserted at fewer than 2^28 edges in all
pub record IsPlacedIn (m : Program) (f : Function) (q : Placed) : Type 0 where
  pub are_points : ArePoints f q.points
  pub of_module : q.table.module_of ≡ m
  pub is_table : IsTable f q.points q.table
  pub placements : ArePlacementsOf f q.points q.table q.placements
  pub few : sum_by (λ placement. length placement.inserted) q.placements < 2 ^ 28

-- what the placements make of each expression is correct, and safe where it can trap
pub record IsSoundIn (m : Program) (f : Function) (q : Placed) : Type 0 where
  pub placed : IsPlacedIn m f q
  pub are_moves : (move : Move) → IsMoveOf f q.points q.table q.placements move → IsMove m f move

-- how many functions with blocks come before the function k
abbrev pub defined_before : List Function → ℕ → ℕ
defined_before fs k = count_by (λ f. is_defined f.blocks) (take k fs)

-- what is placed in the function k, which has blocks, has P
pub record HasPlaced (P : Function → Placed → Type 0) (fs : List Function) (qs : List Placed) (k : ℕ) (f : Function) : Type 0 where
  pub placed : Placed
  pub there : slice_get qs (defined_before fs k) ≡ Some placed
  pub holds : P f placed

-- each function that has blocks has its own of these, in text order
pub record Each (P : Function → Placed → Type 0) (fs : List Function) (qs : List Placed) : Type 0 where
  pub count : length qs ≡ defined_before fs (length fs)
  pub each : (k : ℕ) (f : Function) → slice_get fs k ≡ Some f → is_defined f.blocks ≡ true → HasPlaced P fs qs k f

-- the plan of what is placed in a function
abbrev pub IsPlanOfPlaced : Plan → Function → Placed → Type 0
IsPlanOfPlaced plan f q = IsPlanOf f q.points q.table q.placements plan

-- the plans of the functions: nothing is done to a declaration
pub record ArePlansOf (plans : ℕ → Plan) (fs : List Function) (qs : List Placed) : Type 0 where
  pub declared : (k : ℕ) (f : Function) → slice_get fs k ≡ Some f → is_defined f.blocks ≡ false → (plans k).moves ≡ []
  pub defined : (k : ℕ) (f : Function) → slice_get fs k ≡ Some f → is_defined f.blocks ≡ true → HasPlaced (IsPlanOfPlaced (plans k)) fs qs k f

-- m' is m with these placements applied, and does what m does
pub record IsTransformed (m : Program) (placed : List Placed) (m' : Program) : Type 0 where
  pub plans : ℕ → Plan
  pub are_plans : ArePlansOf plans m.functions placed
  pub is_applied : m' ≡ applied m plans
  pub same : Same m m'
