-- When the applied module keeps the rules of modules.
use Rattle.std.specs.Prelude.{◌≡◌, ◌≢◌, ◌<◌, ◌≤◌, ◌^◌, ℕ, true, List, Some, AllPairs, Contains, length, slice_get, sum_by}
use Rattle.std.specs.List.{AllZip}
use Rattle.ir_types.specs.Limits.{IsWithinLimits}
use Rattle.ir_types.specs.Program.{Program}
use Rattle.ir_types.specs.WellFormed.{size, item_limit}
use Rattle.ir_types.specs.declared.syntax.Function.{Function}
use Rattle.point_graph.specs.Graph.{Edge}
use Rattle.applied.specs.Motion.{Move}
use Rattle.applied.specs.Applied.{Plan, IsPlan}
use Rattle.applied.specs.Built.{applied_function}

-- each function has its plan, and none becomes too large
pub record ArePlans (m : Program) (plans : ℕ → Plan) : Type 0 where
  pub each : (i : ℕ) (function : Function) → slice_get m.functions i ≡ Some function → IsPlan function (plans i)
  pub few : (i : ℕ) (function : Function) → slice_get m.functions i ≡ Some function → size (applied_function (plans i) function) < item_limit

-- the list of an expression has each edge where it is inserted
abbrev pub IsListed : Move → List Edge → Type 0
IsListed move edges = (edge : Edge) → move.inserted edge ≡ true → Contains edges edge

-- a function within the limits, with a plan for few expressions that differ, inserted at fewer than 2^28 edges in all
pub record IsSmallPlan (function : Function) (plan : Plan) : Type 0 where
  pub limits : IsWithinLimits function
  pub few : length plan.moves ≤ 2 ^ 18
  pub differ : AllPairs (λ move other. move.expr ≢ other.expr) plan.moves
  pub inserted : List (List Edge)
  pub listed : AllZip IsListed plan.moves inserted
  pub few_inserted : sum_by length inserted < 2 ^ 28
