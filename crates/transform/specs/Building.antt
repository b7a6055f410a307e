-- How the new functions come one after another.
use Rattle.std.specs.Prelude.{◌≡◌, ◌<◌, ℕ, true, false, List, [], Some, length, slice_get}
use Rattle.ir_types.specs.declared.syntax.Function.{Function}
use Rattle.ir_machine.specs.Same.{is_defined}
use Rattle.applied.specs.Applied.{Naming, Plan}
use Rattle.applied.specs.Built.{applied_function}
use Rattle.transform.specs.declared.placed.Placed.{Placed}
use Rattle.ir_types.specs.Program.{Program}
use Rattle.ir_types.specs.Limits.{IsWithinLimits}
use Rattle.ir_types.specs.WellFormed.{IsWellFormed}
use Rattle.transform.specs.Transformed.{HasPlaced, IsPlanOfPlaced, IsSoundIn}

-- the plan by which nothing is done
abbrev pub no_naming : Naming
no_naming = record { prefix = 0; edge_number = λ edge. 0 }

abbrev pub no_plan : Plan
no_plan = record { naming = no_naming; moves = [] }

-- the new function by the plan of what is placed in the old one
pub record IsNewFunction (f : Function) (q : Placed) (new : Function) : Type 0 where
  pub plan : Plan
  pub plan_of : IsPlanOfPlaced plan f q
  pub is_new : new ≡ applied_function plan f

-- the plan of the function k
pub record IsPlanAt (fs : List Function) (qs : List Placed) (k : ℕ) (f : Function) (plan : Plan) : Type 0 where
  pub declared : is_defined f.blocks ≡ false → plan ≡ no_plan
  pub defined : is_defined f.blocks ≡ true → HasPlaced (IsPlanOfPlaced plan) fs qs k f

-- the new function k by its plan
pub record IsNewAt (fs : List Function) (qs : List Placed) (k : ℕ) (new : Function) : Type 0 where
  pub function : Function
  pub there : slice_get fs k ≡ Some function
  pub plan : Plan
  pub plan_at : IsPlanAt fs qs k function plan
  pub is_new : new ≡ applied_function plan function

-- these are the new functions, from the first on
pub record HasNew (fs : List Function) (qs : List Placed) (news : List Function) (k : ℕ) : Type 0 where
  pub new : Function
  pub new_there : slice_get news k ≡ Some new
  pub is_new_at : IsNewAt fs qs k new

pub record AreNew (fs : List Function) (qs : List Placed) (n : ℕ) (news : List Function) : Type 0 where
  pub count : length news ≡ n
  pub each : (k : ℕ) → k < n → HasNew fs qs news k

-- a function with blocks of a module, with what is placed in it
pub record IsReady (m : Program) (f : Function) (q : Placed) : Type 0 where
  pub rules : IsWellFormed m
  pub number : ℕ
  pub there : slice_get m.functions number ≡ Some f
  pub defined : is_defined f.blocks ≡ true
  pub limits : IsWithinLimits f
  pub sound : IsSoundIn m f q
