-- A function with what is placed in it does not become too large, whatever is done to the others.
use Rattle.std.proofs.Common.{◌≡◌, ◌<◌, ◌^◌, ℕ, true, ◌==◌, if◌then◌else◌, List, [], ◌∷◌, Some, length, refl, sym, ap, subst, ◌∙◌, ⊎_elim, arith, sum_by}
use Rattle.std.specs.Prelude.{slice_get}
use Rattle.std.proofs.lemmas.Bool.Decides.{eqb_tells}
use Rattle.std.proofs.lemmas.Option.{none-some, same_Some, slice_get_within, get_or_from_slice_get}
use Rattle.ir_types.specs.Program.{Program}
use Rattle.ir_types.specs.Limits.{IsWithinLimits}
use Rattle.ir_types.specs.WellFormed.{IsWellFormed, size, item_limit}
use Rattle.ir_types.specs.declared.syntax.Function.{Function}
use Rattle.ir_machine.specs.Same.{is_defined}
use Rattle.point_graph.specs.Numbers.{ArePoints}
use Rattle.point_graph.specs.declared.graph.Points.{Points}
use Rattle.expressions.specs.Kept.{Kept}
use Rattle.expressions.specs.Tables.{IsTable}
use Rattle.placement.specs.declared.placements.Placement.{Placement}
use Rattle.applied.specs.Motion.{Move, IsMove}
use Rattle.applied.specs.Applied.{Plan, IsPlan, AreMoves}
use Rattle.applied.specs.Built.{applied_function}
use Rattle.applied_rules.specs.Plans.{IsSmallPlan}
use Rattle.planning.specs.PlanOf.{IsPlanOf, ArePlacementsOf}
use Rattle.transform.specs.declared.placed.Placed.{Placed}
use Rattle.transform.specs.Transformed.{IsPlanOfPlaced, IsSoundIn}
use Rattle.transform.specs.Building.{no_plan, IsReady}

-- what the laws of the crates below say of plans
pub record PlanLaws : Type 0 where
  pub is_plan : (f : Function) (p : Points) (t : Kept) (placements : List Placement) (plan : Plan) → 0 < length f.blocks → ArePoints f p → IsTable f p t → IsWithinLimits f
      → ArePlacementsOf f p t placements → IsPlanOf f p t placements plan → IsPlan f plan
  pub is_small : (f : Function) (p : Points) (t : Kept) (placements : List Placement) (plan : Plan) → 0 < length f.blocks → ArePoints f p → IsTable f p t → IsWithinLimits f
      → ArePlacementsOf f p t placements → IsPlanOf f p t placements plan → sum_by (λ placement. length placement.inserted) placements < 2 ^ 28 → IsSmallPlan f plan
  pub small_fits : (m : Program) (plans : ℕ → Plan) → IsWellFormed m → AreMoves m plans → (i : ℕ) (function : Function) → slice_get m.functions i ≡ Some function
      → IsSmallPlan function (plans i) → size (applied_function (plans i) function) < item_limit

pub defined_length : (f : Function) → is_defined f.blocks ≡ true → 0 < length f.blocks
defined_length f d = by f.blocks d
  where
    by : (blocks : _) → is_defined blocks ≡ true → 0 < length blocks
    by [] e = absurd cc
    by (block ∷ blocks) e = omega arith

-- the plan for one function, and nothing for the others
abbrev pub only : ℕ → Plan → ℕ → Plan
only i plan j = if j == i then plan else no_plan

only_here : (i : ℕ) (plan : Plan) → only i plan i ≡ plan
only_here i plan = ⊎_elim (λ yes. ap (λ b. if b then plan else no_plan) yes.0) (λ no. absurd (no.1 refl)) (eqb_tells i i)

-- what holds of the moves of the plan holds of those of all these
only_moves : (P : ℕ → Move → Type 0) (i : ℕ) (plan : Plan) → ((x : ℕ) (move : Move) → slice_get plan.moves x ≡ Some move → P i move)
    → (j x : ℕ) (move : Move) → slice_get (only i plan j).moves x ≡ Some move → P j move
only_moves P i plan each j x move here = ⊎_elim
    (λ yes. subst (λ k. P k move) (sym yes.1) (each x move (sym (ap (λ b. slice_get (if b then plan else no_plan).moves x) yes.0) ∙ here)))
    (λ no. absurd (none-some move (sym (ap (λ b. slice_get (if b then plan else no_plan).moves x) no.0) ∙ here)))
    (eqb_tells j i)

-- the moves of a plan for what is placed are moves
pub moves_of_plan : (m : Program) (f : Function) (q : Placed) (plan : Plan) → IsSoundIn m f q → IsPlanOfPlaced plan f q
    → (x : ℕ) (move : Move) → slice_get plan.moves x ≡ Some move → IsMove m f move
moves_of_plan m f q plan sound plan_of x move here = sound.are_moves move (plan_of.moves move (x, slice_get_within plan.moves x move here, get_or_from_slice_get plan.moves x move move here))

pub fits_alone : PlanLaws → (m : Program) (f : Function) (q : Placed) (plan : Plan) → IsReady m f q → IsPlanOfPlaced plan f q → size (applied_function plan f) < item_limit
fits_alone laws m f q plan ready plan_of =
    let n = ready.number in
    let placed = ready.sound.placed in
    let small = laws.is_small f q.points q.table q.placements plan (defined_length f ready.defined) placed.are_points placed.is_table ready.limits placed.placements plan_of placed.few in
    let here : only n plan n ≡ plan = only_here n plan in
    let P : ℕ → Move → Type 0 = λ i move. (g : Function) → slice_get m.functions i ≡ Some g → IsMove m g move in
    let at : (x : ℕ) (move : Move) → slice_get plan.moves x ≡ Some move → P n move = λ x move is g there.
    subst (λ g. IsMove m g move) (same_Some f g (sym ready.there ∙ there)) (moves_of_plan m f q plan ready.sound plan_of x move is) in
    let moves : AreMoves m (only n plan) = λ i x g move there is. only_moves P n plan at i x move is g there in
    subst (λ plan. size (applied_function plan f) < item_limit) here
    (laws.small_fits m (only n plan) ready.rules moves n f ready.there (subst (IsSmallPlan f) (sym here) small))
