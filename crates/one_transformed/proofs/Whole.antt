-- A module has one module with given placements applied.
use Rattle.std.proofs.Common.{◌≡◌, ℕ, ◌+◌, Bool, true, false, [], List, Some, refl, sym, ◌∙◌, subst, arith}
use Rattle.std.specs.Prelude.{slice_get}
use Rattle.std.specs.List.{AllZip}
use Rattle.std.proofs.lemmas.Option.{same_Some}
use Rattle.ir_types.specs.Program.{Program}
use Rattle.ir_types.specs.declared.syntax.Function.{Function}
use Rattle.ir_machine.specs.Same.{is_defined}
use Rattle.applied.specs.Applied.{Plan, IsApplied}
use Rattle.applied.specs.Built.{applied}
use Rattle.transform.proofs.Alone.{defined_length}
use Rattle.transform.specs.declared.placed.Placed.{Placed}
use Rattle.transform.specs.Transformed.{HasPlaced, IsPlanOfPlaced, IsTransformed}
use Rattle.one_transformed.specs.Numberings.{EachSame, HasSame}
use Rattle.one_transformed.proofs.Alike.{IsAlike, AreAlike, all_same}
use Rattle.one_transformed.proofs.Moving.{PlacedLaws, plans_of}
use Rattle.one_transformed.proofs.Numbering.{are_same}

pub record BuiltLaws : Type 0 where
  pub stands : (m : Program) (plans : ℕ → Plan) → IsApplied m plans (applied m plans)
  pub alone : (m new : Program) (plans : ℕ → Plan) → IsApplied m plans new → new ≡ applied m plans

none_alike : (plan other : Plan) → plan.moves ≡ [] → other.moves ≡ [] → AreAlike plan other
none_alike plan other none none' =
    let R = IsAlike plan.naming other.naming in
    subst (λ l. AllZip R l other.moves) (sym none) (subst (λ l. AllZip R [] l) (sym none') tt)

module _ (laws : PlacedLaws) (m : Program) (placed others : List Placed) (same : EachSame m placed others) where
  defined_same : (k : ℕ) (f : Function) (plan plan' : Plan) → is_defined f.blocks ≡ true → HasSame m placed others k f
      → HasPlaced (IsPlanOfPlaced plan) m.functions placed k f → HasPlaced (IsPlanOfPlaced plan') m.functions others k f → AreAlike plan plan'
  defined_same k f plan plan' defined has of of' =
      let q = has.one in
      let q' = has.other in
      let is : q ≡ of.placed = same_Some q of.placed (sym has.one_there ∙ of.there) in
      let is' : q' ≡ of'.placed = same_Some q' of'.placed (sym has.other_there ∙ of'.there) in
      let parts = has.one_parts in
      let parts' = has.other_parts in
      let blocks = defined_length f defined in
      let numbering = are_same laws.numbered f q.points q'.points q.table q'.table blocks (parts.of_module ∙ sym parts'.of_module) parts.are_points parts'.are_points parts.is_table parts'.is_table in
      plans_of laws f q q' numbering has.placements plan plan' (subst (IsPlanOfPlaced plan f) (sym is) of.holds) (subst (IsPlanOfPlaced plan' f) (sym is') of'.holds)
      blocks parts.are_points parts.is_table

  plans_same : (one other : Program) (is : IsTransformed m placed one) (also : IsTransformed m others other) (k : ℕ) (f : Function) → slice_get m.functions k ≡ Some f → AreAlike (is.plans k) (also.plans k)
  plans_same one other is also k f there = by (is_defined f.blocks) refl
    where
      by : (q : Bool) → is_defined f.blocks ≡ q → AreAlike (is.plans k) (also.plans k)
      by true defined = defined_same k f (is.plans k) (also.plans k) defined (same k f there defined) (is.are_plans.defined k f there defined) (also.are_plans.defined k f there defined)
      by false declared = none_alike (is.plans k) (also.plans k) (is.are_plans.declared k f there declared) (also.are_plans.declared k f there declared)

  pub one_module : BuiltLaws → (one other : Program) → IsTransformed m placed one → IsTransformed m others other → one ≡ other
  one_module built one other is also =
      let plans = is.plans in
      let plans' = also.plans in
      let stands = built.stands m plans in
      let alike : (k : ℕ) (f : Function) → slice_get m.functions k ≡ Some f → AreAlike (plans (0 + k)) (plans' (0 + k)) = λ k f there. let e : k ≡ 0 + k = omega arith in subst (λ k. AreAlike (plans k) (plans' k)) e (plans_same one other is also k f there) in
      let together : applied m plans ≡ applied m plans' = built.alone m (applied m plans) plans' (record {
        globals = stands.globals;
        functions = all_same plans plans' 0 m.functions (applied m plans).functions alike stands.functions;
      }) in
      is.is_applied ∙ together ∙ sym also.is_applied
