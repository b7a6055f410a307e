-- The new functions together are the applied module.
use Rattle.std.proofs.Common.{◌≡◌, ◌≢◌, ◌⊎◌, ◌<◌, ◌≤◌, ◌+◌, ℕ, zero, suc, true, false, Bool, List, [], ◌∷◌, ◌++◌, Some, length, refl, sym, ap, subst, ◌∙◌, ⊎_elim, inl, inr, arith}
use Rattle.std.specs.Prelude.{slice_get, All}
use Rattle.std.proofs.lemmas.Bool.{cases_lt}
use Rattle.std.proofs.lemmas.List.{append-nil, length_push}
use Rattle.std.proofs.lemmas.Option.{none-some, same_Some, slice_get_within, slice_get_past, get_or_from_slice_get}
use Rattle.ir_types.specs.Program.{Program}
use Rattle.ir_types.specs.Limits.{IsWithinLimits}
use Rattle.ir_types.specs.WellFormed.{IsWellFormed, IsFunctionIn, size, item_limit, putchar, names}
use Rattle.ir_types.specs.Names.{prefix, spelled}
use Rattle.ir_types.specs.declared.name.Name.{Name}
use Rattle.ir_types.specs.declared.name.Name.TheVariants.{Text}
use Rattle.mc_num.specs.declared.op.Width.{Width}
use Rattle.ir_types.specs.declared.syntax.Block.{Block}
use Rattle.ir_types.specs.declared.syntax.Function.{Function}
use Rattle.ir_machine.specs.Same.{Same, is_defined}
use Rattle.applied.specs.Motion.{Move, IsMove}
use Rattle.applied.specs.Applied.{Layout, Plan, IsPlan, IsFreshPrefix, AreMoves, IsApplied}
use Rattle.applied.specs.Built.{applied, applied_from, applied_function, new_blocks, layout_of}
use Rattle.applied_rules.specs.Plans.{ArePlans}
use Rattle.transform.specs.declared.placed.Placed.{Placed}
use Rattle.transform.specs.Transformed.{Each, HasPlaced, IsPlanOfPlaced, IsSoundIn, ArePlansOf, IsTransformed, defined_before}
use Rattle.transform.specs.Building.{no_naming, no_plan, IsReady, IsNewFunction, IsPlanAt, IsNewAt, HasNew, AreNew}
use Rattle.transform.proofs.Alone.{PlanLaws, defined_length, fits_alone, moves_of_plan}

-- ---- one function more

get_grown : {X : Type 0} (xs : List X) (y : X) (k : ℕ) (x : X) → slice_get xs k ≡ Some x → slice_get (xs ++ y ∷ []) k ≡ Some x
get_grown [] y k x e = absurd (none-some x e)
get_grown (z ∷ xs) y zero x e = e
get_grown (z ∷ xs) y (suc k) x e = get_grown xs y k x e

get_last : {X : Type 0} (xs : List X) (y : X) → slice_get (xs ++ y ∷ []) (length xs) ≡ Some y
get_last [] y = refl
get_last (z ∷ xs) y = get_last xs y

pub none_new : (fs : List Function) (qs : List Placed) → AreNew fs qs 0 []
none_new fs qs = record { count = refl; each = λ k lt. absurd (omega (arith, lt)) }

pub one_more_new : (fs : List Function) (qs : List Placed) (n : ℕ) (news : List Function) (new : Function) → AreNew fs qs n news → IsNewAt fs qs n new → AreNew fs qs (n + 1) (news ++ new ∷ [])
one_more_new fs qs n news new are is = record {
  count = omega (arith, length_push news new, are.count);
  each = λ k lt. ⊎_elim
      (λ before. let has = are.each k before in record { new = has.new; new_there = get_grown news new k has.new has.new_there; is_new_at = has.is_new_at })
      (λ past.
      let here : n ≡ k = omega (arith, lt, past) in
      let at : length news ≡ k = are.count ∙ here in
      record { new = new; new_there = subst (λ j. slice_get (news ++ new ∷ []) j ≡ Some new) at (get_last news new); is_new_at = subst (λ j. IsNewAt fs qs j new) here is })
      (cases_lt k n);
}

-- ---- the plans of all

module _ (fs : List Function) (qs : List Placed) (news : List Function) (n : ℕ) (each : (k : ℕ) → k < n → HasNew fs qs news k) where
  abbrev plan_if : (k : ℕ) → (k < n) ⊎ (n ≤ k) → Plan
  plan_if k (inl lt) = (each k lt).is_new_at.plan
  plan_if k (inr past) = no_plan

  abbrev pub plan_of_all : ℕ → Plan
  plan_of_all k = plan_if k (cases_lt k n)

  -- the new function k is the old one by its plan
  pub record IsByPlan (k : ℕ) (f : Function) (plan : Plan) : Type 0 where
    pub plan_at : IsPlanAt fs qs k f plan
    pub new_is : slice_get news k ≡ Some (applied_function plan f)

  by_plan_if : (k : ℕ) (f : Function) → k < n → slice_get fs k ≡ Some f → (c : (k < n) ⊎ (n ≤ k)) → IsByPlan k f (plan_if k c)
  by_plan_if k f lt there (inl lt') =
      let has = each k lt' in
      let new = has.is_new_at in
      let same : new.function ≡ f = same_Some new.function f (sym new.there ∙ there) in
      subst (λ f. IsByPlan k f new.plan) same (record { plan_at = new.plan_at; new_is = has.new_there ∙ ap Some new.is_new })
  by_plan_if k f lt there (inr past) = absurd (omega (arith, lt, past))

  pub by_plan : (k : ℕ) (f : Function) → k < n → slice_get fs k ≡ Some f → IsByPlan k f (plan_of_all k)
  by_plan k f lt there = by_plan_if k f lt there (cases_lt k n)

-- ---- a function with its plan

-- nothing is done to a declaration
none_blocks : (layout : Layout) (vars : ℕ) (blocks : List Block) → is_defined blocks ≡ false → blocks ≡ new_blocks no_naming [] vars layout 0 blocks
none_blocks layout vars [] e = refl
none_blocks layout vars (block ∷ blocks) e = absurd cc

unchanged : (f : Function) → is_defined f.blocks ≡ false → f ≡ applied_function no_plan f
unchanged f e =
    let with : List (Width × Name) → List Block → Function = λ vars blocks. record f { vars = vars; blocks = blocks } in
    let n = length f.vars in
    ap (λ vars. with vars f.blocks) (sym (append-nil f.vars))
    ∙ ap (λ blocks. with (f.vars ++ []) blocks) (none_blocks (layout_of [] f.blocks) n f.blocks e)

pub new_declared : (fs : List Function) (qs : List Placed) (i : ℕ) (f : Function) → slice_get fs i ≡ Some f → is_defined f.blocks ≡ false → IsNewAt fs qs i f
new_declared fs qs i f there e = record {
  function = f;
  there = there;
  plan = no_plan;
  plan_at = record { declared = λ d. refl; defined = λ d. absurd cc };
  is_new = unchanged f e;
}

pub new_defined : (fs : List Function) (qs : List Placed) (i : ℕ) (f new : Function) (q : Placed) → slice_get fs i ≡ Some f → is_defined f.blocks ≡ true
    → slice_get qs (defined_before fs i) ≡ Some q → IsNewFunction f q new → IsNewAt fs qs i new
new_defined fs qs i f new q there e placed is = record {
  function = f;
  there = there;
  plan = is.plan;
  plan_at = record { declared = λ d. absurd cc; defined = λ d. record { placed = q; there = placed; holds = is.plan_of } };
  is_new = is.is_new;
}

ready_here : (m : Program) (f : Function) (qs : List Placed) (i : ℕ) → IsWellFormed m → All IsWithinLimits m.functions
    → slice_get m.functions i ≡ Some f → is_defined f.blocks ≡ true → (has : HasPlaced (IsSoundIn m) m.functions qs i f) → IsReady m f has.placed
ready_here m f qs i rules limits there e has =
    let inside = slice_get_within m.functions i f there in
    record {
      rules = rules;
      number = i;
      there = there;
      defined = e;
      limits = subst IsWithinLimits (get_or_from_slice_get m.functions i f f there) (limits i f inside);
      sound = has.holds;
    }

-- what is placed in the function by one list is what is placed there by the other
same_placed : (P Q : Function → Placed → Type 0) (fs : List Function) (qs : List Placed) (k : ℕ) (f : Function) (has : HasPlaced P fs qs k f) (also : HasPlaced Q fs qs k f) → has.placed ≡ also.placed
same_placed P Q fs qs k f has also = same_Some has.placed also.placed (sym has.there ∙ also.there)

pub ready : (m : Program) (f : Function) (q : Placed) (qs : List Placed) (i : ℕ) → IsWellFormed m → All IsWithinLimits m.functions → Each (IsSoundIn m) m.functions qs
    → slice_get m.functions i ≡ Some f → is_defined f.blocks ≡ true → slice_get qs (defined_before m.functions i) ≡ Some q → IsReady q.table.module_of f q
ready m f q qs i rules limits each there e placed =
    let has = each.each i f there e in
    let same : has.placed ≡ q = same_Some has.placed q (sym has.there ∙ placed) in
    let here : IsReady m f q = subst (IsReady m f) same (ready_here m f qs i rules limits there e has) in
    subst (λ m. IsReady m f q) (sym here.sound.placed.of_module) here

-- ---- the whole

same_lists : {X : Type 0} (xs ys : List X) → ((k : ℕ) → slice_get xs k ≡ slice_get ys k) → xs ≡ ys
same_lists [] [] e = refl
same_lists [] (y ∷ ys) e = absurd (none-some y (e 0))
same_lists (x ∷ xs) [] e = absurd (none-some x (sym (e 0)))
same_lists {X} (x ∷ xs) (y ∷ ys) e =
    ap (λ z. z ∷ xs) (same_Some x y (e 0)) ∙ ap (λ zs. y ∷ zs) (same_lists xs ys (λ k. e (suc k)))

applied_get : (plans : ℕ → Plan) (i : ℕ) (fs : List Function) (k : ℕ) (f : Function) → slice_get fs k ≡ Some f → slice_get (applied_from plans i fs) k ≡ Some (applied_function (plans (i + k)) f)
applied_get plans i [] k f e = absurd (none-some f e)
applied_get plans i (g ∷ fs) zero f e =
    let same : g ≡ f = same_Some g f e in
    let at : i ≡ i + 0 = omega arith in
    ap (λ g. Some (applied_function (plans i) g)) same ∙ ap (λ j. Some (applied_function (plans j) f)) at
applied_get plans i (g ∷ fs) (suc k) f e =
    let at : suc i + k ≡ i + suc k = omega arith in
    applied_get plans (suc i) fs k f e ∙ ap (λ j. Some (applied_function (plans j) f)) at

applied_length : (plans : ℕ → Plan) (i : ℕ) (fs : List Function) → length (applied_from plans i fs) ≡ length fs
applied_length plans i [] = refl
applied_length plans i (f ∷ fs) = ap suc (applied_length plans (suc i) fs)

get_some : {X : Type 0} (xs : List X) (k : ℕ) → k < length xs → (x : X) × (slice_get xs k ≡ Some x)
get_some [] k lt = absurd (omega (arith, lt))
get_some (x ∷ xs) zero lt = (x, refl)
get_some (x ∷ xs) (suc k) lt = get_some xs k (omega (arith, lt))

-- a declaration has no name that begins with a prefix
fresh_declared : (m : Program) (f : Function) → IsFunctionIn m f → is_defined f.blocks ≡ false → IsFreshPrefix f 0
fresh_declared m f rules e = ⊎_elim
    (λ is. subst (λ f. IsFreshPrefix f 0) (sym is) (record { unused = λ k d lt. absurd (omega (arith, lt)); least = λ i lt. absurd (omega (arith, lt)) }))
    (λ is. subst (λ f. IsFreshPrefix f 0) (sym is) (record { unused = λ k d lt. number_unused k d lt; least = λ i lt. absurd (omega (arith, lt)) }))
    (rules.declared (no_blocks f.blocks e))
  where
    no_blocks : (blocks : List Block) → is_defined blocks ≡ false → blocks ≡ []
    no_blocks [] e = refl
    no_blocks (block ∷ blocks) e = absurd cc

    number_unused : All (λ name. (rest : List ℕ) → spelled name ≢ Text (prefix 0 ++ rest)) (names putchar)
    number_unused zero d lt rest is = absurd cc
    number_unused (suc k) d lt rest is = absurd (omega (arith, lt))

plan_declared : (m : Program) (f : Function) → IsFunctionIn m f → is_defined f.blocks ≡ false → IsPlan f no_plan
plan_declared m f rules e = record {
  prefix = fresh_declared m f rules e;
  ascending = λ i j d lt within. absurd (omega (arith, within));
  needed = λ k d lt. absurd (omega (arith, lt));
  numbers = λ k d lt. absurd (omega (arith, lt));
  edge_numbers = λ edge is. absurd (omega (arith, is.among.1));
  edges_differ = λ edge other is other_is same. absurd (omega (arith, is.among.1));
}

-- the plans by which the new functions are made
pub record AreSoundPlans (m : Program) (qs : List Placed) (news : List Function) : Type 0 where
  pub plans : ℕ → Plan
  pub are_plans : ArePlansOf plans m.functions qs
  pub are_moves : AreMoves m plans
  pub keep : ArePlans m plans
  pub is_applied : news ≡ applied_from plans 0 m.functions

module _ (laws : PlanLaws) (m : Program) (qs : List Placed) (news : List Function) (rules : IsWellFormed m) (limits : All IsWithinLimits m.functions)
    (each : Each (IsSoundIn m) m.functions qs) (are : AreNew m.functions qs (length m.functions) news) where
  abbrev fs : List Function
  fs = m.functions

  abbrev plans : ℕ → Plan
  plans = plan_of_all fs qs news (length fs) are.each

  at_plan : (k : ℕ) (f : Function) → slice_get fs k ≡ Some f → IsByPlan fs qs news (length fs) are.each k f (plans k)
  at_plan k f there = by_plan fs qs news (length fs) are.each k f (slice_get_within fs k f there) there

  function_rules : (k : ℕ) (f : Function) → slice_get fs k ≡ Some f → IsFunctionIn m f
  function_rules k f there = subst (IsFunctionIn m) (get_or_from_slice_get fs k f f there) (rules.functions k f (slice_get_within fs k f there))

  -- what is known of the plan of a function with blocks
  record IsGood (k : ℕ) (f : Function) (plan : Plan) : Type 0 where
    pub moves : (x : ℕ) (move : Move) → slice_get plan.moves x ≡ Some move → IsMove m f move
    pub is_plan : IsPlan f plan
    pub few : size (applied_function plan f) < item_limit

  good_defined : (k : ℕ) (f : Function) (plan : Plan) → slice_get fs k ≡ Some f → is_defined f.blocks ≡ true → HasPlaced (IsPlanOfPlaced plan) fs qs k f → IsGood k f plan
  good_defined k f plan there e has =
      let q = has.placed in
      let sound = each.each k f there e in
      let same : sound.placed ≡ q = same_placed (IsSoundIn m) (IsPlanOfPlaced plan) fs qs k f sound has in
      let is_ready : IsReady m f q = subst (IsReady m f) same (ready_here m f qs k rules limits there e sound) in
      let placed = is_ready.sound.placed in
      record {
        moves = moves_of_plan m f q plan is_ready.sound has.holds;
        is_plan = laws.is_plan f q.points q.table q.placements plan (defined_length f e) placed.are_points placed.is_table is_ready.limits placed.placements has.holds;
        few = fits_alone laws m f q plan is_ready has.holds;
      }

  good_declared : (k : ℕ) (f : Function) → slice_get fs k ≡ Some f → is_defined f.blocks ≡ false → IsGood k f no_plan
  good_declared k f there e =
      let rules_of = function_rules k f there in
      record {
        moves = λ x move is. absurd (none-some move is);
        is_plan = plan_declared m f rules_of e;
        few = subst (λ g. size g < item_limit) (unchanged f e) rules_of.few;
      }

  good_either : (k : ℕ) (f : Function) (plan : Plan) → slice_get fs k ≡ Some f → IsPlanAt fs qs k f plan → (b : Bool) → is_defined f.blocks ≡ b → IsGood k f plan
  good_either k f plan there at true e = good_defined k f plan there e (at.defined e)
  good_either k f plan there at false e = subst (IsGood k f) (sym (at.declared e)) (good_declared k f there e)

  good : (k : ℕ) (f : Function) → slice_get fs k ≡ Some f → IsGood k f (plans k)
  good k f there = good_either k f (plans k) there (at_plan k f there).plan_at (is_defined f.blocks) refl

  news_are : (k : ℕ) (c : (k < length fs) ⊎ (length fs ≤ k)) → slice_get news k ≡ slice_get (applied_from plans 0 fs) k
  news_are k (inl lt) =
      let f = get_some fs k lt in
      let at : 0 + k ≡ k = omega arith in
      (at_plan k f.0 f.1).new_is ∙ sym (applied_get plans 0 fs k f.0 f.1 ∙ ap (λ j. Some (applied_function (plans j) f.0)) at)
  news_are k (inr past) =
      let past_news : length news ≤ k = omega (arith, past, are.count) in
      let past_all : length (applied_from plans 0 fs) ≤ k = omega (arith, past, applied_length plans 0 fs) in
      slice_get_past news k past_news ∙ sym (slice_get_past (applied_from plans 0 fs) k past_all)

  pub sound_plans : AreSoundPlans m qs news
  sound_plans = record {
    plans = plans;
    are_plans = record {
      declared = λ k f there e. ap (λ plan. plan.moves) ((at_plan k f there).plan_at.declared e);
      defined = λ k f there e. (at_plan k f there).plan_at.defined e;
    };
    are_moves = λ i x f move there is. (good i f there).moves x move is;
    keep = record {
      each = λ i f there. (good i f there).is_plan;
      few = λ i f there. (good i f there).few;
    };
    is_applied = same_lists news (applied_from plans 0 fs) (λ k. news_are k (cases_lt k (length fs)));
  }

-- what the laws say of the module with the plans applied
pub record ModuleLaws : Type 0 where
  pub keeps : (m : Program) (plans : ℕ → Plan) → IsWellFormed m → AreMoves m plans → ArePlans m plans → IsWellFormed (applied m plans)
  pub stands : (m : Program) (plans : ℕ → Plan) → IsApplied m plans (applied m plans)
  pub same : (m m_new : Program) (plans : ℕ → Plan) → IsWellFormed m → AreMoves m plans → IsApplied m plans m_new → Same m m_new

pub new_rules : ModuleLaws → (m : Program) (qs : List Placed) (news : List Function) → IsWellFormed m → AreSoundPlans m qs news → IsWellFormed (record m { functions = news })
new_rules laws m qs news rules sound =
    subst (λ functions. IsWellFormed (record m { functions = functions })) (sym sound.is_applied) (laws.keeps m sound.plans rules sound.are_moves sound.keep)

pub is_transformed : ModuleLaws → (m : Program) (qs : List Placed) (news : List Function) → IsWellFormed m → AreSoundPlans m qs news → IsTransformed m qs (record m { functions = news })
is_transformed laws m qs news rules sound = record {
  plans = sound.plans;
  are_plans = sound.are_plans;
  is_applied = ap (λ functions. record m { functions = functions }) sound.is_applied;
  same = subst (λ functions. Same m (record m { functions = functions })) (sym sound.is_applied)
      (laws.same m (applied m sound.plans) sound.plans rules sound.are_moves (laws.stands m sound.plans));
}
