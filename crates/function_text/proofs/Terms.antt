-- New terminators by changes are those of the plan.
use Rattle.std.proofs.Common.{◌≡◌, ℕ, suc, ◌+◌, ◌<◌, true, false, if◌then◌else◌, List, [], ◌∷◌, length, map, drop, Some, None, refl, sym, ap, ◌∙◌, arith}
use Rattle.std.specs.Prelude.{All, slice_get, slice_index}
use Rattle.std.proofs.lemmas.List.Elements.{All-head, All-tail}
use Rattle.ir_types.specs.WellFormed.{targets}
use Rattle.ir_types.specs.declared.syntax.Operand.{Operand}
use Rattle.ir_types.specs.declared.syntax.Operand.TheVariants.{Const, Param, Reg}
use Rattle.ir_types.specs.declared.syntax.Terminator.{Terminator}
use Rattle.ir_types.specs.declared.syntax.Terminator.TheVariants.{Return, Jump, Branch, Switch, Unreachable}
use Rattle.ir_types.specs.declared.syntax.Block.{Block}
use Rattle.ir_types.specs.declared.syntax.Function.{Function}
use Rattle.point_graph.specs.Graph.{Slot}
use Rattle.expressions.specs.declared.syntax.Expr.{Expr}
use Rattle.applied.specs.Applied.{Plan, Layout, has_groups, is_single, new_target, new_cases, new_term, splits_at}
use Rattle.applied.specs.Built.{layout_of}
use Rattle.applied.specs.Renamed.{renamed}
use Rattle.changes.specs.Changed.{AreChanges, listed}
use Rattle.changes.specs.declared.lists.Changes.{Changes}
use Rattle.function_text.specs.ByChanges.{AreBelow, IsBelow, is_filled, lead, leads_from, led, led_cases, slot_lists, split_count}
use Rattle.function_text.proofs.ByPlans.{count_splits, split_groups}

-- ---- registers

module _ (numbers : List ℕ) (number : ℕ → ℕ) (n : ℕ) (are : (r : ℕ) → r < n → slice_index numbers r ≡ number r) where
  renamed_same : (operand : Operand) → IsBelow n operand → renamed (slice_index numbers) operand ≡ renamed number operand
  renamed_same (Const _) below = refl
  renamed_same (Param _) below = refl
  renamed_same (Reg r) below = ap (λ k. Reg k) (are r below)

  pub led_same : (leads : List ℕ) (term : Terminator) → AreBelow n term → led (slice_index numbers) leads term ≡ led number leads term
  led_same leads (Return None) below = refl
  led_same leads (Return (Some operand)) below = ap (λ o. Return (Some o)) (renamed_same operand below)
  led_same leads (Jump _) below = refl
  led_same leads (Branch condition _ _) below = ap (λ o. Branch o (slice_index leads 0) (slice_index leads 1)) (renamed_same condition below)
  led_same leads (Switch w operand other cases) below = ap (λ o. Switch w o (slice_index leads 0) (led_cases cases (drop 1 leads))) (renamed_same operand below)
  led_same leads Unreachable below = refl

-- ---- targets

pub length-leads : (lists : List (List ℕ)) (term : Terminator) (homes : List ℕ) (first slot : ℕ) (slots : List ℕ) → length (leads_from lists term homes first slot slots) ≡ length slots
length-leads lists term homes first slot [] = refl
length-leads lists term homes first slot (target ∷ slots) = ap suc (length-leads lists term homes first (suc slot) slots)

module _ {plan : Plan} {exprs : List Expr} {c : Changes} (changes : AreChanges plan exprs c) (layout : Layout) (b first n : ℕ) (homes : List ℕ) (homes_are : (t : ℕ) → t < n → slice_index homes t ≡ layout.home t) where
  abbrev pub Splits : Terminator → Type 0
  Splits term = (slot : ℕ) → first + split_count (slot_lists c b) term slot ≡ layout.split b slot

  abbrev one_lead : Terminator → ℕ → ℕ → ℕ
  one_lead term slot target = lead (slot_lists c b) term homes first slot target

  lead_single : (term : Terminator) → is_single term ≡ true → (slot target : ℕ) → target < n → one_lead term slot target ≡ layout.home target
  lead_single term single slot target lt =
      ap (λ q. if (if q then false else is_filled (listed (slot_lists c b) slot)) then first + split_count (slot_lists c b) term slot else slice_index homes target) single
      ∙ homes_are target lt

  lead_many : (term : Terminator) → Splits term → is_single term ≡ false → (slot target : ℕ) → target < n → one_lead term slot target ≡ new_target layout b slot target plan.moves
  lead_many term splits many slot target lt =
      let q = has_groups (Slot b slot) plan.moves in
      ap (λ q. if q then first + split_count (slot_lists c b) term slot else slice_index homes target)
      (split_groups changes b slot term ∙ ap (λ single. if single then false else q) many)
      ∙ ap (λ x. if q then x else slice_index homes target) (splits slot)
      ∙ ap (λ x. if q then layout.split b slot else x) (homes_are target lt)

  cases_led : (term : Terminator) → Splits term → is_single term ≡ false → (slot : ℕ) (cases : List (ℕ × ℕ)) → All (λ t. t < n) (map (λ c. c.1) cases)
      → led_cases cases (leads_from (slot_lists c b) term homes first slot (map (λ c. c.1) cases)) ≡ new_cases layout b slot cases plan.moves
  cases_led term splits many slot [] within = refl
  cases_led term splits many slot (case ∷ cases) within =
      ap (λ t. (case.0, t) ∷ led_cases cases (leads_from (slot_lists c b) term homes first (suc slot) (map (λ c. c.1) cases)))
      (lead_many term splits many slot case.1 (All-head (λ t. t < n) case.1 (map (λ c. c.1) cases) within))
      ∙ ap (λ l. (case.0, new_target layout b slot case.1 plan.moves) ∷ l)
      (cases_led term splits many (suc slot) cases (All-tail (λ t. t < n) case.1 (map (λ c. c.1) cases) within))

  pub term_led : (number : ℕ → ℕ) (term : Terminator) → Splits term → All (λ t. t < n) (targets term)
      → led number (leads_from (slot_lists c b) term homes first 0 (targets term)) term ≡ new_term number layout b term plan.moves
  term_led number (Return operand) splits within = refl
  term_led number (Jump target) splits within =
      ap (λ t. Jump t) (lead_single (Jump target) refl 0 target (All-head (λ t. t < n) target [] within))
  term_led number (Branch condition x y) splits within =
      let term = Branch condition x y in
      ap (λ t. Branch (renamed number condition) t (one_lead term 1 y)) (lead_many term splits refl 0 x (All-head (λ t. t < n) x (y ∷ []) within))
      ∙ ap (λ t. Branch (renamed number condition) (new_target layout b 0 x plan.moves) t)
      (lead_many term splits refl 1 y (All-head (λ t. t < n) y [] (All-tail (λ t. t < n) x (y ∷ []) within)))
  term_led number (Switch w operand other []) splits within =
      ap (λ t. Switch w (renamed number operand) t []) (lead_single (Switch w operand other []) refl 0 other (All-head (λ t. t < n) other [] within))
  term_led number (Switch w operand other (case ∷ cases)) splits within =
      let term = Switch w operand other (case ∷ cases) in
      let all = case ∷ cases in
      ap (λ t. Switch w (renamed number operand) t (led_cases all (leads_from (slot_lists c b) term homes first 1 (map (λ c. c.1) all))))
      (lead_many term splits refl 0 other (All-head (λ t. t < n) other (map (λ c. c.1) all) within))
      ∙ ap (λ l. Switch w (renamed number operand) (new_target layout b 0 other plan.moves) l)
      (cases_led term splits refl 1 all (All-tail (λ t. t < n) other (map (λ c. c.1) all) within))
  term_led number Unreachable splits within = refl

-- where the split blocks of a block stand
pub splits_are : {plan : Plan} {exprs : List Expr} {c : Changes} → AreChanges plan exprs c → (f : Function) (b : ℕ) {block : Block} → slice_get f.blocks b ≡ Some block
    → (first : ℕ) → first ≡ (layout_of plan.moves f.blocks).home b + 1 → (slot : ℕ)
    → first + split_count (slot_lists c b) block.term slot ≡ (layout_of plan.moves f.blocks).split b slot
splits_are {plan} {c = c} changes f b {block} there first is slot =
    let at : splits_at plan.moves b slot (slice_get f.blocks b) ≡ split_count (slot_lists c b) block.term slot =
    ap (splits_at plan.moves b slot) there ∙ sym (count_splits changes b block.term slot)
    in
    omega (arith, is, at)
