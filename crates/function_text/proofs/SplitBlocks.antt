-- The blocks that split slots, one slot after another.
use Rattle.std.proofs.Common.{◌≡◌, ℕ, suc, ◌+◌, ◌<◌, ◌≤◌, Bool, true, false, if◌then◌else◌, List, [], ◌∷◌, ◌++◌, length, drop, get_or, Some, refl, sym, ap, ◌∙◌, add-one, append_assoc}
use Rattle.std.specs.Prelude.{slice_get}
use Rattle.std.proofs.lemmas.List.{append-nil, drop_all, drop_more}
use Rattle.std.proofs.lemmas.Option.{slice_get-get_or}
use Rattle.ir_types.specs.declared.syntax.Terminator.{Terminator}
use Rattle.ir_types.specs.declared.syntax.Block.{Block}
use Rattle.point_graph.specs.Graph.{Slot}
use Rattle.expressions.specs.declared.syntax.Expr.{Expr}
use Rattle.applied.specs.Applied.{Plan, Layout, has_groups, is_single, split_block}
use Rattle.applied.specs.Built.{split_one, splits_from}
use Rattle.changes.specs.Changed.{AreChanges}
use Rattle.changes.specs.declared.lists.Changes.{Changes}
use Rattle.function_text.specs.ByChanges.{is_split, slot_lists}
use Rattle.function_text.proofs.ByPlans.{split_groups}

module _ (plan : Plan) (vars : ℕ) (layout : Layout) (b : ℕ) (term : Terminator) where
  abbrev pub split_of : ℕ → ℕ → List Block
  split_of slot target = split_one plan.naming plan.moves vars layout b (is_single term) slot target

  abbrev pub splits_of : ℕ → List ℕ → List Block
  splits_of slot slots = splits_from plan.naming plan.moves vars layout b (is_single term) slot slots

  module _ {exprs : List Expr} {c : Changes} (changes : AreChanges plan exprs c) where
    -- a slot has its block where the changes say so
    one_is : (slot target : ℕ) → split_of slot target
        ≡ (if is_split (slot_lists c b) term slot then split_block plan.naming vars (Slot b slot) (layout.home target) plan.moves ∷ [] else [])
    one_is slot target = sym (ap (λ q. if q then one else []) (split_groups changes b slot term) ∙ by (is_single term))
      where
        one : List Block
        one = split_block plan.naming vars (Slot b slot) (layout.home target) plan.moves ∷ []

        by : (single : Bool) → (if (if single then false else has_groups (Slot b slot) plan.moves) then one else []) ≡ (if single then [] else (if has_groups (Slot b slot) plan.moves then one else []))
        by true = refl
        by false = refl

    pub one_split : (slot target : ℕ) → is_split (slot_lists c b) term slot ≡ true → split_of slot target ≡ split_block plan.naming vars (Slot b slot) (layout.home target) plan.moves ∷ []
    one_split slot target e = one_is slot target ∙ ap (λ q. if q then split_block plan.naming vars (Slot b slot) (layout.home target) plan.moves ∷ [] else []) e

    pub none_split : (slot target : ℕ) → is_split (slot_lists c b) term slot ≡ false → split_of slot target ≡ []
    none_split slot target e = one_is slot target ∙ ap (λ q. if q then split_block plan.naming vars (Slot b slot) (layout.home target) plan.moves ∷ [] else []) e

  -- one slot more
  pub more_split : (slots : List ℕ) (slot : ℕ) (here built next whole : List Block) → slot < length slots → ((t : ℕ) → slice_get slots slot ≡ Some t → split_of slot t ≡ here)
      → next ≡ built ++ here → built ++ splits_of slot (drop slot slots) ≡ whole → next ++ splits_of (slot + 1) (drop (slot + 1) slots) ≡ whole
  more_split slots slot here built next whole lt is e f =
      let t = get_or slots slot 0 in
      let there : slice_get slots slot ≡ Some t = slice_get-get_or slots slot 0 lt in
      let rest = splits_of (slot + 1) (drop (slot + 1) slots) in
      let left : splits_of slot (drop slot slots) ≡ here ++ rest =
      ap (splits_of slot) (drop_more slots slot 0 lt)
      ∙ ap (λ l. l ++ splits_of (suc slot) (drop (slot + 1) slots)) (is t there)
      ∙ ap (λ j. here ++ splits_of j (drop (slot + 1) slots)) (sym (add-one slot))
      in
      ap (λ l. l ++ rest) e ∙ append_assoc built here rest ∙ ap (λ l. built ++ l) (sym left) ∙ f

  pub all_split : (slots : List ℕ) (slot : ℕ) (built whole : List Block) → length slots ≤ slot → built ++ splits_of slot (drop slot slots) ≡ whole → built ≡ whole
  all_split slots slot built whole le f = sym (append-nil built) ∙ ap (λ l. built ++ splits_of slot l) (sym (drop_all slot slots le)) ∙ f
