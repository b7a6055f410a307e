-- How layouts grow, block by block and slot by slot.
use Rattle.std.proofs.Common.{◌≡◌, ℕ, zero, suc, ◌+◌, ◌<◌, ◌≤◌, true, false, if◌then◌else◌, List, [], ◌∷◌, ◌++◌, length, drop, get_or, Some, sym, ap, ◌∙◌, subst, ⊎_elim, arith, append_assoc, add-one}
use Rattle.std.specs.Prelude.{All, slice_get, slice_index}
use Rattle.std.proofs.lemmas.Bool.{cases_lt}
use Rattle.std.proofs.lemmas.List.{drop_more}
use Rattle.std.proofs.lemmas.Option.{slice_get_within, get_or_from_slice_get, slice_get-get_or}
use Rattle.ir_types.specs.declared.syntax.Terminator.{Terminator}
use Rattle.function_text.specs.ByChanges.{is_split, split_count, lead, leads_from}

-- what is left from a place of a list on
pub left_at : {X : Type 0} (xs : List X) (i : ℕ) (x : X) → slice_get xs i ≡ Some x → drop i xs ≡ x ∷ drop (suc i) xs
left_at xs i x there =
    drop_more xs i x (slice_get_within xs i x there)
    ∙ ap (λ y. y ∷ drop (i + 1) xs) (get_or_from_slice_get xs i x x there)
    ∙ ap (λ j. x ∷ drop j xs) (add-one i)

-- one element more behind what was built
pub put : {X : Type 0} (built next rest whole : List X) (x : X) → next ≡ built ++ x ∷ [] → built ++ x ∷ rest ≡ whole → next ++ rest ≡ whole
put built next rest whole x e f = ap (λ l. l ++ rest) e ∙ append_assoc built (x ∷ []) rest ∙ f

-- ---- slots

module _ (lists : List (List ℕ)) (term : Terminator) where
  pub count_split : (slot : ℕ) → is_split lists term slot ≡ true → split_count lists term (suc slot) ≡ split_count lists term slot + 1
  count_split slot e = ap (λ q. split_count lists term slot + (if q then 1 else 0)) e

  pub count_kept : (slot : ℕ) → is_split lists term slot ≡ false → split_count lists term (suc slot) ≡ split_count lists term slot
  count_kept slot e =
      let same : split_count lists term (suc slot) ≡ split_count lists term slot + 0 = ap (λ q. split_count lists term slot + (if q then 1 else 0)) e in
      omega (arith, same)

  pub count_more : (slot n : ℕ) → slot ≤ n → split_count lists term slot ≤ split_count lists term n
  count_more slot zero le = let is : slot ≡ 0 = omega (arith, le) in omega (arith, ap (split_count lists term) is)
  count_more slot (suc n) le = ⊎_elim
      (λ lt. omega (arith, count_more slot n (omega (arith, lt))))
      (λ ge. let is : slot ≡ suc n = omega (arith, ge, le) in omega (arith, ap (split_count lists term) is))
      (cases_lt slot (suc n))

  pub count_room : (first slot n : ℕ) → is_split lists term slot ≡ true → slot < n → first + split_count lists term slot + 1 ≤ first + split_count lists term n
  count_room first slot n e lt = omega (arith, count_split slot e, count_more (suc slot) n (omega (arith, lt)))

  -- where one slot leads, and where the others do
  module _ (homes : List ℕ) (first : ℕ) (slots : List ℕ) where
    pub lead_split : (slot t : ℕ) → is_split lists term slot ≡ true → lead lists term homes first slot t ≡ first + split_count lists term slot
    lead_split slot t e = ap (λ q. if q then first + split_count lists term slot else slice_index homes t) e

    pub lead_kept : (slot t : ℕ) → is_split lists term slot ≡ false → lead lists term homes first slot t ≡ slice_index homes t
    lead_kept slot t e = ap (λ q. if q then first + split_count lists term slot else slice_index homes t) e

    pub one_lead : (slot x : ℕ) (built next whole : List ℕ) → slot < length slots → ((t : ℕ) → slice_get slots slot ≡ Some t → lead lists term homes first slot t ≡ x)
        → next ≡ built ++ x ∷ [] → built ++ leads_from lists term homes first slot (drop slot slots) ≡ whole
        → next ++ leads_from lists term homes first (slot + 1) (drop (slot + 1) slots) ≡ whole
    one_lead slot x built next whole lt is e f =
        let t = get_or slots slot 0 in
        let there : slice_get slots slot ≡ Some t = slice_get-get_or slots slot 0 lt in
        let rest = leads_from lists term homes first (slot + 1) (drop (slot + 1) slots) in
        let here : leads_from lists term homes first slot (drop slot slots) ≡ x ∷ rest =
        ap (leads_from lists term homes first slot) (drop_more slots slot 0 lt)
        ∙ ap (λ y. y ∷ leads_from lists term homes first (suc slot) (drop (slot + 1) slots)) (is t there)
        ∙ ap (λ j. x ∷ leads_from lists term homes first j (drop (slot + 1) slots)) (sym (add-one slot))
        in
        put built next rest whole x e (ap (λ l. built ++ l) (sym here) ∙ f)

-- what is so of all holds of each
pub holds_at : {X : Type 0} (P : X → Type 0) (xs : List X) (i : ℕ) (x : X) → All P xs → slice_get xs i ≡ Some x → P x
holds_at P xs i x all there =
    subst P (get_or_from_slice_get xs i x x there) (all i x (slice_get_within xs i x there))
