-- At how many edges entries insert something.
use Rattle.std.proofs.Common.{◌≡◌, ⊎_elim, ℕ, ◌+◌, ◌<◌, ◌≤◌, ◌^◌, List, length, Some, sym, ap, ◌∙◌, subst, arith}
use Rattle.std.specs.Prelude.{slice_get}
use Rattle.std.proofs.lemmas.Bool.{cases_lt}
use Rattle.std.proofs.lemmas.Option.{slice_get_within, same_Some}
use Rattle.certificate.specs.declared.types.Entry.{Entry}
use Rattle.certificate.specs.declared.types.Certificate.{Certificate}
use Rattle.certified.specs.Certified.{insertions, placements_in}
use Rattle.checker.specs.Reasons.{IsCrowded, NoneIsCrowded}

abbrev pub inserted_by : Entry → ℕ
inserted_by entry = length entry.placement.inserted

module _ (certificate : Certificate) where
  module _ (k : ℕ) (entries : List Entry) (listed : slice_get certificate.functions k ≡ Some entries) where
    pub one_more_few : (2 ^ 28 ≤ insertions (placements_in entries) → ⊥) → ((i : ℕ) → i < k → ¬ (IsCrowded certificate i)) → (i : ℕ) → i < k + 1 → ¬ (IsCrowded certificate i)
    one_more_few few before i lt crowded = ⊎_elim
        (λ (earlier : i < k). before i earlier crowded)
        (λ (past : k ≤ i).
        let here : i ≡ k = omega (arith, lt, past) in
        let list : crowded.entries ≡ entries = same_Some crowded.entries entries (sym crowded.listed ∙ ap (slice_get certificate.functions) here ∙ listed) in
        few (subst (λ (l : List Entry). 2 ^ 28 ≤ insertions (placements_in l)) list crowded.many))
        (cases_lt i k)

  pub none_crowded : (k : ℕ) → length certificate.functions ≤ k → ((i : ℕ) → i < k → ¬ (IsCrowded certificate i)) → NoneIsCrowded certificate
  none_crowded k end before i crowded = before i (omega (arith, slice_get_within certificate.functions i crowded.entries crowded.listed, end)) crowded
