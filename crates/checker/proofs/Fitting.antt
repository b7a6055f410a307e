-- Where a list of entries has another length than its table.
use Rattle.std.proofs.Common.{◌≡◌, ◌≢◌, ⊎_elim, ℕ, ◌+◌, ◌<◌, ◌≤◌, List, length, min, Some, refl, sym, ap, ◌∙◌, arith}
use Rattle.std.specs.Prelude.{slice_get}
use Rattle.std.proofs.lemmas.Bool.{cases_lt, cases_eq}
use Rattle.std.proofs.lemmas.Option.{slice_get_within, same_Some}
use Rattle.certificate.specs.declared.types.Entry.{Entry}
use Rattle.certificate.specs.declared.types.Certificate.{Certificate}
use Rattle.checker.specs.Checked.{NoneDiffers}
use Rattle.checker.specs.Reasons.{DiffersAt}
use Rattle.checker.specs.declared.numbered.Numbered.{Numbered}

module _ (numbered : List Numbered) (certificate : Certificate) where
  module _ (k : ℕ) (q : Numbered) (entries : List Entry) (there : slice_get numbered k ≡ Some q) (listed : slice_get certificate.functions k ≡ Some entries) where
    pub differs_here : length entries ≢ length q.table.exprs → DiffersAt numbered certificate k (min (length entries) (length q.table.exprs))
    differs_here other = record { numbers = q; there = there; entries = entries; listed = listed; differs = other; shorter = refl }

    pub one_more_fits : length entries ≡ length q.table.exprs → ((i n : ℕ) → i < k → ¬ (DiffersAt numbered certificate i n)) → (i n : ℕ) → i < k + 1 → ¬ (DiffersAt numbered certificate i n)
    one_more_fits same before i n lt differs = ⊎_elim
        (λ (earlier : i < k). before i n earlier differs)
        (λ (past : k ≤ i).
        let here : i ≡ k = omega (arith, lt, past) in
        let own : differs.numbers ≡ q = same_Some differs.numbers q (sym differs.there ∙ ap (slice_get numbered) here ∙ there) in
        let list : differs.entries ≡ entries = same_Some differs.entries entries (sym differs.listed ∙ ap (slice_get certificate.functions) here ∙ listed) in
        differs.differs (ap (λ (l : List Entry). length l) list ∙ same ∙ ap (λ (p : Numbered). length p.table.exprs) (sym own)))
        (cases_lt i k)

    -- where no list of entries differs
    pub fits_here : NoneDiffers numbered certificate → length entries ≡ length q.table.exprs
    fits_here none = ⊎_elim
        (λ same. same)
        (λ other. absurd (none k (min (length entries) (length q.table.exprs)) (differs_here other)))
        (cases_eq (length entries) (length q.table.exprs))

  pub none_differs : (k : ℕ) → length numbered ≤ k → ((i n : ℕ) → i < k → ¬ (DiffersAt numbered certificate i n)) → NoneDiffers numbered certificate
  none_differs k end before i n differs = before i n (omega (arith, slice_get_within numbered i differs.numbers differs.there, end)) differs
