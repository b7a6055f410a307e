-- The first entry that has a fault.
use Rattle.std.proofs.Common.{◌≡◌, ⊎_elim, ℕ, ◌+◌, ◌<◌, ◌≤◌, List, length, get_or, Some, refl, sym, ap, ◌∙◌, subst, arith}
use Rattle.std.specs.Prelude.{slice_get}
use Rattle.std.proofs.lemmas.Bool.{cases_lt}
use Rattle.std.proofs.lemmas.Option.{slice_get_read, slice_get_within, same_Some}
use Rattle.profile.specs.declared.counts.FnCounts.{FnCounts}
use Rattle.certificate.specs.declared.types.Entry.{Entry}
use Rattle.certificate.specs.declared.types.Certificate.{Certificate}
use Rattle.certified.specs.Entries.{IsGood}
use Rattle.checker.specs.Checked.{AreGoodEntries, AreReady, IsCounting, IsReasonAt, IsReasonIn, NoneIsFaulty}
use Rattle.checker.specs.Reasons.{AreLengths, EntryAt, IsGoodAt}
use Rattle.checker.specs.declared.numbered.Numbered.{Numbered}
use Rattle.checker.specs.declared.verdict.Reason.{Reason}
use Rattle.checker.proofs.Fitting.{fits_here}

-- ---- the entries of a function

module _ (q : Numbered) (own : FnCounts) (entries : List Entry) (x : ℕ) (good : AreGoodEntries q own entries x) where
  pub one_more_entry : (entry : Entry) → slice_get entries x ≡ Some entry → IsGood q.function.now q.points q.table own x entry → AreGoodEntries q own entries (x + 1)
  one_more_entry entry there is y other lt entered = ⊎_elim
      (λ (before : y < x). good y other before entered)
      (λ (past : x ≤ y).
      let here : x ≡ y = omega (arith, lt, past) in
      let same : entry ≡ other = same_Some entry other (sym there ∙ ap (slice_get entries) here ∙ entered) in
      subst (λ (z : ℕ). IsGood q.function.now q.points q.table own z other) here (subst (IsGood q.function.now q.points q.table own x) same is))
      (cases_lt y x)

  pub all_entries : length entries ≤ x → AreGoodEntries q own entries (length entries)
  all_entries end y entry lt entered = good y entry (omega (arith, lt, end)) entered

-- ---- the entries of all functions

module _ (counts : List FnCounts) (numbered : List Numbered) (certificate : Certificate) (k : ℕ) where
  module _ (q : Numbered) (own : FnCounts) (entries : List Entry) (there : slice_get numbered k ≡ Some q) (counted : slice_get counts k ≡ Some own) (listed : slice_get certificate.functions k ≡ Some entries) where
    good_here : (n : ℕ) → AreGoodEntries q own entries n → (i y : ℕ) → k ≡ i → y < n → (at : EntryAt counts numbered certificate i y) → IsGoodAt counts numbered certificate i y at
    good_here n good i y here lt at =
        let same : q ≡ at.numbers = same_Some q at.numbers (sym there ∙ ap (slice_get numbered) here ∙ at.there) in
        let same_own : own ≡ at.own = same_Some own at.own (sym counted ∙ ap (slice_get counts) here ∙ at.counted) in
        let list : entries ≡ at.entries = same_Some entries at.entries (sym listed ∙ ap (slice_get certificate.functions) here ∙ at.listed) in
        let entered : slice_get entries y ≡ Some at.entry = subst (λ (l : List Entry). slice_get l y ≡ Some at.entry) (sym list) at.entered in
        subst (λ (p : Numbered). IsGood p.function.now p.points p.table at.own y at.entry) same
        (subst (λ (c : FnCounts). IsGood q.function.now q.points q.table c y at.entry) same_own (good y at.entry lt entered))

    pub one_more_good : AreGoodEntries q own entries (length entries) → NoneIsFaulty counts numbered certificate k → NoneIsFaulty counts numbered certificate (k + 1)
    one_more_good good none i x at lt = ⊎_elim
        (λ (before : i < k). none i x at before)
        (λ (past : k ≤ i).
        let here : k ≡ i = omega (arith, lt, past) in
        let list : entries ≡ at.entries = same_Some entries at.entries (sym listed ∙ ap (slice_get certificate.functions) here ∙ at.listed) in
        let within : x < length entries = subst (λ (l : List Entry). x < length l) (sym list) (slice_get_within at.entries x at.entry at.entered) in
        good_here (length entries) good i x here within at)
        (cases_lt i k)

    pub reason_at : (reason : Reason) → IsReasonIn q own entries k reason → NoneIsFaulty counts numbered certificate k → IsReasonAt counts numbered certificate reason
    reason_at reason is none = record {
      function = k;
      expression = is.expression;
      fault = is.fault;
      first = record {
        at = record { numbers = q; there = there; own = own; counted = counted; entries = entries; listed = listed; entry = is.entry; entered = is.entered };
        is_fault = is.is_fault;
        not_good = is.not_good;
        before = λ i y order earlier. ⊎_elim
            (λ (before : i < k). none i y earlier before)
            (λ (same : (i ≡ k) × (y < is.expression)). good_here is.expression is.before i y (sym same.0) same.1 earlier)
            order;
      };
      is = is.is;
    }

-- ---- one turn of the loop

-- the function k, its counts and its entries
pub record IsTurn (counts : List FnCounts) (numbered : List Numbered) (certificate : Certificate) (k : ℕ) (q : Numbered) (own : FnCounts) (entries : List Entry) : Type 0 where
  pub there : slice_get numbered k ≡ Some q
  pub counted : slice_get counts k ≡ Some own
  pub listed : slice_get certificate.functions k ≡ Some entries
  pub are : IsCounting q.function.now own
  pub fits : length entries ≡ length q.table.exprs

module _ (counts : List FnCounts) (numbered : List Numbered) (certificate : Certificate) (ready : AreReady numbered counts) (k : ℕ) (q : Numbered) (inside : k < length numbered) (read : q ≡ get_or numbered k q) where
  pub there_at : slice_get numbered k ≡ Some q
  there_at = slice_get_read numbered (length numbered) k q refl inside read

  pub counts_inside : k < length counts
  counts_inside = let counted = ready.counted k q there_at in slice_get_within counts k counted.own counted.there

  pub turn : AreLengths numbered certificate → (lists : List (List Entry)) (list entries : List Entry) (own : FnCounts) → lists ≡ certificate.functions → list ≡ get_or lists k list → entries ≡ list → own ≡ get_or counts k own
      → IsTurn counts numbered certificate k q own entries
  turn lengths lists list entries own same list_read is own_read =
      let counted = ready.counted k q there_at in
      let at : slice_get counts k ≡ Some own = slice_get_read counts (length counts) k own refl counts_inside own_read in
      let within : k < length lists = omega (arith, inside, lengths.0, ap (λ (l : List (List Entry)). length l) same) in
      let listed : slice_get certificate.functions k ≡ Some entries = rw (sym same, is) (slice_get_read lists (length lists) k list refl within list_read) in
      record {
        there = there_at;
        counted = at;
        listed = listed;
        are = subst (IsCounting q.function.now) (same_Some counted.own own (sym counted.there ∙ at)) counted.are;
        fits = fits_here numbered certificate k q entries there_at listed lengths.1;
      }
