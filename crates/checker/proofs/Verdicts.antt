-- What was checked is that the certificate is good, and the first reason is one.
use Rattle.std.proofs.Common.{◌≡◌, ⊎_elim, inr, Option, None, ◌<◌, ◌≤◌, ◌^◌, ℕ, true, List, length, Some, refl, sym, ap, ◌∙◌, subst, arith}
use Rattle.std.specs.Prelude.{slice_get, IfSome, MatchOption}
use Rattle.std.proofs.lemmas.Bool.{cases_lt}
use Rattle.std.proofs.lemmas.Option.{slice_get_within, same_Some}
use Rattle.ir_types.specs.Program.{Program}
use Rattle.ir_types.specs.declared.syntax.Function.{Function}
use Rattle.ir_machine.specs.Same.{is_defined}
use Rattle.profile.specs.declared.counts.FnCounts.{FnCounts}
use Rattle.placement.specs.declared.placements.Placement.{Placement}
use Rattle.certificate.specs.declared.types.Entry.{Entry}
use Rattle.certificate.specs.declared.types.Certificate.{Certificate}
use Rattle.transform.proofs.Alone.{defined_length}
use Rattle.transform.specs.declared.placed.Placed.{Placed}
use Rattle.transform.specs.Transformed.{IsTransformed, defined_before}
use Rattle.one_transformed.specs.Laws.{OneNumbering}
use Rattle.one_transformed.specs.Numberings.{AreSame}
use Rattle.certified.specs.Entries.{IsGood}
use Rattle.certified.specs.Certified.{AreGood, AreFew, EachGood, HasGood, IsCertified, insertions, placements_in}
use Rattle.entry_check.specs.declared.fault.Fault.{Fault}
use Rattle.entry_check.specs.declared.fault.Fault.TheVariants.{Lists, Missing, Incorrect, Unsafe, Capacity, Balance, Value, Rank, Places}
use Rattle.checker.specs.Checked.{AreReady, IsChecked, IsReasonAt, NoneIsFaulty, reason_of}
use Rattle.checker.specs.Numbering.{AreNumberedSoFar}
use Rattle.checker.specs.Placing.{ArePlacedBy, placed_by}
use Rattle.checker.specs.Reasons.{AreLengths, DiffersAt, EntryAt, IsFirstFault, IsFirstReason, IsGoodAt, NoneIsCrowded}
use Rattle.checker.specs.declared.numbered.Numbered.{Numbered}
use Rattle.checker.specs.declared.verdict.Reason.{Reason}
use Rattle.checker.proofs.Carried.{good_there}
use Rattle.checker.proofs.Grown.{get_some}
use Rattle.checker.proofs.Fitting.{fits_here}

-- ---- the first reason

module _ (m : Program) (counts : List FnCounts) (bytes : List ℕ) (certificate : Certificate) (numbered : List Numbered) where
  abbrev IsFirst : Reason → Type 0
  IsFirst reason = IsFirstReason m counts bytes certificate numbered reason

  module _ (lengths : AreLengths numbered certificate) (few : NoneIsCrowded certificate) where
    fault_first : (fault : Fault) (k x : ℕ) → IsFirstFault counts numbered certificate k x fault → IsFirst (reason_of k x fault)
    fault_first Lists k x first = inr (inr (lengths, few, first))
    fault_first Missing k x first = (lengths, few, first)
    fault_first (Incorrect point) k x first = (lengths, few, first)
    fault_first (Unsafe edge) k x first = (lengths, few, first)
    fault_first (Capacity arc) k x first = (lengths, few, first)
    fault_first (Balance node) k x first = (lengths, few, first)
    fault_first (Value cost sum) k x first = (lengths, few, first)
    fault_first (Rank node) k x first = (lengths, few, first)
    fault_first Places k x first = (lengths, few, first)

    reason_first : (reason : Reason) → IsReasonAt counts numbered certificate reason → IsFirst reason
    reason_first reason is = subst (λ (r : Reason). IsFirst r) (sym is.is) (fault_first is.fault is.function is.expression is.first)

module _ (counts : List FnCounts) (certificate : Certificate) (numbered : List Numbered) where
  fault_unchecked : (reason : Reason) → IsReasonAt counts numbered certificate reason → ¬ (IsChecked counts numbered certificate)
  fault_unchecked reason is checked = is.first.not_good (checked.good is.function is.expression is.first.at)

  -- by what the entries tell, once the lengths and the sums were looked at
  abbrev pub Found : Option Reason → Type 0
  Found found = MatchOption found (NoneIsFaulty counts numbered certificate (length numbered)) (IsReasonAt counts numbered certificate)

  pub found_first : AreLengths numbered certificate → NoneIsCrowded certificate → (found : Option Reason) → Found found
      → MatchOption found (IsChecked counts numbered certificate) (λ reason. (m : Program) (bytes : List ℕ) → IsFirstReason m counts bytes certificate numbered reason)
  found_first lengths few None none = record { lengths = lengths; none_crowded = few; good = λ k x at. none k x at (slice_get_within numbered k at.numbers at.there) }
  found_first lengths few (Some reason) is = λ m bytes. reason_first m counts bytes certificate numbered lengths few reason is

  pub found_unchecked : (found : Option Reason) → Found found → IfSome found (λ _. ¬ (IsChecked counts numbered certificate))
  found_unchecked None none = tt
  found_unchecked (Some reason) is = fault_unchecked reason is

-- ---- a certificate that was checked is good

module _ (m : Program) (counts : List FnCounts) (certificate : Certificate) (numbered : List Numbered) (are : AreNumberedSoFar m (length m.functions) numbered) where
  module _ (ready : AreReady numbered counts) (checked : IsChecked counts numbered certificate) (placed : List Placed) (by : ArePlacedBy numbered certificate placed) where
    few_here : (j : ℕ) (entries : List Entry) → slice_get certificate.functions j ≡ Some entries → AreFew (placements_in entries)
    few_here j entries listed = ⊎_elim
        (λ (few : insertions (placements_in entries) < 2 ^ 28). few)
        (λ (many : 2 ^ 28 ≤ insertions (placements_in entries)). absurd (checked.none_crowded j (record { entries = entries; listed = listed; many = many })))
        (cases_lt (insertions (placements_in entries)) (2 ^ 28))

    good_at : (k : ℕ) (f : Function) → slice_get m.functions k ≡ Some f → is_defined f.blocks ≡ true → HasGood m counts certificate placed k f
    good_at k f there d =
        let j = defined_before m.functions k in
        let has = are.each k f (slice_get_within m.functions k f there) there d in
        let q = has.numbers in
        let counted = ready.counted j q has.there in
        let lists : length certificate.functions ≡ length numbered = checked.lengths.0 in
        let inside : j < length numbered = slice_get_within numbered j q has.there in
        let list = get_some certificate.functions j (omega (arith, lists, inside)) in
        let entries = list.0 in
        record {
          own = counted.own;
          counted = counted.there;
          entries = entries;
          listed = list.1;
          placed_here = placed_by q entries;
          there = by.each j q entries has.there list.1;
          good = record {
            are_points = has.are.are_points;
            of_module = has.are.of_module;
            is_table = has.are.is_table;
            placements = refl;
            count = fits_here numbered certificate j q entries has.there list.1 checked.lengths.1;
            few = few_here j entries list.1;
            each = λ x entry entered. subst (λ (g : Function). IsGood g q.points q.table counted.own x entry) has.are.function
                (checked.good j x (record { numbers = q; there = has.there; own = counted.own; counted = counted.there; entries = entries; listed = list.1; entry = entry; entered = entered }));
          };
        }

    pub each_good : EachGood m counts certificate placed
    each_good = record { functions = checked.lengths.0 ∙ are.count; count = by.count ∙ are.count; each = good_at }

    pub certified_here : (made : Program) → IsTransformed m placed made → IsCertified m counts certificate made
    certified_here made transformed = record { placed = placed; each_good = each_good; transformed = transformed }

  -- ---- a good certificate passes

  module _ (numbering : OneNumbering) (placed : List Placed) (each : EachGood m counts certificate placed) where
    -- what the certificate places in the function of this number is good
    record IsGoodHere (j : ℕ) (q : Numbered) : Type 0 where
      own : FnCounts
      counted : slice_get counts j ≡ Some own
      entries : List Entry
      listed : slice_get certificate.functions j ≡ Some entries
      placed_here : Placed
      good : AreGood m q.function.now own entries placed_here
      same : AreSame q.function.now placed_here.points q.points placed_here.table q.table

    is_good_here : (j : ℕ) (q : Numbered) → slice_get numbered j ≡ Some q → IsGoodHere j q
    is_good_here j q there =
        let own = are.own j q there in
        let has = each.each own.number q.function.now own.there own.defined in
        record {
          own = has.own;
          counted = subst (λ (i : ℕ). slice_get counts i ≡ Some has.own) own.before has.counted;
          entries = has.entries;
          listed = subst (λ (i : ℕ). slice_get certificate.functions i ≡ Some has.entries) own.before has.listed;
          placed_here = has.placed_here;
          good = has.good;
          same = numbering q.function.now has.placed_here.points q.points has.placed_here.table q.table (defined_length q.function.now own.defined)
              (has.good.of_module ∙ sym own.is_numbered.of_module) has.good.are_points own.is_numbered.are_points has.good.is_table own.is_numbered.is_table;
        }

    lists_fit : length certificate.functions ≡ length numbered
    lists_fit = each.functions ∙ sym are.count

    none_differs : (k n : ℕ) → ¬ (DiffersAt numbered certificate k n)
    none_differs k n differs =
        let here = is_good_here k differs.numbers differs.there in
        let list : differs.entries ≡ here.entries = same_Some differs.entries here.entries (sym differs.listed ∙ here.listed) in
        differs.differs (ap (λ (l : List Entry). length l) list ∙ here.good.count ∙ ap (λ l. length l) here.same.exprs)

    none_crowded : NoneIsCrowded certificate
    none_crowded k crowded =
        let inside : k < length certificate.functions = slice_get_within certificate.functions k crowded.entries crowded.listed in
        let q = get_some numbered k (omega (arith, lists_fit, inside)) in
        let here = is_good_here k q.0 q.1 in
        let list : crowded.entries ≡ here.entries = same_Some crowded.entries here.entries (sym crowded.listed ∙ here.listed) in
        let few : AreFew (placements_in crowded.entries) =
        subst (λ (l : List Entry). AreFew (placements_in l)) (sym list) (subst (λ (l : List Placement). AreFew l) here.good.placements here.good.few) in
        let many : 2 ^ 28 ≤ insertions (placements_in crowded.entries) = crowded.many in
        absurd (omega (arith, few, many))

    all_good : (k x : ℕ) (at : EntryAt counts numbered certificate k x) → IsGoodAt counts numbered certificate k x at
    all_good k x at =
        let q = at.numbers in
        let here = is_good_here k q at.there in
        let own : here.own ≡ at.own = same_Some here.own at.own (sym here.counted ∙ at.counted) in
        let list : at.entries ≡ here.entries = same_Some at.entries here.entries (sym at.listed ∙ here.listed) in
        let entered : slice_get here.entries x ≡ Some at.entry = subst (λ (l : List Entry). slice_get l x ≡ Some at.entry) list at.entered in
        let good = here.good.each x at.entry entered in
        subst (λ (c : FnCounts). IsGood q.function.now q.points q.table c x at.entry) own
        (good_there q.function.now here.placed_here.points q.points here.placed_here.table q.table here.same here.good.are_points here.good.is_table here.own x at.entry good)

    pub good_passes : IsChecked counts numbered certificate
    good_passes = record { lengths = (lists_fit, none_differs); none_crowded = none_crowded; good = all_good }
