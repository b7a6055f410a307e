-- The functions that have blocks, one by one.
use Rattle.std.proofs.Common.{◌≡◌, ⊎_elim, ℕ, ◌+◌, ◌<◌, ◌≤◌, ◌^◌, Bool, true, false, not, cond, List, [], ◌∷◌, ◌++◌, length, map, take, filter, get_or, Option, Some, refl, sym, ap, ◌∙◌, subst, arith, sum_by}
use Rattle.std.specs.Prelude.{slice_get, if◌then◌else◌}
use Rattle.std.specs.Option.{option_map}
use Rattle.std.specs.List.{AllZip}
use Rattle.std.proofs.lemmas.Bool.{cases_lt}
use Rattle.std.proofs.lemmas.List.{append-nil, length_push, length-take, map-append, take_all}
use Rattle.std.proofs.lemmas.List.Elements.{filter_more}
use Rattle.std.proofs.lemmas.List.Sums.{count_by-le-length, count_by_more_yes, count_by_more_no, get_or-le-sum_by}
use Rattle.std.proofs.lemmas.Option.{slice_get_within, slice_get-map, get_or_from_slice_get, same_Some}
use Rattle.ir_types.specs.Rules.{is_nil}
use Rattle.ir_types.specs.Program.{Program}
use Rattle.ir_types.specs.WellFormed.{IsWellFormed}
use Rattle.ir_types.specs.declared.syntax.Block.{Block}
use Rattle.ir_types.specs.declared.syntax.Function.{Function}
use Rattle.ir_machine.specs.Same.{is_defined}
use Rattle.profile.specs.declared.counts.FnCounts.{FnCounts}
use Rattle.profile.specs.Counts.{AreCounts, IsAccepted, total}
use Rattle.profile.specs.Counts as counts
use Rattle.transform.proofs.Alone.{defined_length}
use Rattle.transform.specs.Transformed.{defined_before}
use Rattle.checker.specs.Checked.{AreReady, HasCounts, HasRules}
use Rattle.checker.specs.Numbering.{AreNumberedSoFar, IsOwn, function_of}
use Rattle.checker.specs.Reasons.{AreNumbered, IsNumbered}
use Rattle.checker.specs.declared.numbered.Numbered.{Numbered}
use Rattle.checker.proofs.Grown.{get_left, get_last, get_push, zip_at}

defined_same : (blocks : List Block) → not (is_nil blocks) ≡ is_defined blocks
defined_same [] = refl
defined_same (block ∷ blocks) = refl

module _ (m : Program) (n : ℕ) (f : Function) (numbered : List Numbered) (there : slice_get m.functions n ≡ Some f) (are : AreNumberedSoFar m n numbered) where
  abbrev defined : Function → Bool
  defined g = is_defined g.blocks

  inside : n < length m.functions
  inside = slice_get_within m.functions n f there

  before_next : (b : Bool) → defined f ≡ b → defined_before m.functions (n + 1) ≡ defined_before m.functions n + (if b then 1 else 0)
  before_next true e = count_by_more_yes defined m.functions n f inside (ap defined (get_or_from_slice_get m.functions n f f there) ∙ e)
  before_next false e = omega (arith, count_by_more_no defined m.functions n f inside (ap defined (get_or_from_slice_get m.functions n f f there) ∙ e))

  kept_next : (b : Bool) → defined f ≡ b → filter counts.is_defined (take (n + 1) m.functions) ≡ filter counts.is_defined (take n m.functions) ++ cond b (f ∷ []) []
  kept_next b e =
      let before = filter counts.is_defined (take n m.functions) in
      filter_more counts.is_defined m.functions n f inside
      ∙ ap (λ (g : Function). before ++ cond (counts.is_defined g) (g ∷ []) []) (get_or_from_slice_get m.functions n f f there)
      ∙ ap (λ (c : Bool). before ++ cond c (f ∷ []) []) (defined_same f.blocks ∙ e)

  module _ (e : defined f ≡ true) (q : Numbered) (is : IsNumbered m f q) where
    last_own : (j : ℕ) → j ≡ length numbered → IsOwn m j q
    last_own j at = record {
      number = n;
      there = there ∙ ap Some (sym is.function);
      defined = ap defined is.function ∙ e;
      before = sym are.count ∙ sym at;
      is_numbered = subst (λ (g : Function). IsNumbered m g q) (sym is.function) is;
    }

    pub one_more : AreNumberedSoFar m (n + 1) (numbered ++ q ∷ [])
    one_more = record {
      count = omega (arith, length_push numbered q, are.count, before_next true e);
      each = λ k g lt at d. ⊎_elim
          (λ (before : k < n). let has = are.each k g before at d in record { numbers = has.numbers; there = get_left numbered q (defined_before m.functions k) has.numbers has.there; are = has.are })
          (λ (past : n ≤ k).
          let here : n ≡ k = omega (arith, lt, past) in
          let same : f ≡ g = same_Some f g (sym there ∙ ap (slice_get m.functions) here ∙ at) in
          let last : slice_get (numbered ++ q ∷ []) (defined_before m.functions k) ≡ Some q =
          subst (λ j. slice_get (numbered ++ q ∷ []) j ≡ Some q) (are.count ∙ ap (defined_before m.functions) here) (get_last numbered q) in
          record { numbers = q; there = last; are = subst (λ (g : Function). IsNumbered m g q) same is })
          (cases_lt k n);
      functions = map-append function_of numbered (q ∷ []) ∙ ap (λ (l : List Function). l ++ q.function.now ∷ []) are.functions
          ∙ ap (λ (g : Function). filter counts.is_defined (take n m.functions) ++ g ∷ []) is.function ∙ sym (kept_next true e);
      own = λ j p at. ⊎_elim
          (λ (before : slice_get numbered j ≡ Some p). are.own j p before)
          (λ (last : (j ≡ length numbered) × (q ≡ p)). subst (IsOwn m j) last.1 (last_own j last.0))
          (get_push numbered q j p at);
    }

  pub none_more : defined f ≡ false → AreNumberedSoFar m (n + 1) numbered
  none_more e = record {
    count = omega (arith, are.count, before_next false e);
    each = λ k g lt at d. ⊎_elim
        (λ (before : k < n). are.each k g before at d)
        (λ (past : n ≤ k).
        let here : n ≡ k = omega (arith, lt, past) in
        let same : f ≡ g = same_Some f g (sym there ∙ ap (slice_get m.functions) here ∙ at) in
        absurd (true_false (sym d ∙ ap defined (sym same) ∙ e)))
        (cases_lt k n);
    functions = are.functions ∙ sym (append-nil (filter counts.is_defined (take n m.functions))) ∙ sym (kept_next false e);
    own = are.own;
  }
    where
      true_false : true ≡ false → ⊥
      true_false e = cc

-- ---- all functions

module _ (m : Program) (numbered : List Numbered) (are : AreNumberedSoFar m (length m.functions) numbered) where
  pub all_numbers : AreNumbered m numbered
  all_numbers = record {
    count = are.count;
    each = λ k f there d. are.each k f (slice_get_within m.functions k f there) there d;
  }

  pub few_functions : IsWellFormed m → length numbered < 2 ^ 32
  few_functions rules =
      let n = length m.functions in
      omega (arith, are.count, count_by-le-length (λ (f : Function). is_defined f.blocks) (take n m.functions), length-take n m.functions, rules.few_functions)

  module _ (cs : List FnCounts) (accepted : IsAccepted m cs) where
    counts_zip : AllZip AreCounts (map function_of numbered) cs
    counts_zip =
        let same : map function_of numbered ≡ counts.defined m = are.functions ∙ ap (filter counts.is_defined) (take_all (length m.functions) m.functions (omega arith)) in
        subst (λ (fs : List Function). AllZip AreCounts fs cs) (sym same) accepted.functions

    own_counts : (j : ℕ) (q : Numbered) → slice_get numbered j ≡ Some q → HasCounts cs j q
    own_counts j q there =
        let at : slice_get (map function_of numbered) j ≡ Some q.function.now = slice_get-map function_of numbered j ∙ ap (λ (o : Option Numbered). option_map function_of o) there in
        let found = zip_at AreCounts (map function_of numbered) cs j q.function.now counts_zip at in
        let own = found.0 in
        let inside : j < length cs = slice_get_within cs j own found.1 in
        let below : total (get_or cs j own) ≤ sum_by total cs = get_or-le-sum_by total cs j own inside in
        let same : total (get_or cs j own) ≡ total own = ap total (get_or_from_slice_get cs j own own found.1) in
        record {
          own = own;
          there = found.1;
          are = record { slots = found.2.slots; unreached = found.2.unreached; total = omega (arith, below, same, accepted.total) };
        }

    rules_of : (j : ℕ) (q : Numbered) → IsOwn m j q → HasRules q
    rules_of j q own = record {
      defined = defined_length q.function.now own.defined;
      are_points = own.is_numbered.are_points;
      is_table = own.is_numbered.is_table;
    }

    pub ready : AreReady numbered cs
    ready = record {
      rules = λ j q there. rules_of j q (are.own j q there);
      counted = own_counts;
    }
