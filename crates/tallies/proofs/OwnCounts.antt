-- The counts of a function stand at its place among the functions that have blocks.
use Rattle.std.proofs.Common.{◌≡◌, ℕ, zero, suc, ◌<◌, ◌≤◌, Bool, true, false, not, if◌then◌else◌, List, [], ◌∷◌, length, take, filter, sum_by, get_or, Some, refl, sym, ap, ◌∙◌, subst, arith}
use Rattle.std.specs.Prelude.{slice_get}
use Rattle.std.specs.List.{AllZip}
use Rattle.std.proofs.lemmas.List.Sums.{sum_by-cons, get_or-le-sum_by}
use Rattle.std.proofs.lemmas.Option.{slice_get_within, get_or_from_slice_get, none-some, same_Some}
use Rattle.ir_types.specs.Rules.{is_nil}
use Rattle.ir_types.specs.Program.{Program}
use Rattle.ir_types.specs.declared.syntax.Block.{Block}
use Rattle.ir_types.specs.declared.syntax.Function.{Function}
use Rattle.ir_machine.specs.Same.{is_defined}
use Rattle.profile.specs.declared.counts.FnCounts.{FnCounts}
use Rattle.profile.specs.Counts.{AreCounts, IsAccepted, total}
use Rattle.profile.specs.Counts as counts
use Rattle.transform.specs.Transformed.{defined_before}
use Rattle.tallies.specs.Steps.{AreOwnCounts}

-- what stands at the place n has R
pub record IsAt (R : FnCounts → Type 0) (cs : List FnCounts) (n : ℕ) : Type 0 where
  pub own : FnCounts
  pub there : slice_get cs n ≡ Some own
  pub holds : R own

defined_same : (blocks : List Block) → not (is_nil blocks) ≡ is_defined blocks
defined_same [] = refl
defined_same (block ∷ blocks) = refl

never : (b : Bool) → b ≡ true → b ≡ false → ⊥
never b t e = absurd (let h : true ≡ false = sym t ∙ e in cc)

abbrev one : Function → ℕ
one f = if is_defined f.blocks then 1 else 0

pub before_defined : (g : Function) (gs : List Function) (k : ℕ) → is_defined g.blocks ≡ true → defined_before (g ∷ gs) (suc k) ≡ suc (defined_before gs k)
before_defined g gs k d =
    let first : one g ≡ 1 = ap (λ b. if b then 1 else 0) d in
    omega (arith, sum_by-cons one g (take k gs), first)

pub before_declared : (g : Function) (gs : List Function) (k : ℕ) → is_defined g.blocks ≡ false → defined_before (g ∷ gs) (suc k) ≡ defined_before gs k
before_declared g gs k d =
    let first : one g ≡ 0 = ap (λ b. if b then 1 else 0) d in
    omega (arith, sum_by-cons one g (take k gs), first)

module _ (R : Function → FnCounts → Type 0) where
  abbrev AreAll : List Function → List FnCounts → Type 0
  AreAll fs cs = AllZip R (filter counts.is_defined fs) cs

  abbrev ArePlaced : List Function → Type 0
  ArePlaced fs = (cs : List FnCounts) → AreAll fs cs → (k : ℕ) (f : Function) → slice_get fs k ≡ Some f → is_defined f.blocks ≡ true → IsAt (R f) cs (defined_before fs k)

  behind_defined : (g : Function) (gs : List Function) → is_defined g.blocks ≡ true → ArePlaced gs → (cs : List FnCounts) → AllZip R (g ∷ filter counts.is_defined gs) cs
      → (k : ℕ) (f : Function) → slice_get (g ∷ gs) k ≡ Some f → is_defined f.blocks ≡ true → IsAt (R f) cs (defined_before (g ∷ gs) k)
  behind_defined g gs d rest [] all k f there e = absurd all
  behind_defined g gs d rest (c ∷ cs) all zero f there e = record { own = c; there = refl; holds = subst (λ h. R h c) (same_Some g f there) all.0 }
  behind_defined g gs d rest (c ∷ cs) all (suc k) f there e =
      let here = rest cs all.1 k f there e in
      record { own = here.own; there = subst (λ n. slice_get (c ∷ cs) n ≡ Some here.own) (sym (before_defined g gs k d)) here.there; holds = here.holds }

  behind_declared : (g : Function) (gs : List Function) → is_defined g.blocks ≡ false → ArePlaced gs → (cs : List FnCounts) → AreAll gs cs
      → (k : ℕ) (f : Function) → slice_get (g ∷ gs) k ≡ Some f → is_defined f.blocks ≡ true → IsAt (R f) cs (defined_before (g ∷ gs) k)
  behind_declared g gs d rest cs all zero f there e = absurd (never (is_defined g.blocks) (ap (λ h. is_defined h.blocks) (same_Some g f there) ∙ e) d)
  behind_declared g gs d rest cs all (suc k) f there e =
      let here = rest cs all k f there e in
      record { own = here.own; there = subst (λ n. slice_get cs n ≡ Some here.own) (sym (before_declared g gs k d)) here.there; holds = here.holds }

  one_more : (g : Function) (gs : List Function) (b : Bool) → is_defined g.blocks ≡ b → ArePlaced gs → ArePlaced (g ∷ gs)
  one_more g gs true d rest cs all =
      let kept : filter counts.is_defined (g ∷ gs) ≡ g ∷ filter counts.is_defined gs = ap (λ b. if b then g ∷ filter counts.is_defined gs else filter counts.is_defined gs) (defined_same g.blocks ∙ d) in
      behind_defined g gs d rest cs (subst (λ l. AllZip R l cs) kept all)
  one_more g gs false d rest cs all =
      let left : filter counts.is_defined (g ∷ gs) ≡ filter counts.is_defined gs = ap (λ b. if b then g ∷ filter counts.is_defined gs else filter counts.is_defined gs) (defined_same g.blocks ∙ d) in
      behind_declared g gs d rest cs (subst (λ l. AllZip R l cs) left all)

  none_placed : ArePlaced []
  none_placed cs all k f there e = absurd (none-some f there)

  are_placed : (fs : List Function) → ArePlaced fs
  are_placed [] = none_placed
  are_placed (g ∷ gs) = one_more g gs (is_defined g.blocks) refl (are_placed gs)

-- the counts of a function that has blocks are good
pub own_counts : (m : Program) (cs : List FnCounts) → IsAccepted m cs → (k : ℕ) (f : Function) → slice_get m.functions k ≡ Some f → is_defined f.blocks ≡ true → IsAt (AreOwnCounts f) cs (defined_before m.functions k)
own_counts m cs accepted k f there d =
    let here = are_placed AreCounts m.functions cs accepted.functions k f there d in
    let n = defined_before m.functions k in
    let inside : n < length cs = slice_get_within cs n here.own here.there in
    let below : total (get_or cs n here.own) ≤ sum_by total cs = get_or-le-sum_by total cs n here.own inside in
    let same : total (get_or cs n here.own) ≡ total here.own = ap total (get_or_from_slice_get cs n here.own here.own here.there) in
    record {
      own = here.own;
      there = here.there;
      holds = record { slots = here.holds.slots; unreached = here.holds.unreached; small = omega (arith, below, same, accepted.total) };
    }
