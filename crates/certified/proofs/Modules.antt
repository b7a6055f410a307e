-- A good certificate has one module, and the placements that it names are the best ones.
use Rattle.std.proofs.Common.{◌≡◌, ◌≤◌, ◌<◌, ◌^◌, ℕ, true, List, Some, length, get_or, sum_by, sym, ap, ◌∙◌, subst, arith}
use Rattle.std.specs.Prelude.{slice_get}
use Rattle.std.proofs.lemmas.List.Sums.{get_or-le-sum_by}
use Rattle.std.proofs.lemmas.Option.{same_Some, slice_get_within, get_or_from_slice_get}
use Rattle.ir_types.specs.Program.{Program}
use Rattle.ir_types.specs.declared.syntax.Function.{Function}
use Rattle.ir_machine.specs.Same.{is_defined}
use Rattle.profile.specs.Counts.{IsAccepted, total}
use Rattle.profile.specs.declared.counts.FnCounts.{FnCounts}
use Rattle.point_graph.specs.Numbers.{ArePoints}
use Rattle.point_graph.specs.declared.graph.Points.{Points}
use Rattle.expressions.specs.Kept.{Kept}
use Rattle.expressions.specs.Tables.{IsTable}
use Rattle.best_choice.specs.Best.{IsBestIn}
use Rattle.transform.proofs.Alone.{defined_length}
use Rattle.transform.specs.Transformed.{defined_before}
use Rattle.transform.specs.declared.placed.Placed.{Placed}
use Rattle.one_transformed.specs.Laws.{BestStays, OneNumbering, OneTransformed}
use Rattle.one_transformed.specs.Numberings.{AreSame, HasParts, HasSame}
use Rattle.certificate.specs.declared.types.Certificate.{Certificate}
use Rattle.certificate.specs.declared.types.Entry.{Entry}
use Rattle.certified.specs.Certified.{AreGood, AreAllBest, HasGood, IsCertified, placements_in}
use Rattle.certified.specs.Entries.{IsPlain}
use Rattle.certified.specs.Laws.{GoodIsBest}

-- ---- one module

parts_of : (m : Program) (f : Function) (own : FnCounts) (entries : List Entry) (q : Placed) → AreGood m f own entries q → HasParts m f q
parts_of m f own entries q good = record { are_points = good.are_points; of_module = good.of_module; is_table = good.is_table }

module _ (m : Program) (counts : List FnCounts) (certificate : Certificate) where
  -- by one certificate the same is placed
  same_at : (placed others : List Placed) (k : ℕ) (f : Function) → HasGood m counts certificate placed k f → HasGood m counts certificate others k f → HasSame m placed others k f
  same_at placed others k f has also =
      let entries : has.entries ≡ also.entries = same_Some has.entries also.entries (sym has.listed ∙ also.listed) in
      record {
        one = has.placed_here;
        one_there = has.there;
        one_parts = parts_of m f has.own has.entries has.placed_here has.good;
        other = also.placed_here;
        other_there = also.there;
        other_parts = parts_of m f also.own also.entries also.placed_here also.good;
        placements = has.good.placements ∙ ap placements_in entries ∙ sym also.good.placements;
      }

  pub one_certified : OneTransformed → (one other : Program) → IsCertified m counts certificate one → IsCertified m counts certificate other → one ≡ other
  one_certified transformed one other is also =
      transformed m is.placed also.placed one other
      (λ k f there defined. same_at is.placed also.placed k f (is.each_good.each k f there defined) (also.each_good.each k f there defined)) is.transformed also.transformed

-- ---- the best placements

total_small : (m : Program) (counts : List FnCounts) → IsAccepted m counts → (n : ℕ) (own : FnCounts) → slice_get counts n ≡ Some own → total own < 2 ^ 64
total_small m counts accepted n own there =
    let below : total (get_or counts n own) ≤ sum_by total counts = get_or-le-sum_by total counts n own (slice_get_within counts n own there) in
    let same : total (get_or counts n own) ≡ total own = ap total (get_or_from_slice_get counts n own own there) in
    omega (arith, below, same, accepted.total)

plain_there : (f : Function) (p p' : Points) (t t' : Kept) (x : ℕ) → AreSame f p p' t t' → IsPlain t' x → IsPlain t x
plain_there f p p' t t' x same plain expr there = plain expr (subst (λ l. slice_get l x ≡ Some expr) same.exprs there)

-- a numbering has one meaning, and the placement of a good entry is the best one
pub record BestLaws : Type 0 where
  pub numbering : OneNumbering
  pub stays : BestStays
  pub good : GoodIsBest

module _ (laws : BestLaws) (m : Program) (f : Function) (defined : is_defined f.blocks ≡ true) (own : FnCounts) (small : total own < 2 ^ 64) where
  -- by the points and the table that are placed, and so by all others
  best_in : (entries : List Entry) (q : Placed) → AreGood m f own entries q → (p : Points) (t : Kept) (x : ℕ) (entry : Entry) → ArePoints f p → t.module_of ≡ m → IsTable f p t
      → slice_get entries x ≡ Some entry → IsPlain t x → IsBestIn f p t x own entry.placement
  best_in entries q good p t x entry are of_module table there plain =
      let blocks = defined_length f defined in
      let same = laws.numbering f q.points p q.table t blocks (good.of_module ∙ sym of_module) good.are_points are good.is_table table in
      let inside : x < length q.table.exprs = omega (arith, slice_get_within entries x entry there, good.count) in
      let best = laws.good f q.points q.table own x entry blocks good.are_points good.is_table inside small (plain_there f q.points p q.table t x same plain) (good.each x entry there) in
      laws.stays f q.points p q.table t x own entry.placement same best

pub certified_are_best : BestLaws → (m : Program) (counts : List FnCounts) (certificate : Certificate) (m' : Program) → IsAccepted m counts → IsCertified m counts certificate m' → AreAllBest m counts certificate
certified_are_best laws m counts certificate m' accepted is k f own entries p t x entry there defined counted listed are of_module table entry_there plain =
    let has = is.each_good.each k f there defined in
    let own_same : has.own ≡ own = same_Some has.own own (sym has.counted ∙ counted) in
    let entries_same : has.entries ≡ entries = same_Some has.entries entries (sym has.listed ∙ listed) in
    let good : AreGood m f own entries has.placed_here = subst (λ entries. AreGood m f own entries has.placed_here) entries_same (subst (λ own. AreGood m f own has.entries has.placed_here) own_same has.good) in
    best_in laws m f defined own (total_small m counts accepted (defined_before m.functions k) own counted) entries has.placed_here good p t x entry are of_module table entry_there plain
