-- A side of a part of a network, widened to the whole network.
use Rattle.std.proofs.Common.{◌≡◌, ℕ, ◌==◌, ◌&&◌, ◌||◌, not, Bool, true, false, refl, sym, ap, ◌∙◌, ◌⊎◌, inl, inr, ⊎_elim, arith}
use Rattle.std.specs.Prelude.{if◌then◌else◌}
use Rattle.std.proofs.lemmas.List.Elements.{recursion_from_All}
use Rattle.std.proofs.lemmas.Bool.{and_parts, and_from, or_cases, or_parts, or_from, or_left, or_right, not-true, not_from_false, eqb-true}
use Rattle.std.proofs.lemmas.Bool.Decides.{nat_tests}
use Rattle.flow_net.proofs.Sums.{sum_by-same}
use Rattle.flow_net.specs.declared.Arc.{Arc}
use Rattle.flow_net.specs.Network.{IsSide, enters}
use Rattle.best_placement.specs.Reduction.{IsSplit, Splits, is_part, widened, PartSidesWiden}
use Rattle.best_placement.proofs.Lists.{each_weaker}

same_bool : (a b : Bool) → (a ≡ true → b ≡ true) → (b ≡ true → a ≡ true) → a ≡ b
same_bool true b f h = sym (f refl)
same_bool false true f h = h refl
same_bool false false f h = refl

eqb_is : (a b : ℕ) → a ≡ b → (a == b) ≡ true
eqb_is a b h = grind (arith, nat_tests)

eqb_not : (a b : ℕ) → (a ≡ b → ⊥) → (a == b) ≡ false
eqb_not a b h = grind (arith, nat_tests)

and_false_left : (a b : Bool) → a ≡ false → (a && b) ≡ false
and_false_left a b h = rw h refl

module _ (part free side : ℕ → Bool) (split : IsSplit part free) (s : IsSide side) where
  abbrev pub whole : ℕ → Bool
  whole = widened part free side

  -- a node outside the widened side
  outside : (v : ℕ) → whole v ≡ false → (free v ≡ false) × ((v == 1) ≡ false) × ((part v && side v) ≡ false)
  outside v h = let p = or_parts (free v) ((v == 1) || (part v && side v)) h in let q = or_parts (v == 1) (part v && side v) p.1 in (p.0, q.0, q.1)

  unsided : (v : ℕ) → (part v && side v) ≡ false → part v ≡ true → side v ≡ false
  unsided v h p = rw p at h

  narrow_from : (v : ℕ) → whole v ≡ false → (v ≡ 0) ⊎ ((part v ≡ true) ⊎ (free v ≡ true)) → (((v == 0) || part v) ≡ true) × (side v ≡ false)
  narrow_from v h (inl e) = (or_left (v == 0) (part v) (eqb_is v 0 e), ap side e ∙ s.1)
  narrow_from v h (inr (inl p)) = (or_right (v == 0) (part v) p, unsided v (outside v h).2 p)
  narrow_from v h (inr (inr f)) = let o : free v ≡ false = (outside v h).0 in cc

  narrow : (a : Arc) → Splits part free a → enters whole a ≡ true → (is_part part a && enters side a) ≡ true
  narrow a p e =
      let ends = and_parts (whole a.to) (not (whole a.from)) e in
      let out : whole a.from ≡ false = not-true (whole a.from) ends.1 in
      ⊎_elim
      (λ (f : free a.to ≡ true). let b = p.back f in let o : free a.from ≡ false = (outside a.from out).0 in cc)
      (λ (h : ((a.to == 1) || (part a.to && side a.to)) ≡ true).
      let to : (((a.to == 1) || part a.to) ≡ true) × (side a.to ≡ true) = ⊎_elim
      (λ (q : (a.to == 1) ≡ true). (or_left (a.to == 1) (part a.to) q, ap side (eqb-true a.to 1 q) ∙ s.0))
      (λ (q : (part a.to && side a.to) ≡ true). let both = and_parts (part a.to) (side a.to) q in (or_right (a.to == 1) (part a.to) both.0, both.1))
      (or_cases (a.to == 1) (part a.to && side a.to) h) in
      let wanted : (a.to ≡ 1) ⊎ (part a.to ≡ true) = ⊎_elim (λ (q : (a.to == 1) ≡ true). inl (eqb-true a.to 1 q)) (λ (q : part a.to ≡ true). inr q) (or_cases (a.to == 1) (part a.to) to.0) in
      let from = narrow_from a.from out (p.wants wanted) in
      and_from (is_part part a) (enters side a) (and_from ((a.from == 0) || part a.from) ((a.to == 1) || part a.to) from.0 to.0) (and_from (side a.to) (not (side a.from)) to.1 (not_from_false (side a.from) from.1)))
      (or_cases (free a.to) ((a.to == 1) || (part a.to && side a.to)) ends.0)

  wide_from : (v : ℕ) → ((v == 0) || part v) ≡ true → side v ≡ false → whole v ≡ false
  wide_from v h out = ⊎_elim
      (λ (q : (v == 0) ≡ true). let e : v ≡ 0 = eqb-true v 0 q in ap whole e ∙ rw (split.source.1, split.source.0) refl)
      (λ (q : part v ≡ true).
      or_from (free v) ((v == 1) || (part v && side v)) (split.apart v q)
      (or_from (v == 1) (part v && side v) (eqb_not v 1 (λ e. let z : part 1 ≡ true = sym (ap part e) ∙ q in let y : part 1 ≡ false = split.sink.0 in cc)) (rw q out)))
      (or_cases (v == 0) (part v) h)

  wide : (a : Arc) → (is_part part a && enters side a) ≡ true → enters whole a ≡ true
  wide a h =
      let both = and_parts (is_part part a) (enters side a) h in
      let of = and_parts ((a.from == 0) || part a.from) ((a.to == 1) || part a.to) both.0 in
      let ends = and_parts (side a.to) (not (side a.from)) both.1 in
      let to : whole a.to ≡ true = or_right (free a.to) ((a.to == 1) || (part a.to && side a.to)) (⊎_elim
      (λ (q : (a.to == 1) ≡ true). or_left (a.to == 1) (part a.to && side a.to) q)
      (λ (q : part a.to ≡ true). or_right (a.to == 1) (part a.to && side a.to) (and_from (part a.to) (side a.to) q ends.0))
      (or_cases (a.to == 1) (part a.to) of.1)) in
      and_from (whole a.to) (not (whole a.from)) to (not_from_false (whole a.from) (wide_from a.from of.0 (not-true (side a.from) ends.1)))

pub part_sides_widen : PartSidesWiden
part_sides_widen part free side arcs split all s = (
  (or_right (free 1) (true || (part 1 && side 1)) refl, rw (split.source.1, split.source.0) refl),
  sum_by-same (λ (a : Arc). if enters (widened part free side) a then a.cap else 0) (λ (a : Arc). if is_part part a && enters side a then a.cap else 0) arcs
      (each_weaker (Splits part free) (λ a. (if enters (widened part free side) a then a.cap else 0) ≡ (if is_part part a && enters side a then a.cap else 0))
      (λ a p. ap (λ t. if t then a.cap else 0) (same_bool (enters (widened part free side) a) (is_part part a && enters side a) (narrow part free side split s a p) (wide part free side split s a))) arcs
      (recursion_from_All (Splits part free) arcs all)),
)
