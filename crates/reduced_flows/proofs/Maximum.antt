-- A maximum flow of the needed part of a network, with nothing on the other arcs, is a maximum flow of the whole.
use Rattle.std.proofs.Common.{◌≡◌, ◌≤◌, ◌==◌, ◌&&◌, ◌||◌, not, ℕ, suc, zero, Bool, true, false, cond, List, All, length, refl, sym, ap, ◌∙◌, inl, inr, arith}
use Rattle.std.specs.Prelude.{Some, slice_get}
use Rattle.std.specs.List.{sum_by, AllByRecursion}
use Rattle.std.proofs.lemmas.Bool.{cases_Bool, cases_eq, and_parts, or_left, eq-eqb, ne_eqb}
use Rattle.std.proofs.lemmas.List.Elements.{recursion_from_All, All-from_recursion}
use Rattle.std.proofs.lemmas.Option.{same_Some, slice_get_within}
use Rattle.flow_net.specs.declared.Arc.{Arc}
use Rattle.flow_net.specs.declared.Net.{Net}
use Rattle.flow_net.specs.declared.Flow.{Flow}
use Rattle.flow_net.specs.Network.{IsWithin, IsBalanced, IsMaximum, IsSide, loads, inflow, outflow, flow_value, enters, capacity_into, capacity_where}
use Rattle.flow_net.proofs.Sums.{sum_by-same, sum_by-firsts}
use Rattle.best_placement.specs.Reduction.{IsSplit, Splits, is_part, widened}
use Rattle.best_placement.proofs.Lists.{each_weaker}
use Rattle.best_placement.proofs.Widened.{part_sides_widen}
use Rattle.function_graphs.specs.Graphs.{place_in}
use Rattle.function_graphs.proofs.Lying.{place_found}
use Rattle.reduced_flows.proofs.Merged.{Beside, Merges, sums_agree, merged_fits}
use Rattle.reduced_flows.proofs.Named.{AreNamed}

nothing : (b : Bool) (x : ℕ) → x ≡ 0 → cond b x 0 ≡ 0
nothing true x h = h
nothing false x h = refl

-- both ends of the arc are in the set
abbrev pub joins : (ℕ → Bool) → Arc → Bool
joins needed a = needed a.from && needed a.to

module _ (needed : ℕ → Bool) (node_of : List ℕ) (nodes : ℕ) (named : AreNamed needed 0 nodes node_of) where
  same_end : (i j u v : ℕ) → slice_get node_of j ≡ Some u → slice_get node_of i ≡ Some v → (u == v) ≡ (j == i)
  same_end i j u v h k = elim (cases_eq j i) [
    | inl same ↦ eq-eqb u v (same_Some u v (sym h ∙ ap (slice_get node_of) same ∙ k)) ∙ sym (eq-eqb j i same)
    | inr apart ↦ ne_eqb u v (λ e. apart (named.once j i v (h ∙ ap (λ x. Some x) e) k)) ∙ sym (ne_eqb j i apart)
  ]

  -- what is a number's place is its name
  place_is : (i v : ℕ) → slice_get node_of i ≡ Some v → place_in node_of v ≡ i
  place_is i v h = named.once (place_in node_of v) i v (place_found node_of i v h) h

  module _ (ls ms : List (Arc × ℕ)) (merged : Merges node_of (joins needed) ls ms) (end : Arc → ℕ) (beside : (a b : Arc) → Beside node_of a b → slice_get node_of (end b) ≡ Some (end a)) where
    at_named : (i v : ℕ) → slice_get node_of i ≡ Some v → sum_by (λ (l : Arc × ℕ). cond (end l.0 == v) l.1 0) ls ≡ sum_by (λ (m : Arc × ℕ). cond (end m.0 == i) m.1 0) ms
    at_named i v h = sums_agree node_of (joins needed) (λ (l : Arc × ℕ). cond (end l.0 == v) l.1 0) (λ (m : Arc × ℕ). cond (end m.0 == i) m.1 0)
        (λ l apart none. nothing (end l.0 == v) l.1 none)
        (λ l m both b e. ap (λ t. cond t l.1 0) (same_end i (end m.0) (end l.0) v (beside l.0 m.0 b) h) ∙ ap (λ x. cond (end m.0 == i) x 0) e)
        ls ms merged

    at_others : (v : ℕ) → needed v ≡ false → ((a : Arc) → joins needed a ≡ true → needed (end a) ≡ true) → sum_by (λ (l : Arc × ℕ). cond (end l.0 == v) l.1 0) ls ≡ sum_by (λ (m : Arc × ℕ). 0) ms
    at_others v unneeded inside = sums_agree node_of (joins needed) (λ (l : Arc × ℕ). cond (end l.0 == v) l.1 0) (λ (m : Arc × ℕ). 0)
        (λ l apart none. nothing (end l.0 == v) l.1 none)
        (λ l m both b e. ap (λ t. cond t l.1 0) (ne_eqb (end l.0) v (λ same. let passes : needed v ≡ true = ap needed (sym same) ∙ inside l.0 both in cc)))
        ls ms merged

-- the small network has the needed nodes of the whole, by their names, and on each arc of the whole flows what flows on that arc there, or nothing
pub record IsPartOf (whole small_net : Net) (flow small : Flow) (needed part free : ℕ → Bool) (node_of : List ℕ) : Type 0 where
  pub split : IsSplit part free
  pub sound : AllByRecursion (λ a. Splits part free a × (a.to ≡ 0 → ⊥)) whole.arcs.items
  pub ends : (needed 0 ≡ true) × (needed 1 ≡ true)
  pub others : (v : ℕ) → 2 ≤ v → needed v ≡ part v
  pub count : small_net.nodes ≡ length node_of
  pub named : AreNamed needed 0 whole.nodes node_of
  pub front : (slice_get node_of 0 ≡ Some 0) × (slice_get node_of 1 ≡ Some 1)
  pub len : length flow.amounts.items ≡ length whole.arcs.items
  pub merged : Merges node_of (joins needed) (loads whole flow) (loads small_net small)

module _ (whole small_net : Net) (flow small : Flow) (needed part free : ℕ → Bool) (node_of : List ℕ) (is : IsPartOf whole small_net flow small needed part free node_of) (max : IsMaximum small_net small) where
  within : IsWithin whole flow
  within = record {
    len = is.len;
    below = All-from_recursion (λ l. l.1 ≤ l.0.cap) (loads whole flow) (merged_fits node_of (joins needed) (loads whole flow) (loads small_net small) is.merged (recursion_from_All (λ l. l.1 ≤ l.0.cap) (loads small_net small) max.within.below));
  }

  inflow_named : (i v : ℕ) → slice_get node_of i ≡ Some v → inflow (loads whole flow) v ≡ inflow (loads small_net small) i
  inflow_named i v h = at_named needed node_of whole.nodes is.named (loads whole flow) (loads small_net small) is.merged (λ a. a.to) (λ a b k. k.to) i v h

  outflow_named : (i v : ℕ) → slice_get node_of i ≡ Some v → outflow (loads whole flow) v ≡ outflow (loads small_net small) i
  outflow_named i v h = at_named needed node_of whole.nodes is.named (loads whole flow) (loads small_net small) is.merged (λ a. a.from) (λ a b k. k.from) i v h

  high : (i v : ℕ) → slice_get node_of i ≡ Some v → 2 ≤ v → 2 ≤ i
  high zero v h two = let same = same_Some 0 v (sym is.front.0 ∙ h) in absurd (omega (arith, same, two))
  high (suc zero) v h two = let same = same_Some 1 v (sym is.front.1 ∙ h) in absurd (omega (arith, same, two))
  high (suc (suc i)) v h two = omega arith

  balanced : IsBalanced whole flow
  balanced v two lt = elim (cases_Bool (needed v)) [
    | inl passes ↦ (let at = is.named.found v (omega arith) lt passes in
        inflow_named at.0 v at.1 ∙ max.balanced at.0 (high at.0 v at.1 two) (omega (arith, is.count, slice_get_within node_of at.0 v at.1)) ∙ sym (outflow_named at.0 v at.1))
    | inr fails ↦ at_others needed node_of whole.nodes is.named (loads whole flow) (loads small_net small) is.merged (λ a. a.to) (λ a b k. k.to) v fails (λ a k. (and_parts (needed a.from) (needed a.to) k).1)
        ∙ sym (at_others needed node_of whole.nodes is.named (loads whole flow) (loads small_net small) is.merged (λ a. a.from) (λ a b k. k.from) v fails (λ a k. (and_parts (needed a.from) (needed a.to) k).0))
  ]

  value : flow_value whole flow ≡ flow_value small_net small
  value = outflow_named 0 0 is.front.0

  -- ---- a side of the part, by the names of its nodes, and what its widening lets in

  from_part : (v : ℕ) → (v ≡ 1 → ⊥) → ((v == 0) || part v) ≡ needed v
  from_part v other = elim (cases_eq v 0) [
    | inl same ↦ or_left (v == 0) (part v) (eq-eqb v 0 same) ∙ sym (ap needed same ∙ is.ends.0)
    | inr apart ↦ ap (λ t. t || part v) (ne_eqb v 0 apart) ∙ sym (is.others v (omega (arith, other, apart)))
  ]

  to_part : (v : ℕ) → (v ≡ 0 → ⊥) → ((v == 1) || part v) ≡ needed v
  to_part v other = elim (cases_eq v 1) [
    | inl same ↦ or_left (v == 1) (part v) (eq-eqb v 1 same) ∙ sym (ap needed same ∙ is.ends.1)
    | inr apart ↦ ap (λ t. t || part v) (ne_eqb v 1 apart) ∙ sym (is.others v (omega (arith, other, apart)))
  ]

  joins_part : (a : Arc) → Splits part free a × (a.to ≡ 0 → ⊥) → is_part part a ≡ joins needed a
  joins_part a s = ap (λ t. t && ((a.to == 1) || part a.to)) (from_part a.from s.0.leaves) ∙ ap (λ t. needed a.from && t) (to_part a.to s.1)

  module _ (side : ℕ → Bool) (is_side : IsSide side) where
    abbrev by_name : ℕ → Bool
    by_name v = side (place_in node_of v)

    name_side : IsSide by_name
    name_side = (ap side (place_is needed node_of whole.nodes is.named 1 1 is.front.1) ∙ is_side.0, ap side (place_is needed node_of whole.nodes is.named 0 0 is.front.0) ∙ is_side.1)

    enters_named : (a b : Arc) → Beside node_of a b → enters by_name a ≡ enters side b
    enters_named a b h =
        ap (λ i. side i && not (by_name a.from)) (place_is needed node_of whole.nodes is.named b.to a.to h.to)
        ∙ ap (λ i. side b.to && not (side i)) (place_is needed node_of whole.nodes is.named b.from a.from h.from)

    abbrev pays_whole : Arc → ℕ
    pays_whole a = cond (joins needed a && enters by_name a) a.cap 0

    abbrev pays_part : Arc → ℕ
    pays_part b = cond (enters side b) b.cap 0

    splits : All (Splits part free) whole.arcs.items
    splits = All-from_recursion (Splits part free) whole.arcs.items (each_weaker (λ a. Splits part free a × (a.to ≡ 0 → ⊥)) (Splits part free) (λ a h. h.0) whole.arcs.items is.sound)

    widens : IsSide (widened part free by_name) × (capacity_into whole (widened part free by_name) ≡ capacity_where (λ a. is_part part a && enters by_name a) whole.arcs.items)
    widens = part_sides_widen part free by_name whole.arcs.items is.split splits name_side

    pays_joined : capacity_where (λ a. is_part part a && enters by_name a) whole.arcs.items ≡ sum_by pays_whole whole.arcs.items
    pays_joined = sum_by-same (λ (a : Arc). cond (is_part part a && enters by_name a) a.cap 0) pays_whole whole.arcs.items
        (each_weaker (λ a. Splits part free a × (a.to ≡ 0 → ⊥)) (λ (a : Arc). cond (is_part part a && enters by_name a) a.cap 0 ≡ pays_whole a)
        (λ a h. ap (λ t. cond (t && enters by_name a) a.cap 0) (joins_part a h)) whole.arcs.items is.sound)

    pays_beside : (l m : Arc × ℕ) → joins needed l.0 ≡ true → Beside node_of l.0 m.0 → l.1 ≡ m.1 → pays_whole l.0 ≡ pays_part m.0
    pays_beside l m both b e =
        ap (λ t. cond (t && enters by_name l.0) l.0.cap 0) both
        ∙ ap (λ t. cond t l.0.cap 0) (enters_named l.0 m.0 b) ∙ ap (λ x. cond (enters side m.0) x 0) (sym b.cap)

    pays_same : sum_by pays_whole whole.arcs.items ≡ sum_by pays_part small_net.arcs.items
    pays_same =
        sym (sum_by-firsts pays_whole whole.arcs.items flow.amounts.items is.len)
        ∙ sums_agree node_of (joins needed) (λ (l : Arc × ℕ). pays_whole l.0) (λ (m : Arc × ℕ). pays_part m.0)
        (λ l apart none. ap (λ t. cond (t && enters by_name l.0) l.0.cap 0) apart) pays_beside (loads whole flow) (loads small_net small) is.merged
        ∙ sum_by-firsts pays_part small_net.arcs.items small.amounts.items max.within.len

    lets_in : capacity_into whole (widened part free by_name) ≡ capacity_into small_net side
    lets_in = widens.1 ∙ pays_joined ∙ pays_same

  pub is_maximum : IsMaximum whole flow
  is_maximum =
      let side = max.meets.0 in
      let is_side : IsSide side = max.meets.1 in
      record {
        within = within;
        balanced = balanced;
        meets = (widened part free (by_name side is_side), (widens side is_side).0, value ∙ max.meets.2 ∙ sym (lets_in side is_side));
      }
