-- The amounts of a part of a network, at the numbers of its arcs in the whole.
use Rattle.std.proofs.Common.{◌≡◌, ◌≤◌, ◌<◌, ◌+◌, ◌⊎◌, ℕ, not, List, length, All, get_or, set, replicate, refl, sym, ap, ◌∙◌, subst, arith, get_or-set_other, get_or-set_same, inl, inr, ⊎_elim}
use Rattle.std.specs.Prelude.{filter}
use Rattle.std.specs.List.{range_with_len}
use Rattle.std.specs.List.Sorted.{IsStrictlyIncreasing}
use Rattle.std.proofs.Math.ListN.{length-set, get_or-eq_default}
use Rattle.std.proofs.lemmas.Bool.{cases_eq, cases_lt}
use Rattle.std.proofs.lemmas.List.{get_or_default, get_or-replicate, length-replicate}
use Rattle.std.proofs.lemmas.List.Elements.{All-filter}
use Rattle.std.proofs.lemmas.List.Filters.{length-filter_both}
use Rattle.std.proofs.lemmas.List.FromFn.{length-range_with_len, get_or-range_with_len}
use Rattle.std.proofs.lemmas.List.Kept.{AllPairs-from_increasing, IsStrictlyIncreasing-filter}
use Rattle.flow_net.specs.declared.Net.{Net}
use Rattle.local_sets.specs.declared.flags.Reach.{Reach}
use Rattle.function_graphs.proofs.Parts.{zip_length}
use Rattle.reduction.specs.declared.reducing.Reduced.{Reduced}
use Rattle.reduction.specs.Reduced.{is_needed, is_needed_arc, IsReduced, Stands}
use Rattle.reduced_flows.specs.Flows.{IsSpread}

-- ---- one amount after another

module _ (count : ℕ) (arc_of part : List ℕ) where
  -- the first i amounts are where they belong
  pub record SpreadsTo (i : ℕ) (whole : List ℕ) : Type 0 where
    pub within : i ≤ length arc_of
    pub len : length whole ≡ count
    pub named : (j : ℕ) → j < i → get_or whole (get_or arc_of j 0) 0 ≡ get_or part j 0
    pub others : (k : ℕ) → ((j : ℕ) → j < i → get_or arc_of j 0 ≡ k → ⊥) → get_or whole k 0 ≡ 0

  zeros : List ℕ
  zeros = replicate count 0

  nothing : (k : ℕ) → (k < count) ⊎ (count ≤ k) → get_or zeros k 0 ≡ 0
  unfolding zeros
  nothing k (inl lt) = get_or-replicate count k 0 0 lt
  nothing k (inr ge) = get_or-eq_default zeros 0 (let l : length zeros ≡ count = length-replicate count 0 in omega (arith, ge, l))

  pub spread_none : SpreadsTo 0 (replicate count 0)
  unfolding zeros
  spread_none = record {
    within = omega arith;
    len = length-replicate count 0;
    named = λ j lt. absurd (omega (arith, lt));
    others = λ k none. nothing k (cases_lt k count);
  }

  pub spread_one : (i arc amount : ℕ) (whole : List ℕ) → IsStrictlyIncreasing arc_of → i < length arc_of → arc ≡ get_or arc_of i 0 → amount ≡ get_or part i 0 → arc < count
      → SpreadsTo i whole → SpreadsTo (i + 1) (set whole arc amount)
  spread_one i arc amount whole rises inside is_arc is_amount fits h = record {
    within = omega (arith, inside);
    len = length-set whole arc amount ∙ h.len;
    named = λ j lt. ⊎_elim
        (λ (same : j ≡ i).
        let at : get_or arc_of j 0 ≡ arc = ap (λ n. get_or arc_of n 0) same ∙ sym is_arc in
        let within : arc < length whole = let l = h.len in omega (arith, fits, l) in
        ap (λ n. get_or (set whole arc amount) n 0) at ∙ get_or-set_same whole arc amount 0 within ∙ is_amount ∙ ap (λ n. get_or part n 0) (sym same))
        (λ (other : j ≡ i → ⊥).
        let less : j < i = omega (arith, lt, other) in
        let below : get_or arc_of j 0 < get_or arc_of i 0 = AllPairs-from_increasing arc_of rises j i 0 less inside in
        get_or-set_other whole arc (get_or arc_of j 0) amount 0 (omega (arith, below, is_arc)) ∙ h.named j less)
        (cases_eq j i);
    others = λ k none.
        get_or-set_other whole arc k amount 0 (λ same. none i (omega arith) (sym is_arc ∙ sym same)) ∙ h.others k (λ j lt. none j (omega (arith, lt)));
  }

  pub spread_all : (i : ℕ) (whole : List ℕ) → length arc_of ≤ i → SpreadsTo i whole → IsSpread count arc_of part whole
  spread_all i whole past h = record {
    len = h.len;
    named = λ j lt. h.named j (omega (arith, past, lt));
    others = λ k absent. h.others k (λ j lt same. let w = h.within in let inside : j < length arc_of = omega (arith, lt, w) in absent (j, inside, get_or_default arc_of j k 0 inside ∙ same));
  }

-- ---- the numbers of the arcs

range_rises : (a n : ℕ) → IsStrictlyIncreasing (range_with_len a n)
range_rises a n k lt =
    let l = length-range_with_len a n in
    omega (arith, get_or-range_with_len a n k 0 (omega (arith, lt, l)), get_or-range_with_len a n (k + 1) 0 (omega (arith, lt, l)))

range_within : (n : ℕ) → All (λ k. k < n) (range_with_len 0 n)
range_within n k d lt = let l = length-range_with_len 0 n in omega (arith, lt, l, get_or-range_with_len 0 n k d (omega (arith, lt, l)))

module _ (net : Net) (reach : Reach) (needed : Reduced) (is : IsReduced net reach needed) where
  pub arcs_rise : IsStrictlyIncreasing needed.arc_of.items
  arcs_rise =
      subst IsStrictlyIncreasing (sym is.arc_of)
      (IsStrictlyIncreasing-filter (is_needed_arc reach net.arcs.items) (range_with_len 0 (length net.arcs.items)) (range_rises 0 (length net.arcs.items)))

  pub arcs_within : All (λ k. k < length net.arcs.items) needed.arc_of.items
  arcs_within =
      subst (All (λ k. k < length net.arcs.items)) (sym is.arc_of)
      (All-filter (is_needed_arc reach net.arcs.items) (λ k. k < length net.arcs.items) (range_with_len 0 (length net.arcs.items)) (range_within (length net.arcs.items)))

  pub arcs_named : length needed.arc_of.items ≡ length needed.net.arcs.items
  arcs_named = zip_length (Stands net.arcs.items needed.node_of.items) needed.arc_of.items needed.net.arcs.items is.arcs

  pub nodes_few : needed.net.nodes ≤ net.nodes
  nodes_few =
      let all : List ℕ = range_with_len 0 net.nodes in
      let both : length (filter (is_needed reach) all) + length (filter (λ v. not (is_needed reach v)) all) ≡ length all = length-filter_both (is_needed reach) (λ v. not (is_needed reach v)) (λ v. refl) all in
      let named : needed.net.nodes ≡ length (filter (is_needed reach) all) = is.nodes ∙ ap length is.node_of in
      omega (arith, both, named, length-range_with_len 0 net.nodes)
