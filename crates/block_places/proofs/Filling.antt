-- The table of the places of blocks, filled from the last block on.
use Rattle.std.proofs.Common.{◌≡◌, ℕ, suc, ◌+◌, ◌<◌, ◌==◌, cond, List, length, drop, get_or, replicate, set, sym, ap, ◌∙◌, arith, ⊎_elim}
use Rattle.std.proofs.lemmas.Bool.{cases_eq}
use Rattle.std.proofs.lemmas.Bool.Decides.{nat_tests}
use Rattle.std.proofs.lemmas.List.{drop_more, drop_all, get_or-replicate, length-replicate, get_or-set_same, get_or-set_other, length-set}
use Rattle.function_graphs.specs.Graphs.{place_in}
use Rattle.block_places.specs.Places.{ArePlaces}

-- the places of the blocks from place i on
pub record ArePlacesFrom (blocks : List ℕ) (count i : ℕ) (places : List ℕ) : Type 0 where
  pub len : length places ≡ count
  pub are : (b : ℕ) → b < count → get_or places b 0 ≡ i + place_in (drop i blocks) b

place_here : (x b n : ℕ) → x ≡ b → cond (x == b) 0 n ≡ 0
place_here x b n e = grind (arith, nat_tests)

place_later : (x b n : ℕ) → (x ≡ b → ⊥) → cond (x == b) 0 n ≡ n
place_later x b n e = grind (arith, nat_tests)

pub fills_none : (blocks : List ℕ) (count : ℕ) → ArePlacesFrom blocks count (length blocks) (replicate count (length blocks))
fills_none blocks count = record {
  len = length-replicate count (length blocks);
  are = λ b h.
      let none : place_in (drop (length blocks) blocks) b ≡ 0 = ap (λ l. place_in l b) (drop_all (length blocks) blocks (omega arith)) in
      get_or-replicate count b (length blocks) 0 h ∙ (let z : length blocks ≡ length blocks + place_in (drop (length blocks) blocks) b = omega (arith, none) in z);
}

module _ (blocks : List ℕ) (count i : ℕ) (places : List ℕ) (inside : i < length blocks) (within : get_or blocks i 0 < count) (from : ArePlacesFrom blocks count (i + 1) places) where
  x : ℕ
  x = get_or blocks i 0

  rest : List ℕ
  rest = drop (i + 1) blocks

  pub fills_more : ArePlacesFrom blocks count i (set places (get_or blocks i 0) i)
  unfolding x rest
  fills_more = record {
    len = length-set places x i ∙ from.len;
    are = λ b h.
        let left : place_in (drop i blocks) b ≡ cond (x == b) 0 (suc (place_in rest b)) = ap (λ l. place_in l b) (drop_more blocks i 0 inside) in
        ⊎_elim
        (λ (same : x ≡ b).
        let z : cond (x == b) 0 (suc (place_in rest b)) ≡ 0 = place_here x b (suc (place_in rest b)) same in
        let in_places : x < length places = let n = from.len in omega (arith, within, n) in
        ap (λ k. get_or (set places x i) k 0) (sym same) ∙ get_or-set_same places x i 0 in_places ∙ (let q : i ≡ i + place_in (drop i blocks) b = omega (arith, left, z) in q))
        (λ (other : x ≡ b → ⊥).
        let z : cond (x == b) 0 (suc (place_in rest b)) ≡ suc (place_in rest b) = place_later x b (suc (place_in rest b)) other in
        get_or-set_other places x b i 0 (λ e. other (sym e)) ∙ from.are b h ∙ (let q : i + 1 + place_in rest b ≡ i + place_in (drop i blocks) b = omega (arith, left, z) in q))
        (cases_eq x b);
  }

pub fills_all : (blocks : List ℕ) (count : ℕ) (places : List ℕ) → ArePlacesFrom blocks count 0 places → ArePlaces blocks count places
fills_all blocks count places from = record {
  len = from.len;
  are = λ b h. from.are b h ∙ (let z : 0 + place_in blocks b ≡ place_in blocks b = omega arith in z);
}
