-- A sum over ascending numbers is a sum over all numbers of those in the list; and nodes by live points.
use Rattle.std.proofs.Common.{◌≡◌, ℕ, zero, suc, get_or, ◌+◌, ◌*◌, ◌≤◌, ◌<◌, ◌==◌, ◌||◌, Bool, true, false, cond, List, [], ◌∷◌, length, map, refl, sym, ap, ◌∙◌, arith, subst, inl, inr}
use Rattle.std.specs.List.{sum_by, AllByRecursion}
use Rattle.std.specs.List.Sorted.{IsStrictlyIncreasing}
use Rattle.std.proofs.lemmas.List.Sums.{sum_by-cons}
use Rattle.std.proofs.lemmas.Bool.{cases_eq, or_left}
use Rattle.std.proofs.lemmas.Bool.Decides.{nat_tests}
use Rattle.flow_net.proofs.Sums.{sum_by-same}
use Rattle.best_placement.specs.Blocks.{Block, CountsFrom}
use Rattle.best_placement.specs.BlockNetwork.{head_node, terminator_node}
use Rattle.best_placement.specs.Laws.{has}
use Rattle.best_placement.proofs.Bounds.{Agrees}
use Rattle.best_placement.proofs.Lists.{each_weaker}

pub other_number : (x v : ℕ) (b : Bool) → (x ≡ v → ⊥) → ((x == v) || b) ≡ b
other_number x v b h = grind (arith, nat_tests)

pub same_number : (x v : ℕ) (b : Bool) → x ≡ v → ((x == v) || b) ≡ true
same_number x v b h = or_left (x == v) b (grind (arith, nat_tests))

-- strictly ascending numbers, from n on
abbrev pub AscendsFrom : ℕ → List ℕ → Type 0
AscendsFrom n [] = Unit {0}
AscendsFrom n (x ∷ xs) = (n ≤ x) × AscendsFrom (suc x) xs

increasing_tail : (x : ℕ) (xs : List ℕ) → IsStrictlyIncreasing (x ∷ xs) → IsStrictlyIncreasing xs
increasing_tail x xs h k l = subst (λ i. get_or xs k 0 < get_or (x ∷ xs) i 0) (let e : suc k + 1 ≡ suc (k + 1) = omega arith in e) (h (suc k) (omega arith))

pub ascends : (n : ℕ) (xs : List ℕ) → ((0 < length xs) → n ≤ get_or xs 0 0) → IsStrictlyIncreasing xs → AscendsFrom n xs
ascends n [] above h = tt
ascends n (x ∷ xs) above h = (above (omega arith), ascends (suc x) xs (λ some. h 0 (omega arith)) (increasing_tail x xs h))

pub increases : (n : ℕ) (xs : List ℕ) → AscendsFrom n xs → IsStrictlyIncreasing xs
increases n [] a k l = absurd (omega arith)
increases n (x ∷ []) a k l = absurd (omega arith)
increases n (x ∷ y ∷ xs) a zero l = a.1.0
increases n (x ∷ y ∷ xs) a (suc k) l = subst (λ i. get_or (y ∷ xs) k 0 < get_or (x ∷ y ∷ xs) i 0) (let e : suc (k + 1) ≡ suc k + 1 = omega arith in e) (increases (suc x) (y ∷ xs) a.1 k (omega arith))

pub none_below : (n : ℕ) (xs : List ℕ) (v : ℕ) → AscendsFrom n xs → v < n → has xs v ≡ false
none_below n [] v a h = refl
none_below n (x ∷ xs) v a h = other_number x v (has xs v) (λ e. let b : n ≤ x = a.0 in omega arith) ∙ none_below (suc x) xs v a.1 (let b : n ≤ x = a.0 in omega arith)

abbrev pub listed_weight : (ℕ → ℕ) → List ℕ → ℕ → ℕ
listed_weight w xs e = cond (has xs e) (w e) 0

pub ascends_later : (n m : ℕ) (xs : List ℕ) → n ≤ m → AscendsFrom m xs → AscendsFrom n xs
ascends_later n m [] h a = tt
ascends_later n m (x ∷ xs) h a = (let b : m ≤ x = a.0 in omega arith, a.1)

pub counted_from : (n : ℕ) (ys : List ℕ) → CountsFrom n ys → AllByRecursion (λ y. n ≤ y) ys
counted_from n [] c = tt
counted_from n (y ∷ ys) c = (let e : y ≡ n = c.0 in omega arith, each_weaker (λ y. suc n ≤ y) (λ y. n ≤ y) (λ y h. omega arith) ys (counted_from (suc n) ys c.1))

pub sum_listed : (w : ℕ → ℕ) (k : ℕ) (ys xs : List ℕ) → CountsFrom k ys → AscendsFrom k xs → AllByRecursion (λ x. x < k + length ys) xs → sum_by w xs ≡ sum_by (listed_weight w xs) ys
sum_listed w k [] [] c a b = refl
sum_listed w k [] (x ∷ xs) c a b = absurd (let l : k ≤ x = a.0 in let m : x < k + 0 = b.0 in omega arith)
sum_listed w k (y ∷ ys) [] c a b = let r = sum_listed w (suc k) ys [] c.1 tt tt in omega (arith, sum_by-cons (listed_weight w []) y ys)
sum_listed w k (y ∷ ys) (x ∷ xs) c a b =
    let e : y ≡ k = c.0 in
    let l : k ≤ x = a.0 in
    let more : AllByRecursion (λ x. x < suc k + length ys) xs = each_weaker (λ x. x < k + length (y ∷ ys)) (λ x. x < suc k + length ys) (λ x h. omega arith) xs b.1 in
    let split = sum_by-cons (listed_weight w (x ∷ xs)) y ys in
    elim (cases_eq x k) [
      | inl same ↦
          (let r = sum_listed w (suc k) ys xs c.1 (subst (λ z. AscendsFrom (suc z) xs) same a.1) more in
          let here : listed_weight w (x ∷ xs) y ≡ w x = ap (λ t. cond t (w y) 0) (same_number x y (has xs y) (same ∙ sym e)) ∙ ap w (e ∙ sym same) in
          let rest : sum_by (listed_weight w (x ∷ xs)) ys ≡ sum_by (listed_weight w xs) ys =
          sum_by-same (listed_weight w (x ∷ xs)) (listed_weight w xs) ys
          (each_weaker (λ z. suc k ≤ z) (λ z. listed_weight w (x ∷ xs) z ≡ listed_weight w xs z) (λ z h. ap (λ t. cond t (w z) 0) (other_number x z (has xs z) (λ q. omega arith))) ys (counted_from (suc k) ys c.1)) in
          let whole = sum_by-cons w x xs in
          omega arith)
      | inr other ↦
          (let above : AscendsFrom (suc k) (x ∷ xs) = (let t : suc k ≤ x = omega arith in t, a.1) in
          let r = sum_listed w (suc k) ys (x ∷ xs) c.1 above (let m : x < k + length (y ∷ ys) = b.0 in let q : x < suc k + length ys = omega arith in q, more) in
          let here : listed_weight w (x ∷ xs) y ≡ 0 = ap (λ t. cond t (w y) 0) (none_below (suc k) (x ∷ xs) y above (omega arith)) in
          omega arith)
    ]

-- the nodes of the blocks' live ends, with the sink and without the source
abbrev pub end_live : (ℕ → Bool) → List Block → ℕ → Bool
end_live live [] v = false
end_live live (b ∷ blocks) v = cond (v == head_node b.index) (live b.head) (cond (v == terminator_node b.index) (live b.terminator) (end_live live blocks v))

abbrev pub live_nodes : (ℕ → Bool) → List Block → ℕ → Bool
live_nodes live blocks v = cond (v == 0) false (cond (v == 1) true (end_live live blocks v))

no_end : (v : ℕ) (x y : Bool) → 2 ≤ v → cond (v == 0) false (cond (v == 1) true x) ≡ x
no_end v x y h = grind (arith, nat_tests)

at_head : (v h : ℕ) (x y : Bool) → v ≡ h → cond (v == h) x y ≡ x
at_head v h x y e = grind (arith, nat_tests)

at_terminator : (v h t : ℕ) (x y z : Bool) → v ≡ t → (v ≡ h → ⊥) → cond (v == h) x (cond (v == t) y z) ≡ y
at_terminator v h t x y z e n = grind (arith, nat_tests)

past_both : (v h t : ℕ) (x y z : Bool) → (v ≡ h → ⊥) → (v ≡ t → ⊥) → cond (v == h) x (cond (v == t) y z) ≡ z
past_both v h t x y z m n = grind (arith, nat_tests)

agrees_from : (live f : ℕ → Bool) (k : ℕ) (blocks : List Block) → CountsFrom k (map (λ b. b.index) blocks) → ((v : ℕ) → 2 + 2 * k ≤ v → f v ≡ end_live live blocks v) → AllByRecursion (Agrees live f) blocks
agrees_from live f k [] c h = tt
agrees_from live f k (b ∷ blocks) c h =
    let e : b.index ≡ k = c.0 in (
      record {
        head = h (head_node b.index) (omega arith) ∙ at_head (head_node b.index) (head_node b.index) (live b.head) (cond (head_node b.index == terminator_node b.index) (live b.terminator) (end_live live blocks (head_node b.index))) refl;
        terminator = h (terminator_node b.index) (omega arith) ∙ at_terminator (terminator_node b.index) (head_node b.index) (terminator_node b.index) (live b.head) (live b.terminator) (end_live live blocks (terminator_node b.index)) refl (λ q. omega arith);
      },
      agrees_from live f (suc k) blocks c.1 (λ v g. h v (omega arith) ∙ past_both v (head_node b.index) (terminator_node b.index) (live b.head) (live b.terminator) (end_live live blocks v) (λ q. omega arith) (λ q. omega arith)),
    )

pub live_nodes_agree : (live : ℕ → Bool) (blocks : List Block) → CountsFrom 0 (map (λ b. b.index) blocks) → AllByRecursion (Agrees live (live_nodes live blocks)) blocks
live_nodes_agree live blocks c = agrees_from live (live_nodes live blocks) 0 blocks c (λ v h. no_end v (end_live live blocks v) false (omega arith))
