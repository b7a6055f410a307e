-- The arcs of a block's slots, as they are added.
use Rattle.std.proofs.Common.{◌≡◌, ◌<◌, ◌≤◌, ◌+◌, ℕ, List, [], ◌∷◌, ◌++◌, Some, length, drop, get_or, slice_get, sym, ap, ◌∙◌, arith, append_assoc, refl}
use Rattle.std.proofs.lemmas.List.{append-nil, drop_all, drop_more}
use Rattle.std.proofs.lemmas.Option.{get_or_from_slice_get, slice_get_within}
use Rattle.flow_net.specs.declared.Arc.{Arc}
use Rattle.placement.specs.Costs.{weight_of}
use Rattle.best_placement.specs.BlockNetwork.{head_node, terminator_node}
use Rattle.reduction.specs.BlockArcs.{counted_arcs, places_by}

pub drop_there : {X : Type 0} (xs : List X) (i : ℕ) (x : X) → slice_get xs i ≡ Some x → drop i xs ≡ x ∷ drop (i + 1) xs
drop_there xs i x there = drop_more xs i x (slice_get_within xs i x there) ∙ ap (λ y. y ∷ drop (i + 1) xs) (get_or_from_slice_get xs i x x there)

-- the arcs so far and those of the slots from slot i on are all
pub record SlotsLeft (place : ℕ) (places ts cs : List ℕ) (start arcs : List Arc) (i : ℕ) : Type 0 where
  pub are : arcs ++ counted_arcs place (places_by places (drop i ts)) (drop i cs) ≡ start ++ counted_arcs place (places_by places ts) cs

pub all_left : (place : ℕ) (places ts cs : List ℕ) (start : List Arc) → SlotsLeft place places ts cs start start 0
all_left place places ts cs start = record { are = refl }

pub slot_done : (place : ℕ) (places ts cs : List ℕ) (start arcs new : List Arc) (i t n from to cap : ℕ) → slice_get ts i ≡ Some t → i < length cs → n ≡ get_or cs i n → from ≡ terminator_node place → to ≡ head_node (get_or places t 0) → cap ≡ weight_of n
    → new ≡ arcs ++ record { from = from; to = to; cap = cap } ∷ [] → SlotsLeft place places ts cs start arcs i → SlotsLeft place places ts cs start new (i + 1)
slot_done place places ts cs start arcs new i t n from to cap there inside read begins ends light grown s =
    let one : ℕ → ℕ → ℕ → Arc = λ u v w. record { from = u; to = v; cap = w } in
    let rest : List Arc = counted_arcs place (places_by places (drop (i + 1) ts)) (drop (i + 1) cs) in
    let same : one from to cap ≡ one (terminator_node place) (head_node (get_or places t 0)) (weight_of n) =
    ap (λ u. one u to cap) begins ∙ ap (λ v. one (terminator_node place) v cap) ends ∙ ap (one (terminator_node place) (head_node (get_or places t 0))) light in
    let counts : drop i cs ≡ n ∷ drop (i + 1) cs = drop_more cs i n inside ∙ ap (λ m. m ∷ drop (i + 1) cs) (sym read) in
    let left : counted_arcs place (places_by places (drop i ts)) (drop i cs) ≡ one (terminator_node place) (head_node (get_or places t 0)) (weight_of n) ∷ rest =
    ap (λ l. counted_arcs place (places_by places l) (drop i cs)) (drop_there ts i t there) ∙ ap (counted_arcs place (places_by places (t ∷ drop (i + 1) ts))) counts in
    record {
      are = ap (λ l. l ++ rest) grown ∙ append_assoc arcs (one from to cap ∷ []) rest ∙ ap (λ a. arcs ++ a ∷ rest) same ∙ ap (λ l. arcs ++ l) (sym left) ∙ s.are;
    }

pub none_left : (place : ℕ) (places ts cs : List ℕ) (start arcs : List Arc) (i : ℕ) → length cs ≤ i → length cs ≡ length ts → SlotsLeft place places ts cs start arcs i → arcs ≡ start ++ counted_arcs place (places_by places ts) cs
none_left place places ts cs start arcs i end len s =
    let none : counted_arcs place (places_by places (drop i ts)) (drop i cs) ≡ [] = ap (λ l. counted_arcs place (places_by places l) (drop i cs)) (drop_all i ts (omega (arith, end, len))) in
    sym (append-nil arcs) ∙ ap (λ l. arcs ++ l) (sym none) ∙ s.are
