-- Edges that differ and have an insertion are no more than the insertions, and placements are counted by their moves.
use Rattle.std.proofs.Common.{◌≡◌, ◌≢◌, ◌⊎◌, inl, inr, ⊎_elim, ℕ, suc, ◌+◌, ◌<◌, ◌≤◌, Bool, true, false, if◌then◌else◌, List, [], ◌∷◌, length, Some, refl, sym, ap, ◌∙◌, subst, arith}
use Rattle.std.specs.Prelude.{slice_get, sum_by}
use Rattle.std.proofs.lemmas.Bool.{cases_eq}
use Rattle.std.proofs.lemmas.List.Sums.{sum_by-cons}
use Rattle.point_graph.specs.Graph.{Edge}
use Rattle.placement.specs.declared.placements.Placement.{Placement}
use Rattle.applied.specs.Motion.{Move}
use Rattle.applied_rules.proofs.Apart.{Each, EachPair, Apart, each_by}
use Rattle.applied_rules.proofs.Regions.{each_both}
use Rattle.large_plans.proofs.Lengths.{insertions, count_of, insertions_one}
use Rattle.large_plans.proofs.Standing.{IsIn}

-- ---- edges with an insertion

-- the list without one of its edges, on which the expression is inserted
record Without (move : Move) (x : Edge) (xs : List Edge) : Type 0 where
  rest : List Edge
  count : count_of move xs ≡ suc (count_of move rest)
  others : (y : Edge) → x ≢ y → IsIn y xs → IsIn y rest

-- an edge taken out is one insertion less
count_more : (move : Move) (x : Edge) (xs : List Edge) → move.inserted x ≡ true → count_of move (x ∷ xs) ≡ suc (count_of move xs)
count_more move x xs inserted = by (move.inserted x) inserted
  where
    by : (q : Bool) → q ≡ true → (if q then 1 else 0) + count_of move xs ≡ suc (count_of move xs)
    by true is = omega arith
    by false is = absurd cc

without : (move : Move) (x : Edge) → move.inserted x ≡ true → (xs : List Edge) → IsIn x xs → Without move x xs
without move x inserted [] is = absurd is
without move x inserted (y ∷ ys) is =
    ⊎_elim
    (λ (here : x ≡ y).
    record {
      rest = ys;
      count = count_more move y ys (ap move.inserted (sym here) ∙ inserted);
      others = λ z differs among. ⊎_elim (λ (e : z ≡ y). absurd (differs (here ∙ sym e))) (λ (later : IsIn z ys). later) among;
    })
    (λ (later : IsIn x ys).
    let r = without move x inserted ys later in
    record {
      rest = y ∷ r.rest;
      count = omega (arith, r.count);
      others = λ z differs among. ⊎_elim (λ (e : z ≡ y). inl e) (λ (further : IsIn z ys). inr (r.others z differs further)) among;
    })
    is

-- the expression is inserted on the edge, which is among these
abbrev pub InsertsAt : Move → List Edge → Edge → Type 0
InsertsAt move xs edge = (move.inserted edge ≡ true) × IsIn edge xs

-- edges that differ, each of them one of these with an insertion
pub count_least : (move : Move) (edges xs : List Edge) → Apart edges → Each (InsertsAt move xs) edges → length edges ≤ count_of move xs
count_least move [] xs apart each = omega arith
count_least move (edge ∷ edges) xs apart each =
    let w = without move edge each.0.0 xs each.0.1 in
    let left : Each (InsertsAt move w.rest) edges =
    each_by (λ e. (edge ≢ e) × InsertsAt move xs e) (InsertsAt move w.rest) (λ e both. (both.1.0, w.others e both.0 both.1.1)) edges
    (each_both (λ e. edge ≢ e) (InsertsAt move xs) edges apart.0 each.1) in
    omega (arith, count_least move edges w.rest apart.1 left, w.count)

-- ---- placements and their moves

-- one of the moves is that of the expression x
abbrev pub Numbered : List Move → ℕ → Type 0
Numbered [] x = ⊥
Numbered (move ∷ moves) x = (move.number ≡ x) ⊎ Numbered moves x

none_numbered : (moves : List Move) (x : ℕ) → Each (λ move. x < move.number) moves → Numbered moves x → ⊥
none_numbered [] x above is = is
none_numbered (move ∷ moves) x above is = ⊎_elim (λ (here : move.number ≡ x). absurd (omega (arith, above.0, here))) (λ (later : Numbered moves x). none_numbered moves x above.1 later) is

-- the move is inserted on as many of these edges as its placement has, or on more; the first placement is that of the expression base
abbrev pub Counted : List Edge → ℕ → List Placement → Move → Type 0
Counted edges base placements move = (k : ℕ) (placement : Placement) → move.number ≡ base + k → slice_get placements k ≡ Some placement → length placement.inserted ≤ count_of move edges

-- each of these placements that inserts somewhere has a move
abbrev pub Covered : List Move → ℕ → List Placement → Type 0
Covered moves base placements = (k : ℕ) (placement : Placement) → slice_get placements k ≡ Some placement → 0 < length placement.inserted → Numbered moves (base + k)

-- both hold of the placements behind the first
counted_next : (edges : List Edge) (base : ℕ) (placement : Placement) (placements : List Placement) (move : Move) → Counted edges base (placement ∷ placements) move → Counted edges (suc base) placements move
counted_next edges base placement placements move counted k other number there = counted (suc k) other (omega (arith, number)) there

covered_next : (moves : List Move) (base : ℕ) (placement : Placement) (placements : List Placement) → Covered moves base (placement ∷ placements) → Covered moves (suc base) placements
covered_next moves base placement placements covered k other there some =
    let same : base + suc k ≡ suc base + k = omega arith in
    subst (Numbered moves) same (covered (suc k) other there some)

-- the first move is of an expression before all of these
covered_later : (move : Move) (moves : List Move) (base : ℕ) (placements : List Placement) → move.number < base → Covered (move ∷ moves) base placements → Covered moves base placements
covered_later move moves base placements before covered k other there some =
    ⊎_elim (λ (here : move.number ≡ base + k). absurd (omega (arith, here, before))) (λ (later : Numbered moves (base + k)). later) (covered k other there some)

-- where each of these placements that inserts somewhere has a move, which is inserted as often, they insert no more than the moves
abbrev pub IsLeast : List Edge → ℕ → List Placement → List Move → Type 0
IsLeast edges base placements moves = EachPair (λ move next. move.number < next.number) moves → Each (λ move. base ≤ move.number) moves → Covered moves base placements → Each (Counted edges base placements) moves
    → sum_by (λ placement. length placement.inserted) placements ≤ insertions edges moves

module _ (edges : List Edge) (base : ℕ) (placement : Placement) (placements : List Placement) where
  all_next : (moves : List Move) → Each (Counted edges base (placement ∷ placements)) moves → Each (Counted edges (suc base) placements) moves
  all_next moves = each_by (Counted edges base (placement ∷ placements)) (Counted edges (suc base) placements) (counted_next edges base placement placements) moves

  -- where no moves are left, none of the placements inserts
  none_least : IsLeast edges (suc base) placements [] → IsLeast edges base (placement ∷ placements) []
  none_least rest up from covered counted =
      omega (arith, sum_by-cons (λ x. length x.inserted) placement placements, covered 0 placement refl, rest tt tt (covered_next [] base placement placements covered) tt)

  -- the first placement has the first move, or it inserts nowhere
  one_least : (move : Move) (moves : List Move) → ((others : List Move) → IsLeast edges (suc base) placements others) → IsLeast edges base (placement ∷ placements) (move ∷ moves)
  one_least move moves least up from covered counted = by (cases_eq move.number base)
    where
      by : (move.number ≡ base) ⊎ (move.number ≡ base → ⊥) → sum_by (λ x. length x.inserted) (placement ∷ placements) ≤ insertions edges (move ∷ moves)
      by (inl same) =
          let here : length placement.inserted ≤ count_of move edges = counted.0 0 placement (omega (arith, same)) refl in
          let rest =
          least moves up.1 (each_by (λ other. move.number < other.number) (λ other. suc base ≤ other.number) (λ other lt. omega (arith, lt, same)) moves up.0)
          (covered_later move moves (suc base) placements (omega (arith, same)) (covered_next (move ∷ moves) base placement placements covered)) (all_next moves counted.1) in
          omega (arith, sum_by-cons (λ x. length x.inserted) placement placements, insertions_one edges move moves, here, rest)
      by (inr differs) =
          let above : Each (λ other. base < other.number) (move ∷ moves) =
          (omega (arith, from.0, differs), each_by (λ other. move.number < other.number) (λ other. base < other.number) (λ other lt. omega (arith, lt, from.0)) moves up.0) in
          let none : 0 < length placement.inserted → ⊥ =
          λ some. let at : base + 0 ≡ base = omega arith in none_numbered (move ∷ moves) base above (subst (Numbered (move ∷ moves)) at (covered 0 placement refl some)) in
          let rest =
          least (move ∷ moves) up (each_by (λ other. base < other.number) (λ other. suc base ≤ other.number) (λ other lt. omega (arith, lt)) (move ∷ moves) above)
          (covered_next (move ∷ moves) base placement placements covered) (all_next (move ∷ moves) counted) in
          omega (arith, sum_by-cons (λ x. length x.inserted) placement placements, none, rest)

pub insertions_least : (edges : List Edge) (base : ℕ) (placements : List Placement) (moves : List Move) → IsLeast edges base placements moves
insertions_least edges base [] moves = λ up from covered counted. omega arith
insertions_least edges base (placement ∷ placements) [] = none_least edges base placement placements (insertions_least edges (suc base) placements [])
insertions_least edges base (placement ∷ placements) (move ∷ moves) = one_least edges base placement placements move moves (λ others. insertions_least edges (suc base) placements others)
