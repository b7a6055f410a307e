-- What a balanced flow brings into a set of nodes: the flow's value, and what it takes out.
use Rattle.std.proofs.Common.{◌≡◌, ℕ, suc, zero, ◌+◌, ◌<◌, ◌≤◌, ◌==◌, Bool, true, false, cond, not, ◌&&◌, List, [], ◌∷◌, refl, ap, arith, ◌∙◌}
use Rattle.std.specs.Prelude.{nat_lt}
use Rattle.std.specs.List.{sum_by, AllByRecursion}
use Rattle.std.proofs.lemmas.List.Sums.{sum_by-cons}
use Rattle.std.proofs.lemmas.Bool.Decides.{nat_tests}
use Rattle.flow_net.specs.declared.Arc.{Arc}
use Rattle.flow_net.specs.Network.{inflow, outflow, amount_where, IsArcOf, IsSide, enters}
use Rattle.flow_net.proofs.Sums.{sum_by-plus}

Loads : Type 0
Loads = List (Arc × ℕ)

-- the nodes of a set that are below k
abbrev pub below : (ℕ → Bool) → ℕ → ℕ → Bool
below side k v = side v && nat_lt v k

-- the amount on arcs whose chosen end is in the set
abbrev pub ends_in : (Arc → ℕ) → (ℕ → Bool) → List (Arc × ℕ) → ℕ
ends_in end side ls = amount_where (λ a. side (end a)) ls

more_here : (side : ℕ → Bool) (k v x : ℕ) → cond (below side (suc k) v) x 0 ≡ cond (below side k v) x 0 + cond (side k) (cond (v == k) x 0) 0
more_here side k v x = grind (arith, nat_tests)

none_here : (side : ℕ → Bool) (v x : ℕ) → cond (below side 0 v) x 0 ≡ 0
none_here side v x = grind (arith, nat_tests)

all_here : (side : ℕ → Bool) (n v x : ℕ) → v < n → cond (below side n v) x 0 ≡ cond (side v) x 0
all_here side n v x h = grind (arith, nat_tests)

zero_here : (v x : ℕ) → 0 < v → cond (v == 0) x 0 ≡ 0
zero_here v x h = grind (arith, nat_tests)

one_here : (v x : ℕ) → (v ≡ 1 → ⊥) → cond (v == 1) x 0 ≡ 0
one_here v x h = grind (arith, nat_tests)

source_here : (v w x : ℕ) → 0 < w → (cond (not (w == 0) && not (not (v == 0))) x 0 ≡ cond (v == 0) x 0) × (cond (not (v == 0) && not (not (w == 0))) x 0 ≡ 0)
source_here v w x h = (grind (arith, nat_tests), grind (arith, nat_tests))

guarded : (b : Bool) (f : Arc × ℕ → ℕ) (ls : List (Arc × ℕ)) → sum_by (λ l. cond b (f l) 0) ls ≡ cond b (sum_by f ls) 0
guarded true f ls = refl
guarded false f [] = refl
guarded false f (l ∷ ls) = guarded false f ls

pub ends_in_more : (end : Arc → ℕ) (side : ℕ → Bool) (k : ℕ) (ls : List (Arc × ℕ)) → ends_in end (below side (suc k)) ls ≡ ends_in end (below side k) ls + cond (side k) (amount_where (λ a. end a == k) ls) 0
ends_in_more end side k ls =
    sum_by-plus (λ l. cond (below side (suc k) (end l.0)) l.1 0) (λ l. cond (below side k (end l.0)) l.1 0)
    (λ l. cond (side k) (cond (end l.0 == k) l.1 0) 0) (λ l. more_here side k (end l.0) l.1) ls
    ∙ ap (λ n. ends_in end (below side k) ls + n) (guarded (side k) (λ l. cond (end l.0 == k) l.1 0) ls)

pub ends_in_none : (end : Arc → ℕ) (side : ℕ → Bool) (ls : List (Arc × ℕ)) → ends_in end (below side 0) ls ≡ 0
ends_in_none end side [] = refl
ends_in_none end side (l ∷ ls) =
    omega (arith, sum_by-cons (λ l. cond (below side 0 (end l.0)) l.1 0) l ls, none_here side (end l.0) l.1, ends_in_none end side ls)

pub ends_in_all : (end : Arc → ℕ) (side : ℕ → Bool) (n : ℕ) (ls : List (Arc × ℕ)) → AllByRecursion (λ l. end l.0 < n) ls → ends_in end (below side n) ls ≡ ends_in end side ls
ends_in_all end side n [] all = refl
ends_in_all end side n (l ∷ ls) all =
    omega (
      arith,
      sum_by-cons (λ l. cond (below side n (end l.0)) l.1 0) l ls,
      sum_by-cons (λ l. cond (side (end l.0)) l.1 0) l ls,
      all_here side n (end l.0) l.1 all.0,
      ends_in_all end side n ls all.1,
    )

pub record Conserves (n : ℕ) (ls : List (Arc × ℕ)) : Type 0 where
  pub arcs : AllByRecursion (λ l. IsArcOf n l.0) ls
  pub balanced : (v : ℕ) → 2 ≤ v → v < n → inflow ls v ≡ outflow ls v

into_source : (n : ℕ) (ls : List (Arc × ℕ)) → AllByRecursion (λ l. IsArcOf n l.0) ls → inflow ls 0 ≡ 0
into_source n [] all = refl
into_source n (l ∷ ls) all =
    omega (arith, sum_by-cons (λ l. cond (l.0.to == 0) l.1 0) l ls, zero_here l.0.to l.1 all.0.2, into_source n ls all.1)

out_of_sink : (n : ℕ) (ls : List (Arc × ℕ)) → AllByRecursion (λ l. IsArcOf n l.0) ls → outflow ls 1 ≡ 0
out_of_sink n [] all = refl
out_of_sink n (l ∷ ls) all =
    omega (arith, sum_by-cons (λ l. cond (l.0.from == 1) l.1 0) l ls, one_here l.0.from l.1 all.0.3, out_of_sink n ls all.1)

pub to_below : (n : ℕ) (ls : List (Arc × ℕ)) → AllByRecursion (λ l. IsArcOf n l.0) ls → AllByRecursion (λ l. l.0.to < n) ls
to_below n [] all = tt
to_below n (l ∷ ls) all = (all.0.1, to_below n ls all.1)

pub from_below : (n : ℕ) (ls : List (Arc × ℕ)) → AllByRecursion (λ l. IsArcOf n l.0) ls → AllByRecursion (λ l. l.0.from < n) ls
from_below n [] all = tt
from_below n (l ∷ ls) all = (all.0.0, from_below n ls all.1)

-- the first two nodes and j more
balanced_below : (n : ℕ) (ls : List (Arc × ℕ)) → Conserves n ls → (side : ℕ → Bool) → IsSide side → (j : ℕ) → suc (suc j) ≤ n →
    ends_in (λ a. a.to) (below side (suc (suc j))) ls ≡ ends_in (λ a. a.from) (below side (suc (suc j))) ls + inflow ls 1
balanced_below n ls c side s zero h =
    let t0 : ends_in (λ a. a.to) (below side 1) ls ≡ ends_in (λ a. a.to) (below side 0) ls + cond (side 0) (inflow ls 0) 0 = ends_in_more (λ a. a.to) side 0 ls in
    let t1 : ends_in (λ a. a.to) (below side 2) ls ≡ ends_in (λ a. a.to) (below side 1) ls + cond (side 1) (inflow ls 1) 0 = ends_in_more (λ a. a.to) side 1 ls in
    let f0 : ends_in (λ a. a.from) (below side 1) ls ≡ ends_in (λ a. a.from) (below side 0) ls + cond (side 0) (outflow ls 0) 0 = ends_in_more (λ a. a.from) side 0 ls in
    let f1 : ends_in (λ a. a.from) (below side 2) ls ≡ ends_in (λ a. a.from) (below side 1) ls + cond (side 1) (outflow ls 1) 0 = ends_in_more (λ a. a.from) side 1 ls in
    let t : ends_in (λ a. a.to) (below side 0) ls ≡ 0 = ends_in_none (λ a. a.to) side ls in
    let f : ends_in (λ a. a.from) (below side 0) ls ≡ 0 = ends_in_none (λ a. a.from) side ls in
    let c0 : cond (side 0) (inflow ls 0) 0 ≡ 0 = rw s.1 in
    let d0 : cond (side 0) (outflow ls 0) 0 ≡ 0 = rw s.1 in
    let c1 : cond (side 1) (inflow ls 1) 0 ≡ inflow ls 1 = rw s.0 in
    let d1 : cond (side 1) (outflow ls 1) 0 ≡ outflow ls 1 = rw s.0 in
    let last : outflow ls 1 ≡ 0 = out_of_sink n ls c.arcs in
    omega arith
balanced_below n ls c side s (suc j) h =
    let to : ends_in (λ a. a.to) (below side (suc (suc (suc j)))) ls ≡ ends_in (λ a. a.to) (below side (suc (suc j))) ls + cond (side (suc (suc j))) (inflow ls (suc (suc j))) 0 = ends_in_more (λ a. a.to) side (suc (suc j)) ls in
    let from : ends_in (λ a. a.from) (below side (suc (suc (suc j)))) ls ≡ ends_in (λ a. a.from) (below side (suc (suc j))) ls + cond (side (suc (suc j))) (outflow ls (suc (suc j))) 0 = ends_in_more (λ a. a.from) side (suc (suc j)) ls in
    let same : cond (side (suc (suc j))) (inflow ls (suc (suc j))) 0 ≡ cond (side (suc (suc j))) (outflow ls (suc (suc j))) 0 = ap (λ m. cond (side (suc (suc j))) m 0) (c.balanced (suc (suc j)) (omega arith) (omega arith)) in
    let before : ends_in (λ a. a.to) (below side (suc (suc j))) ls ≡ ends_in (λ a. a.from) (below side (suc (suc j))) ls + inflow ls 1 = balanced_below n ls c side s j (omega arith) in
    omega arith

pub balanced_in : (n : ℕ) (ls : List (Arc × ℕ)) → 2 ≤ n → Conserves n ls → (side : ℕ → Bool) → IsSide side →
    ends_in (λ a. a.to) side ls ≡ ends_in (λ a. a.from) side ls + inflow ls 1
balanced_in (suc (suc j)) ls h c side s =
    let to : ends_in (λ a. a.to) (below side (suc (suc j))) ls ≡ ends_in (λ a. a.to) side ls = ends_in_all (λ a. a.to) side (suc (suc j)) ls (to_below (suc (suc j)) ls c.arcs) in
    let from : ends_in (λ a. a.from) (below side (suc (suc j))) ls ≡ ends_in (λ a. a.from) side ls = ends_in_all (λ a. a.from) side (suc (suc j)) ls (from_below (suc (suc j)) ls c.arcs) in
    let both : ends_in (λ a. a.to) (below side (suc (suc j))) ls ≡ ends_in (λ a. a.from) (below side (suc (suc j))) ls + inflow ls 1 = balanced_below (suc (suc j)) ls c side s j (omega arith) in
    omega arith
balanced_in (suc zero) ls h c side s = absurd (omega arith)
balanced_in zero ls h c side s = absurd (omega arith)

-- an arc out of a set of nodes
abbrev pub leaves : (ℕ → Bool) → Arc → Bool
leaves side a = side a.from && not (side a.to)

abbrev pub stays : (ℕ → Bool) → Arc → Bool
stays side a = side a.from && side a.to

to_split : (s t : Bool) (x : ℕ) → cond t x 0 ≡ cond (t && not s) x 0 + cond (s && t) x 0
to_split true true x = omega arith
to_split true false x = refl
to_split false true x = omega arith
to_split false false x = refl

from_split : (s t : Bool) (x : ℕ) → cond s x 0 ≡ cond (s && not t) x 0 + cond (s && t) x 0
from_split true true x = omega arith
from_split true false x = omega arith
from_split false true x = refl
from_split false false x = refl

-- what enters a side is the sink's inflow and what leaves the side
pub across : (n : ℕ) (ls : List (Arc × ℕ)) → 2 ≤ n → Conserves n ls → (side : ℕ → Bool) → IsSide side →
    amount_where (enters side) ls ≡ inflow ls 1 + amount_where (leaves side) ls
across n ls h c side s =
    let to : ends_in (λ a. a.to) side ls ≡ amount_where (enters side) ls + amount_where (stays side) ls =
    sum_by-plus (λ l. cond (side l.0.to) l.1 0) (λ l. cond (enters side l.0) l.1 0) (λ l. cond (stays side l.0) l.1 0) (λ l. to_split (side l.0.from) (side l.0.to) l.1) ls in
    let from : ends_in (λ a. a.from) side ls ≡ amount_where (leaves side) ls + amount_where (stays side) ls =
    sum_by-plus (λ l. cond (side l.0.from) l.1 0) (λ l. cond (leaves side l.0) l.1 0) (λ l. cond (stays side l.0) l.1 0) (λ l. from_split (side l.0.from) (side l.0.to) l.1) ls in
    let both : ends_in (λ a. a.to) side ls ≡ ends_in (λ a. a.from) side ls + inflow ls 1 = balanced_in n ls h c side s in
    omega arith

-- all nodes but the source are a side, which the whole of the source's outflow enters
others : ℕ → Bool
others v = not (v == 0)

from_source : (n : ℕ) (ls : List (Arc × ℕ)) → AllByRecursion (λ l. IsArcOf n l.0) ls → (amount_where (enters others) ls ≡ outflow ls 0) × (amount_where (leaves others) ls ≡ 0)
unfolding others
from_source n [] all = (refl, refl)
from_source n (l ∷ ls) all =
    let e : amount_where (enters others) (l ∷ ls) ≡ cond (enters others l.0) l.1 0 + amount_where (enters others) ls = sum_by-cons (λ l. cond (enters others l.0) l.1 0) l ls in
    let o : outflow (l ∷ ls) 0 ≡ cond (l.0.from == 0) l.1 0 + outflow ls 0 = sum_by-cons (λ l. cond (l.0.from == 0) l.1 0) l ls in
    let v : amount_where (leaves others) (l ∷ ls) ≡ cond (leaves others l.0) l.1 0 + amount_where (leaves others) ls = sum_by-cons (λ l. cond (leaves others l.0) l.1 0) l ls in
    let rest : (amount_where (enters others) ls ≡ outflow ls 0) × (amount_where (leaves others) ls ≡ 0) = from_source n ls all.1 in
    let here : (cond (enters others l.0) l.1 0 ≡ cond (l.0.from == 0) l.1 0) × (cond (leaves others l.0) l.1 0 ≡ 0) = source_here l.0.from l.0.to l.1 all.0.2 in
    (omega arith, omega arith)

pub out_is_in : (n : ℕ) (ls : List (Arc × ℕ)) → 2 ≤ n → Conserves n ls → outflow ls 0 ≡ inflow ls 1
unfolding others
out_is_in n ls h c =
    let all_in : amount_where (enters others) ls ≡ inflow ls 1 + amount_where (leaves others) ls = across n ls h c others (refl, refl) in
    let at_source : (amount_where (enters others) ls ≡ outflow ls 0) × (amount_where (leaves others) ls ≡ 0) = from_source n ls c.arcs in
    omega arith
