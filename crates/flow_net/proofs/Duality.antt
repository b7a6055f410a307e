-- A flow against a side: its value is at most the capacity into the side, and where they meet the side is shut.
use Rattle.std.proofs.Common.{◌≡◌, ℕ, suc, zero, ◌+◌, ◌≤◌, Bool, true, false, cond, not, ◌&&◌, List, [], ◌∷◌, refl, arith, sym, inl, inr, get_or}
use Rattle.std.specs.List.{sum_by, AllByRecursion}
use Rattle.std.proofs.lemmas.List.Elements.{Contains-get_or, All-get_or, All-from_recursion, recursion_from_All}
use Rattle.std.proofs.lemmas.Bool.{cases_lt, cases_Bool}
use Rattle.flow_net.specs.declared.Arc.{Arc}
use Rattle.flow_net.specs.Network.{inflow, outflow, amount_where, IsSide, enters, LetsMore, ResidualArc, ReachesSink}
use Rattle.flow_net.proofs.Sums.{sum_by-same, sum_by-below, sum_by-tight}
use Rattle.flow_net.proofs.Balance.{Conserves, across, out_is_in, leaves}

abbrev pub room_where : (Arc → Bool) → List (Arc × ℕ) → ℕ
room_where test ls = sum_by (λ l. cond (test l.0) l.0.cap 0) ls

-- a balanced flow within the capacities
pub record Flows (n : ℕ) (ls : List (Arc × ℕ)) : Type 0 where
  pub two : 2 ≤ n
  pub conserves : Conserves n ls
  pub within : AllByRecursion (λ l. l.1 ≤ l.0.cap) ls

part : (b : Bool) (x y : ℕ) → x ≤ y → cond b x 0 ≤ cond b y 0
part true x y h = h
part false x y h = omega arith

parts : (test : Arc → Bool) (ls : List (Arc × ℕ)) → AllByRecursion (λ l. l.1 ≤ l.0.cap) ls → AllByRecursion (λ l. cond (test l.0) l.1 0 ≤ cond (test l.0) l.0.cap 0) ls
parts test [] all = tt
parts test (l ∷ ls) all = (part (test l.0) l.1 l.0.cap all.0, parts test ls all.1)

pub weak_duality : (n : ℕ) (ls : List (Arc × ℕ)) → Flows n ls → (side : ℕ → Bool) → IsSide side → outflow ls 0 ≤ room_where (enters side) ls
weak_duality n ls f side s =
    let most : amount_where (enters side) ls ≤ room_where (enters side) ls = sum_by-below (λ l. cond (enters side l.0) l.1 0) (λ l. cond (enters side l.0) l.0.cap 0) ls (parts (enters side) ls f.within) in
    omega (arith, across n ls f.two f.conserves side s, out_is_in n ls f.two f.conserves)

-- no more can go into the set of nodes from outside
abbrev pub IsShut : (ℕ → Bool) → Arc × ℕ → Type 0
IsShut side l = (side l.0.to ≡ true → side l.0.from ≡ false → l.1 ≡ l.0.cap) × (side l.0.from ≡ true → side l.0.to ≡ false → l.1 ≡ 0)

shut_here : (side : ℕ → Bool) (a : Arc) (x : ℕ) → cond (enters side a) x 0 ≡ cond (enters side a) a.cap 0 → 0 ≡ cond (leaves side a) x 0 → IsShut side (a, x)
shut_here side a x full empty =
    (λ to from. rw (to, from) at full, λ from to. sym (rw (from, to) at empty))

all_zero : (ls : List (Arc × ℕ)) (test : Arc → Bool) → AllByRecursion (λ l. 0 ≤ cond (test l.0) l.1 0) ls
all_zero [] test = tt
all_zero (l ∷ ls) test = (omega arith, all_zero ls test)

sum_of_zeros : (ls : List (Arc × ℕ)) → sum_by (λ (l : Arc × ℕ). 0) ls ≡ 0
sum_of_zeros [] = refl
sum_of_zeros (l ∷ ls) = sum_of_zeros ls

both_shut : (side : ℕ → Bool) (ls : List (Arc × ℕ)) → AllByRecursion (λ l. cond (enters side l.0) l.1 0 ≡ cond (enters side l.0) l.0.cap 0) ls → AllByRecursion (λ l. 0 ≡ cond (leaves side l.0) l.1 0) ls → AllByRecursion (IsShut side) ls
both_shut side [] full empty = tt
both_shut side (l ∷ ls) full empty = (shut_here side l.0 l.1 full.0 empty.0, both_shut side ls full.1 empty.1)

-- a side whose capacity the value meets is shut
pub shut_from_meets : (n : ℕ) (ls : List (Arc × ℕ)) → Flows n ls → (side : ℕ → Bool) → IsSide side → room_where (enters side) ls ≤ outflow ls 0 → AllByRecursion (IsShut side) ls
shut_from_meets n ls f side s h =
    let below : AllByRecursion (λ l. cond (enters side l.0) l.1 0 ≤ cond (enters side l.0) l.0.cap 0) ls = parts (enters side) ls f.within in
    let most : amount_where (enters side) ls ≤ room_where (enters side) ls = sum_by-below (λ l. cond (enters side l.0) l.1 0) (λ l. cond (enters side l.0) l.0.cap 0) ls below in
    let a : amount_where (enters side) ls ≡ inflow ls 1 + amount_where (leaves side) ls = across n ls f.two f.conserves side s in
    let o : outflow ls 0 ≡ inflow ls 1 = out_is_in n ls f.two f.conserves in
    let z : sum_by (λ (l : Arc × ℕ). 0) ls ≡ 0 = sum_of_zeros ls in
    both_shut side ls
    (sum_by-tight (λ l. cond (enters side l.0) l.1 0) (λ l. cond (enters side l.0) l.0.cap 0) ls below (omega arith))
    (sum_by-tight (λ l. 0) (λ l. cond (leaves side l.0) l.1 0) ls (all_zero ls (leaves side)) (omega arith))

full_here : (s t : Bool) (x y : ℕ) → (t ≡ true → s ≡ false → x ≡ y) → (s ≡ true → t ≡ false → x ≡ 0) → (cond (t && not s) x 0 ≡ cond (t && not s) y 0) × (cond (s && not t) x 0 ≡ 0)
full_here true true x y e z = (refl, refl)
full_here true false x y e z = (refl, z refl refl)
full_here false true x y e z = (e refl refl, refl)
full_here false false x y e z = (refl, refl)

full_all : (side : ℕ → Bool) (ls : List (Arc × ℕ)) → AllByRecursion (IsShut side) ls → AllByRecursion (λ l. cond (enters side l.0) l.1 0 ≡ cond (enters side l.0) l.0.cap 0) ls × AllByRecursion (λ l. cond (leaves side l.0) l.1 0 ≡ 0) ls
full_all side [] all = (tt, tt)
full_all side (l ∷ ls) all =
    let here = full_here (side l.0.from) (side l.0.to) l.1 l.0.cap all.0.0 all.0.1 in
    let rest = full_all side ls all.1 in
    ((here.0, rest.0), (here.1, rest.1))

-- the value meets the capacity into a side that is shut
pub meets_from_shut : (n : ℕ) (ls : List (Arc × ℕ)) → Flows n ls → (side : ℕ → Bool) → IsSide side → AllByRecursion (IsShut side) ls → outflow ls 0 ≡ room_where (enters side) ls
meets_from_shut n ls f side s shut =
    let all = full_all side ls shut in
    let full : amount_where (enters side) ls ≡ room_where (enters side) ls = sum_by-same (λ l. cond (enters side l.0) l.1 0) (λ l. cond (enters side l.0) l.0.cap 0) ls all.0 in
    let empty : amount_where (leaves side) ls ≡ sum_by (λ (l : Arc × ℕ). 0) ls = sum_by-same (λ l. cond (leaves side l.0) l.1 0) (λ l. 0) ls all.1 in
    let a : amount_where (enters side) ls ≡ inflow ls 1 + amount_where (leaves side) ls = across n ls f.two f.conserves side s in
    let o : outflow ls 0 ≡ inflow ls 1 = out_is_in n ls f.two f.conserves in
    let z : sum_by (λ (l : Arc × ℕ). 0) ls ≡ 0 = sum_of_zeros ls in
    omega arith

-- a residual arc into a shut side starts in it
shut_start : (side : ℕ → Bool) (u v : ℕ) (a : Arc) (x : ℕ) → IsShut side (a, x) → LetsMore u v (a, x) → side v ≡ true → side u ≡ true
shut_start side u v a x shut (inl (from, to, less)) h =
    elim (cases_Bool (side u)) [ inl inside ↦ inside | inr outside ↦ (let full : x ≡ a.cap = shut.0 (rw to h) (rw from outside) in absurd (omega arith)) ]
shut_start side u v a x shut (inr (to, from, some)) h =
    elim (cases_Bool (side u)) [ inl inside ↦ inside | inr outside ↦ (let empty : x ≡ 0 = shut.1 (rw from h) (rw to outside) in absurd (omega arith)) ]

pub shut_arc : (side : ℕ → Bool) (ls : List (Arc × ℕ)) → AllByRecursion (IsShut side) ls → (u v : ℕ) → ResidualArc ls u v → side v ≡ true → side u ≡ true
shut_arc side ls shut u v arc h =
    let here : IsShut side (get_or ls arc.0 arc.1) = All-get_or (IsShut side) ls arc.0 arc.1 arc.2 (All-from_recursion (IsShut side) ls shut) in
    shut_start side u v arc.1.0 arc.1.1 (rw arc.3 at here) arc.4 h

-- a node that reaches the sink is in each shut side
pub shut_walk : (side : ℕ → Bool) (ls : List (Arc × ℕ)) → AllByRecursion (IsShut side) ls → side 1 ≡ true → (n v : ℕ) → ReachesSink ls n v → side v ≡ true
shut_walk side ls shut sink zero v walk = rw walk sink
shut_walk side ls shut sink (suc n) v walk = shut_arc side ls shut v walk.0 walk.1 (shut_walk side ls shut sink n walk.0 walk.2)

-- a set of nodes that each residual arc into it starts in is shut
pub shut_from_closed : (side : ℕ → Bool) (ls : List (Arc × ℕ)) → AllByRecursion (λ l. l.1 ≤ l.0.cap) ls → ((u v : ℕ) → ResidualArc ls u v → side v ≡ true → side u ≡ true) → AllByRecursion (IsShut side) ls
shut_from_closed side ls within closed = recursion_from_All (IsShut side) ls (λ k d h.
    let there = Contains-get_or ls k d h in
    let l : Arc × ℕ = get_or ls k d in
    let fits : l.1 ≤ l.0.cap = All-get_or (λ l. l.1 ≤ l.0.cap) ls k d h (All-from_recursion (λ l. l.1 ≤ l.0.cap) ls within) in (
      λ to from. elim (cases_lt l.1 l.0.cap) [
        | inl less ↦ absurd (cc (closed l.0.from l.0.to (there.0, l, there.1, there.2, inl (refl, refl, less)) to))
        | inr not_less ↦ omega arith
      ],
      λ from to. elim (cases_lt 0 l.1) [
        | inl some ↦ absurd (cc (closed l.0.to l.0.from (there.0, l, there.1, there.2, inr (refl, refl, some)) from))
        | inr none ↦ omega arith
      ],
    ))
