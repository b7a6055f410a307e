-- Sums of nodes: one arc more, and that they stay small.
use Rattle.std.proofs.Common.{◌≡◌, ◌≢◌, ℕ, ◌+◌, ◌^◌, ◌<◌, ◌≤◌, ◌==◌, ℤ, pos, neg_ℤ, ◌≤ℤ◌, ◌+ℤ◌, ◌-ℤ◌, inl, inr, Bool, true, false, cond, List, [], ◌∷◌, length, get_or, set, take, refl, ap, arith, sym, subst, ◌∙◌}
use Rattle.std.specs.List.{sum_by, All, AllByRecursion, zip}
use Rattle.std.proofs.lemmas.Bool.{cases_eq, eq-eqb, ne_eqb}
use Rattle.std.proofs.lemmas.Int.{ints}
use Rattle.std.proofs.lemmas.List.{get_or-set_same, get_or-set_other, get_or_default, get_or-take, take_all, length-set, length-take}
use Rattle.std.proofs.lemmas.List.Elements.{recursion_from_All}
use Rattle.std.proofs.lemmas.List.Sums.{sum_by-cons, sum_by_more, sum_by-take-le}
use Rattle.std.proofs.lemmas.Slice.Zip.{get_or-zip}
use Rattle.std.proofs.lemmas.Option.{slice_get_read, get_or_from_slice_get}
use Rattle.flow_net.specs.declared.Arc.{Arc}
use Rattle.flow_net.specs.declared.Net.{Net}
use Rattle.flow_net.specs.declared.Flow.{Flow}
use Rattle.flow_net.specs.Network.{amount_where, inflow, outflow, loads, IsBalanced}
use Rattle.flow_net.proofs.Sums.{sum_by-firsts}
use Rattle.flow_check.specs.Faults.{IsFirstAbove, IsFirstUnbalanced}
use Rattle.flow_check.specs.Sums.{AreSums, IsFirstNonzero, IsRoomy, sum_at}

-- one sum is put
put_here : (sums : List ℤ) (i : ℕ) (b : ℤ) (v : ℕ) → i < length sums → v ≡ i → sum_at (set sums i b) v ≡ b
put_here sums i b v inside same = ap (sum_at (set sums i b)) same ∙ get_or-set_same sums i b (pos 0) inside

here : (i v x : ℕ) → v ≡ i → cond (i == v) x 0 ≡ x
here i v x same = let e : (i == v) ≡ true = eq-eqb i v (sym same) in rw e

elsewhere : (i v x : ℕ) → v ≢ i → cond (i == v) x 0 ≡ 0
elsewhere i v x differs = let e : (i == v) ≡ false = ne_eqb i v (λ same. differs (sym same)) in rw e

-- an amount is taken at i
taken_at : (sums : List ℤ) (i x : ℕ) (a : ℤ) → i < length sums → a ≡ sum_at sums i -ℤ pos x → (v : ℕ) →
    sum_at (set sums i a) v ≡ sum_at sums v -ℤ pos (cond (i == v) x 0)
taken_at sums i x a inside taken v = elim (cases_eq v i) [
  | inl same ↦
      (let new : sum_at (set sums i a) v ≡ a = put_here sums i a v inside same in
      let old : sum_at sums v ≡ sum_at sums i = ap (sum_at sums) same in
      let all : cond (i == v) x 0 ≡ x = here i v x same in
      omega (arith, ints))
  | inr differs ↦
      (let new : sum_at (set sums i a) v ≡ sum_at sums v = get_or-set_other sums i v a (pos 0) differs in
      let none : cond (i == v) x 0 ≡ 0 = elsewhere i v x differs in
      omega (arith, ints))
]

-- an amount is added at j
added_at : (sums : List ℤ) (j x : ℕ) (b : ℤ) → j < length sums → b ≡ sum_at sums j +ℤ pos x → (v : ℕ) →
    sum_at (set sums j b) v ≡ sum_at sums v +ℤ pos (cond (j == v) x 0)
added_at sums j x b inside added v = elim (cases_eq v j) [
  | inl same ↦
      (let new : sum_at (set sums j b) v ≡ b = put_here sums j b v inside same in
      let old : sum_at sums v ≡ sum_at sums j = ap (sum_at sums) same in
      let all : cond (j == v) x 0 ≡ x = here j v x same in
      omega (arith, ints))
  | inr differs ↦
      (let new : sum_at (set sums j b) v ≡ sum_at sums v = get_or-set_other sums j v b (pos 0) differs in
      let none : cond (j == v) x 0 ≡ 0 = elsewhere j v x differs in
      omega (arith, ints))
]

-- an amount is taken at i and then added at j
pub moved : (sums : List ℤ) (i j x : ℕ) (a b : ℤ) → i < length sums → j < length sums →
    a ≡ sum_at sums i -ℤ pos x → b ≡ sum_at (set sums i a) j +ℤ pos x → (v : ℕ) →
    sum_at (set (set sums i a) j b) v ≡ sum_at sums v +ℤ pos (cond (j == v) x 0) -ℤ pos (cond (i == v) x 0)
moved sums i j x a b inside_i inside_j taken added v =
    let first : sum_at (set sums i a) v ≡ sum_at sums v -ℤ pos (cond (i == v) x 0) = taken_at sums i x a inside_i taken v in
    let second : sum_at (set (set sums i a) j b) v ≡ sum_at (set sums i a) v +ℤ pos (cond (j == v) x 0) = added_at (set sums i a) j x b (omega (arith, length-set sums i a)) added v in
    omega (arith, ints)

some_of : (b : Bool) (x : ℕ) → cond b x 0 ≤ x
some_of true x = omega arith
some_of false x = omega arith

-- what is left where an amount was taken
pub taken_room : (sums : List ℤ) (i x : ℕ) (a : ℤ) → i < length sums → x < 2 ^ 120 → IsRoomy sums → a ≡ sum_at sums i -ℤ pos x → (v : ℕ) → v < length sums →
    (neg_ℤ (pos (2 ^ 121)) ≤ℤ sum_at (set sums i a) v) × (sum_at (set sums i a) v ≤ℤ pos (2 ^ 120))
taken_room sums i x a inside small room taken v within =
    let new : sum_at (set sums i a) v ≡ sum_at sums v -ℤ pos (cond (i == v) x 0) = taken_at sums i x a inside taken v in
    let part : cond (i == v) x 0 ≤ x = some_of (i == v) x in
    let low : neg_ℤ (pos (2 ^ 120)) ≤ℤ sum_at sums v = (room v within).0 in
    let high : sum_at sums v ≤ℤ pos (2 ^ 120) = (room v within).1 in
    (omega (arith, ints), omega (arith, ints))

-- no more flows on arcs than they can hold
below_caps : (test : Arc → Bool) (ls : List (Arc × ℕ)) → AllByRecursion (λ l. l.1 ≤ l.0.cap) ls → amount_where test ls ≤ sum_by (λ l. l.0.cap) ls
below_caps test [] all = omega arith
below_caps test (l ∷ ls) all =
    omega (
      arith,
      sum_by-cons (λ l. cond (test l.0) l.1 0) l ls,
      sum_by-cons (λ l. l.0.cap) l ls,
      some_of (test l.0) l.1,
      all.0,
      below_caps test ls all.1,
    )

abbrev pub FirstWithin : List (Arc × ℕ) → ℕ → Type 0
FirstWithin ls k = (i : ℕ) → i < k → (d : Arc × ℕ) → (get_or ls i d).1 ≤ (get_or ls i d).0.cap

all_first : (ls : List (Arc × ℕ)) (k : ℕ) → FirstWithin ls k → All (λ l. l.1 ≤ l.0.cap) (take k ls)
all_first ls k within i d h =
    let less : i < k = omega (arith, length-take k ls) in
    subst (λ (l : Arc × ℕ). l.1 ≤ l.0.cap) (sym (get_or-take k ls i d less)) (within i less d)

first_small : (arcs : List Arc) (amounts : List ℕ) (k : ℕ) (test : Arc → Bool) → length amounts ≡ length arcs → sum_by (λ a. a.cap) arcs < 2 ^ 120 →
    FirstWithin (zip arcs amounts) k → amount_where test (take k (zip arcs amounts)) < 2 ^ 120
first_small arcs amounts k test len total within =
    let ls : List (Arc × ℕ) = zip arcs amounts in
    let caps : amount_where test (take k (zip arcs amounts)) ≤ sum_by (λ (l : Arc × ℕ). l.0.cap) (take k (zip arcs amounts)) = below_caps test (take k ls) (recursion_from_All (λ l. l.1 ≤ l.0.cap) (take k ls) (all_first ls k within)) in
    let part : sum_by (λ (l : Arc × ℕ). l.0.cap) (take k (zip arcs amounts)) ≤ sum_by (λ (l : Arc × ℕ). l.0.cap) (zip arcs amounts) = sum_by-take-le (λ (l : Arc × ℕ). l.0.cap) ls k in
    let whole : sum_by (λ (l : Arc × ℕ). l.0.cap) (zip arcs amounts) ≡ sum_by (λ a. a.cap) arcs = sum_by-firsts (λ a. a.cap) arcs amounts len in
    omega arith

-- the sums of the first arcs have room for one more
pub first_room : (arcs : List Arc) (amounts : List ℕ) (k : ℕ) (sums : List ℤ) → length amounts ≡ length arcs → sum_by (λ a. a.cap) arcs < 2 ^ 120 →
    FirstWithin (zip arcs amounts) k → AreSums (take k (zip arcs amounts)) sums → IsRoomy sums
first_room arcs amounts k sums len total within are v h =
    let at : sum_at sums v ≡ pos (inflow (take k (zip arcs amounts)) v) -ℤ pos (outflow (take k (zip arcs amounts)) v) = are v h in
    let in' : inflow (take k (zip arcs amounts)) v < 2 ^ 120 = first_small arcs amounts k (λ a. a.to == v) len total within in
    let out : outflow (take k (zip arcs amounts)) v < 2 ^ 120 = first_small arcs amounts k (λ a. a.from == v) len total within in
    (omega (arith, ints), omega (arith, ints))

-- the load at the place of an arc and an amount that were read
pub load_there : (items arcs : List Arc) (amounts : List ℕ) (i : ℕ) (d : Arc) (x : ℕ) → items ≡ arcs → length amounts ≡ length arcs → i < length items →
    x ≡ get_or amounts i x → (get_or items i d, x) ≡ get_or (zip arcs amounts) i (get_or items i d, x)
load_there items arcs amounts i d x same len h amount =
    let a : Arc = get_or items i d in
    let long : length items ≡ length arcs = ap length same in
    let arc : get_or items i d ≡ get_or arcs i a = get_or_default items i d a h ∙ ap (λ xs. get_or xs i a) same in
    let at : get_or (zip arcs amounts) i (a, x) ≡ (get_or arcs i a, get_or amounts i x) = get_or-zip arcs amounts i (a, x) (omega arith) (omega arith) in
    cc

-- the first amount above its capacity, behind those that aren't
pub first_above : (net : Net) (flow : Flow) (k : ℕ) (a : Arc) (x : ℕ) → k < length (loads net flow) → (a, x) ≡ get_or (loads net flow) k (a, x) → a.cap < x →
    FirstWithin (loads net flow) k → IsFirstAbove net flow k
first_above net flow k a x inside read above within = record {
  is_above = record {
    load = (a, x);
    there = slice_get_read (loads net flow) (length (loads net flow)) k (a, x) refl inside read;
    above = above;
  };
  first = λ i h other.
      (let at : get_or (loads net flow) i other.load ≡ other.load = get_or_from_slice_get (loads net flow) i other.load other.load other.there in
      let fits : other.load.1 ≤ other.load.0.cap = subst (λ (l : Arc × ℕ). l.1 ≤ l.0.cap) at (within i h other.load) in
      omega (arith, other.above));
}

pub within_more : (ls : List (Arc × ℕ)) (k : ℕ) (a : Arc) (x : ℕ) → k < length ls → (a, x) ≡ get_or ls k (a, x) → x ≤ a.cap → (d : Arc × ℕ) → (get_or ls k d).1 ≤ (get_or ls k d).0.cap
within_more ls k a x inside read fits d = subst (λ (l : Arc × ℕ). l.1 ≤ l.0.cap) (read ∙ get_or_default ls k (a, x) d inside) fits

-- one more amount
amount_more : (test : Arc → Bool) (ls : List (Arc × ℕ)) (k : ℕ) (a : Arc) (x : ℕ) → k < length ls → (a, x) ≡ get_or ls k (a, x) →
    amount_where test (take (k + 1) ls) ≡ amount_where test (take k ls) + cond (test a) x 0
amount_more test ls k a x inside read =
    sum_by_more (λ l. cond (test l.0) l.1 0) ls k (a, x) inside
    ∙ ap (λ (l : Arc × ℕ). amount_where test (take k ls) + cond (test l.0) l.1 0) (sym read)

-- the sums of one arc more
pub sums_more : (ls : List (Arc × ℕ)) (k : ℕ) (a : Arc) (x : ℕ) (old new : List ℤ) → k < length ls → (a, x) ≡ get_or ls k (a, x) → length new ≡ length old →
    AreSums (take k ls) old → ((v : ℕ) → v < length old → sum_at new v ≡ sum_at old v +ℤ pos (cond (a.to == v) x 0) -ℤ pos (cond (a.from == v) x 0)) →
    AreSums (take (k + 1) ls) new
sums_more ls k a x old new inside read len are adds v h =
    let short : v < length old = omega arith in
    let was : sum_at old v ≡ pos (inflow (take k ls) v) -ℤ pos (outflow (take k ls) v) = are v short in
    let now : sum_at new v ≡ sum_at old v +ℤ pos (cond (a.to == v) x 0) -ℤ pos (cond (a.from == v) x 0) = adds v short in
    let in' : inflow (take (k + 1) ls) v ≡ inflow (take k ls) v + cond (a.to == v) x 0 = amount_more (λ a. a.to == v) ls k a x inside read in
    let out : outflow (take (k + 1) ls) v ≡ outflow (take k ls) v + cond (a.from == v) x 0 = amount_more (λ a. a.from == v) ls k a x inside read in
    omega (arith, ints)

-- the sums of all arcs
pub sums_all : (ls : List (Arc × ℕ)) (k : ℕ) (sums : List ℤ) → length ls ≤ k → AreSums (take k ls) sums → AreSums ls sums
sums_all ls k sums past are = subst (λ part. AreSums part sums) (take_all k ls past) are

balance_of : (a b : ℕ) (z : ℤ) → z ≡ pos a -ℤ pos b → z ≡ pos 0 → a ≡ b
balance_of a b z at none = omega (arith, ints)

no_excess : (a b : ℕ) (z : ℤ) → z ≡ pos a -ℤ pos b → a ≡ b → z ≡ pos 0
no_excess a b z at same = omega (arith, ints)

-- a node is balanced where its sum is 0
pub balanced_from : (net : Net) (flow : Flow) (sums : List ℤ) → length sums ≡ net.nodes → AreSums (loads net flow) sums →
    ((v : ℕ) → 2 ≤ v → v < net.nodes → sum_at sums v ≡ pos 0) → IsBalanced net flow
balanced_from net flow sums len are none v inner node =
    balance_of (inflow (loads net flow) v) (outflow (loads net flow) v) (sum_at sums v) (are v (omega arith)) (none v inner node)

pub unbalanced_from : (net : Net) (flow : Flow) (sums : List ℤ) (v : ℕ) → length sums ≡ net.nodes → AreSums (loads net flow) sums →
    IsFirstNonzero net.nodes sums v → IsFirstUnbalanced net flow v
unbalanced_from net flow sums v len are found =
    let inside : v < length sums = omega (arith, found.node) in
    record {
      inner = found.inner;
      node = found.node;
      unbalanced = λ same. found.nonzero (no_excess (inflow (loads net flow) v) (outflow (loads net flow) v) (sum_at sums v) (are v inside) same);
      first = λ w inner less. balance_of (inflow (loads net flow) w) (outflow (loads net flow) w) (sum_at sums w) (are w (omega arith)) (found.first w inner less);
    }
