-- The arcs of a network with the amounts of a flow, read at an index.
use Rattle.std.proofs.Common.{◌≡◌, ℕ, ◌+◌, ◌^◌, ◌<◌, ◌≤◌, Bool, cond, List, [], ◌∷◌, length, take, ap, arith, sym, subst, ◌∙◌, get_or}
use Rattle.std.specs.List.{sum_by, AllByRecursion, All, zip}
use Rattle.std.proofs.lemmas.List.Sums.{sum_by_more, sum_by_more_le}
use Rattle.std.proofs.lemmas.List.Elements.{recursion_from_All, All-get_or}
use Rattle.std.proofs.lemmas.Slice.Zip.{length-zip, get_or-zip}
use Rattle.std.proofs.lemmas.Grind.{get_or_default_zero}
use Rattle.std.proofs.lemmas.List.{take_all, get_or_default}
use Rattle.flow_net.specs.declared.Arc.{Arc}
use Rattle.flow_net.specs.declared.Net.{Net}
use Rattle.flow_net.specs.declared.Flow.{Flow}
use Rattle.flow_net.specs.Network.{amount_where, loads, IsWithin, IsValid}
use Rattle.flow_net.proofs.Sums.{sum_by-below, sum_by-firsts}

pub loads_len : (net : Net) (flow : Flow) → IsWithin net flow → length (loads net flow) ≡ length net.arcs.items
loads_len net flow w = omega (arith, length-zip net.arcs.items flow.amounts.items, w.len)

pub load_at : (net : Net) (flow : Flow) (i : ℕ) (d : Arc) (e : ℕ) → IsWithin net flow → i < length net.arcs.items → get_or (loads net flow) i (d, e) ≡ (get_or net.arcs.items i d, get_or flow.amounts.items i e)
load_at net flow i d e w h = get_or-zip net.arcs.items flow.amounts.items i (d, e) h (let l : length flow.amounts.items ≡ length net.arcs.items = w.len in omega arith)

-- one more arc
pub amount_more : (net : Net) (flow : Flow) (test : Arc → Bool) (i : ℕ) (d : Arc) → IsWithin net flow → i < length net.arcs.items →
    amount_where test (take (i + 1) (loads net flow)) ≡ amount_where test (take i (loads net flow)) + cond (test (get_or net.arcs.items i d)) (get_or flow.amounts.items i 0) 0
amount_more net flow test i d w h =
    let long : i < length (loads net flow) = omega (arith, loads_len net flow w) in
    sum_by_more (λ l. cond (test l.0) l.1 0) (loads net flow) i (d, 0) long
    ∙ ap (λ (l : Arc × ℕ). amount_where test (take i (loads net flow)) + cond (test l.0) l.1 0) (load_at net flow i d 0 w h)

some_of : (b : Bool) (x y : ℕ) → x ≤ y → cond b x 0 ≤ y
some_of Bool.true x y h = h
some_of Bool.false x y h = omega arith

some_all : (test : Arc → Bool) (ls : List (Arc × ℕ)) → AllByRecursion (λ l. l.1 ≤ l.0.cap) ls → AllByRecursion (λ l. cond (test l.0) l.1 0 ≤ l.0.cap) ls
some_all test [] all = tt
some_all test (l ∷ ls) all = (some_of (test l.0) l.1 l.0.cap all.0, some_all test ls all.1)

pub amount_fits : (net : Net) (flow : Flow) (test : Arc → Bool) → IsValid net → IsWithin net flow → amount_where test (loads net flow) < 2 ^ 120
amount_fits net flow test v w =
    let each : amount_where test (loads net flow) ≤ sum_by (λ l. l.0.cap) (loads net flow) = sum_by-below (λ l. cond (test l.0) l.1 0) (λ l. l.0.cap) (loads net flow) (some_all test (loads net flow) (recursion_from_All (λ l. l.1 ≤ l.0.cap) (loads net flow) w.below)) in
    let caps : sum_by (λ (l : Arc × ℕ). l.0.cap) (loads net flow) ≡ sum_by (λ a. a.cap) net.arcs.items = sum_by-firsts (λ a. a.cap) net.arcs.items flow.amounts.items w.len in
    let total : sum_by (λ a. a.cap) net.arcs.items < 2 ^ 120 = v.total in
    omega arith

-- the sum so far and one more amount
pub amount_more_fits : (net : Net) (flow : Flow) (test : Arc → Bool) (i : ℕ) (d : Arc) → IsValid net → IsWithin net flow → i < length net.arcs.items →
    amount_where test (take i (loads net flow)) + cond (test (get_or net.arcs.items i d)) (get_or flow.amounts.items i 0) 0 < 2 ^ 120
amount_more_fits net flow test i d v w h =
    let long : i < length (loads net flow) = omega (arith, loads_len net flow w) in
    let at : amount_where test (take i (loads net flow)) + cond (test (get_or (loads net flow) i (d, 0)).0) (get_or (loads net flow) i (d, 0)).1 0 ≤ amount_where test (loads net flow) =
    sum_by_more_le (λ l. cond (test l.0) l.1 0) (loads net flow) i (d, 0) long in
    let here : get_or (loads net flow) i (d, 0) ≡ (get_or net.arcs.items i d, get_or flow.amounts.items i 0) = load_at net flow i d 0 w h in
    let term : cond (test (get_or (loads net flow) i (d, 0)).0) (get_or (loads net flow) i (d, 0)).1 0 ≡ cond (test (get_or net.arcs.items i d)) (get_or flow.amounts.items i 0) 0 = ap (λ (l : Arc × ℕ). cond (test l.0) l.1 0) here in
    let all : amount_where test (loads net flow) < 2 ^ 120 = amount_fits net flow test v w in
    omega arith

-- the steps of a loop over the arcs, where it adds the amount of those that pass a test
pub step_yes : (net : Net) (flow : Flow) (test : Arc → Bool) (i : ℕ) (d : Arc) (x : ℕ) → IsWithin net flow → i < length net.arcs.items →
    test (get_or net.arcs.items i d) ≡ Bool.true → x ≡ get_or flow.amounts.items i x →
    amount_where test (take (i + 1) (loads net flow)) ≡ amount_where test (take i (loads net flow)) + x
step_yes net flow test i d x w h passes read =
    let short : i < length flow.amounts.items = let l : length flow.amounts.items ≡ length net.arcs.items = w.len in omega arith in
    let same : get_or flow.amounts.items i x ≡ get_or flow.amounts.items i 0 = get_or_default_zero flow.amounts.items i x short in
    let more : amount_where test (take (i + 1) (loads net flow)) ≡ amount_where test (take i (loads net flow)) + cond (test (get_or net.arcs.items i d)) (get_or flow.amounts.items i 0) 0 = amount_more net flow test i d w h in
    let term : cond (test (get_or net.arcs.items i d)) (get_or flow.amounts.items i 0) 0 ≡ get_or flow.amounts.items i 0 = rw passes in
    omega arith

pub step_fits : (net : Net) (flow : Flow) (test : Arc → Bool) (i : ℕ) (d : Arc) (x : ℕ) → IsValid net → IsWithin net flow → i < length net.arcs.items →
    test (get_or net.arcs.items i d) ≡ Bool.true → x ≡ get_or flow.amounts.items i x →
    amount_where test (take i (loads net flow)) + x < 2 ^ 120
step_fits net flow test i d x v w h passes read =
    let short : i < length flow.amounts.items = let l : length flow.amounts.items ≡ length net.arcs.items = w.len in omega arith in
    let same : get_or flow.amounts.items i x ≡ get_or flow.amounts.items i 0 = get_or_default_zero flow.amounts.items i x short in
    let more : amount_where test (take i (loads net flow)) + cond (test (get_or net.arcs.items i d)) (get_or flow.amounts.items i 0) 0 < 2 ^ 120 = amount_more_fits net flow test i d v w h in
    let term : cond (test (get_or net.arcs.items i d)) (get_or flow.amounts.items i 0) 0 ≡ get_or flow.amounts.items i 0 = rw passes in
    omega arith

pub step_no : (net : Net) (flow : Flow) (test : Arc → Bool) (i : ℕ) (d : Arc) → IsWithin net flow → i < length net.arcs.items →
    test (get_or net.arcs.items i d) ≡ Bool.false → amount_where test (take (i + 1) (loads net flow)) ≡ amount_where test (take i (loads net flow))
step_no net flow test i d w h fails =
    let more : amount_where test (take (i + 1) (loads net flow)) ≡ amount_where test (take i (loads net flow)) + cond (test (get_or net.arcs.items i d)) (get_or flow.amounts.items i 0) 0 = amount_more net flow test i d w h in
    let term : cond (test (get_or net.arcs.items i d)) (get_or flow.amounts.items i 0) 0 ≡ 0 = rw fails in
    omega arith

pub step_all : (net : Net) (flow : Flow) (test : Arc → Bool) (i : ℕ) → IsWithin net flow → length net.arcs.items ≤ i → amount_where test (take i (loads net flow)) ≡ amount_where test (loads net flow)
step_all net flow test i w h = ap (amount_where test) (take_all i (loads net flow) (omega (arith, loads_len net flow w)))

-- the load of an arc that was read, and its amount
pub load_read : (net : Net) (flow : Flow) (i : ℕ) (a : Arc) (x : ℕ) → IsWithin net flow → i < length net.arcs.items →
    a ≡ get_or net.arcs.items i a → x ≡ get_or flow.amounts.items i x → ((a, x) ≡ get_or (loads net flow) i (a, x)) × (x ≤ a.cap)
load_read net flow i a x w h arc amount =
    let at : get_or (loads net flow) i (a, x) ≡ (get_or net.arcs.items i a, get_or flow.amounts.items i x) = load_at net flow i a x w h in
    let here : (a, x) ≡ get_or (loads net flow) i (a, x) = cc in
    let fits : (get_or (loads net flow) i (a, x)).1 ≤ (get_or (loads net flow) i (a, x)).0.cap = All-get_or (λ l. l.1 ≤ l.0.cap) (loads net flow) i (a, x) (omega (arith, loads_len net flow w)) w.below in
    (here, rw (← here) at fits)

-- the load at the place of an arc and an amount that were read
load_here : (arcs : List Arc) (amounts : List ℕ) (i : ℕ) (a : Arc) (x : ℕ) → length amounts ≡ length arcs → i < length arcs →
    a ≡ get_or arcs i a → x ≡ get_or amounts i x → (d : Arc × ℕ) → get_or (zip arcs amounts) i d ≡ (a, x)
load_here arcs amounts i a x len h arc amount d =
    let short : i < length amounts = omega arith in
    let at : get_or (zip arcs amounts) i d ≡ (get_or arcs i d.0, get_or amounts i d.1) = get_or-zip arcs amounts i d h short in
    let first : get_or arcs i d.0 ≡ a = get_or_default arcs i d.0 a h ∙ sym arc in
    let second : get_or amounts i d.1 ≡ x = get_or_default amounts i d.1 x short ∙ sym amount in
    cc

pub load_below : (arcs : List Arc) (amounts : List ℕ) (i : ℕ) (a : Arc) (x : ℕ) → length amounts ≡ length arcs → i < length arcs →
    a ≡ get_or arcs i a → x ≡ get_or amounts i x → x ≤ a.cap → (d : Arc × ℕ) → (get_or (zip arcs amounts) i d).1 ≤ (get_or (zip arcs amounts) i d).0.cap
load_below arcs amounts i a x len h arc amount fits d = subst (λ (l : Arc × ℕ). l.1 ≤ l.0.cap) (sym (load_here arcs amounts i a x len h arc amount d)) fits

pub below_load : (arcs : List Arc) (amounts : List ℕ) (i : ℕ) (a : Arc) (x : ℕ) → length amounts ≡ length arcs → i < length arcs →
    a ≡ get_or arcs i a → x ≡ get_or amounts i x → All (λ (l : Arc × ℕ). l.1 ≤ l.0.cap) (zip arcs amounts) → x ≤ a.cap
below_load arcs amounts i a x len h arc amount all =
    subst (λ (l : Arc × ℕ). l.1 ≤ l.0.cap) (load_here arcs amounts i a x len h arc amount (a, x)) (all i (a, x) (omega (arith, length-zip arcs amounts)))
