-- What is needed of a network, and the numbers that it gets.
use Rattle.std.proofs.Common.{◌≡◌, ◌<◌, ◌≤◌, ◌+◌, ◌^◌, ◌&&◌, ℕ, zero, suc, Bool, true, false, cond, List, [], ◌∷◌, ◌++◌, Option, Some, None, length, take, get_or, slice_get, sum_by, refl, sym, ap, subst, ◌∙◌, inl, inr, arith}
use Rattle.std.specs.Prelude.{All, Vec, filter, filter_map, is_some}
use Rattle.std.specs.declared.alloc.Global.{Global}
use Rattle.std.specs.List.{AllByRecursion, AllZip, cons_option, range_with_len}
use Rattle.std.specs.Option.{option_map_or}
use Rattle.std.proofs.Math.Seq.{get_or-append_seam}
use Rattle.std.proofs.lemmas.Bool.{cases_eq, cases_lt}
use Rattle.std.proofs.lemmas.List.{append-nil, get_or_append_left, get_or_past, length_push, take_more}
use Rattle.std.proofs.lemmas.List.Elements.{All-from_recursion, All-get_or, All-weaker, filter-append, filter_agree, filter_map-append}
use Rattle.std.proofs.lemmas.List.Sums.{sum_by-cons}
use Rattle.std.proofs.lemmas.Option.{get_or_from_slice_get, same_Some, slice_get-get_or, slice_get_within}
use Rattle.flow_net.specs.declared.Arc.{Arc}
use Rattle.flow_net.specs.declared.Net.{Net}
use Rattle.flow_net.specs.Network.{IsArcOf, IsValid}
use Rattle.local_sets.specs.declared.flags.Reach.{Reach}
use Rattle.reduction.specs.Reduced.{AreNumbers, IsReduced, Stands, is_needed, is_needed_arc, is_renumbered, joins_needed, renumbered, with_ends}

-- ---- numbers in order that pass a test

grown : (a n : ℕ) → range_with_len a (suc n) ≡ range_with_len a n ++ (a + n) ∷ []
grown a zero = let same : a ≡ a + 0 = omega arith in ap (λ k. k ∷ []) same
grown a (suc n) = let same : a + 1 + n ≡ a + suc n = omega arith in ap (λ l. a ∷ l) (grown (a + 1) n ∙ ap (λ k. range_with_len (a + 1) n ++ k ∷ []) same)

pub filter_range_more : (test : ℕ → Bool) (n : ℕ) → filter test (range_with_len 0 (n + 1)) ≡ filter test (range_with_len 0 n) ++ cond (test n) (n ∷ []) []
filter_range_more test n =
    let one : n + 1 ≡ suc n = omega arith in
    let none : 0 + n ≡ n = omega arith in
    ap (λ k. filter test (range_with_len 0 k)) one ∙ ap (filter test) (grown 0 n) ∙ ap (λ k. filter test (range_with_len 0 n ++ k ∷ [])) none
    ∙ filter-append test (range_with_len 0 n) (n ∷ [])

pub range_yes : (test : ℕ → Bool) (n : ℕ) → test n ≡ true → filter test (range_with_len 0 (n + 1)) ≡ filter test (range_with_len 0 n) ++ n ∷ []
range_yes test n e = filter_range_more test n ∙ ap (λ b. filter test (range_with_len 0 n) ++ cond b (n ∷ []) []) e

pub range_no : (test : ℕ → Bool) (n : ℕ) → test n ≡ false → filter test (range_with_len 0 (n + 1)) ≡ filter test (range_with_len 0 n)
range_no test n e = filter_range_more test n ∙ ap (λ b. filter test (range_with_len 0 n) ++ cond b (n ∷ []) []) e ∙ append-nil (filter test (range_with_len 0 n))

filter_short : (test : ℕ → Bool) (a n : ℕ) → length (filter test (range_with_len a n)) ≤ n
filter_short test a zero = omega arith
filter_short test a (suc n) = elim (test a) as (λ b. length (cond b (a ∷ filter test (range_with_len (a + 1) n)) (filter test (range_with_len (a + 1) n))) ≤ suc n) [
  | true ↦ (let rest = filter_short test (a + 1) n in omega (arith, rest))
  | false ↦ (let rest = filter_short test (a + 1) n in omega (arith, rest))
]

-- ---- one node more

get_front : {X : Type 0} (xs ys : List X) (k : ℕ) (x : X) → slice_get xs k ≡ Some x → slice_get (xs ++ ys) k ≡ Some x
get_front [] ys k x there = absurd cc
get_front (y ∷ xs) ys zero x there = there
get_front (y ∷ xs) ys (suc k) x there = get_front xs ys k x there

get_last : {X : Type 0} (xs : List X) (x : X) → slice_get (xs ++ x ∷ []) (length xs) ≡ Some x
get_last [] x = refl
get_last (y ∷ xs) x = get_last xs x

pub nodes_none : (r : Reach) → AreNumbers r 0 [] []
nodes_none r = record { kept_are = refl; len = refl; needed = λ v lt. absurd (omega (arith, lt)); named = λ v k e. absurd cc }

module _ (r : Reach) (n : ℕ) (kept : List ℕ) (numbers : List (Option ℕ)) (s : AreNumbers r n kept numbers) where
  pub few_kept : length kept ≤ n
  few_kept = let short = filter_short (is_needed r) 0 n in omega (arith, short, ap length s.kept_are)

  before : (o : Option ℕ) (v : ℕ) → v < n → get_or (numbers ++ o ∷ []) v None ≡ get_or numbers v None
  before o v lt = get_or_append_left numbers (o ∷ []) None v (omega (arith, lt, s.len))

  here : (o : Option ℕ) → get_or (numbers ++ o ∷ []) n None ≡ o
  here o = ap (λ k. get_or (numbers ++ o ∷ []) k None) (sym s.len) ∙ get_or-append_seam numbers o [] None

  more : (o : Option ℕ) (kept' : List ℕ) → kept' ≡ filter (is_needed r) (range_with_len 0 (n + 1)) → is_some o ≡ is_needed r n →
      ((v k : ℕ) → slice_get kept k ≡ Some v → slice_get kept' k ≡ Some v) → ((k : ℕ) → o ≡ Some k → slice_get kept' k ≡ Some n) → AreNumbers r (n + 1) kept' (numbers ++ o ∷ [])
  more o kept' is tells old new = record {
    kept_are = is;
    len = length_push numbers o ∙ ap (λ k. k + 1) s.len;
    needed = λ v lt. elim (cases_eq v n) [
      | inl same ↦ ap (λ k. is_some (get_or (numbers ++ o ∷ []) k None)) same ∙ ap is_some (here o) ∙ tells ∙ ap (is_needed r) (sym same)
      | inr other ↦ ap is_some (before o v (omega (arith, lt, other))) ∙ s.needed v (omega (arith, lt, other))
    ];
    named = λ v k e. elim (cases_eq v n) [
      | inl same ↦ subst (λ u. slice_get kept' k ≡ Some u) (sym same) (new k (sym (here o) ∙ ap (λ u. get_or (numbers ++ o ∷ []) u None) (sym same) ∙ e))
      | inr other ↦ elim (cases_lt v n) [
        | inl lt ↦ old v k (s.named v k (sym (before o v lt) ∙ e))
        | inr past ↦ (let none : get_or (numbers ++ o ∷ []) v None ≡ None = get_or_past (numbers ++ o ∷ []) v None (omega (arith, past, other, s.len, length_push numbers o)) in absurd cc)
      ]
    ];
  }

  pub node_kept : is_needed r n ≡ true → (count : ℕ) → count ≡ length kept → (kept' : List ℕ) (numbers' : List (Option ℕ)) → kept' ≡ kept ++ n ∷ [] → numbers' ≡ numbers ++ Some count ∷ [] → AreNumbers r (n + 1) kept' numbers'
  node_kept needed count is kept' numbers' e f =
      subst (λ l. AreNumbers r (n + 1) kept' l) (sym f)
      (subst (λ l. AreNumbers r (n + 1) l (numbers ++ Some count ∷ [])) (sym e)
      (more (Some count) (kept ++ n ∷ []) (ap (λ l. l ++ n ∷ []) s.kept_are ∙ sym (range_yes (is_needed r) n needed)) (sym needed)
      (λ v k there. get_front kept (n ∷ []) k v there) (λ k same. subst (λ u. slice_get (kept ++ n ∷ []) u ≡ Some n) (sym is ∙ same_Some count k same) (get_last kept n))))

  pub node_left : is_needed r n ≡ false → (numbers' : List (Option ℕ)) → numbers' ≡ numbers ++ None ∷ [] → AreNumbers r (n + 1) kept numbers'
  node_left unneeded numbers' f =
      subst (λ l. AreNumbers r (n + 1) kept l) (sym f) (more None kept (s.kept_are ∙ sym (range_no (is_needed r) n unneeded)) (sym unneeded) (λ v k there. there) (λ k e. absurd cc))

-- ---- one arc more

module _ (numbers : List (Option ℕ)) (arcs : List Arc) (i : ℕ) (d : Arc) (lt : i < length arcs) where
  kept_more : filter_map (renumbered numbers) (take (i + 1) arcs) ≡ filter_map (renumbered numbers) (take i arcs) ++ cons_option (renumbered numbers (get_or arcs i d)) []
  kept_more = ap (filter_map (renumbered numbers)) (take_more arcs i d lt) ∙ filter_map-append (renumbered numbers) (take i arcs) (get_or arcs i d ∷ [])

  test_is : is_renumbered numbers arcs i ≡ is_some (renumbered numbers (get_or arcs i d))
  test_is = ap (λ o. option_map_or (λ (x : Arc). is_some (renumbered numbers x)) o false) (slice_get-get_or arcs i d lt)

  pub arc_kept : (b : Arc) → Some b ≡ renumbered numbers (get_or arcs i d) → (kept : List Arc) → kept ≡ filter_map (renumbered numbers) (take i arcs) → kept ++ b ∷ [] ≡ filter_map (renumbered numbers) (take (i + 1) arcs)
  arc_kept b e kept before = ap (λ l. l ++ b ∷ []) before ∙ ap (λ (o : Option Arc). filter_map (renumbered numbers) (take i arcs) ++ cons_option o []) e ∙ sym kept_more

  pub number_kept : (b : Arc) → Some b ≡ renumbered numbers (get_or arcs i d) → (found : List ℕ) → found ≡ filter (is_renumbered numbers arcs) (range_with_len 0 i) → found ++ i ∷ [] ≡ filter (is_renumbered numbers arcs) (range_with_len 0 (i + 1))
  number_kept b e found before = ap (λ l. l ++ i ∷ []) before ∙ sym (range_yes (is_renumbered numbers arcs) i (test_is ∙ ap (λ (o : Option Arc). is_some o) (sym e)))

  pub arc_left : None ≡ renumbered numbers (get_or arcs i d) → (kept : List Arc) → kept ≡ filter_map (renumbered numbers) (take i arcs) → kept ≡ filter_map (renumbered numbers) (take (i + 1) arcs)
  arc_left e kept before =
      before ∙ sym (kept_more ∙ ap (λ (o : Option Arc). filter_map (renumbered numbers) (take i arcs) ++ cons_option o []) (sym e) ∙ append-nil (filter_map (renumbered numbers) (take i arcs)))

  pub number_left : None ≡ renumbered numbers (get_or arcs i d) → (found : List ℕ) → found ≡ filter (is_renumbered numbers arcs) (range_with_len 0 i) → found ≡ filter (is_renumbered numbers arcs) (range_with_len 0 (i + 1))
  number_left e found before = before ∙ sym (range_no (is_renumbered numbers arcs) i (test_is ∙ ap (λ (o : Option Arc). is_some o) (sym e)))

-- ---- all arcs

ends_told : (o p : Option ℕ) (cap : ℕ) → is_some (with_ends o p cap) ≡ (is_some o && is_some p)
ends_told (Some u) (Some v) cap = refl
ends_told (Some u) None cap = refl
ends_told None p cap = refl

abbrev pub made : ℕ → ℕ → ℕ → Arc
made u v cap = record { from = u; to = v; cap = cap }

made_of : (u v cap : ℕ) (y : Arc) → made u v cap ≡ y → (Some u ≡ Some y.from) × (Some v ≡ Some y.to) × (y.cap ≡ cap)
made_of u v cap y same = (ap (λ (a : Arc). Some a.from) same, ap (λ (a : Arc). Some a.to) same, sym (ap (λ (a : Arc). a.cap) same))

ends_are : (o p : Option ℕ) (cap : ℕ) (y : Arc) → with_ends o p cap ≡ Some y → (o ≡ Some y.from) × (p ≡ Some y.to) × (y.cap ≡ cap)
ends_are (Some u) (Some v) cap y e = made_of u v cap y (same_Some (made u v cap) y e)
ends_are (Some u) None cap y e = absurd cc
ends_are None p cap y e = absurd cc

all_at : {X : Type 0} (P : X → Type 0) (xs : List X) (k : ℕ) (x : X) → All P xs → slice_get xs k ≡ Some x → P x
all_at P xs k x all e = subst P (get_or_from_slice_get xs k x x e) (All-get_or P xs k x (slice_get_within xs k x e) all)

module _ (r : Reach) (whole : Net) (valid : IsValid whole) (kept : List ℕ) (numbers : List (Option ℕ)) (s : AreNumbers r whole.nodes kept numbers) where
  pub numbers_reach : All (λ a. (a.from < length numbers) × (a.to < length numbers)) whole.arcs.items
  numbers_reach = All-weaker (IsArcOf whole.nodes) (λ a. (a.from < length numbers) × (a.to < length numbers)) (λ a h. (omega (arith, h.0, s.len), omega (arith, h.1, s.len))) whole.arcs.items valid.arcs

  agree : (k : ℕ) → is_renumbered numbers whole.arcs.items k ≡ is_needed_arc r whole.arcs.items k
  agree k = go (slice_get whole.arcs.items k) refl
    where
      go : (o : Option Arc) → slice_get whole.arcs.items k ≡ o → option_map_or (λ a. is_some (renumbered numbers a)) o false ≡ option_map_or (joins_needed r) o false
      go None e = refl
      go (Some a) e =
          let h = all_at (IsArcOf whole.nodes) whole.arcs.items k a valid.arcs e in
          ends_told (get_or numbers a.from None) (get_or numbers a.to None) a.cap
          ∙ ap (λ b. b && is_some (get_or numbers a.to None)) (s.needed a.from h.0) ∙ ap (λ b. is_needed r a.from && b) (s.needed a.to h.1)

  pub arc_of_is : filter (is_renumbered numbers whole.arcs.items) (range_with_len 0 (length whole.arcs.items)) ≡ filter (is_needed_arc r whole.arcs.items) (range_with_len 0 (length whole.arcs.items))
  arc_of_is = filter_agree (is_renumbered numbers whole.arcs.items) (is_needed_arc r whole.arcs.items) agree (range_with_len 0 (length whole.arcs.items))

  one_stands : (x : Arc) (a : ℕ) (ks : List ℕ) (ys : List Arc) → slice_get whole.arcs.items a ≡ Some x → AllZip (Stands whole.arcs.items kept) ks ys →
      AllZip (Stands whole.arcs.items kept) (cond (is_renumbered numbers whole.arcs.items a) (a ∷ ks) ks) (cons_option (renumbered numbers x) ys)
  one_stands x a ks ys first later =
      subst (λ b. AllZip (Stands whole.arcs.items kept) (cond b (a ∷ ks) ks) (cons_option (renumbered numbers x) ys)) (sym told) (pick (renumbered numbers x) refl)
    where
      told : is_renumbered numbers whole.arcs.items a ≡ is_some (renumbered numbers x)
      told = ap (λ o. option_map_or (λ (y : Arc). is_some (renumbered numbers y)) o false) first

      pick : (o : Option Arc) → renumbered numbers x ≡ o → AllZip (Stands whole.arcs.items kept) (cond (is_some o) (a ∷ ks) ks) (cons_option o ys)
      pick None e = later
      pick (Some y) e = (let ends = ends_are (get_or numbers x.from None) (get_or numbers x.to None) x.cap y e in
          (record { arc = x; there = first; from = s.named x.from y.from ends.0; to = s.named x.to y.to ends.1; cap = ends.2 }, later))

  stand_from : (xs : List Arc) (a : ℕ) → ((k : ℕ) → slice_get whole.arcs.items (a + k) ≡ slice_get xs k) →
      AllZip (Stands whole.arcs.items kept) (filter (is_renumbered numbers whole.arcs.items) (range_with_len a (length xs))) (filter_map (renumbered numbers) xs)
  stand_from [] a rest = tt
  stand_from (x ∷ xs) a rest =
      let none : a ≡ a + 0 = omega arith in
      one_stands x a (filter (is_renumbered numbers whole.arcs.items) (range_with_len (a + 1) (length xs))) (filter_map (renumbered numbers) xs) (ap (slice_get whole.arcs.items) none ∙ rest 0)
      (stand_from xs (a + 1) (λ k. let same : a + 1 + k ≡ a + suc k = omega arith in ap (slice_get whole.arcs.items) same ∙ rest (suc k)))

  pub arcs_stand : AllZip (Stands whole.arcs.items kept) (filter (is_needed_arc r whole.arcs.items) (range_with_len 0 (length whole.arcs.items))) (filter_map (renumbered numbers) whole.arcs.items)
  arcs_stand = subst (λ l. AllZip (Stands whole.arcs.items kept) l (filter_map (renumbered numbers) whole.arcs.items)) arc_of_is
      (stand_from whole.arcs.items 0 (λ k. let none : 0 + k ≡ k = omega arith in ap (slice_get whole.arcs.items) none))

  -- ---- the part is a network

  two_kept : (n : ℕ) → 2 ≤ n → (rest : List ℕ) × (filter (is_needed r) (range_with_len 0 n) ≡ 0 ∷ (1 ∷ rest))
  two_kept zero two = absurd (omega (arith, two))
  two_kept (suc zero) two = absurd (omega (arith, two))
  two_kept (suc (suc n)) two = (filter (is_needed r) (range_with_len 2 n), refl)

  front : (rest : List ℕ) × (kept ≡ 0 ∷ (1 ∷ rest))
  front = let two = two_kept whole.nodes valid.nodes in (two.0, s.kept_are ∙ two.1)

  pub nodes_kept : 2 ≤ length kept
  nodes_kept = omega (arith, ap length front.1)

  arc_valid : (k : ℕ) (y : Arc) → Stands whole.arcs.items kept k y → IsArcOf (length kept) y
  arc_valid k y stands =
      let h = all_at (IsArcOf whole.nodes) whole.arcs.items k stands.arc valid.arcs stands.there in (
        slice_get_within kept y.from stands.arc.from stands.from,
        slice_get_within kept y.to stands.arc.to stands.to,
        above_zero y.to stands.arc.to stands.to h.2,
        λ e. h.3 (sym (same_Some 1 stands.arc.from (sym (ap (λ l. slice_get l 1) front.1) ∙ ap (slice_get kept) (sym e) ∙ stands.from))),
      )
    where
      above_zero : (v w : ℕ) → slice_get kept v ≡ Some w → 0 < w → 0 < v
      above_zero zero w e some = let none : 0 ≡ w = same_Some 0 w (sym (ap (λ l. slice_get l 0) front.1) ∙ e) in absurd (omega (arith, none, some))
      above_zero (suc v) w e some = omega arith

  each_valid : (ks : List ℕ) (ys : List Arc) → AllZip (Stands whole.arcs.items kept) ks ys → AllByRecursion (IsArcOf (length kept)) ys
  each_valid [] [] all = tt
  each_valid [] (y ∷ ys) all = absurd all
  each_valid (k ∷ ks) [] all = absurd all
  each_valid (k ∷ ks) (y ∷ ys) all = (arc_valid k y all.0, each_valid ks ys all.1)

  pub arcs_valid : All (IsArcOf (length kept)) (filter_map (renumbered numbers) whole.arcs.items)
  arcs_valid = All-from_recursion (IsArcOf (length kept)) (filter_map (renumbered numbers) whole.arcs.items) (each_valid (filter (is_needed_arc r whole.arcs.items) (range_with_len 0 (length whole.arcs.items))) (filter_map (renumbered numbers) whole.arcs.items) arcs_stand)

  sum_left : (xs : List Arc) → sum_by (λ (a : Arc). a.cap) (filter_map (renumbered numbers) xs) ≤ sum_by (λ (a : Arc). a.cap) xs
  sum_left [] = omega arith
  sum_left (x ∷ xs) = omega (arith, sum_by-cons (λ (a : Arc). a.cap) x xs, pick (renumbered numbers x) refl, sum_left xs)
    where
      pick : (o : Option Arc) → renumbered numbers x ≡ o → sum_by (λ (a : Arc). a.cap) (cons_option o (filter_map (renumbered numbers) xs)) ≤ x.cap + sum_by (λ (a : Arc). a.cap) (filter_map (renumbered numbers) xs)
      pick None e = omega arith
      pick (Some y) e = let ends = ends_are (get_or numbers x.from None) (get_or numbers x.to None) x.cap y e in omega (arith, sum_by-cons (λ (a : Arc). a.cap) y (filter_map (renumbered numbers) xs), ends.2)

  pub total_small : sum_by (λ (a : Arc). a.cap) (filter_map (renumbered numbers) whole.arcs.items) < 2 ^ 120
  total_small = omega (arith, sum_left whole.arcs.items, valid.total)

-- ---- what the lists make

module _ (r : Reach) (whole : Net) (valid : IsValid whole) (kept : Vec ℕ Global) (numbers : List (Option ℕ)) (s : AreNumbers r whole.nodes kept.items numbers) (arcs : Vec Arc Global) (n : ℕ) (count : n ≡ length kept.items) (are : arcs.items ≡ filter_map (renumbered numbers) whole.arcs.items) where
  pub makes_reduced : (found : Vec ℕ Global) → found.items ≡ filter (is_renumbered numbers whole.arcs.items) (range_with_len 0 (length whole.arcs.items)) → IsReduced whole r (record { net = record { nodes = n; arcs = arcs }; node_of = kept; arc_of = found })
  makes_reduced found told =
      let found_is : found.items ≡ filter (is_needed_arc r whole.arcs.items) (range_with_len 0 (length whole.arcs.items)) = told ∙ arc_of_is r whole valid kept.items numbers s in
      record {
        nodes = count;
        node_of = s.kept_are;
        arc_of = found_is;
        arcs = subst (λ l. AllZip (Stands whole.arcs.items kept.items) l arcs.items) (sym found_is)
            (subst (λ l. AllZip (Stands whole.arcs.items kept.items) (filter (is_needed_arc r whole.arcs.items) (range_with_len 0 (length whole.arcs.items))) l) (sym are) (arcs_stand r whole valid kept.items numbers s));
      }

  pub makes_valid : IsValid (record { nodes = n; arcs = arcs })
  makes_valid = record {
    nodes = omega (arith, nodes_kept r whole valid kept.items numbers s, count);
    arcs = subst (λ l. All (IsArcOf n) l) (sym are) (subst (λ k. All (IsArcOf k) (filter_map (renumbered numbers) whole.arcs.items)) (sym count) (arcs_valid r whole valid kept.items numbers s));
    total = subst (λ l. sum_by (λ (a : Arc). a.cap) l < 2 ^ 120) (sym are) (total_small r whole valid kept.items numbers s);
  }
