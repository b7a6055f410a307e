-- What flows on some arcs of a network, numbered anew, beside what flows on all of them.
use Rattle.std.proofs.Common.{◌≡◌, ◌≤◌, ◌<◌, ◌+◌, ℕ, suc, Bool, true, false, cond, List, [], ◌∷◌, length, get_or, refl, sym, ap, ◌∙◌, subst, ◌⊎◌, inl, inr, arith}
use Rattle.std.specs.Prelude.{Some, slice_get, filter}
use Rattle.std.specs.List.{sum_by, zip, range_with_len, AllZip, AllByRecursion}
use Rattle.std.specs.Option.{option_map_or}
use Rattle.std.proofs.lemmas.List.Sums.{sum_by-cons}
use Rattle.flow_net.specs.declared.Arc.{Arc}

-- the arcs have the same capacity, and the ends of the one are the names of those of the other
pub record Beside (node_of : List ℕ) (a b : Arc) : Type 0 where
  pub from : slice_get node_of b.from ≡ Some a.from
  pub to : slice_get node_of b.to ≡ Some a.to
  pub cap : b.cap ≡ a.cap

module _ (node_of : List ℕ) (kept : Arc → Bool) where
  -- on each kept arc flows what flows on the next arc of the part, and nothing on the others
  abbrev pub Merges : List (Arc × ℕ) → List (Arc × ℕ) → Type 0
  Merges [] ms = ms ≡ []
  Merges (l ∷ ls) ms =
      ((kept l.0 ≡ false) × (l.1 ≡ 0) × Merges ls ms)
      ⊎ ((m : Arc × ℕ) × (rest : List (Arc × ℕ)) × (ms ≡ m ∷ rest) × (kept l.0 ≡ true) × Beside node_of l.0 m.0 × (l.1 ≡ m.1) × Merges ls rest)

  -- what is 0 where nothing is kept, and else the same of both arcs, has the same sum
  module _ (f g : Arc × ℕ → ℕ) (none : (l : Arc × ℕ) → kept l.0 ≡ false → l.1 ≡ 0 → f l ≡ 0) (same : (l m : Arc × ℕ) → kept l.0 ≡ true → Beside node_of l.0 m.0 → l.1 ≡ m.1 → f l ≡ g m) where
    pub sums_agree : (ls ms : List (Arc × ℕ)) → Merges ls ms → sum_by f ls ≡ sum_by g ms
    sums_agree [] ms h = sym (ap (sum_by g) h)
    sums_agree (l ∷ ls) ms (inl h) = omega (arith, sum_by-cons f l ls, none l h.0 h.1, sums_agree ls ms h.2)
    sums_agree (l ∷ ls) ms (inr h) = omega (arith, sum_by-cons f l ls, ap (sum_by g) h.2, sum_by-cons g h.0 h.1, same l h.0 h.3 h.4 h.5, sums_agree ls h.1 h.6)

  abbrev Fits : Arc × ℕ → Type 0
  Fits l = l.1 ≤ l.0.cap

  pub merged_fits : (ls ms : List (Arc × ℕ)) → Merges ls ms → AllByRecursion (λ l. l.1 ≤ l.0.cap) ms → AllByRecursion (λ l. l.1 ≤ l.0.cap) ls
  merged_fits [] ms h all = tt
  merged_fits (l ∷ ls) ms (inl h) all = (omega (arith, h.1), merged_fits ls ms h.2 all)
  merged_fits (l ∷ ls) ms (inr h) all =
      let there : AllByRecursion Fits (h.0 ∷ h.1) = subst (AllByRecursion Fits) h.2 all in
      (omega (arith, h.5, h.4.cap, there.0), merged_fits ls h.1 h.6 there.1)

-- ---- the arcs of the part, named by their numbers

module _ (node_of : List ℕ) (kept : Arc → Bool) (arcs : List Arc) (amounts : List ℕ) (Is : ℕ → Arc → Type 0) (beside : (k : ℕ) (a b : Arc) → Is k b → slice_get arcs k ≡ Some a → Beside node_of a b) where
  abbrev is_kept : ℕ → Bool
  is_kept k = option_map_or kept (slice_get arcs k) false

  abbrev Named : List ℕ → List ℕ → Type 0
  Named numbers ys = (i : ℕ) → i < length numbers → get_or amounts (get_or numbers i 0) 0 ≡ get_or ys i 0

  abbrev Rest : List (Arc × ℕ) → List ℕ → Type 0
  Rest ls numbers = (bs : List Arc) (ys : List ℕ) → AllZip Is numbers bs → length ys ≡ length bs → Named numbers ys → Merges node_of kept ls (zip bs ys)

  one_merges : (k : ℕ) (a : Arc) (x : ℕ) (ls : List (Arc × ℕ)) (numbers : List ℕ) (here : Bool) → kept a ≡ here → slice_get arcs k ≡ Some a → get_or amounts k 0 ≡ x → (here ≡ false → x ≡ 0) → Rest ls numbers → Rest ((a, x) ∷ ls) (cond here (k ∷ numbers) numbers)
  one_merges k a x ls numbers false is there amount none rest bs ys all len named = inl (is, none refl, rest bs ys all len named)
  one_merges k a x ls numbers true is there amount none rest [] ys all len named = absurd all
  one_merges k a x ls numbers true is there amount none rest (b ∷ bs) [] all len named = absurd (omega (arith, len))
  one_merges k a x ls numbers true is there amount none rest (b ∷ bs) (y ∷ ys) all len named =
      inr ((b, y), zip bs ys, refl, is, beside k a b all.0 there, sym amount ∙ named 0 (omega arith), rest bs ys all.1 (omega (arith, len)) (λ i lt. named (suc i) (omega (arith, lt))))

  none_merges : Rest [] []
  none_merges [] ys all len named = refl
  none_merges (b ∷ bs) ys all len named = absurd all

  pub merges_from : ((k : ℕ) → is_kept k ≡ false → get_or amounts k 0 ≡ 0) → (k : ℕ) (left : List Arc) (xs : List ℕ) → length xs ≡ length left → ((i : ℕ) → slice_get arcs (k + i) ≡ slice_get left i) → ((i : ℕ) → get_or amounts (k + i) 0 ≡ get_or xs i 0)
      → Rest (zip left xs) (filter is_kept (range_with_len k (length left)))
  merges_from others k [] xs len there amount = none_merges
  merges_from others k (a ∷ left) [] len there amount = absurd (omega (arith, len))
  merges_from others k (a ∷ left) (x ∷ xs) len there amount =
      let none : k + 0 ≡ k = omega arith in
      let is : slice_get arcs k ≡ Some a = ap (slice_get arcs) (sym none) ∙ there 0 in
      let flows : get_or amounts k 0 ≡ x = ap (λ i. get_or amounts i 0) (sym none) ∙ amount 0 in
      let same : is_kept k ≡ kept a = ap (λ o. option_map_or kept o false) is in
      one_merges k a x (zip left xs) (filter is_kept (range_with_len (k + 1) (length left))) (is_kept k) (sym same) is flows (λ e. sym flows ∙ others k e)
      (merges_from others (k + 1) left xs (omega (arith, len))
      (λ i. let next : k + 1 + i ≡ k + suc i = omega arith in ap (slice_get arcs) next ∙ there (suc i))
      (λ i. let next : k + 1 + i ≡ k + suc i = omega arith in ap (λ j. get_or amounts j 0) next ∙ amount (suc i)))
