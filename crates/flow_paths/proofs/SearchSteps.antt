-- How the search along passing arcs keeps what it knows.
use Rattle.std.proofs.Common.{◌≡◌, ◌<◌, ◌≤◌, ◌+◌, ◌↔◌, ◌⊎◌, ℕ, Bool, true, false, not, cond, List, [], ◌∷◌, ◌++◌, All, length, get_or, set, count_by, map, replicate, refl, sym, ap, ◌∙◌, subst, arith, inl, inr, ⊎_elim, get_or-set_same, get_or-set_other}
use Rattle.std.specs.Prelude.{Contains}
use Rattle.std.proofs.lemmas.List.{length-set, length_push, length-map, length-replicate, get_or-map, get_or-replicate, get_or_past, map-set}
use Rattle.std.proofs.lemmas.List.Sums.{sum_by-set}
use Rattle.std.proofs.lemmas.List.Elements.{Contains-append_left, Contains-append_right, Contains-append_cases, Contains-push, Contains-push_cases, Contains-get_or}
use Rattle.std.proofs.lemmas.Bool.{cases_eq, cases_Bool, cases_lt, true≢false}
use Rattle.flow_paths.specs.declared.spreading.Search.{Search}
use Rattle.flow_paths.specs.Paths.{source, target, ArcsWithin, IsPath}
use Rattle.flow_paths.specs.Spreads.{IsSet, AllSet, SpreadsTo}
use Rattle.flow_paths.specs.Searching.{Leads, AreEnds, AreSet, IsMarked, work, Reaches, IsFollowed, Searching}
use Rattle.flow_paths.proofs.PathLemmas.{IsSet-set, IsSet-kept, IsSet-cases, SpreadsTo-seed, SpreadsTo-step}

none_in : (x : ℕ) → ¬ Contains [] x
none_in x c = let h : c.0 < 0 = c.1 in absurd (omega arith)

-- ---- one point

unset-set : (bits : List Bool) (k : ℕ) → k < length bits → get_or bits k false ≡ false → count_by not (set bits k true) + 1 ≡ count_by not bits
unset-set bits k h e =
    let s = sum_by-set (λ b. cond (not b) 1 0) bits k true false h in
    let t : ◌≡◌ {A = ℕ} (cond (not (get_or bits k false)) 1 0) 1 = ap (λ b. cond (not b) 1 0) e in
    omega (arith, s, t)

only : (b c : ℕ) → Contains (b ∷ []) c → c ≡ b
only b c h = elim (cases_eq h.0 0) [
  | inl z ↦ sym (ap (λ k. get_or (b ∷ []) k c) (sym z) ∙ h.2)
  | inr nz ↦ absurd (omega (arith, h.1))
]

-- a point that is marked now, and is to be visited
pub Reaches-one : (p : ℕ) (old new : Search) → p < length old.bits.items → get_or old.bits.items p false ≡ false → new.bits.items ≡ set old.bits.items p true → new.pending.items ≡ old.pending.items ++ p ∷ [] → Reaches (p ∷ []) old new
Reaches-one p old new inside unset e w = record {
  len = ap length e ∙ length-set old.bits.items p true;
  kept = λ v h. subst (λ bits. IsSet bits v) (sym e) (IsSet-kept old.bits.items p v inside h);
  marked = λ v h. subst (λ x. IsMarked new x) (sym (only p v h)) now;
  fresh = λ v h. ⊎_elim
      (λ (same : v ≡ p). inr (subst (λ x. Contains (p ∷ []) x) (sym same) (Contains-get_or (p ∷ []) 0 0 (omega arith)), subst (λ l. Contains l v) (sym w) (subst (λ x. Contains (old.pending.items ++ p ∷ []) x) (sym same) (Contains-push old.pending.items p))))
      (λ (before : IsMarked old v). inl before)
      (IsSet-cases old.bits.items p v (subst (λ bits. IsSet bits v) e h));
  waiting = λ v h. subst (λ l. Contains l v) (sym w) (Contains-append_left old.pending.items (p ∷ []) v h);
  added = λ v h. ⊎_elim
      (λ (before : Contains old.pending.items v). inl before)
      (λ (same : p ≡ v). inr (subst (λ x. IsMarked new x) same now))
      (Contains-push_cases old.pending.items p v (subst (λ l. Contains l v) w h));
  work =
      let one = unset-set old.bits.items p inside unset in
      let marks : count_by not new.bits.items ≡ count_by not (set old.bits.items p true) = ap (count_by not) e in
      let more : length new.pending.items ≡ length old.pending.items + 1 = ap length w ∙ length_push old.pending.items p in
      omega (arith, one, marks, more);
}
  where
    now : IsMarked new p
    now = subst (λ bits. IsSet bits p) (sym e) (IsSet-set old.bits.items p inside)

-- nothing changes where the points are marked
pub Reaches-none : (points : List ℕ) (s : Search) → ((v : ℕ) → Contains points v → IsMarked s v) → Reaches points s s
Reaches-none points s h = record {
  len = refl;
  kept = λ v m. m;
  marked = h;
  fresh = λ v m. inl m;
  waiting = λ v m. m;
  added = λ v m. inl m;
  work = refl;
}

pub Reaches-none_one : (p : ℕ) (s : Search) → IsMarked s p → Reaches (p ∷ []) s s
Reaches-none_one p s h = Reaches-none (p ∷ []) s (λ v k. subst (λ x. IsMarked s x) (sym (only p v k)) h)

pub Reaches-nil : (s : Search) → Reaches [] s s
Reaches-nil s = Reaches-none [] s (λ v h. absurd (none_in v h))

-- one after another
pub Reaches-both : (xs ys : List ℕ) (a b c : Search) → Reaches xs a b → Reaches ys b c → Reaches (xs ++ ys) a c
Reaches-both xs ys a b c first second = record {
  len = second.len ∙ first.len;
  kept = λ x m. second.kept x (first.kept x m);
  marked = λ x h. ⊎_elim
      (λ (l : Contains xs x). second.kept x (first.marked x l))
      (λ (r : Contains ys x). second.marked x r)
      (Contains-append_cases xs ys x h);
  fresh = λ x m. ⊎_elim
      (λ (before : IsMarked b x). ⊎_elim
      (λ (old : IsMarked a x). inl old)
      (λ (new : Contains xs x × Contains b.pending.items x). inr (Contains-append_left xs ys x new.0, second.waiting x new.1))
      (first.fresh x before))
      (λ (new : Contains ys x × Contains c.pending.items x). inr (Contains-append_right xs ys x new.0, new.1))
      (second.fresh x m);
  waiting = λ x h. second.waiting x (first.waiting x h);
  added = λ x h. ⊎_elim
      (λ (before : Contains b.pending.items x). ⊎_elim
      (λ (old : Contains a.pending.items x). inl old)
      (λ (new : IsMarked b x). inr (second.kept x new))
      (first.added x before))
      (λ (new : IsMarked c x). inr new)
      (second.added x h);
  work = second.work ∙ first.work;
}

-- ---- the ends of passing arcs

module _ (arcs : List (ℕ × ℕ)) (passes : List Bool) where
  earlier : (i u v : ℕ) → Leads arcs passes i u v → Leads arcs passes (i + 1) u v
  earlier i u v k = record { arc = k.arc; is_arc = let h : k.arc < i = k.is_arc in omega arith; passes_on = k.passes_on; leaves = k.leaves; ends = k.ends }

  later : (i u v : ℕ) → Leads arcs passes (i + 1) u v → Leads arcs passes i u v ⊎ (IsSet passes i × (source arcs i ≡ u) × (target arcs i ≡ v))
  later i u v k =
      let h : k.arc < i + 1 = k.is_arc in ⊎_elim
      (λ (q : k.arc ≡ i). inr (subst (λ x. IsSet passes x) q k.passes_on, subst (λ x. source arcs x ≡ u) q k.leaves, subst (λ x. target arcs x ≡ v) q k.ends))
      (λ (ne : k.arc ≡ i → ⊥). inl (record { arc = k.arc; is_arc = omega arith; passes_on = k.passes_on; leaves = k.leaves; ends = k.ends }))
      (cases_eq k.arc i)

  pub AreEnds-start : (n : ℕ) (lists : List (List ℕ)) → lists ≡ replicate n [] → AreEnds arcs passes n 0 lists
  AreEnds-start n lists e = record {
    len = ap length e ∙ length-replicate n [];
    ends = λ u v h. (
      λ c. absurd (none_in v (subst (λ l. Contains l v) (ap (λ x. get_or x u []) e ∙ get_or-replicate n u [] [] h) c)),
      λ k. absurd (let h : k.arc < 0 = k.is_arc in omega arith),
    );
  }

  pub AreEnds-skip : (n i : ℕ) (lists : List (List ℕ)) → ¬ IsSet passes i → AreEnds arcs passes n i lists → AreEnds arcs passes n (i + 1) lists
  AreEnds-skip n i lists fails a = record {
    len = a.len;
    ends = λ u v h. (
      λ c. earlier i u v ((a.ends u v h).0 c),
      λ k. ⊎_elim
          (λ (old : Leads arcs passes i u v). (a.ends u v h).1 old)
          (λ (new : IsSet passes i × (source arcs i ≡ u) × (target arcs i ≡ v)). absurd (fails new.0))
          (later i u v k),
    );
  }

  pub AreEnds-push : (n i : ℕ) (lists : List (List ℕ)) (list : List ℕ) → source arcs i < n → IsSet passes i → list ≡ get_or lists (source arcs i) [] ++ target arcs i ∷ [] → AreEnds arcs passes n i lists → AreEnds arcs passes n (i + 1) (set lists (source arcs i) list)
  AreEnds-push n i lists list inside passing e a =
      let at : source arcs i < length lists = let l : length lists ≡ n = a.len in omega arith in
      record {
        len = length-set lists (source arcs i) list ∙ a.len;
        ends = λ u v h. ⊎_elim
            (λ (q : u ≡ source arcs i).
            let now : get_or (set lists (source arcs i) list) u [] ≡ get_or lists u [] ++ target arcs i ∷ [] =
            ap (λ x. get_or (set lists (source arcs i) list) x []) q ∙ get_or-set_same lists (source arcs i) list [] at ∙ e ∙ ap (λ x. get_or lists x [] ++ target arcs i ∷ []) (sym q) in (
              λ c. ⊎_elim
                  (λ (old : Contains (get_or lists u []) v). earlier i u v ((a.ends u v h).0 old))
                  (λ (new : target arcs i ≡ v). record { arc = i; is_arc = omega arith; passes_on = passing; leaves = sym q; ends = new })
                  (Contains-push_cases (get_or lists u []) (target arcs i) v (subst (λ l. Contains l v) now c)),
              λ k. subst (λ l. Contains l v) (sym now) (⊎_elim
                  (λ (old : Leads arcs passes i u v). Contains-append_left (get_or lists u []) (target arcs i ∷ []) v ((a.ends u v h).1 old))
                  (λ (new : IsSet passes i × (source arcs i ≡ u) × (target arcs i ≡ v)). subst (λ x. Contains (get_or lists u [] ++ target arcs i ∷ []) x) new.2 (Contains-push (get_or lists u []) (target arcs i)))
                  (later i u v k)),
            ))
            (λ (ne : u ≡ source arcs i → ⊥).
            let same : get_or (set lists (source arcs i) list) u [] ≡ get_or lists u [] = get_or-set_other lists (source arcs i) u list [] ne in (
              λ c. earlier i u v ((a.ends u v h).0 (subst (λ l. Contains l v) same c)),
              λ k. subst (λ l. Contains l v) (sym same) (⊎_elim
                  (λ (old : Leads arcs passes i u v). (a.ends u v h).1 old)
                  (λ (new : IsSet passes i × (source arcs i ≡ u) × (target arcs i ≡ v)). absurd (ne (sym new.1)))
                  (later i u v k)),
            ))
            (cases_eq u (source arcs i));
      }

-- one list of ends grows by the end of a passing arc
pub AreEnds-more : {V : Type 0} (items : V → List ℕ) (arcs : List (ℕ × ℕ)) (passes : List Bool) (n i : ℕ) (lists : List V) (old new : V) → source arcs i < n → IsSet passes i → get_or lists (source arcs i) old ≡ old → items new ≡ items old ++ target arcs i ∷ [] → AreEnds arcs passes n i (map items lists) → AreEnds arcs passes n (i + 1) (map items (set lists (source arcs i) new))
AreEnds-more items arcs passes n i lists old new inside passing was pushed a =
    let at : source arcs i < length lists = let l : length (map items lists) ≡ n = a.len in let m = length-map lists items in omega arith in
    let here : get_or (map items lists) (source arcs i) [] ≡ items old = get_or-map items lists (source arcs i) old [] at ∙ ap items was in
    subst (AreEnds arcs passes n (i + 1)) (sym (map-set items lists (source arcs i) new))
    (AreEnds-push arcs passes n i (map items lists) (items new) inside passing (pushed ∙ ap (λ l. l ++ target arcs i ∷ []) (sym here)) a)

-- ---- the points whose bits are set

pub AreSet-start : (bits : List Bool) → AreSet bits 0 []
AreSet-start bits = record { are = λ v. (λ c. absurd (none_in v c), λ h. absurd (let l : v < 0 = h.0 in omega arith)) }

pub AreSet-push : (bits : List Bool) (i : ℕ) (points : List ℕ) → IsSet bits i → AreSet bits i points → AreSet bits (i + 1) (points ++ i ∷ [])
AreSet-push bits i points s a = record {
  are = λ v. (
    λ c. ⊎_elim
        (λ (old : Contains points v). let h : v < i = ((a.are v).0 old).0 in (omega arith, ((a.are v).0 old).1))
        (λ (new : i ≡ v). (omega arith, subst (λ x. IsSet bits x) new s))
        (Contains-push_cases points i v c),
    λ h. let l : v < i + 1 = h.0 in ⊎_elim
        (λ (q : v ≡ i). subst (λ x. Contains (points ++ i ∷ []) x) (sym q) (Contains-push points i))
        (λ (ne : v ≡ i → ⊥). Contains-append_left points (i ∷ []) v ((a.are v).1 (omega arith, h.1)))
        (cases_eq v i),
  );
}

pub AreSet-skip : (bits : List Bool) (i : ℕ) (points : List ℕ) → ¬ IsSet bits i → AreSet bits i points → AreSet bits (i + 1) points
AreSet-skip bits i points fails a = record {
  are = λ v. (
    λ c. let h : v < i = ((a.are v).0 c).0 in (omega arith, ((a.are v).0 c).1),
    λ h. let l : v < i + 1 = h.0 in ⊎_elim
        (λ (q : v ≡ i). absurd (fails (subst (λ x. IsSet bits x) q h.1)))
        (λ (ne : v ≡ i → ⊥). (a.are v).1 (omega arith, h.1))
        (cases_eq v i),
  );
}

-- ---- the whole search

pub set_inside : (bits : List Bool) (v : ℕ) → IsSet bits v → v < length bits
set_inside bits v h = elim (cases_lt v (length bits)) [
  | inl inside ↦ inside
  | inr past ↦ absurd (true≢false (sym h ∙ get_or_past bits v false past))
]

module _ (arcs : List (ℕ × ℕ)) (passes seeds : List Bool) where
  -- only the seeds are marked, and each is to be visited
  pub Searching-start : (s : Search) → s.bits.items ≡ seeds → AreSet seeds (length seeds) s.pending.items → Searching arcs passes seeds s
  Searching-start s same begun = record {
    len = ap length same;
    seeded = λ v h. subst (λ bits. IsSet bits v) (sym same) h;
    sound = λ v m. SpreadsTo-seed arcs passes seeds v (subst (λ bits. IsSet bits v) same m);
    waiting = λ v h. subst (λ bits. IsSet bits v) (sym same) ((begun.are v).0 h).1;
    closed = λ v m. let h = subst (λ bits. IsSet bits v) same m in inl ((begun.are v).1 (set_inside seeds v h, h));
  }

  -- one more point is visited
  pub Searching-step : (u : ℕ) (ends : List ℕ) (s r t : Search) → r.bits.items ≡ s.bits.items → s.pending.items ≡ r.pending.items ++ u ∷ [] → ((v : ℕ) → Contains ends v ↔ Leads arcs passes (length arcs) u v) → Reaches ends r t → Searching arcs passes seeds s → Searching arcs passes seeds t
  Searching-step u ends s r t same popped are reaches k =
      let here : SpreadsTo arcs passes seeds u = k.sound u (k.waiting u (subst (λ l. Contains l u) (sym popped) (Contains-push r.pending.items u))) in
      let before : (v : ℕ) → IsMarked r v → IsMarked s v = λ v m. subst (λ bits. IsSet bits v) same m in
      let stays : (v : ℕ) → IsMarked s v → IsMarked t v = λ v m. reaches.kept v (subst (λ bits. IsSet bits v) (sym same) m) in
      record {
        len = reaches.len ∙ (ap length same ∙ k.len);
        seeded = λ v h. stays v (k.seeded v h);
        sound = λ v m. ⊎_elim
            (λ (old : IsMarked r v). k.sound v (before v old))
            (λ (new : Contains ends v × Contains t.pending.items v).
            let l : Leads arcs passes (length arcs) u v = (are v).0 new.0 in
            subst (λ x. SpreadsTo arcs passes seeds x) l.ends (SpreadsTo-step arcs passes seeds l.arc l.is_arc l.passes_on (subst (λ x. SpreadsTo arcs passes seeds x) (sym l.leaves) here)))
            (reaches.fresh v m);
        waiting = λ v h. ⊎_elim
            (λ (old : Contains r.pending.items v). stays v (k.waiting v (subst (λ l. Contains l v) (sym popped) (Contains-append_left r.pending.items (u ∷ []) v old))))
            (λ (new : IsMarked t v). new)
            (reaches.added v h);
        closed = λ v m. ⊎_elim
            (λ (old : IsMarked r v). ⊎_elim
            (λ (waits : Contains s.pending.items v). ⊎_elim
            (λ (still : Contains r.pending.items v). inl (reaches.waiting v still))
            (λ (now : u ≡ v). inr (λ w l. reaches.marked w ((are w).1 (subst (λ x. Leads arcs passes (length arcs) x w) (sym now) l))))
            (Contains-push_cases r.pending.items u v (subst (λ l. Contains l v) popped waits)))
            (λ (followed : IsFollowed arcs passes s v). inr (λ w l. stays w (followed w l)))
            (k.closed v (before v old)))
            (λ (new : Contains ends v × Contains t.pending.items v). inl new.1)
            (reaches.fresh v m);
      }

  -- a path of passing arcs stays with the marked points once each of them is followed
  stays_marked : (s : Search) → ((v : ℕ) → IsMarked s v → IsFollowed arcs passes s v) → (u : ℕ) (path : List ℕ) (v : ℕ) → IsMarked s u → IsPath arcs u path v → AllSet passes path → IsMarked s v
  stays_marked s closed u [] v m h p = subst (λ x. IsMarked s x) h m
  stays_marked s closed u (e ∷ path) v m h p =
      stays_marked s closed (target arcs e) path v (closed u m (target arcs e) (record { arc = e; is_arc = h.0; passes_on = p.0; leaves = h.1; ends = refl })) h.2 p.1

  -- nothing is left to visit
  pub Searching-end : (s : Search) → s.pending.items ≡ [] → Searching arcs passes seeds s → (v : ℕ) → IsMarked s v ↔ SpreadsTo arcs passes seeds v
  Searching-end s done k v = (k.sound v, λ r. stays_marked s followed r.seed r.path v (k.seeded r.seed r.seeded) r.leads r.passing)
    where
      followed : (u : ℕ) → IsMarked s u → IsFollowed arcs passes s u
      followed u m = ⊎_elim
          (λ (waits : Contains s.pending.items u). absurd (none_in u (subst (λ l. Contains l u) done waits)))
          (λ (h : IsFollowed arcs passes s u). h)
          (k.closed u m)

  -- a point that is to be visited is one of the graph
  pub popped_inside : (s : Search) (rest : List ℕ) (u : ℕ) → s.pending.items ≡ rest ++ u ∷ [] → Searching arcs passes seeds s → u < length s.bits.items
  popped_inside s rest u popped k = set_inside s.bits.items u (k.waiting u (subst (λ l. Contains l u) (sym popped) (Contains-push rest u)))

-- the ends of passing arcs from a point are points
pub ends_within : (arcs : List (ℕ × ℕ)) (passes : List Bool) (n u : ℕ) (ends : List ℕ) → ArcsWithin arcs n → ((v : ℕ) → Contains ends v ↔ Leads arcs passes (length arcs) u v) → All (λ v. v < n) ends
ends_within arcs passes n u ends within are k d h =
    let l = (are (get_or ends k d)).0 (Contains-get_or ends k d h) in
    subst (λ x. x < n) l.ends (within l.arc l.is_arc).1

-- what is read at a point from the lists of all points
pub ends_read : {V : Type 0} (items : V → List ℕ) (arcs : List (ℕ × ℕ)) (passes : List Bool) (n u : ℕ) (lists : List V) (list : V) (ends : List ℕ) → u < length lists → list ≡ get_or lists u list → ends ≡ items list → AreEnds arcs passes n (length arcs) (map items lists) → (v : ℕ) → Contains ends v ↔ Leads arcs passes (length arcs) u v
ends_read items arcs passes n u lists list ends inside read same a v =
    let m : length (map items lists) ≡ length lists = length-map lists items in
    let len : length (map items lists) ≡ n = a.len in
    subst (λ l. Contains l v ↔ Leads arcs passes (length arcs) u v) (get_or-map items lists u list [] inside ∙ ap items (sym read) ∙ sym same) (a.ends u v (omega (arith, inside, m, len)))
