-- How the counts of arcs go down, and what the search then knows.
use Rattle.std.proofs.Common.{◌≡◌, ◌≢◌, ◌<◌, ◌≤◌, ◌+◌, ◌==◌, ◌↔◌, ◌⊎◌, ℕ, zero, suc, Bool, true, false, not, cond, List, [], ◌∷◌, ◌++◌, All, length, get_or, set, take, map, replicate, refl, sym, ap, ◌∙◌, subst, arith, inl, inr, ⊎_elim, get_or-set_same, get_or-set_other, Contains, append-nil}
use Rattle.std.specs.List.{sum_by}
use Rattle.std.proofs.lemmas.List.{length-set, length_push, length-map, length-replicate, get_or-map, get_or-replicate, get_or_past, map-set, take_more}
use Rattle.std.proofs.lemmas.List.Sums.{sum_by-set}
use Rattle.std.proofs.lemmas.List.Elements.{Contains-append_left, Contains-push, Contains-push_cases}
use Rattle.std.proofs.lemmas.Bool.{cases_eq, cases_Bool, cases_lt, eq-eqb, ne_eqb, true≢false}
use Rattle.expressions.specs.declared.syntax.Event.{Event}
use Rattle.expressions.specs.declared.syntax.Event.TheVariants.{Occurs, Kills, Bars, Passes}
use Rattle.flow_paths.specs.Paths.{source, target, ArcsWithin}
use Rattle.flow_paths.specs.Inevitable.{LeadsAllTo}
use Rattle.flow_paths.specs.Spreads.{IsSet}
use Rattle.flow_paths.proofs.PathLemmas.{IsSet-set, IsSet-kept, IsSet-cases}
use Rattle.placement.specs.Placements.{IsInevitable}
use Rattle.local_sets.specs.declared.counting.Search.{Search}
use Rattle.local_sets.specs.Counting.{event_at, EventAt, times, sources_where, unmarked, AreSources, AreCounts, IsFree, IsStart, AreFree, AreStarts, left_at, CountsDown, Counting, IsCounting, IsCountingWith}
use Rattle.local_sets.proofs.InevitableLemmas.{inevitable_step, inevitable_in_closed}
use Rattle.local_sets.proofs.TimesLemmas.{times-append, times-most, times-here, one_at, one_same, one_other, Begins, source_begins, begins_source, sources-append, sources_all, times-marked, times-next}

none_in : (x : ℕ) → ¬ Contains [] x
none_in x c = let h : c.0 < 0 = c.1 in absurd (omega arith)

-- inside a list the default doesn't matter
get_or_default : {X : Type 0} (xs : List X) (i : ℕ) (d e : X) → i < length xs → get_or xs i d ≡ get_or xs i e
get_or_default [] i d e h = absurd (omega (arith, h))
get_or_default (x ∷ xs) zero d e h = refl
get_or_default (x ∷ xs) (suc i) d e h = get_or_default xs i d e (omega (arith, h))

-- ---- counting down

module _ (free : List Bool) where
  pub CountsDown-nil : (s : Search) → CountsDown free [] s s
  CountsDown-nil s = record {
    bits = refl;
    len = refl;
    left = λ v. omega arith;
    waiting = λ v c. c;
    added = λ v c. inl c;
    ready = λ v h. absurd (omega (arith, h));
    work = omega arith;
  }

  -- the count of one point is one less
  module _ (p : ℕ) (old new : Search) (inside : p < length old.left.items) (some : 0 < left_at old p) (value : ℕ) (one_less : value + 1 ≡ left_at old p) (same : new.bits.items ≡ old.bits.items) (is : new.left.items ≡ set old.left.items p value) where
    here : left_at new p ≡ value
    here = ap (λ xs. get_or xs p 0) is ∙ get_or-set_same old.left.items p value 0 inside

    left_now : (v : ℕ) → left_at new v + times v (p ∷ []) ≡ left_at old v
    left_now v =
        ⊎_elim
        (λ (e : v ≡ p). subst (λ x. left_at new x + times x (p ∷ []) ≡ left_at old x) (sym e) (omega (arith, here, one_less, one_same p p refl)))
        (λ (ne : v ≡ p → ⊥).
        let other : left_at new v ≡ left_at old v = ap (λ xs. get_or xs v 0) is ∙ get_or-set_other old.left.items p v value 0 ne in
        omega (arith, other, one_other p v (λ q. ne (sym q))))
        (cases_eq v p)

    less : sum_by (λ n. n) new.left.items + 1 ≡ sum_by (λ n. n) old.left.items
    less = let s = sum_by-set (λ n. n) old.left.items p value 0 inside in omega (arith, s, one_less, ap (λ xs. sum_by (λ n. n) xs) is)

    is_here : (v : ℕ) → 0 < times v (p ∷ []) → v ≡ p
    is_here v h = ⊎_elim (λ (e : p ≡ v). sym e) (λ (ne : p ≡ v → ⊥). absurd (omega (arith, h, one_other p v ne))) (cases_eq p v)

    pub CountsDown-push : IsSet free p → value ≡ 0 → new.pending.items ≡ old.pending.items ++ p ∷ [] → CountsDown free (p ∷ []) old new
    CountsDown-push f z pushed = record {
      bits = same;
      len = ap length is ∙ length-set old.left.items p value;
      left = left_now;
      waiting = λ v c. subst (λ l. Contains l v) (sym pushed) (Contains-append_left old.pending.items (p ∷ []) v c);
      added = λ v c. ⊎_elim
          (λ (before : Contains old.pending.items v). inl before)
          (λ (e : p ≡ v). inr (subst (λ x. IsSet free x) e f, omega (arith, one_same p v e), subst (λ x. left_at new x ≡ 0) e (here ∙ z)))
          (Contains-push_cases old.pending.items p v (subst (λ l. Contains l v) pushed c));
      ready = λ v h _ _. subst (λ l. Contains l v) (sym pushed) (subst (λ x. Contains (old.pending.items ++ p ∷ []) x) (sym (is_here v h)) (Contains-push old.pending.items p));
      work = omega (arith, less, ap length pushed, length_push old.pending.items p);
    }

    pub CountsDown-stay : (IsSet free p → value ≡ 0 → ⊥) → new.pending.items ≡ old.pending.items → CountsDown free (p ∷ []) old new
    CountsDown-stay fails kept = record {
      bits = same;
      len = ap length is ∙ length-set old.left.items p value;
      left = left_now;
      waiting = λ v c. subst (λ l. Contains l v) (sym kept) c;
      added = λ v c. inl (subst (λ l. Contains l v) kept c);
      ready = λ v h f z. absurd (fails (subst (λ x. IsSet free x) (is_here v h) f) (sym here ∙ subst (λ x. left_at new x ≡ 0) (is_here v h) z));
      work = omega (arith, less, ap length kept);
    }

  -- one after another
  pub CountsDown-both : (xs ys : List ℕ) (a b c : Search) → CountsDown free xs a b → CountsDown free ys b c → CountsDown free (xs ++ ys) a c
  CountsDown-both xs ys a b c first second = record {
    bits = second.bits ∙ first.bits;
    len = second.len ∙ first.len;
    left = λ v. omega (arith, first.left v, second.left v, times-append v xs ys);
    waiting = λ v h. second.waiting v (first.waiting v h);
    added = λ v h. ⊎_elim
        (λ (before : Contains b.pending.items v). ⊎_elim
        (λ (old : Contains a.pending.items v). inl old)
        (λ (new : IsSet free v × (0 < times v xs) × (left_at b v ≡ 0)). inr (new.0, omega (arith, new.1, times-append v xs ys), omega (arith, new.2, second.left v)))
        (first.added v before))
        (λ (new : IsSet free v × (0 < times v ys) × (left_at c v ≡ 0)). inr (new.0, omega (arith, new.1, times-append v xs ys), new.2))
        (second.added v h);
    ready = λ v h f z. ⊎_elim
        (λ (l : 0 < times v ys). second.ready v l f z)
        (λ (r : times v ys ≤ 0). second.waiting v (first.ready v (omega (arith, h, r, times-append v xs ys)) f (omega (arith, z, r, second.left v))))
        (cases_lt 0 (times v ys));
    work = omega (arith, first.work, second.work);
  }

-- ---- the lists before the search

module _ (events : List Event) where
  pub AreStarts-push : (i : ℕ) (points : List ℕ) → IsStart i (event_at events i) → AreStarts events i points → AreStarts events (i + 1) (points ++ i ∷ [])
  AreStarts-push i points s a = record {
    are = λ v. (
      λ c. ⊎_elim
          (λ (old : Contains points v). let h : v < i = ((a.are v).0 old).0 in (omega arith, ((a.are v).0 old).1))
          (λ (new : i ≡ v). (omega arith, subst (λ x. IsStart x (event_at events x)) new s))
          (Contains-push_cases points i v c),
      λ h. let l : v < i + 1 = h.0 in ⊎_elim
          (λ (q : v ≡ i). subst (λ x. Contains (points ++ i ∷ []) x) (sym q) (Contains-push points i))
          (λ (ne : v ≡ i → ⊥). Contains-append_left points (i ∷ []) v ((a.are v).1 (omega arith, h.1)))
          (cases_eq v i),
    );
  }

  pub AreStarts-skip : (i : ℕ) (points : List ℕ) → ¬ IsStart i (event_at events i) → AreStarts events i points → AreStarts events (i + 1) points
  AreStarts-skip i points fails a = record {
    are = λ v. (
      λ c. let h : v < i = ((a.are v).0 c).0 in (omega arith, ((a.are v).0 c).1),
      λ h. let l : v < i + 1 = h.0 in ⊎_elim
          (λ (q : v ≡ i). absurd (fails (subst (λ x. IsStart x (event_at events x)) q h.1)))
          (λ (ne : v ≡ i → ⊥). (a.are v).1 (omega arith, h.1))
          (cases_eq v i),
    );
  }

  pub AreStarts-start : AreStarts events 0 []
  AreStarts-start = record { are = λ v. (λ c. absurd (none_in v c), λ h. absurd (let l : v < 0 = h.0 in omega arith)) }

-- ---- the search

kind_of : (e : Event) → (e ≡ Occurs) ⊎ ((e ≡ Passes) ⊎ ((e ≡ Kills) ⊎ (e ≡ Bars)))
kind_of Occurs = inl refl
kind_of Kills = inr (inr (inl refl))
kind_of Bars = inr (inr (inr refl))
kind_of Passes = inr (inl refl)

module _ (arcs : List (ℕ × ℕ)) (events : List Event) where
  abbrev Sure : ℕ → Type 0
  Sure v = IsInevitable arcs (EventAt events) v

  abbrev O : ℕ → Type 0
  O w = EventAt events w Occurs

  abbrev S : ℕ → Type 0
  S w = EventAt events w Kills ⊎ EventAt events w Bars

  unset_all : (n k : ℕ) → get_or (replicate n false) k false ≡ false
  unset_all n k =
      elim (cases_lt k n) [
        | inl h ↦ get_or-replicate n k false false h
        | inr h ↦ get_or_past (replicate n false) k false (let l : length (replicate n false) ≡ n = length-replicate n false in omega arith)
      ]

  pub Counting-start : (bits : List Bool) (left pending : List ℕ) → bits ≡ replicate (length events) false → AreCounts (length events) arcs left → AreStarts events (length events) pending → Counting arcs events bits left pending
  Counting-start bits left pending none counts starts =
      let unset : (v : ℕ) → get_or bits v false ≡ false = λ v. ap (λ b. get_or b v false) none ∙ unset_all (length events) v in
      let fails : (v : ℕ) → ¬ IsSet bits v = λ v s. true≢false (sym s ∙ unset v) in
      record {
        len = ap length none ∙ length-replicate (length events) false;
        left_len = counts.len;
        left_are = λ v h. counts.are v h ∙ ap (times v) (sym (sources_all (unmarked bits) (λ w. ap not (unset w)) arcs));
        sound = λ v s. absurd (fails v s);
        waiting = λ v c. let h = (starts.are v).0 c in (h.0, (0, h.1));
        starting = λ v l h. inr ((starts.are v).1 (l, h));
        closed = λ v l h leads. absurd (fails (target arcs leads.arc) (leads.all leads.arc leads.is_arc leads.leaves));
      }

  -- a point that is marked already is no longer to be visited
  pub Counting-skip : (p : ℕ) (bits : List Bool) (left pending : List ℕ) → IsSet bits p → Counting arcs events bits left (pending ++ p ∷ []) → Counting arcs events bits left pending
  Counting-skip p bits left pending marked k =
      let keep : (v : ℕ) → IsSet bits v ⊎ Contains (pending ++ p ∷ []) v → IsSet bits v ⊎ Contains pending v =
      λ v h. ⊎_elim
      (λ (m : IsSet bits v). inl m)
      (λ (c : Contains (pending ++ p ∷ []) v). ⊎_elim (λ (old : Contains pending v). inr old) (λ (e : p ≡ v). inl (subst (λ x. IsSet bits x) e marked)) (Contains-push_cases pending p v c))
      h in
      record {
        len = k.len;
        left_len = k.left_len;
        left_are = k.left_are;
        sound = k.sound;
        waiting = λ v c. k.waiting v (Contains-append_left pending (p ∷ []) v c);
        starting = λ v l h. keep v (k.starting v l h);
        closed = λ v l h leads. keep v (k.closed v l h leads);
      }

  no_stop : (v : ℕ) → IsFree v (event_at events v) → ¬ S v
  no_stop v f s = ⊎_elim (λ (k : event_at events v ≡ Kills). let e : Passes ≡ Kills = sym f.1 ∙ k in cc) (λ (k : event_at events v ≡ Bars). let e : Passes ≡ Bars = sym f.1 ∙ k in cc) s

  -- where no arc to an unmarked point is left, all lead to marked ones
  leads_marked : (bits : List Bool) (v : ℕ) → times v (sources_where (unmarked bits) arcs) ≡ 0 → (e : ℕ) → e < length arcs → source arcs e ≡ v → IsSet bits (target arcs e)
  leads_marked bits v z e h s =
      elim (cases_Bool (get_or bits (target arcs e) false)) [
        | inl t ↦ t
        | inr f ↦ absurd (let some = begins_source (unmarked bits) arcs v e h s (ap not f) in omega (arith, some, z))
      ]

  none_left : (bits : List Bool) (v : ℕ) → ((e : ℕ) → e < length arcs → source arcs e ≡ v → IsSet bits (target arcs e)) → times v (sources_where (unmarked bits) arcs) ≡ 0
  none_left bits v all =
      elim (cases_lt 0 (times v (sources_where (unmarked bits) arcs))) [
        | inl some ↦
            let b : Begins (unmarked bits) arcs v = source_begins (unmarked bits) arcs v some in
            let set_there : get_or bits (target arcs b.arc) false ≡ true = all b.arc b.is_arc b.leaves in
            absurd (true≢false (sym b.ends ∙ ap not set_there))
        | inr none ↦ omega (arith, none)
      ]

  -- a point is marked, and the arcs to it are counted down
  module _ (p : ℕ) (old : Search) (fresh : get_or old.bits.items p false ≡ false) (k : IsCountingWith p arcs events old) where
    inside : p < length old.bits.items
    inside = let w = (k.waiting p (Contains-push old.pending.items p)).0 in omega (arith, w, k.len)

    pub counts_enough : (v : ℕ) → v < length old.left.items → times v (sources_where (λ x. x == p) arcs) ≤ left_at old v
    counts_enough v h =
        let there : v < length events = omega (arith, h, k.left_len) in
        let l = times-marked old.bits.items p inside fresh v arcs in
        omega (arith, l, k.left_are v there)

    pub sources_within : ArcsWithin arcs (length events) → All (λ v. v < length old.left.items) (sources_where (λ x. x == p) arcs)
    sources_within within i d h =
        let u = get_or (sources_where (λ x. x == p) arcs) i d in
        let read : get_or (sources_where (λ x. x == p) arcs) i 0 ≡ u = get_or_default (sources_where (λ x. x == p) arcs) i 0 d h in
        let b : Begins (λ x. x == p) arcs u = source_begins (λ x. x == p) arcs u (times-here u (sources_where (λ x. x == p) arcs) i h read) in
        let there : u < length events = subst (λ x. x < length events) b.leaves (within b.arc b.is_arc).0 in
        omega (arith, there, k.left_len)

  module _ (p : ℕ) (free : List Bool) (old new s : Search) (fresh : get_or old.bits.items p false ≡ false) (is_free : AreFree events (length events) free) (marked : s.bits.items ≡ set old.bits.items p true) (left_kept : s.left.items ≡ old.left.items) (pending_kept : s.pending.items ≡ old.pending.items) (k : IsCountingWith p arcs events old) where
    there_now : p < length old.bits.items
    there_now = inside p old fresh k

    pub Counting-step : CountsDown free (sources_where (λ x. x == p) arcs) s new → ArcsWithin arcs (length events) → IsCounting arcs events new
    Counting-step down within =
        let bits_are : new.bits.items ≡ set old.bits.items p true = down.bits ∙ marked in
        let before : (v : ℕ) → IsSet old.bits.items v → IsSet new.bits.items v = λ v m. subst (λ b. IsSet b v) (sym bits_are) (IsSet-kept old.bits.items p v there_now m) in
        let now : IsSet new.bits.items p = subst (λ b. IsSet b p) (sym bits_are) (IsSet-set old.bits.items p there_now) in
        let left_are : (v : ℕ) → v < length events → left_at new v ≡ times v (sources_where (unmarked new.bits.items) arcs) =
        λ v h.
        let l = times-marked old.bits.items p there_now fresh v arcs in
        let same = ap (λ b. times v (sources_where (unmarked b) arcs)) bits_are in
        omega (arith, l, same, down.left v, k.left_are v h, ap (λ xs. get_or xs v 0) left_kept) in
        let sound : (v : ℕ) → IsSet new.bits.items v → Sure v =
        λ v m. ⊎_elim
        (λ (e : v ≡ p). subst Sure (sym e) (k.waiting p (Contains-push old.pending.items p)).1)
        (λ (o : IsSet old.bits.items v). k.sound v o)
        (IsSet-cases old.bits.items p v (subst (λ b. IsSet b v) bits_are m)) in
        let still : (v : ℕ) → Contains old.pending.items v → Contains new.pending.items v = λ v c. down.waiting v (subst (λ l. Contains l v) (sym pending_kept) c) in
        let keep : (v : ℕ) → IsSet old.bits.items v ⊎ Contains (old.pending.items ++ p ∷ []) v → IsSet new.bits.items v ⊎ Contains new.pending.items v =
        λ v h. ⊎_elim
        (λ (m : IsSet old.bits.items v). inl (before v m))
        (λ (c : Contains (old.pending.items ++ p ∷ []) v). ⊎_elim (λ (o : Contains old.pending.items v). inr (still v o)) (λ (e : p ≡ v). inl (subst (λ x. IsSet new.bits.items x) e now)) (Contains-push_cases old.pending.items p v c))
        h in
        record {
          len = ap length bits_are ∙ (length-set old.bits.items p true ∙ k.len);
          left_len = down.len ∙ (ap length left_kept ∙ k.left_len);
          left_are = left_are;
          sound = sound;
          waiting = λ v c. ⊎_elim
              (λ (o : Contains s.pending.items v). k.waiting v (Contains-append_left old.pending.items (p ∷ []) v (subst (λ l. Contains l v) pending_kept o)))
              (λ (n : IsSet free v × (0 < times v (sources_where (λ x. x == p) arcs)) × (left_at new v ≡ 0)).
              let b : Begins (λ x. x == p) arcs v = source_begins (λ x. x == p) arcs v n.1 in
              let there : v < length events = subst (λ x. x < length events) b.leaves (within b.arc b.is_arc).0 in
              let f : IsFree v (event_at events v) = (is_free.are v there).0 n.0 in
              let all = leads_marked new.bits.items v (sym (left_are v there) ∙ n.2) in
              (there, inevitable_step arcs O S v f.0 (no_stop v f) (record { arc = b.arc; is_arc = b.is_arc; leaves = b.leaves; all = λ e h q. sound (target arcs e) (all e h q) })))
              (down.added v c);
          starting = λ v l h. keep v (k.starting v l h);
          closed = λ v l f leads.
              let zero_left : left_at new v ≡ 0 = left_are v l ∙ none_left new.bits.items v leads.all in
              elim (cases_lt 0 (times v (sources_where (λ x. x == p) arcs))) [
                | inl some ↦ inr (down.ready v some ((is_free.are v l).1 f) zero_left)
                | inr none ↦ keep v (k.closed v l f (record {
                  arc = leads.arc;
                  is_arc = leads.is_arc;
                  leaves = leads.leaves;
                  all = leads_marked old.bits.items v (let m = times-marked old.bits.items p there_now fresh v arcs in let same = ap (λ b. times v (sources_where (unmarked b) arcs)) bits_are in omega (arith, m, same, none, zero_left, left_are v l));
                }))
              ];
        }

  -- once none is to be visited, the inevitable points are marked
  module _ (bits : List Bool) (left pending : List ℕ) (done : pending ≡ []) (k : Counting arcs events bits left pending) where
    set_of : (w : ℕ) → IsSet bits w ⊎ Contains pending w → IsSet bits w
    set_of w m = ⊎_elim (λ (s : IsSet bits w). s) (λ (c : Contains pending w). absurd (none_in w (subst (λ l. Contains l w) done c))) m

    by_event : (w : ℕ) → w < length events → w ≢ 0 → ¬ S w → LeadsAllTo arcs (IsSet bits) w → IsSet bits w
    by_event w l s goes leads =
        elim (kind_of (event_at events w)) [
          | inl o ↦ set_of w (k.starting w l (s, o))
          | inr rest ↦ elim rest [
            | inl p ↦ set_of w (k.closed w l (s, p) leads)
            | inr stops ↦ absurd (goes stops)
          ]
        ]

    pub Counting-end : ArcsWithin arcs (length events) → (v : ℕ) → v < length events → IsSet bits v ↔ Sure v
    Counting-end within v h = (
      k.sound v,
      λ i. inevitable_in_closed arcs O S (length events) within (IsSet bits)
          (λ w l s o. set_of w (k.starting w l (s, o)))
          by_event
          i.0 v h i.1,
    )

-- ---- the lists of sources and the counts

pub AreSources-start : (n : ℕ) (lists : List (List ℕ)) → lists ≡ replicate n [] → AreSources n [] lists
AreSources-start n lists e = record {
  len = ap length e ∙ length-replicate n [];
  are = λ w h. ap (λ x. get_or x w []) e ∙ get_or-replicate n w [] [] h;
}

one_source : (a : ℕ × ℕ) (w : ℕ) (b : Bool) → (a.1 == w) ≡ b → sources_where (λ x. x == w) (a ∷ []) ≡ cond b (a.0 ∷ []) []
one_source a w b e = ap (λ b. cond b (a.0 ∷ []) []) e

pub AreSources-push : (n : ℕ) (arcs : List (ℕ × ℕ)) (a : ℕ × ℕ) (lists : List (List ℕ)) (list : List ℕ) → a.1 < n → list ≡ get_or lists a.1 [] ++ a.0 ∷ [] → AreSources n arcs lists → AreSources n (arcs ++ a ∷ []) (set lists a.1 list)
AreSources-push n arcs a lists list inside e s =
    let at : a.1 < length lists = let l : length lists ≡ n = s.len in omega arith in
    record {
      len = length-set lists a.1 list ∙ s.len;
      are = λ w h. ⊎_elim
          (λ (q : a.1 ≡ w).
          ap (λ x. get_or (set lists a.1 list) x []) (sym q) ∙ get_or-set_same lists a.1 list [] at ∙ e
          ∙ ap (λ x. get_or lists x [] ++ a.0 ∷ []) q
          ∙ ap (λ l. l ++ a.0 ∷ []) (s.are w h)
          ∙ ap (λ l. sources_where (λ x. x == w) arcs ++ l) (sym (one_source a w true (eq-eqb a.1 w q)))
          ∙ sym (sources-append (λ x. x == w) arcs (a ∷ [])))
          (λ (ne : a.1 ≡ w → ⊥).
          get_or-set_other lists a.1 w list [] (λ q. ne (sym q)) ∙ s.are w h
          ∙ sym (append-nil (sources_where (λ x. x == w) arcs))
          ∙ ap (λ l. sources_where (λ x. x == w) arcs ++ l) (sym (one_source a w false (ne_eqb a.1 w ne)))
          ∙ sym (sources-append (λ x. x == w) arcs (a ∷ [])))
          (cases_eq a.1 w);
    }

pub AreSources-more : {V : Type 0} (items : V → List ℕ) (n : ℕ) (arcs : List (ℕ × ℕ)) (i : ℕ) (lists : List V) (old new : V) → i < length arcs → target arcs i < n → get_or lists (target arcs i) old ≡ old → items new ≡ items old ++ source arcs i ∷ [] → AreSources n (take i arcs) (map items lists) → AreSources n (take (i + 1) arcs) (map items (set lists (target arcs i) new))
AreSources-more items n arcs i lists old new h inside was pushed s =
    let at : target arcs i < length lists = let l : length (map items lists) ≡ n = s.len in let m = length-map lists items in omega arith in
    let here : get_or (map items lists) (target arcs i) [] ≡ items old = get_or-map items lists (target arcs i) old [] at ∙ ap items was in
    subst (λ xs. AreSources n xs (map items (set lists (target arcs i) new))) (sym (take_more arcs i (0, 0) h))
    (subst (AreSources n (take i arcs ++ get_or arcs i (0, 0) ∷ [])) (sym (map-set items lists (target arcs i) new))
    (AreSources-push n (take i arcs) (get_or arcs i (0, 0)) (map items lists) (items new) inside (pushed ∙ ap (λ l. l ++ source arcs i ∷ []) (sym here)) s))

pub AreCounts-start : (n : ℕ) (counts : List ℕ) → counts ≡ replicate n 0 → AreCounts n [] counts
AreCounts-start n counts e = record {
  len = ap length e ∙ length-replicate n 0;
  are = λ v h. ap (λ x. get_or x v 0) e ∙ get_or-replicate n v 0 0 h;
}

count_more : (v : ℕ) (arcs : List (ℕ × ℕ)) (a : ℕ × ℕ) → times v (map (λ a. a.0) (arcs ++ a ∷ [])) ≡ times v (map (λ a. a.0) arcs) + one_at a.0 v
count_more v [] a = omega arith
count_more v (b ∷ arcs) a = omega (arith, count_more v arcs a)

pub counts_most : (n : ℕ) (arcs : List (ℕ × ℕ)) (counts : List ℕ) (v : ℕ) → v < n → AreCounts n arcs counts → get_or counts v 0 ≤ length arcs
counts_most n arcs counts v h s = omega (arith, s.are v h, times-most v (map (λ a. a.0) arcs), length-map arcs (λ (a : ℕ × ℕ). a.0))

pub AreCounts-push : (n : ℕ) (arcs : List (ℕ × ℕ)) (a : ℕ × ℕ) (counts : List ℕ) (value : ℕ) → a.0 < n → value ≡ get_or counts a.0 0 + 1 → AreCounts n arcs counts → AreCounts n (arcs ++ a ∷ []) (set counts a.0 value)
AreCounts-push n arcs a counts value inside e s =
    let at : a.0 < length counts = let l : length counts ≡ n = s.len in omega arith in
    record {
      len = length-set counts a.0 value ∙ s.len;
      are = λ v h. ⊎_elim
          (λ (q : a.0 ≡ v).
          let now : get_or (set counts a.0 value) v 0 ≡ value = ap (λ x. get_or (set counts a.0 value) x 0) (sym q) ∙ get_or-set_same counts a.0 value 0 at in
          let was : get_or counts a.0 0 ≡ get_or counts v 0 = ap (λ x. get_or counts x 0) q in
          omega (arith, now, e, was, s.are v h, count_more v arcs a, one_same a.0 v q))
          (λ (ne : a.0 ≡ v → ⊥).
          let now : get_or (set counts a.0 value) v 0 ≡ get_or counts v 0 = get_or-set_other counts a.0 v value 0 (λ q. ne (sym q)) in
          omega (arith, now, s.are v h, count_more v arcs a, one_other a.0 v ne))
          (cases_eq a.0 v);
    }

pub AreCounts-more : (n : ℕ) (arcs : List (ℕ × ℕ)) (i : ℕ) (counts : List ℕ) (value : ℕ) → i < length arcs → source arcs i < n → value ≡ get_or counts (source arcs i) 0 + 1 → AreCounts n (take i arcs) counts → AreCounts n (take (i + 1) arcs) (set counts (source arcs i) value)
AreCounts-more n arcs i counts value h inside e s =
    subst (λ xs. AreCounts n xs (set counts (source arcs i) value)) (sym (take_more arcs i (0, 0) h))
    (AreCounts-push n (take i arcs) (get_or arcs i (0, 0)) counts value inside e s)

-- a point that is counted once more has something left
pub one_more : (points : List ℕ) (i : ℕ) → i < length points → (before now : ℕ) → times (get_or points i 0) points ≤ before → now + times (get_or points i 0) (take i points) ≡ before → 0 < now
one_more points i h before now enough counted = omega (arith, enough, counted, times-next points i h)

-- the list that a reference to an inner list reads
pub sources_read : {V : Type 0} (items : V → List ℕ) (arcs : List (ℕ × ℕ)) (n p : ℕ) (lists : List V) (at : V) (read : List ℕ) → p < length lists → at ≡ get_or lists p at → read ≡ items at → AreSources n arcs (map items lists) → read ≡ sources_where (λ x. x == p) arcs
sources_read items arcs n p lists at read h is value s =
    let inside : p < n = let l : length (map items lists) ≡ n = s.len in let m = length-map lists items in omega arith in
    value ∙ (ap items is ∙ (sym (get_or-map items lists p at [] h) ∙ s.are p inside))
