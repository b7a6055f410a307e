-- Paths that grow at their ends, and what one more edge does to validity and to counts.
use Rattle.std.proofs.Common.{◌≡◌, ◌≢◌, ℕ, ◌<◌, ◌+◌, true, false, cond, List, [], ◌∷◌, ◌++◌, length, refl, sym, ◌∙◌, subst, ap, ◌⊎◌, inl, inr, ⊎_elim, All, Contains, arith}
use Rattle.std.specs.Prelude.{sum_by, ◌==◌, ◌||◌}
use Rattle.std.specs.List.{list_any}
use Rattle.std.proofs.lemmas.Bool.{cases_eq, eq-eqb, ne_eqb, or_left, or_right}
use Rattle.std.proofs.lemmas.List.{append-nil, append_assoc, length-append}
use Rattle.std.proofs.lemmas.List.Elements.{All-nil, All-cons, All-head, All-tail, All-push, Contains-append_left, Contains-append_right, Contains-append_cases, Contains-push, Contains-push_cases}
use Rattle.std.proofs.lemmas.List.Sums.{sum_by-cons, sum_by-append}
use Rattle.expressions.specs.declared.syntax.Event.{Event}
use Rattle.expressions.specs.declared.syntax.Event.TheVariants.{Occurs, Kills as KillsIt, Bars, Passes}
use Rattle.flow_paths.specs.Paths.{source, target, IsPath, ArcsWithin, Place, at_point, on_edge, met, IsValid}
use Rattle.placement.specs.declared.placements.Placement.{Placement}
use Rattle.lazy_motion.specs.Optimality.{computations_at}
use Rattle.flow_paths.proofs.PathLemmas.{IsPath-append, IsPath-one}
use Rattle.flow_paths.proofs.Validity.{met-append}

pub occurs_or_not : (k : Event) → (k ≡ Occurs) ⊎ (k ≢ Occurs)
occurs_or_not Occurs = inl refl
occurs_or_not KillsIt = inr (λ h. cc)
occurs_or_not Bars = inr (λ h. cc)
occurs_or_not Passes = inr (λ h. cc)

pub kills_or_not : (k : Event) → (k ≡ KillsIt) ⊎ (k ≢ KillsIt)
kills_or_not Occurs = inr (λ h. cc)
kills_or_not KillsIt = inl refl
kills_or_not Bars = inr (λ h. cc)
kills_or_not Passes = inr (λ h. cc)

-- the list holds v and its test says so, or neither
pub contains_or_not : (xs : List ℕ) (v : ℕ) → ((list_any (λ w. w == v) xs ≡ true) × Contains xs v) ⊎ ((list_any (λ w. w == v) xs ≡ false) × (Contains xs v → ⊥))
contains_or_not [] v = inr (refl, λ c. let h : c.0 < 0 = c.1 in absurd (omega arith))
contains_or_not (x ∷ xs) v =
    ⊎_elim
    (λ (e : x ≡ v). inl (or_left (x == v) (list_any (λ w. w == v) xs) (eq-eqb x v e), subst (Contains (x ∷ xs)) e (Contains-append_left (x ∷ []) xs x (Contains-push [] x))))
    (λ (ne : x ≡ v → ⊥). ⊎_elim
    (λ (t : (list_any (λ w. w == v) xs ≡ true) × Contains xs v). inl (or_right (x == v) (list_any (λ w. w == v) xs) t.0, Contains-append_right (x ∷ []) xs v t.1))
    (λ (f : (list_any (λ w. w == v) xs ≡ false) × (Contains xs v → ⊥)). inr (
      ap (λ b. b || list_any (λ w. w == v) xs) (ne_eqb x v ne) ∙ f.0,
      λ c. ⊎_elim
          (λ (h : Contains (x ∷ []) v). ⊎_elim (λ (n : Contains [] v). let l : n.0 < 0 = n.1 in absurd (omega arith)) ne (Contains-push_cases [] x v h))
          f.1
          (Contains-append_cases (x ∷ []) xs v c),
    ))
    (contains_or_not xs v))
    (cases_eq x v)

-- what holds of the path of no edges, and of each path with one more edge, holds of all paths from Start
pub path_induction : (arcs : List (ℕ × ℕ)) (P : List ℕ → ℕ → Type 0) → P [] 0
    → ((path : List ℕ) (e : ℕ) → e < length arcs → IsPath arcs 0 path (source arcs e) → P path (source arcs e) → P (path ++ e ∷ []) (target arcs e))
    → (path : List ℕ) (v : ℕ) → IsPath arcs 0 path v → P path v
path_induction arcs P start step path v h = grow [] 0 path v refl start h
  where
    grow : (before : List ℕ) (u : ℕ) (rest : List ℕ) (v : ℕ) → IsPath arcs 0 before u → P before u → IsPath arcs u rest v → P (before ++ rest) v
    grow before u [] v h p k = subst (λ x. P x v) (sym (append-nil before)) (subst (P before) k p)
    grow before u (e ∷ rest) v h p k =
        let to_source : IsPath arcs 0 before (source arcs e) = subst (IsPath arcs 0 before) (sym k.1) h in
        subst (λ x. P x v) (append_assoc before (e ∷ []) rest)
        (grow (before ++ e ∷ []) (target arcs e) rest v
        (IsPath-append arcs 0 before (source arcs e) (e ∷ []) (target arcs e) to_source (IsPath-one arcs e k.0))
        (step before e k.0 to_source (subst (P before) (sym k.1) p))
        k.2)

pub ends_within : (arcs : List (ℕ × ℕ)) (n : ℕ) → 0 < n → ArcsWithin arcs n → (path : List ℕ) (v : ℕ) → IsPath arcs 0 path v → v < n
ends_within arcs n start within = path_induction arcs (λ path v. v < n) start (λ path e h k p. (within e h).1)

pub IsPath-push : (arcs : List (ℕ × ℕ)) (path : List ℕ) (e : ℕ) → e < length arcs → IsPath arcs 0 path (source arcs e) → IsPath arcs 0 (path ++ e ∷ []) (target arcs e)
IsPath-push arcs path e h k = IsPath-append arcs 0 path (source arcs e) (e ∷ []) (target arcs e) k (IsPath-one arcs e h)

-- the place of a split is the last one, or stands before it
snoc_split : (places before after : List Place) (m w : Place) → places ++ m ∷ [] ≡ before ++ w ∷ after
    → ((after ≡ []) × (w ≡ m)) ⊎ ((rest : List Place) × (after ≡ rest ++ m ∷ []) × (places ≡ before ++ w ∷ rest))
snoc_split [] [] after m w h = inl (cc, cc)
snoc_split [] (b ∷ before) after m w h =
    let t : [] ≡ before ++ w ∷ after = cc in
    let n : 0 ≡ length (before ++ w ∷ after) = ap length t in
    absurd (omega (arith, simp length-append at n))
snoc_split (x ∷ places) [] after m w h =
    let t : after ≡ places ++ m ∷ [] = cc in
    let s : x ≡ w = cc in
    inr (places, t, ap (λ y. y ∷ places) s)
snoc_split (x ∷ places) (b ∷ before) after m w h =
    let t : places ++ m ∷ [] ≡ before ++ w ∷ after = cc in
    let s : x ≡ b = cc in
    ⊎_elim
    (λ (l : (after ≡ []) × (w ≡ m)). inl l)
    (λ (r : (rest : List Place) × (after ≡ rest ++ m ∷ []) × (places ≡ before ++ w ∷ rest)). inr (r.0, r.1, let q : places ≡ before ++ w ∷ r.0 = r.2 in cc))
    (snoc_split places before after m w t)

-- what follows a prefix keeps what holds of each part
All-after : (P : Place → Type 0) (first second : List Place) → All P (first ++ second) → All P second
All-after P [] second h = h
All-after P (m ∷ first) second h = All-after P first second (All-tail P m (first ++ second) h)

All-both : (P Q : Place → Type 0) → (R : Place → Type 0) → ((m : Place) → P m → Q m → R m) → (places : List Place) → All P places → All Q places → All R places
All-both P Q R f places p q k d h = f _ (p k d h) (q k d h)

-- two readings of what writes and kills, that agree at each place of a path, agree on its validity
pub IsValid-agree : (W K W' K' : Place → Type 0) (places : List Place) → All (λ m. (W m → W' m) × (K' m → K m)) places → IsValid W K places → IsValid W' K' places
IsValid-agree W K W' K' places h v =
    let P : Place → Type 0 = λ m. (W m → W' m) × (K' m → K m) in
    let rest : All P (v.write ∷ v.after) = All-after P v.before (v.write ∷ v.after) (subst (λ x. All P x) v.split h) in
    record {
      before = v.before;
      write = v.write;
      after = v.after;
      split = v.split;
      writes = (All-head P v.write v.after rest).0 v.writes;
      unkilled = All-both P (λ m. ¬ K m) (λ m. ¬ K' m) (λ m a b c. b (a.1 c)) v.after (All-tail P v.write v.after rest) v.unkilled;
    }

pub IsValid-map : (W K W' K' : Place → Type 0) → ((m : Place) → W m → W' m) → ((m : Place) → K' m → K m) → (places : List Place) → IsValid W K places → IsValid W' K' places
IsValid-map W K W' K' writes kills places v = IsValid-agree W K W' K' places (λ k d h. (writes _, kills _)) v

-- a place of a graph with n points and m edges
abbrev pub InGraph : ℕ → ℕ → Place → Type 0
InGraph n m (at_point v) = v < n
InGraph n m (on_edge e) = e < m

pub met_in_graph : (arcs : List (ℕ × ℕ)) (n : ℕ) → ArcsWithin arcs n → (u : ℕ) (path : List ℕ) (v : ℕ) → IsPath arcs u path v → All (InGraph n (length arcs)) (met arcs path)
met_in_graph arcs n within u [] v h = All-nil (InGraph n (length arcs))
met_in_graph arcs n within u (e ∷ path) v h =
    All-cons (InGraph n (length arcs)) (at_point (source arcs e)) (on_edge e ∷ met arcs path) (within e h.0).0
    (All-cons (InGraph n (length arcs)) (on_edge e) (met arcs path) h.0 (met_in_graph arcs n within (target arcs e) path v h.2))

module _ (W K : Place → Type 0) where
  pub IsValid-nil : IsValid W K [] → ⊥
  IsValid-nil v =
      let n : 0 ≡ length (v.before ++ v.write ∷ v.after) = ap length v.split in
      absurd (omega (arith, simp length-append at n))

  pub IsValid-write : (places : List Place) (m : Place) → W m → IsValid W K (places ++ m ∷ [])
  IsValid-write places m w = record { before = places; write = m; after = []; split = refl; writes = w; unkilled = All-nil (λ x. ¬ K x) }

  pub IsValid-keep : (places : List Place) (m : Place) → ¬ K m → IsValid W K places → IsValid W K (places ++ m ∷ [])
  IsValid-keep places m k v = record {
    before = v.before;
    write = v.write;
    after = v.after ++ m ∷ [];
    split = ap (λ x. x ++ m ∷ []) v.split ∙ append_assoc v.before (v.write ∷ v.after) (m ∷ []);
    writes = v.writes;
    unkilled = All-push (λ x. ¬ K x) v.after m v.unkilled k;
  }

  pub IsValid-last : (places : List Place) (m : Place) → IsValid W K (places ++ m ∷ []) → W m ⊎ ((¬ K m) × IsValid W K places)
  IsValid-last places m v =
      ⊎_elim
      (λ (l : (v.after ≡ []) × (v.write ≡ m)). inl (subst W l.1 v.writes))
      (λ (r : (rest : List Place) × (v.after ≡ rest ++ m ∷ []) × (places ≡ v.before ++ v.write ∷ rest)).
      let unkilled : All (λ x. ¬ K x) (r.0 ++ m ∷ []) = subst (All (λ x. ¬ K x)) r.1 v.unkilled in
      inr (
        last_of r.0 m unkilled,
        record {
          before = v.before;
          write = v.write;
          after = r.0;
          split = r.2;
          writes = v.writes;
          unkilled = front_of r.0 m unkilled;
        },
      ))
      (snoc_split places v.before v.after m v.write v.split)
    where
      last_of : (xs : List Place) (m : Place) → All (λ x. ¬ K x) (xs ++ m ∷ []) → ¬ K m
      last_of [] m a = All-head (λ x. ¬ K x) m [] a
      last_of (x ∷ xs) m a = last_of xs m (All-tail (λ x. ¬ K x) x (xs ++ m ∷ []) a)

      front_of : (xs : List Place) (m : Place) → All (λ x. ¬ K x) (xs ++ m ∷ []) → All (λ x. ¬ K x) xs
      front_of [] m a = All-nil (λ x. ¬ K x)
      front_of (x ∷ xs) m a = All-cons (λ x. ¬ K x) x xs (All-head (λ x. ¬ K x) x (xs ++ m ∷ []) a) (front_of xs m (All-tail (λ x. ¬ K x) x (xs ++ m ∷ []) a))

  -- a list that ends with places that do not write is valid only where what stands before them is
  pub IsValid-front : (places rest : List Place) → All (λ m. ¬ W m) rest → IsValid W K (places ++ rest) → IsValid W K places
  IsValid-front places [] a v = subst (IsValid W K) (append-nil places) v
  IsValid-front places (m ∷ rest) a v =
      ⊎_elim
      (λ (w : W m). absurd (All-head (λ x. ¬ W x) m rest a w))
      (λ (k : (¬ K m) × IsValid W K places). k.1)
      (IsValid-last places m (IsValid-front (places ++ m ∷ []) rest (All-tail (λ x. ¬ W x) m rest a) (subst (IsValid W K) (sym (append_assoc places (m ∷ []) rest)) v)))

  module _ (arcs : List (ℕ × ℕ)) where
    met_push : (path : List ℕ) (e : ℕ) → (met arcs path ++ at_point (source arcs e) ∷ []) ++ on_edge e ∷ [] ≡ met arcs (path ++ e ∷ [])
    met_push path e = append_assoc (met arcs path) (at_point (source arcs e) ∷ []) (on_edge e ∷ []) ∙ sym (met-append arcs path (e ∷ []))

    pub edge_writes : (path : List ℕ) (e : ℕ) → W (on_edge e) → IsValid W K (met arcs (path ++ e ∷ []))
    edge_writes path e w = subst (IsValid W K) (met_push path e) (IsValid-write (met arcs path ++ at_point (source arcs e) ∷ []) (on_edge e) w)

    pub edge_keeps : (path : List ℕ) (e : ℕ) → ¬ K (on_edge e) → IsValid W K (met arcs path ++ at_point (source arcs e) ∷ []) → IsValid W K (met arcs (path ++ e ∷ []))
    edge_keeps path e k v = subst (IsValid W K) (met_push path e) (IsValid-keep (met arcs path ++ at_point (source arcs e) ∷ []) (on_edge e) k v)

    pub edge_last : (path : List ℕ) (e : ℕ) → IsValid W K (met arcs (path ++ e ∷ [])) → W (on_edge e) ⊎ ((¬ K (on_edge e)) × IsValid W K (met arcs path ++ at_point (source arcs e) ∷ []))
    edge_last path e v = IsValid-last (met arcs path ++ at_point (source arcs e) ∷ []) (on_edge e) (subst (IsValid W K) (sym (met_push path e)) v)

    pub point_writes : (path : List ℕ) (e : ℕ) → ¬ K (on_edge e) → W (at_point (source arcs e)) → IsValid W K (met arcs (path ++ e ∷ []))
    point_writes path e k w = edge_keeps path e k (IsValid-write (met arcs path) (at_point (source arcs e)) w)

    pub path_keeps : (path : List ℕ) (e : ℕ) → ¬ K (on_edge e) → ¬ K (at_point (source arcs e)) → IsValid W K (met arcs path) → IsValid W K (met arcs (path ++ e ∷ []))
    path_keeps path e k l v = edge_keeps path e k (IsValid-keep (met arcs path) (at_point (source arcs e)) l v)

-- one more edge adds the point that it leaves, and itself
pub sum_met_push : (f : Place → ℕ) (arcs : List (ℕ × ℕ)) (path : List ℕ) (e : ℕ) → sum_by f (met arcs (path ++ e ∷ [])) ≡ sum_by f (met arcs path) + (f (at_point (source arcs e)) + f (on_edge e))
sum_met_push f arcs path e =
    let u : Place = at_point (source arcs e) in
    let whole : sum_by f (met arcs (path ++ e ∷ [])) ≡ sum_by f (met arcs path) + sum_by f (u ∷ on_edge e ∷ []) = ap (sum_by f) (met-append arcs path (e ∷ [])) ∙ sum_by-append f (met arcs path) (u ∷ on_edge e ∷ []) in
    let both : sum_by f (u ∷ on_edge e ∷ []) ≡ f u + sum_by f (on_edge e ∷ []) = sum_by-cons f u (on_edge e ∷ []) in
    let last : sum_by f (on_edge e ∷ []) ≡ f (on_edge e) + sum_by f [] = sum_by-cons f (on_edge e) [] in
    let none : sum_by f [] ≡ 0 = refl in
    omega (arith, whole, both, last, none)

pub sum_met_append : (f : Place → ℕ) (arcs : List (ℕ × ℕ)) (path rest : List ℕ) → sum_by f (met arcs (path ++ rest)) ≡ sum_by f (met arcs path) + sum_by f (met arcs rest)
sum_met_append f arcs path rest = ap (sum_by f) (met-append arcs path rest) ∙ sum_by-append f (met arcs path) (met arcs rest)

-- a sum of nothing adds nothing at any place
pub All-from_zero : (f : Place → ℕ) (P : Place → Type 0) → ((m : Place) → f m ≡ 0 → P m) → (places : List Place) → sum_by f places ≡ 0 → All P places
All-from_zero f P g [] z = All-nil P
All-from_zero f P g (m ∷ places) z =
    let s : sum_by f (m ∷ places) ≡ f m + sum_by f places = sum_by-cons f m places in
    All-cons P m places (g m (omega (arith, s, z))) (All-from_zero f P g places (omega (arith, s, z)))

pub zero_from_All : (f : Place → ℕ) (P : Place → Type 0) → ((m : Place) → P m → f m ≡ 0) → (places : List Place) → All P places → sum_by f places ≡ 0
zero_from_All f P g [] a = refl
zero_from_All f P g (m ∷ places) a =
    let s : sum_by f (m ∷ places) ≡ f m + sum_by f places = sum_by-cons f m places in
    let here : f m ≡ 0 = g m (All-head P m places a) in
    let rest : sum_by f places ≡ 0 = zero_from_All f P g places (All-tail P m places a) in
    omega (arith, s, here, rest)

module _ (p : Placement) where
  pub counts_inserted : (e : ℕ) → Contains p.inserted e → computations_at p (on_edge e) ≡ 1
  counts_inserted e c = ⊎_elim
      (λ (t : (list_any (λ d. d == e) p.inserted ≡ true) × Contains p.inserted e). ap (λ b. cond b 1 0) t.0)
      (λ (f : (list_any (λ d. d == e) p.inserted ≡ false) × (Contains p.inserted e → ⊥)). absurd (f.1 c))
      (contains_or_not p.inserted e)

  pub counts_not_inserted : (e : ℕ) → (Contains p.inserted e → ⊥) → computations_at p (on_edge e) ≡ 0
  counts_not_inserted e c = ⊎_elim
      (λ (t : (list_any (λ d. d == e) p.inserted ≡ true) × Contains p.inserted e). absurd (c t.1))
      (λ (f : (list_any (λ d. d == e) p.inserted ≡ false) × (Contains p.inserted e → ⊥)). ap (λ b. cond b 1 0) f.0)
      (contains_or_not p.inserted e)

  pub counts_kept : (v : ℕ) → Contains p.kept v → computations_at p (at_point v) ≡ 1
  counts_kept v c = ⊎_elim
      (λ (t : (list_any (λ d. d == v) p.kept ≡ true) × Contains p.kept v). ap (λ b. cond b 1 0) t.0)
      (λ (f : (list_any (λ d. d == v) p.kept ≡ false) × (Contains p.kept v → ⊥)). absurd (f.1 c))
      (contains_or_not p.kept v)

  pub counts_not_kept : (v : ℕ) → (Contains p.kept v → ⊥) → computations_at p (at_point v) ≡ 0
  counts_not_kept v c = ⊎_elim
      (λ (t : (list_any (λ d. d == v) p.kept ≡ true) × Contains p.kept v). absurd (c t.1))
      (λ (f : (list_any (λ d. d == v) p.kept ≡ false) × (Contains p.kept v → ⊥)). ap (λ b. cond b 1 0) f.0)
      (contains_or_not p.kept v)
