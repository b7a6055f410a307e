-- Valid paths of a placement without one of its edges.
use Rattle.std.proofs.Common.{◌≡◌, ◌⊎◌, ℕ, List, [], ◌∷◌, ◌++◌, All, Contains, refl, ap, subst, inl, inr, ⊎_elim}
use Rattle.std.proofs.lemmas.Bool.{cases_eq}
use Rattle.std.proofs.lemmas.List.Elements.{All-nil, All-cons, All-tail, All-contains}
use Rattle.expressions.specs.declared.syntax.Event.{Event}
use Rattle.expressions.specs.declared.syntax.Event.TheVariants.{Occurs}
use Rattle.flow_paths.specs.Paths.{source, target, IsPath, Place, at_point, on_edge, met, IsValid}
use Rattle.placement.specs.declared.placements.Placement.{Placement}
use Rattle.placement.specs.Placements.{Writes, Kills, IsDeleted, IsCorrect, IsLiveAt}
use Rattle.best_choice.proofs.Ascending.{member_cases, without, kept_without}

-- ---- valid places

module _ (W K : Place → Type 0) where
  pub valid_cons : (m : Place) (places : List Place) → IsValid W K places → IsValid W K (m ∷ places)
  valid_cons m places v = record { before = m ∷ v.before; write = v.write; after = v.after; split = ap (λ x. m ∷ x) v.split; writes = v.writes; unkilled = v.unkilled }

  pub valid_here : (m : Place) (places : List Place) → W m → All (λ x. ¬ K x) places → IsValid W K (m ∷ places)
  valid_here m places w h = record { before = []; write = m; after = places; split = refl; writes = w; unkilled = h }

  split_cases : (m : Place) (places before : List Place) (write : Place) (after : List Place) → m ∷ places ≡ before ++ write ∷ after → W write → All (λ x. ¬ K x) after → (W m × All (λ x. ¬ K x) places) ⊎ IsValid W K places
  split_cases m places [] write after s w h =
      let same : write ≡ m = cc in
      let rest : after ≡ places = cc in
      inl (subst W same w, subst (λ l. All (λ x. ¬ K x) l) rest h)
  split_cases m places (b ∷ before) write after s w h =
      let rest : places ≡ before ++ write ∷ after = cc in
      inr (record { before = before; write = write; after = after; split = rest; writes = w; unkilled = h })

  -- the first place writes with no kill behind it, or the rest is valid
  pub valid_cases : (m : Place) (places : List Place) → IsValid W K (m ∷ places) → (W m × All (λ x. ¬ K x) places) ⊎ IsValid W K places
  valid_cases m places v = split_cases m places v.before v.write v.after v.split v.writes v.unkilled

  pub never_valid : (before : List Place) (write : Place) (after : List Place) → [] ≡ before ++ write ∷ after → ⊥
  never_valid [] write after s = cc
  never_valid (b ∷ before) write after s = cc

  -- places with no kill are valid where one writes
  pub written_or_not : ((m : Place) → W m ⊎ (W m → ⊥)) → (places : List Place) → All (λ x. ¬ K x) places → IsValid W K places ⊎ All (λ x. ¬ W x) places
  written_or_not test [] h = inr (All-nil (λ x. ¬ W x))
  written_or_not test (m ∷ places) h =
      ⊎_elim
      (λ (w : W m). inl (valid_here m places w (All-tail (λ x. ¬ K x) m places h)))
      (λ (n : W m → ⊥). ⊎_elim
      (λ (v : IsValid W K places). inl (valid_cons m places v))
      (λ (none : All (λ x. ¬ W x) places). inr (All-cons (λ x. ¬ W x) m places n none))
      (written_or_not test places (All-tail (λ x. ¬ K x) m places h)))
      (test m)

-- ---- a placement without an edge behind which it isn't live

abbrev pub without_edge : ℕ → Placement → Placement
without_edge e p = record { inserted = without e p.inserted; kept = p.kept }

module _ (arcs : List (ℕ × ℕ)) (Is : ℕ → Event → Type 0) (p : Placement) (e : ℕ) (occur : All (λ v. Is v Occurs) p.kept) (dead : IsLiveAt arcs Is p (target arcs e) → ⊥) where
  writes_or_not : (m : Place) → Writes Is p m ⊎ (Writes Is p m → ⊥)
  writes_or_not (at_point v) =
      ⊎_elim
      (λ (c : Contains p.kept v). inl (All-contains (λ x. Is x Occurs) p.kept v occur c, c))
      (λ (n : Contains p.kept v → ⊥). inr (λ w. n w.1))
      (member_cases p.kept v)
  writes_or_not (on_edge a) = member_cases p.inserted a

  abbrev Before : List Place → Type 0
  Before = IsValid (Writes Is p) (Kills Is)

  abbrev After : List Place → Type 0
  After = IsValid (Writes Is (without_edge e p)) (Kills Is)

  -- behind the edge a path to a deleted occurrence writes again
  written_behind : (path : List ℕ) (v : ℕ) → IsPath arcs (target arcs e) path v → IsDeleted Is p v → All (λ m. ¬ Kills Is m) (met arcs path) → Before (met arcs path)
  written_behind path v leads deleted unkilled =
      ⊎_elim
      (λ (b : Before (met arcs path)). b)
      (λ (none : All (λ m. ¬ Writes Is p m) (met arcs path)). absurd (dead (record { path = path; occurrence = v; leads = leads; deleted = deleted; unwritten = none })))
      (written_or_not (Writes Is p) (Kills Is) writes_or_not (met arcs path) unkilled)

  -- what is valid behind an edge stays so, where what is valid behind its end does
  edge_step : (a : ℕ) (path : List ℕ) (v : ℕ) → IsPath arcs (target arcs a) path v → IsDeleted Is p v → (Before (met arcs path) → After (met arcs path)) → Before (on_edge a ∷ met arcs path) → After (on_edge a ∷ met arcs path)
  edge_step a path v leads deleted rest b =
      ⊎_elim
      (λ (here : Contains p.inserted a × All (λ m. ¬ Kills Is m) (met arcs path)). ⊎_elim
      (λ (same : a ≡ e). valid_cons (Writes Is (without_edge e p)) (Kills Is) (on_edge a) (met arcs path) (rest (written_behind path v (subst (λ x. IsPath arcs (target arcs x) path v) same leads) deleted here.1)))
      (λ (other : a ≡ e → ⊥). valid_here (Writes Is (without_edge e p)) (Kills Is) (on_edge a) (met arcs path) (kept_without e p.inserted a here.0 other) here.1)
      (cases_eq a e))
      (λ (later : Before (met arcs path)). valid_cons (Writes Is (without_edge e p)) (Kills Is) (on_edge a) (met arcs path) (rest later))
      (valid_cases (Writes Is p) (Kills Is) (on_edge a) (met arcs path) b)

  valid_without : (u : ℕ) (path : List ℕ) (v : ℕ) → IsPath arcs u path v → IsDeleted Is p v → Before (met arcs path) → After (met arcs path)
  valid_without u [] v leads deleted b = absurd (never_valid (Writes Is p) (Kills Is) b.before b.write b.after b.split)
  valid_without u (a ∷ path) v leads deleted b =
      let rest = on_edge a ∷ met arcs path in
      ⊎_elim
      (λ (here : Writes Is p (at_point (source arcs a)) × All (λ m. ¬ Kills Is m) (on_edge a ∷ met arcs path)). valid_here (Writes Is (without_edge e p)) (Kills Is) (at_point (source arcs a)) rest here.0 here.1)
      (λ (later : Before (on_edge a ∷ met arcs path)). valid_cons (Writes Is (without_edge e p)) (Kills Is) (at_point (source arcs a)) rest
      (edge_step a path v leads.2 deleted (valid_without (target arcs a) path v leads.2 deleted) later))
      (valid_cases (Writes Is p) (Kills Is) (at_point (source arcs a)) rest b)

  pub correct_without : IsCorrect arcs Is p → IsCorrect arcs Is (without_edge e p)
  correct_without correct v path deleted leads = valid_without 0 path v leads deleted (correct v path deleted leads)
