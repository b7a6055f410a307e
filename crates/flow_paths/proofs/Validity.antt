-- Validity as a state that a path carries: whether the last write came after the last kill.
use Rattle.std.proofs.Common.{◌≡◌, ℕ, ◌<◌, Bool, true, false, List, [], ◌∷◌, ◌++◌, length, refl, sym, ◌∙◌, subst, ap, ◌⊎◌, inl, inr, ⊎_elim, All, ◌↔◌, ◌+◌, ◌≤◌, arith, set, replicate}
use Rattle.std.proofs.lemmas.List.Elements.{All-nil, All-cons, All-head, All-tail}
use Rattle.std.proofs.lemmas.Bool.{cases_Bool, cases_eq, cases_lt}
use Rattle.std.proofs.lemmas.List.{get_or-replicate, get_or_past, length-replicate}
use Rattle.flow_paths.specs.declared.marks.Mark.{Mark}
use Rattle.flow_paths.specs.declared.marks.Mark.TheVariants.{Write, Kill, Pass}
use Rattle.flow_paths.specs.Stretches.{then_mark, arc_mark, PassesAt, IsKilledBefore}
use Rattle.flow_paths.specs.Marks.{ValidBy, ReachedInvalid}
use Rattle.flow_paths.specs.Paths.{source, target, IsPath, Connects, Place, at_point, on_edge, met}
use Rattle.flow_paths.specs.Spreads.{IsSet, AllSet, SpreadsTo}
use Rattle.flow_paths.proofs.PathLemmas.{IsSet-set, IsSet-kept, IsSet-cases, IsPath-append, IsPath-one, SpreadsTo-seed, SpreadsTo-step}

-- whether a path is valid behind a place, from whether it was before
abbrev pub after_mark : Mark → Bool → Bool
after_mark Write valid = true
after_mark Kill valid = false
after_mark Pass valid = valid

-- whether a path is valid behind these places, from whether it was before
abbrev pub carried : (Place → Mark) → List Place → Bool → Bool
carried mark [] valid = valid
carried mark (m ∷ places) valid = carried mark places (after_mark (mark m) valid)

pub carried-append : (mark : Place → Mark) (first second : List Place) (valid : Bool) → carried mark (first ++ second) valid ≡ carried mark second (carried mark first valid)
carried-append mark [] second valid = refl
carried-append mark (m ∷ first) second valid = carried-append mark first second (after_mark (mark m) valid)

pub carried_unkilled_mark : (k : Mark) → ¬ (k ≡ Kill) → after_mark k true ≡ true
carried_unkilled_mark Write h = refl
carried_unkilled_mark Kill h = absurd (h refl)
carried_unkilled_mark Pass h = refl

pub carried_unkilled : (mark : Place → Mark) (places : List Place) → All (λ m. ¬ (mark m ≡ Kill)) places → carried mark places true ≡ true
carried_unkilled mark [] h = refl
carried_unkilled mark (m ∷ places) h =
    ap (carried mark places) (carried_unkilled_mark (mark m) (All-head (λ x. ¬ (mark x ≡ Kill)) m places h))
    ∙ carried_unkilled mark places (All-tail (λ x. ¬ (mark x ≡ Kill)) m places h)

-- a valid path carries `true`, whatever it began with
pub carried-valid : (mark : Place → Mark) (places : List Place) (valid : Bool) → ValidBy mark places → carried mark places valid ≡ true
carried-valid mark places valid v =
    ap (λ x. carried mark x valid) v.split
    ∙ carried-append mark v.before (v.write ∷ v.after) valid
    ∙ ap (λ k. carried mark v.after (after_mark k (carried mark v.before valid))) v.writes
    ∙ carried_unkilled mark v.after v.unkilled

Valid-cons : (mark : Place → Mark) (m : Place) (places : List Place) → ValidBy mark places → ValidBy mark (m ∷ places)
Valid-cons mark m places v = record { before = m ∷ v.before; write = v.write; after = v.after; split = ap (λ x. m ∷ x) v.split; writes = v.writes; unkilled = v.unkilled }

valid_or_unkilled_cons : (mark : Place → Mark) (m : Place) (places : List Place) (valid : Bool) (k : Mark) → mark m ≡ k → after_mark k valid ≡ true → All (λ x. ¬ (mark x ≡ Kill)) places → ((valid ≡ true) × All (λ x. ¬ (mark x ≡ Kill)) (m ∷ places)) ⊎ ValidBy mark (m ∷ places)
valid_or_unkilled_cons mark m places valid Write e h u = inr (record { before = []; write = m; after = places; split = refl; writes = e; unkilled = u })
valid_or_unkilled_cons mark m places valid Kill e h u = cc
valid_or_unkilled_cons mark m places valid Pass e h u = inl (h, All-cons (λ x. ¬ (mark x ≡ Kill)) m places (λ k. let s : Pass ≡ Kill = sym e ∙ k in cc) u)

-- a path that carries `true` began with it and met no kill, or is valid
valid_or_unkilled : (mark : Place → Mark) (places : List Place) (valid : Bool) → carried mark places valid ≡ true → ((valid ≡ true) × All (λ m. ¬ (mark m ≡ Kill)) places) ⊎ ValidBy mark places
valid_or_unkilled mark [] valid h = inl (h, All-nil (λ m. ¬ (mark m ≡ Kill)))
valid_or_unkilled mark (m ∷ places) valid h =
    ⊎_elim
    (λ (u : (after_mark (mark m) valid ≡ true) × All (λ x. ¬ (mark x ≡ Kill)) places). valid_or_unkilled_cons mark m places valid (mark m) refl u.0 u.1)
    (λ (v : ValidBy mark places). inr (Valid-cons mark m places v))
    (valid_or_unkilled mark places (after_mark (mark m) valid) h)

pub valid-carried : (mark : Place → Mark) (places : List Place) → carried mark places false ≡ true → ValidBy mark places
valid-carried mark places h =
    ⊎_elim
    (λ (u : (false ≡ true) × All (λ m. ¬ (mark m ≡ Kill)) places). let f : false ≡ true = u.0 in cc)
    (λ (v : ValidBy mark places). v)
    (valid_or_unkilled mark places false h)

-- a path is not valid exactly where it carries `false` from Start
pub carried-invalid : (mark : Place → Mark) (places : List Place) → ¬ ValidBy mark places → carried mark places false ≡ false
carried-invalid mark places h = ⊎_elim (λ (e : carried mark places false ≡ true). absurd (h (valid-carried mark places e))) (λ (e : carried mark places false ≡ false). e) (cases_Bool (carried mark places false))

pub invalid-carried : (mark : Place → Mark) (places : List Place) → carried mark places false ≡ false → ¬ ValidBy mark places
invalid-carried mark places h v = let t = carried-valid mark places false v in let f : true ≡ false = sym t ∙ h in cc

after-then : (first second : Mark) (valid : Bool) → after_mark second (after_mark first valid) ≡ after_mark (then_mark first second) valid
after-then first Write valid = refl
after-then first Kill valid = refl
after-then first Pass valid = refl

pub met-append : (arcs : List (ℕ × ℕ)) (path rest : List ℕ) → met arcs (path ++ rest) ≡ met arcs path ++ met arcs rest
met-append arcs [] rest = refl
met-append arcs (e ∷ path) rest = ap (λ x. at_point (source arcs e) ∷ on_edge e ∷ x) (met-append arcs path rest)

pub carried-edge : (mark : Place → Mark) (arcs : List (ℕ × ℕ)) (e : ℕ) (path : List ℕ) (valid : Bool) → carried mark (met arcs (e ∷ path)) valid ≡ carried mark (met arcs path) (after_mark (arc_mark mark arcs e) valid)
carried-edge mark arcs e path valid = ap (carried mark (met arcs path)) (after-then (mark (at_point (source arcs e))) (mark (on_edge e)) valid)

-- where an invalid stretch may begin: at Start, or behind a kill that some path reaches
abbrev pub BeginsInvalid : (Place → Mark) → List (ℕ × ℕ) → List Bool → ℕ → Type 0
BeginsInvalid mark arcs reached v = (v ≡ 0) ⊎ IsKilledBefore mark arcs reached (length arcs) v

-- what the lists of bits hold in the end
pub record Found (mark : Place → Mark) (arcs : List (ℕ × ℕ)) (reached passes seeds bits : List Bool) : Type 0 where
  pub reached_is : (v : ℕ) → IsSet reached v ↔ Connects arcs 0 v
  pub passes_is : (e : ℕ) → IsSet passes e ↔ PassesAt mark arcs (length arcs) e
  pub seeds_is : (v : ℕ) → IsSet seeds v ↔ BeginsInvalid mark arcs reached v
  pub bits_is : (v : ℕ) → IsSet bits v ↔ SpreadsTo arcs passes seeds v

pub Connects-step : (arcs : List (ℕ × ℕ)) (u e : ℕ) → e < length arcs → Connects arcs u (source arcs e) → Connects arcs u (target arcs e)
Connects-step arcs u e h r = record { path = r.path ++ e ∷ []; leads = IsPath-append arcs u r.path (source arcs e) (e ∷ []) (target arcs e) r.leads (IsPath-one arcs e h) }

module _ (mark : Place → Mark) (arcs : List (ℕ × ℕ)) (reached passes seeds bits : List Bool) (found : Found mark arcs reached passes seeds bits) where
  passing_path : (u : ℕ) (path : List ℕ) (v : ℕ) (valid : Bool) → IsPath arcs u path v → AllSet passes path → carried mark (met arcs path) valid ≡ valid
  passing_path u [] v valid h p = refl
  passing_path u (e ∷ path) v valid h p =
      carried-edge mark arcs e path valid
      ∙ ap (λ k. carried mark (met arcs path) (after_mark k valid)) ((found.passes_is e).0 p.0).1
      ∙ passing_path (target arcs e) path v valid h.2 p.1

  pub found_sound : (v : ℕ) → IsSet bits v → ReachedInvalid arcs mark v
  found_sound v b =
      let s : SpreadsTo arcs passes seeds v = (found.bits_is v).0 b in
      ⊎_elim
      (λ (z : s.seed ≡ 0). record {
        path = s.path;
        leads = subst (λ x. IsPath arcs x s.path v) z s.leads;
        invalid = invalid-carried mark (met arcs s.path) (passing_path s.seed s.path v false s.leads s.passing);
      })
      (λ (k : IsKilledBefore mark arcs reached (length arcs) s.seed).
      let r : Connects arcs 0 (source arcs k.arc) = (found.reached_is (source arcs k.arc)).0 k.is_reached in
      record {
        path = r.path ++ k.arc ∷ s.path;
        leads = IsPath-append arcs 0 r.path (source arcs k.arc) (k.arc ∷ s.path) v r.leads (k.is_arc, refl, subst (λ x. IsPath arcs x s.path v) (sym k.ends) s.leads);
        invalid = invalid-carried mark (met arcs (r.path ++ k.arc ∷ s.path))
            (ap (λ x. carried mark x false) (met-append arcs r.path (k.arc ∷ s.path))
            ∙ carried-append mark (met arcs r.path) (met arcs (k.arc ∷ s.path)) false
            ∙ carried-edge mark arcs k.arc s.path (carried mark (met arcs r.path) false)
            ∙ ap (λ m. carried mark (met arcs s.path) (after_mark m (carried mark (met arcs r.path) false))) k.kills
            ∙ passing_path s.seed s.path v false s.leads s.passing);
      })
      ((found.seeds_is s.seed).0 s.seeded)

  -- behind an edge that leaves the path invalid, the bit is set
  edge_step : (e : ℕ) (valid : Bool) (k : Mark) → e < length arcs → arc_mark mark arcs e ≡ k → Connects arcs 0 (source arcs e) → (valid ≡ false → IsSet bits (source arcs e)) → after_mark k valid ≡ false → IsSet bits (target arcs e)
  edge_step e valid Write h is r b f = cc
  edge_step e valid Kill h is r b f =
      (found.bits_is (target arcs e)).1 (SpreadsTo-seed arcs passes seeds (target arcs e)
      ((found.seeds_is (target arcs e)).1 (inr (record { arc = e; is_arc = h; kills = is; is_reached = (found.reached_is (source arcs e)).1 r; ends = refl }))))
  edge_step e valid Pass h is r b f =
      (found.bits_is (target arcs e)).1 (SpreadsTo-step arcs passes seeds e h ((found.passes_is e).1 (h, is)) ((found.bits_is (source arcs e)).0 (b f)))

  complete_from : (u : ℕ) (path : List ℕ) (v : ℕ) (valid : Bool) → IsPath arcs u path v → Connects arcs 0 u → (valid ≡ false → IsSet bits u) → carried mark (met arcs path) valid ≡ false → IsSet bits v
  complete_from u [] v valid h r b f = subst (λ x. IsSet bits x) h (b f)
  complete_from u (e ∷ path) v valid h r b f =
      let here : Connects arcs 0 (source arcs e) = subst (λ x. Connects arcs 0 x) (sym h.1) r in
      complete_from (target arcs e) path v (after_mark (arc_mark mark arcs e) valid) h.2
      (Connects-step arcs 0 e h.0 here)
      (λ g. edge_step e valid (arc_mark mark arcs e) h.0 refl here (λ z. subst (λ x. IsSet bits x) (sym h.1) (b z)) g)
      (sym (carried-edge mark arcs e path valid) ∙ f)

  pub found_complete : (v : ℕ) → ReachedInvalid arcs mark v → IsSet bits v
  found_complete v r =
      complete_from 0 r.path v false r.leads (record { path = []; leads = refl })
      (λ _. (found.bits_is 0).1 (SpreadsTo-seed arcs passes seeds 0 ((found.seeds_is 0).1 (inl refl))))
      (carried-invalid mark (met arcs r.path) r.invalid)

-- what the bits of passing arcs and of seeds hold before arc i
pub record Sorted (mark : Place → Mark) (arcs : List (ℕ × ℕ)) (reached start passes seeds : List Bool) (i : ℕ) : Type 0 where
  pub passes_are : (e : ℕ) → IsSet passes e ↔ PassesAt mark arcs i e
  pub seeds_are : (v : ℕ) → IsSet seeds v ↔ (IsSet start v ⊎ IsKilledBefore mark arcs reached i v)

module _ (mark : Place → Mark) (arcs : List (ℕ × ℕ)) (reached start : List Bool) where
  pub Sorted-start : (passes : List Bool) → ((e : ℕ) → ¬ IsSet passes e) → Sorted mark arcs reached start passes start 0
  Sorted-start passes none = record {
    passes_are = λ e. (λ s. absurd (none e s), λ p. absurd (let h : e < 0 = p.0 in omega arith));
    seeds_are = λ v. (λ s. inl s, λ k. ⊎_elim (λ (s : IsSet start v). s) (λ (b : IsKilledBefore mark arcs reached 0 v). absurd (let h : b.arc < 0 = b.is_arc in omega arith)) k);
  }

  passes_skip : (passes : List Bool) (i : ℕ) → ¬ (arc_mark mark arcs i ≡ Pass) → ((e : ℕ) → IsSet passes e ↔ PassesAt mark arcs i e) → (e : ℕ) → IsSet passes e ↔ PassesAt mark arcs (i + 1) e
  passes_skip passes i other are e = (
    λ s. let h : e < i = ((are e).0 s).0 in (omega arith, ((are e).0 s).1),
    λ p. let h : e < i + 1 = p.0 in ⊎_elim
        (λ (q : e ≡ i). absurd (other (subst (λ x. arc_mark mark arcs x ≡ Pass) q p.1)))
        (λ (ne : e ≡ i → ⊥). (are e).1 (omega arith, p.1))
        (cases_eq e i),
  )

  passes_set : (passes : List Bool) (i : ℕ) → i < length passes → arc_mark mark arcs i ≡ Pass → ((e : ℕ) → IsSet passes e ↔ PassesAt mark arcs i e) → (e : ℕ) → IsSet (set passes i true) e ↔ PassesAt mark arcs (i + 1) e
  passes_set passes i within is are e = (
    λ s. ⊎_elim
        (λ (q : e ≡ i). (omega arith, subst (λ x. arc_mark mark arcs x ≡ Pass) (sym q) is))
        (λ (b : IsSet passes e). let h : e < i = ((are e).0 b).0 in (omega arith, ((are e).0 b).1))
        (IsSet-cases passes i e s),
    λ p. let h : e < i + 1 = p.0 in ⊎_elim
        (λ (q : e ≡ i). subst (λ x. IsSet (set passes i true) x) (sym q) (IsSet-set passes i within))
        (λ (ne : e ≡ i → ⊥). IsSet-kept passes i e within ((are e).1 (omega arith, p.1)))
        (cases_eq e i),
  )

  earlier : (i v : ℕ) → IsKilledBefore mark arcs reached i v → IsKilledBefore mark arcs reached (i + 1) v
  earlier i v k = record { arc = k.arc; is_arc = let h : k.arc < i = k.is_arc in omega arith; kills = k.kills; is_reached = k.is_reached; ends = k.ends }

  later : (i v : ℕ) → IsKilledBefore mark arcs reached (i + 1) v → IsKilledBefore mark arcs reached i v ⊎ ((arc_mark mark arcs i ≡ Kill) × IsSet reached (source arcs i) × (target arcs i ≡ v))
  later i v k =
      let h : k.arc < i + 1 = k.is_arc in ⊎_elim
      (λ (q : k.arc ≡ i). inr (subst (λ x. arc_mark mark arcs x ≡ Kill) q k.kills, subst (λ x. IsSet reached (source arcs x)) q k.is_reached, subst (λ x. target arcs x ≡ v) q k.ends))
      (λ (ne : k.arc ≡ i → ⊥). inl (record { arc = k.arc; is_arc = omega arith; kills = k.kills; is_reached = k.is_reached; ends = k.ends }))
      (cases_eq k.arc i)

  seeds_skip : (seeds : List Bool) (i : ℕ) → ¬ ((arc_mark mark arcs i ≡ Kill) × IsSet reached (source arcs i)) → ((v : ℕ) → IsSet seeds v ↔ (IsSet start v ⊎ IsKilledBefore mark arcs reached i v)) → (v : ℕ) → IsSet seeds v ↔ (IsSet start v ⊎ IsKilledBefore mark arcs reached (i + 1) v)
  seeds_skip seeds i other are v = (
    λ s. ⊎_elim (λ (b : IsSet start v). inl b) (λ (k : IsKilledBefore mark arcs reached i v). inr (earlier i v k)) ((are v).0 s),
    λ t. ⊎_elim
        (λ (b : IsSet start v). (are v).1 (inl b))
        (λ (k : IsKilledBefore mark arcs reached (i + 1) v). ⊎_elim
        (λ (e : IsKilledBefore mark arcs reached i v). (are v).1 (inr e))
        (λ (l : (arc_mark mark arcs i ≡ Kill) × IsSet reached (source arcs i) × (target arcs i ≡ v)). absurd (other (l.0, l.1)))
        (later i v k))
        t,
  )

  seeds_set : (seeds : List Bool) (i : ℕ) → target arcs i < length seeds → arc_mark mark arcs i ≡ Kill → IsSet reached (source arcs i) → ((v : ℕ) → IsSet seeds v ↔ (IsSet start v ⊎ IsKilledBefore mark arcs reached i v)) → (v : ℕ) → IsSet (set seeds (target arcs i) true) v ↔ (IsSet start v ⊎ IsKilledBefore mark arcs reached (i + 1) v)
  seeds_set seeds i within kills from are v = (
    λ s. ⊎_elim
        (λ (q : v ≡ target arcs i). inr (record { arc = i; is_arc = omega arith; kills = kills; is_reached = from; ends = sym q }))
        (λ (b : IsSet seeds v). ⊎_elim (λ (b : IsSet start v). inl b) (λ (k : IsKilledBefore mark arcs reached i v). inr (earlier i v k)) ((are v).0 b))
        (IsSet-cases seeds (target arcs i) v s),
    λ t. ⊎_elim
        (λ (b : IsSet start v). IsSet-kept seeds (target arcs i) v within ((are v).1 (inl b)))
        (λ (k : IsKilledBefore mark arcs reached (i + 1) v). ⊎_elim
        (λ (e : IsKilledBefore mark arcs reached i v). IsSet-kept seeds (target arcs i) v within ((are v).1 (inr e)))
        (λ (l : (arc_mark mark arcs i ≡ Kill) × IsSet reached (source arcs i) × (target arcs i ≡ v)). subst (λ x. IsSet (set seeds (target arcs i) true) x) l.2 (IsSet-set seeds (target arcs i) within))
        (later i v k))
        t,
  )

  pub Sorted-skip : (passes seeds : List Bool) (i : ℕ) → ¬ (arc_mark mark arcs i ≡ Pass) → ¬ ((arc_mark mark arcs i ≡ Kill) × IsSet reached (source arcs i)) → Sorted mark arcs reached start passes seeds i → Sorted mark arcs reached start passes seeds (i + 1)
  Sorted-skip passes seeds i p k s = record { passes_are = passes_skip passes i p s.passes_are; seeds_are = seeds_skip seeds i k s.seeds_are }

  pub Sorted-pass : (passes seeds : List Bool) (i : ℕ) → i < length passes → arc_mark mark arcs i ≡ Pass → Sorted mark arcs reached start passes seeds i → Sorted mark arcs reached start (set passes i true) seeds (i + 1)
  Sorted-pass passes seeds i within is s = record { passes_are = passes_set passes i within is s.passes_are; seeds_are = seeds_skip seeds i (λ k. let e : Pass ≡ Kill = sym is ∙ k.0 in cc) s.seeds_are }

  pub Sorted-kill : (passes seeds : List Bool) (i : ℕ) → target arcs i < length seeds → arc_mark mark arcs i ≡ Kill → IsSet reached (source arcs i) → Sorted mark arcs reached start passes seeds i → Sorted mark arcs reached start passes (set seeds (target arcs i) true) (i + 1)
  Sorted-kill passes seeds i within is from s = record { passes_are = passes_skip passes i (λ p. let e : Kill ≡ Pass = sym is ∙ p in cc) s.passes_are; seeds_are = seeds_set seeds i within is from s.seeds_are }

-- every arc of a path passes, where all do
pub AllSet-every : (arcs : List (ℕ × ℕ)) (u : ℕ) (path : List ℕ) (v : ℕ) → IsPath arcs u path v → AllSet (replicate (length arcs) true) path
AllSet-every arcs u [] v h = tt
AllSet-every arcs u (e ∷ path) v h = (get_or-replicate (length arcs) e true false h.0, AllSet-every arcs (target arcs e) path v h.2)

-- what spreads from Start along all arcs is what some path reaches
pub reached_from_start : (arcs : List (ℕ × ℕ)) (every start reached : List Bool) → every ≡ replicate (length arcs) true → ((v : ℕ) → IsSet start v ↔ (v ≡ 0)) → ((v : ℕ) → IsSet reached v ↔ SpreadsTo arcs every start v) → (v : ℕ) → IsSet reached v ↔ Connects arcs 0 v
reached_from_start arcs every start reached e s r v = (
  λ b. let p : SpreadsTo arcs every start v = (r v).0 b in record { path = p.path; leads = subst (λ x. IsPath arcs x p.path v) ((s p.seed).0 p.seeded) p.leads },
  λ p. (r v).1 (record {
    seed = 0;
    path = p.path;
    seeded = (s 0).1 refl;
    leads = p.leads;
    passing = subst (λ x. AllSet x p.path) (sym e) (AllSet-every arcs 0 p.path v p.leads);
  }),
)

pub none_set : (n e : ℕ) → ¬ IsSet (replicate n false) e
none_set n e s = ⊎_elim
    (λ (h : e < n). let f : false ≡ true = sym (get_or-replicate n e false false h) ∙ s in cc)
    (λ (h : n ≤ e). let f : false ≡ true = sym (get_or_past (replicate n false) e false (rw length-replicate h)) ∙ s in cc)
    (cases_lt e n)

pub seeds_from_start : (mark : Place → Mark) (arcs : List (ℕ × ℕ)) (reached start seeds : List Bool) → ((v : ℕ) → IsSet start v ↔ (v ≡ 0)) → ((v : ℕ) → IsSet seeds v ↔ (IsSet start v ⊎ IsKilledBefore mark arcs reached (length arcs) v)) → (v : ℕ) → IsSet seeds v ↔ BeginsInvalid mark arcs reached v
seeds_from_start mark arcs reached start seeds s r v = (
  λ b. ⊎_elim (λ (x : IsSet start v). inl ((s v).0 x)) (λ (k : IsKilledBefore mark arcs reached (length arcs) v). inr k) ((r v).0 b),
  λ b. (r v).1 (⊎_elim (λ (x : v ≡ 0). inl ((s v).1 x)) (λ (k : IsKilledBefore mark arcs reached (length arcs) v). inr k) b),
)

pub found_is : (mark : Place → Mark) (arcs : List (ℕ × ℕ)) (reached passes seeds bits : List Bool) → Found mark arcs reached passes seeds bits → (v : ℕ) → IsSet bits v ↔ ReachedInvalid arcs mark v
found_is mark arcs reached passes seeds bits found v = (found_sound mark arcs reached passes seeds bits found v, found_complete mark arcs reached passes seeds bits found v)
