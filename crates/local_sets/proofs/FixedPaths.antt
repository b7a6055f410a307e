-- The greatest fixed point of flags over a graph with marks at its points is what holds on every path.
use Rattle.std.proofs.Common.{◌≡◌, ◌<◌, ◌≤◌, ◌⊎◌, ◌↔◌, ℕ, zero, suc, Bool, true, false, cond, List, [], ◌∷◌, ◌++◌, length, map, get_or, refl, sym, ap, ◌∙◌, subst, inl, inr, ⊎_elim, arith, eq-eqb}
use Rattle.std.specs.Prelude.{◌==◌, ◌&&◌}
use Rattle.std.proofs.lemmas.Bool.{cases_Bool, cases_lt, eqb-true, true≢false}
use Rattle.flow_paths.specs.declared.marks.Mark.{Mark}
use Rattle.flow_paths.specs.declared.marks.Mark.TheVariants.{Write, Kill, Pass}
use Rattle.flow_paths.specs.Paths.{source, target, ArcsWithin, IsPath, Connects, Place, at_point, on_edge, met}
use Rattle.flow_paths.specs.Marks.{ReachedInvalid}
use Rattle.flow_paths.specs.Spreads.{IsSet}
use Rattle.std.proofs.lemmas.List.{get_or-map, get_or-replicate}
use Rattle.local_sets.specs.Heads.{with_points}
use Rattle.flow_paths.proofs.PathLemmas.{IsPath-append, IsPath-one}
use Rattle.flow_paths.proofs.Validity.{after_mark, carried, carried-append, carried-invalid, invalid-carried, met-append}
use Rattle.dataflow.specs.declared.flag.Flag.{Flag}
use Rattle.dataflow.specs.Flags.{met_flags}
use Rattle.dataflow.specs.FixedPoints.{inflow, IsFixedPoint, IsGreatestFixedPoint}
use Rattle.local_sets.specs.Passing.{leaves, flag_of, begins, mark_of}

-- ---- decisions under a double negation

decided : (A : Type 0) → ((A ⊎ ¬ A) → ⊥) → ⊥
decided A k = k (inr (λ a. k (inl a)))

all_decided : (P : ℕ → Type 0) (n : ℕ) → (((w : ℕ) → w < n → P w ⊎ ¬ P w) → ⊥) → ⊥
all_decided P zero k = k (λ w h. absurd (omega (arith, h)))
all_decided P (suc n) k = all_decided P n (λ d. decided (P n) (λ c. k (λ w h. ⊎_elim
    (λ (l : w < n). d w l)
    (λ (g : n ≤ w). let same : n ≡ w = omega (arith, g, h) in subst (λ v. P v ⊎ ¬ P v) same c)
    (cases_lt w n))))

fails : {A : Type 0} → A ⊎ ¬ A → Bool
fails (inl a) = false
fails (inr n) = true

fails_told : {A : Type 0} (d : A ⊎ ¬ A) → (fails d ≡ true) ↔ ¬ A
unfolding fails
fails_told (inl a) = (λ e. absurd cc, λ n. absurd (n a))
fails_told (inr n) = (λ e. n, λ m. refl)

-- ---- what flows into a node

and_both : (a b : Bool) → (a && b) ≡ true → (a ≡ true) × (b ≡ true)
and_both true b h = (refl, h)
and_both false b h = absurd cc

both_and : (a b : Bool) → a ≡ true → b ≡ true → (a && b) ≡ true
both_and true b h k = k
both_and false b h k = absurd cc

same_bool : (a b : Bool) → (a ≡ true → b ≡ true) → (b ≡ true → a ≡ true) → a ≡ b
same_bool true b h k = sym (h refl)
same_bool false true h k = k refl
same_bool false false h k = refl

module _ (exit : ℕ → Flag) (n : ℕ) (start : Flag) where
  set_in : (arcs : List (ℕ × ℕ)) → (inflow met_flags arcs exit n start).set ≡ true → (start.set ≡ true) × ((e : ℕ) → e < length arcs → target arcs e ≡ n → (exit (source arcs e)).set ≡ true)
  set_in [] h = (h, λ e l. absurd (omega (arith, l)))
  set_in (arc ∷ arcs) h = choose (arc.1 == n) refl h (set_in arcs)
    where
      choose : (b : Bool) → (arc.1 == n) ≡ b → (cond b (met_flags (inflow met_flags arcs exit n start) (exit arc.0)) (inflow met_flags arcs exit n start)).set ≡ true
          → ((inflow met_flags arcs exit n start).set ≡ true → (start.set ≡ true) × ((e : ℕ) → e < length arcs → target arcs e ≡ n → (exit (source arcs e)).set ≡ true))
          → (start.set ≡ true) × ((e : ℕ) → e < length (arc ∷ arcs) → target (arc ∷ arcs) e ≡ n → (exit (source (arc ∷ arcs) e)).set ≡ true)
      choose true q h rest =
          let both = and_both (inflow met_flags arcs exit n start).set (exit arc.0).set h in
          let r = rest both.0 in
          (r.0, each both.1 r.1)
        where
          each : (exit arc.0).set ≡ true → ((e : ℕ) → e < length arcs → target arcs e ≡ n → (exit (source arcs e)).set ≡ true) → (e : ℕ) → e < length (arc ∷ arcs) → target (arc ∷ arcs) e ≡ n → (exit (source (arc ∷ arcs) e)).set ≡ true
          each here r zero l t = here
          each here r (suc e) l t = r e (omega (arith, l)) t
      choose false q h rest =
          let r = rest h in
          (r.0, each r.1)
        where
          each : ((e : ℕ) → e < length arcs → target arcs e ≡ n → (exit (source arcs e)).set ≡ true) → (e : ℕ) → e < length (arc ∷ arcs) → target (arc ∷ arcs) e ≡ n → (exit (source (arc ∷ arcs) e)).set ≡ true
          each r zero l t = absurd (true≢false (sym (eq-eqb arc.1 n t) ∙ q))
          each r (suc e) l t = r e (omega (arith, l)) t

  in_set : (arcs : List (ℕ × ℕ)) → start.set ≡ true → ((e : ℕ) → e < length arcs → target arcs e ≡ n → (exit (source arcs e)).set ≡ true) → (inflow met_flags arcs exit n start).set ≡ true
  in_set [] h each = h
  in_set (arc ∷ arcs) h each = choose (arc.1 == n) refl (in_set arcs h (λ e l t. each (suc e) (omega (arith, l)) t))
    where
      choose : (b : Bool) → (arc.1 == n) ≡ b → (inflow met_flags arcs exit n start).set ≡ true → (cond b (met_flags (inflow met_flags arcs exit n start) (exit arc.0)) (inflow met_flags arcs exit n start)).set ≡ true
      choose true q rest = both_and (inflow met_flags arcs exit n start).set (exit arc.0).set rest (each 0 (omega arith) (eqb-true arc.1 n q))
      choose false q rest = rest

-- ---- marks

leaves_then : (k : Mark) (x c : Bool) → (x ≡ true → c ≡ true) → leaves k x ≡ true → after_mark k c ≡ true
leaves_then Write x c h t = refl
leaves_then Kill x c h t = absurd cc
leaves_then Pass x c h t = h t

-- a path with its last arc
record EndsWith (arcs : List (ℕ × ℕ)) (u : ℕ) (path : List ℕ) (v : ℕ) : Type 0 where
  pub front : List ℕ
  pub arc : ℕ
  pub is_arc : arc < length arcs
  pub leads : IsPath arcs u front (source arcs arc)
  pub ends : target arcs arc ≡ v
  pub split : path ≡ front ++ arc ∷ []

last_arc : (arcs : List (ℕ × ℕ)) (u e : ℕ) (path : List ℕ) (v : ℕ) → IsPath arcs u (e ∷ path) v → EndsWith arcs u (e ∷ path) v
last_arc arcs u e [] v leads = record { front = []; arc = e; is_arc = leads.0; leads = sym leads.1; ends = leads.2; split = refl }
last_arc arcs u e (g ∷ path) v leads =
    let rest = last_arc arcs (target arcs e) g path v leads.2 in
    record {
      front = e ∷ rest.front;
      arc = rest.arc;
      is_arc = rest.is_arc;
      leads = (leads.0, leads.1, rest.leads);
      ends = rest.ends;
      split = ap (λ l. e ∷ l) rest.split;
    }

module _ (arcs : List (ℕ × ℕ)) (n : ℕ) (some : 0 < n) (mark : ℕ → Mark) (m : Place → Mark) (points : (v : ℕ) → v < n → m (at_point v) ≡ mark v) (edges : (e : ℕ) → e < length arcs → m (on_edge e) ≡ Pass) (within : ArcsWithin arcs n)
    (reached : (w : ℕ) → w < n → Connects arcs 0 w)
    (start entry exit : ℕ → Flag) (starts : (v : ℕ) → v < n → start v ≡ flag_of (begins v))
    (greatest : IsGreatestFixedPoint (λ x y. Unit {0}) met_flags (λ v x. flag_of (leaves (mark v) x.set)) arcs n start entry exit) where
  abbrev Invalid : ℕ → Type 0
  Invalid v = ReachedInvalid arcs m v

  -- what a path carries with an arc more at its end
  carried_last : (path : List ℕ) (e : ℕ) → e < length arcs → carried m (met arcs (path ++ e ∷ [])) false ≡ after_mark (mark (source arcs e)) (carried m (met arcs path) false)
  carried_last path e h =
      let c = carried m (met arcs path) false in
      ap (λ places. carried m places false) (met-append arcs path (e ∷ []))
      ∙ (carried-append m (met arcs path) (met arcs (e ∷ [])) false
      ∙ (ap (λ k. after_mark k (after_mark (m (at_point (source arcs e))) c)) (edges e h)
      ∙ ap (λ k. after_mark k c) (points (source arcs e) (within e h).0)))

  invalid_behind : (e : ℕ) → e < length arcs → (path : List ℕ) → IsPath arcs 0 path (source arcs e) → after_mark (mark (source arcs e)) (carried m (met arcs path) false) ≡ false → Invalid (target arcs e)
  invalid_behind e h path leads f = record {
    path = path ++ e ∷ [];
    leads = IsPath-append arcs 0 path (source arcs e) (e ∷ []) (target arcs e) leads (IsPath-one arcs e h);
    invalid = invalid-carried m (met arcs (path ++ e ∷ [])) (carried_last path e h ∙ f);
  }

  invalid_at_start : Invalid 0
  invalid_at_start = record { path = []; leads = refl; invalid = invalid-carried m [] refl }

  start_clear : (start 0).set ≡ false
  start_clear = ap (λ (f : Flag). f.set) (starts 0 some)

  -- ---- a flag that is set holds on every path

  set_at : (v : ℕ) → v < n → (entry v).set ≡ true → ((start v).set ≡ true) × ((e : ℕ) → e < length arcs → target arcs e ≡ v → (exit (source arcs e)).set ≡ true)
  set_at v h t = set_in exit v (start v) arcs (sym (ap (λ (f : Flag). f.set) (greatest.fixed.entries v h)) ∙ t)

  along : (u : ℕ) (path : List ℕ) (v : ℕ) (c : Bool) → IsPath arcs u path v → ((entry u).set ≡ true → c ≡ true) → (entry v).set ≡ true → carried m (met arcs path) c ≡ true
  along u [] v c leads holds t = holds (subst (λ w. (entry w).set ≡ true) (sym leads) t)
  along u (e ∷ path) v c leads holds t =
      let s = source arcs e in
      let w = within e leads.0 in
      along (target arcs e) path v (after_mark (m (on_edge e)) (after_mark (m (at_point s)) c)) leads.2
      (λ there.
      let left : leaves (mark s) (entry s).set ≡ true = sym (ap (λ (f : Flag). f.set) (greatest.fixed.exits s w.0)) ∙ (set_at (target arcs e) w.1 there).1 e leads.0 refl in
      ap (λ k. after_mark k (after_mark (m (at_point s)) c)) (edges e leads.0)
      ∙ (ap (λ k. after_mark k c) (points s w.0)
      ∙ leaves_then (mark s) (entry s).set c (λ x. holds (subst (λ y. (entry y).set ≡ true) leads.1 x)) left))
      t

  sound : (v : ℕ) → v < n → (entry v).set ≡ true → ¬ Invalid v
  sound v h t r =
      let valid = along 0 r.path v false r.leads (λ z. sym start_clear ∙ (set_at 0 some z).0) t in
      true≢false (sym valid ∙ carried-invalid m (met arcs r.path) r.invalid)

  -- ---- what holds on every path is set

  module _ (d : (w : ℕ) → w < n → Invalid w ⊎ ¬ Invalid w) where
    good_at : (w : ℕ) → (w < n) ⊎ (n ≤ w) → Bool
    good_at w (inl h) = fails (d w h)
    good_at w (inr past) = true

    good : ℕ → Bool
    good w = good_at w (cases_lt w n)

    good_at_told : (w : ℕ) (c : (w < n) ⊎ (n ≤ w)) → w < n → (good_at w c ≡ true) ↔ ¬ Invalid w
    unfolding good_at
    good_at_told w (inl h) k = fails_told (d w h)
    good_at_told w (inr past) k = absurd (omega (arith, past, k))

    good_told : (w : ℕ) → w < n → (good w ≡ true) ↔ ¬ Invalid w
    unfolding good
    good_told w h = good_at_told w (cases_lt w n) h

    no_start : (w : ℕ) → ¬ Invalid w → begins w ≡ true
    no_start zero h = absurd (h invalid_at_start)
    no_start (suc w) h = refl

    goes_on : (e : ℕ) → e < length arcs → ¬ Invalid (target arcs e) → (k : Mark) → mark (source arcs e) ≡ k → leaves k (good (source arcs e)) ≡ true
    goes_on e h valid Write same = refl
    goes_on e h valid Kill same =
        let to = reached (source arcs e) (within e h).0 in
        absurd (valid (invalid_behind e h to.path to.leads (ap (λ k. after_mark k (carried m (met arcs to.path) false)) same)))
    goes_on e h valid Pass same =
        (good_told (source arcs e) (within e h).0).1
        (λ r. valid (invalid_behind e h r.path r.leads (ap (λ k. after_mark k (carried m (met arcs r.path) false)) same ∙ carried-invalid m (met arcs r.path) r.invalid)))

    stops_at : (s : ℕ) → s < n → (path : List ℕ) → IsPath arcs 0 path s → (k : Mark) → leaves k (good s) ≡ true → after_mark k (carried m (met arcs path) false) ≡ false → ⊥
    stops_at s h path leads Write t f = true≢false f
    stops_at s h path leads Kill t f = true≢false (sym t)
    stops_at s h path leads Pass t f = (good_told s h).0 t (record { path = path; leads = leads; invalid = invalid-carried m (met arcs path) f })

    not_invalid : (w : ℕ) → (start w).set ≡ true → ((e : ℕ) → e < length arcs → target arcs e ≡ w → leaves (mark (source arcs e)) (good (source arcs e)) ≡ true) → (path : List ℕ) → IsPath arcs 0 path w → carried m (met arcs path) false ≡ false → ⊥
    not_invalid w begin each [] leads f = true≢false (sym begin ∙ (ap (λ v. (start v).set) (sym leads) ∙ start_clear))
    not_invalid w begin each (g ∷ path) leads f =
        let last = last_arc arcs 0 g path w leads in
        stops_at (source arcs last.arc) (within last.arc last.is_arc).0 last.front last.leads (mark (source arcs last.arc)) (each last.arc last.is_arc last.ends)
        (sym (carried_last last.front last.arc last.is_arc) ∙ (ap (λ p. carried m (met arcs p) false) (sym last.split) ∙ f))

    good_entry : ℕ → Flag
    good_entry w = flag_of (good w)

    good_exit : ℕ → Flag
    good_exit w = flag_of (leaves (mark w) (good w))

    good_fixed : IsFixedPoint met_flags (λ v x. flag_of (leaves (mark v) x.set)) arcs n start good_entry good_exit
    unfolding good_entry good_exit
    good_fixed = record {
      entries = λ w h. ap flag_of (same_bool (good w) (inflow met_flags arcs (λ v. flag_of (leaves (mark v) (good v))) w (start w)).set
          (λ g.
          let valid = (good_told w h).0 g in
          in_set (λ v. flag_of (leaves (mark v) (good v))) w (start w) arcs
          (ap (λ (f : Flag). f.set) (starts w h) ∙ no_start w valid)
          (λ e l t. goes_on e l (λ r. valid (subst (λ v. Invalid v) t r)) (mark (source arcs e)) refl))
          (λ i.
          let flows = set_in (λ v. flag_of (leaves (mark v) (good v))) w (start w) arcs i in
          (good_told w h).1 (λ r. not_invalid w flows.0 flows.1 r.path r.leads (carried-invalid m (met arcs r.path) r.invalid))));
      exits = λ w h. refl;
    }

    good_set : (v : ℕ) → v < n → ¬ Invalid v → (entry v).set ≡ false → ⊥
    unfolding good_entry
    good_set v h valid f =
        let below = (greatest.greatest good_entry good_exit (λ w l. tt) good_fixed v h).0 in
        let both : (good v && (entry v).set) ≡ true = ap (λ (x : Flag). x.set) below ∙ (good_told v h).1 valid in
        true≢false (sym (and_both (good v) (entry v).set both).1 ∙ f)

  complete : (v : ℕ) → v < n → ¬ Invalid v → (entry v).set ≡ true
  complete v h valid = ⊎_elim
      (λ (t : (entry v).set ≡ true). t)
      (λ (f : (entry v).set ≡ false). absurd (all_decided Invalid n (λ d. good_set d v h valid f)))
      (cases_Bool (entry v).set)

  pub set_where_valid : (v : ℕ) → v < n → ((entry v).set ≡ true) ↔ ¬ Invalid v
  set_where_valid v h = (sound v h, complete v h)

-- the bits of the flags at the entries
pub bits_told : (arcs : List (ℕ × ℕ)) (marks : List Mark) (n : ℕ) (d : Flag) (start entry exit : List Flag) (bits : List Bool) → n ≡ length marks → 0 < n → ArcsWithin arcs n
    → ((v : ℕ) → v < n → get_or start v d ≡ flag_of (begins v))
    → IsGreatestFixedPoint (λ x y. Unit {0}) met_flags (λ v x. flag_of (leaves (mark_of marks v) x.set)) arcs n (λ v. get_or start v d) (λ v. get_or entry v d) (λ v. get_or exit v d)
    → length entry ≡ n → bits ≡ map (λ f. f.set) entry → ((w : ℕ) → w < n → Connects arcs 0 w)
    → (v : ℕ) → v < n → IsSet bits v ↔ ¬ ReachedInvalid arcs (with_points arcs marks) v
bits_told arcs marks n d start entry exit bits count some within starts greatest len are reached v h =
    let told = set_where_valid arcs n some (mark_of marks) (with_points arcs marks) (λ w k. refl) (λ e k. get_or-replicate (length arcs) e Pass Write k) within reached
    (λ w. get_or start w d) (λ w. get_or entry w d) (λ w. get_or exit w d) starts greatest v h in
    let inside : v < length entry = omega (arith, h, len) in
    let read : get_or bits v false ≡ (get_or entry v d).set = ap (λ l. get_or l v false) are ∙ get_or-map (λ (f : Flag). f.set) entry v d false inside in
    (λ s. told.0 (sym read ∙ s), λ k. read ∙ told.1 k)
