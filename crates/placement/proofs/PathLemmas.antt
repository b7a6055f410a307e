-- What the marks say of placements.
use Rattle.std.proofs.Common.{◌≡◌, ◌<◌, ◌↔◌, ◌⊎◌, ℕ, Bool, true, false, List, [], ◌∷◌, ◌++◌, All, Option, Some, None, MatchOption, length, get_or, sym, subst, inl, inr, ⊎_elim, arith}
use Rattle.std.proofs.lemmas.Bool.{cases_Bool}
use Rattle.std.proofs.lemmas.List.Elements.{All-nil, All-cons, All-head, All-tail}
use Rattle.expressions.specs.declared.syntax.Event.{Event}
use Rattle.expressions.specs.declared.syntax.Event.TheVariants.{Occurs, Kills as KillsIt}
use Rattle.flow_paths.specs.declared.marks.Mark.{Mark}
use Rattle.flow_paths.specs.declared.marks.Mark.TheVariants.{Write, Kill}
use Rattle.flow_paths.specs.Paths.{source, target, ArcsWithin, IsPath, Place, at_point, on_edge, met, IsValid}
use Rattle.flow_paths.specs.Spreads.{IsSet}
use Rattle.flow_paths.specs.Marks.{mark_at, ValidBy, ReachedInvalid, MeetsUnwritten}
use Rattle.flow_paths.proofs.Validity.{carried, valid-carried, invalid-carried}
use Rattle.flow_paths.proofs.SearchSteps.{set_inside}
use Rattle.placement.specs.declared.placements.Placement.{Placement}
use Rattle.placement.specs.Placements.{Writes, Kills, IsDeleted, IsValidPath, IsCorrect, IsInvalid, IsFirstInvalid, IsLiveAt}
use Rattle.placement.specs.declared.marking.Marked.{Marked}
use Rattle.placement.specs.Marked.{ReachesDeleted, LiveBy}
use Rattle.placement.specs.Marking.{AreEvents, EdgeMarks, PointMarks, DeletedBy, DeletedAndSet, DeletedBits}

-- what follows a prefix keeps what holds of each part
All-after : (P : Place → Type 0) (first second : List Place) → All P (first ++ second) → All P second
All-after P [] second h = h
All-after P (m ∷ first) second h = All-after P first second (All-tail P m (first ++ second) h)

All-both : (P Q : Place → Type 0) → (R : Place → Type 0) → ((m : Place) → P m → Q m → R m) → (places : List Place) → All P places → All Q places → All R places
All-both P Q R f places p q k d h = f _ (p k d h) (q k d h)

-- two readings of what writes and kills, that agree at each place of a path, agree on its validity
IsValid-agree : (W K W' K' : Place → Type 0) (places : List Place) → All (λ m. (W m → W' m) × (K' m → K m)) places → IsValid W K places → IsValid W' K' places
IsValid-agree W K W' K' places h v =
    let P : Place → Type 0 = λ m. (W m → W' m) × (K' m → K m) in
    let rest : All P (v.write ∷ v.after) = All-after P v.before (v.write ∷ v.after) (subst (λ x. All P x) v.split h) in
    record {
      before = v.before;
      write = v.write;
      after = v.after;
      split = v.split;
      writes = (All-head P v.write v.after rest).0 v.writes;
      unkilled = All-both P (λ m. ¬ K m) (λ m. ¬ K' m) (λ m a b c. b (a.1 c)) v.after (All-tail P v.write v.after rest) v.unkilled;
    }

-- a place of a graph with n points and m edges
abbrev pub InGraph : ℕ → ℕ → Place → Type 0
InGraph n m (at_point v) = v < n
InGraph n m (on_edge e) = e < m

met_in_graph : (arcs : List (ℕ × ℕ)) (n : ℕ) → ArcsWithin arcs n → (u : ℕ) (path : List ℕ) (v : ℕ) → IsPath arcs u path v → All (InGraph n (length arcs)) (met arcs path)
met_in_graph arcs n within u [] v h = All-nil (InGraph n (length arcs))
met_in_graph arcs n within u (e ∷ path) v h =
    All-cons (InGraph n (length arcs)) (at_point (source arcs e)) (on_edge e ∷ met arcs path) (within e h.0).0
    (All-cons (InGraph n (length arcs)) (on_edge e) (met arcs path) h.0 (met_in_graph arcs n within (target arcs e) path v h.2))

-- a path from a point of the graph ends at one
ends_inside : (arcs : List (ℕ × ℕ)) (n : ℕ) → ArcsWithin arcs n → (u : ℕ) (path : List ℕ) (v : ℕ) → u < n → IsPath arcs u path v → v < n
ends_inside arcs n within u [] v i h = subst (λ x. x < n) h i
ends_inside arcs n within u (e ∷ path) v i h = ends_inside arcs n within (target arcs e) path v (within e h.0).1 h.2

-- a graph of n points with the events of an expression, of which each point has one, and a placement with its marks
pub record Given (arcs : List (ℕ × ℕ)) (n : ℕ) (Is : ℕ → Event → Type 0) (p : Placement) (events : List Event) (points edges : List Mark) : Type 0 where
  pub within : ArcsWithin arcs n
  pub told : AreEvents Is n events
  pub one : (v : ℕ) (a b : Event) → Is v a → Is v b → a ≡ b
  pub inside : (v : ℕ) (a : Event) → Is v a → v < n
  pub point_marks : PointMarks events p.kept points
  pub edge_marks : EdgeMarks (length arcs) p.inserted edges

module _ (arcs : List (ℕ × ℕ)) (n : ℕ) (Is : ℕ → Event → Type 0) (p : Placement) (events : List Event) (points edges : List Mark) (given : Given arcs n Is p events points edges) where
  listed : (v : ℕ) → v < n → v < length events
  listed v h = let l : length events ≡ n = given.told.len in omega arith

  is_event : (v : ℕ) (a : Event) → v < n → (get_or events v Occurs ≡ a) ↔ Is v a
  is_event v a h = (λ e. subst (λ x. Is v x) e (given.told.are v h), λ i. given.one v (get_or events v Occurs) a (given.told.are v h) i)

  writes_agree : (m : Place) → InGraph n (length arcs) m → (mark_at points edges m ≡ Write) ↔ Writes Is p m
  writes_agree (at_point v) h = (
    λ w. let r = (given.point_marks.writes v (listed v h)).0 w in ((is_event v Occurs h).0 r.0, r.1),
    λ x. (given.point_marks.writes v (listed v h)).1 ((is_event v Occurs h).1 x.0, x.1),
  )
  writes_agree (on_edge e) h = given.edge_marks.writes e h

  kills_agree : (m : Place) → InGraph n (length arcs) m → (mark_at points edges m ≡ Kill) ↔ Kills Is m
  kills_agree (at_point v) h = (
    λ w. (is_event v KillsIt h).0 ((given.point_marks.kills v (listed v h)).0 w),
    λ x. (given.point_marks.kills v (listed v h)).1 ((is_event v KillsIt h).1 x),
  )
  kills_agree (on_edge e) h = (λ k. given.edge_marks.no_kill e h k, λ k. absurd k)

  agree_on : (u : ℕ) (path : List ℕ) (v : ℕ) → IsPath arcs u path v → ValidBy (mark_at points edges) (met arcs path) ↔ IsValidPath arcs Is p path
  agree_on u path v h =
      let inside : All (InGraph n (length arcs)) (met arcs path) = met_in_graph arcs n given.within u path v h in (
        IsValid-agree (λ m. mark_at points edges m ≡ Write) (λ m. mark_at points edges m ≡ Kill) (Writes Is p) (Kills Is) (met arcs path) (λ k d l. let i = inside k d l in ((writes_agree _ i).0, (kills_agree _ i).1)),
        IsValid-agree (Writes Is p) (Kills Is) (λ m. mark_at points edges m ≡ Write) (λ m. mark_at points edges m ≡ Kill) (met arcs path) (λ k d l. let i = inside k d l in ((writes_agree _ i).1, (kills_agree _ i).0)),
      )

  -- a point is deleted exactly where it occurs and isn't marked as a write
  deleted_marks : (v : ℕ) → v < n → DeletedBy events points v ↔ IsDeleted Is p v
  deleted_marks v h = (
    λ d. ((is_event v Occurs h).0 d.0, λ c. d.1 ((given.point_marks.writes v (listed v h)).1 (d.0, c))),
    λ d. ((is_event v Occurs h).1 d.0, λ w. d.1 ((given.point_marks.writes v (listed v h)).0 w).1),
  )

  -- each path is valid or not
  valid_or_not : (u : ℕ) (path : List ℕ) (v : ℕ) → IsPath arcs u path v → IsValidPath arcs Is p path ⊎ ¬ IsValidPath arcs Is p path
  valid_or_not u path v h = ⊎_elim
      (λ (e : carried (mark_at points edges) (met arcs path) false ≡ true). inl ((agree_on u path v h).0 (valid-carried (mark_at points edges) (met arcs path) e)))
      (λ (e : carried (mark_at points edges) (met arcs path) false ≡ false). inr (λ k. invalid-carried (mark_at points edges) (met arcs path) e ((agree_on u path v h).1 k)))
      (cases_Bool (carried (mark_at points edges) (met arcs path) false))

  reached_invalid : (v : ℕ) → v < n → DeletedBy events points v → ReachedInvalid arcs (mark_at points edges) v → IsInvalid arcs Is p v
  reached_invalid v h d r = record { deleted = (deleted_marks v h).0 d; path = r.path; leads = r.leads; invalid = λ k. r.invalid ((agree_on 0 r.path v r.leads).1 k) }

  not_invalid : (v : ℕ) → v < n → ¬ (DeletedBy events points v × ReachedInvalid arcs (mark_at points edges) v) → ¬ IsInvalid arcs Is p v
  not_invalid v h fails i = fails ((deleted_marks v h).1 i.deleted, record { path = i.path; leads = i.leads; invalid = λ k. i.invalid ((agree_on 0 i.path v i.leads).0 k) })

  none_correct : ((w : ℕ) → w < length events → ¬ (DeletedBy events points w × ReachedInvalid arcs (mark_at points edges) w)) → IsCorrect arcs Is p
  none_correct none v path d k =
      let h = given.inside v Occurs d.0 in
      ⊎_elim
      (λ (valid : IsValidPath arcs Is p path). valid)
      (λ (fails : ¬ IsValidPath arcs Is p path). absurd (not_invalid v h (none v (listed v h)) (record { deleted = d; path = path; leads = k; invalid = fails })))
      (valid_or_not 0 path v k)

  -- the first by the marks is the first of the placement
  pub first_is : (r : Option ℕ) → MatchOption r ((w : ℕ) → w < length events → ¬ (DeletedBy events points w × ReachedInvalid arcs (mark_at points edges) w)) (λ v. (v < length events) × (DeletedBy events points v × ReachedInvalid arcs (mark_at points edges) v) × ((w : ℕ) → w < v → ¬ (DeletedBy events points w × ReachedInvalid arcs (mark_at points edges) w))) → MatchOption r (IsCorrect arcs Is p) (IsFirstInvalid arcs Is p)
  first_is None m = none_correct m
  first_is (Some v) m =
      let l : length events ≡ n = given.told.len in
      let here : v < length events = m.0 in
      let h : v < n = omega arith in
      record { is_invalid = reached_invalid v h m.1.0 m.1.1; first = λ w lt. not_invalid w (omega (arith, lt, h)) (m.2 w lt) }

  -- what is live by the marks is live
  pub live_is : (m : Marked) → m.arcs.items ≡ arcs → m.events.items ≡ events → m.at_point.items ≡ points → m.at_edge.items ≡ edges → (v : ℕ) → v < n → LiveBy m v ↔ IsLiveAt arcs Is p v
  live_is m ea ee ep ed v h = (
    λ l.
        let leads : IsPath arcs v l.path l.occurrence = subst (λ a. IsPath a v l.path l.occurrence) ea l.leads in
        let unwritten : All (λ x. ¬ (mark_at points edges x ≡ Write)) (met arcs l.path) =
        subst (λ d. All (λ x. ¬ (mark_at points d x ≡ Write)) (met arcs l.path)) ed
        (subst (λ q. All (λ x. ¬ (mark_at q m.at_edge.items x ≡ Write)) (met arcs l.path)) ep
        (subst (λ a. All (λ x. ¬ (mark_at m.at_point.items m.at_edge.items x ≡ Write)) (met a l.path)) ea l.unwritten)) in
        let inside : l.occurrence < n = ends_inside arcs n given.within v l.path l.occurrence h leads in
        let deleted : DeletedBy events points l.occurrence = subst (λ q. DeletedBy events q l.occurrence) ep (subst (λ x. DeletedBy x m.at_point.items l.occurrence) ee l.deleted) in
        record {
          path = l.path;
          occurrence = l.occurrence;
          leads = leads;
          deleted = (deleted_marks l.occurrence inside).0 deleted;
          unwritten = All-both (InGraph n (length arcs)) (λ x. ¬ (mark_at points edges x ≡ Write)) (λ x. ¬ Writes Is p x) (λ x i a w. a ((writes_agree x i).1 w)) (met arcs l.path) (met_in_graph arcs n given.within v l.path l.occurrence leads) unwritten;
        },
    λ l.
        let inside : l.occurrence < n = ends_inside arcs n given.within v l.path l.occurrence h l.leads in
        let deleted : DeletedBy events points l.occurrence = (deleted_marks l.occurrence inside).1 l.deleted in
        let unwritten : All (λ x. ¬ (mark_at points edges x ≡ Write)) (met arcs l.path) = All-both (InGraph n (length arcs)) (λ x. ¬ Writes Is p x) (λ x. ¬ (mark_at points edges x ≡ Write)) (λ x i a w. a ((writes_agree x i).0 w)) (met arcs l.path) (met_in_graph arcs n given.within v l.path l.occurrence l.leads) l.unwritten in
        record {
          path = l.path;
          occurrence = l.occurrence;
          leads = subst (λ a. IsPath a v l.path l.occurrence) (sym ea) l.leads;
          inside = subst (λ x. l.occurrence < length x) (sym ee) (listed l.occurrence inside);
          deleted = subst (λ q. DeletedBy m.events.items q l.occurrence) (sym ep) (subst (λ x. DeletedBy x points l.occurrence) (sym ee) deleted);
          unwritten = subst (λ d. All (λ x. ¬ (mark_at m.at_point.items d x ≡ Write)) (met m.arcs.items l.path)) (sym ed)
              (subst (λ q. All (λ x. ¬ (mark_at q edges x ≡ Write)) (met m.arcs.items l.path)) (sym ep)
              (subst (λ a. All (λ x. ¬ (mark_at points edges x ≡ Write)) (met a l.path)) (sym ea) unwritten));
        },
  )

-- ---- the marks alone

-- the first deleted occurrence that is reached invalid, or none
abbrev pub FirstByMarks : Marked → Option ℕ → Type 0
FirstByMarks m r = MatchOption r ((w : ℕ) → w < length m.events.items → ¬ ReachesDeleted m w) (λ v. (v < length m.events.items) × ReachesDeleted m v × ((w : ℕ) → w < v → ¬ ReachesDeleted m w))

-- the first deleted occurrence whose bit is set, where the bits hold what is reached invalid
pub first_by_bits : (m : Marked) (bits : List Bool) → ((v : ℕ) → IsSet bits v ↔ ReachedInvalid m.arcs.items (mark_at m.at_point.items m.at_edge.items) v) → (r : Option ℕ)
    → MatchOption r ((w : ℕ) → w < length m.events.items → ¬ DeletedAndSet m.events.items m.at_point.items bits w) (λ v. (v < length m.events.items) × DeletedAndSet m.events.items m.at_point.items bits v × ((w : ℕ) → w < v → ¬ DeletedAndSet m.events.items m.at_point.items bits w))
    → FirstByMarks m r
first_by_bits m bits are None none = λ w h d. none w h (d.0.0, d.0.1, (are w).1 d.1)
first_by_bits m bits are (Some v) f = (f.0, ((f.1.0, f.1.1), (are v).0 f.1.2), λ w h d. f.2 w h (d.0.0, d.0.1, (are w).1 d.1))

-- what meets a set goal unwritten, where the goals are the deleted occurrences
pub live_by_goals : (m : Marked) (goals : List Bool) → DeletedBits m.events.items m.at_point.items (length m.events.items) goals → (v : ℕ) → MeetsUnwritten m.arcs.items (mark_at m.at_point.items m.at_edge.items) goals v ↔ LiveBy m v
live_by_goals m goals are v = (
  λ x.
      let inside : x.goal < length m.events.items = subst (λ k. x.goal < k) are.len (set_inside goals x.goal x.is_goal) in
      record { path = x.path; occurrence = x.goal; leads = x.leads; inside = inside; deleted = (are.bits_are x.goal inside).0 x.is_goal; unwritten = x.unwritten },
  λ l. record { path = l.path; goal = l.occurrence; leads = l.leads; is_goal = (are.bits_are l.occurrence l.inside).1 l.deleted; unwritten = l.unwritten },
)
