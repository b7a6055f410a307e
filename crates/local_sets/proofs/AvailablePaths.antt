-- Where each path has an occurrence after its last kill: by the points, and by the sets at the heads of blocks.
use Rattle.std.proofs.Common.{◌≡◌, ◌<◌, ◌↔◌, ℕ, true, false, List, [], ◌∷◌, ◌++◌, All, length, refl, sym, ap, ◌∙◌, subst, inl, inr, ⊎_elim}
use Rattle.std.proofs.lemmas.Bool.{cases_Bool, true≢false}
use Rattle.std.proofs.lemmas.List.Elements.{All-nil, All-cons, All-head, All-tail}
use Rattle.point_graph.specs.Graph.{Point, Start, Head, Place, point_before}
use Rattle.expressions.specs.declared.syntax.Event.{Event}
use Rattle.expressions.specs.declared.syntax.Event.TheVariants.{Occurs, Kills, Bars, Passes}
use Rattle.flow_paths.specs.declared.marks.Mark.{Mark}
use Rattle.flow_paths.specs.declared.marks.Mark.TheVariants.{Write, Kill, Pass}
use Rattle.flow_paths.specs.Paths.{source, target, IsPath, at_point, on_edge, met, IsValid}
use Rattle.flow_paths.specs.Paths as paths
use Rattle.flow_paths.specs.Marks.{ValidBy, ReachedInvalid}
use Rattle.flow_paths.proofs.Validity.{carried, carried-valid, valid-carried, carried-invalid, invalid-carried}
use Rattle.placement.specs.Placements as placements
use Rattle.local_sets.specs.declared.blocks.BlockSets.{BlockSets}
use Rattle.local_sets.specs.Heads.{mark_of_event}
use Rattle.local_sets.specs.Reaching.{OccursAt, IsAvailable}
use Rattle.local_sets.proofs.BlockPaths.{Goes, IsSetting, same_at_head, same_at_term}

-- what follows a prefix keeps what holds of each part
All-after : (P : paths.Place → Type 0) (first second : List paths.Place) → All P (first ++ second) → All P second
All-after P [] second h = h
All-after P (m ∷ first) second h = All-after P first second (All-tail P m (first ++ second) h)

All-both : (P Q R : paths.Place → Type 0) → ((m : paths.Place) → P m → Q m → R m) → (places : List paths.Place) → All P places → All Q places → All R places
All-both P Q R f places p q k d h = f _ (p k d h) (q k d h)

-- two readings of what writes and kills, that agree at each place of a path, agree on its validity
IsValid-agree : (W K W' K' : paths.Place → Type 0) (places : List paths.Place) → All (λ m. (W m → W' m) × (K' m → K m)) places → IsValid W K places → IsValid W' K' places
IsValid-agree W K W' K' places h v =
    let P : paths.Place → Type 0 = λ m. (W m → W' m) × (K' m → K m) in
    let rest : All P (v.write ∷ v.after) = All-after P v.before (v.write ∷ v.after) (subst (λ x. All P x) v.split h) in
    record {
      before = v.before;
      write = v.write;
      after = v.after;
      split = v.split;
      writes = (All-head P v.write v.after rest).0 v.writes;
      unkilled = All-both P (λ m. ¬ K m) (λ m. ¬ K' m) (λ m a b c. b (a.1 c)) v.after (All-tail P v.write v.after rest) v.unkilled;
    }

-- the mark of a place by the events of the points
abbrev pub mark_by : (ℕ → Event) → paths.Place → Mark
mark_by event (at_point v) = mark_of_event (event v)
mark_by event (on_edge e) = Pass

write_occurs : (x : Event) → mark_of_event x ≡ Write → x ≡ Occurs
write_occurs Occurs h = refl
write_occurs Kills h = absurd cc
write_occurs Bars h = absurd cc
write_occurs Passes h = absurd cc

kill_kills : (x : Event) → mark_of_event x ≡ Kill → x ≡ Kills
kill_kills Occurs h = absurd cc
kill_kills Kills h = refl
kill_kills Bars h = absurd cc
kill_kills Passes h = absurd cc

module _ (arcs : List (ℕ × ℕ)) (At : ℕ → Point → Type 0) (len : ℕ → ℕ) (event : ℕ → Event) (sets : ℕ → BlockSets) (setting : IsSetting arcs At len event sets)
    (Is : ℕ → Event → Type 0) (is_event : (v : ℕ) (x : Point) → At v x → Is v (event v)) (one : (v : ℕ) (a b : Event) → Is v a → Is v b → a ≡ b)
    (start : At 0 Start)
    (mark : paths.Place → Mark)
    (points : (v : ℕ) (x : Point) → At v x → mark (at_point v) ≡ mark_of_event (sets v).last)
    (edges : (e : ℕ) → e < length arcs → mark (on_edge e) ≡ Pass) where
  -- a point of the graph, or an edge
  Told : paths.Place → Type 0
  Told (at_point v) = Is v (event v)
  Told (on_edge e) = Unit {0}

  begins_of : (u w : ℕ) → Goes arcs At len event sets u w → (x : Point) × At u x
  begins_of u w (inl enters) = (Start, enters.begins)
  begins_of u w (inr (inl inside)) = (point_before inside.block inside.place, inside.begins)
  begins_of u w (inr (inr leaves)) = (Place leaves.block (len leaves.block), leaves.begins)

  told_met : (u : ℕ) (path : List ℕ) (v : ℕ) → IsPath arcs u path v → All Told (met arcs path)
  unfolding Told
  told_met u [] v h = All-nil Told
  told_met u (e ∷ path) v h =
      let at = begins_of (source arcs e) (target arcs e) (setting.goes e h.0) in
      All-cons Told (at_point (source arcs e)) (on_edge e ∷ met arcs path) (is_event (source arcs e) at.0 at.1)
      (All-cons Told (on_edge e) (met arcs path) tt (told_met (target arcs e) path v h.2))

  writes_agree : (m : paths.Place) → Told m → (mark_by event m ≡ Write) ↔ OccursAt Is m
  unfolding Told
  writes_agree (at_point v) t = (λ w. subst (Is v) (write_occurs (event v) w) t, λ o. ap mark_of_event (one v (event v) Occurs t o))
  writes_agree (on_edge e) t = (λ w. absurd cc, λ o. absurd o)

  kills_agree : (m : paths.Place) → Told m → (mark_by event m ≡ Kill) ↔ placements.Kills Is m
  unfolding Told
  kills_agree (at_point v) t = (λ w. subst (Is v) (kill_kills (event v) w) t, λ o. ap mark_of_event (one v (event v) Kills t o))
  kills_agree (on_edge e) t = (λ w. absurd cc, λ o. absurd o)

  valid_agree : (u : ℕ) (path : List ℕ) (v : ℕ) → IsPath arcs u path v → ValidBy (mark_by event) (met arcs path) ↔ IsValid (OccursAt Is) (placements.Kills Is) (met arcs path)
  valid_agree u path v h =
      let inside = told_met u path v h in (
        IsValid-agree (λ m. mark_by event m ≡ Write) (λ m. mark_by event m ≡ Kill) (OccursAt Is) (placements.Kills Is) (met arcs path) (λ k d l. let i = inside k d l in ((writes_agree _ i).0, (kills_agree _ i).1)),
        IsValid-agree (OccursAt Is) (placements.Kills Is) (λ m. mark_by event m ≡ Write) (λ m. mark_by event m ≡ Kill) (met arcs path) (λ k d l. let i = inside k d l in ((writes_agree _ i).1, (kills_agree _ i).0)),
      )

  available_where : (v : ℕ) → ((path : List ℕ) → IsPath arcs 0 path v → carried (mark_by event) (met arcs path) false ≡ carried mark (met arcs path) false) → (¬ ReachedInvalid arcs mark v) ↔ IsAvailable arcs Is v
  available_where v same = (
    λ none path leads. ⊎_elim
        (λ (t : carried mark (met arcs path) false ≡ true). (valid_agree 0 path v leads).0 (valid-carried (mark_by event) (met arcs path) (same path leads ∙ t)))
        (λ (f : carried mark (met arcs path) false ≡ false). absurd (none (record { path = path; leads = leads; invalid = invalid-carried mark (met arcs path) f })))
        (cases_Bool (carried mark (met arcs path) false)),
    λ all r.
        let valid = (valid_agree 0 r.path v r.leads).1 (all r.path r.leads) in
        true≢false (sym (carried-valid (mark_by event) (met arcs r.path) false valid) ∙ (same r.path r.leads ∙ carried-invalid mark (met arcs r.path) r.invalid)),
  )

  pub available_at_head : (v b : ℕ) → At v (Head b) → (¬ ReachedInvalid arcs mark v) ↔ IsAvailable arcs Is v
  available_at_head v b there = available_where v (λ path leads. same_at_head arcs At len event sets setting (mark_by event) mark (λ u x h. refl) points (λ e h. refl) edges 0 path v b start leads there)

  pub available_at_term : (v b : ℕ) → At v (Place b (len b)) → (¬ ReachedInvalid arcs mark v) ↔ IsAvailable arcs Is v
  available_at_term v b there = available_where v (λ path leads. same_at_term arcs At len event sets setting (mark_by event) mark (λ u x h. refl) points (λ e h. refl) edges 0 path v b start leads there)
