-- Where some path meets an occurrence before a kill: by the points, and by the sets at the heads of blocks.
use Rattle.std.proofs.Common.{◌≡◌, ◌<◌, ◌≤◌, ◌+◌, ◌⊎◌, ◌↔◌, ℕ, zero, suc, Bool, true, false, List, [], ◌∷◌, All, length, get_or, drop, refl, sym, ap, ◌∙◌, subst, inl, inr, ⊎_elim, arith}
use Rattle.std.proofs.lemmas.Bool.{true≢false}
use Rattle.std.proofs.lemmas.List.{drop_more, drop_all}
use Rattle.std.proofs.lemmas.List.Elements.{All-nil, All-cons, All-head, All-tail}
use Rattle.point_graph.specs.Graph.{Point, Start, Head, Place, point_before}
use Rattle.expressions.specs.declared.syntax.Event.{Event}
use Rattle.expressions.specs.declared.syntax.Event.TheVariants.{Occurs, Kills, Bars, Passes}
use Rattle.flow_paths.specs.declared.marks.Mark.{Mark}
use Rattle.flow_paths.specs.declared.marks.Mark.TheVariants.{Write, Pass}
use Rattle.flow_paths.specs.Paths.{source, target, IsPath, at_point, on_edge, met}
use Rattle.flow_paths.specs.Paths as paths
use Rattle.flow_paths.specs.Spreads.{IsSet}
use Rattle.flow_paths.specs.Marks.{MeetsUnwritten}
use Rattle.placement.specs.Placements as placements
use Rattle.local_sets.specs.declared.blocks.BlockSets.{BlockSets}
use Rattle.local_sets.specs.Blocks.{occurs_or_kills}
use Rattle.local_sets.specs.Heads.{no_sets, stop_of_event, is_occurrence}
use Rattle.local_sets.specs.Reaching.{IsWanted}
use Rattle.local_sets.proofs.BlockPaths.{first_of, IsQuiet, BlockAt, Goes, IsSetting}

-- what a list of events begins with, from its first one
pub first_quiet : (x : Event) (xs : List Event) → IsQuiet x → first_of (x ∷ xs) ≡ first_of xs
first_quiet Occurs xs q = absurd cc
first_quiet Kills xs q = absurd cc
first_quiet Bars xs q = refl
first_quiet Passes xs q = refl

first_passes : (x : Event) (xs : List Event) → first_of (x ∷ xs) ≡ Passes → IsQuiet x × (first_of xs ≡ Passes)
first_passes Occurs xs q = absurd cc
first_passes Kills xs q = absurd cc
first_passes Bars xs q = (refl, q)
first_passes Passes xs q = (refl, q)

-- what comes first is an occurrence: this event is one, or it is quiet and one comes first behind it
first_occurs : (x : Event) (xs : List Event) → first_of (x ∷ xs) ≡ Occurs → (x ≡ Occurs) ⊎ (IsQuiet x × (first_of xs ≡ Occurs))
first_occurs Occurs xs q = inl refl
first_occurs Kills xs q = absurd cc
first_occurs Bars xs q = inr (refl, q)
first_occurs Passes xs q = inr (refl, q)

occurs_or_quiet : (x : Event) → ¬ (x ≡ Kills) → (x ≡ Occurs) ⊎ IsQuiet x
occurs_or_quiet Occurs n = inl refl
occurs_or_quiet Kills n = absurd (n refl)
occurs_or_quiet Bars n = inr refl
occurs_or_quiet Passes n = inr refl

quiet_no_kill : (x : Event) → IsQuiet x → ¬ (x ≡ Kills)
quiet_no_kill x q k = let t : occurs_or_kills x ≡ true = ap occurs_or_kills k in true≢false (sym t ∙ q)

quiet_no_occurrence : (x : Event) → IsQuiet x → ¬ (x ≡ Occurs)
quiet_no_occurrence x q k = let t : occurs_or_kills x ≡ true = ap occurs_or_kills k in true≢false (sym t ∙ q)

-- the first of events occurs, kills or passes, and it passes where it is no stop
no_stop_passes : (xs : List Event) → ¬ (stop_of_event (first_of xs) ≡ Write) → first_of xs ≡ Passes
no_stop_passes [] n = refl
no_stop_passes (Occurs ∷ xs) n = absurd (n refl)
no_stop_passes (Kills ∷ xs) n = absurd (n refl)
no_stop_passes (Bars ∷ xs) n = no_stop_passes xs n
no_stop_passes (Passes ∷ xs) n = no_stop_passes xs n

is_occurrence_told : (x : Event) → is_occurrence x ≡ true → x ≡ Occurs
is_occurrence_told Occurs h = refl
is_occurrence_told Kills h = absurd cc
is_occurrence_told Bars h = absurd cc
is_occurrence_told Passes h = absurd cc

module _ (arcs : List (ℕ × ℕ)) (At : ℕ → Point → Type 0) (len : ℕ → ℕ) (event : ℕ → Event) (sets : ℕ → BlockSets) (setting : IsSetting arcs At len event sets)
    (Is : ℕ → Event → Type 0) (is_event : (v : ℕ) (x : Point) → At v x → Is v (event v)) (one : (v : ℕ) (a b : Event) → Is v a → Is v b → a ≡ b)
    (mark : paths.Place → Mark) (bits : List Bool)
    (points : (v : ℕ) (x : Point) → At v x → mark (at_point v) ≡ stop_of_event (sets v).first)
    (edges : (e : ℕ) → e < length arcs → mark (on_edge e) ≡ Pass)
    (goals : (v : ℕ) (x : Point) → At v x → get_or bits v false ≡ is_occurrence (sets v).first) where
  abbrev Wanted : ℕ → Type 0
  Wanted v = IsWanted arcs Is v

  abbrev ByHeads : ℕ → Type 0
  ByHeads v = MeetsUnwritten arcs mark bits v

  Unkilled : paths.Place → Type 0
  Unkilled m = ¬ placements.Kills Is m

  Unwritten : paths.Place → Type 0
  Unwritten m = ¬ (mark m ≡ Write)

  begins_of : (u w : ℕ) → Goes arcs At len event sets u w → (x : Point) × At u x
  begins_of u w (inl enters) = (Start, enters.begins)
  begins_of u w (inr (inl inside)) = (point_before inside.block inside.place, inside.begins)
  begins_of u w (inr (inr leaves)) = (Place leaves.block (len leaves.block), leaves.begins)

  end_of : (u w : ℕ) → Goes arcs At len event sets u w → (x : Point) × At w x
  end_of u w (inl enters) = (Head 0, enters.ends)
  end_of u w (inr (inl inside)) = (Place inside.block inside.place, inside.ends)
  end_of u w (inr (inr leaves)) = (Head leaves.next, leaves.ends)

  -- one arc more in front
  wanted_before : (e : ℕ) → e < length arcs → (x : Point) → At (source arcs e) x → ¬ (event (source arcs e) ≡ Kills) → Wanted (target arcs e) → Wanted (source arcs e)
  unfolding Unkilled
  wanted_before e h x there lives w = record {
    path = e ∷ w.path;
    occurrence = w.occurrence;
    leads = (h, refl, w.leads);
    occurs = w.occurs;
    unkilled =
        All-cons Unkilled (at_point (source arcs e)) (on_edge e ∷ met arcs w.path) (λ k. lives (one (source arcs e) (event (source arcs e)) Kills (is_event (source arcs e) x there) k))
        (All-cons Unkilled (on_edge e) (met arcs w.path) (λ k. absurd k) w.unkilled);
  }

  by_heads_before : (e : ℕ) → e < length arcs → (x : Point) → At (source arcs e) x → ¬ (stop_of_event (sets (source arcs e)).first ≡ Write) → ByHeads (target arcs e) → ByHeads (source arcs e)
  unfolding Unwritten
  by_heads_before e h x there goes w = record {
    path = e ∷ w.path;
    goal = w.goal;
    leads = (h, refl, w.leads);
    is_goal = w.is_goal;
    unwritten =
        All-cons Unwritten (at_point (source arcs e)) (on_edge e ∷ met arcs w.path) (λ k. goes (sym (points (source arcs e) x there) ∙ k))
        (All-cons Unwritten (on_edge e) (met arcs w.path) (λ k. let p : Pass ≡ Write = sym (edges e h) ∙ k in cc) w.unwritten);
  }

  no_stop : (s : BlockSets) → s ≡ no_sets → ¬ (stop_of_event s.first ≡ Write)
  no_stop s same k = let p : Pass ≡ Write = sym (ap (λ (r : BlockSets). stop_of_event r.first) same) ∙ k in cc

  -- ---- from points to heads

  -- what a path from the point says of the search by heads
  abbrev Found : ℕ → Point → Type 0
  Found v Start = ByHeads v
  Found v (Head b) = ByHeads v
  Found v (Place b k) =
      ((h : ℕ) (es : List Event) → BlockAt arcs At len event sets h b es → (first_of (drop k es) ≡ Occurs) ⊎ ((first_of (drop k es) ≡ Passes) × ByHeads v))
      × (k ≡ len b → ByHeads v)

  record FoundAt (v : ℕ) : Type 0 where
    pub point : Point
    pub there : At v point
    pub found : Found v point

  found_as : (v : ℕ) (x : Point) → At v x → FoundAt v → Found v x
  found_as v x there f = subst (λ y. Found v y) (setting.same v f.point x f.there there) f.found

  -- a goal at the head of a block with an occurrence before any kill
  goal_here : (v b : ℕ) → At v (Head b) → (sets v).first ≡ Occurs → ByHeads v
  goal_here v b there f = record {
    path = [];
    goal = v;
    leads = refl;
    is_goal = goals v (Head b) there ∙ ap is_occurrence f;
    unwritten = All-nil (λ m. ¬ (mark m ≡ Write));
  }

  first_at : (v b : ℕ) (es : List Event) → BlockAt arcs At len event sets v b es → (sets v).first ≡ first_of es
  first_at v b es block = ap (λ (s : BlockSets). s.first) block.sets_are

  -- the events from a place on begin with that of the place
  split_at : (v h b k : ℕ) (es : List Event) → BlockAt arcs At len event sets h b es → At v (Place b k) → k ≤ len b → drop k es ≡ event v ∷ drop (suc k) es
  split_at v h b k es block there within =
      let count : length es ≡ len b + 1 = block.count in
      let same : k + 1 ≡ suc k = omega arith in
      let next : drop (k + 1) es ≡ drop (suc k) es = ap (λ n. drop n es) same in
      drop_more es k Passes (omega (arith, count, within)) ∙ (ap (λ x. x ∷ drop (k + 1) es) (block.told v k there) ∙ ap (λ l. event v ∷ l) next)

  -- an occurrence
  found_here : (v : ℕ) (x : Point) → At v x → event v ≡ Occurs → Found v x
  found_here v Start there o = absurd (quiet_no_occurrence (event v) (setting.quiet_start v there) o)
  found_here v (Head b) there o = absurd (quiet_no_occurrence (event v) (setting.quiet_head v b there) o)
  found_here v (Place b k) there o = (
    λ h es block. inl (
        let within : k ≤ len b = setting.within v b k there in
        ap first_of (split_at v h b k es block there within) ∙ ap (λ x. first_of (x ∷ drop (suc k) es)) o),
    λ last. absurd (quiet_no_occurrence (event v) (setting.quiet_term v b (subst (λ n. At v (Place b n)) last there)) o),
  )

  -- from a place to the next one
  found_inside : (e b k : ℕ) → e < length arcs → k ≤ len b → At (source arcs e) (point_before b k) → At (target arcs e) (Place b k) → ¬ (event (source arcs e) ≡ Kills) → ¬ (event (source arcs e) ≡ Occurs) → Found (target arcs e) (Place b k) → Found (source arcs e) (point_before b k)
  found_inside e b zero h within there next lives fails f =
      let u = source arcs e in
      let some = setting.blocks u b there in
      let first = first_at u b some.events some.block in
      ⊎_elim
      (λ (o : first_of some.events ≡ Occurs). goal_here u b there (first ∙ o))
      (λ (q : (first_of some.events ≡ Passes) × ByHeads (target arcs e)).
      by_heads_before e h (Head b) there (λ w. let p : Pass ≡ Write = sym (ap stop_of_event (first ∙ q.0)) ∙ w in cc) q.1)
      (f.0 u some.events some.block)
  found_inside e b (suc k) h within there next lives fails f =
      let u = source arcs e in
      let quiet : IsQuiet (event u) = ⊎_elim (λ (o : event u ≡ Occurs). absurd (fails o)) (λ (q : IsQuiet (event u)). q) (occurs_or_quiet (event u) lives) in (
        λ hd es block.
            let here : first_of (drop k es) ≡ first_of (drop (suc k) es) = ap first_of (split_at u hd b k es block there (omega (arith, within))) ∙ first_quiet (event u) (drop (suc k) es) quiet in
            ⊎_elim
            (λ (o : first_of (drop (suc k) es) ≡ Occurs). inl (here ∙ o))
            (λ (q : (first_of (drop (suc k) es) ≡ Passes) × ByHeads (target arcs e)). inr (here ∙ q.0, by_heads_before e h (Place b k) there (no_stop (sets u) (setting.place_sets u b k there)) q.1))
            (f.0 hd es block),
        λ last. absurd (omega (arith, within, last)),
      )

  found_before : (e : ℕ) → e < length arcs → ¬ (event (source arcs e) ≡ Kills) → Goes arcs At len event sets (source arcs e) (target arcs e) → FoundAt (target arcs e) → FoundAt (source arcs e)
  found_before e h lives (inl enters) f = record {
    point = Start;
    there = enters.begins;
    found = by_heads_before e h Start enters.begins (no_stop (sets (source arcs e)) (setting.start_sets (source arcs e) enters.begins)) (found_as (target arcs e) (Head 0) enters.ends f);
  }
  found_before e h lives (inr (inl inside)) f =
      let u = source arcs e in
      let b = inside.block in
      let k = inside.place in
      ⊎_elim
      (λ (o : event u ≡ Occurs). record { point = point_before b k; there = inside.begins; found = found_here u (point_before b k) inside.begins o })
      (λ (q : IsQuiet (event u)). record {
        point = point_before b k;
        there = inside.begins;
        found = found_inside e b k h inside.within inside.begins inside.ends lives (quiet_no_occurrence (event u) q) (found_as (target arcs e) (Place b k) inside.ends f);
      })
      (occurs_or_quiet (event u) lives)
  found_before e h lives (inr (inr leaves)) f =
      let u = source arcs e in
      let b = leaves.block in
      let here : ByHeads u = by_heads_before e h (Place b (len b)) leaves.begins (no_stop (sets u) (setting.place_sets u b (len b) leaves.begins)) (found_as (target arcs e) (Head leaves.next) leaves.ends f) in
      record {
        point = Place b (len b);
        there = leaves.begins;
        found = (
          λ hd es block. inr (
            ap first_of (split_at u hd b (len b) es block leaves.begins (omega arith))
                ∙ (first_quiet (event u) (drop (suc (len b)) es) (setting.quiet_term u b leaves.begins)
                ∙ ap first_of (nothing_behind hd b es block)),
            here,
          ),
          λ last. here,
        );
      }
    where
      nothing_behind : (hd b : ℕ) (es : List Event) → BlockAt arcs At len event sets hd b es → drop (suc (len b)) es ≡ []
      nothing_behind hd b es block = let count : length es ≡ len b + 1 = block.count in drop_all (suc (len b)) es (omega (arith, count))

  found_along : (path : List ℕ) (u v : ℕ) → IsPath arcs u path v → All Unkilled (met arcs path) → Is v Occurs → (x : Point) → At u x → FoundAt u
  unfolding Unkilled
  found_along [] u v leads free o x there =
      let occurs : event u ≡ Occurs = one u (event u) Occurs (is_event u x there) (subst (λ n. Is n Occurs) (sym leads) o) in
      record { point = x; there = there; found = found_here u x there occurs }
  found_along (e ∷ path) u v leads free o x there =
      let s = source arcs e in
      let goes = setting.goes e leads.0 in
      let rest = All-tail Unkilled (at_point s) (on_edge e ∷ met arcs path) free in
      let at = end_of s (target arcs e) goes in
      let next = found_along path (target arcs e) v leads.2 (All-tail Unkilled (on_edge e) (met arcs path) rest) o at.0 at.1 in
      let here = All-head Unkilled (at_point s) (on_edge e ∷ met arcs path) free in
      let begin = begins_of s (target arcs e) goes in
      subst (λ n. FoundAt n) leads.1 (found_before e leads.0 (λ k. here (subst (Is s) k (is_event s begin.0 begin.1))) goes next)

  -- ---- from heads to points

  wanted_here : (v : ℕ) (x : Point) → At v x → event v ≡ Occurs → Wanted v
  wanted_here v x there o = record {
    path = [];
    occurrence = v;
    leads = refl;
    occurs = subst (Is v) o (is_event v x there);
    unkilled = All-nil (λ m. ¬ placements.Kills Is m);
  }

  wanted_on : (u w : ℕ) (x : Point) → At u x → ¬ (event u ≡ Kills) → (arc : ℕ) → arc < length arcs → source arcs arc ≡ u → target arcs arc ≡ w → Wanted w → Wanted u
  wanted_on u w x there lives arc h leaves ends want =
      subst (λ n. Wanted n) leaves (wanted_before arc h x (subst (λ n. At n x) (sym leaves) there) (subst (λ n. ¬ (event n ≡ Kills)) (sym leaves) lives) (subst (λ n. Wanted n) (sym ends) want))

  occurs_behind : (m k h b : ℕ) (es : List Event) → BlockAt arcs At len event sets h b es → k + m ≡ len b → (v : ℕ) → At v (Place b k) → first_of (drop k es) ≡ Occurs → Wanted v
  occurs_behind zero k h b es block room v there o =
      let within : k ≤ len b = omega (arith, room) in
      let count : length es ≡ len b + 1 = block.count in
      let none : drop (suc k) es ≡ [] = drop_all (suc k) es (omega (arith, count, room)) in
      ⊎_elim
      (λ (here : event v ≡ Occurs). wanted_here v (Place b k) there here)
      (λ (r : IsQuiet (event v) × (first_of (drop (suc k) es) ≡ Occurs)). let p : Passes ≡ Occurs = sym (ap first_of none) ∙ r.1 in absurd cc)
      (first_occurs (event v) (drop (suc k) es) (ap first_of (sym (split_at v h b k es block there within)) ∙ o))
  occurs_behind (suc m) k h b es block room v there o =
      let within : k ≤ len b = omega (arith, room) in
      ⊎_elim
      (λ (here : event v ≡ Occurs). wanted_here v (Place b k) there here)
      (λ (r : IsQuiet (event v) × (first_of (drop (suc k) es) ≡ Occurs)).
      let next = setting.next v b (suc k) (omega (arith, room)) there in
      wanted_on v (target arcs next.arc) (Place b k) there (quiet_no_kill (event v) r.0) next.arc next.is_arc next.leaves refl
      (occurs_behind m (suc k) h b es block (omega (arith, room)) (target arcs next.arc) next.ends r.1))
      (first_occurs (event v) (drop (suc k) es) (ap first_of (sym (split_at v h b k es block there within)) ∙ o))

  wanted_from_head : (v b : ℕ) → At v (Head b) → (sets v).first ≡ Occurs → Wanted v
  wanted_from_head v b there o =
      let some = setting.blocks v b there in
      let next = setting.next v b 0 (omega arith) there in
      wanted_on v (target arcs next.arc) (Head b) there (quiet_no_kill (event v) (setting.quiet_head v b there)) next.arc next.is_arc next.leaves refl
      (occurs_behind (len b) 0 v b some.events some.block (omega arith) (target arcs next.arc) next.ends (sym (first_at v b some.events some.block) ∙ o))

  -- what the search by heads says of the paths from the point
  abbrev Holds : ℕ → Point → Type 0
  Holds v Start = Wanted v
  Holds v (Head b) = Wanted v
  Holds v (Place b k) =
      ((h : ℕ) (es : List Event) → BlockAt arcs At len event sets h b es → first_of (drop k es) ≡ Passes → Wanted v)
      × (k ≡ len b → Wanted v)

  record HoldsAt (v : ℕ) : Type 0 where
    pub point : Point
    pub there : At v point
    pub holds : Holds v point

  holds_as : (v : ℕ) (x : Point) → At v x → HoldsAt v → Holds v x
  holds_as v x there f = subst (λ y. Holds v y) (setting.same v f.point x f.there there) f.holds

  no_goal : (v : ℕ) (x : Point) → At v x → sets v ≡ no_sets → IsSet bits v → ⊥
  no_goal v x there none set = true≢false (sym set ∙ (goals v x there ∙ ap (λ (s : BlockSets). is_occurrence s.first) none))

  holds_here : (v : ℕ) (x : Point) → At v x → IsSet bits v → Holds v x
  holds_here v Start there set = absurd (no_goal v Start there (setting.start_sets v there) set)
  holds_here v (Head b) there set = wanted_from_head v b there (is_occurrence_told (sets v).first (sym (goals v (Head b) there) ∙ set))
  holds_here v (Place b k) there set = absurd (no_goal v (Place b k) there (setting.place_sets v b k there) set)

  holds_inside : (e b k : ℕ) → e < length arcs → k ≤ len b → At (source arcs e) (point_before b k) → ¬ (stop_of_event (sets (source arcs e)).first ≡ Write) → Holds (target arcs e) (Place b k) → Holds (source arcs e) (point_before b k)
  holds_inside e b zero h within there goes f =
      let u = source arcs e in
      let some = setting.blocks u b there in
      let first = first_at u b some.events some.block in
      let passes : first_of some.events ≡ Passes = no_stop_passes some.events (λ k. goes (ap stop_of_event first ∙ k)) in
      wanted_before e h (Head b) there (quiet_no_kill (event u) (setting.quiet_head u b there)) (f.0 u some.events some.block passes)
  holds_inside e b (suc k) h within there goes f =
      let u = source arcs e in (
        λ hd es block passes.
            let split = first_passes (event u) (drop (suc k) es) (ap first_of (sym (split_at u hd b k es block there (omega (arith, within)))) ∙ passes) in
            wanted_before e h (Place b k) there (quiet_no_kill (event u) split.0) (f.0 hd es block split.1),
        λ last. absurd (omega (arith, within, last)),
      )

  holds_before : (e : ℕ) → e < length arcs → ¬ (stop_of_event (sets (source arcs e)).first ≡ Write) → Goes arcs At len event sets (source arcs e) (target arcs e) → HoldsAt (target arcs e) → HoldsAt (source arcs e)
  holds_before e h goes (inl enters) f = record {
    point = Start;
    there = enters.begins;
    holds = wanted_before e h Start enters.begins (quiet_no_kill (event (source arcs e)) (setting.quiet_start (source arcs e) enters.begins)) (holds_as (target arcs e) (Head 0) enters.ends f);
  }
  holds_before e h goes (inr (inl inside)) f = record {
    point = point_before inside.block inside.place;
    there = inside.begins;
    holds = holds_inside e inside.block inside.place h inside.within inside.begins goes (holds_as (target arcs e) (Place inside.block inside.place) inside.ends f);
  }
  holds_before e h goes (inr (inr leaves)) f =
      let u = source arcs e in
      let b = leaves.block in
      let here : Wanted u = wanted_before e h (Place b (len b)) leaves.begins (quiet_no_kill (event u) (setting.quiet_term u b leaves.begins)) (holds_as (target arcs e) (Head leaves.next) leaves.ends f) in
      record { point = Place b (len b); there = leaves.begins; holds = (λ hd es block q. here, λ last. here) }

  holds_along : (path : List ℕ) (u v : ℕ) → IsPath arcs u path v → All Unwritten (met arcs path) → IsSet bits v → (x : Point) → At u x → HoldsAt u
  unfolding Unwritten
  holds_along [] u v leads free set x there = record { point = x; there = there; holds = holds_here u x there (subst (λ n. IsSet bits n) (sym leads) set) }
  holds_along (e ∷ path) u v leads free set x there =
      let s = source arcs e in
      let goes = setting.goes e leads.0 in
      let rest = All-tail Unwritten (at_point s) (on_edge e ∷ met arcs path) free in
      let at = end_of s (target arcs e) goes in
      let next = holds_along path (target arcs e) v leads.2 (All-tail Unwritten (on_edge e) (met arcs path) rest) set at.0 at.1 in
      let here = All-head Unwritten (at_point s) (on_edge e ∷ met arcs path) free in
      let begin = begins_of s (target arcs e) goes in
      subst (λ n. HoldsAt n) leads.1 (holds_before e leads.0 (λ k. here (points s begin.0 begin.1 ∙ k)) goes next)

  -- ---- at heads and terminators both say the same

  pub wanted_at_head : (v b : ℕ) → At v (Head b) → ByHeads v ↔ Wanted v
  unfolding Unkilled Unwritten
  wanted_at_head v b there = (
    λ m. holds_as v (Head b) there (holds_along m.path v m.goal m.leads m.unwritten m.is_goal (Head b) there),
    λ w. found_as v (Head b) there (found_along w.path v w.occurrence w.leads w.unkilled w.occurs (Head b) there),
  )

  pub wanted_at_term : (v b : ℕ) → At v (Place b (len b)) → ByHeads v ↔ Wanted v
  unfolding Unkilled Unwritten
  wanted_at_term v b there = (
    λ m. (holds_as v (Place b (len b)) there (holds_along m.path v m.goal m.leads m.unwritten m.is_goal (Place b (len b)) there)).1 refl,
    λ w. (found_as v (Place b (len b)) there (found_along w.path v w.occurrence w.leads w.unkilled w.occurs (Place b (len b)) there)).1 refl,
  )
