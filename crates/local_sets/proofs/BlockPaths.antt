-- Paths through blocks: what the points of a block do to a value is what the sets of the block do at its head.
use Rattle.std.proofs.Common.{◌≡◌, ◌<◌, ◌≤◌, ◌+◌, ◌⊎◌, ℕ, zero, suc, Bool, false, List, [], ◌∷◌, ◌++◌, length, filter, get_or, take, refl, sym, ap, ◌∙◌, subst, inl, inr, arith}
use Rattle.std.proofs.lemmas.List.{take_more, take_all}
use Rattle.point_graph.specs.Graph.{Point, Start, Head, Place, point_before}
use Rattle.expressions.specs.declared.syntax.Event.{Event}
use Rattle.expressions.specs.declared.syntax.Event.TheVariants.{Occurs, Kills, Bars, Passes}
use Rattle.flow_paths.specs.declared.marks.Mark.{Mark}
use Rattle.flow_paths.specs.declared.marks.Mark.TheVariants.{Pass}
use Rattle.flow_paths.specs.Paths.{source, target, IsPath, at_point, on_edge, met}
use Rattle.flow_paths.specs.Paths as paths
use Rattle.flow_paths.proofs.Validity.{after_mark, carried}
use Rattle.local_sets.specs.declared.blocks.BlockSets.{BlockSets}
use Rattle.local_sets.specs.Blocks.{occurs_or_kills, last_after, sets_of}
use Rattle.local_sets.specs.Heads.{no_sets, mark_of_event}

abbrev pub told : List Event → List Event
told events = filter occurs_or_kills events

abbrev pub first_of : List Event → Event
first_of events = get_or (told events) 0 Passes

abbrev pub last_of : List Event → Event
last_of events = last_after Passes (told events)

-- what an event does to a value
abbrev pub after : Event → Bool → Bool
after event valid = after_mark (mark_of_event event) valid

abbrev pub IsQuiet : Event → Type 0
IsQuiet event = occurs_or_kills event ≡ false

pub quiet_mark : (x : Event) → IsQuiet x → mark_of_event x ≡ Pass
quiet_mark Occurs q = absurd cc
quiet_mark Kills q = absurd cc
quiet_mark Bars q = refl
quiet_mark Passes q = refl

last_step : (before : Event) (xs : List Event) (x : Event) (s : Bool) → after (last_after before (told (xs ++ x ∷ []))) s ≡ after x (after (last_after before (told xs)) s)
last_step before [] Occurs s = refl
last_step before [] Kills s = refl
last_step before [] Bars s = refl
last_step before [] Passes s = refl
last_step before (Occurs ∷ xs) x s = last_step Occurs xs x s
last_step before (Kills ∷ xs) x s = last_step Kills xs x s
last_step before (Bars ∷ xs) x s = last_step before xs x s
last_step before (Passes ∷ xs) x s = last_step before xs x s

-- one event more of a list
pub last_more : (es : List Event) (k : ℕ) (s : Bool) → k < length es → after (last_of (take (k + 1) es)) s ≡ after (get_or es k Passes) (after (last_of (take k es)) s)
last_more es k s h = ap (λ l. after (last_of l) s) (take_more es k Passes h) ∙ last_step Passes (take k es) (get_or es k Passes) s

-- where the points of a function stand, with the event of each, and with the sets of the block that begins there
module _ (arcs : List (ℕ × ℕ)) (At : ℕ → Point → Type 0) (len : ℕ → ℕ) (event : ℕ → Event) (sets : ℕ → BlockSets) where
  -- the events of the places of block b, whose head has the number h
  pub record BlockAt (h b : ℕ) (es : List Event) : Type 0 where
    pub told : (v k : ℕ) → At v (Place b k) → get_or es k Passes ≡ event v
    pub count : length es ≡ len b + 1
    pub sets_are : sets h ≡ sets_of es

  pub record SomeBlockAt (h b : ℕ) : Type 0 where
    pub events : List Event
    pub block : BlockAt h b events

  pub record Enters (u w : ℕ) : Type 0 where
    pub begins : At u Start
    pub ends : At w (Head 0)

  pub record GoesInside (u w : ℕ) : Type 0 where
    pub block : ℕ
    pub place : ℕ
    pub within : place ≤ len block
    pub begins : At u (point_before block place)
    pub ends : At w (Place block place)

  -- an arc leads on to a place of the block
  pub record NextArc (u b k : ℕ) : Type 0 where
    pub arc : ℕ
    pub is_arc : arc < length arcs
    pub leaves : source arcs arc ≡ u
    pub ends : At (target arcs arc) (Place b k)

  pub record LeavesTo (u w : ℕ) : Type 0 where
    pub block : ℕ
    pub next : ℕ
    pub begins : At u (Place block (len block))
    pub ends : At w (Head next)

  abbrev pub Goes : ℕ → ℕ → Type 0
  Goes u w = Enters u w ⊎ (GoesInside u w ⊎ LeavesTo u w)

  pub record IsSetting : Type 0 where
    pub same : (v : ℕ) (x y : Point) → At v x → At v y → x ≡ y
    pub goes : (e : ℕ) → e < length arcs → Goes (source arcs e) (target arcs e)
    pub blocks : (h b : ℕ) → At h (Head b) → SomeBlockAt h b
    pub within : (v b k : ℕ) → At v (Place b k) → k ≤ len b
    pub next : (u b k : ℕ) → k ≤ len b → At u (point_before b k) → NextArc u b k
    pub quiet_start : (v : ℕ) → At v Start → IsQuiet (event v)
    pub quiet_head : (v b : ℕ) → At v (Head b) → IsQuiet (event v)
    pub quiet_term : (v b : ℕ) → At v (Place b (len b)) → IsQuiet (event v)
    pub start_sets : (v : ℕ) → At v Start → sets v ≡ no_sets
    pub place_sets : (v b k : ℕ) → At v (Place b k) → sets v ≡ no_sets

  -- the value inside a block, from what it was at its head
  pub record IsInside (b k : ℕ) (c d : Bool) : Type 0 where
    pub before : Bool
    pub head : ℕ
    pub events : List Event
    pub block : BlockAt head b events
    pub c_is : c ≡ after (last_of (take k events)) before
    pub d_is : d ≡ after (sets head).last before

  -- the value by the points, and the value by the heads of blocks
  abbrev pub Agree : Point → Bool → Bool → Type 0
  Agree Start c d = c ≡ d
  Agree (Head b) c d = c ≡ d
  Agree (Place b k) c d = IsInside b k c d

  pub record AgreeAt (v : ℕ) (c d : Bool) : Type 0 where
    pub point : Point
    pub there : At v point
    pub agree : Agree point c d

  module _ (setting : IsSetting) (mark mark' : paths.Place → Mark)
      (points : (v : ℕ) (x : Point) → At v x → mark (at_point v) ≡ mark_of_event (event v))
      (points' : (v : ℕ) (x : Point) → At v x → mark' (at_point v) ≡ mark_of_event (sets v).last)
      (edges : (e : ℕ) → e < length arcs → mark (on_edge e) ≡ Pass)
      (edges' : (e : ℕ) → e < length arcs → mark' (on_edge e) ≡ Pass) where
    -- what passes does nothing
    passed : (v : ℕ) (x : Point) (c : Bool) → At v x → IsQuiet (event v) → after_mark (mark (at_point v)) c ≡ c
    passed v x c there q = ap (λ m. after_mark m c) (points v x there ∙ quiet_mark (event v) q)

    passed' : (v : ℕ) (x : Point) (c : Bool) → At v x → sets v ≡ no_sets → after_mark (mark' (at_point v)) c ≡ c
    passed' v x c there q = ap (λ m. after_mark m c) (points' v x there ∙ ap (λ (s : BlockSets). mark_of_event s.last) q)

    -- at the end of a block both values are the same
    at_term : (v b : ℕ) (c d : Bool) → At v (Place b (len b)) → IsInside b (len b) c d → c ≡ d
    at_term v b c d there i =
        let count : length i.events ≡ len b + 1 = i.block.count in
        let inside : len b < length i.events = omega (arith, count) in
        let quiet : mark_of_event (get_or i.events (len b) Passes) ≡ Pass = ap mark_of_event (i.block.told v (len b) there) ∙ quiet_mark (event v) (setting.quiet_term v b there) in
        let all : take (len b + 1) i.events ≡ i.events = take_all (len b + 1) i.events (omega (arith, count)) in
        let lasts : after (last_of i.events) i.before ≡ after (last_of (take (len b) i.events)) i.before =
        ap (λ l. after (last_of l) i.before) (sym all) ∙ last_more i.events (len b) i.before inside ∙ ap (λ m. after_mark m (after (last_of (take (len b) i.events)) i.before)) quiet in
        i.c_is ∙ (sym lasts ∙ (ap (λ (s : BlockSets). after s.last i.before) (sym i.block.sets_are) ∙ sym i.d_is))

    step_inside : (u b k : ℕ) (c d : Bool) → k ≤ len b → At u (point_before b k) → Agree (point_before b k) c d → IsInside b k (after_mark (mark (at_point u)) c) (after_mark (mark' (at_point u)) d)
    step_inside u b zero c d within there agree =
        let here = setting.blocks u b there in
        record {
          before = c;
          head = u;
          events = here.events;
          block = here.block;
          c_is = passed u (Head b) c there (setting.quiet_head u b there);
          d_is = ap (λ m. after_mark m d) (points' u (Head b) there) ∙ ap (λ x. after (sets u).last x) (sym agree);
        }
    step_inside u b (suc k) c d within there i =
        let count : length i.events ≡ len b + 1 = i.block.count in
        let inside : k < length i.events = omega (arith, count, within) in
        record {
          before = i.before;
          head = i.head;
          events = i.events;
          block = i.block;
          c_is =
              let more = last_more i.events k i.before inside in
              let same : k + 1 ≡ suc k = omega arith in
              let one : take (k + 1) i.events ≡ take (suc k) i.events = ap (λ n. take n i.events) same in
              ap (λ m. after_mark m c) (points u (Place b k) there)
              ∙ (ap (λ x. after (event u) x) i.c_is
              ∙ (ap (λ x. after x (after (last_of (take k i.events)) i.before)) (sym (i.block.told u k there))
              ∙ (sym more ∙ ap (λ l. after (last_of l) i.before) one)));
          d_is = passed' u (Place b k) d there (setting.place_sets u b k there) ∙ i.d_is;
        }

    step : (u w : ℕ) (c d : Bool) → Goes u w → AgreeAt u c d → AgreeAt w (after_mark (mark (at_point u)) c) (after_mark (mark' (at_point u)) d)
    step u w c d (inl enters) a =
        let agree : Agree Start c d = subst (λ x. Agree x c d) (setting.same u a.point Start a.there enters.begins) a.agree in
        record {
          point = Head 0;
          there = enters.ends;
          agree = passed u Start c enters.begins (setting.quiet_start u enters.begins) ∙ (agree ∙ sym (passed' u Start d enters.begins (setting.start_sets u enters.begins)));
        }
    step u w c d (inr (inl inside)) a =
        let agree = subst (λ x. Agree x c d) (setting.same u a.point (point_before inside.block inside.place) a.there inside.begins) a.agree in
        record { point = Place inside.block inside.place; there = inside.ends; agree = step_inside u inside.block inside.place c d inside.within inside.begins agree }
    step u w c d (inr (inr leaves)) a =
        let b = leaves.block in
        let agree : Agree (Place b (len b)) c d = subst (λ x. Agree x c d) (setting.same u a.point (Place b (len b)) a.there leaves.begins) a.agree in
        record {
          point = Head leaves.next;
          there = leaves.ends;
          agree = passed u (Place b (len b)) c leaves.begins (setting.quiet_term u b leaves.begins)
              ∙ (at_term u b c d leaves.begins agree ∙ sym (passed' u (Place b (len b)) d leaves.begins (setting.place_sets u b (len b) leaves.begins)));
        }

    along : (u : ℕ) (path : List ℕ) (v : ℕ) (c d : Bool) → IsPath arcs u path v → AgreeAt u c d → AgreeAt v (carried mark (met arcs path) c) (carried mark' (met arcs path) d)
    along u [] v c d leads a = subst (λ n. AgreeAt n c d) leads a
    along u (e ∷ path) v c d leads a =
        let s = source arcs e in
        let next = step s (target arcs e) c d (setting.goes e leads.0) (subst (λ n. AgreeAt n c d) (sym leads.1) a) in
        along (target arcs e) path v (after_mark (mark (on_edge e)) (after_mark (mark (at_point s)) c)) (after_mark (mark' (on_edge e)) (after_mark (mark' (at_point s)) d)) leads.2
        (subst (λ m. AgreeAt (target arcs e) (after_mark m (after_mark (mark (at_point s)) c)) (after_mark (mark' (on_edge e)) (after_mark (mark' (at_point s)) d))) (sym (edges e leads.0))
        (subst (λ m. AgreeAt (target arcs e) (after_mark Pass (after_mark (mark (at_point s)) c)) (after_mark m (after_mark (mark' (at_point s)) d))) (sym (edges' e leads.0)) next))

    -- at heads and terminators a path carries the same value by the points and by the heads
    pub same_at_head : (u : ℕ) (path : List ℕ) (v b : ℕ) → At u Start → IsPath arcs u path v → At v (Head b) → carried mark (met arcs path) false ≡ carried mark' (met arcs path) false
    same_at_head u path v b start leads there =
        let c = carried mark (met arcs path) false in
        let d = carried mark' (met arcs path) false in
        let a = along u path v false false leads (record { point = Start; there = start; agree = refl }) in
        let agree : Agree (Head b) c d = subst (λ x. Agree x c d) (setting.same v a.point (Head b) a.there there) a.agree in
        agree

    pub same_at_term : (u : ℕ) (path : List ℕ) (v b : ℕ) → At u Start → IsPath arcs u path v → At v (Place b (len b)) → carried mark (met arcs path) false ≡ carried mark' (met arcs path) false
    same_at_term u path v b start leads there =
        let c = carried mark (met arcs path) false in
        let d = carried mark' (met arcs path) false in
        let a = along u path v false false leads (record { point = Start; there = start; agree = refl }) in
        let agree : Agree (Place b (len b)) c d = subst (λ x. Agree x c d) (setting.same v a.point (Place b (len b)) a.there there) a.agree in
        at_term v b c d there agree
