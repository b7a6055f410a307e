-- What a block owes, and what a placement spends in it.
use Rattle.std.proofs.Common.{◌≡◌, ℕ, ◌+◌, ◌≤◌, Bool, true, false, not, ◌&&◌, List, [], ◌∷◌, refl, ap, arith}
use Rattle.std.specs.List.{AllByRecursion}
use Rattle.expressions.specs.declared.syntax.Event.{Event}
use Rattle.expressions.specs.declared.syntax.Event.TheVariants.{Occurs, Kills, Bars, Passes}
use Rattle.best_placement.specs.Blocks.{last_point}
use Rattle.best_placement.specs.BlockNetwork.{event_after, last_event, first_event, forced, forced_here}
use Rattle.best_placement.specs.ReadOff.{is_owed, KeepsAlong}

abbrev pub tick : Bool → ℕ
tick true = 1
tick false = 0

-- whether a computation is owed behind an event
abbrev pub owed_after : Event → Bool → Bool
owed_after Occurs owed = false
owed_after Kills owed = true
owed_after Bars owed = owed
owed_after Passes owed = owed

-- what an event asks for
abbrev pub pays_at : Event → Bool → ℕ
pays_at Occurs owed = tick owed
pays_at Kills owed = 0
pays_at Bars owed = 0
pays_at Passes owed = 0

-- how many computations steps ask for, where the value is wanted at the end or not
abbrev pub least : (ℕ → Event) → Bool → List (ℕ × ℕ) → Bool → ℕ
least event owed [] end = tick (owed && end)
least event owed (s ∷ steps) end = pays_at (event s.1) owed + least event (owed_after (event s.1) owed) steps end

abbrev pub wanted_at : Event → Bool → Bool
wanted_at Occurs later = true
wanted_at Kills later = false
wanted_at Bars later = later
wanted_at Passes later = later

-- whether the value is wanted at the next event, or at the end
abbrev pub wanted : (ℕ → Event) → List (ℕ × ℕ) → Bool → Bool
wanted event [] end = end
wanted event (s ∷ steps) end = wanted_at (event s.1) (wanted event steps end)

-- how many places of the steps compute
abbrev pub spent : (ℕ → Bool) → (ℕ → Bool) → List (ℕ × ℕ) → ℕ
spent inserted kept [] = 0
spent inserted kept (s ∷ steps) = tick (inserted s.0) + tick (kept s.1) + spent inserted kept steps

-- what holds of the live points at a step: from a point, over an edge, to a point with an event
pub record Step (k : Event) (inserted from_kept from_live kept live : Bool) : Type 0 where
  pub moves : live ≡ true → inserted ≡ false → from_kept ≡ false → from_live ≡ true
  pub occurs : k ≡ Occurs → live ≡ not kept
  pub kills : k ≡ Kills → live ≡ false
  pub keeps : kept ≡ true → k ≡ Occurs

-- over a step that passes, what is live at the end is paid for or live before
pass_pays : (owed i fk fl l : Bool) → (l ≡ true → i ≡ false → fk ≡ false → fl ≡ true) → (owed ≡ true → fk ≡ false) → tick (owed && l) ≤ tick i + tick (owed && fl)
pass_pays false i fk fl l h n = omega arith
pass_pays true i fk fl false h n = omega arith
pass_pays true true fk fl true h n = omega arith
pass_pays true false fk fl true h n = rw (h refl refl (n refl)) (omega arith)

occurs_pays : (owed i fk fl kp l : Bool) → l ≡ not kp → (l ≡ true → i ≡ false → fk ≡ false → fl ≡ true) → (owed ≡ true → fk ≡ false) → tick owed ≤ tick i + tick kp + tick (owed && fl)
occurs_pays false i fk fl kp l e h n = omega arith
occurs_pays true i fk fl true l e h n = omega arith
occurs_pays true true fk fl false l e h n = omega arith
occurs_pays true false fk fl false l e h n = rw (h e refl (n refl)) (omega arith)

-- a step pays for what is owed
step_pays : (k : Event) (owed i fk fl kp l : Bool) → Step k i fk fl kp l → (owed ≡ true → fk ≡ false) →
    pays_at k owed + tick (owed_after k owed && l) ≤ tick i + tick kp + tick (owed && fl)
step_pays Occurs owed i fk fl kp l h n = let p = occurs_pays owed i fk fl kp l (h.occurs refl) h.moves n in omega arith
step_pays Kills owed i fk fl kp l h n = rw (h.kills refl) (omega arith)
step_pays Bars owed i fk fl kp l h n = let p = pass_pays owed i fk fl l h.moves n in omega arith
step_pays Passes owed i fk fl kp l h n = let p = pass_pays owed i fk fl l h.moves n in omega arith

tick_false : (b : Bool) → tick b ≤ 0 → b ≡ false
tick_false true h = absurd (omega arith)
tick_false false h = refl

-- a step that pays no more inserts only where a computation is owed and nothing is live
inserts_tight : (owed fl x : Bool) (n : ℕ) → 1 + n + tick (owed && fl) ≤ tick (owed && x) → (owed ≡ true) × (fl ≡ false)
inserts_tight false fl x n h = absurd (omega arith)
inserts_tight true true true n h = absurd (omega arith)
inserts_tight true true false n h = absurd (omega arith)
inserts_tight true false x n h = (refl, refl)

and_true : (b : Bool) → tick (b && true) ≡ tick b
and_true true = refl
and_true false = refl

step_inserts : (k : Event) (owed fk fl kp l : Bool) → Step k true fk fl kp l → (owed ≡ true → fk ≡ false) →
    1 + tick kp + tick (owed && fl) ≤ pays_at k owed + tick (owed_after k owed && l) → (owed ≡ true) × (fl ≡ false)
step_inserts Occurs owed fk fl kp l h n t = inserts_tight owed fl true (tick kp) (let e = and_true owed in omega arith)
step_inserts Kills owed fk fl kp l h n t = absurd (let e : tick l ≡ 0 = rw (h.kills refl) refl in omega arith)
step_inserts Bars owed fk fl kp l h n t = inserts_tight owed fl l (tick kp) (omega arith)
step_inserts Passes owed fk fl kp l h n t = inserts_tight owed fl l (tick kp) (omega arith)

unkept_after : (k : Event) (owed kp : Bool) → (kp ≡ true → k ≡ Occurs) → owed_after k owed ≡ true → kp ≡ false
unkept_after k owed false h e = refl
unkept_after k owed true h e = let o : k ≡ Occurs = h refl in let f : owed_after k owed ≡ false = rw o refl in cc

-- where nothing is owed yet, a later want costs one less
least_owed : (event : ℕ → Event) (steps : List (ℕ × ℕ)) (end : Bool) → least event true steps end ≡ least event false steps end + tick (wanted event steps end)
least_owed event [] end = omega arith
least_owed event (s ∷ steps) end =
    elim (event s.1) as (λ k. pays_at k true + least event (owed_after k true) steps end ≡ pays_at k false + least event (owed_after k false) steps end + tick (wanted_at k (wanted event steps end))) [
      | Occurs ↦ omega arith
      | Kills ↦ omega arith
      | Bars ↦ (let e = least_owed event steps end in omega arith)
      | Passes ↦ (let e = least_owed event steps end in omega arith)
    ]

-- a point is live in the placement read off: where nothing is owed, and the value is wanted
abbrev pub is_carried : Event → Bool → Bool → Bool
is_carried Occurs owed later = not owed
is_carried Kills owed later = false
is_carried Bars owed later = not owed && later
is_carried Passes owed later = not owed && later

module _ (event : ℕ → Event) (inserted kept live : ℕ → Bool) where
  -- what holds of the live points along steps
  abbrev pub StepsAlong : ℕ → List (ℕ × ℕ) → Type 0
  StepsAlong u [] = Unit {0}
  StepsAlong u (s ∷ steps) = Step (event s.1) (inserted s.0) (kept u) (live u) (kept s.1) (live s.1) × StepsAlong s.1 steps

  abbrev pub MovesOver : ℕ → Bool → Bool → Type 0
  MovesOver u exit end = end ≡ true → exit ≡ false → kept u ≡ false → live u ≡ true

  pub least_is_spent : (owed : Bool) (u : ℕ) (steps : List (ℕ × ℕ)) (exit end : Bool) → (owed ≡ true → kept u ≡ false) → StepsAlong u steps → MovesOver (last_point u steps) exit end →
      least event owed steps end ≤ spent inserted kept steps + tick exit + tick (owed && live u)
  least_is_spent owed u [] exit end n along m = let p = pass_pays owed exit (kept u) (live u) end m n in omega arith
  least_is_spent owed u (s ∷ steps) exit end n along m =
      let here = step_pays (event s.1) owed (inserted s.0) (kept u) (live u) (kept s.1) (live s.1) along.0 n in
      let rest = least_is_spent (owed_after (event s.1) owed) s.1 steps exit end (unkept_after (event s.1) owed (kept s.1) along.0.keeps) along.1 m in
      omega arith

  -- an edge is inserted only where nothing is live or written before it, and what would be carried is live
  abbrev pub TightAlong : Bool → ℕ → List (ℕ × ℕ) → Bool → Bool → Type 0
  TightAlong owed u [] exit end = exit ≡ true → (live u ≡ false) × (kept u ≡ false)
  TightAlong owed u (s ∷ steps) exit end =
      (inserted s.0 ≡ true → (live u ≡ false) × (kept u ≡ false)) × (is_carried (event s.1) owed (wanted event steps end) ≡ true → live s.1 ≡ true)
      × TightAlong (owed_after (event s.1) owed) s.1 steps exit end

  carried_live : (k : Event) (owed later i fk fl kp l : Bool) (f t r : ℕ) → Step k i fk fl kp l → t ≡ f + tick later → (kp ≡ false → t ≤ r + tick l) → (owed_after k owed ≡ false → r ≤ f) →
      tick i + tick kp + tick (owed && fl) ≤ pays_at k owed + tick (owed_after k owed && l) → is_carried k owed later ≡ true → l ≡ true
  carried_live Occurs false later i fk fl false l f t r h e b x y c = h.occurs refl
  carried_live Occurs false later i fk fl true l f t r h e b x y c = absurd (omega arith)
  carried_live Occurs true later i fk fl kp l f t r h e b x y c = cc
  carried_live Kills owed later i fk fl kp l f t r h e b x y c = cc
  carried_live Bars owed later i fk fl true l f t r h e b x y c = let z : Bars ≡ Occurs = h.keeps refl in cc
  carried_live Bars true later i fk fl false l f t r h e b x y c = cc
  carried_live Bars false later i fk fl false true f t r h e b x y c = refl
  carried_live Bars false true i fk fl false false f t r h e b x y c = absurd (let z = b refl in let w = x refl in omega arith)
  carried_live Bars false false i fk fl false false f t r h e b x y c = cc
  carried_live Passes owed later i fk fl true l f t r h e b x y c = let z : Passes ≡ Occurs = h.keeps refl in cc
  carried_live Passes true later i fk fl false l f t r h e b x y c = cc
  carried_live Passes false later i fk fl false true f t r h e b x y c = refl
  carried_live Passes false true i fk fl false false f t r h e b x y c = absurd (let z = b refl in let w = x refl in omega arith)
  carried_live Passes false false i fk fl false false f t r h e b x y c = cc

  inserted_here : (k : Event) (owed i fk fl kp l : Bool) → Step k i fk fl kp l → (owed ≡ true → fk ≡ false) →
      tick i + tick kp + tick (owed && fl) ≤ pays_at k owed + tick (owed_after k owed && l) → i ≡ true → (fl ≡ false) × (fk ≡ false)
  inserted_here k owed false fk fl kp l h n t e = cc
  inserted_here k owed true fk fl kp l h n t e = let r = step_inserts k owed fk fl kp l h n t in (r.1, n r.0)

  inserted_at_exit : (owed exit fk fl end : Bool) → (owed ≡ true → fk ≡ false) → tick exit + tick (owed && fl) ≤ tick (owed && end) → exit ≡ true → (fl ≡ false) × (fk ≡ false)
  inserted_at_exit owed false fk fl end n t e = cc
  inserted_at_exit owed true fk fl end n t e = let r = inserts_tight owed fl end 0 (omega arith) in (r.1, n r.0)

  pub tight_along : (owed : Bool) (u : ℕ) (steps : List (ℕ × ℕ)) (exit end : Bool) → (owed ≡ true → kept u ≡ false) → StepsAlong u steps → MovesOver (last_point u steps) exit end →
      spent inserted kept steps + tick exit + tick (owed && live u) ≤ least event owed steps end → TightAlong owed u steps exit end
  tight_along owed u [] exit end n along m t = inserted_at_exit owed exit (kept u) (live u) end n (omega arith)
  tight_along owed u (s ∷ steps) exit end n along m t =
      let later = unkept_after (event s.1) owed (kept s.1) along.0.keeps in
      let here = step_pays (event s.1) owed (inserted s.0) (kept u) (live u) (kept s.1) (live s.1) along.0 n in
      let rest = least_is_spent (owed_after (event s.1) owed) s.1 steps exit end later along.1 m in
      let here_tight : tick (inserted s.0) + tick (kept s.1) + tick (owed && live u) ≤ pays_at (event s.1) owed + tick (owed_after (event s.1) owed && live s.1) = omega arith in
      let rest_tight : spent inserted kept steps + tick exit + tick (owed_after (event s.1) owed && live s.1) ≤ least event (owed_after (event s.1) owed) steps end = omega arith in (
        inserted_here (event s.1) owed (inserted s.0) (kept u) (live u) (kept s.1) (live s.1) along.0 n here_tight,
        carried_live (event s.1) owed (wanted event steps end) (inserted s.0) (kept u) (live u) (kept s.1) (live s.1)
            (least event false steps end) (least event true steps end) (spent inserted kept steps + tick exit) along.0 (least_owed event steps end)
            (λ e. least_is_spent true s.1 steps exit end (λ o. e) along.1 m)
            (λ e. let x : spent inserted kept steps + tick exit + tick (false && live s.1) ≤ least event false steps end = rw e at rest_tight in omega arith) here_tight,
        tight_along (owed_after (event s.1) owed) s.1 steps exit end later along.1 m rest_tight,
      )

-- what the placement read off spends, and what it carries

pub is_owed-after : (k before : Event) (head : Bool) → is_owed (event_after k before) head ≡ owed_after k (is_owed before head)
is_owed-after Occurs before head = refl
is_owed-after Kills before head = refl
is_owed-after Bars before head = refl
is_owed-after Passes before head = refl

kept_pays : (k : Event) (kp owed : Bool) → (k ≡ Occurs → kp ≡ owed) → (kp ≡ true → k ≡ Occurs) → tick kp ≡ pays_at k owed
kept_pays Occurs kp owed h n = ap tick (h refl)
kept_pays Kills false owed h n = refl
kept_pays Kills true owed h n = let e = n refl in cc
kept_pays Bars false owed h n = refl
kept_pays Bars true owed h n = let e = n refl in cc
kept_pays Passes false owed h n = refl
kept_pays Passes true owed h n = let e = n refl in cc

and_swap : (a b : Bool) → tick (a && b) ≡ tick (b && a)
and_swap true true = refl
and_swap true false = refl
and_swap false true = refl
and_swap false false = refl

module _ (event : ℕ → Event) (inserted kept : ℕ → Bool) (keeps : (v : ℕ) → kept v ≡ true → event v ≡ Occurs) where
  pub read_off_spends : (head end : Bool) (before : Event) (steps : List (ℕ × ℕ)) → AllByRecursion (λ s. inserted s.0 ≡ false) steps → KeepsAlong event kept head before steps →
      spent inserted kept steps + tick (end && is_owed (last_event event before steps) head) ≡ least event (is_owed before head) steps end
  read_off_spends head end before [] none along = let e = and_swap end (is_owed before head) in omega arith
  read_off_spends head end before (s ∷ steps) none along =
      let rest : spent inserted kept steps + tick (end && is_owed (last_event event (event_after (event s.1) before) steps) head) ≡ least event (owed_after (event s.1) (is_owed before head)) steps end =
      rw (is_owed-after (event s.1) before head) at (read_off_spends head end (event_after (event s.1) before) steps none.1 along.1) in
      let here = kept_pays (event s.1) (kept s.1) (is_owed before head) along.0 (keeps s.1) in
      let no : tick (inserted s.0) ≡ 0 = ap tick none.0 in
      omega arith

-- what the arcs of a block let in, in numbers of its weight
abbrev pub first_pays : Event → Bool → Bool → ℕ
first_pays Occurs head end = tick (not head)
first_pays Kills head end = 0
first_pays Bars head end = tick (end && not head)
first_pays Passes head end = tick (end && not head)

abbrev pub last_pays : Event → Bool → ℕ
last_pays Occurs end = 0
last_pays Kills end = tick end
last_pays Bars end = 0
last_pays Passes end = 0

module _ (event : ℕ → Event) where
  after_occurs : (steps : List (ℕ × ℕ)) (end : Bool) → (last_pays (last_event event Occurs steps) end + forced event Occurs steps ≡ least event false steps end) × (last_pays (last_event event Kills steps) end + forced event Kills steps ≡ least event true steps end)
  after_occurs [] end = (omega arith, omega arith)
  after_occurs (s ∷ steps) end =
      let rest = after_occurs steps end in
      let o : last_pays (last_event event Occurs steps) end + forced event Occurs steps ≡ least event false steps end = rest.0 in
      let k : last_pays (last_event event Kills steps) end + forced event Kills steps ≡ least event true steps end = rest.1 in
      elim (event s.1) as (λ e. (last_pays (last_event event (event_after e Occurs) steps) end + (forced_here Occurs e + forced event (event_after e Occurs) steps) ≡ pays_at e false + least event (owed_after e false) steps end)
      × (last_pays (last_event event (event_after e Kills) steps) end + (forced_here Kills e + forced event (event_after e Kills) steps) ≡ pays_at e true + least event (owed_after e true) steps end))
      [ Occurs ↦ (omega arith, omega arith) | Kills ↦ (omega arith, omega arith) | Bars ↦ (omega arith, omega arith) | Passes ↦ (omega arith, omega arith) ]

  pub block_pays : (steps : List (ℕ × ℕ)) (head end : Bool) → first_pays (first_event event steps) head end + last_pays (last_event event Passes steps) end + forced event Passes steps ≡ least event (not head) steps end
  block_pays [] head end = let e = and_swap (not head) end in omega arith
  block_pays (s ∷ steps) head end =
      let rest = after_occurs steps end in
      let o : last_pays (last_event event Occurs steps) end + forced event Occurs steps ≡ least event false steps end = rest.0 in
      let k : last_pays (last_event event Kills steps) end + forced event Kills steps ≡ least event true steps end = rest.1 in
      let p = block_pays steps head end in
      elim (event s.1) as (λ e. first_pays (event_after e (first_event event steps)) head end + last_pays (last_event event (event_after e Passes) steps) end + (forced_here Passes e + forced event (event_after e Passes) steps) ≡ pays_at e (not head) + least event (owed_after e (not head)) steps end)
      [ Occurs ↦ omega arith | Kills ↦ omega arith | Bars ↦ omega arith | Passes ↦ omega arith ]
