-- How the search keeps what it has found, one node after another.
use Rattle.std.proofs.Common.{◌≡◌, ◌≢◌, ℕ, zero, suc, ◌+◌, ◌<◌, ◌≤◌, Bool, true, false, not, ◌⊎◌, List, [], length, refl, ap, arith, sym, ◌∙◌, inl, inr, get_or, take, subst}
use Rattle.std.specs.Prelude.{IsTrue, ◌↔◌, Contains, Vec}
use Rattle.std.specs.Option.{option_map_or}
use Rattle.std.specs.declared.alloc.Global.{Global}
use Rattle.std.proofs.lemmas.Bool.{cases_eq, cases_Bool, cases_lt, true≢false}
use Rattle.std.proofs.lemmas.List.{get_or_default, get_or_past, get_or-take, length-take-le}
use Rattle.std.proofs.lemmas.Grind.{get_or_default_zero}
use Rattle.std.proofs.lemmas.Option.{slice_get_read}
use Rattle.std.proofs.lemmas.List.Sums.{count_by-le-length}
use Rattle.flow_net.specs.declared.Arc.{Arc}
use Rattle.flow_net.specs.declared.Net.{Net}
use Rattle.flow_net.specs.declared.Flow.{Flow}
use Rattle.flow_net.specs.declared.incidence.Incidence.{Incidence}
use Rattle.flow_net.specs.declared.levels.Distances.{Distances}
use Rattle.flow_net.specs.Network.{ResidualArc, ReachesSink, LetsMore, IsWithin, loads}
use Rattle.flow_net.specs.Incidence.{IsIncidenceOf, arcs_in}
use Rattle.flow_net.proofs.Loads.{loads_len, load_at}
use Rattle.flow_net.specs.Levels.{AreFound, AreDistances, AreOrdered, IsNearestFirst, Visiting, Reaches, Attempts, Answered, Keeps, HasNodes, IsSupported, is_reached, distance_of, order_of}

module _ (node distance : ℕ) (old new : Distances) (r : Reaches node distance old new) where
  other : (v : ℕ) → is_reached old v ≡ true → v ≢ node
  other v h same = true≢false (sym h ∙ ap (is_reached old) same ∙ r.before)

  still_reached : (v : ℕ) → is_reached old v ≡ true → (is_reached new v ≡ true) × (distance_of new v ≡ distance_of old v)
  still_reached v h = ((r.rest v (other v h)).0 ∙ h, (r.rest v (other v h)).1)

  -- a node that is reached now was reached before, or is the new one
  reached_before : (v : ℕ) → is_reached new v ≡ true → ((v ≡ node) ⊎ ((is_reached old v ≡ true) × (distance_of new v ≡ distance_of old v)))
  reached_before v h = elim (cases_eq v node) [
    | inl same ↦ inl same
    | inr differs ↦ inr (sym (r.rest v differs).0 ∙ h, (r.rest v differs).1)
  ]

  pub keeps_more : Keeps old new
  keeps_more = record {
    count = omega (arith, r.count);
    reached = λ v h. (still_reached v h).0;
    order = r.order;
  }

  -- a place is the new node's, or as before
  place_before : AreOrdered (length old.reached.items) old → (i : ℕ) → i < new.count →
      ((i ≡ old.count) × (order_of new i ≡ node) × (distance_of new (order_of new i) ≡ distance)) ⊎ ((i < old.count) × (order_of new i ≡ order_of old i) × (distance_of new (order_of new i) ≡ distance_of old (order_of old i)))
  place_before o i h = elim (cases_lt i old.count) [
    | inl less ↦ inr (less, r.order i less, ap (distance_of new) (r.order i less) ∙ (still_reached (order_of old i) (o.inside i less)).1)
    | inr not_less ↦
        (let here : i ≡ old.count = omega (arith, r.count) in
        let at : order_of new i ≡ node = ap (order_of new) here ∙ r.placed in
        inl (here, at, ap (distance_of new) at ∙ r.now.1))
  ]

  supported_more : (ls : List (Arc × ℕ)) (v : ℕ) → is_reached old v ≡ true → IsSupported ls old v → IsSupported ls new v
  supported_more ls v h (inl (sink, none)) = inl (sink, (still_reached v h).1 ∙ none)
  supported_more ls v h (inr (w, arc, there, far)) =
      inr (w, arc, (still_reached w there).0, (still_reached v h).1 ∙ far ∙ ap (λ n. n + 1) (sym (still_reached w there).1))

  places_more : (nodes : ℕ) → HasNodes nodes old → HasNodes nodes new
  places_more nodes p = record {
    reached_len = r.reached_len ∙ p.reached_len;
    distance_len = r.distance_len ∙ p.distance_len;
    order_len = r.order_len ∙ p.order_len;
  }

  -- the new node has a residual arc to a reached one
  found_more : (nodes : ℕ) (ls : List (Arc × ℕ)) (next : ℕ) → is_reached old next ≡ true → distance ≡ distance_of old next + 1 → ResidualArc ls node next → AreFound nodes ls old → AreFound nodes ls new
  found_more nodes ls next there far arc f = record {
    places = places_more nodes f.places;
    sink = ((still_reached 1 f.sink.0).0, (still_reached 1 f.sink.0).1 ∙ f.sink.1);
    supported = λ v h. elim (reached_before v h) [
      | inl same ↦ inr (
        next,
        subst (λ n. ResidualArc ls n next) (sym same) arc,
        (still_reached next there).0,
        ap (distance_of new) same ∙ r.now.1 ∙ far ∙ ap (λ n. n + 1) (sym (still_reached next there).1),
      )
      | inr before ↦ supported_more ls v before.0 (f.supported v before.0)
    ];
    others = λ v h. elim (cases_eq v node) [
      | inl same ↦ absurd (true≢false (sym r.now.0 ∙ ap (is_reached new) (sym same) ∙ h))
      | inr differs ↦ (r.rest v differs).1 ∙ f.others v (sym (r.rest v differs).0 ∙ h)
    ];
  }

  -- the new node is no nearer than those before, and no farther than its place
  ordered_more : (nodes : ℕ) → length old.reached.items ≡ nodes → distance ≤ old.count → ((i : ℕ) → i < old.count → distance_of old (order_of old i) ≤ distance) → AreOrdered nodes old → AreOrdered nodes new
  ordered_more nodes len low above o =
      let at : (i : ℕ) → i < new.count → ((i ≡ old.count) × (order_of new i ≡ node) × (distance_of new (order_of new i) ≡ distance)) ⊎ ((i < old.count) × (order_of new i ≡ order_of old i) × (distance_of new (order_of new i) ≡ distance_of old (order_of old i))) =
      place_before (subst (λ n. AreOrdered n old) (sym len) o) in
      record {
        room = omega (arith, r.fewer, r.count, o.room);
        inside = λ i h. elim (at i h) [
          | inl last ↦ ap (is_reached new) last.1 ∙ r.now.0
          | inr kept ↦ ap (is_reached new) kept.1 ∙ (still_reached (order_of old i) (o.inside i kept.0)).0
        ];
        met = λ v h. elim (reached_before v h) [
          | inl same ↦ (old.count, omega (arith, r.count), r.placed ∙ sym same)
          | inr before ↦ (let m = o.met v before.0 in (m.0, omega (arith, m.1, r.count), r.order m.0 m.1 ∙ m.2))
        ];
        low = λ i h. elim (at i h) [
          | inl last ↦ omega (arith, last.0, last.2)
          | inr kept ↦ omega (arith, kept.2, o.low i kept.0)
        ];
        once = λ i j less h same. elim (at j h) [
          | inl last ↦
              (let early : i < old.count = omega (arith, last.0) in
              other (order_of old i) (o.inside i early) (sym (r.order i early) ∙ same ∙ last.1))
          | inr kept ↦
              (let early : i < old.count = omega (arith, kept.0) in
              o.once i j less kept.0 (sym (r.order i early) ∙ same ∙ kept.1))
        ];
        rising = λ i j le h. elim (at j h) [
          | inl last ↦ elim (at i (omega arith)) [
            | inl first ↦ omega (arith, last.2, first.2)
            | inr kept ↦ omega (arith, last.2, kept.2, above i kept.0)
          ]
          | inr kept ↦
              (let early : i < old.count = omega (arith, kept.0) in
              elim (at i (omega arith)) [
                | inl first ↦ absurd (omega (arith, first.0))
                | inr before ↦ omega (arith, kept.2, before.2, o.rising i j le kept.0)
              ])
        ];
      }

-- what leads to the node at the place is reached
pub visiting_more : (nodes : ℕ) (ls : List (Arc × ℕ)) (place node : ℕ) (old new : Distances) → place < old.count → ResidualArc ls node (order_of old place) →
    Reaches node (distance_of old (order_of old place) + 1) old new → Visiting nodes ls place old → Visiting nodes ls place new
visiting_more nodes ls place node old new inside arc r s =
    let next : ℕ = order_of old place in
    let distance : ℕ = distance_of old (order_of old place) + 1 in
    let o : AreOrdered (length old.reached.items) old = subst (λ n. AreOrdered n old) (sym s.sound.places.reached_len) s.ordered in
    let at : (i : ℕ) → i < new.count → ((i ≡ old.count) × (order_of new i ≡ node) × (distance_of new (order_of new i) ≡ distance_of old (order_of old place) + 1)) ⊎ ((i < old.count) × (order_of new i ≡ order_of old i) × (distance_of new (order_of new i) ≡ distance_of old (order_of old i))) =
    place_before node (distance_of old (order_of old place) + 1) old new r o in
    record {
      sound = found_more node (distance_of old (order_of old place) + 1) old new r nodes ls (order_of old place) (s.ordered.inside place inside) refl arc s.sound;
      ordered = ordered_more node (distance_of old (order_of old place) + 1) old new r nodes s.sound.places.reached_len
          (omega (arith, s.ordered.low place inside)) (λ i h. s.near place i (omega arith) inside h) s.ordered;
      near = λ i j from hi hj. elim (at i hi) [
        | inl last ↦ elim (at j hj) [
          | inl same ↦ omega (arith, last.2, same.2)
          | inr kept ↦ omega (arith, last.2, kept.2, s.near place j (omega arith) inside kept.0)
        ]
        | inr before ↦ elim (at j hj) [
          | inl same ↦ omega (arith, before.2, same.2, s.ordered.rising place i from before.0)
          | inr kept ↦ omega (arith, before.2, kept.2, s.near i j from before.0 kept.0)
        ]
      ];
      closed = λ i u before hi a.
          (let early : i < old.count = omega arith in
          let same : order_of new i ≡ order_of old i = r.order i early in
          let was : (is_reached old u ≡ true) × (distance_of old u ≤ distance_of old (order_of old i) + 1) = s.closed i u before early (subst (λ w. ResidualArc ls u w) same a) in
          let up : (is_reached new u ≡ true) × (distance_of new u ≡ distance_of old u) = still_reached node (distance_of old (order_of old place) + 1) old new r u was.0 in
          let there : (is_reached new (order_of old i) ≡ true) × (distance_of new (order_of old i) ≡ distance_of old (order_of old i)) = still_reached node (distance_of old (order_of old place) + 1) old new r (order_of old i) (s.ordered.inside i early) in
          let far : distance_of new (order_of new i) ≡ distance_of new (order_of old i) = ap (distance_of new) same in
          (up.0, omega (arith, up.1, was.1, there.1, far)));
    }

-- an attempt keeps the search, and reaches the node where there is a way
pub attempt_more : (nodes : ℕ) (ls : List (Arc × ℕ)) (place node : ℕ) (has_way : Bool) (old new : Distances) → place < old.count → (has_way ≡ true → ResidualArc ls node (order_of old place)) →
    Attempts has_way node (distance_of old (order_of old place) + 1) old new → Visiting nodes ls place old →
    Visiting nodes ls place new × Keeps old new × (has_way ≡ true → is_reached new node ≡ true)
attempt_more nodes ls place node has_way old new inside arc (inl (way, r)) s =
    (visiting_more nodes ls place node old new inside (arc way) r s, keeps_more node (distance_of old (order_of old place) + 1) old new r, λ w. r.now.0)
attempt_more nodes ls place node has_way old new inside arc (inr (same, there)) s = (
  subst (λ f. Visiting nodes ls place f) (sym same) s,
  subst (λ f. Keeps old f) (sym same) (record { count = omega arith; reached = λ v h. h; order = λ i h. refl }),
  λ w. subst (λ f. is_reached f node ≡ true) (sym same) (there w),
)

keeps_both : (old mid new : Distances) → Keeps old mid → Keeps mid new → Keeps old new
keeps_both old mid new a b = record {
  count = omega (arith, a.count, b.count);
  reached = λ v h. b.reached v (a.reached v h);
  order = λ i h. b.order i (omega (arith, a.count)) ∙ a.order i h;
}

pub answered_kept : (ls : List (Arc × ℕ)) (index v : ℕ) (old new : Distances) → Keeps old new → Answered ls index v old → Answered ls index v new
answered_kept ls index v old new k a u l lets = k.reached u (a u l lets)

answered_here : (v u : ℕ) (found : Distances) (a : Arc) (x : ℕ) → ((a.to ≡ v) × (x < a.cap) → is_reached found a.from ≡ true) → ((a.from ≡ v) × (0 < x) → is_reached found a.to ≡ true) →
    LetsMore u v (a, x) → is_reached found u ≡ true
answered_here v u found a x forward backward (inl (from, to, less)) = rw (← from) (forward (to, less))
answered_here v u found a x forward backward (inr (to, from, some)) = rw (← to) (backward (from, some))

-- both attempts at an arc answer it
pub pass_more : (nodes : ℕ) (ls : List (Arc × ℕ)) (place index node distance : ℕ) (old mid new : Distances) (a : Arc) (x : ℕ) (forward backward : Bool) →
    place < old.count → index < length ls → (a, x) ≡ get_or ls index (a, x) → node ≡ order_of old place → distance ≡ distance_of old (order_of old place) + 1 →
    (IsTrue forward ↔ ((a.to ≡ node) × (x < a.cap))) → (IsTrue backward ↔ ((a.from ≡ node) × (0 < x))) →
    Attempts forward a.from distance old mid → Attempts backward a.to distance mid new →
    Visiting nodes ls place old → Visiting nodes ls place new × Answered ls index (order_of old place) new × Keeps old new
pass_more nodes ls place index node distance old mid new a x forward backward inside long read at far f b first second s =
    let one : Visiting nodes ls place mid × Keeps old mid × (forward ≡ true → is_reached mid a.from ≡ true) =
    attempt_more nodes ls place a.from forward old mid inside
    (λ way. (index, (a, x), long, sym read, inl (refl, (f.0 way).0 ∙ at, (f.0 way).1)))
    (subst (λ d. Attempts forward a.from d old mid) far first) s in
    let still : order_of mid place ≡ order_of old place = one.1.order place inside in
    let same_distance : distance_of mid (order_of mid place) ≡ distance_of old (order_of old place) =
    ap (distance_of mid) still ∙ distance_kept forward a.from distance old mid first (order_of old place) (s.ordered.inside place inside) in
    let two : Visiting nodes ls place new × Keeps mid new × (backward ≡ true → is_reached new a.to ≡ true) =
    attempt_more nodes ls place a.to backward mid new (omega (arith, one.1.count))
    (λ way. (index, (a, x), long, sym read, inr (refl, (b.0 way).0 ∙ at ∙ sym still, (b.0 way).1)))
    (subst (λ d. Attempts backward a.to d mid new) (far ∙ ap (λ n. n + 1) (sym same_distance)) second) one.0 in (
      two.0,
      (λ u l lets. answered_here (order_of old place) u new a x
          (λ way. two.1.reached a.from (one.2 (f.1 (way.0 ∙ sym at, way.1))))
          (λ way. two.2 (b.1 (way.0 ∙ sym at, way.1)))
          (subst (λ m. LetsMore u (order_of old place) m) (get_or_default ls index l (a, x) long ∙ sym read) lets)),
      keeps_both old mid new one.1 two.1,
    )
  where
    distance_kept : (has_way : Bool) (node distance : ℕ) (old new : Distances) → Attempts has_way node distance old new → (v : ℕ) → is_reached old v ≡ true → distance_of new v ≡ distance_of old v
    distance_kept has_way node distance old new (inl (way, r)) v h = (still_reached node distance old new r v h).1
    distance_kept has_way node distance old new (inr (same, there)) v h = ap (λ f. distance_of f v) same

pub reached_inside : (found : Distances) (v : ℕ) → is_reached found v ≡ true → v < length found.reached.items
reached_inside found v h = elim (cases_lt v (length found.reached.items)) [
  | inl inside ↦ inside
  | inr past ↦ absurd (true≢false (sym h ∙ get_or_past found.reached.items v false past))
]

-- ---- the arcs at a node
pub arcs_in_read : (lists : List (Vec ℕ Global)) (v : ℕ) (list : Vec ℕ Global) → v < length lists → list ≡ get_or lists v list → arcs_in lists v ≡ list.items
arcs_in_read lists v list inside read = ap (λ o. option_map_or (λ (l : Vec ℕ Global). l.items) o []) (slice_get_read lists (length lists) v list refl inside read)

stands_there : (lists : List (Vec ℕ Global)) (e u v : ℕ) (a : Arc) (x : ℕ) → Contains (arcs_in lists a.from) e × Contains (arcs_in lists a.to) e → LetsMore u v (a, x) → Contains (arcs_in lists v) e
stands_there lists e u v a x both (inl (from, to, less)) = subst (λ w. Contains (arcs_in lists w) e) to both.1
stands_there lists e u v a x both (inr (to, from, some)) = subst (λ w. Contains (arcs_in lists w) e) from both.0

-- each residual arc into a node stands in its list
pub residual_stands : (net : Net) (flow : Flow) (incidence : Incidence) → IsWithin net flow → IsIncidenceOf net incidence → (u v : ℕ) (arc : ResidualArc (loads net flow) u v) → Contains (arcs_in incidence.arcs_at.items v) arc.0
residual_stands net flow incidence w i u v arc =
    let inside : arc.0 < length net.arcs.items = omega (arith, arc.2, loads_len net flow w) in
    let read : get_or (loads net flow) arc.0 arc.1 ≡ (get_or net.arcs.items arc.0 arc.1.0, get_or flow.amounts.items arc.0 arc.1.1) = load_at net flow arc.0 arc.1.0 arc.1.1 w inside in
    stands_there incidence.arcs_at.items arc.0 u v (get_or net.arcs.items arc.0 arc.1.0) (get_or flow.amounts.items arc.0 arc.1.1) (i.ends arc.0 arc.1.0 inside)
    (subst (λ l. LetsMore u v l) (sym arc.3 ∙ read) arc.4)

-- once each arc in its list is passed, each residual arc into a node is answered
pub answered_all : (net : Net) (flow : Flow) (incidence : Incidence) → IsWithin net flow → IsIncidenceOf net incidence → (v n : ℕ) (items : List ℕ) (found : Distances) → items ≡ arcs_in incidence.arcs_at.items v → length items ≤ n →
    ((k : ℕ) → k < n → Answered (loads net flow) (get_or items k 0) v found) → (u : ℕ) → ResidualArc (loads net flow) u v → is_reached found u ≡ true
answered_all net flow incidence w i v n items found same all passed u arc =
    let there : Contains items arc.0 = subst (λ list. Contains list arc.0) (sym same) (residual_stands net flow incidence w i u v arc) in
    let at : get_or items there.0 0 ≡ arc.0 = sym (get_or_default_zero items there.0 arc.0 there.1) ∙ there.2 in
    passed there.0 (omega (arith, there.1)) u arc.1 (subst (λ l. LetsMore u v l) (sym (ap (λ e. get_or (loads net flow) e arc.1) at ∙ arc.3)) arc.4)

-- the search is through with one more node
pub visiting_next : (nodes : ℕ) (ls : List (Arc × ℕ)) (place : ℕ) (found : Distances) → place < found.count → ((u : ℕ) → ResidualArc ls u (order_of found place) → is_reached found u ≡ true) →
    Visiting nodes ls place found → Visiting nodes ls (place + 1) found
visiting_next nodes ls place found inside answered s = record {
  sound = s.sound;
  ordered = s.ordered;
  near = λ i j from. s.near i j (omega arith);
  closed = λ i u before hi arc. elim (cases_eq i place) [
    | inl same ↦
        (let there : is_reached found u ≡ true = answered u (subst (λ k. ResidualArc ls u (order_of found k)) same arc) in
        let m = s.ordered.met u there in
        let near : distance_of found (order_of found m.0) ≤ distance_of found (order_of found i) + 1 = s.near i m.0 (omega arith) hi m.1 in
        let at : distance_of found (order_of found m.0) ≡ distance_of found u = ap (distance_of found) m.2 in
        (there, omega arith))
    | inr differs ↦ s.closed i u (omega arith) hi arc
  ];
}

-- only the sink is reached
pub visiting_first : (nodes : ℕ) (ls : List (Arc × ℕ)) (old new : Distances) → HasNodes nodes old → old.count ≡ 0 → ((v : ℕ) → (is_reached old v ≡ false) × (distance_of old v ≡ 0)) → Reaches 1 0 old new → Visiting nodes ls 0 new
visiting_first nodes ls old new places none away r =
    let first : order_of new 0 ≡ 1 = ap (order_of new) (sym none) ∙ r.placed in
    let one : new.count ≡ 1 = omega (arith, r.count) in
    let only : (i : ℕ) → i < new.count → i ≡ 0 = (λ i h. omega arith) in
    let start : (i : ℕ) → i < new.count → distance_of new (order_of new i) ≡ 0 = (λ i h. ap (λ k. distance_of new (order_of new k)) (only i h) ∙ ap (distance_of new) first ∙ r.now.1) in
    let sink : (v : ℕ) → is_reached new v ≡ true → v ≡ 1 = (λ v h. elim (cases_eq v 1) [
      | inl same ↦ same
      | inr differs ↦ absurd (true≢false (sym h ∙ (r.rest v differs).0 ∙ (away v).0))
    ]) in
    record {
      sound = record {
        places = places_more 1 0 old new r nodes places;
        sink = r.now;
        supported = λ v h. inl (sink v h, ap (distance_of new) (sink v h) ∙ r.now.1);
        others = λ v h. elim (cases_eq v 1) [
          | inl same ↦ ap (distance_of new) same ∙ r.now.1
          | inr differs ↦ (r.rest v differs).1 ∙ (away v).1
        ];
      };
      ordered = record {
        room = omega (arith, r.fewer, count_by-le-length not old.reached.items, places.reached_len);
        inside = λ i h. ap (λ k. is_reached new (order_of new k)) (only i h) ∙ ap (is_reached new) first ∙ r.now.0;
        met = λ v h. (0, omega arith, first ∙ sym (sink v h));
        low = λ i h. omega (arith, start i h);
        once = λ i j less h same. absurd (omega arith);
        rising = λ i j le h. omega (arith, start i (omega arith), start j h);
      };
      near = λ i j from hi hj. omega (arith, start i hi, start j hj);
      closed = λ i u before. absurd (omega arith);
    }

-- a reached node has a walk as long as its distance
walk_down : (ls : List (Arc × ℕ)) (found : Distances) → ((v : ℕ) → is_reached found v ≡ true → IsSupported ls found v) → (n v : ℕ) → is_reached found v ≡ true → distance_of found v ≡ n → ReachesSink ls n v
walk_down ls found supported zero v h far = elim (supported v h) [
  | inl sink ↦ sink.0
  | inr down ↦ (let more : distance_of found v ≡ distance_of found down.0 + 1 = down.3 in absurd (omega arith))
]
walk_down ls found supported (suc n) v h far = elim (supported v h) [
  | inl sink ↦ (let none : distance_of found v ≡ 0 = sink.1 in absurd (omega arith))
  | inr down ↦ (let more : distance_of found v ≡ distance_of found down.0 + 1 = down.3 in
      (down.0, down.1, walk_down ls found supported n down.0 down.2 (omega arith)))
]

-- the search is through with all nodes: no residual arc shortens a way
closed_end : (nodes : ℕ) (ls : List (Arc × ℕ)) (place : ℕ) (found : Distances) → found.count ≤ place → Visiting nodes ls place found →
    (u v : ℕ) → ResidualArc ls u v → is_reached found v ≡ true → (is_reached found u ≡ true) × (distance_of found u ≤ distance_of found v + 1)
closed_end nodes ls place found all s u v arc h =
    let m = s.ordered.met v h in
    let there : (is_reached found u ≡ true) × (distance_of found u ≤ distance_of found (order_of found m.0) + 1) =
    s.closed m.0 u (omega (arith, m.1)) m.1 (subst (λ w. ResidualArc ls u w) (sym m.2) arc) in
    (there.0, omega (arith, there.1, ap (distance_of found) m.2))

-- each walk starts at a reached node, and is at least as long as its distance
reached_from_walk : (nodes : ℕ) (ls : List (Arc × ℕ)) (place : ℕ) (found : Distances) → found.count ≤ place → Visiting nodes ls place found →
    (n v : ℕ) → ReachesSink ls n v → (is_reached found v ≡ true) × (distance_of found v ≤ n)
reached_from_walk nodes ls place found all s zero v walk =
    (ap (is_reached found) walk ∙ s.sound.sink.0, omega (arith, ap (distance_of found) walk, s.sound.sink.1))
reached_from_walk nodes ls place found all s (suc n) v walk =
    let next : (is_reached found walk.0 ≡ true) × (distance_of found walk.0 ≤ n) = reached_from_walk nodes ls place found all s n walk.0 walk.2 in
    let here : (is_reached found v ≡ true) × (distance_of found v ≤ distance_of found walk.0 + 1) = closed_end nodes ls place found all s v walk.0 walk.1 next.0 in
    (here.0, omega (arith, here.1, next.1))

pub distances_end : (nodes : ℕ) (ls : List (Arc × ℕ)) (place : ℕ) (found : Distances) → found.count ≤ place → Visiting nodes ls place found → AreDistances nodes ls found
distances_end nodes ls place found all s = record {
  places = s.sound.places;
  walk = λ v h. walk_down ls found s.sound.supported (distance_of found v) v h refl;
  fewest = reached_from_walk nodes ls place found all s;
  others = s.sound.others;
}

-- so the order has exactly the nodes that are reached
pub nearest_first : (nodes : ℕ) (ls : List (Arc × ℕ)) (place : ℕ) (found : Distances) → Visiting nodes ls place found → IsNearestFirst found
nearest_first nodes ls place found s =
    let o = s.ordered in
    let long : found.count ≤ length found.order.items = omega (arith, o.room, s.sound.places.order_len) in
    let len : length (take found.count found.order.items) ≡ found.count = length-take-le found.count found.order.items long in
    let at : (i d : ℕ) → i < found.count → get_or (take found.count found.order.items) i d ≡ order_of found i =
    (λ i d h. get_or-take found.count found.order.items i d h ∙ get_or_default found.order.items i d 0 (omega arith)) in
    record {
      len = len;
      exact = λ v. (
        (λ h. let inside : h.0 < found.count = omega (arith, h.1, len) in
            ap (is_reached found) (sym h.2 ∙ at h.0 v inside) ∙ o.inside h.0 inside),
        (λ h. let m = o.met v h in (m.0, omega (arith, m.1, len), at m.0 v m.1 ∙ m.2)),
      );
      nearest = λ i j d less h.
          (let last : j < found.count = omega (arith, h, len) in
          let first : i < found.count = omega arith in (
            (λ same. o.once i j less last (sym (at i d first) ∙ same ∙ at j d last)),
            omega (arith, ap (distance_of found) (at i d first), ap (distance_of found) (at j d last), o.rising i j (omega arith) last),
          ));
    }

pub distance_small : (nodes : ℕ) (ls : List (Arc × ℕ)) (place : ℕ) (found : Distances) → 2 ≤ nodes → Visiting nodes ls place found → (v : ℕ) → distance_of found v < nodes
distance_small nodes ls place found two s v = elim (cases_Bool (is_reached found v)) [
  | inl there ↦ (let m = s.ordered.met v there in omega (arith, m.1, s.ordered.low m.0 m.1, s.ordered.room, ap (distance_of found) m.2))
  | inr away ↦ omega (arith, s.sound.others v away)
]
