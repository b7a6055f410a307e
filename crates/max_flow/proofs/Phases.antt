-- Levels and dead nodes while amounts move, and how far the sink is once the source is dead.
use Rattle.std.proofs.Common.{◌≡◌, ◌≢◌, ℕ, suc, zero, ◌+◌, ◌<◌, ◌≤◌, Bool, true, false, List, length, refl, ap, arith, sym, ◌∙◌, inl, inr, set, subst, get_or, ◌⊎◌}
use Rattle.std.proofs.lemmas.Bool.{cases_eq, cases_lt, true≢false}
use Rattle.std.proofs.lemmas.List.{get_or-set_same, get_or-set_other, length-set, get_or_default}
use Rattle.flow_net.specs.declared.Arc.{Arc}
use Rattle.flow_net.specs.declared.levels.Distances.{Distances}
use Rattle.flow_net.specs.Network.{ResidualArc, ReachesSink, LetsMore}
use Rattle.flow_net.specs.Levels.{AreDistances, is_reached, distance_of}
use Rattle.max_flow.specs.Path.{IsNearer, IsStuck, AreDead, AreLevels, LeadsFarther, RisesAbove, is_dead}

pub levels_first : (nodes : ℕ) (ls : List (Arc × ℕ)) (found : Distances) → AreDistances nodes ls found → AreLevels nodes ls found
levels_first nodes ls found d = record {
  reached_len = d.places.reached_len;
  distance_len = d.places.distance_len;
  sink = (d.fewest 0 1 refl).0;
  closed = λ u v arc h.
      (let here : (is_reached found u ≡ true) × (distance_of found u ≤ suc (distance_of found v)) = d.fewest (suc (distance_of found v)) u (v, arc, d.walk v h) in
      (here.0, omega (arith, here.1)));
}

-- the same for residual arcs
residual_farther : (old new : List (Arc × ℕ)) (found : Distances) → LeadsFarther found old new → (u v : ℕ) → ResidualArc new u v → ResidualArc old u v ⊎ IsNearer found v u
residual_farther old new found farther u v arc = elim (farther.each arc.0 u v arc.1 arc.2 (subst (λ l. LetsMore u v l) (sym arc.3) arc.4)) [
  | inl before ↦
      (let long : arc.0 < length old = omega (arith, arc.2, farther.len) in
      inl (arc.0, get_or old arc.0 arc.1, long, get_or_default old arc.0 (get_or old arc.0 arc.1) arc.1 long, before))
  | inr back ↦ inr back
]

pub levels_more : (nodes : ℕ) (old new : List (Arc × ℕ)) (found : Distances) → LeadsFarther found old new → AreLevels nodes old found → AreLevels nodes new found
levels_more nodes old new found farther l = record {
  reached_len = l.reached_len;
  distance_len = l.distance_len;
  sink = l.sink;
  closed = λ u v arc h. elim (residual_farther old new found farther u v arc) [
    | inl before ↦ l.closed u v before h
    | inr back ↦ (back.0, (let one : distance_of found v ≡ distance_of found u + 1 = back.1 in omega arith))
  ];
}

pub dead_more : (nodes : ℕ) (old new : List (Arc × ℕ)) (found : Distances) (dead : List Bool) → LeadsFarther found old new → AreDead nodes old found dead → AreDead nodes new found dead
dead_more nodes old new found dead farther d = record {
  len = d.len;
  sink = d.sink;
  stuck = λ v h next arc nearer. elim (residual_farther old new found farther v next arc) [
    | inl before ↦ d.stuck v h next before nearer
    | inr back ↦
        (let up : distance_of found next ≡ distance_of found v + 1 = back.1 in
        let down : distance_of found v ≡ distance_of found next + 1 = nearer.1 in
        absurd (omega arith))
  ];
}

-- one more node dies
pub dead_set : (nodes : ℕ) (ls : List (Arc × ℕ)) (found : Distances) (dead : List Bool) (v : ℕ) → v < nodes → v ≢ 1 → IsStuck ls found dead v → AreDead nodes ls found dead → AreDead nodes ls found (set dead v true)
dead_set nodes ls found dead v inside not_sink stuck d =
    let short : v < length dead = omega (arith, d.len) in
    let still : (u : ℕ) → is_dead dead u ≡ true → is_dead (set dead v true) u ≡ true = (λ u h. elim (cases_eq u v) [
      | inl same ↦ ap (λ w. is_dead (set dead v true) w) same ∙ get_or-set_same dead v true false short
      | inr differs ↦ get_or-set_other dead v u true false differs ∙ h
    ]) in
    record {
      len = length-set dead v true ∙ d.len;
      sink = get_or-set_other dead v 1 true false (λ same. not_sink (sym same)) ∙ d.sink;
      stuck = λ u h next arc nearer. elim (cases_eq u v) [
        | inl same ↦ still next (stuck next (subst (λ w. ResidualArc ls w next) same arc) (subst (λ w. IsNearer found w next) same nearer))
        | inr differs ↦ still next (d.stuck u (sym (get_or-set_other dead v u true false differs) ∙ h) next arc nearer)
      ];
    }

-- a walk is no shorter than its level, and longer where it starts at a dead node
level_below : (nodes : ℕ) (ls : List (Arc × ℕ)) (found : Distances) → AreLevels nodes ls found → distance_of found 1 ≡ 0 → (n v : ℕ) → ReachesSink ls n v → (is_reached found v ≡ true) × (distance_of found v ≤ n)
level_below nodes ls found l none zero v walk = (ap (is_reached found) walk ∙ l.sink, omega (arith, ap (distance_of found) walk))
level_below nodes ls found l none (suc n) v walk =
    let next : (is_reached found walk.0 ≡ true) × (distance_of found walk.0 ≤ n) = level_below nodes ls found l none n walk.0 walk.2 in
    let here : (is_reached found v ≡ true) × (distance_of found v ≤ distance_of found walk.0 + 1) = l.closed v walk.0 walk.1 next.0 in
    (here.0, omega (arith, here.1, next.1))

pub dead_above : (nodes : ℕ) (ls : List (Arc × ℕ)) (found : Distances) (dead : List Bool) → AreLevels nodes ls found → distance_of found 1 ≡ 0 → AreDead nodes ls found dead →
    (n v : ℕ) → is_dead dead v ≡ true → ReachesSink ls n v → distance_of found v < n
dead_above nodes ls found dead l none d zero v h walk = absurd (true≢false (sym h ∙ ap (is_dead dead) walk ∙ d.sink))
dead_above nodes ls found dead l none d (suc n) v h walk =
    let next : (is_reached found walk.0 ≡ true) × (distance_of found walk.0 ≤ n) = level_below nodes ls found l none n walk.0 walk.2 in
    let here : (is_reached found v ≡ true) × (distance_of found v ≤ distance_of found walk.0 + 1) = l.closed v walk.0 walk.1 next.0 in
    elim (cases_lt (distance_of found v) (suc n)) [
      | inl less ↦ less
      | inr not_less ↦
          (let near : distance_of found v ≤ distance_of found walk.0 + 1 = here.1 in
          let low : distance_of found walk.0 ≤ n = next.1 in
          let step : distance_of found v ≡ distance_of found walk.0 + 1 = omega arith in
          let down : distance_of found walk.0 < n = dead_above nodes ls found dead l none d n walk.0 (d.stuck v h walk.0 walk.1 (next.0, step)) walk.2 in
          omega arith)
    ]

-- a phase that ends with the source dead has put the sink farther
pub rises : (nodes : ℕ) (old new : List (Arc × ℕ)) (found : Distances) (dead : List Bool) → AreDistances nodes old found → is_reached found 0 ≡ true → AreLevels nodes new found → AreDead nodes new found dead → is_dead dead 0 ≡ true → RisesAbove old new
rises nodes old new found dead d there l dies h m fewest n walk =
    let none : distance_of found 1 ≡ 0 = omega (arith, (d.fewest 0 1 refl).1) in
    let above : distance_of found 0 < n = dead_above nodes new found dead l none dies n 0 h walk in
    let fits : m ≤ distance_of found 0 = fewest (distance_of found 0) (d.walk 0 there) in
    omega arith

pub source_far : (ls : List (Arc × ℕ)) (n : ℕ) → ReachesSink ls n 0 → 0 < n
source_far ls zero walk = absurd (omega (arith, walk))
source_far ls (suc n) walk = omega arith
