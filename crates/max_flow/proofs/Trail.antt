-- A trail of steps down from the source, each one nearer to the sink, by nodes that aren't dead.
use Rattle.std.proofs.Common.{◌≡◌, ◌≢◌, ℕ, ◌+◌, ◌<◌, ◌≤◌, Bool, true, false, List, [], ◌∷◌, ◌++◌, length, refl, ap, arith, sym, ◌∙◌, set, subst, take, get_or}
use Rattle.std.proofs.lemmas.List.{get_or-set_other, length-take-le, take_more, take-take}
use Rattle.std.specs.Prelude.{All}
use Rattle.std.proofs.lemmas.List.Elements.{All-take}
use Rattle.flow_net.specs.declared.Arc.{Arc}
use Rattle.flow_net.specs.declared.levels.Distances.{Distances}
use Rattle.flow_net.specs.Levels.{distance_of}
use Rattle.flow_net.specs.Network.{IsArcOf}
use Rattle.max_flow.specs.declared.pushing.Step.{Step}
use Rattle.max_flow.specs.Path.{arc_at, start_of, end_of, StepsFrom, IsPath, is_dead}

abbrev pub IsTrail : List Arc → Distances → List Bool → ℕ → List Step → ℕ → Type 0
IsTrail arcs found dead v [] w = v ≡ w
IsTrail arcs found dead v (s ∷ steps) w = StepsFrom arcs found v s × (is_dead dead v ≡ false) × IsTrail arcs found dead (end_of arcs s) steps w

module _ (arcs : List Arc) (found : Distances) (dead : List Bool) where
  pub trail_push : (steps : List Step) (v w : ℕ) (s : Step) → IsTrail arcs found dead v steps w → is_dead dead w ≡ false → StepsFrom arcs found w s → IsTrail arcs found dead v (steps ++ s ∷ []) (end_of arcs s)
  trail_push [] v w s same alive step = (subst (λ u. StepsFrom arcs found u s) (sym same) step, ap (is_dead dead) same ∙ alive, refl)
  trail_push (t ∷ steps) v w s trail alive step = (trail.0, trail.1, trail_push steps (end_of arcs t) w s trail.2 alive step)

  pub trail_pop : (steps : List Step) (v w : ℕ) (s : Step) → IsTrail arcs found dead v (steps ++ s ∷ []) w →
      IsTrail arcs found dead v steps (start_of arcs s) × (is_dead dead (start_of arcs s) ≡ false) × StepsFrom arcs found (start_of arcs s) s × (end_of arcs s ≡ w)
  trail_pop [] v w s trail =
      (sym trail.0.start, ap (is_dead dead) trail.0.start ∙ trail.1, subst (λ u. StepsFrom arcs found u s) (sym trail.0.start) trail.0, trail.2)
  trail_pop (t ∷ steps) v w s trail =
      let rest = trail_pop steps (end_of arcs t) w s trail.2 in
      ((trail.0, trail.1, rest.0), rest.1, rest.2, rest.3)

  pub trail_depth : (steps : List Step) (v w : ℕ) → IsTrail arcs found dead v steps w → distance_of found v ≡ distance_of found w + length steps
  trail_depth [] v w same = omega (arith, ap (distance_of found) same)
  trail_depth (s ∷ steps) v w trail = omega (arith, trail_depth steps (end_of arcs s) w trail.2, trail.0.nearer.1)

  pub trail_path : (steps : List Step) (v w : ℕ) → IsTrail arcs found dead v steps w → w ≡ 1 → IsPath arcs found v steps
  trail_path [] v w same sink = same ∙ sink
  trail_path (s ∷ steps) v w trail sink = (trail.0, trail_path steps (end_of arcs s) w trail.2 sink)

  -- the death of the node that a trail ends in leaves the trail
  pub trail_dead : (steps : List Step) (v w : ℕ) → IsTrail arcs found dead v steps w → IsTrail arcs found (set dead w true) v steps w
  trail_dead [] v w same = same
  trail_dead (s ∷ steps) v w trail =
      let far : distance_of found v ≡ distance_of found w + length (s ∷ steps) = trail_depth (s ∷ steps) v w trail in
      let differs : v ≢ w = (λ same. (let eq : distance_of found v ≡ distance_of found w = ap (distance_of found) same in absurd (omega arith))) in
      (trail.0, get_or-set_other dead w v true false differs ∙ trail.1, trail_dead steps (end_of arcs s) w trail.2)

-- as many steps as the source is farther than the node
pub trail_steps : (arcs : List Arc) (found : Distances) (dead : List Bool) (path : List Step) (n v w : ℕ) → n ≤ length path → IsTrail arcs found dead v (take n path) w → distance_of found v ≡ distance_of found w + n
trail_steps arcs found dead path n v w fits trail = omega (arith, trail_depth arcs found dead (take n path) v w trail, length-take-le n path fits)

start_inside : (n i : ℕ) (along : Bool) (arcs : List Arc) → IsArcOf n (arc_at arcs i) → start_of arcs (record { arc = i; forward = along }) < n
start_inside n i true arcs a = a.0
start_inside n i false arcs a = a.1

-- a step back from a node that dies
pub record StepsBack (nodes : ℕ) (arcs : List Arc) (found : Distances) (dead : List Bool) (path : List Step) (n node : ℕ) (s : Step) : Type 0 where
  pub trail : IsTrail arcs found (set dead node true) 0 (take n path) (start_of arcs s)
  pub alive : is_dead (set dead node true) (start_of arcs s) ≡ false
  pub step : StepsFrom arcs found (start_of arcs s) s
  pub inside : start_of arcs s < nodes

pub steps_back : (nodes : ℕ) (arcs : List Arc) (found : Distances) (dead : List Bool) (path : List Step) (n m node : ℕ) (d : Step) → ((i : ℕ) → i < length arcs → IsArcOf nodes (arc_at arcs i)) →
    m ≡ n + 1 → m ≤ length path → IsTrail arcs found dead 0 (take m path) node → StepsBack nodes arcs found dead path n node (get_or path n d)
steps_back nodes arcs found dead path n m node d all one fits trail =
    let s : Step = get_or path n d in
    let items : take m path ≡ take n path ++ get_or path n d ∷ [] = ap (λ k. take k path) one ∙ take_more path n d (omega arith) in
    let back = trail_pop arcs found (set dead node true) (take n path) 0 node (get_or path n d)
    (subst (λ xs. IsTrail arcs found (set dead node true) 0 xs node) items (trail_dead arcs found dead (take m path) 0 node trail)) in
    record {
      trail = back.0;
      alive = back.1;
      step = back.2;
      inside = start_inside nodes s.arc s.forward arcs (all s.arc back.2.inside);
    }

-- what holds of a path holds of its first steps
pub room_back : (path : List Step) (P : Step → Type 0) (n m : ℕ) → n ≤ m → All P (take m path) → All P (take n path)
room_back path P n m le all = subst (λ xs. All P xs) (take-take n m path le) (All-take P n (take m path) all)
