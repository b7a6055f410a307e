-- The arcs of a point graph.
use Rattle.std.proofs.Common.{◌≡◌, ◌<◌, ◌↔◌, ℕ, zero, suc, List, [], ◌∷◌, Option, MatchOption, refl, length, get_or, sym, ◌∙◌, ap, subst, arith}
use Rattle.std.specs.List.{AllZip}
use Rattle.std.proofs.lemmas.List.{length-map, get_or-map}
use Rattle.std.proofs.lemmas.Option.{slice_get_within}
use Rattle.ir_types.specs.declared.syntax.Function.{Function}
use Rattle.point_graph.specs.Graph as graph
use Rattle.point_graph.specs.declared.graph.EdgeKind.TheVariants.{Entry}
use Rattle.point_graph.specs.declared.graph.Edge.{Edge}
use Rattle.point_graph.specs.declared.graph.Points.{Points}
use Rattle.point_graph.specs.Numbers.{ArePoints, IsNumbered, all_edges}
use Rattle.flow_paths.specs.Paths.{ArcsWithin}
use Rattle.flow_paths.specs.Marks.{mark_at, ReachedInvalid}
use Rattle.expressions.specs.declared.syntax.Event.{Event}
use Rattle.expressions.specs.Kept.{Kept}
use Rattle.expressions.specs.Tables.{IsEventOf}
use Rattle.placement.specs.declared.placements.Placement.{Placement}
use Rattle.placement.specs.declared.marking.Marked.{Marked}
use Rattle.placement.specs.Placements.{arcs_of, IsCorrect, IsFirstInvalid, IsLiveAt}
use Rattle.placement.specs.Marking.{AreEvents, EdgeMarks, PointMarks, DeletedBy}
use Rattle.placement.specs.Marked.{IsMarked, HasMarks, LiveBy}
use Rattle.placement.proofs.EventLemmas.{one_event, event_inside}
use Rattle.placement.proofs.PathLemmas.{Given, FirstByMarks, first_is, live_is}

second_each : {A B : Type 0} (R : A → B → Type 0) (P : B → Type 0) → ((x : A) (y : B) → R x y → P y) → (xs : List A) (ys : List B) → AllZip R xs ys → (k : ℕ) (d : B) → k < length ys → P (get_or ys k d)
second_each R P keep [] [] all k d h = absurd (omega (arith, h))
second_each R P keep [] (y ∷ ys) all k d h = absurd all
second_each R P keep (x ∷ xs) [] all k d h = absurd all
second_each R P keep (x ∷ xs) (y ∷ ys) all zero d h = keep x y all.0
second_each R P keep (x ∷ xs) (y ∷ ys) all (suc k) d h = second_each R P keep xs ys all.1 k d (omega (arith, h))

pub arcs_length : (edges : List Edge) → length (arcs_of edges) ≡ length edges
arcs_length edges = length-map edges (λ e. (e.from, e.to))

-- each edge joins two points
pub arcs_within : (f : Function) (p : Points) → ArePoints f p → ArcsWithin (arcs_of p.edges) (length p.points)
arcs_within f p a e h =
    let none : Edge = record { from = 0; to = 0; kind = Entry } in
    let inside : e < length p.edges = omega (arith, h, arcs_length p.edges) in
    let read = get_or-map (λ (x : Edge). (x.from, x.to)) p.edges e none (0, 0) inside in
    let ends = second_each (IsNumbered f p.points) (λ x. (x.from < length p.points) × (x.to < length p.points))
    (λ (g : graph.Edge) x n. (slice_get_within p.points x.from n.from n.begins, slice_get_within p.points x.to n.to n.ends)) (all_edges f p.blocks) p.edges a.edges e none inside in
    (subst (λ (x : ℕ × ℕ). x.0 < length p.points) (sym read) ends.0, subst (λ (x : ℕ × ℕ). x.1 < length p.points) (sym read) ends.1)

-- there is Start
pub some_point : (f : Function) (p : Points) → ArePoints f p → 0 < length p.points
some_point f p a = omega (arith, ap length a.points)

-- ---- the marks of a placement on the graph of a function

module _ (f : Function) (p : Points) (t : Kept) (e : ℕ) (placement : Placement) (events : List Event) (m : Marked) (a : ArePoints f p) (told : AreEvents (IsEventOf f p t e) (length p.points) events) (marked : IsMarked p.edges events placement m) where
  count : length m.events.items ≡ length p.points
  count = ap length marked.events_are ∙ told.len

  pub has_marks : HasMarks m
  has_marks = record {
    start = omega (arith, some_point f p a, count);
    numbered = omega (arith, a.few, count);
    within = subst (λ arcs. ArcsWithin arcs (length m.events.items)) (sym marked.arcs_are) (subst (λ n. ArcsWithin (arcs_of p.edges) n) (sym count) (arcs_within f p a));
    points = marked.point_marks.len ∙ sym (ap length marked.events_are);
    edges = marked.edge_marks.len ∙ sym (ap length marked.arcs_are ∙ arcs_length p.edges);
  }

  given : Given (arcs_of p.edges) (length p.points) (IsEventOf f p t e) placement m.events.items m.at_point.items m.at_edge.items
  given = record {
    within = arcs_within f p a;
    told = subst (λ es. AreEvents (IsEventOf f p t e) (length p.points) es) (sym marked.events_are) told;
    one = one_event f p t e;
    inside = event_inside f p t e;
    point_marks = subst (λ es. PointMarks es placement.kept m.at_point.items) (sym marked.events_are) marked.point_marks;
    edge_marks = subst (λ n. EdgeMarks n placement.inserted m.at_edge.items) (sym (arcs_length p.edges)) marked.edge_marks;
  }

  pub first_of : (r : Option ℕ) → FirstByMarks m r → MatchOption r (IsCorrect (arcs_of p.edges) (IsEventOf f p t e) placement) (IsFirstInvalid (arcs_of p.edges) (IsEventOf f p t e) placement)
  first_of r h =
      first_is (arcs_of p.edges) (length p.points) (IsEventOf f p t e) placement m.events.items m.at_point.items m.at_edge.items given r
      (subst (λ (arcs : List (ℕ × ℕ)). MatchOption r
      ((w : ℕ) → w < length m.events.items → ¬ (DeletedBy m.events.items m.at_point.items w × ReachedInvalid arcs (mark_at m.at_point.items m.at_edge.items) w))
      (λ v. (v < length m.events.items) × (DeletedBy m.events.items m.at_point.items v × ReachedInvalid arcs (mark_at m.at_point.items m.at_edge.items) v)
      × ((w : ℕ) → w < v → ¬ (DeletedBy m.events.items m.at_point.items w × ReachedInvalid arcs (mark_at m.at_point.items m.at_edge.items) w)))) marked.arcs_are h)

  pub live_of : (v : ℕ) → v < length p.points → LiveBy m v ↔ IsLiveAt (arcs_of p.edges) (IsEventOf f p t e) placement v
  live_of = live_is (arcs_of p.edges) (length p.points) (IsEventOf f p t e) placement m.events.items m.at_point.items m.at_edge.items given m marked.arcs_are refl refl refl
