-- An entry that is good by one list of points and one table of a function is good by any.
use Rattle.std.proofs.Common.{◌≡◌, ◌<◌, ◌≤◌, ℕ, Bool, List, length, Some, ap, ap₂, ◌∙◌, subst}
use Rattle.std.specs.Prelude.{slice_get}
use Rattle.ir_types.specs.declared.syntax.Function.{Function}
use Rattle.profile.specs.declared.counts.FnCounts.{FnCounts}
use Rattle.point_graph.specs.Numbers.{ArePoints}
use Rattle.point_graph.specs.declared.graph.Edge.{Edge}
use Rattle.point_graph.specs.declared.graph.Point.{Point}
use Rattle.point_graph.specs.declared.graph.Points.{Points}
use Rattle.expressions.specs.declared.syntax.Event.{Event}
use Rattle.expressions.specs.declared.syntax.Expr.{Expr}
use Rattle.expressions.specs.declared.syntax.Event.TheVariants.{Occurs, Kills, Bars}
use Rattle.expressions.specs.Kept.{Kept}
use Rattle.expressions.specs.Tables.{IsTable, IsEventOf}
use Rattle.placement.specs.Placements.{arcs_of, IsCorrect, IsSafe}
use Rattle.best_choice.specs.Best.{IsPlacementOn}
use Rattle.best_placement.specs.Laws.{ExpressionGraph, IsBlockNetwork}
use Rattle.function_graphs.specs.Graphs.{AreEventsOf, IsIn, graph_of}
use Rattle.lazy_motion.proofs.Alike.{Alike, placement_too, is_correct_too, safe_too}
use Rattle.one_transformed.specs.Numberings.{AreSame}
use Rattle.certificate.specs.declared.types.Entry.{Entry}
use Rattle.certified.specs.Entries.{CanTrap, CertifiesIn, IsGood, IsListed, IsPlain, IsRight, Shows}

module _ (f : Function) (p p' : Points) (t t' : Kept) (same : AreSame f p p' t t') (are : ArePoints f p) (table : IsTable f p t) (own : FnCounts) (x : ℕ) (entry : Entry) where
  events_back : (event : ℕ → Event) → AreEventsOf f p' t' x event → AreEventsOf f p t x event
  events_back event are = record {
    at_points = λ v lt. (same.events x v (event v)).1 (are.at_points v (subst (λ (l : List Point). v < length l) same.points lt));
    past = λ v past. are.past v (subst (λ (l : List Point). length l ≤ v) same.points past);
  }

  alike : Alike (IsEventOf f p t x) (IsEventOf f p' t' x)
  alike = record {
    occurs = λ v. same.events x v Occurs;
    kills = λ v. same.events x v Kills;
    bars = λ v. same.events x v Bars;
  }

  plain_back : IsPlain t' x → IsPlain t x
  plain_back plain expr there = plain expr (subst (λ (l : List Expr). slice_get l x ≡ Some expr) same.exprs there)

  traps_back : CanTrap t' x → CanTrap t x
  traps_back traps expr there = traps expr (subst (λ (l : List Expr). slice_get l x ≡ Some expr) same.exprs there)

  listed_there : IsListed f p t x entry → IsListed f p' t' x entry
  listed_there is =
      let here = placement_too (arcs_of p.edges) (length p.points) (IsEventOf f p t x) (IsEventOf f p' t' x) alike entry.placement is in
      subst (λ (points : List Point). IsPlacementOn (arcs_of p'.edges) (length points) (IsEventOf f p' t' x) entry.placement) same.points
      (subst (λ (edges : List Edge). IsPlacementOn (arcs_of edges) (length p.points) (IsEventOf f p' t' x) entry.placement) same.edges here)

  right_there : IsRight f p t x entry → IsRight f p' t' x entry
  right_there is =
      subst (λ (edges : List Edge). IsCorrect (arcs_of edges) (IsEventOf f p' t' x) entry.placement) same.edges
      (is_correct_too (arcs_of p.edges) (IsEventOf f p t x) (IsEventOf f p' t' x) alike entry.placement is)

  safe_there : IsSafe (arcs_of p.edges) (IsEventOf f p t x) entry.placement → IsSafe (arcs_of p'.edges) (IsEventOf f p' t' x) entry.placement
  safe_there is =
      subst (λ (edges : List Edge). IsSafe (arcs_of edges) (IsEventOf f p' t' x) entry.placement) same.edges
      (safe_too (arcs_of p.edges) (IsEventOf f p t x) (IsEventOf f p' t' x) alike entry.placement is)

  module _ (reached : ℕ → Bool) (event : ℕ → Event) where
    abbrev graph_by : (blocks : List ℕ) (points : List Point) (edges : List Edge) → ExpressionGraph
    graph_by blocks points edges = graph_of f (record { blocks = blocks; points = points; edges = edges; starts = p.starts }) own reached event

    graph_same : graph_of f p own reached event ≡ graph_of f p' own reached event
    graph_same = ap₂ (λ points edges. graph_by p.blocks points edges) same.points same.edges ∙ ap (λ blocks. graph_by blocks p'.points p'.edges) same.blocks

    is_in_back : IsIn f p' t' x reached event → IsIn f p t x reached event
    is_in_back is = record {
      defined = is.defined;
      points = are;
      table = table;
      blocks = is.blocks;
      events = events_back event is.events;
    }

  certifies_there : CertifiesIn f p t own x entry → CertifiesIn f p' t' own x entry
  certifies_there certifies = record {
    net = certifies.net;
    network = λ reached event is. subst (λ (g : ExpressionGraph). IsBlockNetwork g certifies.net) (graph_same reached event) (certifies.network reached event (is_in_back reached event is));
    shows = λ reached event is. subst (λ (g : ExpressionGraph). Shows g certifies.net entry) (graph_same reached event) (certifies.shows reached event (is_in_back reached event is));
  }

  pub good_there : IsGood f p t own x entry → IsGood f p' t' own x entry
  good_there good = record {
    listed = listed_there good.listed;
    correct = right_there good.correct;
    certifies = λ plain. certifies_there (good.certifies (plain_back plain));
    safe = λ traps. safe_there (good.safe (traps_back traps));
  }
