-- The lists that were read are the placement.
use Rattle.std.proofs.Common.{◌≡◌, ℕ, ◌<◌, ◌≤◌, Bool, false, List, ◌∷◌, length, map, get_or, sym, ◌∙◌, subst, arith, ⊎_elim}
use Rattle.std.proofs.lemmas.Bool.{cases_lt}
use Rattle.std.proofs.lemmas.List.{get_or_default}
use Rattle.std.proofs.Math.ListN.{get_or-eq_default}
use Rattle.ir_types.specs.declared.syntax.Function.{Function}
use Rattle.point_graph.specs.declared.graph.Points.{Points}
use Rattle.expressions.specs.declared.syntax.Event.{Event}
use Rattle.expressions.specs.declared.syntax.Event.TheVariants.{Occurs, Passes}
use Rattle.expressions.specs.Kept.{Kept}
use Rattle.expressions.specs.Tables.{IsEventOf}
use Rattle.profile.specs.declared.counts.FnCounts.{FnCounts}
use Rattle.placement.specs.declared.placements.Placement.{Placement}
use Rattle.placement.specs.Marking.{AreEvents}
use Rattle.placement.proofs.EventLemmas.{one_event}
use Rattle.best_placement.specs.Bits.{positions, kept_in, bits_joined}
use Rattle.best_placement.specs.Laws.{ExpressionGraph, IsPlacement, IsReadOffOn}
use Rattle.best_placement.proofs.Positions.{lists_placed, lists_read}
use Rattle.function_graphs.specs.Graphs.{AreEventsOf, IsIn, graph_of, FunctionsHaveGraphs}
use Rattle.function_graphs.proofs.Lying.{shape}
use Rattle.read_off.specs.declared.bits.SetBits.{SetBits}
use Rattle.read_off.specs.Bits.{ReadsBlocks, event_at}

module _ (f : Function) (p : Points) (t : Kept) (e : ℕ) (events : List Event) (listed : AreEvents (IsEventOf f p t e) (length p.points) events) where
  event_same : (event : ℕ → Event) → AreEventsOf f p t e event → (v : ℕ) → event_at events v ≡ event v
  event_same event told v =
      ⊎_elim
      (λ (lt : v < length p.points).
      let inside : v < length events = let n = listed.len in omega (arith, lt, n) in
      get_or_default events v Passes Occurs inside ∙ one_event f p t e v (get_or events v Occurs) (event v) (listed.are v lt) (told.at_points v lt))
      (λ (ge : length p.points ≤ v). get_or-eq_default events Passes (let n = listed.len in omega (arith, ge, n)) ∙ sym (told.past v ge))
      (cases_lt v (length p.points))

  module _ (laws : FunctionsHaveGraphs) (nodes : ℕ → Bool) (ins kept : SetBits) (reads : (c : FnCounts) (reached : ℕ → Bool) → ReadsBlocks (event_at events) nodes (map (shape f p c reached) p.blocks) ins kept)
      (c : FnCounts) (reached : ℕ → Bool) (event : ℕ → Event) (is : IsIn f p t e reached event) where
    abbrev graph : ExpressionGraph
    graph = graph_of f p c reached event

    whole : ReadsBlocks event nodes (map (shape f p c reached) p.blocks) ins kept
    whole =
        let same : event_at events ≡ event = λ i v. event_same event is.events v i in
        subst (λ (k : ℕ → Event). ReadsBlocks k nodes (map (shape f p c reached) p.blocks) ins kept) same (reads c reached)

    abbrev Both : List ℕ → List ℕ → Type 0
    Both i k = IsPlacement (graph_of f p c reached event) (record { inserted = i; kept = k }) × IsReadOffOn (graph_of f p c reached event) nodes (record { inserted = i; kept = k })

    pub read_whole : (placement : Placement) → placement.inserted ≡ ins.numbers.items → placement.kept ≡ kept.numbers.items
        → IsPlacement (graph_of f p c reached event) placement × IsReadOffOn (graph_of f p c reached event) nodes placement
    read_whole placement inserted keeps =
        let fits = laws f p t e c reached event is in
        subst (λ k. Both placement.inserted k) (sym (keeps ∙ whole.points.numbers))
        (subst (λ i. Both i (positions 0 (false ∷ bits_joined (kept_in event nodes) graph.blocks))) (sym (inserted ∙ whole.edges.numbers))
        (lists_placed graph nodes fits, lists_read graph nodes fits))
