-- The shapes of a function's blocks suit, with the events of an expression and the weights of counts.
use Rattle.std.proofs.Common.{◌≡◌, ℕ, zero, suc, ◌+◌, ◌*◌, ◌<◌, ◌==◌, Bool, false, cond, List, length, map, Some, All, refl, sym, ap, ◌∙◌, subst, arith}
use Rattle.std.specs.Prelude.{slice_get}
use Rattle.std.specs.List.{AllByRecursion}
use Rattle.std.specs.Option.{option_map_or}
use Rattle.std.proofs.lemmas.Bool.Decides.{nat_tests}
use Rattle.std.proofs.lemmas.List.{length-map}
use Rattle.std.proofs.lemmas.List.Elements.{All-from_recursion}
use Rattle.std.proofs.lemmas.Option.{slice_get_within}
use Rattle.ir_types.specs.Program.{Program}
use Rattle.ir_types.specs.declared.syntax.Terminator.{Terminator}
use Rattle.ir_types.specs.declared.syntax.Function.{Function}
use Rattle.flow_graph.specs.Slots.{slots_of}
use Rattle.flow_paths.specs.Paths.{Connects}
use Rattle.point_graph.specs.Graph.{Edge, Inside}
use Rattle.point_graph.specs.Numbers.{KeepsRules, all_edges, kind_of}
use Rattle.point_graph.specs.declared.graph.Point.{Point}
use Rattle.point_graph.specs.declared.graph.Point.TheVariants.{Start, Head, Instr, Term}
use Rattle.point_graph.specs.declared.graph.Edge as numbered
use Rattle.point_graph.specs.declared.graph.Points.{Points}
use Rattle.expressions.specs.declared.syntax.Event.{Event}
use Rattle.expressions.specs.declared.syntax.Event.TheVariants.{Occurs, Kills, Bars, Passes}
use Rattle.expressions.specs.declared.syntax.Expr.{Expr}
use Rattle.expressions.specs.Expressions.{nothing, term_there, content}
use Rattle.expressions.specs.Events.{IsContentEvent}
use Rattle.expressions.specs.Kept.{Kept}
use Rattle.profile.specs.declared.counts.FnCounts.{FnCounts}
use Rattle.profile.specs.Counts.{entering}
use Rattle.placement.specs.Placements.{arcs_of}
use Rattle.placement.specs.declared.costs.TheConstants.{BASE}
use Rattle.placement.specs.Costs.{weight_of, edge_count, point_count}
use Rattle.best_placement.specs.Blocks as graphs
use Rattle.best_placement.specs.Blocks.{IsFlowGraph}
use Rattle.best_placement.specs.Shapes.{Shape, Suits, steps_from, block_from, shape_arcs, shape_blocks}
use Rattle.best_placement.specs.Laws.{ExpressionGraph}
use Rattle.best_placement.proofs.Numbered.{shapes_are_graphs}
use Rattle.function_graphs.specs.Graphs.{place_in, shape_of, graph_of, IsIn, FunctionsHaveGraphs}
use Rattle.function_graphs.proofs.Parts.{get_some, get_map_back, pair}
use Rattle.function_graphs.proofs.Lying.{LiesAt, LieFrom, shape, each_laid, each_shape}
use Rattle.function_graphs.proofs.Arcs.{shapes, each_at, lies, edge_at, target_listed, some_block, arcs_are, points_are, all_reached}

-- ---- events

pub nothing_passes : (m : Program) (e : Expr) (k : Event) → IsContentEvent m e nothing k → k ≡ Passes
nothing_passes m e Occurs is = absurd cc
nothing_passes m e Kills is = absurd cc
nothing_passes m e Bars is = let bars = is.2 in absurd cc
nothing_passes m e Passes is = refl

terminators_pass : (m : Program) (e : Expr) (term : Terminator) (k : Event) → IsContentEvent m e (term_there term) k → (k ≡ Occurs → ⊥) × (k ≡ Kills → ⊥)
terminators_pass m e term Occurs is = absurd cc
terminators_pass m e term Kills is = absurd cc
terminators_pass m e term Bars is = ((λ h. cc), (λ h. cc))
terminators_pass m e term Passes is = ((λ h. cc), (λ h. cc))

-- ---- weights

some_weight : (count : ℕ) → 0 < weight_of count
some_weight zero = omega arith
some_weight (suc n) =
    let more : (suc n == 0) ≡ false = grind (arith, nat_tests) in
    let weighs : weight_of (suc n) ≡ suc n * BASE = ap (λ b. cond b 1 (suc n * BASE)) more in
    let base : BASE ≡ 1048576 = refl in
    let some : 0 < suc n * BASE = subst (λ b. 0 < suc n * b) (sym base) (omega arith) in
    subst (λ w. 0 < w) (sym weighs) some

steps_all : (Q : ℕ × ℕ → Type 0) (e v n : ℕ) → ((k : ℕ) → k < n → Q (pair (e + k) (v + k))) → AllByRecursion Q (steps_from e v n)
steps_all Q e v zero h = tt
steps_all Q e v (suc n) h =
    let first : pair (e + 0) (v + 0) ≡ pair e v = ap (λ x. pair x (v + 0)) (let z : e + 0 ≡ e = omega arith in z) ∙ ap (λ y. pair e y) (let z : v + 0 ≡ v = omega arith in z) in (
      subst Q first (h 0 (omega arith)),
      steps_all Q (suc e) (suc v) n (λ k lt.
          let later : pair (e + suc k) (v + suc k) ≡ pair (suc e + k) (suc v + k) = ap (λ x. pair x (v + suc k)) (let z : e + suc k ≡ suc e + k = omega arith in z) ∙ ap (λ y. pair (suc e + k) y) (let z : v + suc k ≡ suc v + k = omega arith in z) in
          subst Q later (h (suc k) (omega (arith, lt)))),
    )

module _ (f : Function) (p : Points) (t : Kept) (e : ℕ) (c : FnCounts) (reached : ℕ → Bool) (event : ℕ → Event) (is : IsIn f p t e reached event) where
  abbrev keeps : KeepsRules f
  keeps = record { module_of = t.module_of; rules = is.table.rules }

  abbrev all : List Shape
  all = shapes f p c reached keeps is.defined is.points

  abbrev graph : ExpressionGraph
  graph = graph_of f p c reached event

  abbrev Laid : ℕ → ℕ → ℕ → Type 0
  Laid b point edge = LiesAt f p c reached b point edge

  pub all_laid : LieFrom f p c reached 1 1 p.blocks
  all_laid = lies f p c reached keeps is.defined is.points

  pub content_at : (v : ℕ) (at : Point) → slice_get p.points v ≡ Some at → (expr : Expr) × IsContentEvent t.module_of expr (content f at) (event v)
  content_at v at there =
      let here = is.events.at_points v (slice_get_within p.points v at there) in
      let same : here.at ≡ at = let both : Some here.at ≡ Some at = sym here.point_there ∙ there in cc in
      (here.expr, subst (λ x. IsContentEvent t.module_of here.expr (content f x) (event v)) same here.is_event)

  -- nothing occurs at a terminator, and nothing is killed
  pub at_end : (b point edge : ℕ) (at : Laid b point edge) → (event (suc point + length at.block.instrs) ≡ Occurs → ⊥) × (event (suc point + length at.block.instrs) ≡ Kills → ⊥)
  at_end b point edge at =
      let v = suc point + length at.block.instrs in
      let r = content_at v (Term b) at.term in
      terminators_pass t.module_of r.0 at.block.term (event v)
      (subst (λ o. IsContentEvent t.module_of r.0 (option_map_or (λ block. term_there block.term) o nothing) (event v)) at.block_there r.1)

  edge_weighs : (n : ℕ) (edge : Edge) → slice_get (all_edges f p.blocks) n ≡ Some edge → graph.edge_weight n ≡ weight_of (edge_count f c reached (kind_of edge))
  edge_weighs n edge there =
      let r = edge_at f p c reached keeps is.defined is.points n edge there in
      ap (λ o. option_map_or (λ x. weight_of (edge_count f c reached x.kind)) o 0) r.1 ∙ ap (λ k. weight_of (edge_count f c reached k)) r.2.kind

  point_weighs : (v : ℕ) (at : Point) → slice_get p.points v ≡ Some at → graph.point_weight v ≡ weight_of (point_count f c reached at)
  point_weighs v at there = ap (λ o. option_map_or (λ x. weight_of (point_count f c reached x)) o 0) there

  -- what holds of each block by its shape
  pub each_block : (P : graphs.Block → Type 0) → ((b index point edge : ℕ) (at : Laid b point edge) → P (block_from index point edge (shape_of f c reached p.blocks b at.block))) → AllByRecursion P (shape_blocks all)
  each_block P h = each_laid f p c reached P (λ b index point edge at. subst (λ s. P (block_from index point edge s)) (sym at.shape_is) (h b index point edge at)) 0 1 1 p.blocks all_laid

  targets_inside : AllByRecursion (λ s. All (λ u. u < length all) s.targets) all
  targets_inside = each_shape f p c reached (λ s. All (λ u. u < length all) s.targets) (λ b point edge at.
      subst (λ s. All (λ u. u < length all) s.targets) (sym at.shape_is)
      (All-from_recursion (λ u. u < length all) (map (place_in p.blocks) (slots_of at.block.term))
      (each_at (λ u. u < length all) (map (place_in p.blocks) (slots_of at.block.term)) (λ k u there.
      let r = get_map_back (place_in p.blocks) (slots_of at.block.term) k u there in
      let l = slice_get_within p.blocks (place_in p.blocks r.0) r.0 (target_listed f p c reached keeps is.defined is.points b point edge at k r.0 r.1) in
      omega (arith, l, r.2, length-map p.blocks (shape f p c reached))))))
      1 1 p.blocks all_laid

  weights_along : AllByRecursion (λ b. All (λ s. (graph.edge_weight s.0 ≡ b.weight) × (graph.point_weight s.1 ≡ b.weight)) b.steps) (shape_blocks all)
  weights_along = each_block (λ b. All (λ s. (graph.edge_weight s.0 ≡ b.weight) × (graph.point_weight s.1 ≡ b.weight)) b.steps) (λ b index point edge at.
      let w = weight_of (entering reached f c b) in
      All-from_recursion (λ s. (graph.edge_weight s.0 ≡ w) × (graph.point_weight s.1 ≡ w)) (steps_from edge (suc point) (length at.block.instrs))
      (steps_all (λ s. (graph.edge_weight s.0 ≡ w) × (graph.point_weight s.1 ≡ w)) edge (suc point) (length at.block.instrs)
      (λ k lt. (edge_weighs (edge + k) (Inside b k) (at.inside k (omega (arith, lt))), point_weighs (suc point + k) (Instr b k) (at.instr k lt)))))

  suits : Suits all event graph.edge_weight graph.point_weight
  suits = record {
    entry = let l = some_block f p c reached keeps is.defined is.points in omega (arith, l, length-map p.blocks (shape f p c reached));
    targets = All-from_recursion (λ s. All (λ u. u < length all) s.targets) all targets_inside;
    start_passes = let at = content_at 0 Start (ap (λ l. slice_get l 0) is.points.points) in nothing_passes t.module_of at.0 (event 0) at.1;
    heads_pass = All-from_recursion (λ b. event b.head ≡ Passes) (shape_blocks all) (each_block (λ b. event b.head ≡ Passes)
        (λ b index point edge at. let r = content_at point (Head b) at.head in nothing_passes t.module_of r.0 (event point) r.1));
    terminators = All-from_recursion (λ b. (event b.terminator ≡ Occurs → ⊥) × (event b.terminator ≡ Kills → ⊥)) (shape_blocks all)
        (each_block (λ b. (event b.terminator ≡ Occurs → ⊥) × (event b.terminator ≡ Kills → ⊥)) (λ b index point edge at. at_end b point edge at));
    step_weights = All-from_recursion (λ b. All (λ s. (graph.edge_weight s.0 ≡ b.weight) × (graph.point_weight s.1 ≡ b.weight)) b.steps) (shape_blocks all) weights_along;
    exit_weights = All-from_recursion (λ b. graph.edge_weight b.exit ≡ b.weight) (shape_blocks all) (each_block (λ b. graph.edge_weight b.exit ≡ b.weight)
        (λ b index point edge at. edge_weighs (edge + length at.block.instrs) (Inside b (length at.block.instrs)) (at.inside (length at.block.instrs) (omega arith))));
    edge_weights = λ n lt.
        let r = get_some p.edges n (let l : n < length (arcs_of p.edges) = subst (λ a. n < length a) (sym (arcs_are f p c reached keeps is.defined is.points)) lt in omega (arith, l, length-map {B = ℕ × ℕ} p.edges (λ (x : numbered.Edge). (x.from, x.to)))) in
        subst (λ w. 0 < w) (sym (ap (λ o. option_map_or (λ x. weight_of (edge_count f c reached x.kind)) o 0) r.1)) (some_weight (edge_count f c reached r.0.kind));
    block_weights = All-from_recursion (λ b. 0 < b.weight) (shape_blocks all) (each_block (λ b. 0 < b.weight) (λ b index point edge at. some_weight (entering reached f c b)));
    reached = λ v lt. subst (λ a. Connects a 0 v) (arcs_are f p c reached keeps is.defined is.points)
        (all_reached f p c reached keeps is.defined is.points v (subst (λ n. v < n) (points_are f p c reached keeps is.defined is.points) lt));
  }

  pub is_graph : IsFlowGraph (arcs_of p.edges) (length p.points) (shape_blocks all) event graph.edge_weight graph.point_weight
  is_graph =
      let whole = shapes_are_graphs all event graph.edge_weight graph.point_weight suits in
      let counted : IsFlowGraph (shape_arcs all) (length p.points) (shape_blocks all) event graph.edge_weight graph.point_weight =
      subst (λ n. IsFlowGraph (shape_arcs all) n (shape_blocks all) event graph.edge_weight graph.point_weight) (points_are f p c reached keeps is.defined is.points) whole in
      subst (λ a. IsFlowGraph a (length p.points) (shape_blocks all) event graph.edge_weight graph.point_weight) (sym (arcs_are f p c reached keeps is.defined is.points)) counted

pub functions_have_graphs : FunctionsHaveGraphs
functions_have_graphs f p t e c reached event is = is_graph f p t e c reached event is
