-- A function has one numbering of its points and edges, and one table.
use Rattle.std.proofs.Common.{◌≡◌, ◌<◌, ℕ, List, [], ◌∷◌, length, map, Option, Some, option_map, refl, sym, ap, ap₂, ◌∙◌, subst}
use Rattle.std.specs.Prelude.{filter, filter_map, slice_get}
use Rattle.std.specs.List.{AllZip, range_with_len}
use Rattle.std.proofs.lemmas.Option.{same_Some, slice_get-map}
use Rattle.ir_types.specs.declared.syntax.Block.{Block}
use Rattle.ir_types.specs.declared.syntax.Function.{Function}
use Rattle.flow_graph.specs.Slots.{slots_of}
use Rattle.point_graph.specs.Graph as graph
use Rattle.point_graph.specs.Graph.{Entry, Inside, Slot, Joins}
use Rattle.point_graph.specs.Numbers.{AreReachedBlocks, ArePoints, IsNumbered, KeepsRules, all_points, all_edges, point_of}
use Rattle.point_graph.specs.declared.graph.Point.{Point}
use Rattle.point_graph.specs.declared.graph.EdgeKind.{EdgeKind}
use Rattle.point_graph.specs.declared.graph.Edge.{Edge}
use Rattle.point_graph.specs.declared.graph.Points.{Points}
use Rattle.point_numbers.specs.Told.{AreTold}
use Rattle.expressions.specs.declared.syntax.Event.{Event}
use Rattle.expressions.specs.Expressions.{expr_at}
use Rattle.expressions.specs.Events.{IsEvent}
use Rattle.expressions.specs.Kept.{Kept}
use Rattle.expressions.specs.Tables.{AreFirstSeen, IsTable, IsEventOf}
use Rattle.one_transformed.specs.Numberings.{AreSame}
use Rattle.one_transformed.proofs.Lists.{same_bool, same_once}

-- ---- points and edges

one_list : (f : Function) (blocks others : List ℕ) → AreReachedBlocks f blocks → AreReachedBlocks f others → blocks ≡ others
one_list f blocks others is also =
    let tests : is.test ≡ also.test = λ i. λ b. same_bool (is.test b) (also.test b) (λ told. (also.told b).1 ((is.told b).0 told)) (λ told. (is.told b).1 ((also.told b).0 told)) i in
    is.listed ∙ ap (λ test. filter test (range_with_len 0 (length f.blocks))) tests ∙ sym also.listed

-- an edge joins two points
joins_same : (f : Function) (edge : graph.Edge) (u w u' w' : graph.Point) → Joins f edge u w → Joins f edge u' w' → (u ≡ u') × (w ≡ w')
joins_same f Entry u w u' w' j k = (j.0 ∙ sym k.0, j.1 ∙ sym k.1)
joins_same f (Inside b n) u w u' w' j k = (j.begins ∙ sym k.begins, j.ends ∙ sym k.ends)
joins_same f (Slot b slot) u w u' w' j k =
    let block : j.block ≡ k.block = same_Some j.block k.block (sym j.block_there ∙ k.block_there) in
    let leads : slice_get (slots_of k.block.term) slot ≡ Some j.target = subst (λ (x : Block). slice_get (slots_of x.term) slot ≡ Some j.target) block j.leads in
    let next : j.target ≡ k.target = same_Some j.target k.target (sym leads ∙ k.leads) in
    (j.begins ∙ (ap (λ (x : Block). graph.Place b (length x.instrs)) block ∙ sym k.begins), j.ends ∙ (ap graph.Head next ∙ sym k.ends))

module _ (f : Function) (points : List Point) (once : (i j : ℕ) (v : graph.Point) → slice_get (map (point_of f) points) i ≡ Some v → slice_get (map (point_of f) points) j ≡ Some v → i ≡ j) where
  stands : (i : ℕ) (v : Point) → slice_get points i ≡ Some v → slice_get (map (point_of f) points) i ≡ Some (point_of f v)
  stands i v there = slice_get-map (point_of f) points i ∙ ap (λ (o : Option Point). option_map (point_of f) o) there

  one_number : (i j : ℕ) (u v : Point) → slice_get points i ≡ Some u → slice_get points j ≡ Some v → point_of f u ≡ point_of f v → i ≡ j
  one_number i j u v at there same = once i j (point_of f v) (subst (λ w. slice_get (map (point_of f) points) i ≡ Some w) same (stands i u at)) (stands j v there)

  one_edge : (edge : graph.Edge) (e e' : Edge) → IsNumbered f points edge e → IsNumbered f points edge e' → e ≡ e'
  one_edge edge e e' is also =
      let ends = joins_same f edge (point_of f is.from) (point_of f is.to) (point_of f also.from) (point_of f also.to) is.joins also.joins in
      let from : e.from ≡ e'.from = one_number e.from e'.from is.from also.from is.begins also.begins ends.0 in
      let to : e.to ≡ e'.to = one_number e.to e'.to is.to also.to is.ends also.ends ends.1 in
      let kind : e.kind ≡ e'.kind = is.kind ∙ sym also.kind in
      ap₂ (λ from to. record { from = from; to = to; kind = e.kind }) from to ∙ ap (λ (kind : EdgeKind). record { from = e'.from; to = e'.to; kind = kind }) kind

  one_numbering : (edges : List graph.Edge) (es es' : List Edge) → AllZip (IsNumbered f points) edges es → AllZip (IsNumbered f points) edges es' → es ≡ es'
  one_numbering [] [] [] is also = refl
  one_numbering [] [] (e' ∷ es') is also = absurd also
  one_numbering [] (e ∷ es) es' is also = absurd is
  one_numbering (edge ∷ edges) [] es' is also = absurd is
  one_numbering (edge ∷ edges) (e ∷ es) [] is also = absurd also
  one_numbering (edge ∷ edges) (e ∷ es) (e' ∷ es') is also = ap₂ (λ x xs. x ∷ xs) (one_edge edge e e' is.0 also.0) (one_numbering edges es es' is.1 also.1)

-- ---- what each point is to an expression

module _ (f : Function) (p p' : Points) (t t' : Kept) (modules : t.module_of ≡ t'.module_of) (points : p.points ≡ p'.points) (exprs : t.exprs ≡ t'.exprs) where
  event_there : (x i : ℕ) (event : Event) → IsEventOf f p t x i event → IsEventOf f p' t' x i event
  event_there x i event is = record {
    expr = is.expr;
    expr_there = subst (λ l. slice_get l x ≡ Some is.expr) exprs is.expr_there;
    at = is.at;
    point_there = subst (λ l. slice_get l i ≡ Some is.at) points is.point_there;
    is_event = subst (λ m. IsEvent m f is.expr is.at event) modules is.is_event;
  }

-- ---- both

pub turned : (f : Function) (p p' : Points) (t t' : Kept) → AreSame f p p' t t' → AreSame f p' p t' t
turned f p p' t t' same = record {
  modules = sym same.modules;
  blocks = sym same.blocks;
  points = sym same.points;
  edges = sym same.edges;
  exprs = sym same.exprs;
  events = λ x i event. let told = same.events x i event in (told.1, told.0);
}

-- what the law below says of numbers
abbrev pub NumbersTold : Type 0
NumbersTold = (f : Function) (p : Points) → KeepsRules f → 0 < length f.blocks → ArePoints f p → AreTold f (map (point_of f) p.points) (all_edges f p.blocks) p.edges

pub are_same : NumbersTold → (f : Function) (p p' : Points) (t t' : Kept) → 0 < length f.blocks → t.module_of ≡ t'.module_of → ArePoints f p → ArePoints f p' → IsTable f p t → IsTable f p' t' → AreSame f p p' t t'
are_same numbered f p p' t t' defined modules are also table table' =
    let blocks = one_list f p.blocks p'.blocks are.blocks also.blocks in
    let points : p.points ≡ p'.points = are.points ∙ ap (all_points f) blocks ∙ sym also.points in
    let all : filter_map (expr_at t.module_of f) p.points ≡ filter_map (expr_at t'.module_of f) p'.points =
    ap (λ m. filter_map (expr_at m f) p.points) modules ∙ ap (filter_map (expr_at t'.module_of f)) points in
    let numbers : AreTold f (map (point_of f) p'.points) (all_edges f p'.blocks) p'.edges = numbered f p' (record { module_of = t'.module_of; rules = table'.rules }) defined also in
    let here : AllZip (IsNumbered f p'.points) (all_edges f p'.blocks) p.edges =
    subst (λ bs. AllZip (IsNumbered f p'.points) (all_edges f bs) p.edges) blocks (subst (λ ps. AllZip (IsNumbered f ps) (all_edges f p.blocks) p.edges) points are.edges) in
    let exprs : t.exprs ≡ t'.exprs = same_once (filter_map (expr_at t'.module_of f) p'.points) t.exprs t'.exprs (subst (λ l. AreFirstSeen l t.exprs) all table.exprs) table'.exprs in
    record {
      modules = modules;
      blocks = blocks;
      points = points;
      edges = one_numbering f p'.points numbers.points_once (all_edges f p'.blocks) p.edges p'.edges here also.edges;
      exprs = exprs;
      events = λ x i event. (event_there f p p' t t' modules points exprs x i event, event_there f p' p t' t (sym modules) (sym points) (sym exprs) x i event);
    }
