-- The flags at the ends of blocks are one list, by what they tell; so how many nodes are needed is one number.
use Rattle.std.proofs.Common.{◌≡◌, ◌+◌, ◌*◌, ◌&&◌, ◌↔◌, not, ℕ, suc, zero, Bool, true, false, List, [], ◌∷◌, length, refl, ap, ap₂, ◌∙◌}
use Rattle.std.specs.Prelude.{Some, slice_get, filter}
use Rattle.std.specs.List.{AllZip, range_with_len}
use Rattle.ir_types.specs.declared.syntax.Function.{Function}
use Rattle.point_graph.specs.declared.graph.Points.{Points}
use Rattle.point_graph.specs.declared.graph.Point.TheVariants.{Term}
use Rattle.expressions.specs.declared.syntax.Event.{Event}
use Rattle.expressions.specs.Kept.{Kept}
use Rattle.expressions.specs.Tables.{IsEventOf}
use Rattle.profile.specs.declared.counts.FnCounts.{FnCounts}
use Rattle.flow_net.specs.declared.Net.{Net}
use Rattle.placement.specs.Placements.{arcs_of}
use Rattle.local_sets.specs.declared.flags.Reach.{Reach}
use Rattle.local_sets.specs.Reaching.{ends_of, IsAvailable, IsWanted, Tells}
use Rattle.best_placement.specs.Shapes.{next_point, next_edge}
use Rattle.function_graphs.specs.Graphs.{IsIn}
use Rattle.function_graphs.proofs.Lying.{LieFrom, shape}
use Rattle.function_graphs.proofs.Suiting.{all_laid}
use Rattle.reduction.specs.declared.reducing.Reduced.{Reduced}
use Rattle.reduction.specs.Reduced.{is_flagged, is_needed, IsReduced}
use Rattle.reduced_flows.specs.Flows.{IsReachOf}
use Rattle.mc_solve.specs.Parts.{needed_nodes}

one_flag : (P : Type 0) (x y : Bool) → (x ≡ true) ↔ P → (y ≡ true) ↔ P → x ≡ y
one_flag P true true h k = refl
one_flag P false false h k = refl
one_flag P true false h k = absurd (let r : false ≡ true = k.1 (h.0 refl) in cc)
one_flag P false true h k = absurd (let r : false ≡ true = h.1 (k.0 refl) in cc)

module _ (f : Function) (p : Points) (c : FnCounts) (reached : ℕ → Bool) (P : ℕ → Type 0) where
  one_list : (point edge : ℕ) (blocks : List ℕ) (xs ys : List Bool) → LieFrom f p c reached point edge blocks
      → AllZip (Tells p.points P) (ends_of blocks) xs → AllZip (Tells p.points P) (ends_of blocks) ys → xs ≡ ys
  one_list point edge [] [] [] lies h k = refl
  one_list point edge [] (x ∷ xs) ys lies h k = absurd h
  one_list point edge [] [] (y ∷ ys) lies h k = absurd k
  one_list point edge (b ∷ blocks) [] ys lies h k = absurd h
  one_list point edge (b ∷ blocks) (x ∷ []) ys lies h k = absurd h.1
  one_list point edge (b ∷ blocks) (x ∷ (y ∷ xs)) [] lies h k = absurd k
  one_list point edge (b ∷ blocks) (x ∷ (y ∷ xs)) (z ∷ []) lies h k = absurd k.1
  one_list point edge (b ∷ blocks) (x ∷ (y ∷ xs)) (z ∷ (w ∷ ys)) lies h k =
      let s = shape f p c reached b in
      let size : s.instructions ≡ length lies.0.block.instrs = ap (λ i. i.instructions) lies.0.shape_is in
      let end : slice_get p.points (suc point + s.instructions) ≡ Some (Term b) = ap (λ n. slice_get p.points (suc point + n)) size ∙ lies.0.term in
      let first : x ≡ z = one_flag (P point) x z (h.0 point lies.0.head) (k.0 point lies.0.head) in
      let second : y ≡ w = one_flag (P (suc point + s.instructions)) y w (h.1.0 (suc point + s.instructions) end) (k.1.0 (suc point + s.instructions) end) in
      let rest : xs ≡ ys = one_list (next_point point s) (next_edge edge s) blocks xs ys lies.1 h.1.1 k.1.1 in
      cc

needed_same : (r s : Reach) → r.available.items ≡ s.available.items → r.wanted.items ≡ s.wanted.items → (v : ℕ) → is_needed r v ≡ is_needed s v
needed_same r s a w zero = refl
needed_same r s a w (suc zero) = refl
needed_same r s a w (suc (suc v)) = ap₂ (λ (x y : List Bool). is_flagged x v && not (is_flagged y v)) w a

module _ (f : Function) (p : Points) (t : Kept) (e : ℕ) (c : FnCounts) (reached : ℕ → Bool) (event : ℕ → Event) (is : IsIn f p t e reached event) where
  pub needed_count : (net : Net) (r s : Reach) (needed : Reduced) → net.nodes ≡ 2 + 2 * length p.blocks → IsReachOf f p t e r → IsReachOf f p t e s → IsReduced net r needed
      → needed.net.nodes ≡ needed_nodes s p.blocks
  needed_count net r s needed nodes tells told reduced =
      let lies = all_laid f p t e c reached event is in
      let available : r.available.items ≡ s.available.items =
      one_list f p c reached (IsAvailable (arcs_of p.edges) (IsEventOf f p t e)) 1 1 p.blocks r.available.items s.available.items lies tells.available told.available in
      let wanted : r.wanted.items ≡ s.wanted.items =
      one_list f p c reached (IsWanted (arcs_of p.edges) (IsEventOf f p t e)) 1 1 p.blocks r.wanted.items s.wanted.items lies tells.wanted told.wanted in
      let same : is_needed r ≡ is_needed s = λ i v. needed_same r s available wanted v i in
      reduced.nodes ∙ ap length reduced.node_of ∙ ap (λ n. length (filter (is_needed r) (range_with_len 0 n))) nodes
      ∙ ap (λ (test : ℕ → Bool). length (filter test (range_with_len 0 (2 + 2 * length p.blocks)))) same
