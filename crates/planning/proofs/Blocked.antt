-- The changes of blocks, one after another.
use Rattle.std.proofs.Common.{◌≡◌, ℕ, ◌+◌, ◌<◌, List, [], ◌∷◌, ◌++◌, length, Some, refl, sym, ap, ◌∙◌, subst, arith, inl, inr, ◌⊎◌, ⊎_elim, Contains, map, zero, suc}
use Rattle.std.specs.Prelude.{slice_get}
use Rattle.std.proofs.lemmas.List.{length_push}
use Rattle.std.proofs.lemmas.Option.{same_Some, slice_get_within}
use Rattle.ir_types.specs.declared.syntax.Block.{Block}
use Rattle.ir_types.specs.declared.syntax.Function.{Function}
use Rattle.point_graph.specs.Numbers.{KeepsRules, ArePoints, all_edges, point_of}
use Rattle.point_graph.specs.declared.graph.BlockStart.{BlockStart}
use Rattle.point_graph.specs.declared.graph.Points.{Points}
use Rattle.point_numbers.specs.Told.{AreTold}
use Rattle.point_numbers.proofs.Told.{are_told}
use Rattle.changes.specs.declared.lists.BlockChanges.{BlockChanges}
use Rattle.planning.specs.declared.moves.Moved.{Moved}
use Rattle.planning.specs.Blocks.{AreBlocks, AreChangesIn, HasRoom, IsBlock, IsNoBlock}
use Rattle.planning.proofs.Geometry.{HasPlaces, places_of, length-block_edges, length-block_points}

get_push : {X : Type 0} (xs : List X) (y : X) (i : ℕ) (v : X) → slice_get (xs ++ y ∷ []) i ≡ Some v → (slice_get xs i ≡ Some v) ⊎ ((i ≡ length xs) × (y ≡ v))
get_push [] y zero v e = inr (refl, let same : y ≡ v = cc in same)
get_push [] y (suc i) v e = absurd cc
get_push (x ∷ xs) y zero v e = inl e
get_push (x ∷ xs) y (suc i) v e = ⊎_elim (λ l. inl l) (λ r. inr (ap (λ n. suc n) r.0, r.1)) (get_push xs y i v e)

module _ (f : Function) (p : Points) (moved : Moved) where
  pub AreBlocks-start : AreBlocks f p moved 0 []
  AreBlocks-start = record { len = refl; each = λ b changes e. absurd cc }

  pub AreBlocks-push : (n : ℕ) (blocks : List BlockChanges) (changes : BlockChanges) → AreBlocks f p moved n blocks → AreChangesIn f p moved n changes → AreBlocks f p moved (n + 1) (blocks ++ changes ∷ [])
  AreBlocks-push n blocks changes are is = record {
    len = length_push blocks changes ∙ ap (λ m. m + 1) are.len;
    each = λ b there e. ⊎_elim
        (λ (before : slice_get blocks b ≡ Some there). are.each b there before)
        (λ (last : (b ≡ length blocks) × (changes ≡ there)).
        subst (λ (c : BlockChanges). AreChangesIn f p moved b c) last.1 (subst (λ k. AreChangesIn f p moved k changes) (sym (last.0 ∙ are.len)) is))
        (get_push blocks changes b there e);
  }

  module _ (defined : 0 < length f.blocks) (keeps : KeepsRules f) (are : ArePoints f p) (edges : length moved.edges.items ≡ length p.edges) (actions : length moved.actions.items ≡ length p.points) (b : ℕ) (listed : Contains p.blocks b) where
    told : AreTold f (map (point_of f) p.points) (all_edges f p.blocks) p.edges
    told = are_told f p keeps defined are

    has : HasPlaces f p b
    has = places_of f p are told b listed

    pub start_inside : b < length p.starts
    start_inside = slice_get_within p.starts b has.start has.start_there

    pub block_inside : b < length f.blocks
    block_inside = slice_get_within f.blocks b has.block has.block_there

    pub room : (start : BlockStart) (block : Block) → slice_get p.starts b ≡ Some start → slice_get f.blocks b ≡ Some block → HasRoom start block moved
    room start block start_there block_there =
        let same_start : has.start ≡ start = same_Some has.start start (sym has.start_there ∙ start_there) in
        let same_block : has.block ≡ block = same_Some has.block block (sym has.block_there ∙ block_there) in
        subst (λ (s : BlockStart). HasRoom s block moved) same_start (subst (λ (x : Block). HasRoom has.start x moved) same_block (record {
          edges = omega (arith, has.edges.room, length-block_edges b has.block, told.count, edges);
          actions = omega (arith, has.points.room, length-block_points b has.block, actions);
          few = omega (arith, are.few, edges);
        }))

    pub reached_changes : (start : BlockStart) (block : Block) (changes : BlockChanges) → slice_get p.starts b ≡ Some start → slice_get f.blocks b ≡ Some block → IsBlock start block moved changes → AreChangesIn f p moved b changes
    reached_changes start block changes start_there block_there is = record {
      reached = λ h. record { start = start; start_there = start_there; block = block; block_there = block_there; is = is };
      others = λ h. absurd (h listed);
    }

  pub other_changes : (b : ℕ) (changes : BlockChanges) → (Contains p.blocks b → ⊥) → IsNoBlock changes → AreChangesIn f p moved b changes
  other_changes b changes absent none = record { reached = λ h. absurd (absent h); others = λ h. none }
