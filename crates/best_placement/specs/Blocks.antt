-- A point graph seen by its blocks, and what a placement on it costs.
use Rattle.std.specs.Prelude.{◌≡◌, ℕ, suc, ◌<◌, List, [], ◌∷◌, ◌++◌, length, map, All, Contains}
use Rattle.expressions.specs.declared.syntax.Event.{Event}
use Rattle.expressions.specs.declared.syntax.Event.TheVariants.{Occurs, Kills, Passes}
use Rattle.flow_paths.specs.Paths.{source, target, ArcsWithin, Connects}

-- the event of a point, as a relation
abbrev pub HasEvent : (ℕ → Event) → ℕ → Event → Type 0
HasEvent event v k = event v ≡ k

-- a reached block: its points and edges, in order
pub record Block : Type 0 where
  pub index : ℕ
  pub head : ℕ
  -- the inside edges to instructions, each with the point that it leads to
  pub steps : List (ℕ × ℕ)
  -- the inside edge to the terminator
  pub exit : ℕ
  pub terminator : ℕ
  -- the slots, each with the index of the block that it leads to
  pub slots : List (ℕ × ℕ)
  -- the weight of the block's count
  pub weight : ℕ

-- where the steps from a point end
abbrev pub last_point : ℕ → List (ℕ × ℕ) → ℕ
last_point u [] = u
last_point u (s ∷ steps) = last_point s.1 steps

-- the steps lead on from the point
abbrev pub IsStretch : List (ℕ × ℕ) → ℕ → List (ℕ × ℕ) → Type 0
IsStretch arcs u [] = Unit {0}
IsStretch arcs u (s ∷ steps) = (source arcs s.0 ≡ u) × (target arcs s.0 ≡ s.1) × IsStretch arcs s.1 steps

-- each number is one more than the one before
abbrev pub CountsFrom : ℕ → List ℕ → Type 0
CountsFrom n [] = Unit {0}
CountsFrom n (x ∷ xs) = (x ≡ n) × CountsFrom (suc n) xs

-- a block's points and edges in order
abbrev pub points_of_block : Block → List ℕ
points_of_block b = b.head ∷ map (λ s. s.1) b.steps ++ b.terminator ∷ []

abbrev pub edges_of_block : Block → List ℕ
edges_of_block b = map (λ s. s.0) b.steps ++ b.exit ∷ map (λ s. s.0) b.slots

abbrev pub joined : (Block → List ℕ) → List Block → List ℕ
joined f [] = []
joined f (b ∷ blocks) = f b ++ joined f blocks

-- the slot leads from the block's terminator to the head of the block of that index
pub record IsSlot (arcs : List (ℕ × ℕ)) (blocks : List Block) (terminator edge index : ℕ) : Type 0 where
  pub from : source arcs edge ≡ terminator
  pub block : Block
  pub is_block : Contains blocks block
  pub has_index : block.index ≡ index
  pub to : target arcs edge ≡ block.head

-- a block's edges lead along it and to other blocks, its head and its terminator pass, and its places weigh what they should
pub record IsBlock (arcs : List (ℕ × ℕ)) (blocks : List Block) (event : ℕ → Event) (edge_weight point_weight : ℕ → ℕ) (b : Block) : Type 0 where
  pub leads : IsStretch arcs b.head b.steps
  pub leaves : (source arcs b.exit ≡ last_point b.head b.steps) × (target arcs b.exit ≡ b.terminator)
  pub slots : All (λ s. IsSlot arcs blocks b.terminator s.0 s.1) b.slots
  pub head_passes : event b.head ≡ Passes
  pub step_weights : All (λ s. (edge_weight s.0 ≡ b.weight) × (point_weight s.1 ≡ b.weight)) b.steps
  pub exit_weight : edge_weight b.exit ≡ b.weight

-- the numbered points and edges of a function, the entry's block first
pub record IsFlowGraph (arcs : List (ℕ × ℕ)) (points : ℕ) (blocks : List Block) (event : ℕ → Event) (edge_weight point_weight : ℕ → ℕ) : Type 0 where
  pub point_order : CountsFrom 0 (0 ∷ joined points_of_block blocks)
  pub edge_order : CountsFrom 0 (0 ∷ joined edges_of_block blocks)
  pub block_order : CountsFrom 0 (map (λ b. b.index) blocks)
  pub point_count : length (0 ∷ joined points_of_block blocks) ≡ points
  pub edge_count : length (0 ∷ joined edges_of_block blocks) ≡ length arcs
  pub within : ArcsWithin arcs points
  pub entry_from : source arcs 0 ≡ 0
  pub entry_to : IsSlot arcs blocks 0 0 0
  pub each : All (IsBlock arcs blocks event edge_weight point_weight) blocks
  pub terminators : All (λ b. (event b.terminator ≡ Occurs → ⊥) × (event b.terminator ≡ Kills → ⊥)) blocks
  pub start_passes : event 0 ≡ Passes
  pub reached : (v : ℕ) → v < points → Connects arcs 0 v
  pub edge_weights : (e : ℕ) → e < length arcs → 0 < edge_weight e
  pub block_weights : All (λ b. 0 < b.weight) blocks
