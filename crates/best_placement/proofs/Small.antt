-- A block with one occurrence, which leads back to itself.
use Rattle.std.proofs.Common.{◌≡◌, ℕ, suc, zero, ◌<◌, ◌==◌, cond, List, [], ◌∷◌, refl, arith, All}
use Rattle.std.proofs.lemmas.List.Elements.{All-from_recursion}
use Rattle.expressions.specs.declared.syntax.Event.{Event}
use Rattle.expressions.specs.declared.syntax.Event.TheVariants.{Occurs, Kills, Passes}
use Rattle.flow_paths.specs.Paths.{Connects}
use Rattle.best_placement.specs.Shapes.{Shape, Suits, SomeSuit, shape_blocks, shape_arcs}

abbrev loop : List Shape
loop = record { instructions = 1; targets = 0 ∷ []; weight = 1 } ∷ []

abbrev events : ℕ → Event
events v = cond (v == 2) Occurs Passes

abbrev weights : ℕ → ℕ
weights v = 1

reached : (v : ℕ) → v < 4 → Connects (shape_arcs loop) 0 v
reached zero h = record { path = []; leads = refl }
reached (suc zero) h = record { path = 0 ∷ []; leads = (omega arith, refl, refl) }
reached (suc (suc zero)) h = record { path = 0 ∷ 1 ∷ []; leads = (omega arith, refl, (omega arith, refl, refl)) }
reached (suc (suc (suc zero))) h = record { path = 0 ∷ 1 ∷ 2 ∷ []; leads = (omega arith, refl, (omega arith, refl, (omega arith, refl, refl))) }
reached (suc (suc (suc (suc v)))) h = absurd (omega arith)

suits : Suits loop events weights weights
suits = record {
  entry = omega arith;
  targets = All-from_recursion (λ s. All (λ t. t < 1) s.targets) loop (All-from_recursion (λ t. t < 1) (0 ∷ []) (omega arith, tt), tt);
  start_passes = refl;
  heads_pass = All-from_recursion (λ b. events b.head ≡ Passes) (shape_blocks loop) (refl, tt);
  terminators = All-from_recursion (λ b. (events b.terminator ≡ Occurs → ⊥) × (events b.terminator ≡ Kills → ⊥)) (shape_blocks loop) (((λ h. cc), (λ h. cc)), tt);
  step_weights = All-from_recursion (λ b. All (λ s. (weights s.0 ≡ b.weight) × (weights s.1 ≡ b.weight)) b.steps) (shape_blocks loop)
      (All-from_recursion (λ s. (weights s.0 ≡ 1) × (weights s.1 ≡ 1)) ((1, 2) ∷ []) ((refl, refl), tt), tt);
  exit_weights = All-from_recursion (λ b. weights b.exit ≡ b.weight) (shape_blocks loop) (refl, tt);
  edge_weights = λ e h. omega arith;
  block_weights = All-from_recursion (λ b. 0 < b.weight) (shape_blocks loop) (omega arith, tt);
  reached = reached;
}

pub some_suit : SomeSuit
some_suit = (loop, events, weights, weights, suits)
