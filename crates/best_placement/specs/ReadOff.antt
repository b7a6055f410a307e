-- The placement read off a set of nodes.
use Rattle.std.specs.Prelude.{◌≡◌, ℕ, Bool, true, false, not, ◌&&◌, List, [], ◌∷◌, All}
use Rattle.expressions.specs.declared.syntax.Event.{Event}
use Rattle.expressions.specs.declared.syntax.Event.TheVariants.{Occurs, Kills, Bars, Passes}
use Rattle.best_placement.specs.Blocks.{Block}
use Rattle.best_placement.specs.BlockNetwork.{head_node, terminator_node, last_event, event_after}

-- whether a value must be computed where it is wanted: the event before is a kill, or there is none and the head isn't in the set
abbrev pub is_owed : Event → Bool → Bool
is_owed Occurs head = false
is_owed Kills head = true
is_owed Bars head = not head
is_owed Passes head = not head

-- an occurrence is kept where the event before it is a kill, or where it is the block's first event and the head isn't in the set
abbrev pub KeepsAlong : (ℕ → Event) → (ℕ → Bool) → Bool → Event → List (ℕ × ℕ) → Type 0
KeepsAlong event kept head before [] = Unit {0}
KeepsAlong event kept head before (s ∷ steps) =
    (event s.1 ≡ Occurs → kept s.1 ≡ is_owed before head) × KeepsAlong event kept head (event_after (event s.1) before) steps

pub record IsReadOffIn (event : ℕ → Event) (inserted kept : ℕ → Bool) (nodes : ℕ → Bool) (b : Block) : Type 0 where
  pub steps : All (λ s. inserted s.0 ≡ false) b.steps
  pub exit : inserted b.exit ≡ (nodes (terminator_node b.index) && is_owed (last_event event Passes b.steps) (nodes (head_node b.index)))
  pub slots : All (λ s. inserted s.0 ≡ (not (nodes (terminator_node b.index)) && nodes (head_node s.1))) b.slots
  pub keeps : KeepsAlong event kept (nodes (head_node b.index)) Passes b.steps

pub record IsReadOff (event : ℕ → Event) (inserted kept : ℕ → Bool) (nodes : ℕ → Bool) (blocks : List Block) : Type 0 where
  pub entry : inserted 0 ≡ nodes (head_node 0)
  pub each : All (IsReadOffIn event inserted kept nodes) blocks
