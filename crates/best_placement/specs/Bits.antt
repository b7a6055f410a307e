-- The placement read off a set of nodes, bit by bit: one bit for each edge and each point in order.
use Rattle.std.specs.Prelude.{ℕ, suc, Bool, true, false, not, ◌&&◌, List, [], ◌∷◌, ◌++◌}
use Rattle.expressions.specs.declared.syntax.Event.{Event}
use Rattle.expressions.specs.declared.syntax.Event.TheVariants.{Occurs, Kills, Bars, Passes}
use Rattle.best_placement.specs.Blocks.{Block}
use Rattle.best_placement.specs.BlockNetwork.{head_node, terminator_node, event_after, last_event}
use Rattle.best_placement.specs.ReadOff.{is_owed}

abbrev pub is_occurrence : Event → Bool
is_occurrence Occurs = true
is_occurrence Kills = false
is_occurrence Bars = false
is_occurrence Passes = false

-- the numbers of the set bits, from n on
abbrev pub positions : ℕ → List Bool → List ℕ
positions n [] = []
positions n (true ∷ bits) = n ∷ positions (suc n) bits
positions n (false ∷ bits) = positions (suc n) bits

-- what is inserted and kept in a block, bit by bit
abbrev pub none : List (ℕ × ℕ) → List Bool
none [] = []
none (s ∷ steps) = false ∷ none steps

abbrev pub inserted_slots : (ℕ → Bool) → Bool → List (ℕ × ℕ) → List Bool
inserted_slots nodes end [] = []
inserted_slots nodes end (s ∷ slots) = (not end && nodes (head_node s.1)) ∷ inserted_slots nodes end slots

abbrev pub inserted_in : (ℕ → Event) → (ℕ → Bool) → Block → List Bool
inserted_in event nodes b = none b.steps ++ (nodes (terminator_node b.index) && is_owed (last_event event Passes b.steps) (nodes (head_node b.index))) ∷ inserted_slots nodes (nodes (terminator_node b.index)) b.slots

abbrev pub kept_along : (ℕ → Event) → Bool → Event → List (ℕ × ℕ) → List Bool
kept_along event head before [] = []
kept_along event head before (s ∷ steps) = (is_occurrence (event s.1) && is_owed before head) ∷ kept_along event head (event_after (event s.1) before) steps

abbrev pub kept_in : (ℕ → Event) → (ℕ → Bool) → Block → List Bool
kept_in event nodes b = false ∷ kept_along event (nodes (head_node b.index)) Passes b.steps ++ false ∷ []

abbrev pub bits_joined : (Block → List Bool) → List Block → List Bool
bits_joined f [] = []
bits_joined f (b ∷ blocks) = f b ++ bits_joined f blocks
