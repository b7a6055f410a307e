-- The block network of an expression.
use Rattle.std.specs.Prelude.{ℕ, ◌+◌, ◌*◌, List, [], ◌∷◌, ◌++◌, map, sum_by}
use Rattle.expressions.specs.declared.syntax.Event.{Event}
use Rattle.expressions.specs.declared.syntax.Event.TheVariants.{Occurs, Kills, Bars, Passes}
use Rattle.flow_net.specs.declared.Arc.{Arc}
use Rattle.best_placement.specs.Blocks.{Block}

abbrev pub head_node : ℕ → ℕ
head_node index = 2 + 2 * index

abbrev pub terminator_node : ℕ → ℕ
terminator_node index = 3 + 2 * index

-- the last event so far, Passes where there is none
abbrev pub event_after : Event → Event → Event
event_after Occurs before = Occurs
event_after Kills before = Kills
event_after Bars before = before
event_after Passes before = before

abbrev pub last_event : (ℕ → Event) → Event → List (ℕ × ℕ) → Event
last_event event before [] = before
last_event event before (s ∷ steps) = last_event event (event_after (event s.1) before) steps

-- the first event, Passes where there is none
abbrev pub first_event : (ℕ → Event) → List (ℕ × ℕ) → Event
first_event event [] = Passes
first_event event (s ∷ steps) = event_after (event s.1) (first_event event steps)

-- one for an occurrence right after a kill
abbrev pub forced_here : Event → Event → ℕ
forced_here Kills Occurs = 1
forced_here _ _ = 0

-- how many occurrences have a kill as the event before them
abbrev pub forced : (ℕ → Event) → Event → List (ℕ × ℕ) → ℕ
forced event before [] = 0
forced event before (s ∷ steps) = forced_here before (event s.1) + forced event (event_after (event s.1) before) steps

-- the arcs of a block by its first event
abbrev pub first_arcs : Event → ℕ → ℕ → List Arc
first_arcs Occurs index weight = record { from = head_node index; to = 1; cap = weight } ∷ []
first_arcs Kills index weight = []
first_arcs Bars index weight = record { from = head_node index; to = terminator_node index; cap = weight } ∷ []
first_arcs Passes index weight = record { from = head_node index; to = terminator_node index; cap = weight } ∷ []

-- the arcs of a block by its last event
abbrev pub last_arcs : Event → ℕ → ℕ → List Arc
last_arcs Occurs index weight = []
last_arcs Kills index weight = record { from = 0; to = terminator_node index; cap = weight } ∷ []
last_arcs Bars index weight = []
last_arcs Passes index weight = []

abbrev pub slot_arcs : (ℕ → ℕ) → ℕ → List (ℕ × ℕ) → List Arc
slot_arcs edge_weight index slots = map (λ s. record { from = terminator_node index; to = head_node s.1; cap = edge_weight s.0 }) slots

abbrev pub arcs_of_blocks : (ℕ → Event) → (ℕ → ℕ) → List Block → List Arc
arcs_of_blocks event edge_weight [] = []
arcs_of_blocks event edge_weight (b ∷ blocks) =
    first_arcs (first_event event b.steps) b.index b.weight ++ last_arcs (last_event event Passes b.steps) b.index b.weight
    ++ slot_arcs edge_weight b.index b.slots ++ arcs_of_blocks event edge_weight blocks

-- the arcs of the network, in order
abbrev pub network_arcs : (ℕ → Event) → (ℕ → ℕ) → List Block → List Arc
network_arcs event edge_weight blocks = record { from = 0; to = head_node 0; cap = edge_weight 0 } ∷ arcs_of_blocks event edge_weight blocks

-- what each correct placement pays besides
abbrev pub constant : (ℕ → Event) → List Block → ℕ
constant event blocks = sum_by (λ b. b.weight * forced event Passes b.steps) blocks
