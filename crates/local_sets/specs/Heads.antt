-- The sets of blocks at the heads of the blocks, and what they say of paths.
use Rattle.std.specs.Prelude.{ℕ, Bool, true, false, List, [], ◌∷◌, length, map, replicate, if◌then◌else◌}
use Rattle.point_graph.specs.declared.graph.Point.{Point}
use Rattle.point_graph.specs.declared.graph.Point.TheVariants.{Start, Head, Instr, Term}
use Rattle.expressions.specs.declared.syntax.Event.{Event}
use Rattle.expressions.specs.declared.syntax.Event.TheVariants.{Occurs, Kills, Bars, Passes}
use Rattle.flow_paths.specs.declared.marks.Mark.{Mark}
use Rattle.flow_paths.specs.declared.marks.Mark.TheVariants.{Write, Kill, Pass}
use Rattle.flow_paths.specs.Paths.{Place}
use Rattle.flow_paths.specs.Marks.{mark_at}
use Rattle.local_sets.specs.declared.blocks.BlockSets.{BlockSets}

-- of a point at which no block begins
abbrev pub no_sets : BlockSets
no_sets = record { first = Passes; last = Passes; forced = 0 }

abbrev pub begins_block : Point → Bool
begins_block Start = false
begins_block (Head b) = true
begins_block (Instr b k) = false
begins_block (Term b) = false

abbrev pub ends_block : Point → Bool
ends_block Start = false
ends_block (Head b) = true
ends_block (Instr b k) = false
ends_block (Term b) = true

abbrev pub first_sets : List BlockSets → BlockSets
first_sets [] = no_sets
first_sets (s ∷ sets) = s

abbrev pub later_sets : List BlockSets → List BlockSets
later_sets [] = []
later_sets (s ∷ sets) = sets

-- for each point the sets of the block that begins there
abbrev pub placed : List Point → List BlockSets → List BlockSets
placed [] sets = []
placed (point ∷ points) sets = if begins_block point then first_sets sets ∷ placed points (later_sets sets) else no_sets ∷ placed points sets

-- the bits of heads and of terminators
abbrev pub bits_at_ends : List Point → List Bool → List Bool
bits_at_ends [] bits = []
bits_at_ends (point ∷ points) [] = []
bits_at_ends (point ∷ points) (bit ∷ bits) = if ends_block point then bit ∷ bits_at_ends points bits else bits_at_ends points bits

-- what a block does to a value that its occurrences write
abbrev pub mark_of_event : Event → Mark
mark_of_event Occurs = Write
mark_of_event Kills = Kill
mark_of_event Bars = Pass
mark_of_event Passes = Pass

-- what a block does to the search for an occurrence
abbrev pub stop_of_event : Event → Mark
stop_of_event Occurs = Write
stop_of_event Kills = Write
stop_of_event Bars = Pass
stop_of_event Passes = Pass

abbrev pub is_occurrence : Event → Bool
is_occurrence Occurs = true
is_occurrence Kills = false
is_occurrence Bars = false
is_occurrence Passes = false

-- marks of points alone
abbrev pub with_points : List (ℕ × ℕ) → List Mark → Place → Mark
with_points arcs points = mark_at points (replicate (length arcs) Pass)

abbrev pub lasts : List BlockSets → List Mark
lasts sets = map (λ s. mark_of_event s.last) sets

abbrev pub stops : List BlockSets → List Mark
stops sets = map (λ s. stop_of_event s.first) sets

abbrev pub goals : List BlockSets → List Bool
goals sets = map (λ s. is_occurrence s.first) sets
