-- The counts of a function by its blocks.
use Rattle.std.specs.Prelude.{◌≡◌, ◌<◌, ℕ, Bool, List, [], length, take, drop, slice_get, slice_index}
use Rattle.std.specs.Option.{option_map_or}
use Rattle.ir_types.specs.declared.syntax.Function.{Function}
use Rattle.flow_graph.specs.Slots.{slots_of, slots_from}
use Rattle.flow_graph.specs.Paths.{AreReached}
use Rattle.profile.specs.declared.counts.FnCounts.{FnCounts}
use Rattle.profile.specs.Counts.{entering}
use Rattle.block_counts.specs.declared.BlockCounts.{BlockCounts}

-- the blocks to which the slots of block b lead
abbrev pub targets_of : Function → ℕ → List ℕ
targets_of f b = option_map_or (λ x. slots_of x.term) (slice_get f.blocks b) []

-- how many slots the blocks before block b have
abbrev pub slots_before : Function → ℕ → ℕ
slots_before f b = length (slots_from 0 (take b f.blocks))

-- the counts of the slots of block b
abbrev pub slot_counts : Function → FnCounts → ℕ → List ℕ
slot_counts f c b = take (length (targets_of f b)) (drop (slots_before f b) c.slots)

-- what enters each block, whatever test tells the reached ones, and where the counts of its slots begin
pub record AreBlockCounts (f : Function) (c : FnCounts) (by_block : BlockCounts) : Type 0 where
  pub entered_len : length by_block.entered.items ≡ length f.blocks
  pub entered : (reached : ℕ → Bool) → AreReached f reached → (b : ℕ) → b < length f.blocks → slice_index by_block.entered.items b ≡ entering reached f c b
  pub begins_len : length by_block.begins.items ≡ length f.blocks
  pub begins : (b : ℕ) → b < length f.blocks → slice_index by_block.begins.items b ≡ slots_before f b
