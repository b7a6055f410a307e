-- Where the counts of a block's slots begin.
use Rattle.std.proofs.Common.{◌≡◌, ◌<◌, ◌≤◌, ◌+◌, ℕ, zero, suc, List, [], ◌∷◌, length, take, get_or, sym, ap, ◌∙◌, arith}
use Rattle.std.proofs.lemmas.List.{get_or_past, take_all}
use Rattle.ir_types.specs.declared.syntax.Block.{Block}
use Rattle.ir_types.specs.declared.syntax.Function.{Function}
use Rattle.flow_graph.specs.Slots.{slots_from}
use Rattle.profile.specs.declared.counts.FnCounts.{FnCounts}
use Rattle.profile.specs.Counts.{HasSlots}
use Rattle.profile.proofs.Widths.{slots_cons}
use Rattle.block_counts.specs.Counts.{slots_before}
use Rattle.placement.specs.Costs.{slot_count}

-- the first blocks have no more slots than all
front_le : (b n : ℕ) (blocks : List Block) → length (slots_from b (take n blocks)) ≤ length (slots_from b blocks)
front_le b zero blocks = omega arith
front_le b (suc n) [] = omega arith
front_le b (suc n) (x ∷ blocks) = omega (arith, slots_cons b x (take n blocks), slots_cons b x blocks, front_le (b + 1) n blocks)

pub begins_within : (f : Function) (c : FnCounts) (b : ℕ) → HasSlots f c → slots_before f b ≤ length c.slots
begins_within f c b has = omega (arith, front_le 0 b f.blocks, has)

-- a block that isn't there has no slot
pub none_taken : (f : Function) (c : FnCounts) (b slot : ℕ) → HasSlots f c → length f.blocks ≤ b → 0 ≡ slot_count f c b slot
none_taken f c b slot has past =
    let all : take b f.blocks ≡ f.blocks = take_all b f.blocks past in
    let end : length c.slots ≤ length (slots_from 0 (take b f.blocks)) + slot = omega (arith, has, ap (λ xs. length (slots_from 0 xs)) all) in
    sym (get_or_past c.slots (length (slots_from 0 (take b f.blocks)) + slot) 0 end)
