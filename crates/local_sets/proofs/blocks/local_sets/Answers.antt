use Rattle.std.proofs.Common.{◌-◌, ℕ, take, drop, length}
use Rattle.std.specs.List.{AllZip}
use Rattle.std.proofs.lemmas.Result.{IfOk-weaker}
use Rattle.expressions.specs.Kept.{Kept}
use Rattle.local_sets.specs.Blocks.{IsBlockSets}
use Rattle.local_sets.specs.Stepping.{AreLeft}
use Rattle.local_sets.proofs.BlockLemmas.{blocks_inside, left_told, all_behind}
use Rattle.local_sets.proofs.blocks.local_sets.Goals as goal

pub all_sets-requires-clause-within : goal.all_sets-requires-clause-within
all_sets-requires-clause-within c = rw c.as_slice.ensures (blocks_inside c.args.function.now c.args.points.now c.requires.points)

pub returns : goal.returns
returns c =
    IfOk-weaker c.all_sets.result
    (λ sets. (t : Kept) (e : ℕ) → AreLeft c.args.function.now t e c.args.points.now.blocks (take (length c.in_ok-events.events.items - 1) (drop 1 c.in_ok-events.events.items)) → AllZip (IsBlockSets c.args.function.now t e) c.args.points.now.blocks sets.items)
    (λ sets. AllZip (IsBlockSets c.args.function.now c.args.table.now c.args.e) c.args.points.now.blocks sets.items)
    (λ sets h. h c.args.table.now c.args.e (rw (all_behind c.in_ok-events.events.items) (left_told c.args.function.now c.args.points.now c.requires.points c.args.table.now c.args.e c.in_ok-events.events.items c.in_ok-events.ensures)))
    (rw (c.as_slice.ensures, c.deref.ensures.value) at c.all_sets.ensures)
