use Rattle.std.proofs.Common.{◌≡◌, ◌++◌, drop, length}
use Rattle.block_text.specs.ByChanges.{temp_groups}
use Rattle.block_text.proofs.grouping.push_groups.Given as goal

abbrev pub invariant-loop-temp : goal.invariant-loop-temp
invariant-loop-temp l =
    l.instrs.items ++ temp_groups l.source l.p (length l.instrs.items) (drop l.temp-index l.temps) ≡ l.initial.instrs.items ++ temp_groups l.source l.p (length l.initial.instrs.items) l.temps
