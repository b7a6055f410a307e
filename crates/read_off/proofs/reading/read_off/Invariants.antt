use Rattle.std.proofs.Common.{ℕ, Bool, take, map, get_or}
use Rattle.profile.specs.declared.counts.FnCounts.{FnCounts}
use Rattle.function_graphs.proofs.Lying.{shape}
use Rattle.read_off.specs.Bits.{event_at, ReadsBlocks}
use Rattle.read_off.proofs.reading.read_off.Given as goal

abbrev pub invariant-loop-place : goal.invariant-loop-place
invariant-loop-place l = (c : FnCounts) (reached : ℕ → Bool) → ReadsBlocks (event_at l.events) (λ v. get_or l.sink_side v Bool.false) (take l.place (map (shape l.function l.points c reached) l.points.blocks)) l.inserted l.kept
