-- Accepted counts have the module's shape.
use Rattle.std.proofs.Common.{List, [], ◌∷◌}
use Rattle.std.specs.List.{AllZip}
use Rattle.ir_types.specs.Program.{Program}
use Rattle.ir_types.specs.declared.syntax.Function.{Function}
use Rattle.profile.specs.declared.counts.FnCounts.{FnCounts}
use Rattle.profile.specs.Counts.{AreCounts, HasSlots, HasShape, IsAccepted, defined}

each : (fs : List Function) (cs : List FnCounts) → AllZip AreCounts fs cs → AllZip HasSlots fs cs
each [] [] all = tt
each [] (c ∷ cs) all = absurd all
each (f ∷ fs) [] all = absurd all
each (f ∷ fs) (c ∷ cs) all = (all.0.slots, each fs cs all.1)

pub shape_of : (m : Program) (counts : List FnCounts) → IsAccepted m counts → HasShape m counts
shape_of m counts accepted = each (defined m) counts accepted.functions
