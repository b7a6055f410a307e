-- Accepted counts have the module's shape.
use Rattle.std.proofs.Common.{List, [], ◌∷◌}
use Rattle.std.specs.List.{AllZip}
use Rattle.ir_types.specs.Program.{Program}
use Rattle.ir_types.specs.declared.syntax.Function.{Function}
use Rattle.profile.specs.declared.counts.FnCounts.{FnCounts}
use Rattle.profile.specs.Counts.{AreCounts, HasSlots, HasShape, IsAccepted, defined}

slots_of_all : (fs : List Function) (cs : List FnCounts) → AllZip AreCounts fs cs → AllZip HasSlots fs cs
slots_of_all [] [] all = all
slots_of_all [] (c ∷ cs) all = all
slots_of_all (f ∷ fs) [] all = all
slots_of_all (f ∷ fs) (c ∷ cs) all = (all.0.slots, slots_of_all fs cs all.1)

pub shape_of : (m : Program) (counts : List FnCounts) → IsAccepted m counts → HasShape m counts
shape_of m counts accepted = slots_of_all (defined m) counts accepted.functions
