-- The canonical text of a module reads back.
use Rattle.std.proofs.Common.{refl}
use Rattle.std.specs.Prelude.{All}
use Rattle.ir_types.specs.Program.{Program}
use Rattle.ir_types.specs.Limits.{IsWithinLimits}
use Rattle.ir_types.specs.ModuleOf.{module_of}
use Rattle.ir_types.specs.TreeOf.{IsTreeOf}
use Rattle.ir_types.specs.WellFormed.{IsWellFormed}
use Rattle.ir_types.specs.declared.tree.Raw.{Raw}
use Rattle.module_trees.specs.Meant.{MeansModule}
use Rattle.printed_trees.specs.Printed.{SpellsTree}
use Rattle.ir_reader.specs.Reading.{Reads, ReadsBack}

pub back : ((m : Program) → IsWellFormed m → SpellsTree m) → ((m : Program) (raw : Raw) → IsWellFormed m → IsTreeOf m raw → MeansModule m raw)
    → (m : Program) → IsWellFormed m → All IsWithinLimits m.functions → ReadsBack m
unfolding Reads
back spells means m fits limits =
    let text = spells m fits in
    let meant = means m text.tree fits text.is in
    record {
      again = module_of text.tree;
      reads = (record { tokens = text.tokens; lexed = text.lexed; tree = text.tree; spelled = text.spelled; problem_is = meant.problem limits }, refl);
      same = meant.means;
    }
