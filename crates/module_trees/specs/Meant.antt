-- What a tree of a module gives back.
use Rattle.std.specs.Prelude.{◌≡◌, None, All}
use Rattle.ir_types.specs.Limits.{IsWithinLimits}
use Rattle.ir_types.specs.ModuleOf.{module_of}
use Rattle.ir_types.specs.Program.{Program}
use Rattle.ir_types.specs.Rules.{tree_problem}
use Rattle.ir_types.specs.Same.{plain}
use Rattle.ir_types.specs.declared.tree.Raw.{Raw}

-- the tree breaks no rule where the module is within the limits, and means the module with its names as they are spelled
pub record MeansModule (m : Program) (raw : Raw) : Type 0 where
  pub problem : All IsWithinLimits m.functions → tree_problem raw ≡ None
  pub means : module_of raw ≡ plain m
