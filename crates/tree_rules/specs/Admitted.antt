-- What holds of the module that a tree without a problem means.
use Rattle.std.specs.Prelude.{◌≡◌, ◌≤◌, ◌^◌, All, None}
use Rattle.ir_types.specs.Limits.{IsWithinLimits}
use Rattle.ir_types.specs.ModuleOf.{module_of}
use Rattle.ir_types.specs.Rules.{tree_problem}
use Rattle.ir_types.specs.Size.{items}
use Rattle.ir_types.specs.WellFormed.{IsWellFormed}
use Rattle.ir_types.specs.Written.{IsSpelledTree}
use Rattle.ir_types.specs.declared.tree.Raw.{Raw}

-- it breaks no rule of modules, and is within the limits
pub record IsAdmitted (raw : Raw) : Type 0 where
  pub well_formed : IsWellFormed (module_of raw)
  pub limits : All IsWithinLimits (module_of raw).functions

-- a tree that tokens can spell, with at most 2^26 items and without a problem, means such a module
abbrev pub AdmitsTrees : Type 0
AdmitsTrees = (raw : Raw) → IsSpelledTree raw → items raw ≤ 2 ^ 26 → tree_problem raw ≡ None → IsAdmitted raw
