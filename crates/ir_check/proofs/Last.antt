-- From the parts of a tree to its module.
use Rattle.std.proofs.Common.{◌≡◌, All, List, map, refl, sym, subst, ap, ◌∙◌}
use Rattle.ir_types.specs.Limits.{IsWithinLimits}
use Rattle.ir_types.specs.ModuleOf.{function_of, global_of, module_of}
use Rattle.ir_types.specs.Program.{Program}
use Rattle.ir_types.specs.Rules.{symbols_of}
use Rattle.ir_types.specs.WellFormed.{IsWellFormed}
use Rattle.ir_types.specs.declared.syntax.Function.{Function}
use Rattle.ir_types.specs.declared.syntax.Global.{Global}
use Rattle.ir_types.specs.declared.tree.Raw.{Raw}

module _ (raw : Raw) (globals : List Global) (functions : List Function) where
  whole : globals ≡ map global_of raw.globals → functions ≡ map (function_of raw.functions (symbols_of raw)) raw.functions → module_of raw ≡ record { globals = globals; functions = functions }
  whole e f = rw (e, f) refl

  -- the parts keep the rules that the tree's module keeps
  pub parts_keep : IsWellFormed (module_of raw) → globals ≡ map global_of raw.globals → functions ≡ map (function_of raw.functions (symbols_of raw)) raw.functions
      → IsWellFormed (record { globals = globals; functions = functions })
  parts_keep kept e f = subst IsWellFormed (whole e f) kept

  pub limits_kept : (m : Program) → All IsWithinLimits (module_of raw).functions → functions ≡ map (function_of raw.functions (symbols_of raw)) raw.functions → m ≡ record { globals = globals; functions = functions }
      → All IsWithinLimits m.functions
  limits_kept m kept f is = subst (λ (fs : List Function). All IsWithinLimits fs) (sym f ∙ sym (ap (λ (m : Program). m.functions) is)) kept
