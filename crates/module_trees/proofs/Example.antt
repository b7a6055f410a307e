-- A module with its tree: the law speaks of something, and its parts compute.
use Rattle.std.proofs.Common.{◌≡◌, ◌≢◌, ◌<◌, ◌^◌, ℕ, pos, negsuc, zero, suc, List, [], ◌∷◌, None, Some, take, map, slice_get, slice_index_or, All, refl, ap, subst, codes, inr, arith}
use Rattle.std.specs.Prelude.{AllPairs}
use Rattle.std.specs.Fmt.{digits}
use Rattle.std.specs.List.{IsDistinct}
use Rattle.std.proofs.lemmas.Map.Made.{AllPairs-from_IsDistinct}
use Rattle.std.proofs.lemmas.List.Elements.{All-from_recursion}
use Rattle.mc_num.specs.Op.{bits}
use Rattle.mc_num.specs.declared.op.Width.TheVariants.{I8, I32}
use Rattle.mc_num.specs.declared.op.Cast.TheVariants.{Zext}
use Rattle.mc_num.specs.declared.op.Pred.TheVariants.{Eq}
use Rattle.mc_num.specs.declared.op.Op.TheVariants as op
use Rattle.ir_types.specs.Definitions.{same_name}
use Rattle.ir_types.specs.Limits.{IsWithinLimits}
use Rattle.ir_types.specs.ModuleOf.{module_of, vars_from, instrs_from, blocks_from, variables_from, params_from, numbered_from}
use Rattle.ir_types.specs.Names.{spelled, IsSpellable}
use Rattle.ir_types.specs.Order.{merged, up_to}
use Rattle.ir_types.specs.Program.{Program}
use Rattle.ir_types.specs.Rules.{tree_problem, items_problem, instrs_problem, blocks_problem, params_problem, after_instrs, after_blocks, after_params, after_items}
use Rattle.ir_types.specs.Same.{plain}
use Rattle.ir_types.specs.TreeOf.{IsTreeOf}
use Rattle.ir_types.specs.Uses.{arguments_problem, cases_problem}
use Rattle.ir_types.specs.WellFormed.{IsWellFormed, IsFunctionIn, IsBlockIn, IsGlobal, Fits, IsNamed, names, scope, putchar, symbols}
use Rattle.ir_types.specs.declared.name.Made.TheVariants.{Temp}
use Rattle.ir_types.specs.declared.name.Name.TheVariants.{Text, Number, Made}
use Rattle.ir_types.specs.declared.span.At.{At}
use Rattle.ir_types.specs.declared.span.Span.{Span}
use Rattle.ir_types.specs.declared.syntax.Block.{Block}
use Rattle.ir_types.specs.declared.syntax.Function.{Function}
use Rattle.ir_types.specs.declared.syntax.Global.{Global}
use Rattle.ir_types.specs.declared.syntax.Instr.{Instr}
use Rattle.ir_types.specs.declared.syntax.Kind.TheVariants.{Load, Store, Compute, Call}
use Rattle.ir_types.specs.declared.syntax.Operand.TheVariants.{Const, Param, Reg}
use Rattle.ir_types.specs.declared.syntax.Terminator.TheVariants.{Return, Branch, Switch}
use Rattle.ir_types.specs.declared.syntax.Variable.TheVariants as variable
use Rattle.ir_types.specs.declared.tree.Address.TheVariants as addresses
use Rattle.ir_types.specs.declared.tree.Raw.{Raw}
use Rattle.ir_types.specs.declared.tree.RawBlock.{RawBlock}
use Rattle.ir_types.specs.declared.tree.RawFunction.{RawFunction}
use Rattle.ir_types.specs.declared.tree.RawKind.TheVariants as forms
use Rattle.ir_types.specs.declared.tree.RawTerm.TheVariants as terms
use Rattle.ir_types.specs.declared.tree.RawValue.TheVariants as values
use Rattle.ir_types.specs.declared.tree.Ty.TheVariants.{Int}
use Rattle.module_trees.proofs.Names.{decided}
use Rattle.module_trees.proofs.Whole.{module_meant}

-- ---- a module: a global, a declaration, and a function of three blocks

-- `0: %x = alloca i32; %1 = load i8, ptr @g; %pre.3 = zext i8 %1 to i32; %2 = call i32 @putchar(i32 %pre.3);`
-- `store i32 %a, ptr %x; %3 = icmp eq i32 %2, -1; br i1 %3, label %4, label %end`
abbrev entry : Block
entry = record {
  name = Number 0;
  instrs =
      record { result = Some (Number 1); kind = Load (variable.Global 0) }
      ∷ record { result = Some (Made 0 (Temp 3)); kind = Compute (op.Cast Zext I8 I32) (Reg 0 ∷ []) }
      ∷ record { result = Some (Number 2); kind = Call 0 (Reg 1 ∷ []) }
      ∷ record { result = None; kind = Store (Param 0) (variable.Local 0) }
      ∷ record { result = Some (Number 3); kind = Compute (op.Icmp Eq I32) (Reg 2 ∷ Const 4294967295 ∷ []) }
      ∷ [];
  term = Branch (Reg 4) 1 2;
}

-- `4: switch i32 %a, label %end [i32 -1, label %4]`
abbrev again : Block
again = record { name = Number 4; instrs = []; term = Switch I32 (Param 0) 2 ((4294967295, 1) ∷ []) }

-- `end: ret i32 0`
abbrev end : Block
end = record { name = Text (codes "end"); instrs = []; term = Return (Some (Const 0)) }

abbrev main : Function
main = record { name = codes "main"; ret = Some I32; params = (I32, Text (codes "a")) ∷ []; vars = (I32, Text (codes "x")) ∷ []; blocks = entry ∷ again ∷ end ∷ [] }

abbrev global : Global
global = record { name = codes "g"; width = I8; value = 255 }

abbrev small : Program
small = record { globals = global ∷ []; functions = putchar ∷ main ∷ [] }

-- ---- its tree

abbrev here : Span
here = record { line = 7; start = 70; end = 77 }

abbrev at : {T : Type 0} → T → At T
at x = record { item = x; span = here }

abbrev entry_tree : RawBlock
entry_tree = record {
  label = Some (at (Number 0));
  instrs =
      record { result = Some (at (Text (codes "x"))); word = here; kind = forms.Alloca I32 }
      ∷ record { result = Some (at (Number 1)); word = here; kind = forms.Load I8 (at (addresses.Global (codes "g"))) }
      ∷ record { result = Some (at (Text (codes "pre.3"))); word = here; kind = forms.Cast Zext I8 (at (values.Local (Number 1))) (at I32) }
      ∷ record {
        result = Some (at (Number 2));
        word = here;
        kind = forms.Call (Int I32) (at (codes "putchar")) (record { ty = Int I32; value = at (values.Local (Text (codes "pre.3"))) } ∷ []);
      }
      ∷ record { result = None; word = here; kind = forms.Store I32 (at (values.Local (Text (codes "a")))) (at (addresses.Local (Text (codes "x")))) }
      ∷ record { result = Some (at (Number 3)); word = here; kind = forms.Icmp Eq I32 (at (values.Local (Number 2))) (at (values.Number (negsuc 0))) }
      ∷ [];
  term = terms.Branch (at (values.Local (Number 3))) (at (Number 4)) (at (Text (codes "end")));
  term_word = here;
}

abbrev again_tree : RawBlock
again_tree = record {
  label = Some (at (Number 4));
  instrs = [];
  term = terms.Switch I32 (at (values.Local (Text (codes "a")))) (at (Text (codes "end"))) (record { width = at I32; value = at (values.Number (negsuc 0)); label = at (Number 4) } ∷ []);
  term_word = here;
}

abbrev end_tree : RawBlock
end_tree = record { label = Some (at (Text (codes "end"))); instrs = []; term = terms.Return (Some (I32, at (values.Number (pos 0)))); term_word = here }

abbrev main_tree : RawFunction
main_tree = record {
  name = at (codes "main");
  ret = Int I32;
  params = record { width = I32; name = Some (at (Text (codes "a"))) } ∷ [];
  blocks = entry_tree ∷ again_tree ∷ end_tree ∷ [];
}

abbrev putchar_tree : RawFunction
putchar_tree = record { name = at (codes "putchar"); ret = Int I32; params = record { width = I32; name = None } ∷ []; blocks = [] }

abbrev tree : Raw
tree = record {
  functions = putchar_tree ∷ main_tree ∷ [];
  globals = record { name = at (codes "g"); width = I8; value = at (values.Number (negsuc 0)) } ∷ [];
}

is_tree : IsTreeOf small tree
unfolding digits merged up_to
is_tree = record {
  globals = (record { named = refl; width = refl; value = refl }, tt);
  functions = (
    record { named = refl; gives = refl; params = (record { width = refl; named = refl }, tt); blocks = tt },
    (
      record {
        named = refl;
        gives = refl;
        params = (record { width = refl; named = refl }, tt);
        blocks = (
          record {
            label = refl;
            allocas = record { result = Some (at (Text (codes "x"))); word = here; kind = forms.Alloca I32 } ∷ [];
            others = _;
            instrs = refl;
            are_allocas = (record { result = refl; kind = refl }, tt);
            are_others = (
              record { result = refl; kind = (refl, refl) },
              (
                record { result = refl; kind = (refl, refl, refl, refl) },
                (
                  record { result = refl; kind = (putchar, refl, record { type_is = refl; named = refl; arguments = (refl, refl, tt) }) },
                  (record { result = tt; kind = (refl, refl, refl) }, (record { result = refl; kind = (refl, refl, (refl, refl)) }, tt)),
                ),
              ),
            );
            term = (refl, refl, refl);
          },
          (
            record {
              label = refl;
              allocas = [];
              others = [];
              instrs = refl;
              are_allocas = tt;
              are_others = tt;
              term = (refl, refl, refl, (record { width = refl; value = refl; label = refl }, tt));
            },
            (record { label = refl; allocas = []; others = []; instrs = refl; are_allocas = tt; are_others = tt; term = (refl, refl) }, tt),
          ),
        );
      },
      tt,
    ),
  );
  ordered = refl;
}

no_problem : tree_problem tree ≡ None
unfolding items_problem params_problem blocks_problem instrs_problem arguments_problem cases_problem after_items after_params after_blocks after_instrs merged up_to digits
no_problem = refl

means : module_of tree ≡ plain small
unfolding vars_from instrs_from blocks_from variables_from params_from numbered_from after_items after_params after_blocks after_instrs merged up_to digits
means = refl

-- ---- it is well formed

differ : IsDistinct same_name (map spelled (names main))
unfolding digits IsDistinct
differ = (
  (refl, (refl, (refl, (refl, (refl, (refl, (refl, (refl, tt)))))))),
  (
    (refl, (refl, (refl, (refl, (refl, (refl, (refl, tt))))))),
    (
      (refl, (refl, (refl, (refl, (refl, (refl, tt)))))),
      (
        (refl, (refl, (refl, (refl, (refl, tt))))),
        ((refl, (refl, (refl, (refl, tt)))), ((refl, (refl, (refl, tt))), ((refl, (refl, tt)), ((refl, tt), (tt, tt))))),
      ),
    ),
  ),
)

-- an instruction of the first block fits where it is
abbrev FitsAt : ℕ → Instr → Type 0
FitsAt k i = Fits (scope small main) (take k entry.instrs) i.kind

fits_at : (k : ℕ) (i : Instr) → slice_get entry.instrs k ≡ Some i → FitsAt k i
fits_at zero i e = let is : record { result = Some (Number 1); kind = Load (variable.Global 0) } ≡ i = cc in subst (FitsAt 0) is refl
fits_at (suc zero) i e =
    let is : record { result = Some (Made 0 (Temp 3)); kind = Compute (op.Cast Zext I8 I32) (Reg 0 ∷ []) } ≡ i = cc in
    subst (FitsAt 1) is (record { exists = omega arith; operands_fit = (refl, tt) })
fits_at (suc (suc zero)) i e = let is : record { result = Some (Number 2); kind = Call 0 (Reg 1 ∷ []) } ≡ i = cc in subst (FitsAt 2) is (refl, tt)
fits_at (suc (suc (suc zero))) i e = let is : record { result = None; kind = Store (Param 0) (variable.Local 0) } ≡ i = cc in subst (FitsAt 3) is refl
fits_at (suc (suc (suc (suc zero)))) i e =
    let is : record { result = Some (Number 3); kind = Compute (op.Icmp Eq I32) (Reg 2 ∷ Const 4294967295 ∷ []) } ≡ i = cc in
    subst (FitsAt 4) is (record { exists = tt; operands_fit = (refl, (omega arith, tt)) })
fits_at (suc (suc (suc (suc (suc k))))) i e = cc

abbrev IsTarget : ℕ → Type 0
IsTarget t = (0 < t) × (t < 3)

entry_in : IsBlockIn (scope small main) entry
entry_in = record {
  fits = fits_at;
  named = All-from_recursion (IsNamed (scope small main)) entry.instrs (
    (λ h. refl, λ h. refl),
    ((λ h. refl, λ h. refl), ((λ h. refl, λ h. refl), ((λ h. h, λ h. h), ((λ h. refl, λ h. refl), tt)))),
  );
  ends = refl;
  targets_exist = All-from_recursion IsTarget (1 ∷ 2 ∷ []) ((omega arith, omega arith), ((omega arith, omega arith), tt));
}

again_in : IsBlockIn (scope small main) again
again_in = record {
  fits = λ k i e. cc;
  named = All-from_recursion (IsNamed (scope small main)) [] tt;
  ends = (
    refl,
    record {
      fit = All-from_recursion (λ (c : ℕ × ℕ). c.0 < 2 ^ bits I32) ((4294967295, 1) ∷ []) (omega arith, tt);
      differ = λ i j d less within. absurd (omega arith);
      few = omega arith;
    },
  );
  targets_exist = All-from_recursion IsTarget (2 ∷ 1 ∷ []) ((omega arith, omega arith), ((omega arith, omega arith), tt));
}

end_in : IsBlockIn (scope small main) end
end_in = record {
  fits = λ k i e. cc;
  named = All-from_recursion (IsNamed (scope small main)) [] tt;
  ends = omega arith;
  targets_exist = All-from_recursion IsTarget [] tt;
}

main_in : IsFunctionIn small main
main_in = record {
  named = record { some = omega arith; quotable = refl };
  spellable = All-from_recursion IsSpellable (names main) (
    record { some = omega arith; quotable = refl },
    (
      omega arith,
      (
        record { some = omega arith; quotable = refl },
        (omega arith, (tt, (omega arith, (omega arith, (omega arith, (record { some = omega arith; quotable = refl }, tt)))))),
      ),
    ),
  );
  names_differ = AllPairs-from_IsDistinct decided (map spelled (names main)) differ;
  numbers_count = (refl, (refl, (refl, (refl, (refl, tt)))));
  blocks = All-from_recursion (IsBlockIn (scope small main)) main.blocks (entry_in, (again_in, (end_in, tt)));
  declared = λ e. cc;
  few_params = omega arith;
  few = omega arith;
}

putchar_differ : IsDistinct same_name (map spelled (names putchar))
unfolding IsDistinct
putchar_differ = (tt, tt)

putchar_in : IsFunctionIn small putchar
putchar_in = record {
  named = record { some = omega arith; quotable = refl };
  spellable = All-from_recursion IsSpellable (names putchar) (omega arith, tt);
  names_differ = AllPairs-from_IsDistinct decided (map spelled (names putchar)) putchar_differ;
  numbers_count = (refl, tt);
  blocks = All-from_recursion (IsBlockIn (scope small putchar)) [] tt;
  declared = λ e. inr refl;
  few_params = omega arith;
  few = omega arith;
}

first : List ℕ → ℕ
first bytes = slice_index_or bytes 0 0

symbols_differ : AllPairs (λ a b. a ≢ b) (symbols small)
unfolding first
symbols_differ zero (suc zero) d l m e = let never : 103 ≡ 112 = ap first e in absurd (omega (arith, never))
symbols_differ zero (suc (suc zero)) d l m e = let never : 103 ≡ 109 = ap first e in absurd (omega (arith, never))
symbols_differ (suc zero) (suc (suc zero)) d l m e = let never : 112 ≡ 109 = ap first e in absurd (omega (arith, never))
symbols_differ zero zero d l m e = absurd (omega arith)
symbols_differ zero (suc (suc (suc j))) d l m e = absurd (omega arith)
symbols_differ (suc i) zero d l m e = absurd (omega arith)
symbols_differ (suc i) (suc zero) d l m e = absurd (omega arith)
symbols_differ (suc (suc i)) (suc (suc zero)) d l m e = absurd (omega arith)
symbols_differ (suc i) (suc (suc (suc j))) d l m e = absurd (omega arith)

is_well_formed : IsWellFormed small
is_well_formed = record {
  symbols_differ = symbols_differ;
  globals = All-from_recursion IsGlobal (global ∷ []) (record { named = record { some = omega arith; quotable = refl }; fits = omega arith }, tt);
  functions = All-from_recursion (IsFunctionIn small) (putchar ∷ main ∷ []) (putchar_in, (main_in, tt));
  few_globals = omega arith;
  few_functions = omega arith;
}

within_limits : All IsWithinLimits small.functions
within_limits = All-from_recursion IsWithinLimits (putchar ∷ main ∷ []) (
  record { instrs = omega arith; blocks = omega arith; slots = omega arith; vars = omega arith },
  (record { instrs = omega arith; blocks = omega arith; slots = omega arith; vars = omega arith }, tt),
)

-- all that the law asks for holds of this module and this tree
law : tree_problem tree ≡ None
law = (module_meant small tree is_well_formed is_tree).problem within_limits
