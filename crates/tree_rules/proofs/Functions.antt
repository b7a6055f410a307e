-- A function of a tree without a problem means one that keeps the rules.
use Rattle.std.proofs.Common.{inl, inr, ◌≡◌, ◌&&◌, ◌||◌, not, ℕ, Bool, true, false, List, [], ◌∷◌, Some, length, map, refl, sym, ap, ◌∙◌, rules, arith}
use Rattle.std.specs.Prelude.{◌⊎◌, codes, if◌then◌else◌}
use Rattle.std.specs.Str.{bytes_eq}
use Rattle.std.proofs.lemmas.List.Elements.{All-nil, All-cons}
use Rattle.mc_num.specs.declared.op.Width.{Width}
use Rattle.mc_num.specs.declared.op.Width.TheVariants.{I32}
use Rattle.ir_types.specs.declared.name.Name.TheVariants.{Number}
use Rattle.ir_types.specs.declared.syntax.Function.{Function}
use Rattle.ir_types.specs.declared.tree.RawParam.{RawParam}
use Rattle.ir_types.specs.declared.tree.RawFunction.{RawFunction}
use Rattle.ir_types.specs.declared.tree.RawGlobal.{RawGlobal}
use Rattle.ir_types.specs.declared.tree.Raw.{Raw}
use Rattle.ir_types.specs.declared.tree.Ty.{Ty}
use Rattle.ir_types.specs.declared.tree.Ty.TheVariants.{Int}
use Rattle.ir_types.specs.Definitions.{Defined, nothing}
use Rattle.ir_types.specs.Limits.{IsWithinLimits}
use Rattle.ir_types.specs.ModuleOf.{blocks_from, params_from, numbered_from, width_of, function_of, global_of, module_of}
use Rattle.ir_types.specs.Names.{IsSpellable}
use Rattle.ir_types.specs.Program.{Program}
use Rattle.ir_types.specs.Rules.{at_body, is_nil, takes_i32, is_known_external, symbols_of, context_in}
use Rattle.ir_types.specs.Uses.{same_width, same_type}
use Rattle.ir_types.specs.WellFormed.{scope, signature, widths, getchar, putchar, IsBlockIn, IsFunctionIn}
use Rattle.tree_rules.proofs.Known.{shape_of, param_widths}
use Rattle.tree_rules.proofs.Uses.{one_type, one_width, raw_signature, scope_with}
use Rattle.tree_rules.proofs.Cases.{length_same}
use Rattle.tree_rules.proofs.Counts.{blocks_count, variables_widths, params_widths, numbered_widths}
use Rattle.tree_rules.proofs.Symbols.{global_widths}

-- ---- tests as facts

both_true : (a b : Bool) → (a && b) ≡ true → (a ≡ true) × (b ≡ true)
both_true true b h = (refl, h)
both_true false b h = cc

one_true : (a b : Bool) → (a || b) ≡ true → (a ≡ true) ⊎ (b ≡ true)
one_true true b h = inl refl
one_true false b h = inr h

pub not_false : (b : Bool) → not b ≡ false → b ≡ true
not_false true h = refl
not_false false h = cc

not_true : (b : Bool) → b ≡ true → not b ≡ false
not_true b e = rw e refl

is_text : (a b : List ℕ) → bytes_eq a b ≡ true → a ≡ b
is_text a b h = search rules

no_params : (ps : List RawParam) → is_nil ps ≡ true → ps ≡ []
no_params [] h = refl
no_params (p ∷ ps) h = cc

-- ---- declarations

getchar_in : (m : Program) → IsFunctionIn m getchar
getchar_in m = record {
  named = record { some = omega arith; quotable = refl };
  spellable = All-nil IsSpellable;
  names_differ = λ i j d l k. absurd (omega arith);
  numbers_count = tt;
  blocks = All-nil (IsBlockIn (scope m getchar));
  declared = λ none. inl refl;
  few_params = omega arith;
  few = omega arith;
}

putchar_in : (m : Program) → IsFunctionIn m putchar
putchar_in m = record {
  named = record { some = omega arith; quotable = refl };
  spellable = All-cons IsSpellable (Number 0) [] (omega arith) (All-nil IsSpellable);
  names_differ = λ i j d l k. absurd (omega arith);
  numbers_count = (refl, tt);
  blocks = All-nil (IsBlockIn (scope m putchar));
  declared = λ none. inr refl;
  few_params = omega arith;
  few = omega arith;
}

-- a function without blocks, as it is meant
abbrev pub declared_function : List ℕ → Ty → List RawParam → Function
declared_function name ret params = record { name = name; ret = width_of ret; params = numbered_from 0 params; vars = []; blocks = [] }

one_i32 : (ps : List RawParam) → takes_i32 ps ≡ true → numbered_from 0 ps ≡ (I32, Number 0) ∷ []
unfolding numbered_from
one_i32 [] h = cc
one_i32 (p ∷ []) h = let e : p.width ≡ I32 = one_width p.width I32 (not_true (same_width p.width I32) (both_true (same_width p.width I32) true h).0) in λ i. (e i, Number 0) ∷ []
one_i32 (p ∷ q ∷ ps) h = let wrong : false ≡ true = (both_true (same_width p.width I32) false h).1 in cc

none_numbered : (ps : List RawParam) → is_nil ps ≡ true → numbered_from 0 ps ≡ []
unfolding numbered_from
none_numbered [] h = refl
none_numbered (p ∷ ps) h = cc

declared_known : (f : RawFunction) → is_known_external f ≡ true → (declared_function f.name.item f.ret f.params ≡ getchar) ⊎ (declared_function f.name.item f.ret f.params ≡ putchar)
declared_known f h = by (one_true (bytes_eq f.name.item (codes "getchar") && is_nil f.params) (bytes_eq f.name.item (codes "putchar") && takes_i32 f.params) parts.1)
  where
    parts : (same_type f.ret (Int I32) ≡ true) × (((bytes_eq f.name.item (codes "getchar") && is_nil f.params) || (bytes_eq f.name.item (codes "putchar") && takes_i32 f.params)) ≡ true)
    parts = both_true (same_type f.ret (Int I32)) ((bytes_eq f.name.item (codes "getchar") && is_nil f.params) || (bytes_eq f.name.item (codes "putchar") && takes_i32 f.params)) h

    ret : width_of f.ret ≡ Some I32
    ret = ap width_of (one_type f.ret (Int I32) (not_true (same_type f.ret (Int I32)) parts.0))

    by : ((bytes_eq f.name.item (codes "getchar") && is_nil f.params) ≡ true) ⊎ ((bytes_eq f.name.item (codes "putchar") && takes_i32 f.params) ≡ true)
        → (declared_function f.name.item f.ret f.params ≡ getchar) ⊎ (declared_function f.name.item f.ret f.params ≡ putchar)
    by (inl e) =
        let both = both_true (bytes_eq f.name.item (codes "getchar")) (is_nil f.params) e in
        let name : f.name.item ≡ codes "getchar" = is_text f.name.item (codes "getchar") both.0 in
        let params : numbered_from 0 f.params ≡ [] = none_numbered f.params both.1 in
        inl (λ i. record { name = name i; ret = ret i; params = params i; vars = []; blocks = [] })
    by (inr e) =
        let both = both_true (bytes_eq f.name.item (codes "putchar")) (takes_i32 f.params) e in
        let name : f.name.item ≡ codes "putchar" = is_text f.name.item (codes "putchar") both.0 in
        let params : numbered_from 0 f.params ≡ (I32, Number 0) ∷ [] = one_i32 f.params both.1 in
        inr (λ i. record { name = name i; ret = ret i; params = params i; vars = []; blocks = [] })

function_as : (m : Program) (f g : Function) → f ≡ g → IsFunctionIn m g → IsFunctionIn m f
function_as m f g e h = rw e h

pub declared_in : (m : Program) (f : RawFunction) → is_known_external f ≡ true → IsFunctionIn m (declared_function f.name.item f.ret f.params)
declared_in m f h = by (declared_known f h)
  where
    by : (declared_function f.name.item f.ret f.params ≡ getchar) ⊎ (declared_function f.name.item f.ret f.params ≡ putchar) → IsFunctionIn m (declared_function f.name.item f.ret f.params)
    by (inl e) = function_as m (declared_function f.name.item f.ret f.params) getchar e (getchar_in m)
    by (inr e) = function_as m (declared_function f.name.item f.ret f.params) putchar e (putchar_in m)

pub declared_within : (name : List ℕ) (ret : Ty) (params : List RawParam) → IsWithinLimits (declared_function name ret params)
declared_within name ret params = record { instrs = omega arith; blocks = omega arith; slots = omega arith; vars = omega arith }

-- ---- what callers see

choice_widths : (b : Bool) (ps : List RawParam) → widths (if b then numbered_from 0 ps else params_from 0 nothing ps) ≡ param_widths ps
choice_widths true ps = numbered_widths 0 ps
choice_widths false ps = params_widths 0 nothing ps

pub signature_same : (functions : List RawFunction) (symbols : Defined) (f : RawFunction) → signature (function_of functions symbols f) ≡ raw_signature f
signature_same functions symbols f = ap (λ (l : List Width). record { ret = width_of f.ret; params = l }) (choice_widths (is_nil f.blocks) f.params)

signatures_same : (functions : List RawFunction) (symbols : Defined) (fs : List RawFunction) → map signature (map (function_of functions symbols) fs) ≡ map raw_signature fs
signatures_same functions symbols [] = refl
signatures_same functions symbols (f ∷ fs) = λ i. signature_same functions symbols f i ∷ signatures_same functions symbols fs i

globals_same : (gs : List RawGlobal) → map (λ g. g.width) (map global_of gs) ≡ global_widths gs
globals_same [] = refl
globals_same (g ∷ gs) = ap (λ (l : List Width). g.width ∷ l) (globals_same gs)

pub scope_same : (raw : Raw) (f : RawFunction) → scope (module_of raw) (function_of raw.functions (symbols_of raw) f) ≡ scope_with (context_in raw.functions (symbols_of raw) f) (global_widths raw.globals) (shape_of f)
scope_same raw f =
    let gs = globals_same raw.globals in
    let fs = signatures_same raw.functions (symbols_of raw) raw.functions in
    let own = signature_same raw.functions (symbols_of raw) f in
    let vs = variables_widths (at_body f) f.blocks in
    let bs : length (blocks_from (context_in raw.functions (symbols_of raw) f) (at_body f) f.blocks) ≡ length (shape_of f).blocks =
    blocks_count (context_in raw.functions (symbols_of raw) f) (at_body f) f.blocks ∙ sym (length_same _ f.blocks) in
    λ i. record { globals = gs i; functions = fs i; own = own i; vars = vs i; blocks = bs i }
