-- A tree without a problem means a module that keeps the rules.
use Rattle.std.proofs.Common.{◌≡◌, ◌≤◌, ◌+◌, ◌++◌, not, ℕ, false, List, [], ◌∷◌, Option, None, Some, length, map, refl, sym, ap, ◌∙◌, arith}
use Rattle.std.specs.Prelude.{◌≢◌, All, AllPairs, sum_by}
use Rattle.std.proofs.lemmas.List.Elements.{All-same, All-head, All-tail, All-weaker, All-map}
use Rattle.std.proofs.lemmas.List.Sums.{get_or-le-sum_by}
use Rattle.mc_num.specs.declared.op.Width.{Width}
use Rattle.ir_types.specs.declared.span.At.{At}
use Rattle.ir_types.specs.declared.name.Name.{Name}
use Rattle.ir_types.specs.declared.name.Name.TheVariants.{Text}
use Rattle.ir_types.specs.declared.rules.Meaning.{Meaning}
use Rattle.ir_types.specs.declared.rules.Meaning.TheVariants as meaning
use Rattle.ir_types.specs.declared.syntax.Function.{Function}
use Rattle.ir_types.specs.declared.syntax.Global.{Global}
use Rattle.ir_types.specs.declared.tree.RawBlock.{RawBlock}
use Rattle.ir_types.specs.declared.tree.RawParam.{RawParam}
use Rattle.ir_types.specs.declared.tree.RawFunction.{RawFunction}
use Rattle.ir_types.specs.declared.tree.RawGlobal.{RawGlobal}
use Rattle.ir_types.specs.declared.tree.Raw.{Raw}
use Rattle.ir_types.specs.declared.tree.Ty.{Ty}
use Rattle.ir_types.specs.Definitions.{Defined, nothing, meaning_of}
use Rattle.ir_types.specs.Limits.{is_above_limits, IsWithinLimits}
use Rattle.ir_types.specs.ModuleOf.{variables_from, blocks_from, params_from, function_of, global_of, module_of}
use Rattle.ir_types.specs.Names.{IsSpellable, spelled}
use Rattle.ir_types.specs.Order.{merged}
use Rattle.ir_types.specs.Program.{Program}
use Rattle.ir_types.specs.Rules.{at_body, after_params, locals_of, is_known_external, at_top, symbols_of, context_in, no_context, nowhere, body_problem, tree_problem}
use Rattle.ir_types.specs.Size.{function_items, items}
use Rattle.ir_types.specs.Uses.{Context}
use Rattle.ir_types.specs.WellFormed.{Scope, scope, names, body_names, IsBlockIn, IsFunctionIn, IsGlobal}
use Rattle.ir_types.specs.Written.{IsDefinable, IsSpelledBlock, IsSpelledFunction, IsSpelledGlobal, IsSpelledTree}
use Rattle.tree_rules.specs.Admitted.{IsAdmitted}
use Rattle.tree_rules.proofs.Distinct.{both_none}
use Rattle.tree_rules.proofs.Names.{key, IsPlain, plain_spellable, plain_spelled, counts_from, nothing_named, Grown, then_grown}
use Rattle.tree_rules.proofs.Bodies.{label, names_in, params_grown, body_grown}
use Rattle.tree_rules.proofs.Known.{shape_of, AllKnown, stands_first, locals_known}
use Rattle.tree_rules.proofs.Uses.{scope_with, KnowsSymbol, IsKnown, literal_counted}
use Rattle.tree_rules.proofs.Blocks.{blocks_fit}
use Rattle.tree_rules.proofs.Cases.{length_same}
use Rattle.tree_rules.proofs.Counts.{instrs_count, blocks_count, slots_count, variables_count, params_widths, HasFew, within_limits, few_slots, few_names}
use Rattle.tree_rules.proofs.Functions.{declared_function, declared_in, declared_within, not_false, scope_same}
use Rattle.tree_rules.proofs.Symbols.{EachFrom, each_append, each_map, each_weaker, each_all, numbered_differ, merged_apart, IsGlobalAt, IsFunctionAt, each_fine, global_widths, symbols_known}

-- ---- names

map_spelled : (ns : List Name) → All IsPlain ns → map spelled ns ≡ ns
map_spelled [] h = refl
map_spelled (n ∷ ns) h = λ i. plain_spelled n (All-head IsPlain n ns h) i ∷ map_spelled ns (All-tail IsPlain n ns h) i

pairs_same : (xs ys : List Name) → xs ≡ ys → AllPairs (λ a b. a ≢ b) ys → AllPairs (λ a b. a ≢ b) xs
pairs_same xs ys e h = rw e h

-- the names of the whole function, from its parameters on
body_named : (c : Context) (f : RawFunction) → function_items f ≤ 67108864 → All (λ p. IsDefinable p.name) f.params → All IsSpelledBlock f.blocks → body_problem c f ≡ None
    → Grown nothing (locals_of f) (map label (params_from 0 nothing f.params) ++ body_names (map label (variables_from (at_body f) f.blocks)) (blocks_from c (at_body f) f.blocks)) (length f.params + names_in f.blocks)
body_named c f few params blocks h =
    let parts = both_none _ _ h in
    let first : Grown nothing (after_params 0 nothing f.params) (map label (params_from 0 nothing f.params)) (length f.params) = params_grown 0 nothing f.params (omega arith) nothing_named params parts.0 in
    let rest = body_grown c (at_body f) f.blocks (omega (arith, first.next, few_names f.blocks)) first.names blocks parts.1 in
    then_grown nothing (after_params 0 nothing f.params) (locals_of f) _ _ (length f.params) (names_in f.blocks) first rest

-- ---- functions

-- the function of a module keeps the rules and the limits
record Keeps (m : Program) (f : Function) : Type 0 where
  rules : IsFunctionIn m f
  limits : IsWithinLimits f

blocks_as : (s t : Scope) (f : Function) → s ≡ t → All (IsBlockIn t) f.blocks → All (IsBlockIn s) f.blocks
blocks_as s t f e h = rw e h

module _ (raw : Raw) (known : AllKnown (KnowsSymbol (global_widths raw.globals)) (symbols_of raw)) where
  body_keeps : (name : At (List ℕ)) (ret : Ty) (params : List RawParam) (b : RawBlock) (bs : List RawBlock) → IsSpelledFunction (record { name = name; ret = ret; params = params; blocks = b ∷ bs })
      → function_items (record { name = name; ret = ret; params = params; blocks = b ∷ bs }) ≤ 67108864
      → is_above_limits (record { name = name; ret = ret; params = params; blocks = b ∷ bs }) ≡ false
      → body_problem (context_in raw.functions (symbols_of raw) (record { name = name; ret = ret; params = params; blocks = b ∷ bs })) (record { name = name; ret = ret; params = params; blocks = b ∷ bs }) ≡ None
      → Keeps (module_of raw) (function_of raw.functions (symbols_of raw) (record { name = name; ret = ret; params = params; blocks = b ∷ bs }))
  unfolding blocks_from
  body_keeps name ret params b bs written few within h =
      let f : RawFunction = record { name = name; ret = ret; params = params; blocks = b ∷ bs } in
      let c : Context = context_in raw.functions (symbols_of raw) f in
      let g : Function = function_of raw.functions (symbols_of raw) f in
      let limits : HasFew f = within_limits f within in
      let named = body_named c f few written.params written.blocks h in
      let keys : names g ≡ map key (locals_of f).meanings = sym named.keys in
      let here : IsKnown c (global_widths raw.globals) (shape_of f) = record { locals = locals_known c f written.blocks (both_none _ _ h).1; symbols = known } in
      let vars = variables_count (at_body f) f.blocks in
      let instrs = instrs_count c (at_body f) f.blocks in
      let blocks = blocks_count c (at_body f) f.blocks in
      let count : length g.params ≡ length params = sym (length_same (λ (x : Width × Name). x.0) g.params) ∙ (ap (λ (l : List Width). length l) (params_widths 0 nothing params) ∙ length_same (λ (p : RawParam). p.width) params) in
      record {
        rules = record {
          named = written.named;
          spellable = All-same IsSpellable (names g) (map key (locals_of f).meanings) keys (All-weaker IsPlain IsSpellable plain_spellable (map key (locals_of f).meanings) named.names.plain);
          names_differ = pairs_same (map spelled (names g)) (map key (locals_of f).meanings) (ap (map spelled) keys ∙ map_spelled (map key (locals_of f).meanings) named.names.plain) named.names.sound.differ;
          numbers_count = rw keys (counts_from 0 (locals_of f).next (map key (locals_of f).meanings) named.names.counts);
          blocks = blocks_as (scope (module_of raw) g) (scope_with c (global_widths raw.globals) (shape_of f)) g (scope_same raw f)
              (blocks_fit c (global_widths raw.globals) (shape_of f) here (at_body f) f.blocks (stands_first f) written.blocks (few_slots f.blocks limits.slots) (both_none _ _ h).1);
          declared = λ none. cc;
          few_params = omega (arith, count, few);
          few = omega (arith, count, few, vars, instrs, blocks, limits.vars, limits.instrs, limits.blocks);
        };
        limits = record {
          instrs = omega (arith, instrs, limits.instrs);
          blocks = omega (arith, blocks, limits.blocks);
          slots = omega (arith, slots_count c (at_body f) f.blocks, limits.slots);
          vars = omega (arith, vars, limits.vars);
        };
      }

  declared_keeps : (name : At (List ℕ)) (ret : Ty) (params : List RawParam) → not (is_known_external (record { name = name; ret = ret; params = params; blocks = [] })) ≡ false
      → Keeps (module_of raw) (function_of raw.functions (symbols_of raw) (record { name = name; ret = ret; params = params; blocks = [] }))
  unfolding blocks_from variables_from
  declared_keeps name ret params h =
      let f : RawFunction = record { name = name; ret = ret; params = params; blocks = [] } in
      let rules : IsFunctionIn (module_of raw) (declared_function name.item ret params) = declared_in (module_of raw) f (not_false (is_known_external f) h) in
      record { rules = rules; limits = declared_within name.item ret params }

  function_keeps : (name : At (List ℕ)) (ret : Ty) (params : List RawParam) (blocks : List RawBlock) (final : Defined) (n : ℕ) → IsSpelledFunction (record { name = name; ret = ret; params = params; blocks = blocks })
      → function_items (record { name = name; ret = ret; params = params; blocks = blocks }) ≤ 67108864
      → IsFunctionAt raw.functions (symbols_of raw) final n (record { name = name; ret = ret; params = params; blocks = blocks })
      → Keeps (module_of raw) (function_of raw.functions (symbols_of raw) (record { name = name; ret = ret; params = params; blocks = blocks }))
  function_keeps name ret params [] final n written few at = declared_keeps name ret params at.external
  function_keeps name ret params (b ∷ bs) final n written few at = body_keeps name ret params b bs written few at.within at.body

  functions_keep : (final : Defined) (fs : List RawFunction) → All IsSpelledFunction fs → sum_by function_items fs ≤ 67108864 → EachFrom (IsFunctionAt raw.functions (symbols_of raw) final) 0 fs
      → All (Keeps (module_of raw)) (map (function_of raw.functions (symbols_of raw)) fs)
  functions_keep final fs written few at =
      All-map (Keeps (module_of raw)) (function_of raw.functions (symbols_of raw)) fs
      (each_all (IsFunctionAt raw.functions (symbols_of raw) final) (λ (f : RawFunction). IsSpelledFunction f × (function_items f ≤ 67108864)) (λ (f : RawFunction). Keeps (module_of raw) (function_of raw.functions (symbols_of raw) f)) 0 fs
      (λ k f a p. function_keeps f.name f.ret f.params f.blocks final k a.0 a.1 p)
      (λ k d l. (written k d l, omega (arith, get_or-le-sum_by function_items fs k d l, few)))
      at)

-- ---- globals and symbols

global_keeps : (g : RawGlobal) → IsSpelledGlobal g → (final : Defined) (n : ℕ) → IsGlobalAt final n g → IsGlobal (global_of g)
global_keeps g written final n at = record { named = written.named; fits = (literal_counted no_context nowhere g.width false g.value.span g.value.item written.value at.value).small }

globals_keep : (final : Defined) (gs : List RawGlobal) → All IsSpelledGlobal gs → EachFrom (IsGlobalAt final) 0 gs → All IsGlobal (map global_of gs)
globals_keep final gs written at =
    All-map IsGlobal global_of gs (each_all (IsGlobalAt final) IsSpelledGlobal (λ (g : RawGlobal). IsGlobal (global_of g)) 0 gs (λ k g a p. global_keeps g a final k p) written at)

-- the number of what a name means, where the functions are numbered behind so many globals
abbrev number_in : ℕ → Option Meaning → ℕ
number_in globals (Some (meaning.Global g _)) = g
number_in globals (Some (meaning.Function f)) = globals + f
number_in globals _ = 0

abbrev number_of : Defined → ℕ → List ℕ → ℕ
number_of final globals name = number_in globals (meaning_of final (Text name))

symbols_differ : (final : Defined) (gs : List RawGlobal) (fs : List RawFunction) (functions : List RawFunction) (symbols : Defined) → EachFrom (IsGlobalAt final) 0 gs → EachFrom (IsFunctionAt functions symbols final) 0 fs
    → AllPairs (λ a b. a ≢ b) (map (λ g. g.name) (map global_of gs) ++ map (λ f. f.name) (map (function_of functions symbols) fs))
symbols_differ final gs fs functions symbols one other =
    let size : length (map (λ (g : Global). g.name) (map global_of gs)) ≡ length gs = length_same (λ (g : Global). g.name) (map global_of gs) ∙ length_same global_of gs in
    numbered_differ (number_of final (length gs)) (map (λ (g : Global). g.name) (map global_of gs) ++ map (λ (f : Function). f.name) (map (function_of functions symbols) fs))
    (each_append (λ n name. number_of final (length gs) name ≡ n) 0 (length gs) (map (λ (g : Global). g.name) (map global_of gs)) (map (λ (f : Function). f.name) (map (function_of functions symbols) fs))
    (each_map (λ n name. number_of final (length gs) name ≡ n) (λ (g : Global). g.name) 0 (map global_of gs)
    (each_map (λ n (g : Global). number_of final (length gs) g.name ≡ n) global_of 0 gs
    (each_weaker (IsGlobalAt final) (λ n g. number_of final (length gs) g.name.item ≡ n) 0 0 0 gs (λ k g p. ap (number_in (length gs)) p.meant ∙ omega arith) (omega arith) one)))
    (omega (arith, size))
    (each_map (λ n name. number_of final (length gs) name ≡ n) (λ (f : Function). f.name) (length gs) (map (function_of functions symbols) fs)
    (each_map (λ n (f : Function). number_of final (length gs) f.name ≡ n) (function_of functions symbols) (length gs) fs
    (each_weaker (IsFunctionAt functions symbols final) (λ n f. number_of final (length gs) f.name.item ≡ n) (length gs) 0 (length gs) fs (λ k f p. ap (number_in (length gs)) p.meant) (omega arith) other))))

-- ---- the tree

pub tree_admitted : (raw : Raw) → IsSpelledTree raw → items raw ≤ 67108864 → tree_problem raw ≡ None → IsAdmitted raw
tree_admitted raw written few h =
    let apart = merged_apart (IsGlobalAt (symbols_of raw)) (IsFunctionAt raw.functions (symbols_of raw) (symbols_of raw)) raw.globals 0 0 raw.functions (each_fine raw.functions (symbols_of raw) at_top (merged raw.globals raw.functions) h) in
    let keep = functions_keep raw (symbols_known raw.globals raw.functions) (symbols_of raw) raw.functions written.functions (omega (arith, few)) apart.1 in
    record {
      well_formed = record {
        symbols_differ = symbols_differ (symbols_of raw) raw.globals raw.functions raw.functions (symbols_of raw) apart.0 apart.1;
        globals = globals_keep (symbols_of raw) raw.globals written.globals apart.0;
        functions = All-weaker (Keeps (module_of raw)) (IsFunctionIn (module_of raw)) (λ f k. k.rules) (module_of raw).functions keep;
        few_globals = omega (arith, few, length_same global_of raw.globals);
        few_functions = omega (arith, few, length_same (function_of raw.functions (symbols_of raw)) raw.functions);
      };
      limits = All-weaker (Keeps (module_of raw)) IsWithinLimits (λ f k. k.limits) (module_of raw).functions keep;
    }
