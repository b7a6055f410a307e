-- The tree of a module has no problem, and means the module.
use Rattle.std.proofs.Common.{◌≡◌, ◌+◌, ◌++◌, ℕ, false, List, [], ◌∷◌, Option, None, Some, map, refl, sym, ap, subst, ◌∙◌, append_assoc, append-nil}
use Rattle.std.specs.List.{AllZip, AllByRecursion}
use Rattle.std.specs.Option.{option_map_or}
use Rattle.std.proofs.lemmas.List.Elements.{recursion_from_All}
use Rattle.mc_num.specs.declared.op.Width.{Width}
use Rattle.ir_types.specs.Program.{Program}
use Rattle.ir_types.specs.Problems.{◌>>◌}
use Rattle.ir_types.specs.Definitions.{Defined}
use Rattle.ir_types.specs.Limits.{IsWithinLimits}
use Rattle.ir_types.specs.Literals.{literal_value}
use Rattle.ir_types.specs.ModuleOf.{width_of, function_of, global_of}
use Rattle.ir_types.specs.Order.{Item, Global as GlobalItem, Function as FunctionItem}
use Rattle.ir_types.specs.Rules.{Passed, at_top, after_item, after_items, symbols_of, context_in, no_context, nowhere, item_problem, items_problem}
use Rattle.ir_types.specs.Same.{plain_function}
use Rattle.ir_types.specs.TreeOf.{type_tree, literal_of, IsTreeFunction, IsTreeGlobal, IsTreeOf}
use Rattle.ir_types.specs.Uses.{item_problem as value_item_problem}
use Rattle.ir_types.specs.WellFormed.{IsFunctionIn, IsGlobal, IsWellFormed}
use Rattle.ir_types.specs.declared.name.Name.{Name}
use Rattle.ir_types.specs.declared.name.Name.TheVariants.{Text}
use Rattle.ir_types.specs.declared.rules.Meaning.{Meaning}
use Rattle.ir_types.specs.declared.rules.Meaning.TheVariants as meaning
use Rattle.ir_types.specs.declared.rules.Problem.{Problem}
use Rattle.ir_types.specs.declared.rules.Rule.TheVariants as rule
use Rattle.ir_types.specs.declared.span.At.{At}
use Rattle.ir_types.specs.declared.syntax.Function.{Function}
use Rattle.ir_types.specs.declared.syntax.Global.{Global}
use Rattle.ir_types.specs.declared.tree.Raw.{Raw}
use Rattle.ir_types.specs.declared.tree.RawFunction.{RawFunction}
use Rattle.ir_types.specs.declared.tree.RawGlobal.{RawGlobal}
use Rattle.ir_types.specs.declared.tree.RawValue.{RawValue}
use Rattle.module_trees.specs.Meant.{MeansModule}
use Rattle.module_trees.proofs.Functions.{IsMeantFunction, function_meant}
use Rattle.module_trees.proofs.Literals.{IsMeantLiteral, literal_meant}
use Rattle.module_trees.proofs.Problems.{then_none, unbroken}
use Rattle.module_trees.proofs.Ready.{IsReady, IsDefined, defined}
use Rattle.module_trees.proofs.Symbols.{global_names, function_names, of_globals, of_functions, symbols_ready, KnowsSymbols, knows_symbols}
use Rattle.module_trees.proofs.Uses.{Knows}

-- ---- globals

-- the tree of a global is passed
record IsPassedGlobal (p : Passed) (g : Global) (ns : List Name) (x : RawGlobal) : Type 0 where
  problem : (functions : List RawFunction) (symbols : Defined) → item_problem functions symbols p (GlobalItem x) ≡ None
  meanings : (after_item p (GlobalItem x)).before.meanings ≡ p.before.meanings ++ (Text g.name, meaning.Global p.globals g.width) ∷ []
  ready : IsReady (after_item p (GlobalItem x)).before ns
  means : global_of x ≡ g

global_here : (p : Passed) (g : Global) (ns : List Name) (name : At (List ℕ)) (value : At RawValue) → IsGlobal g → IsReady p.before (Text g.name ∷ ns) → name.item ≡ g.name
    → value.item ≡ literal_of g.width g.value → IsPassedGlobal p g ns (record { name = name; width = g.width; value = value })
global_here p g ns name value rules_of ready named e =
    let step : IsDefined p.before (Text g.name) ns (meaning.Global p.globals g.width) (record { item = Text name.item; span = name.span }) =
    defined p.before (Text g.name) ns (meaning.Global p.globals g.width) (record { item = Text name.item; span = name.span }) ready (ap Text named) in
    let literal : IsMeantLiteral no_context nowhere g.width g.value value.span = literal_meant no_context nowhere value.span g.width g.value rules_of.fits in
    record {
      problem = λ functions symbols. then_none _ _ step.problem (ap (value_item_problem no_context nowhere g.width false value.span) e ∙ literal.problem);
      meanings = step.meanings;
      ready = step.ready;
      means = λ i. record { name = named i; width = g.width; value = option_map_or (λ n. n) ((ap (literal_value g.width) e ∙ literal.counts) i) 0 };
    }

global_passed : (p : Passed) (g : Global) (ns : List Name) (x : RawGlobal) → IsGlobal g → IsReady p.before (Text g.name ∷ ns) → IsTreeGlobal g x → IsPassedGlobal p g ns x
global_passed p g ns x rules_of ready t =
    subst (λ (w : Width). IsPassedGlobal p g ns (record { name = x.name; width = w; value = x.value })) (sym t.width) (global_here p g ns x.name x.value rules_of ready t.named t.value)

-- the trees of globals are passed; `rest` comes behind them
record GlobalsPassed (p : Passed) (gs : List Global) (xs : List RawGlobal) (rest : List Item) (ns : List Name) : Type 0 where
  after : Passed
  reached : after_items p (map GlobalItem xs ++ rest) ≡ after_items after rest
  problem : (functions : List RawFunction) (symbols : Defined) → items_problem functions symbols p (map GlobalItem xs ++ rest) ≡ items_problem functions symbols after rest
  functions : after.functions ≡ p.functions
  meanings : after.before.meanings ≡ p.before.meanings ++ of_globals p.globals gs
  ready : IsReady after.before ns
  means : map global_of xs ≡ gs

globals_passed : (p : Passed) (gs : List Global) (xs : List RawGlobal) (rest : List Item) (ns : List Name) → AllByRecursion IsGlobal gs → AllZip IsTreeGlobal gs xs
    → IsReady p.before (global_names gs ++ ns) → GlobalsPassed p gs xs rest ns
unfolding after_items items_problem
globals_passed p [] (x ∷ xs) rest ns rules_of trees ready = elim trees [ ]
globals_passed p (g ∷ gs) [] rest ns rules_of trees ready = elim trees [ ]
globals_passed p [] [] rest ns rules_of trees ready = record {
  after = p;
  reached = refl;
  problem = λ functions symbols. refl;
  functions = refl;
  meanings = sym (append-nil p.before.meanings);
  ready = ready;
  means = refl;
}
globals_passed p (g ∷ gs) (x ∷ xs) rest ns rules_of trees ready =
    let step : IsPassedGlobal p g (global_names gs ++ ns) x = global_passed p g (global_names gs ++ ns) x rules_of.0 ready trees.0 in
    let next : Passed = after_item p (GlobalItem x) in
    let more : GlobalsPassed next gs xs rest ns = globals_passed next gs xs rest ns rules_of.1 trees.1 step.ready in
    record {
      after = more.after;
      reached = more.reached;
      problem = λ functions symbols.
          ap (λ (q : Option Problem). q >> items_problem functions symbols next (map GlobalItem xs ++ rest)) (step.problem functions symbols) ∙ more.problem functions symbols;
      functions = more.functions;
      meanings =
          more.meanings
          ∙ (ap (λ (ms : List (Name × Meaning)). ms ++ of_globals (p.globals + 1) gs) step.meanings
          ∙ append_assoc p.before.meanings ((Text g.name, meaning.Global p.globals g.width) ∷ []) (of_globals (p.globals + 1) gs));
      ready = more.ready;
      means = λ i. step.means i ∷ more.means i;
    }

-- ---- functions

width_back : (r : Option Width) → width_of (type_tree r) ≡ r
width_back None = refl
width_back (Some w) = refl

module _ (m : Program) where
  record IsPassedFunction (p : Passed) (f : Function) (ns : List Name) (x : RawFunction) : Type 0 where
    problem : (functions : List RawFunction) (symbols : Defined) → KnowsSymbols m functions symbols → IsWithinLimits f → item_problem functions symbols p (FunctionItem x) ≡ None
    meanings : (after_item p (FunctionItem x)).before.meanings ≡ p.before.meanings ++ (Text f.name, meaning.Function p.functions) ∷ []
    ready : IsReady (after_item p (FunctionItem x)).before ns
    means : (functions : List RawFunction) (symbols : Defined) → KnowsSymbols m functions symbols → function_of functions symbols x ≡ plain_function f

  known_here : (f : Function) (x : RawFunction) → IsTreeFunction m f x → IsMeantFunction m f x → (functions : List RawFunction) (symbols : Defined) → KnowsSymbols m functions symbols
      → Knows m f (context_in functions symbols x)
  known_here f x t meant functions symbols known = record { locals = meant.locals; global = known.global; function = known.function; tree = known.tree; ret = t.gives }

  function_passed : (p : Passed) (f : Function) (ns : List Name) (x : RawFunction) → IsFunctionIn m f → IsReady p.before (Text f.name ∷ ns) → IsTreeFunction m f x → IsPassedFunction p f ns x
  function_passed p f ns x rules_of ready t =
      let step : IsDefined p.before (Text f.name) ns (meaning.Function p.functions) (record { item = Text x.name.item; span = x.name.span }) =
      defined p.before (Text f.name) ns (meaning.Function p.functions) (record { item = Text x.name.item; span = x.name.span }) ready (ap Text t.named) in
      let meant : IsMeantFunction m f x = function_meant m f rules_of x t in
      record {
        problem = λ functions symbols known few.
            then_none _ _ step.problem
            (then_none _ _ (unbroken rule.UnknownExternal x.name.span _ meant.external)
            (then_none _ _ (unbroken rule.Limit x.name.span _ (meant.limits few))
            (meant.problem (context_in functions symbols x) (known_here f x t meant functions symbols known))));
        meanings = step.meanings;
        ready = step.ready;
        means = λ functions symbols known. λ i. record {
          name = t.named i;
          ret = (ap width_of t.gives ∙ width_back f.ret) i;
          params = meant.params i;
          vars = meant.vars i;
          blocks = meant.blocks (context_in functions symbols x) (known_here f x t meant functions symbols known) i;
        };
      }

  record FunctionsPassed (p : Passed) (fs : List Function) (xs : List RawFunction) : Type 0 where
    problem : (functions : List RawFunction) (symbols : Defined) → KnowsSymbols m functions symbols → AllByRecursion IsWithinLimits fs
        → items_problem functions symbols p (map FunctionItem xs) ≡ None
    meanings : (after_items p (map FunctionItem xs)).before.meanings ≡ p.before.meanings ++ of_functions p.functions fs
    ready : IsReady (after_items p (map FunctionItem xs)).before []
    means : (functions : List RawFunction) (symbols : Defined) → KnowsSymbols m functions symbols → map (function_of functions symbols) xs ≡ map plain_function fs

  functions_passed : (p : Passed) (fs : List Function) (xs : List RawFunction) → AllByRecursion (IsFunctionIn m) fs → AllZip (IsTreeFunction m) fs xs
      → IsReady p.before (function_names fs) → FunctionsPassed p fs xs
  unfolding after_items items_problem
  functions_passed p [] (x ∷ xs) rules_of trees ready = elim trees [ ]
  functions_passed p (f ∷ fs) [] rules_of trees ready = elim trees [ ]
  functions_passed p [] [] rules_of trees ready = record {
    problem = λ functions symbols known few. refl;
    meanings = sym (append-nil p.before.meanings);
    ready = ready;
    means = λ functions symbols known. refl;
  }
  functions_passed p (f ∷ fs) (x ∷ xs) rules_of trees ready =
      let step : IsPassedFunction p f (function_names fs) x = function_passed p f (function_names fs) x rules_of.0 ready trees.0 in
      let next : Passed = after_item p (FunctionItem x) in
      let more : FunctionsPassed next fs xs = functions_passed next fs xs rules_of.1 trees.1 step.ready in
      record {
        problem = λ functions symbols known few. then_none _ _ (step.problem functions symbols known few.0) (more.problem functions symbols known few.1);
        meanings =
            more.meanings
            ∙ (ap (λ (ms : List (Name × Meaning)). ms ++ of_functions (p.functions + 1) fs) step.meanings
            ∙ append_assoc p.before.meanings ((Text f.name, meaning.Function p.functions) ∷ []) (of_functions (p.functions + 1) fs));
        ready = more.ready;
        means = λ functions symbols known. λ i. step.means functions symbols known i ∷ more.means functions symbols known i;
      }

-- ---- the module

pub module_meant : (m : Program) (raw : Raw) → IsWellFormed m → IsTreeOf m raw → MeansModule m raw
unfolding after_items items_problem
module_meant m raw rules_of tree =
    let rest : List Item = map FunctionItem raw.functions in
    let one : GlobalsPassed at_top m.globals raw.globals rest (function_names m.functions) =
    globals_passed at_top m.globals raw.globals rest (function_names m.functions) (recursion_from_All IsGlobal m.globals rules_of.globals) tree.globals (symbols_ready m rules_of) in
    let two : FunctionsPassed m one.after m.functions raw.functions =
    functions_passed m one.after m.functions raw.functions (recursion_from_All (IsFunctionIn m) m.functions rules_of.functions) tree.functions one.ready in
    let symbols : Defined = symbols_of raw in
    let symbols_are : (after_items one.after rest).before ≡ symbols = sym (ap (λ xs. (after_items at_top xs).before) tree.ordered ∙ ap (λ (p : Passed). p.before) one.reached) in
    let meanings : (after_items one.after rest).before.meanings ≡ of_globals 0 m.globals ++ of_functions 0 m.functions =
    two.meanings ∙ (λ i. one.meanings i ++ of_functions (one.functions i) m.functions) in
    let known : KnowsSymbols m raw.functions symbols =
    subst (KnowsSymbols m raw.functions) symbols_are (knows_symbols m raw.functions (after_items one.after rest).before two.ready meanings tree.functions) in
    record {
      problem = λ few.
          ap (items_problem raw.functions symbols at_top) tree.ordered
          ∙ (one.problem raw.functions symbols ∙ two.problem raw.functions symbols known (recursion_from_All IsWithinLimits m.functions few));
      means = λ i. record { globals = one.means i; functions = two.means raw.functions symbols known i };
    }
