-- What the names of a module's globals and functions mean.
use Rattle.std.proofs.Common.{◌≡◌, ◌≢◌, ◌<◌, ◌++◌, ℕ, suc, Bool, true, false, List, [], ◌∷◌, Some, length, map, slice_get, slice_index_or, refl, sym, ap, subst, append-nil, arith}
use Rattle.std.specs.Prelude.{AllPairs}
use Rattle.std.specs.List.{AllZip, AllByRecursion, IsDistinct}
use Rattle.std.specs.Map.{keys_of}
use Rattle.std.proofs.lemmas.List.Elements.{recursion_from_All}
use Rattle.ir_types.specs.Program.{Program}
use Rattle.ir_types.specs.Definitions.{Defined, same_name, nothing, meaning_of}
use Rattle.ir_types.specs.Names.{spelled, IsSpellable}
use Rattle.ir_types.specs.TreeOf.{IsTreeFunction}
use Rattle.ir_types.specs.WellFormed.{CountFrom, IsWellFormed, IsFunctionIn, IsGlobal, symbols}
use Rattle.ir_types.specs.declared.name.Name.{Name}
use Rattle.ir_types.specs.declared.name.Name.TheVariants.{Text, Number, Made}
use Rattle.ir_types.specs.declared.rules.Meaning.{Meaning}
use Rattle.ir_types.specs.declared.rules.Meaning.TheVariants as meaning
use Rattle.ir_types.specs.declared.syntax.Function.{Function}
use Rattle.ir_types.specs.declared.syntax.Global.{Global}
use Rattle.ir_types.specs.declared.tree.RawFunction.{RawFunction}
use Rattle.module_trees.proofs.Lists.{Beside, beside}
use Rattle.module_trees.proofs.Names.{same}
use Rattle.module_trees.proofs.Ready.{IsReady}
use Rattle.module_trees.proofs.Table.{IsPlaced, listed, item_placed, behind_all, before_all, found}

abbrev pub global_names : List Global → List Name
global_names gs = map (λ g. Text g.name) gs

abbrev pub function_names : List Function → List Name
function_names fs = map (λ f. Text f.name) fs

abbrev pub of_globals : ℕ → List Global → List (Name × Meaning)
of_globals i gs = listed (λ g. Text g.name) (λ k g. meaning.Global k g.width) i gs

abbrev pub of_functions : ℕ → List Function → List (Name × Meaning)
of_functions i fs = listed (λ f. Text f.name) (λ k f. meaning.Function k) i fs

-- ---- names that differ

bytes_of : Name → List ℕ
bytes_of (Text bytes) = bytes
bytes_of (Number n) = []
bytes_of (Made j x) = []

apart : (a b : List ℕ) → a ≢ b → (t : Bool) → same_name (Text a) (Text b) ≡ t → t ≡ false
unfolding bytes_of
apart a b h true e = absurd (h (ap bytes_of (same (Text a) (Text b) e)))
apart a b h false e = refl

head_apart : (a : List ℕ) (bs : List (List ℕ)) → ((j : ℕ) (d : List ℕ) → j < length bs → a ≢ slice_index_or bs j d) → AllByRecursion (λ y. same_name (Text a) y ≡ false) (map spelled (map Text bs))
head_apart a [] h = tt
head_apart a (b ∷ bs) h = (apart a b (h 0 b (omega arith)) (same_name (Text a) (Text b)) refl, head_apart a bs (λ j d less. h (suc j) d (omega (arith, less))))

texts_differ : (bs : List (List ℕ)) → AllPairs (λ a b. a ≢ b) bs → IsDistinct same_name (map spelled (map Text bs))
unfolding IsDistinct
texts_differ [] h = tt
texts_differ (b ∷ bs) h = (
  head_apart b bs (λ j d less. h 0 (suc j) d (omega arith) (omega (arith, less))),
  texts_differ bs (λ i j d before less. h (suc i) (suc j) d (omega (arith, before)) (omega (arith, less))),
)

texts_count : (n : ℕ) (bs : List (List ℕ)) → CountFrom n (map Text bs)
texts_count n [] = tt
texts_count n (b ∷ bs) = texts_count n bs

texts_of_functions : (fs : List Function) → map Text (map (λ f. f.name) fs) ≡ function_names fs
texts_of_functions [] = refl
texts_of_functions (f ∷ fs) = ap (λ ns. Text f.name ∷ ns) (texts_of_functions fs)

texts_are : (gs : List Global) (fs : List Function) → map Text (map (λ g. g.name) gs ++ map (λ f. f.name) fs) ≡ global_names gs ++ function_names fs
texts_are [] fs = texts_of_functions fs
texts_are (g ∷ gs) fs = ap (λ ns. Text g.name ∷ ns) (texts_are gs fs)

functions_spellable : (m : Program) (fs : List Function) → AllByRecursion (IsFunctionIn m) fs → AllByRecursion IsSpellable (function_names fs)
functions_spellable m [] h = tt
functions_spellable m (f ∷ fs) h = (h.0.named, functions_spellable m fs h.1)

all_spellable : (m : Program) (gs : List Global) (fs : List Function) → AllByRecursion IsGlobal gs → AllByRecursion (IsFunctionIn m) fs → AllByRecursion IsSpellable (global_names gs ++ function_names fs)
all_spellable m [] fs h g = functions_spellable m fs g
all_spellable m (x ∷ gs) fs h g = (h.0.named, all_spellable m gs fs h.1 g)

-- the names of a module are ready to be defined
pub symbols_ready : (m : Program) → IsWellFormed m → IsReady nothing (global_names m.globals ++ function_names m.functions)
symbols_ready m rules_of = record {
  differ = subst (λ ns. IsDistinct same_name (map spelled ns)) (texts_are m.globals m.functions) (texts_differ (symbols m) rules_of.symbols_differ);
  counts = subst (CountFrom 0) (texts_are m.globals m.functions) (texts_count 0 (symbols m));
  spellable = all_spellable m m.globals m.functions (recursion_from_All IsGlobal m.globals rules_of.globals) (recursion_from_All (IsFunctionIn m) m.functions rules_of.functions);
}

-- ---- look-ups

-- the names of a tree mean its globals and functions
pub record KnowsSymbols (m : Program) (functions : List RawFunction) (d : Defined) : Type 0 where
  pub global : (g : ℕ) (x : Global) → slice_get m.globals g ≡ Some x → meaning_of d (Text x.name) ≡ Some (meaning.Global g x.width)
  pub function : (i : ℕ) (g : Function) → slice_get m.functions i ≡ Some g → meaning_of d (Text g.name) ≡ Some (meaning.Function i)
  pub tree : (i : ℕ) (g : Function) → slice_get m.functions i ≡ Some g → Beside (IsTreeFunction m) functions i g

pub knows_symbols : (m : Program) (functions : List RawFunction) (d : Defined) → IsReady d [] → d.meanings ≡ of_globals 0 m.globals ++ of_functions 0 m.functions
    → AllZip (IsTreeFunction m) m.functions functions → KnowsSymbols m functions d
knows_symbols m functions d ready e trees =
    let differ : IsDistinct same_name (keys_of d.meanings) = subst (IsDistinct same_name) (append-nil (keys_of d.meanings)) ready.differ in
    record {
      global = λ g x h.
          found d (Text x.name) (meaning.Global g x.width) differ (subst (λ es. IsPlaced es (Text x.name) (meaning.Global g x.width)) (sym e)
          (before_all (of_globals 0 m.globals) (of_functions 0 m.functions) (Text x.name) (meaning.Global g x.width)
          (item_placed (λ (y : Global). Text y.name) (λ k y. meaning.Global k y.width) m.globals g x h)));
      function = λ i g h.
          found d (Text g.name) (meaning.Function i) differ (subst (λ es. IsPlaced es (Text g.name) (meaning.Function i)) (sym e)
          (behind_all (of_globals 0 m.globals) (of_functions 0 m.functions) (Text g.name) (meaning.Function i)
          (item_placed (λ (y : Function). Text y.name) (λ k y. meaning.Function k) m.functions i g h)));
      tree = λ i g h. beside (IsTreeFunction m) m.functions functions i g trees h;
    }
