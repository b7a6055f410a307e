-- The parts of a canonical text in order, read.
use Rattle.std.proofs.Common.{◌≡◌, ◌≤◌, ◌+◌, ℕ, Bool, true, false, cond, List, [], ◌∷◌, ◌++◌, map, refl, sym, ap, subst, ◌∙◌, arith}
use Rattle.std.specs.List.{AllByRecursion, AllZip}
use Rattle.ir_types.specs.Order.{Item, starts_before, merged, up_to}
use Rattle.ir_types.specs.Order.{Global as GlobalItem, Function as FunctionItem}
use Rattle.ir_types.specs.Program.{Program}
use Rattle.ir_types.specs.TreeOf.{IsTreeFunction, IsTreeGlobal, IsTreeOf}
use Rattle.ir_types.specs.declared.span.Span.{Span}
use Rattle.ir_types.specs.declared.syntax.Block.{Block}
use Rattle.ir_types.specs.declared.syntax.Function.{Function}
use Rattle.ir_types.specs.declared.syntax.Global.{Global}
use Rattle.ir_types.specs.declared.tree.RawFunction.{RawFunction}
use Rattle.ir_types.specs.declared.tree.RawGlobal.{RawGlobal}
use Rattle.ir_lexer.specs.Texts.{Inked}
use Rattle.grammar.specs.Grammar.{repeated}
use Rattle.ir_parser.specs.Values.{attach, extra, detail}
use Rattle.ir_parser.specs.Module.{declare, define, variable, part, parts_of, functions_of, globals_of, tree_of, module_text}
use Rattle.ir_parser.specs.declared.modules.Member.{Member}
use Rattle.printed_trees.proofs.Placed.{IsRead, Begins, none_more, one_more_at, weaker_at, made_at}
use Rattle.printed_trees.proofs.Put.{IsPutFunction, IsPutGlobal, IsPutModule}
use Rattle.printed_trees.proofs.ReadValues.{named_global}
use Rattle.printed_trees.proofs.ReadInstrs.{or_first}
use Rattle.printed_trees.proofs.ReadModule.{From, IsFunctionPart, IsGlobalPart, place_of_part, function_part, global_part}
use Rattle.printed_trees.proofs.Scripts as script

-- the places begin one behind the other
pub record IsAscending (spans : ℕ → Span) : Type 0 where
  pub ascends : (i j : ℕ) → i ≤ j → (spans i).start ≤ (spans j).start

behind_ascends : (spans behind : ℕ → Span) (count : ℕ) → ((n : ℕ) → behind n ≡ spans (count + n)) → IsAscending spans → IsAscending behind
behind_ascends spans behind count shifted up = record {
  ascends = λ i j le.
      let a : (behind i).start ≡ (spans (count + i)).start = ap (λ (s : Span). s.start) (shifted i) in
      let b : (behind j).start ≡ (spans (count + j)).start = ap (λ (s : Span). s.start) (shifted j) in
      let l = up.ascends (count + i) (count + j) (omega arith) in
      omega arith;
}

from_start : (spans : ℕ → Span) (s : Span) → IsAscending spans → From spans s → (spans 0).start ≤ s.start
from_start spans s up from = let e : s.start ≡ (spans from.0).start = ap (λ (s : Span). s.start) from.1 in let l = up.ascends 0 from.0 (omega arith) in omega arith

behind_start : (spans behind : ℕ → Span) (count : ℕ) → ((n : ℕ) → behind n ≡ spans (count + n)) → IsAscending spans → (spans 0).start ≤ (behind 0).start
behind_start spans behind count shifted up = let e : (behind 0).start ≡ (spans (count + 0)).start = ap (λ (s : Span). s.start) (shifted 0) in let l = up.ascends 0 (count + 0) (omega arith) in omega arith

-- each function's name starts here or later
abbrev AllFrom : ℕ → List RawFunction → Type 0
AllFrom n fs = AllByRecursion (λ f. n ≤ f.name.span.start) fs

sooner : (a b : ℕ) (fs : List RawFunction) → a ≤ b → AllFrom b fs → AllFrom a fs
sooner a b [] le all = tt
sooner a b (f ∷ fs) le all = (omega (arith, le, all.0), sooner a b fs le all.1)

-- the functions of a text
record AreFunctions (m : Program) (fs : List Function) (from : ℕ) (ps : List Member) : Type 0 where
  globals : globals_of ps ≡ []
  functions : AllZip (IsTreeFunction m) fs (functions_of ps)
  above : AllFrom from (functions_of ps)

-- globals and functions of a text
record AreParts (m : Program) (gs : List Global) (fs : List Function) (from : ℕ) (ps : List Member) : Type 0 where
  globals : AllZip IsTreeGlobal gs (globals_of ps)
  functions : AllZip (IsTreeFunction m) fs (functions_of ps)
  above : AllFrom from (functions_of ps)
  ordered : merged (globals_of ps) (functions_of ps) ≡ map GlobalItem (globals_of ps) ++ map FunctionItem (functions_of ps)

all_functions : (xs : List RawFunction) → merged [] xs ≡ map FunctionItem xs
unfolding merged
all_functions xs = refl

-- a global that no function stands before
global_first : (g : RawGlobal) (gs : List RawGlobal) (fs : List RawFunction) → AllFrom g.name.span.start fs → merged gs fs ≡ map GlobalItem gs ++ map FunctionItem fs → merged (g ∷ gs) fs ≡ GlobalItem g ∷ (map GlobalItem gs ++ map FunctionItem fs)
unfolding merged up_to
global_first g gs [] all e = ap (λ (l : List Item). GlobalItem g ∷ l) e
global_first g gs (f ∷ fs) all e = not_before (starts_before f g) (above all.0) ∙ ap (λ (l : List Item). GlobalItem g ∷ l) e
  where
    above : g.name.span.start ≤ f.name.span.start → starts_before f g ≡ false
    above le = grind arith

    not_before : (b : Bool) → b ≡ false → cond b (FunctionItem f ∷ up_to g (merged gs) fs) (GlobalItem g ∷ merged gs (f ∷ fs)) ≡ GlobalItem g ∷ merged gs (f ∷ fs)
    not_before false h = refl
    not_before true h = absurd cc

module _ (m : Program) where
  no_part : Begins part [] false
  unfolding part declare define variable
  no_part = record { begins = λ spans. refl }

  function_begins : (f : Function) (bs : List Block) (gap : List ℕ) (rest : List Inked) → Begins part (script.function_script m f bs gap rest) true × (Begins extra (script.function_script m f bs gap rest) false × Begins attach (script.function_script m f bs gap rest) false)
  unfolding part declare define variable extra detail attach
  function_begins f [] gap rest = (record { begins = λ spans. refl }, (record { begins = λ spans. refl }, record { begins = λ spans. refl }))
  function_begins f (b ∷ bs) gap rest = (record { begins = λ spans. refl }, (record { begins = λ spans. refl }, record { begins = λ spans. refl }))

  functions_end : (fs : List Function) → Begins extra (script.functions_script m fs) false × Begins attach (script.functions_script m fs) false
  unfolding script.functions_script extra detail attach
  functions_end [] = (record { begins = λ spans. refl }, record { begins = λ spans. refl })
  functions_end (f ∷ fs) = (function_begins f f.blocks (script.gap_before fs) (script.functions_script m fs)).1

  one_function : (f : Function) (fs : List Function) (a b : ℕ) (x : Member) (ps : List Member) → IsFunctionPart m f x → a ≤ (place_of_part m x).start → a ≤ b → AreFunctions m fs b ps → AreFunctions m (f ∷ fs) a (x ∷ ps)
  one_function f fs a b x ps is from le more =
      let P : Member → Type 0 = λ x. a ≤ (place_of_part m x).start → AreFunctions m (f ∷ fs) a (x ∷ ps) in
      (subst P (sym is.1) (λ from. record { globals = more.globals; functions = (is.2, more.functions); above = (from, sooner a b (functions_of ps) le more.above) })) from

  functions_read : (fs : List Function) (spans : ℕ → Span) → IsAscending spans → AllByRecursion (IsPutFunction m) fs → IsRead (repeated part) (script.functions_script m fs) [] (AreFunctions m fs (spans 0).start) spans
  unfolding script.functions_script
  functions_read [] spans up put = weaker_at _ _ _ (λ ps. ps ≡ []) _ spans (λ ps e. rw e (record { globals = refl; functions = tt; above = tt })) ((none_more part [] no_part).at spans)
  functions_read (f ∷ fs) spans up put =
      let one = (function_part m f f.blocks (script.gap_before fs) (script.functions_script m fs) refl put.0 put.0.blocks (functions_end fs).0).at spans in
      let more = functions_read fs one.behind (behind_ascends spans one.behind one.count one.shifted up) put.1 in
      let le = behind_start spans one.behind one.count one.shifted up in
      weaker_at _ _ _ _ _ spans (λ ps h. rw h.2 (one_function f fs (spans 0).start (one.behind 0).start h.0 h.1 h.3.0 (from_start spans (place_of_part m h.0) up h.3.1) le h.4))
      (one_more_at part _ _ [] _ _ spans ((function_begins f f.blocks (script.gap_before fs) (script.functions_script m fs)).0.begins spans) one more)

  only_functions : (fs : List Function) (n : ℕ) (ps : List Member) → AreFunctions m fs n ps → AreParts m [] fs n ps
  only_functions fs n ps are = record {
    globals = (let P : List RawGlobal → Type 0 = λ gs. AllZip IsTreeGlobal [] gs in subst P (sym are.globals) tt);
    functions = are.functions;
    above = are.above;
    ordered = (let P : List RawGlobal → Type 0 = λ gs. merged gs (functions_of ps) ≡ map GlobalItem gs ++ map FunctionItem (functions_of ps) in subst P (sym are.globals) (all_functions (functions_of ps)));
  }

  one_global : (g : Global) (gs : List Global) (fs : List Function) (spans behind : ℕ → Span) (x : Member) (ps : List Member) → IsGlobalPart m g spans x → (spans 0).start ≤ (behind 0).start → AreParts m gs fs (behind 0).start ps
      → AreParts m (g ∷ gs) fs (spans 0).start (x ∷ ps)
  one_global g gs fs spans behind x ps is le more =
      let above = sooner (spans 0).start (behind 0).start (functions_of ps) le more.above in
      let start : (is.0).name.span.start ≡ (spans 0).start = ap (λ (s : Span). s.start) is.2.1 in
      let P : Member → Type 0 = λ x. AreParts m (g ∷ gs) fs (spans 0).start (x ∷ ps) in
      let Q : ℕ → Type 0 = λ n. AllFrom n (functions_of ps) in
      subst P (sym is.1) (record {
        globals = (is.2.0, more.globals);
        functions = more.functions;
        above = above;
        ordered = global_first is.0 (globals_of ps) (functions_of ps) (subst Q (sym start) above) more.ordered;
      })

  globals_begin : (g : Global) (gap : List ℕ) (rest : List Inked) → Begins part (script.global_script g gap rest) true × Begins attach (script.global_script g gap rest) false
  unfolding part declare define variable attach
  globals_begin g gap rest = (record { begins = λ spans. or_first _ _ (named_global g.name script.space (spans 0)) }, record { begins = λ spans. refl })

  more_ends : (h : Global) (gs : List Global) (fs : List Function) → Begins attach (script.globals_script m (h ∷ gs) fs) false
  unfolding script.globals_script
  more_ends h [] fs = (globals_begin h (script.gap_before fs) (script.functions_script m fs)).1
  more_ends h (g ∷ gs) fs = (globals_begin h script.line (script.globals_script m (g ∷ gs) fs)).1

  more_global : (g : Global) (gs : List Global) (fs : List Function) (gap : List ℕ) (rest : List Inked) (spans : ℕ → Span) → IsAscending spans → IsPutGlobal g → Begins attach rest false
      → ((behind : ℕ → Span) → IsAscending behind → IsRead (repeated part) rest [] (AreParts m gs fs (behind 0).start) behind)
      → IsRead (repeated part) (script.global_script g gap rest) [] (AreParts m (g ∷ gs) fs (spans 0).start) spans
  more_global g gs fs gap rest spans up put ends more =
      let one = global_part m g gap rest spans put ends in
      let le = behind_start spans one.behind one.count one.shifted up in
      weaker_at _ _ _ _ _ spans (λ ps h. rw h.2 (one_global g gs fs spans one.behind h.0 h.1 h.3 le h.4))
      (one_more_at part _ _ [] _ _ spans ((globals_begin g gap rest).0.begins spans) one (more one.behind (behind_ascends spans one.behind one.count one.shifted up)))

  globals_read : (gs : List Global) (fs : List Function) (spans : ℕ → Span) → IsAscending spans → AllByRecursion IsPutGlobal gs → AllByRecursion (IsPutFunction m) fs → IsRead (repeated part) (script.globals_script m gs fs) [] (AreParts m gs fs (spans 0).start) spans
  unfolding script.globals_script
  globals_read [] fs spans up put functions = weaker_at _ _ _ _ _ spans (λ ps h. only_functions fs (spans 0).start ps h) (functions_read fs spans up functions)
  globals_read (g ∷ []) fs spans up put functions =
      more_global g [] fs (script.gap_before fs) (script.functions_script m fs) spans up put.0 (functions_end fs).1
      (λ behind ascends. weaker_at _ _ _ _ _ behind (λ ps h. only_functions fs (behind 0).start ps h) (functions_read fs behind ascends functions))
  globals_read (g ∷ h ∷ gs) fs spans up put functions =
      more_global g (h ∷ gs) fs script.line (script.globals_script m (h ∷ gs) fs) spans up put.0 (more_ends h gs fs)
      (λ behind ascends. globals_read (h ∷ gs) fs behind ascends put.1 functions)

  -- the tokens of the whole text spell the tree of the module
  pub module_read : IsPutModule m → (spans : ℕ → Span) → IsAscending spans → IsRead module_text (script.script_of m) [] (IsTreeOf m) spans
  unfolding module_text parts_of
  module_read put spans up = made_at tree_of (repeated part) _ [] (AreParts m m.globals m.functions (spans 0).start) (IsTreeOf m) spans (λ ps h. record { globals = h.globals; functions = h.functions; ordered = h.ordered }) (globals_read m.globals m.functions spans up put.globals put.functions)
