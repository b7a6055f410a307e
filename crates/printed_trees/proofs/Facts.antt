-- What the rules of a module say of the parts that are printed.
use Rattle.std.proofs.Common.{◌≡◌, ◌<◌, ◌^◌, ℕ, suc, zero, List, [], ◌∷◌, ◌++◌, map, take, get_or, length, Option, Some, None, IsSome, refl, sym, ap, subst, ◌∙◌, arith}
use Rattle.std.specs.Prelude.{IsSomeAnd, IfSome, slice_get, option_and_then, option_map, filter_map}
use Rattle.std.specs.List.{AllZip, AllByRecursion, cons_option}
use Rattle.std.proofs.lemmas.List.Elements.{recursion_from_All}
use Rattle.std.proofs.lemmas.Option.{slice_get-get_or}
use Rattle.mc_num.specs.Op.{bits, argument_widths}
use Rattle.mc_num.specs.declared.op.Width.{Width}
use Rattle.mc_num.specs.declared.op.Width.TheVariants.{I1}
use Rattle.mc_num.specs.declared.op.Op.{Op}
use Rattle.mc_num.specs.declared.op.Op.TheVariants.{Bin, Icmp, Cast, Select}
use Rattle.ir_types.specs.Names.{IsSpellable}
use Rattle.ir_types.specs.Program.{Program}
use Rattle.ir_types.specs.WellFormed.{Signature, signature, scope, widths, variable_width, given_by, HasWidth, Fits, Ends, targets, IsNamed, IsBlockIn, IsFunctionIn, IsGlobal, IsWellFormed, names, body_names, block_names, result_names}
use Rattle.ir_types.specs.TreeOf.{register_name}
use Rattle.ir_types.specs.declared.name.Name.{Name}
use Rattle.ir_types.specs.declared.syntax.Operand.{Operand}
use Rattle.ir_types.specs.declared.syntax.Operand.TheVariants.{Const, Param, Reg}
use Rattle.ir_types.specs.declared.syntax.Variable.{Variable}
use Rattle.ir_types.specs.declared.syntax.Variable.TheVariants as variable
use Rattle.ir_types.specs.declared.syntax.Kind.{Kind}
use Rattle.ir_types.specs.declared.syntax.Kind.TheVariants.{Load, Store, Compute, Call}
use Rattle.ir_types.specs.declared.syntax.Instr.{Instr}
use Rattle.ir_types.specs.declared.syntax.Terminator.{Terminator}
use Rattle.ir_types.specs.declared.syntax.Terminator.TheVariants.{Return, Jump, Branch, Switch, Unreachable}
use Rattle.ir_types.specs.declared.syntax.Block.{Block}
use Rattle.ir_types.specs.declared.syntax.Function.{Function}
use Rattle.ir_types.specs.declared.syntax.Global.{Global}
use Rattle.ir_printer.specs.Text.{variable_type}
use Rattle.printed_trees.proofs.Put.{IsPutName, IsPutValue, IsPutVariable, IsPutTarget, ArePutTwo, IsPutOne, ArePutThree, IsPutOperation, ArePutArguments, IsPutKind, IsPutResult, IsPutInstr, IsPutCase, IsPutTerm, IsPutBlock, IsPutFunction, IsPutGlobal, IsPutModule}
use Rattle.printed_trees.proofs.ReadInstrs.{variable_typed}

-- ---- lists

taken : {X : Type 0} (xs : List X) (k r : ℕ) (x : X) → slice_get (take k xs) r ≡ Some x → slice_get xs r ≡ Some x
taken [] zero r x e = e
taken [] (suc k) r x e = e
taken (y ∷ xs) zero r x e = absurd cc
taken (y ∷ xs) (suc k) zero x e = e
taken (y ∷ xs) (suc k) (suc r) x e = taken xs k r x e

at_index : {X : Type 0} (P : X → Type 0) (xs : List X) (i : ℕ) (x : X) → AllByRecursion P xs → slice_get xs i ≡ Some x → P x
at_index P [] i x all e = absurd cc
at_index P (y ∷ xs) zero x all e = let same : y ≡ x = cc in subst P same all.0
at_index P (y ∷ xs) (suc i) x all e = at_index P xs i x all.1 e

split : {X : Type 0} (P : X → Type 0) (xs ys : List X) → AllByRecursion P (xs ++ ys) → AllByRecursion P xs × AllByRecursion P ys
split P [] ys all = (tt, all)
split P (x ∷ xs) ys all = let more = split P xs ys all.1 in ((all.0, more.0), more.1)

under_map : {X Y : Type 0} (P : Y → Type 0) (g : X → Y) (xs : List X) → AllByRecursion P (map g xs) → AllByRecursion (λ x. P (g x)) xs
under_map P g [] all = tt
under_map P g (x ∷ xs) all = (all.0, under_map P g xs all.1)

under_filter : {X Y : Type 0} (P : Y → Type 0) (h : X → Option Y) (xs : List X) → AllByRecursion P (filter_map h xs) → AllByRecursion (λ x. IfSome (h x) P) xs
under_filter P h [] all = tt
under_filter P h (x ∷ xs) all = let both = one (h x) (filter_map h xs) all in (both.0, under_filter P h xs both.1)
  where
    one : (o : Option _) (ys : List _) → AllByRecursion P (cons_option o ys) → IfSome o P × AllByRecursion P ys
    one None ys all = (tt, all)
    one (Some y) ys all = (all.0, all.1)

some_of : {X : Type 0} (o : Option X) → IsSome o → (x : X) × (o ≡ Some x)
some_of None h = absurd cc
some_of (Some x) h = (x, refl)

is_some : {X : Type 0} (o : Option X) (x : X) → o ≡ Some x → IsSome o
is_some None x e = absurd cc
is_some (Some y) x e = refl

some_and : {X : Type 0} (o : Option X) (P : X → Type 0) → IsSomeAnd o P → (x : X) × (o ≡ Some x) × P x
some_and None P h = absurd h
some_and (Some x) P h = (x, refl, h)

if_some : {X : Type 0} (o : Option X) (P : X → Type 0) (x : X) → o ≡ Some x → IfSome o P → P x
if_some None P x e h = absurd cc
if_some (Some y) P x e h = let same : y ≡ x = cc in subst P same h

-- what stands at a place of a mapped list stands there before
mapped : {X Y : Type 0} (g : X → Y) (xs : List X) (i : ℕ) (y : Y) → slice_get (map g xs) i ≡ Some y → (x : X) × (slice_get xs i ≡ Some x)
mapped g [] i y e = absurd cc
mapped g (x ∷ xs) zero y e = (x, refl)
mapped g (x ∷ xs) (suc i) y e = mapped g xs i y e

mapped_is : {X Y : Type 0} (g : X → Y) (xs : List X) (i : ℕ) (y : Y) → slice_get (map g xs) i ≡ Some y → (x : X) × (slice_get xs i ≡ Some x) × (g x ≡ y)
mapped_is g [] i y e = absurd cc
mapped_is g (x ∷ xs) zero y e = (x, refl, (let f : Some (g x) ≡ Some y = e in cc))
mapped_is g (x ∷ xs) (suc i) y e = mapped_is g xs i y e

within : {X : Type 0} (xs : List X) (i : ℕ) → i < length xs → (x : X) × (slice_get xs i ≡ Some x)
within [] i l = absurd (omega arith)
within (x ∷ xs) zero l = (x, refl)
within (x ∷ xs) (suc i) l = within xs i (omega (arith, l))

-- ---- the names of a function

-- the label and the results of a block can be spelled
record IsNamedBlock (b : Block) : Type 0 where
  label : IsSpellable b.name
  results : AllByRecursion (λ i. IfSome i.result IsSpellable) b.instrs

named_block : (b : Block) → IsSpellable b.name → AllByRecursion IsSpellable (result_names b) → IsNamedBlock b
named_block b label results = record { label = label; results = under_filter IsSpellable (λ (i : Instr). i.result) b.instrs results }

named_blocks : (bs : List Block) → AllByRecursion IsSpellable (block_names bs) → AllByRecursion IsNamedBlock bs
named_blocks [] all = tt
named_blocks (b ∷ bs) all = let parts = split IsSpellable (result_names b) (block_names bs) all.1 in (named_block b all.0 parts.0, named_blocks bs parts.1)

record AreNamed (params vars : List (Width × Name)) (bs : List Block) : Type 0 where
  params_named : AllByRecursion (λ (p : Width × Name). IsSpellable p.1) params
  vars_named : AllByRecursion (λ (x : Width × Name). IsSpellable x.1) vars
  blocks_named : AllByRecursion IsNamedBlock bs

body_named : (vars : List (Width × Name)) (bs : List Block) → AllByRecursion IsSpellable (body_names (map (λ (x : Width × Name). x.1) vars) bs) → AllByRecursion (λ (x : Width × Name). IsSpellable x.1) vars × AllByRecursion IsNamedBlock bs
body_named vars [] all = (under_map IsSpellable (λ (x : Width × Name). x.1) vars all, tt)
body_named vars (b ∷ bs) all =
    let parts = split IsSpellable (map (λ (x : Width × Name). x.1) vars) (result_names b ++ block_names bs) all.1 in
    let more = split IsSpellable (result_names b) (block_names bs) parts.1 in
    (under_map IsSpellable (λ (x : Width × Name). x.1) vars parts.0, (named_block b all.0 more.0, named_blocks bs more.1))

all_named : (m : Program) (f : Function) → IsFunctionIn m f → AreNamed f.params f.vars f.blocks
all_named m f rules =
    let parts = split IsSpellable (map (λ (x : Width × Name). x.1) f.params) (body_names (map (λ (x : Width × Name). x.1) f.vars) f.blocks) (recursion_from_All IsSpellable (names f) rules.spellable) in
    let body = body_named f.vars f.blocks parts.1 in
    record { params_named = under_map IsSpellable (λ (x : Width × Name). x.1) f.params parts.0; vars_named = body.0; blocks_named = body.1 }

-- ---- one block

module _ (m : Program) (f : Function) (b : Block) (fits : IsWellFormed m) (named : AreNamed f.params f.vars f.blocks) (own : IsNamedBlock b) (rules : IsBlockIn (scope m f) b) where
  named_result : (r : ℕ) (i : Instr) (w : Width) → slice_get b.instrs r ≡ Some i → given_by (scope m f) i.kind ≡ Some w → IsPutName (register_name b r)
  named_result r i w e given =
      let one : IsNamed (scope m f) i = at_index (IsNamed (scope m f)) b.instrs r i (recursion_from_All (IsNamed (scope m f)) b.instrs rules.named) e in
      let name = some_of i.result (one.1 (is_some (given_by (scope m f) i.kind) w given)) in
      let spellable = if_some i.result IsSpellable name.0 name.1 (at_index (λ (i : Instr). IfSome i.result IsSpellable) b.instrs r i own.results e) in
      (name.0, ap (option_and_then (λ (i : Instr). i.result)) e ∙ name.1, spellable)

  abbrev IsFront : List Instr → Type 0
  IsFront before = (r : ℕ) (i : Instr) → slice_get before r ≡ Some i → slice_get b.instrs r ≡ Some i

  put_value : (before : List Instr) → IsFront before → (w : Width) (o : Operand) → HasWidth (scope m f) before w o → IsPutValue f b w o
  put_value before front w (Const n) has = has
  put_value before front w (Param p) has =
      let x = mapped (λ (x : Width × Name). x.0) f.params p w has in
      (x.0.1, ap (option_map (λ (x : Width × Name). x.1)) x.1, at_index (λ (x : Width × Name). IsSpellable x.1) f.params p x.0 named.params_named x.1)
  put_value before front w (Reg r) has = found (slice_get before r) refl has
    where
      found : (o : Option Instr) → slice_get before r ≡ o → option_and_then (λ (i : Instr). given_by (scope m f) i.kind) o ≡ Some w → IsPutName (register_name b r)
      found None e given = absurd cc
      found (Some i) e given = named_result r i w (front r i e) given

  put_variable : (v : Variable) (w : Width) → variable_width (scope m f) v ≡ Some w → IsPutVariable m f v
  put_variable (variable.Local v) w e =
      let x = mapped (λ (x : Width × Name). x.0) f.vars v w e in
      (x.0, x.1, at_index (λ (x : Width × Name). IsSpellable x.1) f.vars v x.0 named.vars_named x.1)
  put_variable (variable.Global g) w e =
      let x = mapped (λ (x : Global). x.width) m.globals g w e in
      (x.0, x.1, (at_index IsGlobal m.globals g x.0 (recursion_from_All IsGlobal m.globals fits.globals) x.1).named)

  put_target : (t : ℕ) → t < length f.blocks → IsPutTarget f t
  put_target t l = let x = within f.blocks t l in (x.0, x.1, (at_index IsNamedBlock f.blocks t x.0 named.blocks_named x.1).label)

  two : (before : List Instr) → IsFront before → (w : Width) (os : List Operand) → AllZip (HasWidth (scope m f) before) (w ∷ w ∷ []) os → ArePutTwo f b w os
  two before front w [] fit = absurd fit
  two before front w (o ∷ []) fit = absurd fit.1
  two before front w (one ∷ other ∷ []) fit = (put_value before front w one fit.0, put_value before front w other fit.1.0)
  two before front w (o ∷ p ∷ q ∷ os) fit = absurd fit.1.1

  one : (before : List Instr) → IsFront before → (w : Width) (os : List Operand) → AllZip (HasWidth (scope m f) before) (w ∷ []) os → IsPutOne f b w os
  one before front w [] fit = absurd fit
  one before front w (o ∷ []) fit = put_value before front w o fit.0
  one before front w (o ∷ p ∷ os) fit = absurd fit.1

  three : (before : List Instr) → IsFront before → (w : Width) (os : List Operand) → AllZip (HasWidth (scope m f) before) (I1 ∷ w ∷ w ∷ []) os → ArePutThree f b w os
  three before front w [] fit = absurd fit
  three before front w (o ∷ []) fit = absurd fit.1
  three before front w (o ∷ p ∷ []) fit = absurd fit.1.1
  three before front w (test ∷ other ∷ last ∷ []) fit = (put_value before front I1 test fit.0, put_value before front w other fit.1.0, put_value before front w last fit.1.1.0)
  three before front w (o ∷ p ∷ q ∷ r ∷ os) fit = absurd fit.1.1.1

  operation : (before : List Instr) → IsFront before → (o : Op) (os : List Operand) → AllZip (HasWidth (scope m f) before) (argument_widths o) os → IsPutOperation f b o os
  operation before front (Bin o w) os fit = two before front w os fit
  operation before front (Icmp p w) os fit = two before front w os fit
  operation before front (Cast c from to) os fit = one before front from os fit
  operation before front (Select w) os fit = three before front w os fit

  arguments : (before : List Instr) → IsFront before → (ps : List (Width × Name)) (os : List Operand) → AllZip (HasWidth (scope m f) before) (widths ps) os → ArePutArguments f b ps os
  arguments before front [] [] fit = tt
  arguments before front [] (o ∷ os) fit = absurd fit
  arguments before front (p ∷ ps) [] fit = absurd fit
  arguments before front (p ∷ ps) (o ∷ os) fit = (put_value before front p.0 o fit.0, arguments before front ps os fit.1)

  put_kind : (before : List Instr) → IsFront before → (k : Kind) → Fits (scope m f) before k → IsPutKind m f b k
  put_kind before front (Load v) fit = let w = some_of (variable_width (scope m f) v) fit in put_variable v w.0 w.1
  put_kind before front (Store o v) fit =
      let w = some_and (variable_width (scope m f) v) (λ (w : Width). HasWidth (scope m f) before w o) fit in
      let put = put_variable v w.0 w.1 in
      let same : w.0 ≡ variable_type m f v = (let e : Some w.0 ≡ Some (variable_type m f v) = sym w.1 ∙ variable_typed m f v put in cc) in
      let P : Width → Type 0 = λ w. HasWidth (scope m f) before w o in
      (put_value before front (variable_type m f v) o (subst P same w.2), put)
  put_kind before front (Compute o os) fit = operation before front o os fit.operands_fit
  put_kind before front (Call c os) fit =
      let g = some_and (slice_get (map signature m.functions) c) (λ (g : Signature). AllZip (HasWidth (scope m f) before) g.params os) fit in
      let x = mapped_is signature m.functions c g.0 g.1 in
      let P : Signature → Type 0 = λ g. AllZip (HasWidth (scope m f) before) g.params os in
      (x.0, x.1, (at_index (IsFunctionIn m) m.functions c x.0 (recursion_from_All (IsFunctionIn m) m.functions fits.functions) x.1).named, arguments before front x.0.params os (subst P (sym x.2) g.2))

  no_result : (result : Option Name) → (IsSome result → IsSome {T = Width} None) → result ≡ None
  no_result None h = refl
  no_result (Some name) h = absurd (let e = h refl in cc)

  put_result : (k : Kind) (result : Option Name) → (IsSome result → IsSome (given_by (scope m f) k)) → IsPutResult k result
  put_result (Load v) result h = tt
  put_result (Store o v) result h = no_result result h
  put_result (Compute o os) result h = tt
  put_result (Call c os) result h = tt

  put_instrs : AllByRecursion (IsPutInstr m f b) b.instrs
  put_instrs = recursion_from_All (IsPutInstr m f b) b.instrs (λ k d l. put_at k (get_or b.instrs k d) (slice_get-get_or b.instrs k d l))
    where
      put_at : (k : ℕ) (i : Instr) → slice_get b.instrs k ≡ Some i → IsPutInstr m f b i
      put_at k i e =
          let at_named : IsNamed (scope m f) i = at_index (IsNamed (scope m f)) b.instrs k i (recursion_from_All (IsNamed (scope m f)) b.instrs rules.named) e in
          record {
            kind = put_kind (take k b.instrs) (λ r j h. taken b.instrs k r j h) i.kind (rules.fits k i e);
            result = put_result i.kind i.result at_named.0;
            named = at_index (λ (i : Instr). IfSome i.result IsSpellable) b.instrs k i own.results e;
          }

  put_cases : (w : Width) (cs : List (ℕ × ℕ)) → AllByRecursion (λ (c : ℕ × ℕ). c.0 < 2 ^ bits w) cs → AllByRecursion (λ (t : ℕ). (0 < t) × (t < length f.blocks)) (map (λ (c : ℕ × ℕ). c.1) cs) → AllByRecursion (IsPutCase f w) cs
  put_cases w [] fit exist = tt
  put_cases w (c ∷ cs) fit exist = ((fit.0, put_target c.1 exist.0.1), put_cases w cs fit.1 exist.1)

  put_term : (t : Terminator) → Ends (scope m f) b.instrs t → AllByRecursion (λ (t : ℕ). (0 < t) × (t < length f.blocks)) (targets t) → IsPutTerm f b t
  put_term (Return None) ends exist = tt
  put_term (Return (Some o)) ends exist =
      let w = some_and f.ret (λ (w : Width). HasWidth (scope m f) b.instrs w o) ends in
      (w.0, w.1, put_value b.instrs (λ r i h. h) w.0 o w.2)
  put_term (Jump t) ends exist = put_target t exist.0.1
  put_term (Branch o t u) ends exist = (put_value b.instrs (λ r i h. h) I1 o ends, put_target t exist.0.1, put_target u exist.1.0.1)
  put_term (Switch w o t cs) ends exist =
      (put_value b.instrs (λ r i h. h) w o ends.0, put_target t exist.0.1, put_cases w cs (recursion_from_All (λ (c : ℕ × ℕ). c.0 < 2 ^ bits w) cs ends.1.fit) exist.1)
  put_term Unreachable ends exist = tt

  put_block : IsPutBlock m f b
  put_block = record {
    label = own.label;
    instrs = put_instrs;
    term = put_term b.term rules.ends (recursion_from_All (λ (t : ℕ). (0 < t) × (t < length f.blocks)) (targets b.term) rules.targets_exist);
  }

-- ---- the whole

module _ (m : Program) (fits : IsWellFormed m) where
  put_blocks : (f : Function) → AreNamed f.params f.vars f.blocks → (bs : List Block) → AllByRecursion IsNamedBlock bs → AllByRecursion (IsBlockIn (scope m f)) bs → AllByRecursion (IsPutBlock m f) bs
  put_blocks f named [] own rules = tt
  put_blocks f named (b ∷ bs) own rules = (put_block m f b fits named own.0 rules.0, put_blocks f named bs own.1 rules.1)

  put_function : (f : Function) → IsFunctionIn m f → IsPutFunction m f
  put_function f rules =
      let named = all_named m f rules in
      record {
        named = rules.named;
        params = named.params_named;
        vars = named.vars_named;
        blocks = put_blocks f named f.blocks named.blocks_named (recursion_from_All (IsBlockIn (scope m f)) f.blocks rules.blocks);
      }

  put_functions : (fs : List Function) → AllByRecursion (IsFunctionIn m) fs → AllByRecursion (IsPutFunction m) fs
  put_functions [] all = tt
  put_functions (f ∷ fs) all = (put_function f all.0, put_functions fs all.1)

  put_globals : (gs : List Global) → AllByRecursion IsGlobal gs → AllByRecursion IsPutGlobal gs
  put_globals [] all = tt
  put_globals (g ∷ gs) all = (record { named = all.0.named; fits = all.0.fits }, put_globals gs all.1)

  -- a module that keeps its rules can be printed
  pub put_module : IsPutModule m
  put_module = record {
    globals = put_globals m.globals (recursion_from_All IsGlobal m.globals fits.globals);
    functions = put_functions m.functions (recursion_from_All (IsFunctionIn m) m.functions fits.functions);
  }
