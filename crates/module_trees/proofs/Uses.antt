-- A use that the tree of a module spells has no problem, and means what it came from.
use Rattle.std.proofs.Common.{◌≡◌, ◌<◌, ◌==◌, ◌&&◌, not, nat_le, ℕ, Bool, true, false, List, [], ◌∷◌, Option, None, Some, IsSome, length, map, take, slice_get, refl, sym, ap, subst, ◌∙◌, arith}
use Rattle.std.specs.Option.{option_and_then, option_map_or, option_map, is_some}
use Rattle.std.specs.List.{AllZip}
use Rattle.std.proofs.lemmas.Bool.Decides.{nat_tests}
use Rattle.mc_num.specs.Op.{bits}
use Rattle.mc_num.specs.declared.op.Width.{Width}
use Rattle.ir_types.specs.Names.{spelled}
use Rattle.ir_types.specs.Program.{Program}
use Rattle.ir_types.specs.Definitions.{meaning_of}
use Rattle.ir_types.specs.ModuleOf.{operand_of, operand_meaning, variable_of, variable_meaning, target_of, block_meaning, typed_operand, argument_of}
use Rattle.ir_types.specs.Uses.{Context, same_width, is_undefined, is_across, is_other_value, is_other_variable, is_no_block, is_entry, item_problem, address_meaning, address_problem, label_problem, typed_problem, argument_problem, arguments_problem}
use Rattle.ir_types.specs.TreeOf.{type_tree, value_tree, address_tree, label_tree, AreTreeArguments, IsTreeFunction}
use Rattle.ir_types.specs.WellFormed.{scope, HasWidth, given_by, variable_width, IsBlockIn, IsNamed}
use Rattle.ir_types.specs.declared.name.Name.{Name}
use Rattle.ir_types.specs.declared.name.Name.TheVariants.{Text, Number as NumberName}
use Rattle.ir_types.specs.declared.rules.Here.{Here}
use Rattle.ir_types.specs.declared.rules.Meaning.{Meaning}
use Rattle.ir_types.specs.declared.rules.Meaning.TheVariants as meaning
use Rattle.ir_types.specs.declared.rules.Rule.TheVariants as rule
use Rattle.ir_types.specs.declared.span.Span.{Span}
use Rattle.ir_types.specs.declared.syntax.Block.{Block}
use Rattle.ir_types.specs.declared.syntax.Function.{Function}
use Rattle.ir_types.specs.declared.syntax.Global.{Global}
use Rattle.ir_types.specs.declared.syntax.Instr.{Instr}
use Rattle.ir_types.specs.declared.syntax.Operand.{Operand}
use Rattle.ir_types.specs.declared.syntax.Operand.TheVariants.{Const, Param, Reg}
use Rattle.ir_types.specs.declared.syntax.Variable.{Variable}
use Rattle.ir_types.specs.declared.syntax.Variable.TheVariants as variable
use Rattle.ir_types.specs.declared.tree.Address.{Address}
use Rattle.ir_types.specs.declared.tree.Address.TheVariants as addresses
use Rattle.ir_types.specs.declared.tree.RawArg.{RawArg}
use Rattle.ir_types.specs.declared.tree.RawParam.{RawParam}
use Rattle.ir_types.specs.declared.tree.RawValue.{RawValue}
use Rattle.ir_types.specs.declared.tree.RawValue.TheVariants as values
use Rattle.ir_types.specs.declared.tree.Ty.TheVariants.{Int}
use Rattle.module_trees.proofs.Lists.{CameFrom, came_from, MappedFrom, mapped_from, HasItem, item_at, StandsBefore, stands_before, Beside, at_place}
use Rattle.module_trees.proofs.Literals.{IsMeantLiteral, literal_meant}
use Rattle.module_trees.proofs.Problems.{then_none, unbroken}
use Rattle.module_trees.proofs.Table.{KnowsLocals}

-- ---- tests

pub equal_itself : (k : ℕ) → (k == k) ≡ true
equal_itself k = grind (arith, nat_tests)

pub same_as_itself : (w : Width) → same_width w w ≡ true
same_as_itself w = equal_itself (bits w)

earlier : (r here : ℕ) → r < here → nat_le here r ≡ false
earlier r here h = grind (arith, nat_tests)

and_false : (a b : Bool) → b ≡ false → (a && b) ≡ false
and_false true b e = e
and_false false b e = refl

named_result : (o : Option Name) → IsSome o → (n : Name) × (o ≡ Some n)
named_result None h = let never : false ≡ true = h in cc
named_result (Some n) h = (n, refl)

-- what the names that a function of a tree can use mean
pub record Knows (m : Program) (f : Function) (c : Context) : Type 0 where
  pub locals : KnowsLocals (scope m f) f c.locals
  pub global : (g : ℕ) (x : Global) → slice_get m.globals g ≡ Some x → meaning_of c.symbols (Text x.name) ≡ Some (meaning.Global g x.width)
  pub function : (i : ℕ) (g : Function) → slice_get m.functions i ≡ Some g → meaning_of c.symbols (Text g.name) ≡ Some (meaning.Function i)
  pub tree : (i : ℕ) (g : Function) → slice_get m.functions i ≡ Some g → Beside (IsTreeFunction m) c.functions i g
  pub ret : c.ret ≡ type_tree f.ret

pub record IsMeantValue (c : Context) (here : Here) (w : Width) (o : Operand) (s : Span) (v : RawValue) : Type 0 where
  pub problem : item_problem c here w false s v ≡ None
  pub means : operand_of c w v ≡ o

pub record IsMeantAddress (c : Context) (here : Here) (w : Width) (v : Variable) (s : Span) (a : Address) : Type 0 where
  pub problem : address_problem c here w (record { item = a; span = s }) ≡ None
  pub means : variable_of c a ≡ v

pub record IsMeantLabel (c : Context) (here : Here) (t : ℕ) (s : Span) (l : Name) : Type 0 where
  pub problem : label_problem c here (record { item = l; span = s }) ≡ None
  pub means : target_of c l ≡ t

-- a local value of this width that is defined before
record IsUsable (here : Here) (w : Width) (o : Operand) (m : Option Meaning) : Type 0 where
  defined : is_undefined here m ≡ false
  fits : is_other_value w m ≡ false
  own : is_across here m ≡ false
  means : operand_meaning m ≡ o

usable_parameter : (here : Here) (w : Width) (p : ℕ) (v : Width) (m : Option Meaning) → m ≡ Some (meaning.Parameter p v) → v ≡ w → IsUsable here w (Param p) m
usable_parameter here w p v m e same = record {
  defined = ap (is_undefined here) e;
  fits = ap (is_other_value w) e ∙ (ap (λ x. not (same_width x w)) same ∙ ap not (same_as_itself w));
  own = ap (is_across here) e;
  means = ap operand_meaning e;
}

usable_register : (k n r : ℕ) (w : Width) (m : Option Meaning) → m ≡ Some (meaning.Register k r (Int w)) → r < n → IsUsable (record { block = k; instr = n }) w (Reg r) m
usable_register k n r w m e h = record {
  defined = ap (is_undefined (record { block = k; instr = n })) e ∙ and_false (k == k) (nat_le n r) (earlier r n h);
  fits = ap (is_other_value w) e ∙ ap not (same_as_itself w);
  own = ap (is_across (record { block = k; instr = n })) e ∙ ap not (equal_itself k);
  means = ap operand_meaning e;
}

usable : (c : Context) (here : Here) (w : Width) (o : Operand) (s : Span) (name : Name) → IsUsable here w o (meaning_of c.locals name) → IsMeantValue c here w o s (values.Local name)
usable c here w o s name h = record {
  problem =
      then_none _ _ (unbroken rule.Undefined s _ h.defined)
      (then_none _ _ (unbroken rule.BadType s _ h.fits) (unbroken rule.CrossBlock s _ h.own));
  means = h.means;
}

module _ (m : Program) (f : Function) (c : Context) (known : Knows m f c) where
  -- ---- addresses

  variable_found : (here : Here) (w : Width) (v : Variable) (s : Span) (a : Address) (mean : Option Meaning) → address_meaning c a ≡ mean
      → is_undefined here mean ≡ false → is_other_variable w mean ≡ false → variable_meaning mean ≡ v → IsMeantAddress c here w v s a
  variable_found here w v s a mean e defined fits means = record {
    problem =
        then_none _ _ (unbroken rule.Undefined s _ (ap (is_undefined here) e ∙ defined))
        (unbroken rule.BadType s _ (ap (is_other_variable w) e ∙ fits));
    means = ap variable_meaning e ∙ means;
  }

  local_tree : (v : ℕ) (x : Width × Name) → slice_get f.vars v ≡ Some x → address_tree m f (variable.Local v) ≡ addresses.Local (spelled x.1)
  local_tree v x e = ap (λ (o : Option (Width × Name)). option_map_or (λ (y : Width × Name). addresses.Local (spelled y.1)) o (addresses.Local (NumberName 0))) e

  global_tree : (g : ℕ) (x : Global) → slice_get m.globals g ≡ Some x → address_tree m f (variable.Global g) ≡ addresses.Global x.name
  global_tree g x e = ap (λ (o : Option Global). option_map_or (λ (y : Global). addresses.Global y.name) o (addresses.Local (NumberName 0))) e

  pub address_meant : (k : ℕ) (b : Block) → slice_get f.blocks k ≡ Some b → (here : Here) (w : Width) (v : Variable) (s : Span) (a : Address)
      → variable_width (scope m f) v ≡ Some w → a ≡ address_tree m f v → IsMeantAddress c here w v s a
  address_meant k b there here w (variable.Local v) s a width e =
      let x : MappedFrom (λ (y : Width × Name). y.0) f.vars v w = mapped_from (λ (y : Width × Name). y.0) f.vars v w width in
      let tree : a ≡ addresses.Local (spelled x.item.1) = e ∙ local_tree v x.item x.is in
      variable_found here w (variable.Local v) s a (Some (meaning.Variable v x.item.0))
      (ap (address_meaning c) tree ∙ known.locals.variable k b v x.item there x.is) refl
      (ap (λ y. not (same_width y w)) x.gives ∙ ap not (same_as_itself w)) refl
  address_meant k b there here w (variable.Global g) s a width e =
      let x : MappedFrom (λ (y : Global). y.width) m.globals g w = mapped_from (λ (y : Global). y.width) m.globals g w width in
      let tree : a ≡ addresses.Global x.item.name = e ∙ global_tree g x.item x.is in
      variable_found here w (variable.Global g) s a (Some (meaning.Global g x.item.width))
      (ap (address_meaning c) tree ∙ known.global g x.item x.is) refl
      (ap (λ y. not (same_width y w)) x.gives ∙ ap not (same_as_itself w)) refl

  -- ---- labels

  label_is : (t : ℕ) (b : Block) → slice_get f.blocks t ≡ Some b → label_tree f t ≡ spelled b.name
  label_is t b e = ap (λ (o : Option Block). option_map_or (λ (y : Block). spelled y.name) o (NumberName 0)) e

  no_entry : (t : ℕ) → 0 < t → (t == 0) ≡ false
  no_entry t h = grind (arith, nat_tests)

  pub label_meant : (here : Here) (t : ℕ) (s : Span) (l : Name) → 0 < t → t < length f.blocks → l ≡ label_tree f t → IsMeantLabel c here t s l
  label_meant here t s l low high e =
      let b : HasItem f.blocks t = item_at f.blocks t high in
      let means : meaning_of c.locals l ≡ Some (meaning.Block t) = ap (meaning_of c.locals) (e ∙ label_is t b.item b.is) ∙ known.locals.block t b.item b.is in
      record {
        problem =
            then_none _ _ (unbroken rule.Undefined s _ (ap (is_undefined here) means))
            (then_none _ _ (unbroken rule.BadType s _ (ap is_no_block means)) (unbroken rule.EntryHasPredecessor s _ (ap is_entry means ∙ no_entry t low)));
        means = ap block_meaning means;
      }

  -- ---- values

  parameter_tree : (b : Block) (w : Width) (p : ℕ) (x : Width × Name) → slice_get f.params p ≡ Some x → value_tree f b w (Param p) ≡ values.Local (spelled x.1)
  parameter_tree b w p x e =
      ap (λ (o : Option (Width × Name)). option_map_or (λ (n : Name). values.Local (spelled n)) (option_map (λ (y : Width × Name). y.1) o) values.Zero) e

  register_tree : (b : Block) (w : Width) (r : ℕ) (i : Instr) (n : Name) → slice_get b.instrs r ≡ Some i → i.result ≡ Some n → value_tree f b w (Reg r) ≡ values.Local (spelled n)
  register_tree b w r i n e named =
      ap (λ (o : Option Instr). option_map_or (λ (n : Name). values.Local (spelled n)) (option_and_then (λ (i : Instr). i.result) o) values.Zero) e
      ∙ ap (λ (o : Option Name). option_map_or (λ (n : Name). values.Local (spelled n)) o values.Zero) named

  module _ (k : ℕ) (b : Block) (there : slice_get f.blocks k ≡ Some b) (rules_of : IsBlockIn (scope m f) b) (n : ℕ) where
    value_here : (w : Width) (o : Operand) (s : Span) → HasWidth (scope m f) (take n b.instrs) w o → IsMeantValue c (record { block = k; instr = n }) w o s (value_tree f b w o)
    value_here w (Const value) s h =
        let l : IsMeantLiteral c (record { block = k; instr = n }) w value s = literal_meant c (record { block = k; instr = n }) s w value h in
        record { problem = l.problem; means = l.means }
    value_here w (Param p) s h =
        let x : MappedFrom (λ (y : Width × Name). y.0) f.params p w = mapped_from (λ (y : Width × Name). y.0) f.params p w h in
        subst (IsMeantValue c (record { block = k; instr = n }) w (Param p) s) (sym (parameter_tree b w p x.item x.is))
        (usable c (record { block = k; instr = n }) w (Param p) s (spelled x.item.1)
        (usable_parameter (record { block = k; instr = n }) w p x.item.0 (meaning_of c.locals (spelled x.item.1)) (known.locals.parameter k b p x.item there x.is) x.gives))
    value_here w (Reg r) s h =
        let x : CameFrom (λ (i : Instr). given_by (scope m f) i.kind) (slice_get (take n b.instrs) r) w = came_from (λ (i : Instr). given_by (scope m f) i.kind) (slice_get (take n b.instrs) r) w h in
        let i : StandsBefore b.instrs n r x.item = stands_before n b.instrs r x.item x.is in
        let gives : IsSome (given_by (scope m f) x.item.kind) = ap is_some x.gives in
        let named = named_result x.item.result ((at_place (IsNamed (scope m f)) b.instrs rules_of.named r x.item i.is).1 gives) in
        subst (IsMeantValue c (record { block = k; instr = n }) w (Reg r) s) (sym (register_tree b w r x.item named.0 i.is named.1))
        (usable c (record { block = k; instr = n }) w (Reg r) s (spelled named.0)
        (usable_register k n r w (meaning_of c.locals (spelled named.0)) (known.locals.register k b r x.item named.0 w there i.is named.1 x.gives) i.before))

    pub value_meant : (w : Width) (o : Operand) (s : Span) (v : RawValue) → HasWidth (scope m f) (take n b.instrs) w o → v ≡ value_tree f b w o
        → IsMeantValue c (record { block = k; instr = n }) w o s v
    value_meant w o s v h e = subst (IsMeantValue c (record { block = k; instr = n }) w o s) (sym e) (value_here w o s h)

    -- ---- arguments

    pub record AreMeantArguments (ws : List Width) (ps : List RawParam) (os : List Operand) (xs : List RawArg) : Type 0 where
      pub problem : arguments_problem c (record { block = k; instr = n }) ps xs ≡ None
      pub means : map (argument_of c) xs ≡ os
      pub count : length xs ≡ length ps

    argument_fits : (w : Width) (o : Operand) (p : Width) (a : RawArg) → p ≡ w → a.ty ≡ Int w → a.value.item ≡ value_tree f b w o → HasWidth (scope m f) (take n b.instrs) w o
        → (argument_problem c (record { block = k; instr = n }) p a ≡ None) × (argument_of c a ≡ o)
    argument_fits w o p a same type e h =
        let v : IsMeantValue c (record { block = k; instr = n }) w o a.value.span a.value.item = value_meant w o a.value.span a.value.item h e in (
          (λ i. typed_problem c (record { block = k; instr = n }) (same i) (type i) a.value)
              ∙ (ap (λ (differs : Bool). item_problem c (record { block = k; instr = n }) w differs a.value.span a.value.item) (ap not (same_as_itself w)) ∙ v.problem),
          (λ i. typed_operand c (type i) a.value.item) ∙ v.means,
        )

    pub arguments_meant : (ws : List Width) (ps : List RawParam) (os : List Operand) (xs : List RawArg) → AllZip (λ w p. p.width ≡ w) ws ps
        → AllZip (HasWidth (scope m f) (take n b.instrs)) ws os → AreTreeArguments f b ws os xs → AreMeantArguments ws ps os xs
    unfolding arguments_problem
    arguments_meant [] [] [] [] same h t = record { problem = refl; means = refl; count = refl }
    arguments_meant (w ∷ ws) (p ∷ ps) (o ∷ os) (a ∷ xs) same h t =
        let one = argument_fits w o p.width a same.0 t.0 t.1 h.0 in
        let more : AreMeantArguments ws ps os xs = arguments_meant ws ps os xs same.1 h.1 t.2 in
        record {
          problem = then_none _ _ one.0 more.problem;
          means = λ i. one.1 i ∷ more.means i;
          count = omega (arith, more.count);
        }
    arguments_meant [] [] [] (a ∷ xs) same h t = elim t [ ]
    arguments_meant [] [] (o ∷ os) xs same h t = elim h [ ]
    arguments_meant [] (p ∷ ps) os xs same h t = elim same [ ]
    arguments_meant (w ∷ ws) [] os xs same h t = elim same [ ]
    arguments_meant (w ∷ ws) (p ∷ ps) [] xs same h t = elim h [ ]
    arguments_meant (w ∷ ws) (p ∷ ps) (o ∷ os) [] same h t = elim t [ ]
