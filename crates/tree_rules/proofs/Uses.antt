-- Values, addresses, labels and callees without a problem fit their places.
use Rattle.std.proofs.Common.{◌≡◌, ◌<◌, ◌^◌, ◌++◌, ◌&&◌, ◌||◌, not, nat_le, ℕ, ℤ, pos, negsuc, zero, suc, Bool, true, false, List, [], ◌∷◌, Option, None, Some, length, map, refl, sym, ap, ◌∙◌, arith}
use Rattle.std.specs.Prelude.{◌==◌, IfSome, slice_get, option_and_then, if◌then◌else◌}
use Rattle.std.specs.List.{AllZip}
use Rattle.std.proofs.lemmas.Bool.Decides.{nat_tests}
use Rattle.mc_num.specs.Op.{bits}
use Rattle.mc_num.specs.declared.op.Width.{Width}
use Rattle.mc_num.specs.declared.op.Width.TheVariants.{I1, I8, I16, I32, I64}
use Rattle.ir_types.specs.declared.span.At.{At}
use Rattle.ir_types.specs.declared.span.Span.{Span}
use Rattle.ir_types.specs.declared.name.Name.{Name}
use Rattle.ir_types.specs.declared.name.Name.TheVariants.{Text}
use Rattle.ir_types.specs.declared.rules.Here.{Here}
use Rattle.ir_types.specs.declared.rules.Meaning.{Meaning}
use Rattle.ir_types.specs.declared.rules.Meaning.TheVariants.{Parameter, Block, Register, Variable, Function, Global}
use Rattle.ir_types.specs.declared.rules.Rule.TheVariants as rule
use Rattle.ir_types.specs.declared.syntax.Instr.{Instr}
use Rattle.ir_types.specs.declared.tree.Address.{Address}
use Rattle.ir_types.specs.declared.tree.Address.TheVariants as address
use Rattle.ir_types.specs.declared.tree.RawValue.{RawValue}
use Rattle.ir_types.specs.declared.tree.RawValue.TheVariants as value
use Rattle.ir_types.specs.declared.tree.RawArg.{RawArg}
use Rattle.ir_types.specs.declared.tree.RawParam.{RawParam}
use Rattle.ir_types.specs.declared.tree.RawFunction.{RawFunction}
use Rattle.ir_types.specs.declared.tree.Ty.{Ty}
use Rattle.ir_types.specs.declared.tree.Ty.TheVariants.{Int, Void, Ptr}
use Rattle.ir_types.specs.Definitions.{meaning_of}
use Rattle.ir_types.specs.Literals.{residue, literal_value}
use Rattle.ir_types.specs.Uses.{Context, same_width, same_type, is_undefined, is_across, is_other_value, is_other_variable, is_no_block, is_entry, item_problem, value_problem, address_problem, label_problem, function_named, callee_of, is_void, is_other_callee, callee_problem, escape_problem, typed_problem, arguments_problem}
use Rattle.ir_types.specs.ModuleOf.{constant_of, operand_meaning, operand_of, typed_operand, argument_of, variable_meaning, variable_of, block_meaning, target_of, function_meaning, width_of}
use Rattle.ir_types.specs.WellFormed.{Signature, Scope, variable_width, given_by, HasWidth}
use Rattle.ir_types.specs.Written.{IsLiteral}
use Rattle.tree_rules.proofs.Distinct.{both_none, kept, equal}
use Rattle.tree_rules.proofs.Sorts.{neither}
use Rattle.tree_rules.proofs.Known.{Shape, Knows, AllKnown, looked_up, param_widths}

-- ---- tests as facts

pub holds : (b : Bool) → not b ≡ false → b ≡ true
holds true h = refl
holds false h = cc

of_bits : ℕ → Width
of_bits n = if n == 1 then I1 else (if n == 8 then I8 else (if n == 16 then I16 else (if n == 32 then I32 else I64)))

back : (w : Width) → of_bits (bits w) ≡ w
unfolding of_bits
back I1 = refl
back I8 = refl
back I16 = refl
back I32 = refl
back I64 = refl

pub one_width : (v w : Width) → not (same_width v w) ≡ false → v ≡ w
one_width v w h = sym (back v) ∙ (ap of_bits (equal (bits v) (bits w) h) ∙ back w)

pub one_type : (v w : Ty) → not (same_type v w) ≡ false → v ≡ w
one_type (Int v) (Int w) h = ap Int (one_width v w h)
one_type (Int v) Void h = cc
one_type (Int v) Ptr h = cc
one_type Void (Int w) h = cc
one_type Void Void h = refl
one_type Void Ptr h = cc
one_type Ptr (Int w) h = cc
one_type Ptr Void h = cc
one_type Ptr Ptr h = refl

earlier : (b c i j : ℕ) → ((b == c) && nat_le j i) ≡ false → not (b == c) ≡ false → i < j
earlier b c i j h e = grind (arith, nat_tests)

above_entry : (b : ℕ) → (b == 0) ≡ false → 0 < b
above_entry b h = grind (arith, nat_tests)

-- ---- what is known around a place

-- what a caller sees of a function
abbrev pub raw_signature : RawFunction → Signature
raw_signature f = record { ret = width_of f.ret; params = param_widths f.params }

-- what the instructions of a function of this shape can name
abbrev pub scope_with : Context → List Width → Shape → Scope
scope_with c globals sh = record {
  globals = globals;
  functions = map raw_signature c.functions;
  own = record { ret = width_of c.ret; params = sh.params };
  vars = sh.vars;
  blocks = length sh.blocks;
}

-- what names of a tree with globals of these widths mean
abbrev pub KnowsSymbol : List Width → Meaning → Type 0
KnowsSymbol globals (Global g w) = slice_get globals g ≡ Some w
KnowsSymbol globals (Function _) = Unit {0}
KnowsSymbol globals (Parameter _ _) = ⊥
KnowsSymbol globals (Block _) = ⊥
KnowsSymbol globals (Register _ _ _) = ⊥
KnowsSymbol globals (Variable _ _) = ⊥

pub record IsKnown (c : Context) (globals : List Width) (sh : Shape) : Type 0 where
  pub locals : AllKnown (Knows sh) c.locals
  pub symbols : AllKnown (KnowsSymbol globals) c.symbols

abbrev pub given : Scope → Instr → Option Width
given s i = given_by s i.kind

-- a place behind these instructions of its block
pub record IsBehind (s : Scope) (sh : Shape) (here : Here) (before : List Instr) : Type 0 where
  pub rest : List (Option Width)
  pub types : slice_get sh.blocks here.block ≡ Some (map (given s) before ++ rest)
  pub instrs : here.instr ≡ length before

-- ---- literals

small_bool : (w : Width) (b : Bool) → (if b then 1 else 0) < 2 ^ bits w
small_bool I1 true = omega arith
small_bool I1 false = omega arith
small_bool I8 true = omega arith
small_bool I8 false = omega arith
small_bool I16 true = omega arith
small_bool I16 false = omega arith
small_bool I32 true = omega arith
small_bool I32 false = omega arith
small_bool I64 true = omega arith
small_bool I64 false = omega arith

small_number : (w : Width) (n : ℤ) → residue w n < 2 ^ bits w
small_number I1 (pos n) = omega arith
small_number I8 (pos n) = omega arith
small_number I16 (pos n) = omega arith
small_number I32 (pos n) = omega arith
small_number I64 (pos n) = omega arith
small_number I1 (negsuc n) = omega arith
small_number I8 (negsuc n) = omega arith
small_number I16 (negsuc n) = omega arith
small_number I32 (negsuc n) = omega arith
small_number I64 (negsuc n) = omega arith

pub record IsCounted (w : Width) (v : RawValue) : Type 0 where
  pub value : literal_value w v ≡ Some (constant_of w v)
  pub small : constant_of w v < 2 ^ bits w

-- a literal without a problem is a number of its width
pub literal_counted : (c : Context) (here : Here) (w : Width) (differs : Bool) (s : Span) (v : RawValue) → IsLiteral v → item_problem c here w differs s v ≡ None → IsCounted w v
literal_counted c here w differs s (value.Local name) literal h = absurd literal
literal_counted c here w differs s (value.Number n) literal h = record { value = refl; small = small_number w n }
literal_counted c here w differs s value.Wide literal h = let wrong : true ≡ false = kept rule.ConstantRange s true (both_none _ _ h).1 in cc
literal_counted c here w differs s (value.Bool b) literal h = record { value = refl; small = small_bool w b }
literal_counted c here w differs s value.Zero literal h = record { value = refl; small = small_bool w false }

-- the written type of a value without a problem is the one that is due
no_difference : (c : Context) (here : Here) (w : Width) (differs : Bool) (s : Span) (v : RawValue) → item_problem c here w differs s v ≡ None → differs ≡ false
no_difference c here w differs s (value.Local name) h = (neither differs (is_other_value w (meaning_of c.locals name)) (kept _ _ _ (both_none _ _ (both_none _ _ h).1).0)).0
no_difference c here w differs s (value.Number n) h = kept rule.BadType s differs (both_none _ _ h).0
no_difference c here w differs s value.Wide h = kept rule.BadType s differs (both_none _ _ h).0
no_difference c here w differs s (value.Bool b) h = (neither differs (not (same_width w I1)) (kept rule.BadType s (differs || not (same_width w I1)) h)).0
no_difference c here w differs s value.Zero h = kept rule.BadType s differs h

-- ---- values

earlier_result : (g : Instr → Option Width) (before : List Instr) (rest : List (Option Width)) (i : ℕ) (w : Width) → i < length before → slice_get (map g before ++ rest) i ≡ Some (Some w)
    → option_and_then g (slice_get before i) ≡ Some w
earlier_result g [] rest i w l h = absurd (omega arith)
earlier_result g (x ∷ xs) rest zero w l h = cc
earlier_result g (x ∷ xs) rest (suc i) w l h = earlier_result g xs rest i w (omega arith) h

register_fits : (s : Scope) (sh : Shape) (here : Here) (before : List Instr) (w : Width) (b i : ℕ) (type : Ty) → IsBehind s sh here before → option_and_then (λ ts. slice_get ts i) (slice_get sh.blocks b) ≡ Some (width_of type)
    → b ≡ here.block → type ≡ Int w → i < here.instr → option_and_then (given s) (slice_get before i) ≡ Some w
register_fits s sh here before w b i type behind known same_block same_type l =
    earlier_result (given s) before behind.rest i w (omega (arith, behind.instrs))
    (ap (λ (o : Option (List (Option Width))). option_and_then (λ ts. slice_get ts i) o) (sym behind.types)
    ∙ (ap (λ (n : ℕ). option_and_then (λ ts. slice_get ts i) (slice_get sh.blocks n)) (sym same_block) ∙ (known ∙ ap (λ (t : Ty). Some (width_of t)) same_type)))

module _ (c : Context) (globals : List Width) (sh : Shape) (known : IsKnown c globals sh) where
  value_meaning : (here : Here) (before : List Instr) (w : Width) (m : Option Meaning) → IsBehind (scope_with c globals sh) sh here before → IfSome m (Knows sh) → is_undefined here m ≡ false → is_other_value w m ≡ false → is_across here m ≡ false
      → HasWidth (scope_with c globals sh) before w (operand_meaning m)
  value_meaning here before w None behind k u o a = cc
  value_meaning here before w (Some (Parameter p v)) behind k u o a = k ∙ ap Some (one_width v w o)
  value_meaning here before w (Some (Register b i type)) behind k u o a =
      register_fits (scope_with c globals sh) sh here before w b i type behind k (equal b here.block a) (one_type type (Int w) o) (earlier b here.block i here.instr u a)
  value_meaning here before w (Some (Block b)) behind k u o a = cc
  value_meaning here before w (Some (Variable i v)) behind k u o a = cc
  value_meaning here before w (Some (Function f)) behind k u o a = cc
  value_meaning here before w (Some (Global g v)) behind k u o a = cc

  pub item_fits : (here : Here) (before : List Instr) (w : Width) (differs : Bool) (s : Span) (v : RawValue) → IsBehind (scope_with c globals sh) sh here before → item_problem c here w differs s v ≡ None
      → HasWidth (scope_with c globals sh) before w (operand_of c w v)
  item_fits here before w differs s (value.Local name) behind h =
      let parts = both_none _ _ h in
      let inner = both_none _ _ parts.1 in
      value_meaning here before w (meaning_of c.locals name) behind (looked_up (Knows sh) c.locals known.locals name (meaning_of c.locals name) refl)
      (kept _ _ _ parts.0) (neither differs (is_other_value w (meaning_of c.locals name)) (kept _ _ _ inner.0)).1 (kept _ _ _ inner.1)
  item_fits here before w differs s (value.Number n) behind h = (literal_counted c here w differs s (value.Number n) tt h).small
  item_fits here before w differs s value.Wide behind h = (literal_counted c here w differs s value.Wide tt h).small
  item_fits here before w differs s (value.Bool b) behind h = (literal_counted c here w differs s (value.Bool b) tt h).small
  item_fits here before w differs s value.Zero behind h = (literal_counted c here w differs s value.Zero tt h).small

  pub value_fits : (here : Here) (before : List Instr) (w : Width) (v : At RawValue) → IsBehind (scope_with c globals sh) sh here before → value_problem c here w v ≡ None → HasWidth (scope_with c globals sh) before w (operand_of c w v.item)
  value_fits here before w v behind h = item_fits here before w false v.span v.item behind h

  -- ---- addresses and labels

  local_meaning : (here : Here) (w : Width) (m : Option Meaning) → IfSome m (Knows sh) → is_undefined here m ≡ false → is_other_variable w m ≡ false → variable_width (scope_with c globals sh) (variable_meaning m) ≡ Some w
  local_meaning here w None k u o = cc
  local_meaning here w (Some (Parameter p v)) k u o = cc
  local_meaning here w (Some (Register b i type)) k u o = cc
  local_meaning here w (Some (Block b)) k u o = cc
  local_meaning here w (Some (Variable i v)) k u o = k ∙ ap Some (one_width v w o)
  local_meaning here w (Some (Function f)) k u o = cc
  local_meaning here w (Some (Global g v)) k u o = absurd k

  global_meaning : (here : Here) (w : Width) (m : Option Meaning) → IfSome m (KnowsSymbol globals) → is_undefined here m ≡ false → is_other_variable w m ≡ false → variable_width (scope_with c globals sh) (variable_meaning m) ≡ Some w
  global_meaning here w None k u o = cc
  global_meaning here w (Some (Parameter p v)) k u o = cc
  global_meaning here w (Some (Register b i type)) k u o = cc
  global_meaning here w (Some (Block b)) k u o = cc
  global_meaning here w (Some (Variable i v)) k u o = absurd k
  global_meaning here w (Some (Function f)) k u o = cc
  global_meaning here w (Some (Global g v)) k u o = k ∙ ap Some (one_width v w o)

  place_fits : (here : Here) (w : Width) (s : Span) (a : Address) → address_problem c here w (record { item = a; span = s }) ≡ None → variable_width (scope_with c globals sh) (variable_of c a) ≡ Some w
  place_fits here w s (address.Local name) h =
      let parts = both_none _ _ h in
      local_meaning here w (meaning_of c.locals name) (looked_up (Knows sh) c.locals known.locals name (meaning_of c.locals name) refl) (kept _ _ _ parts.0) (kept _ _ _ parts.1)
  place_fits here w s (address.Global name) h =
      let parts = both_none _ _ h in
      global_meaning here w (meaning_of c.symbols (Text name)) (looked_up (KnowsSymbol globals) c.symbols known.symbols (Text name) (meaning_of c.symbols (Text name)) refl) (kept _ _ _ parts.0) (kept _ _ _ parts.1)

  pub address_fits : (here : Here) (w : Width) (a : At Address) → address_problem c here w a ≡ None → variable_width (scope_with c globals sh) (variable_of c a.item) ≡ Some w
  address_fits here w a h = place_fits here w a.span a.item h

  block_there : (here : Here) (m : Option Meaning) → IfSome m (Knows sh) → is_no_block m ≡ false → is_entry m ≡ false → (0 < block_meaning m) × (block_meaning m < length sh.blocks)
  block_there here None k n e = cc
  block_there here (Some (Parameter p v)) k n e = cc
  block_there here (Some (Register b i type)) k n e = cc
  block_there here (Some (Block b)) k n e = (above_entry b e, k)
  block_there here (Some (Variable i v)) k n e = cc
  block_there here (Some (Function f)) k n e = cc
  block_there here (Some (Global g v)) k n e = cc

  pub label_fits : (here : Here) (l : At Name) → label_problem c here l ≡ None → (0 < target_of c l.item) × (target_of c l.item < length sh.blocks)
  label_fits here l h =
      let parts = both_none _ _ (both_none _ _ h).1 in
      block_there here (meaning_of c.locals l.item) (looked_up (Knows sh) c.locals known.locals l.item (meaning_of c.locals l.item) refl) (kept _ _ _ parts.0) (kept _ _ _ parts.1)

  -- ---- arguments

  no_escape : (here : Here) (s : Span) (v : RawValue) → escape_problem c here s v ≡ None → ⊥
  no_escape here s (value.Local name) h = let wrong : true ≡ false = kept rule.Escapes s true (both_none _ _ h).1 in cc
  no_escape here s (value.Number n) h = let wrong : true ≡ false = kept rule.Escapes s true h in cc
  no_escape here s value.Wide h = let wrong : true ≡ false = kept rule.Escapes s true h in cc
  no_escape here s (value.Bool b) h = let wrong : true ≡ false = kept rule.Escapes s true h in cc
  no_escape here s value.Zero h = let wrong : true ≡ false = kept rule.Escapes s true h in cc

  typed_fits : (here : Here) (before : List Instr) (w : Width) (type : Ty) (v : At RawValue) → IsBehind (scope_with c globals sh) sh here before → typed_problem c here w type v ≡ None → HasWidth (scope_with c globals sh) before w (typed_operand c type v.item)
  typed_fits here before w (Int u) v behind h =
      let due : u ≡ w = one_width u w (no_difference c here u (not (same_width u w)) v.span v.item h) in
      rw (← due) (item_fits here before u (not (same_width u w)) v.span v.item behind h)
  typed_fits here before w Void v behind h = absurd (no_escape here v.span v.item h)
  typed_fits here before w Ptr v behind h = absurd (no_escape here v.span v.item h)

  pub arguments_fit : (here : Here) (before : List Instr) (ps : List RawParam) (arguments : List RawArg) → IsBehind (scope_with c globals sh) sh here before → length ps ≡ length arguments → arguments_problem c here ps arguments ≡ None
      → AllZip (HasWidth (scope_with c globals sh) before) (param_widths ps) (map (argument_of c) arguments)
  unfolding arguments_problem
  arguments_fit here before [] [] behind l h = tt
  arguments_fit here before [] (a ∷ arguments) behind l h = absurd (omega arith)
  arguments_fit here before (p ∷ ps) [] behind l h = absurd (omega arith)
  arguments_fit here before (p ∷ ps) (a ∷ arguments) behind l h =
      let parts = both_none _ _ h in
      (typed_fits here before p.width a.ty a.value behind parts.0, arguments_fit here before ps arguments behind (omega arith) parts.1)

-- ---- callees

-- the function that a name means gives this type and takes so many arguments
pub record IsCallee (c : Context) (type : Ty) (count : ℕ) (m : Option Meaning) : Type 0 where
  pub function : RawFunction
  pub found : slice_get c.functions (function_meaning m) ≡ Some function
  pub named : function_named c m ≡ Some function
  pub ret : function.ret ≡ type
  pub params : length function.params ≡ count

callee_some : (c : Context) (type : Ty) (count f : ℕ) (o : Option RawFunction) → slice_get c.functions f ≡ o → is_other_callee type count o ≡ false → IsCallee c type count (Some (Function f))
callee_some c type count f None e h = cc
callee_some c type count f (Some g) e h =
    let parts = neither (not (same_type g.ret type)) (not (length g.params == count)) h in
    record { function = g; found = e; named = e; ret = one_type g.ret type parts.0; params = equal (length g.params) count parts.1 }

callee_meaning : (c : Context) (type : Ty) (count : ℕ) (m : Option Meaning) → is_other_callee type count (function_named c m) ≡ false → IsCallee c type count m
callee_meaning c type count None h = cc
callee_meaning c type count (Some (Parameter p v)) h = cc
callee_meaning c type count (Some (Register b i t)) h = cc
callee_meaning c type count (Some (Block b)) h = cc
callee_meaning c type count (Some (Variable i v)) h = cc
callee_meaning c type count (Some (Function f)) h = callee_some c type count f (slice_get c.functions f) refl h
callee_meaning c type count (Some (Global g v)) h = cc

pub callee_fits : (c : Context) (type : Ty) (is_named : Bool) (count : ℕ) (callee : At (List ℕ)) → callee_problem c type is_named count callee ≡ None → IsCallee c type count (meaning_of c.symbols (Text callee.item))
callee_fits c type is_named count callee h =
    callee_meaning c type count (meaning_of c.symbols (Text callee.item))
    (neither (is_void type && is_named) (is_other_callee type count (callee_of c callee.item)) (kept _ _ _ (both_none _ _ h).1)).1
