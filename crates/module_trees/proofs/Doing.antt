-- What an instruction of a tree does has no problem, and means what the instruction does.
use Rattle.std.proofs.Common.{◌≡◌, ◌==◌, ◌&&◌, ◌||◌, not, ℕ, Bool, true, false, List, [], ◌∷◌, Option, None, Some, IsSomeAnd, length, take, slice_get, refl, sym, ap, subst, ◌∙◌, arith}
use Rattle.std.specs.Option.{option_and_then, option_map_or, is_some, is_none}
use Rattle.std.specs.List.{AllZip}
use Rattle.std.proofs.lemmas.Bool.Decides.{nat_tests}
use Rattle.std.proofs.lemmas.Option.{same_Some}
use Rattle.mc_num.specs.Op.{IsWellFormedOp}
use Rattle.mc_num.specs.declared.op.Bin.{Bin as BinOp}
use Rattle.mc_num.specs.declared.op.Pred.{Pred}
use Rattle.mc_num.specs.declared.op.Cast.{Cast as CastOp}
use Rattle.mc_num.specs.declared.op.Cast.TheVariants.{Zext, Sext, Trunc, Bitcast}
use Rattle.mc_num.specs.declared.op.Op.TheVariants as op
use Rattle.mc_num.specs.declared.op.Width.{Width}
use Rattle.mc_num.specs.declared.op.Width.TheVariants.{I1}
use Rattle.ir_types.specs.Program.{Program}
use Rattle.ir_types.specs.Definitions.{meaning_of}
use Rattle.ir_types.specs.Limits.{is_alloca}
use Rattle.ir_types.specs.ModuleOf.{var_of, kind_of, gives, function_meaning}
use Rattle.ir_types.specs.Rules.{Reached, here, result_type, register, result_meaning, kind_problem}
use Rattle.ir_types.specs.Uses.{Context, same_width, same_type, casts, is_void, is_other_callee, function_named, callee_of, params_of, arguments_problem}
use Rattle.ir_types.specs.TreeOf.{type_tree, value_tree, address_tree, IsTreeKind, IsTreeCall, IsTreeFunction, IsTreeParam, IsTreeType, AreTreeParams}
use Rattle.ir_types.specs.WellFormed.{Scope, Signature, scope, signature, widths, HasWidth, Fits, given_by, variable_width, IsBlockIn}
use Rattle.ir_types.specs.declared.name.Name.{Name}
use Rattle.ir_types.specs.declared.name.Name.TheVariants.{Text}
use Rattle.ir_types.specs.declared.rules.Meaning.TheVariants as meaning
use Rattle.ir_types.specs.declared.rules.Rule.TheVariants as rule
use Rattle.ir_types.specs.declared.span.At.{At}
use Rattle.ir_types.specs.declared.span.Span.{Span}
use Rattle.ir_types.specs.declared.syntax.Block.{Block}
use Rattle.ir_types.specs.declared.syntax.Function.{Function}
use Rattle.ir_types.specs.declared.syntax.Kind.{Kind}
use Rattle.ir_types.specs.declared.syntax.Kind.TheVariants.{Load, Store, Compute, Call}
use Rattle.ir_types.specs.declared.syntax.Operand.{Operand}
use Rattle.ir_types.specs.declared.syntax.Variable.{Variable}
use Rattle.ir_types.specs.declared.tree.Address.{Address}
use Rattle.ir_types.specs.declared.tree.RawArg.{RawArg}
use Rattle.ir_types.specs.declared.tree.RawFunction.{RawFunction}
use Rattle.ir_types.specs.declared.tree.RawInstr.{RawInstr}
use Rattle.ir_types.specs.declared.tree.RawKind.{RawKind}
use Rattle.ir_types.specs.declared.tree.RawKind.TheVariants as forms
use Rattle.ir_types.specs.declared.tree.RawParam.{RawParam}
use Rattle.ir_types.specs.declared.tree.RawValue.{RawValue}
use Rattle.ir_types.specs.declared.tree.Ty.{Ty}
use Rattle.ir_types.specs.declared.tree.Ty.TheVariants.{Int, Void, Ptr}
use Rattle.module_trees.proofs.Forms.{HoldsOfForms, of_each}
use Rattle.module_trees.proofs.Lists.{Beside, mapped}
use Rattle.module_trees.proofs.Problems.{then_none, unbroken}
use Rattle.module_trees.proofs.Uses.{Knows, IsMeantValue, IsMeantAddress, value_meant, address_meant, arguments_meant, same_as_itself, equal_itself}

-- ---- shapes

-- what the form of an instruction says of its result
pub record IsShaped (s : Scope) (k : Kind) (x : RawKind) : Type 0 where
  pub alloca : is_alloca x ≡ false
  pub typed : (named : Bool) (w : Width) → given_by s k ≡ Some w → result_type named x ≡ Some (Int w)
  pub untyped : given_by s k ≡ None → result_type false x ≡ None
  pub meaning : (r : Reached) (named : Bool) → result_meaning r named x ≡ register r (result_type named x)
  pub var : (r : Reached) (y : RawInstr) → var_of r y x ≡ None
  pub gives_same : gives x ≡ is_some (given_by s k)

-- an instruction that gives a result of this width
of_width : (s : Scope) (k : Kind) (x : RawKind) (w : Width) → given_by s k ≡ Some w → is_alloca x ≡ false → ((named : Bool) → result_type named x ≡ Some (Int w))
    → ((r : Reached) (named : Bool) → result_meaning r named x ≡ register r (result_type named x)) → ((r : Reached) (y : RawInstr) → var_of r y x ≡ None) → gives x ≡ true
    → IsShaped s k x
of_width s k x w given alloca typed meaning var gives_true = record {
  alloca = alloca;
  typed = λ named v e. let same : w ≡ v = same_Some w v (sym given ∙ e) in typed named ∙ ap (λ z. Some (Int z)) same;
  untyped = λ e. let never : Some w ≡ None = sym given ∙ e in cc;
  meaning = meaning;
  var = var;
  gives_same = gives_true ∙ sym (ap is_some given);
}

module _ (m : Program) (f : Function) (b : Block) where
  Shaped : Kind → RawKind → Type 0
  Shaped k x = IsShaped (scope m f) k x

  call_given : (n : ℕ) (g : Function) (os : List Operand) → slice_get m.functions n ≡ Some g → given_by (scope m f) (Call n os) ≡ g.ret
  call_given n g os e = ap (λ (o : Option Signature). option_and_then (λ s. s.ret) o) (mapped signature m.functions n g e)

  call_shaped : (n : ℕ) (os : List Operand) (ret : Option Width) (name : At (List ℕ)) (xs : List RawArg) → given_by (scope m f) (Call n os) ≡ ret
      → IsShaped (scope m f) (Call n os) (forms.Call (type_tree ret) name xs)
  call_shaped n os (Some w) name xs given = of_width (scope m f) (Call n os) (forms.Call (Int w) name xs) w given refl (λ named. refl) (λ r named. refl) (λ r y. refl) refl
  call_shaped n os None name xs given = record {
    alloca = refl;
    typed = λ named w e. let never : None ≡ Some w = sym given ∙ e in cc;
    untyped = λ e. refl;
    meaning = λ r named. refl;
    var = λ r y. refl;
    gives_same = sym (ap is_some given);
  }

  all_shaped : HoldsOfForms m f b Shaped
  unfolding Shaped
  all_shaped = record {
    load = λ v w a width t. of_width (scope m f) (Load v) (forms.Load w a) w width refl (λ named. refl) (λ r named. refl) (λ r y. refl) refl;
    store = λ o v w x a width t u. record {
      alloca = refl;
      typed = λ named w e. let never : None ≡ Some w = e in cc;
      untyped = λ e. refl;
      meaning = λ r named. refl;
      var = λ r y. refl;
      gives_same = refl;
    };
    bin = λ o w one other x y t u. of_width (scope m f) (Compute (op.Bin o w) (one ∷ other ∷ [])) (forms.Bin o w x y) w refl refl (λ named. refl) (λ r named. refl) (λ r y. refl) refl;
    icmp = λ o w one other x y t u. of_width (scope m f) (Compute (op.Icmp o w) (one ∷ other ∷ [])) (forms.Icmp o w x y) I1 refl refl (λ named. refl) (λ r named. refl) (λ r y. refl) refl;
    cast = λ o from to one x u e t.
        of_width (scope m f) (Compute (op.Cast o from to) (one ∷ [])) (forms.Cast o from x u) to refl refl (λ named. ap (λ z. Some (Int z)) e) (λ r named. refl) (λ r y. refl) refl;
    select = λ w test one other t x u y e h i j.
        of_width (scope m f) (Compute (op.Select w) (test ∷ one ∷ other ∷ [])) (forms.Select t w x u y) w refl refl (λ named. refl) (λ r named. refl) (λ r y. refl) refl;
    call = λ n g os type name xs e t.
        subst (λ z. IsShaped (scope m f) (Call n os) (forms.Call z name xs)) (sym t.type_is) (call_shaped n os g.ret name xs (call_given n g os e));
  }

  pub shaped : (k : Kind) (x : RawKind) → IsTreeKind m f b k x → IsShaped (scope m f) k x
  unfolding Shaped
  shaped k x t = of_each m f b Shaped all_shaped k x t

-- ---- callees

same_type_itself : (t : Ty) → same_type t t ≡ true
same_type_itself (Int w) = same_as_itself w
same_type_itself Void = refl
same_type_itself Ptr = refl

widths_of : (R : Width × Name → RawParam → Type 0) → ((p : Width × Name) (x : RawParam) → R p x → x.width ≡ p.0) → (ps : List (Width × Name)) (xs : List RawParam) → AllZip R ps xs
    → AllZip (λ w p. p.width ≡ w) (widths ps) xs
widths_of R same [] [] h = tt
widths_of R same [] (x ∷ xs) h = elim h [ ]
widths_of R same (p ∷ ps) [] h = elim h [ ]
widths_of R same (p ∷ ps) (x ∷ xs) h = (same p x h.0, widths_of R same ps xs h.1)

params_fit : (g : Function) (bs : List Block) (xs : List RawParam) → AreTreeParams g bs xs → AllZip (λ w p. p.width ≡ w) (widths g.params) xs
params_fit g [] xs h = widths_of IsTreeType (λ p x t. t.width) g.params xs h
params_fit g (b ∷ bs) xs h = widths_of IsTreeParam (λ p x t. t.width) g.params xs h

both_false : (a b : Bool) → a ≡ false → b ≡ false → (a || b) ≡ false
both_false a b e g = λ i. e i || g i

void_unnamed : (ret : Option Width) (named : Bool) → named ≡ is_some ret → (is_void (type_tree ret) && named) ≡ false
void_unnamed None named e = e
void_unnamed (Some w) named e = refl

-- ---- what is done

pub record IsMeantKind (c : Context) (r : Reached) (named : Bool) (word : Span) (k : Kind) (x : RawKind) : Type 0 where
  pub problem : kind_problem c r named word x ≡ None
  pub means : kind_of c x ≡ Some k

casts_fit : (o : CastOp) (from to : Width) → IsWellFormedOp (op.Cast o from to) → casts o from to ≡ true
casts_fit Zext from to h = grind (arith, nat_tests, h)
casts_fit Sext from to h = grind (arith, nat_tests, h)
casts_fit Trunc from to h = grind (arith, nat_tests, h)
casts_fit Bitcast from to h = subst (λ w. same_width from w ≡ true) h (same_as_itself from)

module _ (m : Program) (f : Function) (c : Context) (known : Knows m f c) (r : Reached) (b : Block) (there : slice_get f.blocks r.block ≡ Some b) (rules_of : IsBlockIn (scope m f) b) where
  Meant : Kind → RawKind → Type 0
  Meant k x = (named : Bool) (word : Span) → Fits (scope m f) (take r.instrs b.instrs) k → named ≡ is_some (given_by (scope m f) k) → IsMeantKind c r named word k x

  value : (w : Width) (o : Operand) (v : At RawValue) → HasWidth (scope m f) (take r.instrs b.instrs) w o → v.item ≡ value_tree f b w o → IsMeantValue c (here r) w o v.span v.item
  value w o v h e = value_meant m f c known r.block b there rules_of r.instrs w o v.span v.item h e

  address : (w : Width) (v : Variable) (a : At Address) → variable_width (scope m f) v ≡ Some w → a.item ≡ address_tree m f v → IsMeantAddress c (here r) w v a.span a.item
  address w v a width e = address_meant m f c known r.block b there (here r) w v a.span a.item width e

  load_meant : (v : Variable) (w : Width) (a : At Address) → variable_width (scope m f) v ≡ Some w → a.item ≡ address_tree m f v → Meant (Load v) (forms.Load w a)
  unfolding Meant
  load_meant v w a width t named word fits e = let one = address w v a width t in record { problem = one.problem; means = ap (λ z. Some (Load z)) one.means }

  store_meant : (o : Operand) (v : Variable) (w : Width) (x : At RawValue) (a : At Address) → variable_width (scope m f) v ≡ Some w → x.item ≡ value_tree f b w o
      → a.item ≡ address_tree m f v → Meant (Store o v) (forms.Store w x a)
  unfolding Meant
  store_meant o v w x a width t u named word fits e =
      let stored : HasWidth (scope m f) (take r.instrs b.instrs) w o =
      subst (λ z. IsSomeAnd z (λ y. HasWidth (scope m f) (take r.instrs b.instrs) y o)) width fits in
      let one = value w o x stored t in
      let other = address w v a width u in
      record { problem = then_none _ _ one.problem other.problem; means = λ i. Some (Store (one.means i) (other.means i)) }

  bin_meant : (o : BinOp) (w : Width) (one other : Operand) (x y : At RawValue) → x.item ≡ value_tree f b w one → y.item ≡ value_tree f b w other
      → Meant (Compute (op.Bin o w) (one ∷ other ∷ [])) (forms.Bin o w x y)
  unfolding Meant
  bin_meant o w one other x y t u named word fits e =
      let left = value w one x fits.operands_fit.0 t in
      let right = value w other y fits.operands_fit.1.0 u in
      record { problem = then_none _ _ left.problem right.problem; means = λ i. Some (Compute (op.Bin o w) (left.means i ∷ right.means i ∷ [])) }

  icmp_meant : (o : Pred) (w : Width) (one other : Operand) (x y : At RawValue) → x.item ≡ value_tree f b w one → y.item ≡ value_tree f b w other
      → Meant (Compute (op.Icmp o w) (one ∷ other ∷ [])) (forms.Icmp o w x y)
  unfolding Meant
  icmp_meant o w one other x y t u named word fits e =
      let left = value w one x fits.operands_fit.0 t in
      let right = value w other y fits.operands_fit.1.0 u in
      record { problem = then_none _ _ left.problem right.problem; means = λ i. Some (Compute (op.Icmp o w) (left.means i ∷ right.means i ∷ [])) }

  cast_meant : (o : CastOp) (from to : Width) (one : Operand) (x : At RawValue) (u : At Width) → u.item ≡ to → x.item ≡ value_tree f b from one
      → Meant (Compute (op.Cast o from to) (one ∷ [])) (forms.Cast o from x u)
  unfolding Meant
  cast_meant o from to one x u same t named word fits e =
      let only = value from one x fits.operands_fit.0 t in
      record {
        problem = then_none _ _ only.problem (unbroken rule.BadType u.span _ (ap (λ z. not (casts o from z)) same ∙ ap not (casts_fit o from to fits.exists)));
        means = λ i. Some (Compute (op.Cast o from (same i)) (only.means i ∷ []));
      }

  select_meant : (w : Width) (test one other : Operand) (t x : At RawValue) (u : At Width) (y : At RawValue) → u.item ≡ w → t.item ≡ value_tree f b I1 test
      → x.item ≡ value_tree f b w one → y.item ≡ value_tree f b w other → Meant (Compute (op.Select w) (test ∷ one ∷ other ∷ [])) (forms.Select t w x u y)
  unfolding Meant
  select_meant w test one other t x u y same h i j named word fits e =
      let first = value I1 test t fits.operands_fit.0 h in
      let left = value w one x fits.operands_fit.1.0 i in
      let right = value w other y fits.operands_fit.1.1.0 j in
      record {
        problem =
            then_none _ _ first.problem
            (then_none _ _ left.problem
            (then_none _ _ (unbroken rule.BadType u.span _ (ap (λ z. not (same_width z w)) same ∙ ap not (same_as_itself w))) right.problem));
        means = λ k. Some (Compute (op.Select w) (first.means k ∷ left.means k ∷ right.means k ∷ []));
      }

  call_meant : (n : ℕ) (g : Function) (os : List Operand) (type : Ty) (name : At (List ℕ)) (xs : List RawArg) → slice_get m.functions n ≡ Some g
      → IsTreeCall f b g os type name.item xs → Meant (Call n os) (forms.Call type name xs)
  unfolding Meant
  call_meant n g os type name xs is_g t named word fits e =
      let raw : Beside (IsTreeFunction m) c.functions n g = known.tree n g is_g in
      let callee : RawFunction = raw.item in
      let means : meaning_of c.symbols (Text name.item) ≡ Some (meaning.Function n) = ap (λ z. meaning_of c.symbols (Text z)) t.named ∙ known.function n g is_g in
      let callee_is : callee_of c name.item ≡ Some callee = ap (function_named c) means ∙ raw.is in
      let params_are : params_of c name.item ≡ callee.params = ap (λ (o : Option RawFunction). option_map_or (λ (x : RawFunction). x.params) o []) callee_is in
      let widths_fit : AllZip (HasWidth (scope m f) (take r.instrs b.instrs)) (widths g.params) os =
      subst (λ (o : Option Signature). IsSomeAnd o (λ s. AllZip (HasWidth (scope m f) (take r.instrs b.instrs)) s.params os)) (mapped signature m.functions n g is_g) fits in
      let arguments = arguments_meant m f c known r.block b there rules_of r.instrs (widths g.params) callee.params os xs (params_fit g g.blocks callee.params raw.holds.params) widths_fit t.arguments in
      let returns : named ≡ is_some g.ret = e ∙ ap is_some (call_given m f b n g os is_g) in
      let other : is_other_callee type (length xs) (Some callee) ≡ false =
      both_false _ _ (ap not ((λ i. same_type (raw.holds.gives i) (t.type_is i)) ∙ same_type_itself (type_tree g.ret)))
      (ap not (ap (λ k. length callee.params == k) arguments.count ∙ equal_itself (length callee.params))) in
      record {
        problem =
            then_none _ _
            (then_none _ _ (unbroken rule.Undefined name.span _ (ap is_none means))
            (unbroken rule.BadType name.span _ (
            both_false _ _ (ap (λ z. is_void z && named) t.type_is ∙ void_unnamed g.ret named returns)
            (ap (is_other_callee type (length xs)) callee_is ∙ other))))
            (ap (λ ps. arguments_problem c (here r) ps xs) params_are ∙ arguments.problem);
        means = λ i. Some (Call (function_meaning (means i)) (arguments.means i));
      }

  all_meant : HoldsOfForms m f b Meant
  all_meant = record { load = load_meant; store = store_meant; bin = bin_meant; icmp = icmp_meant; cast = cast_meant; select = select_meant; call = call_meant }

  pub kind_meant : (named : Bool) (word : Span) (k : Kind) (x : RawKind) → Fits (scope m f) (take r.instrs b.instrs) k → named ≡ is_some (given_by (scope m f) k) → IsTreeKind m f b k x
      → IsMeantKind c r named word k x
  unfolding Meant
  kind_meant named word k x fits e t = of_each m f b Meant all_meant k x t named word fits e
