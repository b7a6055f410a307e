-- The forms of an instruction and its tree, each once.
use Rattle.std.proofs.Common.{◌≡◌, ℕ, List, [], ◌∷◌, Some, slice_get, sym, subst}
use Rattle.mc_num.specs.declared.op.Bin.{Bin as BinOp}
use Rattle.mc_num.specs.declared.op.Pred.{Pred}
use Rattle.mc_num.specs.declared.op.Cast.{Cast as CastOp}
use Rattle.mc_num.specs.declared.op.Op.{Op}
use Rattle.mc_num.specs.declared.op.Op.TheVariants as op
use Rattle.mc_num.specs.declared.op.Width.{Width}
use Rattle.mc_num.specs.declared.op.Width.TheVariants.{I1}
use Rattle.ir_types.specs.Program.{Program}
use Rattle.ir_types.specs.TreeOf.{value_tree, address_tree, IsTreeKind, IsTreeCall, IsTreeOperand, AreTreeOperands, AreTreeChoices}
use Rattle.ir_types.specs.WellFormed.{scope, variable_width}
use Rattle.ir_types.specs.declared.span.At.{At}
use Rattle.ir_types.specs.declared.syntax.Block.{Block}
use Rattle.ir_types.specs.declared.syntax.Function.{Function}
use Rattle.ir_types.specs.declared.syntax.Kind.{Kind}
use Rattle.ir_types.specs.declared.syntax.Kind.TheVariants.{Load, Store, Compute, Call}
use Rattle.ir_types.specs.declared.syntax.Operand.{Operand}
use Rattle.ir_types.specs.declared.syntax.Variable.{Variable}
use Rattle.ir_types.specs.declared.tree.Address.{Address}
use Rattle.ir_types.specs.declared.tree.RawArg.{RawArg}
use Rattle.ir_types.specs.declared.tree.RawKind.{RawKind}
use Rattle.ir_types.specs.declared.tree.RawKind.TheVariants as forms
use Rattle.ir_types.specs.declared.tree.RawValue.{RawValue}
use Rattle.ir_types.specs.declared.tree.Ty.{Ty}

-- what holds of these forms holds of each instruction and its tree
pub record HoldsOfForms (m : Program) (f : Function) (b : Block) (P : Kind → RawKind → Type 0) : Type 0 where
  pub load : (v : Variable) (w : Width) (a : At Address) → variable_width (scope m f) v ≡ Some w → a.item ≡ address_tree m f v → P (Load v) (forms.Load w a)
  pub store : (o : Operand) (v : Variable) (w : Width) (x : At RawValue) (a : At Address) → variable_width (scope m f) v ≡ Some w → x.item ≡ value_tree f b w o
      → a.item ≡ address_tree m f v → P (Store o v) (forms.Store w x a)
  pub bin : (o : BinOp) (w : Width) (one other : Operand) (x y : At RawValue) → x.item ≡ value_tree f b w one → y.item ≡ value_tree f b w other
      → P (Compute (op.Bin o w) (one ∷ other ∷ [])) (forms.Bin o w x y)
  pub icmp : (o : Pred) (w : Width) (one other : Operand) (x y : At RawValue) → x.item ≡ value_tree f b w one → y.item ≡ value_tree f b w other
      → P (Compute (op.Icmp o w) (one ∷ other ∷ [])) (forms.Icmp o w x y)
  pub cast : (o : CastOp) (from to : Width) (one : Operand) (x : At RawValue) (u : At Width) → u.item ≡ to → x.item ≡ value_tree f b from one
      → P (Compute (op.Cast o from to) (one ∷ [])) (forms.Cast o from x u)
  pub select : (w : Width) (test one other : Operand) (t x : At RawValue) (u : At Width) (y : At RawValue) → u.item ≡ w → t.item ≡ value_tree f b I1 test
      → x.item ≡ value_tree f b w one → y.item ≡ value_tree f b w other → P (Compute (op.Select w) (test ∷ one ∷ other ∷ [])) (forms.Select t w x u y)
  pub call : (n : ℕ) (g : Function) (os : List Operand) (type : Ty) (name : At (List ℕ)) (xs : List RawArg) → slice_get m.functions n ≡ Some g
      → IsTreeCall f b g os type name.item xs → P (Call n os) (forms.Call type name xs)

module _ (m : Program) (f : Function) (b : Block) (P : Kind → RawKind → Type 0) (holds : HoldsOfForms m f b P) where
  of_load : (v : Variable) (x : RawKind) → IsTreeKind m f b (Load v) x → P (Load v) x
  of_load v (forms.Load w a) t = holds.load v w a t.0 t.1
  of_load v _ t = elim t [ ]

  of_store : (o : Operand) (v : Variable) (x : RawKind) → IsTreeKind m f b (Store o v) x → P (Store o v) x
  of_store o v (forms.Store w x a) t = holds.store o v w x a t.0 t.1 t.2
  of_store o v _ t = elim t [ ]

  bin_operands : (o : BinOp) (w : Width) (os : List Operand) (x y : At RawValue) → AreTreeOperands f b w os x y → P (Compute (op.Bin o w) os) (forms.Bin o w x y)
  bin_operands o w (one ∷ other ∷ []) x y t = holds.bin o w one other x y t.0 t.1
  bin_operands o w _ x y t = elim t [ ]

  of_bin : (o : BinOp) (w : Width) (os : List Operand) (x : RawKind) → IsTreeKind m f b (Compute (op.Bin o w) os) x → P (Compute (op.Bin o w) os) x
  of_bin o w os (forms.Bin p v x y) t =
      subst (λ q. P (Compute (op.Bin o w) os) (forms.Bin q v x y)) (sym t.0)
      (subst (λ z. P (Compute (op.Bin o w) os) (forms.Bin o z x y)) (sym t.1) (bin_operands o w os x y t.2))
  of_bin o w os _ t = elim t [ ]

  icmp_operands : (o : Pred) (w : Width) (os : List Operand) (x y : At RawValue) → AreTreeOperands f b w os x y → P (Compute (op.Icmp o w) os) (forms.Icmp o w x y)
  icmp_operands o w (one ∷ other ∷ []) x y t = holds.icmp o w one other x y t.0 t.1
  icmp_operands o w _ x y t = elim t [ ]

  of_icmp : (o : Pred) (w : Width) (os : List Operand) (x : RawKind) → IsTreeKind m f b (Compute (op.Icmp o w) os) x → P (Compute (op.Icmp o w) os) x
  of_icmp o w os (forms.Icmp p v x y) t =
      subst (λ q. P (Compute (op.Icmp o w) os) (forms.Icmp q v x y)) (sym t.0)
      (subst (λ z. P (Compute (op.Icmp o w) os) (forms.Icmp o z x y)) (sym t.1) (icmp_operands o w os x y t.2))
  of_icmp o w os _ t = elim t [ ]

  cast_operand : (o : CastOp) (from to : Width) (os : List Operand) (x : At RawValue) (u : At Width) → u.item ≡ to → IsTreeOperand f b from os x
      → P (Compute (op.Cast o from to) os) (forms.Cast o from x u)
  cast_operand o from to (one ∷ []) x u e t = holds.cast o from to one x u e t
  cast_operand o from to _ x u e t = elim t [ ]

  of_cast : (o : CastOp) (from to : Width) (os : List Operand) (x : RawKind) → IsTreeKind m f b (Compute (op.Cast o from to) os) x → P (Compute (op.Cast o from to) os) x
  of_cast o from to os (forms.Cast p v x u) t =
      subst (λ q. P (Compute (op.Cast o from to) os) (forms.Cast q v x u)) (sym t.0)
      (subst (λ z. P (Compute (op.Cast o from to) os) (forms.Cast o z x u)) (sym t.1) (cast_operand o from to os x u t.2 t.3))
  of_cast o from to os _ t = elim t [ ]

  select_operands : (w : Width) (os : List Operand) (t x : At RawValue) (u : At Width) (y : At RawValue) → u.item ≡ w → AreTreeChoices f b w os t x y
      → P (Compute (op.Select w) os) (forms.Select t w x u y)
  select_operands w (test ∷ one ∷ other ∷ []) t x u y e h = holds.select w test one other t x u y e h.0 h.1 h.2
  select_operands w _ t x u y e h = elim h [ ]

  of_select : (w : Width) (os : List Operand) (x : RawKind) → IsTreeKind m f b (Compute (op.Select w) os) x → P (Compute (op.Select w) os) x
  of_select w os (forms.Select t v x u y) h =
      subst (λ z. P (Compute (op.Select w) os) (forms.Select t z x u y)) (sym h.0) (select_operands w os t x u y h.1 h.2)
  of_select w os _ h = elim h [ ]

  of_call : (n : ℕ) (os : List Operand) (x : RawKind) → IsTreeKind m f b (Call n os) x → P (Call n os) x
  of_call n os (forms.Call type name xs) t = holds.call n t.0 os type name xs t.1 t.2
  of_call n os _ t = elim t [ ]

  of_compute : (o : Op) (os : List Operand) (x : RawKind) → IsTreeKind m f b (Compute o os) x → P (Compute o os) x
  of_compute (op.Bin o w) os x t = of_bin o w os x t
  of_compute (op.Icmp o w) os x t = of_icmp o w os x t
  of_compute (op.Cast o from to) os x t = of_cast o from to os x t
  of_compute (op.Select w) os x t = of_select w os x t

  pub of_each : (k : Kind) (x : RawKind) → IsTreeKind m f b k x → P k x
  of_each (Load v) x t = of_load v x t
  of_each (Store o v) x t = of_store o v x t
  of_each (Compute o os) x t = of_compute o os x t
  of_each (Call n os) x t = of_call n os x t
