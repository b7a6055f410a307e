-- The derived comparison of expressions is equality.
use Rattle.std.proofs.Common.{◌≡◌, Bool, true, false, ◌&&◌, List, [], ◌∷◌, refl, sym, ap, ◌∙◌, rules}
use Rattle.std.specs.Cmp.Lexicographic.{pointwise}
use Rattle.std.proofs.lemmas.Bool.{true≢false}
use denote.Enum.Bare.{same_true}
use Rattle.mc_num.specs.declared.op.Width.{Width}
use Rattle.mc_num.specs.declared.op.Bin.{Bin as BinOp}
use Rattle.mc_num.specs.declared.op.Pred.{Pred}
use Rattle.mc_num.specs.declared.op.Cast.{Cast as CastOp}
use Rattle.mc_num.specs.declared.op.Op.{Op}
use Rattle.mc_num.specs.declared.op.Op.TheVariants.{Bin, Icmp, Cast, Select}
use Rattle.mc_num.specs.contracts.op.Width as width_type
use Rattle.mc_num.specs.contracts.op.Bin as bin_type
use Rattle.mc_num.specs.contracts.op.Pred as pred_type
use Rattle.mc_num.specs.contracts.op.Cast as cast_type
use Rattle.mc_num.specs.contracts.op.WidthPartialEq.TheImpl as widths
use Rattle.mc_num.specs.contracts.op.BinPartialEq.TheImpl as bins
use Rattle.mc_num.specs.contracts.op.PredPartialEq.TheImpl as preds
use Rattle.mc_num.specs.contracts.op.CastPartialEq.TheImpl as casts
use Rattle.mc_num.specs.contracts.op.OpPartialEq.TheImpl as ops
use Rattle.expressions.specs.declared.syntax.Arg.{Arg}
use Rattle.expressions.specs.declared.syntax.Expr.{Expr}
use Rattle.expressions.specs.contracts.syntax.ArgPartialEq.TheImpl as args
use Rattle.expressions.specs.contracts.syntax.ExprPartialEq.TheImpl as exprs
use Rattle.expressions.specs.contracts.syntax.ExprEq.TheImpl.Laws.{laws-law}

-- ---- enums without fields

same_width : (a b : Width) → widths.eq-value.it a b ≡ true → a ≡ b
same_width a b h = same_true width_type.the_type tt a b h

same_bin : (a b : BinOp) → bins.eq-value.it a b ≡ true → a ≡ b
same_bin a b h = same_true bin_type.the_type tt a b h

same_pred : (a b : Pred) → preds.eq-value.it a b ≡ true → a ≡ b
same_pred a b h = same_true pred_type.the_type tt a b h

same_cast : (a b : CastOp) → casts.eq-value.it a b ≡ true → a ≡ b
same_cast a b h = same_true cast_type.the_type tt a b h

-- ---- operations

not_so : {A : Type 0} → false ≡ true → A
not_so h = absurd (true≢false (sym h))

bin_same : (b c : BinOp) (w v : Width) → ops.eq-value.it (Bin b w) (Bin c v) ≡ true → Bin b w ≡ Bin c v
bin_same b c w v h = by (bins.eq-value.it b c) (widths.eq-value.it w v) refl refl
  where
    by : (p q : Bool) → bins.eq-value.it b c ≡ p → widths.eq-value.it w v ≡ q → Bin b w ≡ Bin c v
    by true true e f = ap (λ x. Bin x w) (same_bin b c e) ∙ ap (Bin c) (same_width w v f)
    by false q e f = not_so (rw e at h)
    by true false e f = not_so (rw (e, f) at h)

icmp_same : (b c : Pred) (w v : Width) → ops.eq-value.it (Icmp b w) (Icmp c v) ≡ true → Icmp b w ≡ Icmp c v
icmp_same b c w v h = by (preds.eq-value.it b c) (widths.eq-value.it w v) refl refl
  where
    by : (p q : Bool) → preds.eq-value.it b c ≡ p → widths.eq-value.it w v ≡ q → Icmp b w ≡ Icmp c v
    by true true e f = ap (λ x. Icmp x w) (same_pred b c e) ∙ ap (Icmp c) (same_width w v f)
    by false q e f = not_so (rw e at h)
    by true false e f = not_so (rw (e, f) at h)

cast_same : (b c : CastOp) (w v u t : Width) → ops.eq-value.it (Cast b w u) (Cast c v t) ≡ true → Cast b w u ≡ Cast c v t
cast_same b c w v u t h = by (casts.eq-value.it b c) (widths.eq-value.it w v) (widths.eq-value.it u t) refl refl refl
  where
    by : (p q r : Bool) → casts.eq-value.it b c ≡ p → widths.eq-value.it w v ≡ q → widths.eq-value.it u t ≡ r → Cast b w u ≡ Cast c v t
    by true true true e f g = ap (λ x. Cast x w u) (same_cast b c e) ∙ ap (λ x. Cast c x u) (same_width w v f) ∙ ap (Cast c v) (same_width u t g)
    by false q r e f g = not_so (rw e at h)
    by true false r e f g = not_so (rw (e, f) at h)
    by true true false e f g = not_so (rw (e, f, g) at h)

select_same : (w v : Width) → ops.eq-value.it (Select w) (Select v) ≡ true → Select w ≡ Select v
select_same w v h = by (widths.eq-value.it w v) refl
  where
    by : (p : Bool) → widths.eq-value.it w v ≡ p → Select w ≡ Select v
    by true e = ap Select (same_width w v e)
    by false e = not_so (rw e at h)

same_op : (x y : Op) → ops.eq-value.it x y ≡ true → x ≡ y
same_op (Bin b w) (Bin c v) h = bin_same b c w v h
same_op (Bin b w) (Icmp c v) h = not_so h
same_op (Bin b w) (Cast c v t) h = not_so h
same_op (Bin b w) (Select v) h = not_so h
same_op (Icmp b w) (Bin c v) h = not_so h
same_op (Icmp b w) (Icmp c v) h = icmp_same b c w v h
same_op (Icmp b w) (Cast c v t) h = not_so h
same_op (Icmp b w) (Select v) h = not_so h
same_op (Cast b w u) (Bin c v) h = not_so h
same_op (Cast b w u) (Icmp c v) h = not_so h
same_op (Cast b w u) (Cast c v t) h = cast_same b c w v u t h
same_op (Cast b w u) (Select v) h = not_so h
same_op (Select w) (Bin c v) h = not_so h
same_op (Select w) (Icmp c v) h = not_so h
same_op (Select w) (Cast c v t) h = not_so h
same_op (Select w) (Select v) h = select_same w v h

-- ---- operands

same_arg : (x y : Arg) → args.eq-value.it x y ≡ true → x ≡ y
same_arg x y h = search rules

both : (p q : Bool) → (p && q) ≡ true → (p ≡ true) × (q ≡ true)
both true q h = (refl, h)
both false q h = not_so h

same_args : (xs ys : List Arg) → pointwise args.eq-value.it xs ys ≡ true → xs ≡ ys
same_args [] [] h = refl
same_args [] (y ∷ ys) h = not_so h
same_args (x ∷ xs) [] h = not_so h
same_args (x ∷ xs) (y ∷ ys) h =
    let parts = both (args.eq-value.it x y) (pointwise args.eq-value.it xs ys) h in
    ap (λ z. z ∷ xs) (same_arg x y parts.0) ∙ ap (λ l. y ∷ l) (same_args xs ys parts.1)

-- ---- expressions

pub same_expr : (x y : Expr) → exprs.eq-value.it x y ≡ true → x ≡ y
same_expr x y h =
    let parts = both (ops.eq-value.it x.op y.op) (pointwise args.eq-value.it x.args y.args) h in
    ap (λ o. record x { op = o }) (same_op x.op y.op parts.0) ∙ ap (λ l. record y { args = l }) (same_args x.args y.args parts.1)

pub same_itself : (x : Expr) → exprs.eq-value.it x x ≡ true
same_itself x = laws-law.refl x
