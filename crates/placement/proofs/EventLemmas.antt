-- A point is one thing to an expression.
use Rattle.std.proofs.Common.{◌≡◌, ◌<◌, ℕ, true, false, List, [], ◌∷◌, Some, length, refl, sym, ◌∙◌, subst}
use Rattle.std.specs.List.{list_any}
use Rattle.std.proofs.lemmas.Option.{none-some, same_Some, slice_get_within}
use Rattle.std.proofs.lemmas.Bool.{true≢false}
use Rattle.mc_num.specs.declared.op.Op.{Op}
use Rattle.ir_types.specs.Program.{Program}
use Rattle.ir_types.specs.declared.syntax.Operand.{Operand}
use Rattle.ir_types.specs.declared.syntax.Kind.TheVariants.{Load, Store, Compute, Call}
use Rattle.ir_types.specs.declared.syntax.Function.{Function}
use Rattle.point_graph.specs.declared.graph.Point.{Point}
use Rattle.point_graph.specs.declared.graph.Points.{Points}
use Rattle.expressions.specs.declared.syntax.Arg.{Arg}
use Rattle.expressions.specs.declared.syntax.Arg.TheVariants.{Const, Param, Var}
use Rattle.expressions.specs.declared.syntax.Expr.{Expr}
use Rattle.expressions.specs.declared.syntax.Event.{Event}
use Rattle.expressions.specs.declared.syntax.Event.TheVariants.{Occurs, Kills, Bars, Passes}
use Rattle.expressions.specs.Expressions.{Content, nothing, instr_there, term_there, content, content_expr}
use Rattle.expressions.specs.Events.{changes_arg, changes_some, IsContentEvent, IsEvent}
use Rattle.expressions.specs.Kept.{Kept}
use Rattle.expressions.specs.Tables.{IsEventOf}

-- an operation changes no variable
no_change : (m : Program) (op : Op) (operands : List Operand) (arg : Arg) → changes_arg m (Compute op operands) arg ≡ false
no_change m op operands (Const value) = refl
no_change m op operands (Param p) = refl
no_change m op operands (Var v) = refl

none_changes : (m : Program) (op : Op) (operands : List Operand) (args : List Arg) → list_any (changes_arg m (Compute op operands)) args ≡ false
none_changes m op operands [] = refl
none_changes m op operands (arg ∷ args) = rw (no_change m op operands arg) (none_changes m op operands args)

-- what an expression occurs at changes none of its variables
occurs_alone : (m : Program) (e : Expr) (there : Content) → content_expr m there ≡ Some e → changes_some m e.args there ≡ true → ⊥
occurs_alone m e nothing o k = none-some e o
occurs_alone m e (term_there term) o k = none-some e o
occurs_alone m e (instr_there before (Load v)) o k = none-some e o
occurs_alone m e (instr_there before (Store operand v)) o k = none-some e o
occurs_alone m e (instr_there before (Call callee arguments)) o k = none-some e o
occurs_alone m e (instr_there before (Compute op operands)) o k = true≢false (sym k ∙ none_changes m op operands e.args)

one_content : (m : Program) (e : Expr) (there : Content) (a b : Event) → IsContentEvent m e there a → IsContentEvent m e there b → a ≡ b
one_content m e there Occurs Occurs x y = refl
one_content m e there Occurs Kills x y = absurd (occurs_alone m e there x y)
one_content m e there Occurs Bars x y = absurd (y.0 x)
one_content m e there Occurs Passes x y = absurd (y.0 x)
one_content m e there Kills Occurs x y = absurd (occurs_alone m e there y x)
one_content m e there Kills Kills x y = refl
one_content m e there Kills Bars x y = absurd (true≢false (sym x ∙ y.1))
one_content m e there Kills Passes x y = absurd (true≢false (sym x ∙ y.1))
one_content m e there Bars Occurs x y = absurd (x.0 y)
one_content m e there Bars Kills x y = absurd (true≢false (sym y ∙ x.1))
one_content m e there Bars Bars x y = refl
one_content m e there Bars Passes x y = absurd (true≢false (sym x.2 ∙ y.2))
one_content m e there Passes Occurs x y = absurd (x.0 y)
one_content m e there Passes Kills x y = absurd (true≢false (sym y ∙ x.1))
one_content m e there Passes Bars x y = absurd (true≢false (sym y.2 ∙ x.2))
one_content m e there Passes Passes x y = refl

module _ (f : Function) (p : Points) (t : Kept) (e : ℕ) where
  pub one_event : (v : ℕ) (a b : Event) → IsEventOf f p t e v a → IsEventOf f p t e v b → a ≡ b
  one_event v a b x y =
      let same_expr : y.expr ≡ x.expr = same_Some y.expr x.expr (sym y.expr_there ∙ x.expr_there) in
      let same_point : y.at ≡ x.at = same_Some y.at x.at (sym y.point_there ∙ x.point_there) in
      one_content t.module_of x.expr (content f x.at) a b x.is_event
      (subst (λ (q : Point). IsEvent t.module_of f x.expr q b) same_point (subst (λ (q : Expr). IsEvent t.module_of f q y.at b) same_expr y.is_event))

  -- what is something to the expression is a point
  pub event_inside : (v : ℕ) (a : Event) → IsEventOf f p t e v a → v < length p.points
  event_inside v a x = slice_get_within p.points v x.at x.point_there
