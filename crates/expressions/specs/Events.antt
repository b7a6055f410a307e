-- What a point is to an expression.
use Rattle.std.specs.Prelude.{◌≡◌, Bool, true, false, List, Some, IsTrue, slice_get}
use Rattle.std.specs.List.{list_any}
use Rattle.mc_num.specs.Value.{traps_at}
use Rattle.ir_types.specs.Program.{Program}
use Rattle.ir_types.specs.declared.syntax.Kind.{Kind}
use Rattle.ir_types.specs.declared.syntax.Kind.TheVariants.{Load, Store, Compute, Call}
use Rattle.ir_types.specs.declared.syntax.Terminator.{Terminator}
use Rattle.ir_types.specs.declared.syntax.Terminator.TheVariants.{Return, Unreachable}
use Rattle.ir_types.specs.declared.syntax.Function.{Function}
use Rattle.point_graph.specs.declared.graph.Point.{Point}
use Rattle.expressions.specs.declared.syntax.Arg.{Arg}
use Rattle.expressions.specs.declared.syntax.Arg.TheVariants.{Const, Param, Var}
use Rattle.expressions.specs.declared.syntax.Expr.{Expr}
use Rattle.expressions.specs.declared.syntax.Event.{Event}
use Rattle.expressions.specs.declared.syntax.Event.TheVariants as events
use Rattle.expressions.specs.Expressions.{Content, nothing, instr_there, term_there, content, changes, content_expr, constant_operand}

-- the instruction may change a variable of the expression
abbrev pub changes_arg : Program → Kind → Arg → Bool
changes_arg m kind (Var v) = changes m v kind
changes_arg m kind _ = false

abbrev pub changes_some : Program → List Arg → Content → Bool
changes_some m args (instr_there _ kind) = list_any (changes_arg m kind) args
changes_some m args _ = false

abbrev pub changes_expr : Program → Expr → Content → Bool
changes_expr m e there = changes_some m e.args there

-- a call, an operation that can trap, a return and an `unreachable` bar
abbrev pub kind_bars : Kind → Bool
kind_bars (Compute op operands) = traps_at op (constant_operand (slice_get operands 1))
kind_bars (Call _ _) = true
kind_bars _ = false

abbrev pub term_bars : Terminator → Bool
term_bars (Return _) = true
term_bars Unreachable = true
term_bars _ = false

abbrev pub content_bars : Content → Bool
content_bars nothing = false
content_bars (instr_there _ kind) = kind_bars kind
content_bars (term_there term) = term_bars term

-- what stands there is this to the expression. What occurs or kills does not bar, and nothing occurs where it kills
abbrev pub IsContentEvent : Program → Expr → Content → Event → Type 0
IsContentEvent m e there events.Occurs = content_expr m there ≡ Some e
IsContentEvent m e there events.Kills = IsTrue (changes_expr m e there)
IsContentEvent m e there events.Bars = (¬ (content_expr m there ≡ Some e)) × (changes_expr m e there ≡ false) × IsTrue (content_bars there)
IsContentEvent m e there events.Passes = (¬ (content_expr m there ≡ Some e)) × (changes_expr m e there ≡ false) × (content_bars there ≡ false)

-- the point is this to the expression
abbrev pub IsEvent : Program → Function → Expr → Point → Event → Type 0
IsEvent m f e point event = IsContentEvent m e (content f point) event

-- what a point is to an expression that doesn't occur there
abbrev pub other_event : Bool → Bool → Event
other_event true _ = events.Kills
other_event false true = events.Bars
other_event false false = events.Passes
