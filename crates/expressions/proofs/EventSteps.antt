-- What a point is to an expression, by what the table keeps.
use Rattle.std.proofs.Common.{◌≡◌, ℕ, zero, suc, ◌+◌, ◌<◌, Bool, true, false, List, [], ◌∷◌, length, take, Option, Some, None, refl, sym, ap, ◌∙◌, subst, arith}
use Rattle.std.specs.Prelude.{slice_get, option_and_then, IsTrue, AllPairs}
use Rattle.std.specs.Option.{option_map_or}
use Rattle.std.proofs.lemmas.Bool.{true≢false}
use Rattle.ir_types.specs.Program.{Program}
use Rattle.ir_types.specs.declared.syntax.Instr.{Instr}
use Rattle.ir_types.specs.declared.syntax.Block.{Block}
use Rattle.ir_types.specs.declared.syntax.Function.{Function}
use Rattle.point_graph.specs.declared.graph.Point.{Point}
use Rattle.point_graph.specs.declared.graph.Point.TheVariants.{Instr as InstrPoint}
use Rattle.point_graph.specs.declared.graph.Points.{Points}
use Rattle.expressions.specs.declared.syntax.Expr.{Expr}
use Rattle.expressions.specs.declared.syntax.Event.{Event}
use Rattle.expressions.specs.declared.syntax.Event.TheVariants as events
use Rattle.expressions.specs.Expressions.{Content, nothing, instr_there, place_content, content, content_expr, expr_at, instr_at}
use Rattle.expressions.specs.Events.{IsContentEvent, changes_expr, changes_some, content_bars, other_event}
use Rattle.expressions.specs.Kept.{Kept}
use Rattle.expressions.specs.Tables.{IsTable, IsNumberOf, IsEventOf}
use Rattle.expressions.proofs.FirstSeen.{differ_once, zip_at, zip_length}

-- ---- what stands at an instruction

-- an instruction stands there
pub record InstrThere (there : Content) (i : Instr) : Type 0 where
  pub before : List Instr
  pub is : there ≡ instr_there before i.kind

content_in : (f : Function) (b k : ℕ) (i : Instr) (found : Option Block) → slice_get f.blocks b ≡ found → option_and_then (λ block. slice_get block.instrs k) found ≡ Some i
    → InstrThere (option_map_or (λ block. place_content block k) found nothing) i
content_in f b k i None there e = absurd cc
content_in f b k i (Some block) there e = record { before = take k block.instrs; is = ap (λ o. option_map_or (λ j. instr_there (take k block.instrs) j.kind) o nothing) e }

pub content_instr : (f : Function) (b k : ℕ) (i : Instr) → instr_at f b k ≡ Some i → InstrThere (content f (InstrPoint b k)) i
content_instr f b k i e = content_in f b k i (slice_get f.blocks b) refl e

none_in : (f : Function) (b k : ℕ) (found : Option Block) → slice_get f.blocks b ≡ found → option_and_then (λ block. slice_get block.instrs k) found ≡ None
    → option_map_or (λ block. place_content block k) found nothing ≡ nothing
none_in f b k None there e = refl
none_in f b k (Some block) there e = ap (λ o. option_map_or (λ j. instr_there (take k block.instrs) j.kind) o nothing) e

pub content_none : (f : Function) (b k : ℕ) → instr_at f b k ≡ None → content f (InstrPoint b k) ≡ nothing
content_none f b k e = none_in f b k (slice_get f.blocks b) refl e

-- ---- by the numbers

other_by : (m : Program) (e : Expr) (there : Content) (kills bars : Bool) → ((content_expr m there ≡ Some e) → ⊥) → changes_expr m e there ≡ kills → content_bars there ≡ bars
    → IsContentEvent m e there (other_event kills bars)
other_by m e there true bars absent k b = k
other_by m e there false true absent k b = (absent, k, b)
other_by m e there false false absent k b = (absent, k, b)

numbered : (exprs : List Expr) → AllPairs (λ x y. x ≡ y → ⊥) exprs → (e : ℕ) (expr : Expr) → slice_get exprs e ≡ Some expr → (occurs : Option Expr) (x : Option ℕ) → IsNumberOf exprs occurs x → occurs ≡ Some expr → x ≡ Some e
numbered exprs differ e expr there None x is same = absurd cc
numbered exprs differ e expr there (Some other) None is same = absurd is
numbered exprs differ e expr there (Some other) (Some y) is same = ap Some (differ_once exprs differ y e expr (is ∙ same) there)

expr_of : (exprs : List Expr) (e : ℕ) (occurs : Option Expr) → IsNumberOf exprs occurs (Some e) → (expr : Expr) × (slice_get exprs e ≡ Some expr) × (occurs ≡ Some expr)
expr_of exprs e None is = absurd is
expr_of exprs e (Some expr) is = (expr, is, refl)

module _ (f : Function) (p : Points) (t : Kept) (table : IsTable f p t) (e n : ℕ) (at : Point) (there : slice_get p.points n ≡ Some at) where
  beside : (x : Option ℕ) × (slice_get t.occurring n ≡ Some x) × IsNumberOf t.exprs (expr_at t.module_of f at) x
  beside = zip_at (λ point x. IsNumberOf t.exprs (expr_at t.module_of f point) x) p.points t.occurring n at table.occurring there

  pub occurs_there : slice_get t.occurring n ≡ Some (Some e) → IsEventOf f p t e n events.Occurs
  occurs_there h =
      let same : beside.0 ≡ Some e = let both : Some beside.0 ≡ Some (Some e) = sym beside.1 ∙ h in cc in
      let found = expr_of t.exprs e (expr_at t.module_of f at) (subst (IsNumberOf t.exprs (expr_at t.module_of f at)) same beside.2) in
      record { expr = found.0; expr_there = found.1; at = at; point_there = there; is_event = found.2 }

  pub other_there : (expr : Expr) → slice_get t.exprs e ≡ Some expr → ((slice_get t.occurring n ≡ Some (Some e)) → ⊥) → (event : Event)
      → event ≡ other_event (changes_some t.module_of expr.args (content f at)) (content_bars (content f at)) → IsEventOf f p t e n event
  other_there expr is absent event same = record {
    expr = expr;
    expr_there = is;
    at = at;
    point_there = there;
    is_event = subst (IsContentEvent t.module_of expr (content f at)) (sym same)
        (other_by t.module_of expr (content f at) (changes_expr t.module_of expr (content f at)) (content_bars (content f at))
        (λ occurs. absent (beside.1 ∙ ap Some (numbered t.exprs table.exprs.differ e expr is (expr_at t.module_of f at) beside.0 beside.2 occurs))) refl refl);
  }
