-- Two numberings of one function that say the same, and placements by them.
use Rattle.std.specs.Prelude.{◌≡◌, ◌↔◌, ℕ, true, List, Some, slice_get}
use Rattle.ir_types.specs.Program.{Program}
use Rattle.ir_types.specs.declared.syntax.Function.{Function}
use Rattle.ir_machine.specs.Same.{is_defined}
use Rattle.point_graph.specs.Numbers.{ArePoints}
use Rattle.point_graph.specs.declared.graph.Points.{Points}
use Rattle.expressions.specs.declared.syntax.Event.{Event}
use Rattle.expressions.specs.Kept.{Kept}
use Rattle.expressions.specs.Tables.{IsTable, IsEventOf}
use Rattle.transform.specs.Transformed.{defined_before}
use Rattle.transform.specs.declared.placed.Placed.{Placed}

-- the same module, points, edges and expressions, so that each point is the same to each expression
pub record AreSame (f : Function) (p p' : Points) (t t' : Kept) : Type 0 where
  pub modules : t.module_of ≡ t'.module_of
  pub blocks : p.blocks ≡ p'.blocks
  pub points : p.points ≡ p'.points
  pub edges : p.edges ≡ p'.edges
  pub exprs : t.exprs ≡ t'.exprs
  pub events : (x i : ℕ) (event : Event) → IsEventOf f p t x i event ↔ IsEventOf f p' t' x i event

-- the points and the table of a function of the module
pub record HasParts (m : Program) (f : Function) (q : Placed) : Type 0 where
  pub are_points : ArePoints f q.points
  pub of_module : q.table.module_of ≡ m
  pub is_table : IsTable f q.points q.table

-- both lists have the same placements for the function k
pub record HasSame (m : Program) (placed others : List Placed) (k : ℕ) (f : Function) : Type 0 where
  pub one : Placed
  pub one_there : slice_get placed (defined_before m.functions k) ≡ Some one
  pub one_parts : HasParts m f one
  pub other : Placed
  pub other_there : slice_get others (defined_before m.functions k) ≡ Some other
  pub other_parts : HasParts m f other
  pub placements : one.placements ≡ other.placements

-- both lists have the same placements for each function that has blocks
abbrev pub EachSame : Program → List Placed → List Placed → Type 0
EachSame m placed others = (k : ℕ) (f : Function) → slice_get m.functions k ≡ Some f → is_defined f.blocks ≡ true → HasSame m placed others k f
