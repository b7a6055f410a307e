-- What placements make of a module doesn't depend on how its functions were numbered.
use Rattle.std.specs.Prelude.{◌≡◌, ◌<◌, ℕ, List, length}
use Rattle.ir_types.specs.Program.{Program}
use Rattle.ir_types.specs.declared.syntax.Function.{Function}
use Rattle.profile.specs.declared.counts.FnCounts.{FnCounts}
use Rattle.point_graph.specs.Numbers.{ArePoints}
use Rattle.point_graph.specs.declared.graph.Points.{Points}
use Rattle.expressions.specs.Kept.{Kept}
use Rattle.expressions.specs.Tables.{IsTable}
use Rattle.placement.specs.declared.placements.Placement.{Placement}
use Rattle.best_choice.specs.Best.{IsBestIn}
use Rattle.transform.specs.Transformed.{IsTransformed}
use Rattle.transform.specs.declared.placed.Placed.{Placed}
use Rattle.one_transformed.specs.Numberings.{AreSame, EachSame}

-- two numberings of a function, with tables for one module, say the same
abbrev pub OneNumbering : Type 0
OneNumbering = (f : Function) (p p' : Points) (t t' : Kept) → 0 < length f.blocks → t.module_of ≡ t'.module_of → ArePoints f p → ArePoints f p' → IsTable f p t → IsTable f p' t' → AreSame f p p' t t'

-- what is best by one of two numberings that say the same is best by the other
abbrev pub BestStays : Type 0
BestStays = (f : Function) (p p' : Points) (t t' : Kept) (x : ℕ) (counts : FnCounts) (placement : Placement) → AreSame f p p' t t' → IsBestIn f p t x counts placement → IsBestIn f p' t' x counts placement

-- with the same placements applied a module is the same module
abbrev pub OneTransformed : Type 0
OneTransformed = (m : Program) (placed others : List Placed) (one other : Program) → EachSame m placed others → IsTransformed m placed one → IsTransformed m others other → one ≡ other
