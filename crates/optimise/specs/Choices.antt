-- Which placements the counts of a module choose.
use Rattle.std.specs.Prelude.{◌≡◌, ℕ, true, List, Some, length, map, slice_get}
use Rattle.ir_types.specs.Program.{Program}
use Rattle.ir_types.specs.declared.syntax.Function.{Function}
use Rattle.ir_machine.specs.Same.{is_defined}
use Rattle.point_graph.specs.Numbers.{ArePoints}
use Rattle.point_graph.specs.declared.graph.Points.{Points}
use Rattle.expressions.specs.Kept.{Kept}
use Rattle.expressions.specs.Tables.{IsTable}
use Rattle.profile.specs.declared.counts.FnCounts.{FnCounts}
use Rattle.placement.specs.declared.placements.Placement.{Placement}
use Rattle.certificate.specs.declared.types.Certificate.{Certificate}
use Rattle.certified.specs.Certified.{placements_in}
use Rattle.transform.specs.Transformed.{defined_before}
use Rattle.optimise.specs.Choice.{AreEachChosen}

-- with points and a table of the function, one placement for each of its expressions, and each is the one that these counts choose
pub record AreChoicesIn (m : Program) (f : Function) (counts : FnCounts) (placements : List Placement) : Type 0 where
  pub points : Points
  pub are_points : ArePoints f points
  pub table : Kept
  pub of_module : table.module_of ≡ m
  pub is_table : IsTable f points table
  pub chosen : AreEachChosen f points table counts placements

-- the placements that stand at the place of the function k are those that its own counts choose
pub record HasChoices (m : Program) (counts : List FnCounts) (placements : List (List Placement)) (k : ℕ) (f : Function) : Type 0 where
  pub own : FnCounts
  pub counted : slice_get counts (defined_before m.functions k) ≡ Some own
  pub listed : List Placement
  pub there : slice_get placements (defined_before m.functions k) ≡ Some listed
  pub holds : AreChoicesIn m f own listed

-- one list of placements for each function that has blocks, in text order, and each is what the function's own counts choose
pub record AreChoices (m : Program) (counts : List FnCounts) (placements : List (List Placement)) : Type 0 where
  pub count : length placements ≡ defined_before m.functions (length m.functions)
  pub each : (k : ℕ) (f : Function) → slice_get m.functions k ≡ Some f → is_defined f.blocks ≡ true → HasChoices m counts placements k f

-- the placements that a certificate names
abbrev pub named_placements : Certificate → List (List Placement)
named_placements certificate = map placements_in certificate.functions
