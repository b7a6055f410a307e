-- When a certificate, and a text, are those of a module and its counts.
use Rattle.std.specs.Prelude.{◌≡◌, ◌<◌, ◌^◌, ℕ, true, List, Some, length, map, slice_get, sum_by}
use Rattle.ir_types.specs.Program.{Program}
use Rattle.ir_types.specs.declared.syntax.Function.{Function}
use Rattle.ir_printer.specs.Text.{text_of}
use Rattle.ir_machine.specs.Same.{is_defined}
use Rattle.point_graph.specs.Numbers.{ArePoints}
use Rattle.point_graph.specs.declared.graph.Points.{Points}
use Rattle.expressions.specs.Kept.{Kept}
use Rattle.best_choice.specs.Best.{IsBestIn}
use Rattle.expressions.specs.Tables.{IsTable}
use Rattle.profile.specs.declared.counts.FnCounts.{FnCounts}
use Rattle.placement.specs.declared.placements.Placement.{Placement}
use Rattle.certificate.specs.declared.types.Entry.{Entry}
use Rattle.certificate.specs.declared.types.Certificate.{Certificate}
use Rattle.transform.specs.Transformed.{IsTransformed, defined_before}
use Rattle.transform.specs.declared.placed.Placed.{Placed}
use Rattle.certified.specs.Entries.{IsGood, IsPlain}

-- at how many edges something is inserted, over all of these placements
abbrev pub insertions : List Placement → ℕ
insertions placements = sum_by (λ placement. length placement.inserted) placements

-- the placements insert at fewer than 2^28 edges
abbrev pub AreFew : List Placement → Type 0
AreFew placements = insertions placements < 2 ^ 28

-- the placements that a list of entries names
abbrev pub placements_in : List Entry → List Placement
placements_in entries = map (λ (entry : Entry). entry.placement) entries

-- the points and the table of a function with the placements that these entries name, one good entry for each expression
pub record AreGood (m : Program) (f : Function) (counts : FnCounts) (entries : List Entry) (q : Placed) : Type 0 where
  pub are_points : ArePoints f q.points
  pub of_module : q.table.module_of ≡ m
  pub is_table : IsTable f q.points q.table
  pub placements : q.placements ≡ placements_in entries
  pub count : length entries ≡ length q.table.exprs
  pub few : AreFew q.placements
  pub each : (x : ℕ) (entry : Entry) → slice_get entries x ≡ Some entry → IsGood f q.points q.table counts x entry

-- what is placed in the function k is what the certificate names for it, and is shown to be good by the function's own counts
pub record HasGood (m : Program) (counts : List FnCounts) (certificate : Certificate) (placed : List Placed) (k : ℕ) (f : Function) : Type 0 where
  pub own : FnCounts
  pub counted : slice_get counts (defined_before m.functions k) ≡ Some own
  pub entries : List Entry
  pub listed : slice_get certificate.functions (defined_before m.functions k) ≡ Some entries
  pub placed_here : Placed
  pub there : slice_get placed (defined_before m.functions k) ≡ Some placed_here
  pub good : AreGood m f own entries placed_here

-- the certificate has a list of entries for each function that has blocks, and what is placed in each of these is what it names
pub record EachGood (m : Program) (counts : List FnCounts) (certificate : Certificate) (placed : List Placed) : Type 0 where
  pub functions : length certificate.functions ≡ defined_before m.functions (length m.functions)
  pub count : length placed ≡ defined_before m.functions (length m.functions)
  pub each : (k : ℕ) (f : Function) → slice_get m.functions k ≡ Some f → is_defined f.blocks ≡ true → HasGood m counts certificate placed k f

-- m' is m with the placements applied that the certificate names, and each entry of it is good
pub record IsCertified (m : Program) (counts : List FnCounts) (certificate : Certificate) (m' : Program) : Type 0 where
  pub placed : List Placed
  pub each_good : EachGood m counts certificate placed
  pub transformed : IsTransformed m placed m'

-- the bytes are the text of that module
pub record IsYes (m : Program) (counts : List FnCounts) (bytes : List ℕ) (certificate : Certificate) : Type 0 where
  pub program' : Program
  pub certified : IsCertified m counts certificate program'
  pub text : bytes ≡ text_of program'

-- the placement that the certificate names for an expression that can't trap is the best one, in each function that has blocks
abbrev pub AreAllBest : Program → List FnCounts → Certificate → Type 0
AreAllBest m counts certificate = (k : ℕ) (f : Function) (own : FnCounts) (entries : List Entry) (p : Points) (t : Kept) (x : ℕ) (entry : Entry)
    → slice_get m.functions k ≡ Some f → is_defined f.blocks ≡ true → slice_get counts (defined_before m.functions k) ≡ Some own → slice_get certificate.functions (defined_before m.functions k) ≡ Some entries
    → ArePoints f p → t.module_of ≡ m → IsTable f p t → slice_get entries x ≡ Some entry → IsPlain t x → IsBestIn f p t x own entry.placement
