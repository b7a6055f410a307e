-- The report and the summary of placements.
use Rattle.std.specs.Prelude.{◌≡◌, ℕ, ◌+◌, Bool, List, [], ◌∷◌, ◌++◌, codes, length, sum_by, if◌then◌else◌}
use Rattle.std.specs.Fmt.{decimal}
use Rattle.ir_types.specs.Program.{Program}
use Rattle.ir_types.specs.declared.syntax.Function.{Function}
use Rattle.ir_printer.specs.Text.{global_text}
use Rattle.profile.specs.Counts.{defined}
use Rattle.profile.specs.declared.counts.FnCounts.{FnCounts}
use Rattle.placement.specs.declared.placements.Placement.{Placement}
use Rattle.expression_text.specs.ExpressionText.{expr_text}
use Rattle.tallies.specs.Tallies.{AreTallies, totals_of}
use Rattle.tallies.specs.declared.tally.Tally.{Tally}
use Rattle.tallies.specs.declared.totals.Totals.{Totals}

-- ---- the report

-- how often something is computed before and after
abbrev pub change_text : (old new : ℕ) → List ℕ
change_text old new = decimal old ++ (codes " -> " ++ decimal new)

-- how many edges, kept and deleted occurrences there are
abbrev pub places_text : Tally → List ℕ
places_text t = codes ", inserted " ++ (decimal t.inserted ++ (codes ", kept " ++ (decimal t.kept ++ (codes ", deleted " ++ decimal t.deleted))))

-- what is said of an expression that can trap
abbrev pub lazy_text : Bool → List ℕ
lazy_text lazy = if lazy then codes ", lazy" else []

-- the line of the expression of this number
abbrev pub tally_line : Program → Function → ℕ → Tally → List ℕ
tally_line m f x t =
    decimal x ++ (codes " " ++ (expr_text m f t.expr ++ (codes ": " ++ (change_text t.old t.new ++ (places_text t ++ (lazy_text t.lazy ++ codes "\n"))))))

-- the lines of these expressions, of which the first has the number x
abbrev pub tally_lines : Program → Function → ℕ → List Tally → List ℕ
tally_lines m f x [] = []
tally_lines m f x (t ∷ ts) = tally_line m f x t ++ tally_lines m f (x + 1) ts

-- the line of a function, and those of its expressions
abbrev pub function_lines : Program → Function → List Tally → List ℕ
function_lines m f ts = codes "function " ++ (global_text f.name ++ (codes "\n" ++ tally_lines m f 0 ts))

-- those of these functions, each with its own tallies
abbrev pub functions_lines : Program → List Function → List (List Tally) → List ℕ
functions_lines m (f ∷ fs) (own ∷ tallies) = function_lines m f own ++ functions_lines m fs tallies
functions_lines m _ _ = []

-- the last line
abbrev pub total_line : Totals → List ℕ
total_line t = codes "total " ++ (change_text t.old t.new ++ codes "\n")

-- the functions that have blocks, and the last line
abbrev pub report_text : Program → List (List Tally) → List ℕ
report_text m tallies = functions_lines m (defined m) tallies ++ total_line (totals_of tallies)

-- the text is the report of these placements by these counts
pub record IsReport (m : Program) (counts : List FnCounts) (placements : List (List Placement)) (text : List ℕ) : Type 0 where
  pub tallies : List (List Tally)
  pub are_tallies : AreTallies m counts placements tallies
  pub is_text : text ≡ report_text m tallies

-- ---- the summary

-- how many blocks the functions have; a declaration has none
abbrev pub blocks_of : List Function → ℕ
blocks_of fs = sum_by (λ f. length f.blocks) fs

-- a line of a word and a number
abbrev pub number_line : (word : List ℕ) (n : ℕ) → List ℕ
number_line word n = word ++ (codes " " ++ (decimal n ++ codes "\n"))

-- the line of the computations
abbrev pub computations_line : Totals → List ℕ
computations_line t = codes "computations " ++ (change_text t.old t.new ++ codes "\n")

-- the line of the edges and the occurrences
abbrev pub places_line : Totals → List ℕ
places_line t = codes "inserted " ++ (decimal t.inserted ++ (codes " kept " ++ (decimal t.kept ++ (codes " deleted " ++ (decimal t.deleted ++ codes "\n")))))

-- the lines of a module of this size with these sums
abbrev pub lines_of : (n blocks : ℕ) → Totals → List ℕ
lines_of n blocks t =
    number_line (codes "self") n ++ (number_line (codes "blocks") blocks ++ (number_line (codes "expressions") t.expressions ++ (computations_line t ++ places_line t)))

abbrev pub summary_text : (n : ℕ) → Program → List (List Tally) → List ℕ
summary_text n m tallies = lines_of n (blocks_of m.functions) (totals_of tallies)

-- the text is the summary of these placements by these counts
pub record IsSummary (n : ℕ) (m : Program) (counts : List FnCounts) (placements : List (List Placement)) (text : List ℕ) : Type 0 where
  pub tallies : List (List Tally)
  pub are_tallies : AreTallies m counts placements tallies
  pub is_text : text ≡ summary_text n m tallies
