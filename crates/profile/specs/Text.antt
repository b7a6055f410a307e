-- The text of a profile.
use Rattle.std.specs.Prelude.{ℕ, ◌+◌, List, [], ◌∷◌, ◌++◌, codes, take, drop, length}
use Rattle.std.specs.List.{flat_map}
use Rattle.std.specs.Fmt.{decimal}
use Rattle.ir_types.specs.Program.{Program}
use Rattle.ir_types.specs.declared.syntax.Block.{Block}
use Rattle.ir_types.specs.declared.syntax.Function.{Function}
use Rattle.flow_graph.specs.Slots.{slots_of}
use Rattle.profile.specs.declared.counts.FnCounts.{FnCounts}
use Rattle.profile.specs.declared.lines.Line.{Line}
use Rattle.profile.specs.declared.lines.Line.TheVariants as line
use Rattle.profile.specs.Counts.{defined}

-- numbers, each behind a space
abbrev pub spaced : List ℕ → List ℕ
spaced ns = flat_map (λ n. 32 ∷ decimal n) ns

abbrev pub word : Line → List ℕ
word (line.Function _ _) = codes "func"
word (line.Block _ _) = codes "block"

abbrev pub numbers : Line → List ℕ
numbers (line.Function k n) = k ∷ n ∷ []
numbers (line.Block b ns) = b ∷ ns

abbrev pub line_text : Line → List ℕ
line_text l = word l ++ (spaced (numbers l) ++ codes "\n")

abbrev pub first_line : List ℕ
first_line = codes "mcpre-profile 1\n"

-- how many slots a block has
abbrev pub width : Block → ℕ
width x = length (slots_of x.term)

-- a line for each of these blocks, of which the first has number b, with the counts of its slots
abbrev pub block_lines : ℕ → List Block → List ℕ → List Line
block_lines b [] counts = []
block_lines b (x ∷ xs) counts = line.Block b (take (width x) counts) ∷ block_lines (b + 1) xs (drop (width x) counts)

-- the lines of these functions, of which the first has number k
abbrev pub function_lines : ℕ → List Function → List FnCounts → List Line
function_lines k (f ∷ fs) (c ∷ cs) = line.Function k c.entry ∷ (block_lines 0 f.blocks c.slots ++ function_lines (k + 1) fs cs)
function_lines k _ _ = []

abbrev pub lines : Program → List FnCounts → List Line
lines m counts = function_lines 0 (defined m) counts

abbrev pub text_of_lines : List Line → List ℕ
text_of_lines ls = first_line ++ flat_map line_text ls

abbrev pub prof_text : Program → List FnCounts → List ℕ
prof_text m counts = text_of_lines (lines m counts)
