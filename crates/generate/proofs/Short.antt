-- How long the texts of a workload are at most.
use Rattle.std.proofs.Common.{◌≡◌, ℕ, zero, suc, ◌+◌, ◌-◌, ◌*◌, ◌%◌, ◌^◌, ◌<◌, ◌≤◌, Bool, true, false, cond, List, [], ◌∷◌, ◌++◌, Some, length, slice_get, refl, sym, subst, arith}
use Rattle.std.specs.Prelude.{codes}
use Rattle.std.specs.Fmt.{decimal}
use Rattle.std.specs.List.{flat_map, range_with_len, AllByRecursion}
use Rattle.std.specs.Option.{option_map_or}
use Rattle.std.proofs.lemmas.Bool.{lt-ltb}
use Rattle.std.proofs.lemmas.Fmt.{length-decimal-le, decimal_digit}
use Rattle.std.proofs.lemmas.List.{length-append, append-nil}
use Rattle.mc_num.specs.declared.op.Width.TheVariants.{I32}
use Rattle.ir_types.specs.Names.{quoted_text}
use Rattle.ir_types.specs.Bytes.{is_plain_name}
use Rattle.ir_types.specs.Program.{Program}
use Rattle.ir_types.specs.declared.name.Name.TheVariants.{Text}
use Rattle.ir_types.specs.declared.syntax.Operand.TheVariants.{Const, Reg}
use Rattle.ir_types.specs.declared.syntax.Kind.TheVariants.{Store}
use Rattle.ir_types.specs.declared.syntax.Terminator.TheVariants.{Jump}
use Rattle.ir_types.specs.declared.syntax.Variable.{Variable}
use Rattle.ir_types.specs.declared.syntax.Instr.{Instr}
use Rattle.ir_types.specs.declared.syntax.Block.{Block}
use Rattle.ir_types.specs.declared.syntax.Function.{Function}
use Rattle.ir_printer.specs.Text.{local_text, constant_text, label_text, kind_text, instr_line, result_text, term_text, term_line, block_text, text_of}
use Rattle.profile.specs.declared.lines.Line.{Line}
use Rattle.profile.specs.declared.lines.Line.TheVariants as lines
use Rattle.profile.specs.Text.{line_text, block_lines, prof_text}
use Rattle.workload.specs.Names.{round_names}
use Rattle.workload.specs.Workload as work
use Rattle.workload.specs.Workload.{load, store, add, test, entry, start, left, right, join, end, round_counts, left_count, main_function, main_counts, workload_program, workload_counts}
use Rattle.workload.proofs.Tails.{tail}

-- ---- short texts

pub record Short (k : ℕ) (xs : List ℕ) : Type 0 where
  pub le : length xs ≤ k

whole : (xs : List ℕ) → Short (length xs) xs
whole xs = record { le = omega arith }

both : {p q : ℕ} {xs ys : List ℕ} → Short p xs → Short q ys → Short (p + q) (xs ++ ys)
both {p} {q} {xs} {ys} h k = record { le = omega (arith, h.le, k.le, length-append xs ys) }

within : {p : ℕ} {xs : List ℕ} (k : ℕ) → Short p xs → p ≤ k → Short k xs
within k h le = record { le = omega (arith, h.le) }

-- ---- names and values

quoted_short : (k : ℕ) (bytes : List ℕ) → length bytes ≤ k → Short (k + 2) (quoted_text bytes)
quoted_short k bytes le = record { le = go (is_plain_name bytes) }
  where
    go : (b : Bool) → length (cond b bytes (34 ∷ bytes ++ 34 ∷ [])) ≤ k + 2
    go true = omega arith
    go false = omega (arith, length-append bytes (34 ∷ []))

decimal_short : (j : ℕ) → j < 10 ^ 5 → length (decimal j) ≤ 5
decimal_short j lt = length-decimal-le 5 j (omega arith) lt (omega arith)

-- a name of a round
name_short : (c j : ℕ) (part : List ℕ) → length part ≤ 2 → j < 10 ^ 5 → Short 10 (quoted_text (c ∷ (decimal j ++ part)))
name_short c j part le lt = quoted_short 8 (c ∷ (decimal j ++ part)) (omega (arith, length-append (decimal j) part, decimal_short j lt))

local_short : (c j : ℕ) (part : List ℕ) → length part ≤ 2 → j < 10 ^ 5 → Short 11 (local_text (Text (c ∷ (decimal j ++ part))))
local_short c j part le lt = both (whole (codes "%")) (name_short c j part le lt)

-- the names of the blocks
names_short : (a k : ℕ) → a + k ≤ 10000 → AllByRecursion (λ (b : Block). Short 11 (local_text b.name)) (tail a k)
names_short a zero le = (record { le = omega arith }, tt)
names_short a (suc k) le = (
  local_short 115 a [] (omega arith) (omega arith),
  (
    local_short 108 a [] (omega arith) (omega arith),
    (
      local_short 114 a [] (omega arith) (omega arith),
      (
        local_short 106 a [] (omega arith) (omega arith),
        names_short (a + 1) k (omega arith),
      ),
    ),
  ),
)

found_short : (blocks : List Block) (t : ℕ) → AllByRecursion (λ (b : Block). Short 11 (local_text b.name)) blocks → Short 11 (option_map_or (λ (b : Block). local_text b.name) (slice_get blocks t) [])
found_short [] t h = record { le = omega arith }
found_short (b ∷ bs) zero h = h.0
found_short (b ∷ bs) (suc t) h = found_short bs t h.1

label_short : (n t : ℕ) → n ≤ 10000 → Short 17 (label_text (main_function n) t)
label_short n t le = both (whole (codes "label ")) (found_short (main_function n).blocks t (record { le = omega arith }, names_short 0 n (omega arith)))

constant_short : (j : ℕ) → Short 1 (constant_text I32 (j % 7))
constant_short j =
    let lt : j % 7 < 10 = omega arith in
    let low : j % 7 < 2 ^ 31 = omega arith in
    let e : constant_text I32 (j % 7) ≡ (48 + j % 7) ∷ [] = rw (lt-ltb (j % 7) (2 ^ 31) low) (decimal_digit (j % 7) lt) in
    subst (Short 1) (sym e) (whole ((48 + j % 7) ∷ []))

zero_short : Short 5 (constant_text I32 0)
zero_short = record { le = decimal_short 0 (omega arith) }

-- ---- instructions

line_short : {p q : ℕ} (m : Program) (f : Function) (b : Block) (i : Instr) → Short p (result_text i.result) → Short q (kind_text m f b i.kind) → Short (p + q + 3) (instr_line m f b i)
line_short {p} {q} m f b i r k = within (p + q + 3) (both (whole (codes "  ")) (both r (both k (whole (codes "\n"))))) (omega arith)

result_short : (c j : ℕ) (part : List ℕ) → length part ≤ 2 → j < 10 ^ 5 → Short 14 (result_text (Some (Text (c ∷ (decimal j ++ part)))))
result_short c j part le lt = both (local_short c j part le lt) (whole (codes " = "))

jump_short : (n : ℕ) (b : Block) (t : ℕ) → n ≤ 10000 → b.term ≡ Jump t → Short 23 (term_line (main_function n) b)
jump_short n b t le e =
    let line : Short 23 (codes "  " ++ (term_text (main_function n) b (Jump t) ++ codes "\n")) = both (whole (codes "  ")) (both (both (whole (codes "br ")) (label_short n t le)) (whole (codes "\n"))) in
    subst (λ x. Short 23 (codes "  " ++ (term_text (main_function n) b x ++ codes "\n"))) (sym e) line

-- ---- blocks

start_short : (n j : ℕ) → n ≤ 10000 → j < 10 ^ 5 → Short 200 (block_text (workload_program n) (main_function n) [] (start j))
start_short n j le lt =
    let m = workload_program n in
    let f = main_function n in
    let value = local_short 115 j (codes ".a") (omega arith) lt in
    let one = line_short m f (start j) (load (round_names j).start_value) (result_short 115 j (codes ".a") (omega arith) lt) (whole (codes "load i32, ptr %a")) in
    let two = line_short m f (start j) (test (round_names j).start_test) (result_short 115 j (codes ".c") (omega arith) lt) (both (whole (codes "icmp slt i32 ")) (both value (both (whole (codes ", ")) zero_short))) in
    let branch = both (whole (codes "br i1 ")) (both (local_short 115 j (codes ".c") (omega arith) lt) (both (whole (codes ", ")) (both (label_short n (4 * j + 2) le) (both (whole (codes ", ")) (label_short n (4 * j + 3) le))))) in
    let last = both (whole (codes "  ")) (both branch (whole (codes "\n"))) in
    within 200 (both (name_short 115 j [] (omega arith) lt) (both (whole (codes ":\n")) (both (both one (both two (whole []))) last))) (omega arith)

-- a block that adds to what it reads and stores the sum
abbrev adding : ℕ → ℕ → Variable → ℕ → Block
adding c j v next = record {
  name = Text (c ∷ (decimal j ++ []));
  instrs = load (c ∷ (decimal j ++ codes ".a")) ∷ add (c ∷ (decimal j ++ codes ".v")) j ∷ store (Reg 1) v ∷ [];
  term = Jump next;
}

adding_short : (n c j : ℕ) (v : Variable) (next : ℕ) → n ≤ 10000 → j < 10 ^ 5 → Short 29 (kind_text (workload_program n) (main_function n) (adding c j v next) (Store (Reg 1) v)) → Short 200 (block_text (workload_program n) (main_function n) [] (adding c j v next))
adding_short n c j v next le lt stored =
    let m = workload_program n in
    let f = main_function n in
    let b = adding c j v next in
    let value = local_short c j (codes ".a") (omega arith) lt in
    let one = line_short m f b (load (c ∷ (decimal j ++ codes ".a"))) (result_short c j (codes ".a") (omega arith) lt) (whole (codes "load i32, ptr %a")) in
    let two = line_short m f b (add (c ∷ (decimal j ++ codes ".v")) j) (result_short c j (codes ".v") (omega arith) lt) (both (whole (codes "add i32 ")) (both value (both (whole (codes ", ")) (constant_short j)))) in
    let three = line_short m f b (store (Reg 1) v) (whole []) stored in
    within 200 (both (name_short c j [] (omega arith) lt) (both (whole (codes ":\n")) (both (both one (both two (both three (whole [])))) (jump_short n b next le refl)))) (omega arith)

left_short : (n j : ℕ) → n ≤ 10000 → j < 10 ^ 5 → Short 200 (block_text (workload_program n) (main_function n) [] (left j))
left_short n j le lt =
    adding_short n 108 j work.t (4 * j + 4) le lt (both (whole (codes "store i32 ")) (both (local_short 108 j (codes ".v") (omega arith) lt) (whole (codes ", ptr %t"))))

join_short : (n j : ℕ) → n ≤ 10000 → j < 10 ^ 5 → Short 200 (block_text (workload_program n) (main_function n) [] (join j))
join_short n j le lt =
    adding_short n 106 j work.a (4 * j + 5) le lt (both (whole (codes "store i32 ")) (both (local_short 106 j (codes ".v") (omega arith) lt) (whole (codes ", ptr %a"))))

right_short : (n j : ℕ) → n ≤ 10000 → j < 10 ^ 5 → Short 200 (block_text (workload_program n) (main_function n) [] (right j))
right_short n j le lt = within 200 (both (name_short 114 j [] (omega arith) lt) (both (whole (codes ":\n")) (jump_short n (right j) (4 * j + 4) le refl))) (omega arith)

end_short : (n : ℕ) → Short 30 (block_text (workload_program n) (main_function n) [] end)
end_short n = within 30 (both (whole (codes "end:\n")) (both (whole (codes "  ")) (both (both (whole (codes "ret i32 ")) zero_short) (whole (codes "\n"))))) (omega arith)

entry_short : (n : ℕ) → n ≤ 10000 → Short 200 (block_text (workload_program n) (main_function n) (main_function n).vars entry)
entry_short n le =
    let m = workload_program n in
    let f = main_function n in
    let stored = both (whole (codes "store i32 ")) (both zero_short (whole (codes ", ptr %a"))) in
    let one = line_short m f entry (store (Const 0) work.a) (whole []) stored in
    within 200 (both (whole (codes "entry:\n  %a = alloca i32\n  %t = alloca i32\n")) (both (both one (whole [])) (jump_short n entry 1 le refl))) (omega arith)

-- ---- the text of the module

tail_short : (n a k : ℕ) → n ≤ 10000 → a + k ≤ 10000 → Short (800 * k + 30) (flat_map (block_text (workload_program n) (main_function n) []) (tail a k))
tail_short n a zero le few = both (end_short n) (whole [])
tail_short n a (suc k) le few =
    let lt : a < 10 ^ 5 = omega arith in
    within (800 * suc k + 30) (both (start_short n a le lt) (both (left_short n a le lt) (both (right_short n a le lt) (both (join_short n a le lt) (tail_short n (a + 1) k le (omega arith)))))) (omega arith)

pub module_short : (n : ℕ) → n ≤ 10000 → length (text_of (workload_program n)) ≤ 2 ^ 26
module_short n le =
    let blocks = both (entry_short n le) (tail_short n 0 n le (omega arith)) in
    let text : Short (2 ^ 26) (text_of (workload_program n)) = within (2 ^ 26) (both (both (whole (codes "define i32 @main() {\n")) (both blocks (whole (codes "}\n")))) (whole [])) (omega arith) in
    text.le

-- ---- the text of the profile

number_short : (x : ℕ) → x < 10 ^ 5 → Short 6 (32 ∷ decimal x)
number_short x lt = record { le = omega (arith, decimal_short x lt) }

line_of_none : (b : ℕ) → b < 10 ^ 5 → Short 12 (line_text (lines.Block b []))
line_of_none b lt = both (whole (codes "block")) (both (both (number_short b lt) (whole [])) (whole (codes "\n")))

line_of_one : (b x : ℕ) → b < 10 ^ 5 → x < 10 ^ 5 → Short 18 (line_text (lines.Block b (x ∷ [])))
line_of_one b x lt few = both (whole (codes "block")) (both (both (number_short b lt) (both (number_short x few) (whole []))) (whole (codes "\n")))

line_of_two : (b x y : ℕ) → b < 10 ^ 5 → x < 10 ^ 5 → y < 10 ^ 5 → Short 24 (line_text (lines.Block b (x ∷ y ∷ [])))
line_of_two b x y lt few more = both (whole (codes "block")) (both (both (number_short b lt) (both (number_short x few) (both (number_short y more) (whole [])))) (whole (codes "\n")))

lines_short : (b a k : ℕ) → b + 4 * k < 10 ^ 5 → Short (78 * k + 12) (flat_map line_text (block_lines b (tail a k) (flat_map round_counts (range_with_len a k))))
lines_short b a zero few = both (line_of_none b (omega arith)) (whole [])
lines_short b a (suc k) few =
    let l : left_count a < 10 ^ 5 = omega arith in
    let r : 100 - left_count a < 10 ^ 5 = omega arith in
    within (78 * suc k + 12) (
    both (line_of_two b (left_count a) (100 - left_count a) (omega arith) l r) (
    both (line_of_one (b + 1) (left_count a) (omega arith) l) (
    both (line_of_one (b + 1 + 1) (100 - left_count a) (omega arith) r) (
    both (line_of_one (b + 1 + 1 + 1) 100 (omega arith) (omega arith)) (lines_short (b + 1 + 1 + 1 + 1) (a + 1) k (omega arith))
    )
    )
    )
    ) (omega arith)

pub profile_short : (n : ℕ) → n ≤ 10000 → length (prof_text (workload_program n) (workload_counts n)) ≤ 2 ^ 26
profile_short n le =
    let blocks : List Line = block_lines 0 (main_function n).blocks (main_counts n).slots in
    let head : Short 17 (line_text (lines.Function 0 100)) = both (whole (codes "func")) (both (both (number_short 0 (omega arith)) (both (number_short 100 (omega arith)) (whole []))) (whole (codes "\n"))) in
    let own : Short (18 + (78 * n + 12)) (flat_map line_text blocks) = both (line_of_one 0 100 (omega arith) (omega arith)) (lines_short 1 0 n (omega arith)) in
    let all : Short (18 + (78 * n + 12)) (flat_map line_text (blocks ++ [])) = subst (λ xs. Short (18 + (78 * n + 12)) (flat_map line_text xs)) (sym (append-nil blocks)) own in
    let text : Short (2 ^ 26) (prof_text (workload_program n) (workload_counts n)) = within (2 ^ 26) (both (whole (codes "mcpre-profile 1\n")) (both head all)) (omega arith) in
    text.le
