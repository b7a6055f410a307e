-- Where the points and the edges of a block begin, and that there is room for their numbers.
use Rattle.std.proofs.Common.{◌≡◌, ℕ, zero, suc, ◌+◌, ◌*◌, ◌^◌, ◌<◌, ◌≤◌, Bool, true, false, List, [], ◌∷◌, ◌++◌, length, map, get_or, take, Some, refl, sym, ap, ◌∙◌, subst, arith}
use Rattle.std.specs.Prelude.{slice_get, flat_map, All, sum_by}
use Rattle.std.specs.List.{range_with_len}
use Rattle.std.specs.Option.{option_map_or}
use Rattle.std.proofs.lemmas.List.{append-nil, length-append, length-map}
use Rattle.std.proofs.lemmas.List.Concat.{flat_map-append}
use Rattle.std.proofs.lemmas.List.FromFn.{length-map-range_with_len}
use Rattle.std.proofs.lemmas.List.Elements.{All-weaker}
use Rattle.std.proofs.lemmas.List.Sums.{sum_by-cons, sum_by_more, sum_by-take-le, get_or-le-sum_by}
use Rattle.std.proofs.lemmas.Option.{slice_get_within, get_or_from_slice_get}
use Rattle.ir_types.specs.Limits.{IsWithinLimits, slot_count}
use Rattle.ir_types.specs.declared.syntax.Terminator.{Terminator}
use Rattle.ir_types.specs.declared.syntax.Terminator.TheVariants.{Return, Jump, Branch, Switch, Unreachable}
use Rattle.ir_types.specs.declared.syntax.Block.{Block}
use Rattle.ir_types.specs.declared.syntax.Function.{Function}
use Rattle.flow_graph.specs.Slots.{slots_of}
use Rattle.point_graph.specs.Graph.{Inside, Slot}
use Rattle.point_graph.specs.Numbers.{KeepsRules, of_block, block_points, block_edges, all_points, all_edges}
use Rattle.point_graph.specs.Building.{blocks_before, start_of}
use Rattle.point_graph.specs.declared.graph.BlockStart.{BlockStart}
use Rattle.point_graph.specs.declared.graph.Point.TheVariants.{Instr, Term}
use Rattle.point_graph.proofs.Ranges.{filter-range_yes, filter-range_no}

pub get_there : {X : Type 0} (xs : List X) (i : ℕ) → i < length xs → (x : X) × (slice_get xs i ≡ Some x)
get_there [] i lt = absurd (omega (arith, lt))
get_there (x ∷ xs) zero lt = (x, refl)
get_there (x ∷ xs) (suc i) lt = get_there xs i (omega (arith, lt))

pub of_block-there : {X : Type 0} (items : ℕ → Block → List X) (f : Function) (b : ℕ) (block : Block) → slice_get f.blocks b ≡ Some block → of_block items f b ≡ items b block
of_block-there items f b block there = ap (λ o. option_map_or (items b) o []) there

-- ---- lengths

pub length-block_points : (b : ℕ) (block : Block) → length (block_points b block) ≡ length block.instrs + 2
length-block_points b block =
    let instrs = map (Instr b) (range_with_len 0 (length block.instrs)) in
    let n : length instrs ≡ length block.instrs = length-map-range_with_len (Instr b) 0 (length block.instrs) in
    omega (arith, n, length-append instrs (Term b ∷ []))

pub length-block_edges : (b : ℕ) (block : Block) → length (block_edges b block) ≡ length block.instrs + 1 + length (slots_of block.term)
length-block_edges b block =
    let insides = map (Inside b) (range_with_len 0 (length block.instrs + 1)) in
    let slots = map (Slot b) (range_with_len 0 (length (slots_of block.term))) in
    omega (arith, length-append insides slots, length-map-range_with_len (Inside b) 0 (length block.instrs + 1), length-map-range_with_len (Slot b) 0 (length (slots_of block.term)))

flat-more : {X : Type 0} (g : ℕ → List X) (bs : List ℕ) (b : ℕ) → flat_map g (bs ++ b ∷ []) ≡ flat_map g bs ++ g b
flat-more g bs b = flat_map-append g bs (b ∷ []) ∙ ap (λ l. flat_map g bs ++ l) (append-nil (g b))

-- the list of what the blocks before b + 1 have, b told or not
module _ {X : Type 0} (items : ℕ → Block → List X) (f : Function) (test : ℕ → Bool) where
  pub length-before_yes : (b : ℕ) (block : Block) → slice_get f.blocks b ≡ Some block → test b ≡ true
      → length (flat_map (of_block items f) (blocks_before test (b + 1))) ≡ length (flat_map (of_block items f) (blocks_before test b)) + length (items b block)
  length-before_yes b block there e =
      ap (λ bs. length (flat_map (of_block items f) bs)) (filter-range_yes test b e)
      ∙ ap length (flat-more (of_block items f) (blocks_before test b) b)
      ∙ length-append (flat_map (of_block items f) (blocks_before test b)) (of_block items f b)
      ∙ ap (λ l. length (flat_map (of_block items f) (blocks_before test b)) + length l) (of_block-there items f b block there)

  pub length-before_no : (b : ℕ) → test b ≡ false
      → length (flat_map (of_block items f) (blocks_before test (b + 1))) ≡ length (flat_map (of_block items f) (blocks_before test b))
  length-before_no b e = ap (λ bs. length (flat_map (of_block items f) bs)) (filter-range_no test b e)

  -- no more than the blocks have together
  pub length-before_le : (w : Block → ℕ) → ((b : ℕ) (block : Block) → length (items b block) ≤ w block) → (n : ℕ) → n ≤ length f.blocks
      → length (flat_map (of_block items f) (blocks_before test n)) ≤ sum_by w (take n f.blocks)
  length-before_le w each zero le = omega arith
  length-before_le w each (suc n) le = by (test n) refl (length-before_le w each n (omega (arith, le)))
    where
      more : suc n ≡ n + 1
      more = omega arith

      block : (x : Block) × (slice_get f.blocks n ≡ Some x)
      block = get_there f.blocks n (omega (arith, le))

      sums : sum_by w (take (n + 1) f.blocks) ≡ sum_by w (take n f.blocks) + w block.0
      sums = sum_by_more w f.blocks n block.0 (omega (arith, le)) ∙ ap (λ x. sum_by w (take n f.blocks) + w x) (get_or_from_slice_get f.blocks n block.0 block.0 block.1)

      by_more : length (flat_map (of_block items f) (blocks_before test (n + 1))) ≤ sum_by w (take (n + 1) f.blocks) → length (flat_map (of_block items f) (blocks_before test (suc n))) ≤ sum_by w (take (suc n) f.blocks)
      by_more h = subst (λ k. length (flat_map (of_block items f) (blocks_before test k)) ≤ sum_by w (take k f.blocks)) (sym more) h

      by : (q : Bool) → test n ≡ q → length (flat_map (of_block items f) (blocks_before test n)) ≤ sum_by w (take n f.blocks) → length (flat_map (of_block items f) (blocks_before test (suc n))) ≤ sum_by w (take (suc n) f.blocks)
      by true e ih = by_more (omega (arith, length-before_yes n block.0 block.1 e, each n block.0, sums, ih))
      by false e ih = by_more (omega (arith, length-before_no n e, sums, ih))

-- ---- starts

pub start_of-yes : (f : Function) (test : ℕ → Bool) (b : ℕ) (block : Block) → slice_get f.blocks b ≡ Some block → test b ≡ true
    → ((start_of f test (b + 1)).point ≡ (start_of f test b).point + length block.instrs + 2)
    × ((start_of f test (b + 1)).edge ≡ (start_of f test b).edge + length block.instrs + 1 + length (slots_of block.term))
start_of-yes f test b block there e = (
  omega (arith, length-before_yes block_points f test b block there e, length-block_points b block),
  omega (arith, length-before_yes block_edges f test b block there e, length-block_edges b block),
)

pub start_of-no : (f : Function) (test : ℕ → Bool) (b : ℕ) → test b ≡ false → start_of f test (b + 1) ≡ start_of f test b
start_of-no f test b e = ap (λ bs. record { point = length (all_points f bs); edge = length (all_edges f bs) }) (filter-range_no test b e)

slot_count-length : (term : Terminator) → length (slots_of term) ≡ slot_count term
slot_count-length (Return operand) = refl
slot_count-length (Jump b) = refl
slot_count-length (Branch operand a b) = refl
slot_count-length (Switch w operand other cases) = let n : length (map (λ (c : ℕ × ℕ). c.1) cases) ≡ length cases = length-map cases (λ c. c.1) in omega (arith, n)
slot_count-length Unreachable = refl

points_sum : (xs : List Block) → sum_by (λ b. length b.instrs + 2) xs ≡ sum_by (λ b. length b.instrs) xs + 2 * length xs
points_sum [] = omega arith
points_sum (x ∷ xs) = omega (arith, sum_by-cons (λ b. length b.instrs + 2) x xs, sum_by-cons (λ b. length b.instrs) x xs, points_sum xs)

edges_sum : (xs : List Block) → sum_by (λ b. length b.instrs + 1 + length (slots_of b.term)) xs ≡ sum_by (λ b. length b.instrs) xs + length xs + sum_by (λ b. slot_count b.term) xs
edges_sum [] = omega arith
edges_sum (x ∷ xs) =
    omega (arith, sum_by-cons (λ b. length b.instrs + 1 + length (slots_of b.term)) x xs, sum_by-cons (λ b. length b.instrs) x xs, sum_by-cons (λ b. slot_count b.term) x xs, slot_count-length x.term, edges_sum xs)

pub point-small : (f : Function) → IsWithinLimits f → (test : ℕ → Bool) (n : ℕ) → n ≤ length f.blocks → (start_of f test n).point ≤ 2 ^ 18 + 2 ^ 17 + 1
point-small f limits test n le =
    let w : Block → ℕ = λ b. length b.instrs + 2 in
    omega (arith, length-before_le block_points f test w (λ b block. omega (arith, length-block_points b block)) n le, sum_by-take-le w f.blocks n, points_sum f.blocks, limits.instrs, limits.blocks)

pub edge-small : (f : Function) → IsWithinLimits f → (test : ℕ → Bool) (n : ℕ) → n ≤ length f.blocks → (start_of f test n).edge ≤ 2 ^ 18 + 2 ^ 17 + 2 ^ 16 + 1
edge-small f limits test n le =
    let w : Block → ℕ = λ b. length b.instrs + 1 + length (slots_of b.term) in
    omega (arith, length-before_le block_edges f test w (λ b block. omega (arith, length-block_edges b block)) n le, sum_by-take-le w f.blocks n, edges_sum f.blocks, limits.instrs, limits.blocks, limits.slots)

-- ---- one block

pub instrs-small : (f : Function) → IsWithinLimits f → (b : ℕ) (block : Block) → slice_get f.blocks b ≡ Some block → length block.instrs ≤ 2 ^ 18
instrs-small f limits b block there =
    let le = get_or-le-sum_by (λ x. length x.instrs) f.blocks b block (slice_get_within f.blocks b block there) in
    let same : length (get_or f.blocks b block).instrs ≡ length block.instrs = ap (λ x. length x.instrs) (get_or_from_slice_get f.blocks b block block there) in
    omega (arith, le, same, limits.instrs)

pub slots-small : (f : Function) → IsWithinLimits f → (b : ℕ) (block : Block) → slice_get f.blocks b ≡ Some block → length (slots_of block.term) ≤ 2 ^ 17
slots-small f limits b block there =
    let le = get_or-le-sum_by (λ x. slot_count x.term) f.blocks b block (slice_get_within f.blocks b block there) in
    let same : slot_count (get_or f.blocks b block).term ≡ slot_count block.term = ap (λ x. slot_count x.term) (get_or_from_slice_get f.blocks b block block there) in
    omega (arith, le, same, slot_count-length block.term, limits.slots)

pub targets-there : (f : Function) → KeepsRules f → (b : ℕ) (block : Block) → slice_get f.blocks b ≡ Some block → All (λ t. t < length f.blocks) (slots_of block.term)
targets-there f keeps b block there =
    let lt = slice_get_within f.blocks b block there in
    let all = keeps.rules.blocks b block lt in
    let same = get_or_from_slice_get f.blocks b block block there in
    let ends : All (λ t. (0 < t) × (t < length f.blocks)) (slots_of (get_or f.blocks b block).term) = all.targets_exist in
    All-weaker (λ t. (0 < t) × (t < length f.blocks)) (λ t. t < length f.blocks) (λ t h. h.1) (slots_of block.term)
    (subst (λ (x : Block). All (λ t. (0 < t) × (t < length f.blocks)) (slots_of x.term)) same ends)

-- there is room for the numbers behind a told block
pub start-room : (f : Function) → IsWithinLimits f → (test : ℕ → Bool) (b : ℕ) (block : Block) → slice_get f.blocks b ≡ Some block → test b ≡ true
    → ((start_of f test b).point + length block.instrs + 2 < 2 ^ 32) × ((start_of f test b).edge + length block.instrs + 1 + length (slots_of block.term) < 2 ^ 32)
start-room f limits test b block there e =
    let lt = slice_get_within f.blocks b block there in
    let next = start_of-yes f test b block there e in
    (omega (arith, next.0, point-small f limits test (b + 1) (omega (arith, lt))), omega (arith, next.1, edge-small f limits test (b + 1) (omega (arith, lt))))

pub start-same : (a b : BlockStart) → a.point ≡ b.point → a.edge ≡ b.edge → a ≡ b
start-same a b p q = ap (λ n. record a { point = n }) p ∙ ap (λ n. record b { edge = n }) q
