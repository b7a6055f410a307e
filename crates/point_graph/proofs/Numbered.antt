-- The lists that are put together are the points and the edges of the function by their numbers.
use Rattle.std.proofs.Common.{◌≡◌, ℕ, zero, suc, ◌+◌, ◌-◌, ◌<◌, ◌≤◌, Bool, true, List, [], ◌∷◌, ◌++◌, length, map, get_or, Some, refl, sym, ap, ◌∙◌, subst, arith, ⊎_elim}
use Rattle.std.specs.Prelude.{slice_get, filter, flat_map, All}
use Rattle.std.specs.List.{range_with_len, AllZip}
use Rattle.std.specs.Option.{option_map_or}
use Rattle.std.specs.Prelude.{option_and_then}
use Rattle.std.proofs.lemmas.Bool.{cases_lt}
use Rattle.std.proofs.lemmas.List.Concat.{flat_map-append}
use Rattle.std.proofs.lemmas.List.FromFn.{length-map-range_with_len, length-range_with_len, get_or-range_with_len}
use Rattle.std.proofs.lemmas.List.Elements.{All-filter, All-contains, All-same, All-weaker, filter_passes}
use Rattle.std.proofs.lemmas.Option.{slice_get_within, get_or_from_slice_get}
use Rattle.ir_types.specs.Limits.{IsWithinLimits}
use Rattle.ir_types.specs.declared.syntax.Block.{Block}
use Rattle.ir_types.specs.declared.syntax.Function.{Function}
use Rattle.flow_graph.specs.Slots.{slots_of, next_block}
use Rattle.flow_graph.specs.Paths.{IsPath, IsReached, AreReached}
use Rattle.point_graph.specs.Graph as graph
use Rattle.point_graph.specs.Graph.{Edge, Entry, Inside, Slot, Joins, point_before}
use Rattle.point_graph.specs.Numbers.{KeepsRules, of_block, block_points, block_edges, all_points, all_edges, point_of, kind_of, IsNumbered, HasStart, ArePoints}
use Rattle.point_graph.specs.Building.{AreBlocks, blocks_before, start_of, starts_of, head_of, inside_edge, slot_edge, inside_edges, slot_edges, numbered_edges, all_numbered}
use Rattle.point_graph.specs.declared.graph.Point.{Point}
use Rattle.point_graph.specs.declared.graph.Point.TheVariants.{Start, Head, Instr, Term}
use Rattle.point_graph.specs.declared.graph.Edge.{Edge as NumberedEdge}
use Rattle.point_graph.specs.declared.graph.BlockStart.{BlockStart}
use Rattle.point_graph.proofs.Ranges.{get_left, get_right, get_middle, get-map_range, filter-range_split, all_zip_append, all_zip_range}
use Rattle.point_graph.proofs.BlockStarts.{edge-small, get_there, of_block-there, point-small, targets-there}

zip-length : {A B : Type 0} (R : A → B → Type 0) (xs : List A) (ys : List B) → AllZip R xs ys → length xs ≡ length ys
zip-length R [] [] all = refl
zip-length R [] (y ∷ ys) all = absurd all
zip-length R (x ∷ xs) [] all = absurd all
zip-length R (x ∷ xs) (y ∷ ys) all = ap (λ n. suc n) (zip-length R xs ys all.1)

-- ---- reached blocks

path_on : (f : Function) (a : ℕ) (path : List ℕ) (b slot c : ℕ) → IsPath f a path b → next_block f b slot ≡ Some c → IsPath f a (path ++ slot ∷ []) c
path_on f a [] b slot c same next = (c, ap (λ x. next_block f x slot) same ∙ next, refl)
path_on f a (first ∷ path) b slot c leads next = (leads.0, leads.1, path_on f leads.0 path b slot c leads.2 next)

reached_on : (f : Function) (b slot c : ℕ) → IsReached f b → next_block f b slot ≡ Some c → c < length f.blocks → IsReached f c
reached_on f b slot c reached next lt = record { inside = lt; path = reached.path ++ slot ∷ []; leads = path_on f 0 reached.path b slot c reached.leads next }

-- ---- what stands where in the lists

-- an item of a told block stands as far behind the start of the block as in the block's list
listed_at : {X : Type 0} (first : X) (items : ℕ → Block → List X) (f : Function) (test : ℕ → Bool) (n b : ℕ) (block : Block)
    → b < n → test b ≡ true → slice_get f.blocks b ≡ Some block → (j : ℕ) (v : X) → slice_get (items b block) j ≡ Some v
    → slice_get (first ∷ flat_map (of_block items f) (blocks_before test n)) (length (first ∷ flat_map (of_block items f) (blocks_before test b)) + j) ≡ Some v
listed_at first items f test n b block lt told there j v e =
    let g = of_block items f in
    let before = blocks_before test b in
    let rest = filter test (range_with_len (b + 1) (n - (b + 1))) in
    let split : flat_map g (blocks_before test n) ≡ flat_map g before ++ (items b block ++ flat_map g rest) =
    ap (flat_map g) (filter-range_split test n b lt told)
    ∙ flat_map-append g before (b ∷ rest)
    ∙ ap (λ l. flat_map g before ++ (l ++ flat_map g rest)) (of_block-there items f b block there) in
    ap (λ l. slice_get (first ∷ l) (length (first ∷ flat_map g before) + j)) split
    ∙ get_middle (first ∷ flat_map g before) (items b block) (flat_map g rest) j v e

-- a point at this index that is this point of the function
record Stands (f : Function) (points : List Point) (i : ℕ) (u : graph.Point) : Type 0 where
  point : Point
  at : slice_get points i ≡ Some point
  is : point_of f point ≡ u

module _ (f : Function) (b : ℕ) (block : Block) (there : slice_get f.blocks b ≡ Some block) where
  abbrev instr_count : ℕ
  instr_count = length block.instrs

  instr_at : (k : ℕ) → k < instr_count → slice_get (block_points b block) (suc k) ≡ Some (Instr b k)
  instr_at k lt =
      let z : 0 + k ≡ k = omega arith in
      get_left (map (Instr b) (range_with_len 0 instr_count)) (Term b ∷ []) k (Instr b k) (get-map_range (Instr b) 0 instr_count k lt ∙ ap (λ i. Some (Instr b i)) z)

  term_at : slice_get (block_points b block) (suc instr_count) ≡ Some (Term b)
  term_at =
      let instrs = map (Instr b) (range_with_len 0 instr_count) in
      let n : instr_count ≡ length instrs + 0 = omega (arith, length-map-range_with_len (Instr b) 0 instr_count) in
      ap (slice_get (instrs ++ Term b ∷ [])) n ∙ get_right instrs (Term b ∷ []) 0

  place_at : (k : ℕ) → k ≤ instr_count → Stands f (block_points b block) (suc k) (graph.Place b k)
  place_at k le = ⊎_elim
      (λ (lt : k < instr_count). record { point = Instr b k; at = instr_at k lt; is = refl })
      (λ (ge : instr_count ≤ k).
      let same : k ≡ instr_count = omega (arith, le, ge) in
      record {
        point = Term b;
        at = ap (λ i. slice_get (block_points b block) (suc i)) same ∙ term_at;
        is = ap (λ o. graph.Place b (option_map_or (λ x. length x.instrs) o 0)) there ∙ ap (graph.Place b) (sym same);
      })
      (cases_lt k instr_count)

  before_place_at : (k : ℕ) → k ≤ instr_count → Stands f (block_points b block) k (point_before b k)
  before_place_at zero le = record { point = Head b; at = refl; is = refl }
  before_place_at (suc k) le = place_at k (omega (arith, le))

module _ (f : Function) (test : ℕ → Bool) (told : AreReached f test) (keeps : KeepsRules f) (limits : IsWithinLimits f) where
  abbrev all_blocks : ℕ
  all_blocks = length f.blocks

  abbrev blocks : List ℕ
  blocks = blocks_before test all_blocks

  abbrev starts : List (BlockStart)
  starts = starts_of f test all_blocks

  start_at : (b : ℕ) → b < all_blocks → slice_get starts b ≡ Some (start_of f test b)
  start_at b lt = let z : 0 + b ≡ b = omega arith in get-map_range (start_of f test) 0 all_blocks b lt ∙ ap (λ i. Some (start_of f test i)) z

  head_is : (b : ℕ) → b < all_blocks → head_of starts b ≡ length (all_points f (blocks_before test b))
  head_is b lt = ap (λ o. option_map_or (λ s. s.point) o 0) (start_at b lt)

  -- the points of a told block stand behind its head
  stands : (b : ℕ) (block : Block) → slice_get f.blocks b ≡ Some block → test b ≡ true → (j : ℕ) (u : graph.Point) → Stands f (block_points b block) j u
      → (i : ℕ) → i ≡ head_of starts b + j → Stands f (all_points f blocks) i u
  stands b block there is_told j u s i e =
      let lt = slice_get_within f.blocks b block there in
      let at : i ≡ length (all_points f (blocks_before test b)) + j = e ∙ ap (λ h. h + j) (head_is b lt) in
      record { point = s.point; at = ap (slice_get (all_points f blocks)) at ∙ listed_at Start block_points f test all_blocks b block lt is_told there j s.point s.at; is = s.is }

  head_stands : (b : ℕ) → b < all_blocks → test b ≡ true → Stands f (all_points f blocks) (head_of starts b) (graph.Head b)
  head_stands b lt is_told =
      let there = get_there f.blocks b lt in
      stands b there.0 there.1 is_told 0 (graph.Head b) (record { point = Head b; at = refl; is = refl }) (head_of starts b) (omega arith)

  entry_told : 0 < all_blocks → test 0 ≡ true
  entry_told lt = (told 0).1 (record { inside = lt; path = []; leads = refl })

  -- ---- edges

  numbered : (edge : Edge) (e : NumberedEdge) (u v : graph.Point) → e.kind ≡ kind_of edge
      → Stands f (all_points f blocks) e.from u → Stands f (all_points f blocks) e.to v → Joins f edge u v → IsNumbered f (all_points f blocks) edge e
  numbered edge e u v kind begins ends joins = record {
    kind = kind;
    from = begins.point;
    to = ends.point;
    begins = begins.at;
    ends = ends.at;
    joins = subst (λ x. Joins f edge x (point_of f ends.point)) (sym begins.is) (subst (λ y. Joins f edge u y) (sym ends.is) joins);
  }

  module _ (b : ℕ) (block : Block) (there : slice_get f.blocks b ≡ Some block) (is_told : test b ≡ true) where
    inside_numbered : (k : ℕ) → k ≤ length block.instrs → IsNumbered f (all_points f blocks) (Inside b k) (inside_edge b (head_of starts b) k)
    inside_numbered k le =
        let z : head_of starts b + k + 1 ≡ head_of starts b + suc k = omega arith in
        numbered (Inside b k) (inside_edge b (head_of starts b) k) (point_before b k) (graph.Place b k) refl
        (stands b block there is_told k (point_before b k) (before_place_at f b block there k le) (head_of starts b + k) refl)
        (stands b block there is_told (suc k) (graph.Place b k) (place_at f b block there k le) (head_of starts b + k + 1) z)
        (record { block = block; block_there = there; within = le; begins = refl; ends = refl })

    slot_numbered : (slot : ℕ) → slot < length (slots_of block.term)
        → IsNumbered f (all_points f blocks) (Slot b slot) (slot_edge starts b (head_of starts b + length block.instrs + 1) block.term slot)
    slot_numbered slot lt =
        let target = get_there (slots_of block.term) slot lt in
        let inside : target.0 < all_blocks =
        subst (λ t. t < all_blocks) (get_or_from_slice_get (slots_of block.term) slot target.0 target.0 target.1) (targets-there f keeps b block there slot target.0 lt) in
        let next : next_block f b slot ≡ Some target.0 = ap (λ o. option_and_then (λ x. slice_get (slots_of x.term) slot) o) there ∙ target.1 in
        let reached : test target.0 ≡ true = (told target.0).1 (reached_on f b slot target.0 ((told b).0 is_told) next inside) in
        let from = head_of starts b + length block.instrs + 1 in
        let z : from ≡ head_of starts b + suc (length block.instrs) = omega arith in
        let to : option_map_or (head_of starts) (slice_get (slots_of block.term) slot) 0 ≡ head_of starts target.0 = ap (λ o. option_map_or (head_of starts) o 0) target.1 in
        numbered (Slot b slot) (slot_edge starts b from block.term slot) (graph.Place b (length block.instrs)) (graph.Head target.0) refl
        (stands b block there is_told (suc (length block.instrs)) (graph.Place b (length block.instrs)) (place_at f b block there (length block.instrs) (omega arith)) from z)
        (subst (λ i. Stands f (all_points f blocks) i (graph.Head target.0)) (sym to) (head_stands target.0 inside reached))
        (record { block = block; block_there = there; target = target.0; leads = target.1; begins = refl; ends = refl })

    block_numbered : AllZip (IsNumbered f (all_points f blocks)) (block_edges b block) (numbered_edges starts b block)
    block_numbered =
        let head = head_of starts b in
        let R = IsNumbered f (all_points f blocks) in
        all_zip_append R (map (Inside b) (range_with_len 0 (length block.instrs + 1))) (map (Slot b) (range_with_len 0 (length (slots_of block.term))))
        (inside_edges b head (length block.instrs)) (slot_edges starts b (head + length block.instrs + 1) block.term)
        (all_zip_range R (Inside b) (inside_edge b head) 0 (length block.instrs + 1) (λ k le lt. inside_numbered k (omega (arith, lt))))
        (all_zip_range R (Slot b) (slot_edge starts b (head + length block.instrs + 1) block.term) 0 (length (slots_of block.term)) (λ k le lt. slot_numbered k (omega (arith, lt))))

  blocks_numbered : (bs : List ℕ) → All (λ b. (b < all_blocks) × (test b ≡ true)) bs
      → AllZip (IsNumbered f (all_points f blocks)) (flat_map (of_block block_edges f) bs) (flat_map (of_block (numbered_edges starts) f) bs)
  blocks_numbered [] all = tt
  blocks_numbered (b ∷ bs) all =
      let first = all 0 b (omega arith) in
      let there = get_there f.blocks b first.0 in
      let R = IsNumbered f (all_points f blocks) in
      all_zip_append R (of_block block_edges f b) (flat_map (of_block block_edges f) bs) (of_block (numbered_edges starts) f b) (flat_map (of_block (numbered_edges starts) f) bs)
      (subst (λ xs. AllZip R xs (of_block (numbered_edges starts) f b)) (sym (of_block-there block_edges f b there.0 there.1))
      (subst (λ ys. AllZip R (block_edges b there.0) ys) (sym (of_block-there (numbered_edges starts) f b there.0 there.1))
      (block_numbered b there.0 there.1 first.1)))
      (blocks_numbered bs (λ k d lt. all (suc k) d (omega (arith, lt))))

  -- ---- the whole

  numbers_inside : All (λ b. b < all_blocks) (range_with_len 0 all_blocks)
  numbers_inside k d lt =
      let inside : k < all_blocks = omega (arith, lt, length-range_with_len 0 all_blocks) in
      let at : get_or (range_with_len 0 all_blocks) k d ≡ 0 + k = get_or-range_with_len 0 all_blocks k d inside in
      omega (arith, inside, at)

  -- the listed blocks are blocks that are told
  pub told_listed : All (λ b. (b < all_blocks) × (test b ≡ true)) blocks
  told_listed k d lt = (
    All-filter test (λ b. b < all_blocks) (range_with_len 0 all_blocks) numbers_inside k d lt,
    filter_passes test (range_with_len 0 all_blocks) k d lt,
  )

  pub blocks_within : (bs : List ℕ) → bs ≡ blocks → AreBlocks f bs
  blocks_within bs same = All-same (λ b. b < all_blocks) bs blocks same (All-weaker (λ b. (b < all_blocks) × (test b ≡ true)) (λ b. b < all_blocks) (λ b h. h.0) blocks told_listed)

  pub edges_are_numbered : 0 < all_blocks → AllZip (IsNumbered f (all_points f blocks)) (all_edges f blocks) (all_numbered f starts blocks)
  edges_are_numbered lt =
      let head = head_stands 0 lt (entry_told lt) in (
        numbered Entry (record { from = 0; to = head_of starts 0; kind = kind_of Entry }) graph.Start (graph.Head 0) refl (record { point = Start; at = refl; is = refl }) head (refl, refl),
        blocks_numbered blocks told_listed,
      )

  has_start : (b : ℕ) → (b < all_blocks) × (test b ≡ true) → (ps : List Point) (es : List NumberedEdge)
      → ps ≡ all_points f blocks → HasStart f (record { blocks = blocks; points = ps; edges = es; starts = starts }) b
  has_start b told_b ps es same =
      let there = get_there f.blocks b told_b.0 in
      let edges_first : slice_get (block_edges b there.0) 0 ≡ Some (Inside b 0) =
      get_left (map (Inside b) (range_with_len 0 (length there.0.instrs + 1))) (map (Slot b) (range_with_len 0 (length (slots_of there.0.term)))) 0 (Inside b 0)
      (get-map_range (Inside b) 0 (length there.0.instrs + 1) 0 (omega arith)) in
      let points_before = length (all_points f (blocks_before test b)) in
      let edges_before = length (all_edges f (blocks_before test b)) in
      let zp : points_before ≡ points_before + 0 = omega arith in
      let ze : edges_before ≡ edges_before + 0 = omega arith in
      record {
        start = start_of f test b;
        there = start_at b told_b.0;
        is_start = record {
          point = ap (λ l. slice_get l points_before) same ∙ ap (slice_get (all_points f blocks)) zp ∙ listed_at Start block_points f test all_blocks b there.0 told_b.0 told_b.1 there.1 0 (Head b) refl;
          edge = ap (slice_get (all_edges f blocks)) ze ∙ listed_at Entry block_edges f test all_blocks b there.0 told_b.0 told_b.1 there.1 0 (Inside b 0) edges_first;
        };
      }

  are_points : 0 < all_blocks → (ps : List Point) (es : List NumberedEdge) → ps ≡ all_points f blocks → es ≡ all_numbered f starts blocks
      → ArePoints f (record { blocks = blocks; points = ps; edges = es; starts = starts })
  are_points lt ps es same_points same_edges = record {
    blocks = record { test = test; told = told; listed = refl };
    points = same_points;
    edges = subst (λ l. AllZip (IsNumbered f l) (all_edges f blocks) es) (sym same_points) (subst (λ l. AllZip (IsNumbered f (all_points f blocks)) (all_edges f blocks) l) (sym same_edges) (edges_are_numbered lt));
    starts = λ b listed. has_start b (All-contains (λ b. (b < all_blocks) × (test b ≡ true)) blocks b told_listed listed) ps es same_points;
    few =
        let points = point-small f limits test all_blocks (omega arith) in
        let edges = edge-small f limits test all_blocks (omega arith) in
        let as_many : length (all_edges f blocks) ≡ length (all_numbered f starts blocks) =
        zip-length (IsNumbered f (all_points f blocks)) (all_edges f blocks) (all_numbered f starts blocks) (edges_are_numbered lt) in
        omega (arith, points, edges, as_many, ap length same_points, ap length same_edges);
  }

  pub points_are : 0 < all_blocks → (bs : List ℕ) (ss : List BlockStart) (ps : List Point) (es : List NumberedEdge)
      → bs ≡ blocks → ss ≡ starts → ps ≡ all_points f bs → es ≡ all_numbered f ss bs → ArePoints f (record { blocks = bs; points = ps; edges = es; starts = ss })
  points_are lt bs ss ps es same_blocks same_starts same_points same_edges =
      let points : ps ≡ all_points f blocks = same_points ∙ ap (all_points f) same_blocks in
      let edges : es ≡ all_numbered f starts blocks = same_edges ∙ ap (λ l. all_numbered f l bs) same_starts ∙ ap (all_numbered f starts) same_blocks in
      subst (λ l. ArePoints f (record { blocks = l; points = ps; edges = es; starts = ss })) (sym same_blocks)
      (subst (λ l. ArePoints f (record { blocks = blocks; points = ps; edges = es; starts = l })) (sym same_starts) (are_points lt ps es points edges))
