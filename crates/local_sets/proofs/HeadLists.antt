-- The sets at the heads of blocks, and the bits at the ends of blocks.
use Rattle.std.proofs.Common.{◌≡◌, ◌<◌, ◌≤◌, ◌+◌, ℕ, zero, suc, Bool, true, false, cond, List, [], ◌∷◌, ◌++◌, length, filter, flat_map, map, get_or, drop, refl, sym, ap, ◌∙◌, subst, arith, append_assoc, append-nil}
use Rattle.std.specs.Prelude.{slice_get, Some}
use Rattle.std.specs.List.{AllZip, range_with_len}
use Rattle.std.proofs.lemmas.Bool.{true≢false}
use Rattle.std.proofs.lemmas.List.{drop_more, drop_all}
use Rattle.std.proofs.lemmas.List.Elements.{filter-append}
use Rattle.std.specs.Option.{option_map_or}
use Rattle.ir_types.specs.declared.syntax.Block.{Block}
use Rattle.ir_types.specs.declared.syntax.Function.{Function}
use Rattle.point_graph.specs.declared.graph.Point.{Point}
use Rattle.point_graph.specs.declared.graph.Point.TheVariants.{Start, Head, Instr, Term}
use Rattle.point_graph.specs.Numbers.{of_block, block_points}
use Rattle.local_sets.specs.declared.blocks.BlockSets.{BlockSets}
use Rattle.local_sets.specs.Heads.{no_sets, begins_block, ends_block, first_sets, later_sets, placed, bits_at_ends}
use Rattle.local_sets.specs.Reaching.{ends_of}

-- ---- one point more

pub placed_begin : (points : List Point) (i : ℕ) (left built : List BlockSets) → i < length points → begins_block (get_or points i Start) ≡ true → (built ++ first_sets left ∷ []) ++ placed (drop (i + 1) points) (later_sets left) ≡ built ++ placed (drop i points) left
placed_begin points i left built h begins =
    append_assoc built (first_sets left ∷ []) (placed (drop (i + 1) points) (later_sets left))
    ∙ ap (λ l. built ++ l) (sym (ap (λ ps. placed ps left) (drop_more points i Start h)
    ∙ ap (λ b. cond b (first_sets left ∷ placed (drop (i + 1) points) (later_sets left)) (no_sets ∷ placed (drop (i + 1) points) left)) begins))

pub placed_other : (points : List Point) (i : ℕ) (left built : List BlockSets) → i < length points → begins_block (get_or points i Start) ≡ false → (built ++ no_sets ∷ []) ++ placed (drop (i + 1) points) left ≡ built ++ placed (drop i points) left
placed_other points i left built h begins =
    append_assoc built (no_sets ∷ []) (placed (drop (i + 1) points) left)
    ∙ ap (λ l. built ++ l) (sym (ap (λ ps. placed ps left) (drop_more points i Start h)
    ∙ ap (λ b. cond b (first_sets left ∷ placed (drop (i + 1) points) (later_sets left)) (no_sets ∷ placed (drop (i + 1) points) left)) begins))

pub placed_all : (points : List Point) (i : ℕ) (left built : List BlockSets) → length points ≤ i → built ++ placed (drop i points) left ≡ built
placed_all points i left built h = ap (λ ps. built ++ placed ps left) (drop_all i points h) ∙ append-nil built

bits_split : (points : List Point) (bits : List Bool) (i : ℕ) → i < length points → i < length bits → bits_at_ends (drop i points) (drop i bits) ≡ cond (ends_block (get_or points i Start)) (get_or bits i false ∷ bits_at_ends (drop (i + 1) points) (drop (i + 1) bits)) (bits_at_ends (drop (i + 1) points) (drop (i + 1) bits))
bits_split points bits i h k = ap (λ ps. bits_at_ends ps (drop i bits)) (drop_more points i Start h) ∙ ap (λ bs. bits_at_ends (get_or points i Start ∷ drop (i + 1) points) bs) (drop_more bits i false k)

pub bits_end : (points : List Point) (bits built : List Bool) (i : ℕ) → i < length points → i < length bits → ends_block (get_or points i Start) ≡ true → (built ++ get_or bits i false ∷ []) ++ bits_at_ends (drop (i + 1) points) (drop (i + 1) bits) ≡ built ++ bits_at_ends (drop i points) (drop i bits)
bits_end points bits built i h k ends =
    let rest = bits_at_ends (drop (i + 1) points) (drop (i + 1) bits) in
    append_assoc built (get_or bits i false ∷ []) rest
    ∙ ap (λ l. built ++ l) (sym (bits_split points bits i h k ∙ ap (λ b. cond b (get_or bits i false ∷ rest) rest) ends))

pub bits_other : (points : List Point) (bits built : List Bool) (i : ℕ) → i < length points → i < length bits → ends_block (get_or points i Start) ≡ false → built ++ bits_at_ends (drop (i + 1) points) (drop (i + 1) bits) ≡ built ++ bits_at_ends (drop i points) (drop i bits)
bits_other points bits built i h k ends =
    let rest = bits_at_ends (drop (i + 1) points) (drop (i + 1) bits) in
    ap (λ l. built ++ l) (sym (bits_split points bits i h k ∙ ap (λ b. cond b (get_or bits i false ∷ rest) rest) ends))

pub bits_all : (points : List Point) (bits built : List Bool) (i : ℕ) → length points ≤ i → built ++ bits_at_ends (drop i points) (drop i bits) ≡ built
bits_all points bits built i h = ap (λ ps. built ++ bits_at_ends ps (drop i bits)) (drop_all i points h) ∙ append-nil built

-- ---- what stands at a point

abbrev pub heads_of : List Point → List ℕ
heads_of [] = []
heads_of (Start ∷ points) = heads_of points
heads_of (Head b ∷ points) = b ∷ heads_of points
heads_of (Instr b k ∷ points) = heads_of points
heads_of (Term b ∷ points) = heads_of points

pub placed_at : (R : ℕ → BlockSets → Type 0) (points : List Point) (sets : List BlockSets) → AllZip R (heads_of points) sets → (v b : ℕ) → slice_get points v ≡ Some (Head b) → R b (get_or (placed points sets) v no_sets)
placed_at R [] sets all v b e = absurd cc
placed_at R (Start ∷ points) sets all zero b e = absurd cc
placed_at R (Start ∷ points) sets all (suc v) b e = placed_at R points sets all v b e
placed_at R (Head a ∷ points) [] all v b e = absurd all
placed_at R (Head a ∷ points) (s ∷ sets) all zero b e = let same : a ≡ b = cc in subst (λ x. R x s) same all.0
placed_at R (Head a ∷ points) (s ∷ sets) all (suc v) b e = placed_at R points sets all.1 v b e
placed_at R (Instr a k ∷ points) sets all zero b e = absurd cc
placed_at R (Instr a k ∷ points) sets all (suc v) b e = placed_at R points sets all v b e
placed_at R (Term a ∷ points) sets all zero b e = absurd cc
placed_at R (Term a ∷ points) sets all (suc v) b e = placed_at R points sets all v b e

pub placed_none : (points : List Point) (sets : List BlockSets) (v : ℕ) (x : Point) → slice_get points v ≡ Some x → begins_block x ≡ false → get_or (placed points sets) v no_sets ≡ no_sets
placed_none [] sets v x e f = refl
placed_none (Start ∷ points) sets zero x e f = refl
placed_none (Start ∷ points) sets (suc v) x e f = placed_none points sets v x e f
placed_none (Head a ∷ points) sets zero x e f = let same : Head a ≡ x = cc in absurd (true≢false (ap begins_block same ∙ f))
placed_none (Head a ∷ points) sets (suc v) x e f = placed_none points (later_sets sets) v x e f
placed_none (Instr a k ∷ points) sets zero x e f = refl
placed_none (Instr a k ∷ points) sets (suc v) x e f = placed_none points sets v x e f
placed_none (Term a ∷ points) sets zero x e f = refl
placed_none (Term a ∷ points) sets (suc v) x e f = placed_none points sets v x e f

pub placed_length : (points : List Point) (sets : List BlockSets) → length (placed points sets) ≡ length points
placed_length [] sets = refl
placed_length (Start ∷ points) sets = ap suc (placed_length points sets)
placed_length (Head a ∷ points) sets = ap suc (placed_length points (later_sets sets))
placed_length (Instr a k ∷ points) sets = ap suc (placed_length points sets)
placed_length (Term a ∷ points) sets = ap suc (placed_length points sets)

-- what holds of each end of a block and its bit
pub ends_told : (R : Point → Bool → Type 0) (points : List Point) (bits : List Bool) → length bits ≡ length points → ((v : ℕ) (x : Point) → slice_get points v ≡ Some x → ends_block x ≡ true → R x (get_or bits v false)) → AllZip R (filter ends_block points) (bits_at_ends points bits)
ends_told R [] bits l each = tt
ends_told R (x ∷ points) [] l each = absurd (omega (arith, l))
ends_told R (x ∷ points) (bit ∷ bits) l each = choose (ends_block x) refl (ends_told R points bits (omega (arith, l)) (λ v y e t. each (suc v) y e t))
  where
    choose : (b : Bool) → ends_block x ≡ b → AllZip R (filter ends_block points) (bits_at_ends points bits) → AllZip R (cond b (x ∷ filter ends_block points) (filter ends_block points)) (cond b (bit ∷ bits_at_ends points bits) (bits_at_ends points bits))
    choose true e rest = (each 0 x refl e, rest)
    choose false e rest = rest

-- ---- the lists of the points of blocks

heads-append : (xs ys : List Point) → heads_of (xs ++ ys) ≡ heads_of xs ++ heads_of ys
heads-append [] ys = refl
heads-append (Start ∷ xs) ys = heads-append xs ys
heads-append (Head b ∷ xs) ys = ap (λ l. b ∷ l) (heads-append xs ys)
heads-append (Instr b k ∷ xs) ys = heads-append xs ys
heads-append (Term b ∷ xs) ys = heads-append xs ys

heads_inside : (b : ℕ) (ks : List ℕ) → heads_of (map (Instr b) ks ++ Term b ∷ []) ≡ []
heads_inside b [] = refl
heads_inside b (k ∷ ks) = heads_inside b ks

ends_inside : (b : ℕ) (ks : List ℕ) → filter ends_block (map (Instr b) ks ++ Term b ∷ []) ≡ Term b ∷ []
ends_inside b [] = refl
ends_inside b (k ∷ ks) = ends_inside b ks

-- each of these is a block of the function
pub record AreThere (f : Function) (blocks : List ℕ) : Type 0 where
  pub there : (i b : ℕ) → slice_get blocks i ≡ Some b → (block : Block) × (slice_get f.blocks b ≡ Some block)

pub of_there : {X : Type 0} (items : ℕ → Block → List X) (f : Function) (b : ℕ) (block : Block) → slice_get f.blocks b ≡ Some block → of_block items f b ≡ items b block
of_there items f b block e = ap (λ o. option_map_or (items b) o []) e

pub heads_are : (f : Function) (blocks : List ℕ) → AreThere f blocks → heads_of (flat_map (of_block block_points f) blocks) ≡ blocks
heads_are f [] there = refl
heads_are f (b ∷ blocks) are =
    let here = are.there 0 b refl in
    heads-append (of_block block_points f b) (flat_map (of_block block_points f) blocks)
    ∙ (ap (λ l. heads_of l ++ heads_of (flat_map (of_block block_points f) blocks)) (of_there block_points f b here.0 here.1)
    ∙ (ap (λ l. (b ∷ l) ++ heads_of (flat_map (of_block block_points f) blocks)) (heads_inside b (range_with_len 0 (length here.0.instrs)))
    ∙ ap (λ l. b ∷ l) (heads_are f blocks (record { there = λ i c e. are.there (suc i) c e }))))

pub ends_are : (f : Function) (blocks : List ℕ) → AreThere f blocks → filter ends_block (flat_map (of_block block_points f) blocks) ≡ ends_of blocks
ends_are f [] there = refl
ends_are f (b ∷ blocks) are =
    let here = are.there 0 b refl in
    filter-append ends_block (of_block block_points f b) (flat_map (of_block block_points f) blocks)
    ∙ (ap (λ l. filter ends_block l ++ filter ends_block (flat_map (of_block block_points f) blocks)) (of_there block_points f b here.0 here.1)
    ∙ (ap (λ l. (Head b ∷ l) ++ filter ends_block (flat_map (of_block block_points f) blocks)) (ends_inside b (range_with_len 0 (length here.0.instrs)))
    ∙ ap (λ l. Head b ∷ Term b ∷ l) (ends_are f blocks (record { there = λ i c e. are.there (suc i) c e }))))
