-- How many expressions a function has, and how many moves.
use Rattle.std.proofs.Common.{◌≡◌, ◌≢◌, ℕ, zero, suc, ◌+◌, ◌-◌, ◌<◌, ◌≤◌, ◌^◌, Bool, true, false, cond, List, [], ◌∷◌, ◌++◌, length, map, get_or, drop, Option, Some, None, refl, sym, ap, ◌∙◌, subst, arith, Contains}
use Rattle.std.specs.Prelude.{slice_get, AllPairs, filter, filter_map, flat_map, sum_by}
use Rattle.std.specs.List.{range_with_len, cons_option}
use Rattle.std.specs.Option.{option_map_or}
use Rattle.std.proofs.lemmas.List.{length-append, drop-drop}
use Rattle.std.proofs.lemmas.List.Elements.{filter_map-append, Contains-append_right}
use Rattle.std.proofs.lemmas.List.FromFn.{length-map-range_with_len}
use Rattle.std.proofs.lemmas.List.Sums.{sum_by-drop_more, sum_by-take-drop}
use Rattle.std.proofs.lemmas.Option.{slice_get_within, get_or_from_slice_get, same_Some}
use Rattle.ir_types.specs.Program.{Program}
use Rattle.ir_types.specs.Limits.{IsWithinLimits}
use Rattle.ir_types.specs.declared.syntax.Block.{Block}
use Rattle.ir_types.specs.declared.syntax.Function.{Function}
use Rattle.point_graph.specs.Numbers.{ArePoints, of_block, block_points}
use Rattle.point_graph.specs.declared.graph.Point.{Point}
use Rattle.point_graph.specs.declared.graph.Point.TheVariants.{Instr, Term}
use Rattle.point_graph.specs.declared.graph.Points.{Points}
use Rattle.expressions.specs.declared.syntax.Expr.{Expr}
use Rattle.expressions.specs.Expressions.{nothing, term_there, content_expr, expr_at}
use Rattle.expressions.specs.Kept.{Kept}
use Rattle.expressions.specs.Tables.{IsTable}
use Rattle.applied.specs.Motion.{Move}
use Rattle.planning.proofs.Geometry.{get_some, at_contains, contains_at}

-- ---- no more than the list that has them

abbrev drop_one : {X : Type 0} → ℕ → List X → List X
drop_one k [] = []
drop_one zero (y ∷ ys) = ys
drop_one (suc k) (y ∷ ys) = y ∷ drop_one k ys

length_drop_one : {X : Type 0} (k : ℕ) (ys : List X) → k < length ys → suc (length (drop_one k ys)) ≡ length ys
length_drop_one k [] lt = absurd (omega (arith, lt))
length_drop_one zero (y ∷ ys) lt = refl
length_drop_one (suc k) (y ∷ ys) lt = ap (λ n. suc n) (length_drop_one k ys (omega (arith, lt)))

kept_in : {X : Type 0} (ys : List X) (k j : ℕ) (x y : X) → slice_get ys k ≡ Some x → slice_get ys j ≡ Some y → (x ≡ y → ⊥) → (i : ℕ) × (slice_get (drop_one k ys) i ≡ Some y)
kept_in [] k j x y e e' ne = absurd cc
kept_in (z ∷ ys) zero zero x y e e' ne = absurd (ne (same_Some x y (sym e ∙ e')))
kept_in (z ∷ ys) zero (suc j) x y e e' ne = (j, e')
kept_in (z ∷ ys) (suc k) zero x y e e' ne = (0, e')
kept_in (z ∷ ys) (suc k) (suc j) x y e e' ne = let r = kept_in ys k j x y e e' ne in (suc r.0, r.1)

pub few_of : {X : Type 0} (xs ys : List X) → AllPairs (λ x y. x ≢ y) xs → ((i : ℕ) (x : X) → slice_get xs i ≡ Some x → (j : ℕ) × (slice_get ys j ≡ Some x)) → length xs ≤ length ys
few_of [] ys differ there = omega arith
few_of {X} (x ∷ xs) ys differ there =
    let first = there 0 x refl in
    let rest : length xs ≤ length (drop_one first.0 ys) =
    few_of xs (drop_one first.0 ys) (λ i j d lt within. differ (suc i) (suc j) d (omega (arith, lt)) (omega (arith, within)))
    (λ i y e.
    let at = there (suc i) y e in
    kept_in ys first.0 at.0 x y first.1 at.1 (λ same. differ 0 (suc i) x (omega arith) (let h = slice_get_within xs i y e in omega (arith, h)) (same ∙ sym (get_or_from_slice_get xs i y x e)))) in
    omega (arith, rest, length_drop_one first.0 ys (slice_get_within ys first.0 x first.1))

-- ---- expressions

map_le : {X Y : Type 0} (g : X → Option Y) (xs : List X) → length (filter_map g xs) ≤ length xs
map_le g [] = omega arith
map_le {X} {Y} g (x ∷ xs) = by (g x) (map_le g xs)
  where
    by : (o : Option Y) → length (filter_map g xs) ≤ length xs → length (cons_option o (filter_map g xs)) ≤ suc (length xs)
    by None le = omega (arith, le)
    by (Some y) le = omega (arith, le)

term_none : (m : Program) (found : Option Block) → content_expr m (option_map_or (λ block. term_there block.term) found nothing) ≡ None
term_none m None = refl
term_none m (Some block) = refl

module _ (m : Program) (f : Function) where
  abbrev g : Point → Option Expr
  g = expr_at m f

  abbrev width : Block → ℕ
  width block = length block.instrs

  block_few : (b : ℕ) (block : Block) → length (filter_map g (block_points b block)) ≤ length block.instrs
  block_few b block =
      let instrs = map (Instr b) (range_with_len 0 (length block.instrs)) in
      let none : length (filter_map g (Term b ∷ [])) ≡ 0 = ap (λ o. length (cons_option o [])) (term_none m (slice_get f.blocks b)) in
      let split : length (filter_map g (instrs ++ Term b ∷ [])) ≡ length (filter_map g instrs) + length (filter_map g (Term b ∷ [])) =
      ap length (filter_map-append g instrs (Term b ∷ [])) ∙ length-append (filter_map g instrs) (filter_map g (Term b ∷ [])) in
      let few : length (filter_map g (instrs ++ Term b ∷ [])) ≤ length block.instrs = omega (arith, split, none, map_le g instrs, length-map-range_with_len (Instr b) 0 (length block.instrs)) in few

  -- what the told blocks from a on have together
  blocks_few : (test : ℕ → Bool) (n a : ℕ) → a + n ≤ length f.blocks → length (filter_map g (flat_map (of_block block_points f) (filter test (range_with_len a n)))) ≤ sum_by width (drop a f.blocks)
  blocks_few test zero a le = omega arith
  blocks_few test (suc n) a le = by (test a) (blocks_few test n (a + 1) (omega (arith, le)))
    where
      block : (x : Block) × (slice_get f.blocks a ≡ Some x)
      block = get_some f.blocks a (omega (arith, le))

      sums : sum_by width (drop a f.blocks) ≡ width block.0 + sum_by width (drop (a + 1) f.blocks)
      sums = sum_by-drop_more width f.blocks a block.0 (omega (arith, le)) ∙ ap (λ x. width x + sum_by width (drop (a + 1) f.blocks)) (get_or_from_slice_get f.blocks a block.0 block.0 block.1)

      here : length (filter_map g (of_block block_points f a)) ≤ width block.0
      here = subst (λ l. length (filter_map g l) ≤ width block.0) (sym (ap (λ o. option_map_or (block_points a) o []) block.1)) (block_few a block.0)

      by : (q : Bool) → length (filter_map g (flat_map (of_block block_points f) (filter test (range_with_len (a + 1) n)))) ≤ sum_by width (drop (a + 1) f.blocks)
          → length (filter_map g (flat_map (of_block block_points f) (cond q (a ∷ filter test (range_with_len (a + 1) n)) (filter test (range_with_len (a + 1) n))))) ≤ sum_by width (drop a f.blocks)
      by true ih =
          let first = of_block block_points f a in
          let others = flat_map (of_block block_points f) (filter test (range_with_len (a + 1) n)) in
          let split : length (filter_map g (first ++ others)) ≡ length (filter_map g first) + length (filter_map g others) =
          ap length (filter_map-append g first others) ∙ length-append (filter_map g first) (filter_map g others) in
          let all : length (filter_map g (first ++ others)) ≤ sum_by width (drop a f.blocks) = omega (arith, split, here, ih, sums) in all
      by false ih = omega (arith, ih, sums)

-- no more expressions than instructions
pub few_exprs : (f : Function) (p : Points) (t : Kept) → ArePoints f p → IsTable f p t → IsWithinLimits f → length t.exprs ≤ 2 ^ 18
few_exprs f p t are table limits =
    let m = t.module_of in
    let n = length f.blocks in
    let listed : filter_map (expr_at m f) p.points ≡ filter_map (expr_at m f) (flat_map (of_block block_points f) (filter are.blocks.test (range_with_len 0 n))) =
    ap (filter_map (expr_at m f)) are.points ∙ ap (λ bs. filter_map (expr_at m f) (flat_map (of_block block_points f) bs)) are.blocks.listed in
    let few : length t.exprs ≤ length (filter_map (expr_at m f) p.points) =
    few_of t.exprs (filter_map (expr_at m f) p.points) table.exprs.differ
    (λ i x e. at_contains (filter_map (expr_at m f) p.points) x ((table.exprs.members x).0 (contains_at t.exprs i x e))) in
    omega (arith, few, ap length listed, blocks_few m f are.blocks.test n 0 (omega arith), limits.instrs)

-- ---- moves in ascending order

abbrev pub Up : ℕ → List Move → Type 0
Up base [] = Unit {0}
Up base (m ∷ moves) = (base ≤ m.number) × Up (suc m.number) moves

pub up_of : (base : ℕ) (moves : List Move) → AllPairs (λ move next. move.number < next.number) moves → ((m : Move) → Contains moves m → base ≤ m.number) → Up base moves
up_of base [] up from = tt
up_of base (m ∷ moves) up from = (
  from m (contains_at (m ∷ moves) 0 m refl),
  up_of (suc m.number) moves (λ i j d lt within. up (suc i) (suc j) d (omega (arith, lt)) (omega (arith, within)))
      (λ n h.
      let at = at_contains moves n h in
      let value : get_or moves at.0 m ≡ n = get_or_from_slice_get moves at.0 n m at.1 in
      let inside : at.0 < length moves = slice_get_within moves at.0 n at.1 in
      let less : m.number < (get_or moves at.0 m).number = up 0 (suc at.0) m (omega arith) (omega (arith, inside)) in
      let same : (get_or moves at.0 m).number ≡ n.number = ap (λ x. x.number) value in
      omega (arith, less, same)),
)

pub few_moves : (n base : ℕ) (moves : List Move) → Up base moves → base ≤ n → ((m : Move) → Contains moves m → m.number < n) → base + length moves ≤ n
few_moves n base [] up le within = omega (arith, le)
few_moves n base (m ∷ moves) up le within =
    let lt : m.number < n = within m (contains_at (m ∷ moves) 0 m refl) in
    let rest : suc m.number + length moves ≤ n = few_moves n (suc m.number) moves up.1 (omega (arith, lt)) (λ o h. within o (Contains-append_right (m ∷ []) moves o h)) in
    omega (arith, rest, up.0)

-- a later part has no more
sum_drop_le : {X : Type 0} (w : X → ℕ) (xs : List X) (a b : ℕ) → a ≤ b → sum_by w (drop b xs) ≤ sum_by w (drop a xs)
sum_drop_le w xs a b le =
    let d = b - a in
    let same : a + d ≡ b = omega (arith, le) in
    let part : sum_by w (drop d (drop a xs)) ≡ sum_by w (drop b xs) = ap (sum_by w) (drop-drop d a xs) ∙ ap (λ n. sum_by w (drop n xs)) same in
    omega (arith, sum_by-take-drop w (drop a xs) d, part)

abbrev pub sum_of : (Move → ℕ) → List Move → ℕ
sum_of v [] = 0
sum_of v (m ∷ moves) = v m + sum_of v moves

-- what each move has by its number is no more than what the numbers have together
pub sum_moves : {X : Type 0} (w : X → ℕ) (xs : List X) (v : Move → ℕ) (base : ℕ) (moves : List Move) → Up base moves
    → ((m : Move) → Contains moves m → (x : X) × (slice_get xs m.number ≡ Some x) × (v m ≤ w x)) → sum_of v moves ≤ sum_by w (drop base xs)
sum_moves w xs v base [] up each = omega arith
sum_moves w xs v base (m ∷ moves) up each =
    let here = each m (contains_at (m ∷ moves) 0 m refl) in
    let rest : sum_of v moves ≤ sum_by w (drop (suc m.number) xs) = sum_moves w xs v (suc m.number) moves up.1 (λ n h. each n (Contains-append_right (m ∷ []) moves n h)) in
    let next : suc m.number ≡ m.number + 1 = omega arith in
    let inside : m.number < length xs = slice_get_within xs m.number here.0 here.1 in
    let split : sum_by w (drop m.number xs) ≡ w here.0 + sum_by w (drop (suc m.number) xs) =
    sum_by-drop_more w xs m.number here.0 inside ∙ ap (λ x. w x + sum_by w (drop (m.number + 1) xs)) (get_or_from_slice_get xs m.number here.0 here.0 here.1) ∙ ap (λ n. w here.0 + sum_by w (drop n xs)) (sym next) in
    omega (arith, here.2, rest, split, sum_drop_le w xs base m.number up.0)
