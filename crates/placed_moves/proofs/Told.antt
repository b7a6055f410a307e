-- What the tables of expressions tell of symbolic points.
use Rattle.std.proofs.Common.{◌≡◌, ℕ, zero, suc, ◌+◌, ◌<◌, Bool, true, false, IsTrue, List, [], ◌∷◌, ◌++◌, length, map, Option, Some, None, refl, sym, ap, ◌∙◌, subst, arith, inl, inr, ⊎_elim}
use Rattle.std.specs.Prelude.{◌↔◌, ◌⊎◌, Contains, slice_get, slice_index_or, filter_map, flat_map}
use Rattle.std.specs.List.{range_with_len, cons_option}
use Rattle.std.specs.Option.{option_map_or}
use Rattle.std.proofs.lemmas.Option.{slice_get_within, slice_get_past}
use Rattle.ir_types.specs.Program.{Program}
use Rattle.ir_types.specs.declared.syntax.Kind.{Kind}
use Rattle.ir_types.specs.declared.syntax.Kind.TheVariants.{Load, Store, Compute, Call}
use Rattle.ir_types.specs.declared.syntax.Instr.{Instr as Instruction}
use Rattle.ir_types.specs.declared.syntax.Terminator.{Terminator}
use Rattle.ir_types.specs.declared.syntax.Terminator.TheVariants.{Return, Jump, Branch, Switch, Unreachable}
use Rattle.ir_types.specs.declared.syntax.Block.{Block}
use Rattle.ir_types.specs.declared.syntax.Function.{Function}
use Rattle.point_graph.specs.Graph as graph
use Rattle.point_numbers.specs.Told.{AreTold}
use Rattle.point_graph.specs.Numbers.{ArePoints, of_block, block_points, all_points, all_edges, point_of}
use Rattle.point_graph.specs.declared.graph.Point.{Point}
use Rattle.point_graph.specs.declared.graph.Point.TheVariants.{Start, Head, Instr, Term}
use Rattle.point_graph.specs.declared.graph.Points.{Points}
use Rattle.point_numbers.proofs.Told.{are_told}
use Rattle.expressions.specs.declared.syntax.Expr.{Expr}
use Rattle.expressions.specs.declared.syntax.Event.{Event}
use Rattle.expressions.specs.declared.syntax.Event.TheVariants as events
use Rattle.expressions.specs.Expressions.{Content, nothing, term_there, content, content_expr, expr_at, expr_traps}
use Rattle.expressions.specs.Events.{IsEvent, changes_expr, kind_bars, term_bars, content_bars}
use Rattle.expressions.specs.Kept.{Kept}
use Rattle.expressions.specs.Tables.{IsTable, IsEventOf}
use Rattle.placement.specs.declared.placements.Placement.{Placement}
use Rattle.placement.specs.Placements.{arcs_of, IsCorrect, IsSafe}
use Rattle.motion_events.proofs.Events.{there_is, occurs_agree, kills_agree}
use Rattle.applied.specs.Motion.{OccursIn, Occurs, KillsIn, Kills, KindBars, TermBars, PlaceBars, BarsIn, Bars, Move, IsMove}
use Rattle.placed_moves.specs.Placed.{IsPlaced, IsTold}
use Rattle.placed_moves.proofs.Moves.{Placed, numbered_told, numbered_move}

-- ---- lists

get_map_back : {A B : Type 0} (g : A → B) (xs : List A) (i : ℕ) (v : B) → slice_get (map g xs) i ≡ Some v → (x : A) × (slice_get xs i ≡ Some x) × (g x ≡ v)
get_map_back g [] i v e = absurd cc
get_map_back g (x ∷ xs) zero v e = let same : g x ≡ v = cc in (x, refl, same)
get_map_back g (x ∷ xs) (suc i) v e = get_map_back g xs i v e

get_either : {X : Type 0} (xs ys : List X) (i : ℕ) (v : X) → slice_get (xs ++ ys) i ≡ Some v → (slice_get xs i ≡ Some v) ⊎ ((j : ℕ) × (slice_get ys j ≡ Some v))
get_either [] ys i v e = inr (i, e)
get_either (x ∷ xs) ys zero v e = inl e
get_either (x ∷ xs) ys (suc i) v e = get_either xs ys i v e

in_flat : {X : Type 0} (items : ℕ → List X) (bs : List ℕ) (i : ℕ) (v : X) → slice_get (flat_map items bs) i ≡ Some v → (b : ℕ) × (j : ℕ) × (slice_get (items b) j ≡ Some v)
in_flat items [] i v e = absurd cc
in_flat items (b ∷ bs) i v e =
    ⊎_elim (λ (here : slice_get (items b) i ≡ Some v). (b, i, here)) (λ (later : (j : ℕ) × (slice_get (flat_map items bs) j ≡ Some v)). in_flat items bs later.0 v later.1)
    (get_either (items b) (flat_map items bs) i v e)

get_contained : {X : Type 0} (xs : List X) (x : X) (k : ℕ) → k < length xs → slice_index_or xs k x ≡ x → slice_get xs k ≡ Some x
get_contained [] x k lt e = absurd (omega (arith, lt))
get_contained (y ∷ ys) x zero lt e = ap (λ z. Some z) e
get_contained (y ∷ ys) x (suc k) lt e = get_contained ys x k (omega (arith, lt)) e

contained_get : {X : Type 0} (xs : List X) (x : X) (k : ℕ) → slice_get xs k ≡ Some x → slice_index_or xs k x ≡ x
contained_get [] x k e = absurd cc
contained_get (y ∷ ys) x zero e = let same : y ≡ x = cc in same
contained_get (y ∷ ys) x (suc k) e = contained_get ys x k e

in_filter : {X Y : Type 0} (g : X → Option Y) (xs : List X) (j : ℕ) (y : Y) → slice_get (filter_map g xs) j ≡ Some y → (i : ℕ) × (x : X) × (slice_get xs i ≡ Some x) × (g x ≡ Some y)
in_filter g [] j y e = absurd cc
in_filter {X} {Y} g (x ∷ xs) j y e = by (g x) refl j e (λ k e'. in_filter g xs k y e')
  where
    by : (o : Option Y) → g x ≡ o → (j : ℕ) → slice_get (cons_option o (filter_map g xs)) j ≡ Some y → ((k : ℕ) → slice_get (filter_map g xs) k ≡ Some y → (i : ℕ) × (z : X) × (slice_get xs i ≡ Some z) × (g z ≡ Some y)) → (i : ℕ) × (z : X) × (slice_get (x ∷ xs) i ≡ Some z) × (g z ≡ Some y)
    by None is j e rest = let r = rest j e in (suc r.0, r.1, r.2, r.3)
    by (Some z) is zero e rest = let same : z ≡ y = cc in (0, x, refl, is ∙ ap (λ w. Some w) same)
    by (Some z) is (suc j) e rest = let r = rest j e in (suc r.0, r.1, r.2, r.3)

-- ---- listed instructions are there

in_range : (c a n j b k : ℕ) → slice_get (map (Instr c) (range_with_len a n)) j ≡ Some (Instr b k) → (c ≡ b) × (k < a + n)
in_range c a zero j b k e = absurd cc
in_range c a (suc n) zero b k e =
    let same : Instr c a ≡ Instr b k = cc in
    let blocks : c ≡ b = cc in
    let places : a ≡ k = cc in
    (blocks, omega (arith, places))
in_range c a (suc n) (suc j) b k e = let r = in_range c (a + 1) n j b k e in (r.0, omega (arith, r.1))

listed_there : (f : Function) (c : ℕ) (found : Option Block) → slice_get f.blocks c ≡ found → (j b k : ℕ) → slice_get (option_map_or (block_points c) found []) j ≡ Some (Instr b k) → (block : Block) × (slice_get f.blocks b ≡ Some block) × (k < length block.instrs)
listed_there f c None there j b k e = absurd cc
listed_there f c (Some block) there zero b k e = absurd cc
listed_there f c (Some block) there (suc j) b k e =
    let n = length block.instrs in
    ⊎_elim
    (λ (l : slice_get (map (Instr c) (range_with_len 0 n)) j ≡ Some (Instr b k)).
    let r = in_range c 0 n j b k l in (block, ap (slice_get f.blocks) (sym r.0) ∙ there, omega (arith, r.1)))
    (λ (m : (i : ℕ) × (slice_get (Term c ∷ []) i ≡ Some (Instr b k))). absurd (no_term m.0 m.1))
    (get_either (map (Instr c) (range_with_len 0 n)) (Term c ∷ []) j (Instr b k) e)
  where
    no_term : (i : ℕ) → slice_get (Term c ∷ []) i ≡ Some (Instr b k) → ⊥
    no_term zero e = cc
    no_term (suc i) e = cc

point_there : (f : Function) (bs : List ℕ) (i b k : ℕ) → slice_get (all_points f bs) i ≡ Some (Instr b k) → (block : Block) × (slice_get f.blocks b ≡ Some block) × (k < length block.instrs)
point_there f bs zero b k e = absurd cc
point_there f bs (suc i) b k e =
    let r = in_flat (of_block block_points f) bs i (Instr b k) e in listed_there f r.0 (slice_get f.blocks r.0) refl r.1 b k r.2

instr_found : (instrs : List Instruction) (k : ℕ) → k < length instrs → (instr : Instruction) × (slice_get instrs k ≡ Some instr)
instr_found [] k lt = absurd (omega (arith, lt))
instr_found (instr ∷ instrs) zero lt = (instr, refl)
instr_found (instr ∷ instrs) (suc k) lt = instr_found instrs k (omega (arith, lt))

-- ---- events at points

kind_bars_too : (kind : Kind) → KindBars kind → kind_bars kind ≡ true
kind_bars_too (Load x) bars = absurd bars
kind_bars_too (Store operand x) bars = absurd bars
kind_bars_too (Compute op operands) bars = bars
kind_bars_too (Call callee operands) bars = refl

term_bars_too : (term : Terminator) → TermBars term → term_bars term ≡ true
term_bars_too (Return value) bars = refl
term_bars_too (Jump target) bars = absurd bars
term_bars_too (Branch condition a b) bars = absurd bars
term_bars_too (Switch w value other cases) bars = absurd bars
term_bars_too Unreachable bars = refl

not_both : (q : Bool) → q ≡ false → q ≡ true → ⊥
not_both q e f = let both : false ≡ true = sym e ∙ f in cc

module _ (m : Program) (f : Function) (e : Expr) where
  abbrev TermContent : Option Block → Content
  TermContent found = option_map_or (λ block. term_there block.term) found nothing

  no_expr_at_term : (found : Option Block) → content_expr m (TermContent found) ≡ Some e → ⊥
  no_expr_at_term None is = cc
  no_expr_at_term (Some block) is = cc

  no_change_at_term : (found : Option Block) → IsTrue (changes_expr m e (TermContent found)) → ⊥
  no_change_at_term None is = cc
  no_change_at_term (Some block) is = cc

  abbrev last_place : Option Block → ℕ
  last_place found = option_map_or (λ block. length block.instrs) found 0

  no_occurrence_at_end : (b : ℕ) (found : Option Block) → slice_get f.blocks b ≡ found → OccursIn m f e b (last_place found) → ⊥
  no_occurrence_at_end b None there occurs = let both : None ≡ Some occurs.block = sym there ∙ occurs.block_there in cc
  no_occurrence_at_end b (Some block) there occurs =
      let same : block ≡ occurs.block = let both : Some block ≡ Some occurs.block = sym there ∙ occurs.block_there in cc in
      omega (arith, slice_get_within occurs.block.instrs (length block.instrs) occurs.instr occurs.here, ap (λ x. length x.instrs) same)

  no_kill_at_end : (b : ℕ) (found : Option Block) → slice_get f.blocks b ≡ found → KillsIn m f e b (last_place found) → ⊥
  no_kill_at_end b None there kills = let both : None ≡ Some kills.block = sym there ∙ kills.block_there in cc
  no_kill_at_end b (Some block) there kills =
      let same : block ≡ kills.block = let both : Some block ≡ Some kills.block = sym there ∙ kills.block_there in cc in
      omega (arith, slice_get_within kills.block.instrs (length block.instrs) kills.instr kills.here, ap (λ x. length x.instrs) same)

  no_bar_at_end : (b : ℕ) (found : Option Block) → slice_get f.blocks b ≡ found → content_bars (TermContent found) ≡ false → BarsIn f b (last_place found) → ⊥
  no_bar_at_end b None there free bars = let both : None ≡ Some bars.block = sym there ∙ bars.block_there in cc
  no_bar_at_end b (Some block) there free bars =
      let same : bars.block ≡ block = let both : Some bars.block ≡ Some block = sym bars.block_there ∙ there in cc in
      let none : slice_get block.instrs (length block.instrs) ≡ None = slice_get_past block.instrs (length block.instrs) (omega arith) in
      let here : PlaceBars (slice_get block.instrs (length block.instrs)) block.term = subst (λ x. PlaceBars (slice_get x.instrs (length block.instrs)) x.term) same bars.bars in
      not_both (term_bars block.term) free (term_bars_too block.term (subst (λ o. PlaceBars o block.term) none here))

  occurs_at : (at : Point) → IsEvent m f e at events.Occurs ↔ Occurs m f e (point_of f at)
  occurs_at Start = ((λ is. absurd cc), (λ o. absurd o))
  occurs_at (Head b) = ((λ is. absurd cc), (λ o. absurd o))
  occurs_at (Instr b k) = let both = occurs_agree m f e b k in (both.1, both.0)
  occurs_at (Term b) = ((λ is. absurd (no_expr_at_term (slice_get f.blocks b) is)), (λ o. absurd (no_occurrence_at_end b (slice_get f.blocks b) refl o)))

  kills_at : (at : Point) → IsEvent m f e at events.Kills ↔ Kills m f e (point_of f at)
  kills_at Start = ((λ is. absurd cc), (λ o. absurd o))
  kills_at (Head b) = ((λ is. absurd cc), (λ o. absurd o))
  kills_at (Instr b k) = let both = kills_agree m f e b k in (both.1, both.0)
  kills_at (Term b) = ((λ is. absurd (no_change_at_term (slice_get f.blocks b) is)), (λ o. absurd (no_kill_at_end b (slice_get f.blocks b) refl o)))

  instr_free : (b k : ℕ) → (block : Block) × (slice_get f.blocks b ≡ Some block) × (k < length block.instrs) → content_bars (content f (Instr b k)) ≡ false → BarsIn f b k → ⊥
  instr_free b k there free bars =
      let instr = instr_found there.0.instrs k there.2 in
      let same : bars.block ≡ there.0 = let both : Some bars.block ≡ Some there.0 = sym bars.block_there ∙ there.1 in cc in
      let here : PlaceBars (slice_get there.0.instrs k) there.0.term = subst (λ x. PlaceBars (slice_get x.instrs k) x.term) same bars.bars in
      not_both (kind_bars instr.0.kind) (sym (ap content_bars (there_is f b k there.0 instr.0 there.1 instr.1)) ∙ free)
      (kind_bars_too instr.0.kind (subst (λ o. PlaceBars o there.0.term) instr.1 here))

  passes_at : (bs : List ℕ) (i : ℕ) (at : Point) → slice_get (all_points f bs) i ≡ Some at → IsEvent m f e at events.Passes → ¬ Bars f (point_of f at)
  passes_at bs i Start there is bars = bars
  passes_at bs i (Head b) there is bars = bars
  passes_at bs i (Instr b k) there is bars = instr_free b k (point_there f bs i b k there) is.2 bars
  passes_at bs i (Term b) there is bars = no_bar_at_end b (slice_get f.blocks b) refl is.2 bars

-- ---- the placement of one expression of a table

-- the numbers of points and edges of a function with blocks
numbers : (f : Function) (p : Points) (t : Kept) → 0 < length f.blocks → ArePoints f p → IsTable f p t → AreTold f (map (point_of f) p.points) (all_edges f p.blocks) p.edges
numbers f p t defined are table = are_told f p (record { module_of = t.module_of; rules = table.rules }) defined are

all_placed : (f : Function) (p : Points) (t : Kept) (x : ℕ) (placement : Placement) (move : Move) (defined : 0 < length f.blocks) (are : ArePoints f p) (table : IsTable f p t) → IsPlaced f p t x placement move
    → Placed t.module_of f (map (point_of f) p.points) (all_edges f p.blocks) p.edges (numbers f p t defined are table) (IsEventOf f p t x) placement move
all_placed f p t x placement move defined are table placed =
    let m = t.module_of in
    let e = move.expr in
    let points = map (point_of f) p.points in
    let edges = all_edges f p.blocks in
    -- an event of the table is one of the expression at the point
    let event_at = λ (i : ℕ) (at : Point) (event : Event) (there : slice_get p.points i ≡ Some at) (is : IsEventOf f p t x i event).
    let exprs : is.expr ≡ e = let both : Some is.expr ≡ Some e = sym is.expr_there ∙ placed.expr_there in cc in
    let ats : is.at ≡ at = let both : Some is.at ≡ Some at = sym is.point_there ∙ there in cc in
    let here : IsEvent m f e at event = subst (λ a. IsEvent m f e a event) ats (subst (λ y. IsEvent m f y is.at event) exprs is.is_event) in
    here in
    let event_back = λ (i : ℕ) (at : Point) (event : Event) (there : slice_get p.points i ≡ Some at) (is : IsEvent m f e at event).
    let here : IsEventOf f p t x i event = record { expr = e; expr_there = placed.expr_there; at = at; point_there = there; is_event = is } in
    here in
    let listed : Contains (filter_map (expr_at m f) p.points) e =
    (table.exprs.members e).0 (x, slice_get_within t.exprs x e placed.expr_there, contained_get t.exprs e x placed.expr_there) in
    let found = in_filter (expr_at m f) p.points listed.0 e (get_contained (filter_map (expr_at m f) p.points) e listed.0 listed.1 listed.2) in
    record {
      found_at = point_of f found.1;
      found = (occurs_at m f e found.1).0 found.3;
      occurs_is = λ i v there.
          let r = get_map_back (point_of f) p.points i v there in (
            (λ is. subst (Occurs m f e) r.2 ((occurs_at m f e r.0).0 (event_at i r.0 events.Occurs r.1 is))),
            (λ o. event_back i r.0 events.Occurs r.1 ((occurs_at m f e r.0).1 (subst (Occurs m f e) (sym r.2) o))),
          );
      kills_is = λ i v there.
          let r = get_map_back (point_of f) p.points i v there in (
            (λ is. subst (Kills m f e) r.2 ((kills_at m f e r.0).0 (event_at i r.0 events.Kills r.1 is))),
            (λ o. event_back i r.0 events.Kills r.1 ((kills_at m f e r.0).1 (subst (Kills m f e) (sym r.2) o))),
          );
      passes_on = λ i v there is.
          let r = get_map_back (point_of f) p.points i v there in
          subst (λ u. ¬ Bars f u) r.2 (passes_at m f e p.blocks i r.0 (ap (λ l. slice_get l i) (sym are.points) ∙ r.1) (event_at i r.0 events.Passes r.1 is));
      told = λ i v there. let r = get_map_back (point_of f) p.points i v there in placed.events_told i (slice_get_within p.points i r.0 r.1);
      inserted_is = placed.inserted_is;
      kept_is = placed.kept_is;
      deleted_is = placed.deleted_is;
      live_is = placed.live_is;
    }

pub placed_told : (f : Function) (p : Points) (t : Kept) (x : ℕ) (placement : Placement) (move : Move) → 0 < length f.blocks → ArePoints f p → IsTable f p t → IsPlaced f p t x placement move → IsTold t.module_of f move
placed_told f p t x placement move defined are table placed =
    numbered_told t.module_of f (map (point_of f) p.points) (all_edges f p.blocks) p.edges (numbers f p t defined are table) (IsEventOf f p t x) placement move
    (all_placed f p t x placement move defined are table placed)

pub occurs_told : (f : Function) (p : Points) (t : Kept) (x : ℕ) (placement : Placement) (move : Move) → 0 < length f.blocks → ArePoints f p → IsTable f p t → IsPlaced f p t x placement move
    → (i : ℕ) (v : graph.Point) → slice_get (map (point_of f) p.points) i ≡ Some v → IsEventOf f p t x i events.Occurs ↔ Occurs t.module_of f move.expr v
occurs_told f p t x placement move defined are table placed = (all_placed f p t x placement move defined are table placed).occurs_is

pub placed_move : (f : Function) (p : Points) (t : Kept) (x : ℕ) (placement : Placement) (move : Move) → 0 < length f.blocks → ArePoints f p → IsTable f p t → IsPlaced f p t x placement move → IsCorrect (arcs_of p.edges) (IsEventOf f p t x) placement → (expr_traps move.expr ≡ true → IsSafe (arcs_of p.edges) (IsEventOf f p t x) placement) → IsMove t.module_of f move
placed_move f p t x placement move defined are table placed correct safe =
    numbered_move t.module_of f (map (point_of f) p.points) (all_edges f p.blocks) p.edges (numbers f p t defined are table) (IsEventOf f p t x) placement move
    (all_placed f p t x placement move defined are table placed) correct safe
