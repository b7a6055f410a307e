-- The applied module keeps the rules of modules.
use Rattle.std.proofs.Common.{◌≡◌, ◌≢◌, ◌⊎◌, ℕ, zero, suc, ◌+◌, ◌^◌, ◌<◌, ◌≤◌, List, [], ◌∷◌, ◌++◌, length, map, Some, None, refl, sym, ap, ◌∙◌, subst, arith}
use Rattle.std.specs.Prelude.{slice_get, All, AllPairs}
use Rattle.std.proofs.lemmas.List.{append-nil, map-append}
use Rattle.mc_num.specs.Op.{argument_widths, result_width}
use Rattle.mc_num.specs.declared.op.Op.{Op}
use Rattle.mc_num.specs.declared.op.Op.TheVariants.{Bin, Icmp, Cast, Select}
use Rattle.mc_num.specs.declared.op.Width.{Width}
use Rattle.ir_types.specs.Program.{Program}
use Rattle.ir_types.specs.Names.{spelled, IsSpellable}
use Rattle.ir_types.specs.WellFormed.{scope, signature, widths, names, CountFrom, getchar, putchar, item_limit, IsFunctionIn, IsWellFormed}
use Rattle.ir_types.specs.declared.name.Name.{Name}
use Rattle.ir_types.specs.declared.syntax.Block.{Block}
use Rattle.ir_types.specs.declared.syntax.Function.{Function}
use Rattle.point_graph.specs.Graph.{Point, Start, Head, Place}
use Rattle.expressions.specs.declared.syntax.Expr.{Expr}
use Rattle.applied.specs.Motion.{Occurs, Move, IsMove}
use Rattle.applied.specs.Applied.{Naming, Plan, temporaries, AreMoves, IsPlan}
use Rattle.applied.specs.Built.{new_blocks, layout_of, applied_function, applied_from, applied}
use Rattle.applied.proofs.Fitting.{all_at, function_fits}
use Rattle.applied.proofs.Chains.{expr_fits}
use Rattle.applied.proofs.Building.{length_blocks}
use Rattle.applied_rules.specs.Plans.{ArePlans}
use Rattle.applied_rules.proofs.Scopes.{Extends}
use Rattle.applied_rules.proofs.Blocks.{all_nil, all_cons, blocks_in}
use Rattle.applied_rules.proofs.Apart.{Each, EachPair, Apart, each_by, from_all, to_all, from_pairs, to_pairs}
use Rattle.applied_rules.proofs.Spelled.{FitsMade}
use Rattle.applied_rules.proofs.Tags.{Tag, untagged, olds, news, counts, spellable, IsOther, names_apart}
use Rattle.applied_rules.proofs.Names.{function_tags, names_are, function_olds, function_news}
use Rattle.applied_rules.proofs.Regions.{mades_apart, mades_fit}

same_signatures : (plans : ℕ → Plan) (i : ℕ) (fs : List Function) → map signature (applied_from plans i fs) ≡ map signature fs
same_signatures plans i [] = refl
same_signatures plans i (f ∷ fs) = ap (λ l. signature f ∷ l) (same_signatures plans (suc i) fs)

same_names : (plans : ℕ → Plan) (i : ℕ) (fs : List Function) → map (λ f. f.name) (applied_from plans i fs) ≡ map (λ f. f.name) fs
same_names plans i [] = refl
same_names plans i (f ∷ fs) = ap (λ l. f.name ∷ l) (same_names plans (suc i) fs)

length_applied : (plans : ℕ → Plan) (i : ℕ) (fs : List Function) → length (applied_from plans i fs) ≡ length fs
length_applied plans i [] = refl
length_applied plans i (f ∷ fs) = ap suc (length_applied plans (suc i) fs)

temp_width : (naming : Naming) (vars : List (Width × Name)) (moves : List Move) (x : ℕ) (move : Move) → slice_get moves x ≡ Some move → slice_get (widths (vars ++ temporaries naming moves)) (length vars + x) ≡ Some (result_width move.expr.op)
temp_width naming [] [] x move e = absurd cc
temp_width naming [] (y ∷ moves) zero move e =
    let same : y ≡ move = cc in ap (λ m. Some (result_width m.expr.op)) same
temp_width naming [] (y ∷ moves) (suc x) move e =
    let n : 0 + suc x ≡ suc (0 + x) = omega arith in
    ap (slice_get (widths (temporaries naming (y ∷ moves)))) n ∙ temp_width naming [] moves x move e
temp_width naming (v ∷ vars) moves x move e =
    let n : suc (length vars) + x ≡ suc (length vars + x) = omega arith in
    ap (slice_get (widths (v ∷ (vars ++ temporaries naming moves)))) n ∙ temp_width naming vars moves x move e

pub few_widths : (op : Op) → length (argument_widths op) ≤ 3
few_widths (Bin bin w) = omega arith
few_widths (Icmp pred w) = omega arith
few_widths (Cast cast from to) = omega arith
few_widths (Select w) = omega arith

pub each_at : (P : Move → Type 0) (moves : List Move) → ((x : ℕ) (move : Move) → slice_get moves x ≡ Some move → P move) → Each P moves
each_at P [] at = tt
each_at P (move ∷ moves) at = (at 0 move refl, each_at P moves (λ x other e. at (suc x) other e))

-- no expression occurs in a function without blocks
no_occurrence : (m : Program) (function : Function) (e : Expr) (v : Point) → function.blocks ≡ [] → Occurs m function e v → ⊥
no_occurrence m function e Start none occurs = occurs
no_occurrence m function e (Head b) none occurs = occurs
no_occurrence m function e (Place b k) none occurs = let both : None ≡ Some occurs.block = sym (ap (λ l. slice_get l b) none) ∙ occurs.block_there in cc

module _ (m : Program) (plans : ℕ → Plan) (rules : IsWellFormed m) (are : AreMoves m plans) (planned : ArePlans m plans) where
  abbrev m' : Program
  m' = applied m plans

  module _ (i : ℕ) (function : Function) (there : slice_get m.functions i ≡ Some function) where
    abbrev plan : Plan
    plan = plans i

    abbrev naming : Naming
    naming = plan.naming

    abbrev moves : List Move
    moves = plan.moves

    abbrev function' : Function
    function' = applied_function plan function

    old : IsFunctionIn m function
    old = all_at (IsFunctionIn m) m.functions i function rules.functions there

    is_plan : IsPlan function plan
    is_plan = planned.each i function there

    moves_are : (x : ℕ) (move : Move) → slice_get moves x ≡ Some move → IsMove m function move
    moves_are x move e = are i x function move there e

    extends : Extends (scope m function) (scope m' function')
    extends = record {
      globals = refl;
      functions = same_signatures plans 0 m.functions;
      own = refl;
      more = widths (temporaries naming moves);
      vars = map-append (λ x. x.0) function.vars (temporaries naming moves);
    }

    -- ---- names

    abbrev tags : List Tag
    tags = function_tags naming moves function

    few_args : Each (λ move. length move.expr.args < 2 ^ 64) moves
    few_args = each_at (λ move. length move.expr.args < 2 ^ 64) moves
        (λ x move e.
        let is = moves_are x move e in
        let fits = expr_fits m function (function_fits m rules i function there) move.expr is.found_at is.found in
        omega (arith, fits.1, few_widths move.expr.op))

    ascending : EachPair (λ move next. move.number < next.number) moves
    ascending = from_pairs (λ move next. move.number < next.number) moves is_plan.ascending

    numbers : Each (λ move. move.number < 2 ^ 64) moves
    numbers = each_by (λ move. move.number < 2 ^ 32) (λ move. move.number < 2 ^ 64) (λ move lt. omega (arith, lt)) moves (from_all (λ move. move.number < 2 ^ 32) moves is_plan.numbers)

    made_apart : Apart (news tags)
    made_apart = subst (λ l. Apart l) (sym (function_news naming moves function)) (mades_apart naming moves ascending numbers few_args is_plan.edges_differ function.blocks)

    made_fit : Each FitsMade (news tags)
    made_fit =
        subst (Each FitsMade) (sym (function_news naming moves function))
        (mades_fit naming moves ascending numbers few_args is_plan.edges_differ (λ edge is. let lt = is_plan.edge_numbers edge is in omega (arith, lt)) function.blocks)

    old_names : olds tags ≡ names function
    old_names = function_olds naming moves function

    new_names : names function' ≡ map (untagged naming.prefix) tags
    new_names = names_are naming moves function

    others : Each (IsOther naming.prefix) (olds tags)
    others = subst (Each (IsOther naming.prefix)) (sym old_names) (from_all (IsOther naming.prefix) (names function) is_plan.prefix.unused)

    old_apart : Apart (map spelled (olds tags))
    old_apart =
        subst (λ l. Apart (map spelled l)) (sym old_names) (from_pairs (λ a b. a ≢ b) (map spelled (names function)) old.names_differ)

    all_apart : Apart (map spelled (names function'))
    all_apart = subst (λ l. Apart (map spelled l)) (sym new_names) (names_apart naming.prefix tags old_apart others made_apart made_fit)

    all_spellable : Each IsSpellable (names function')
    all_spellable =
        subst (Each IsSpellable) (sym new_names)
        (spellable naming.prefix tags (subst (Each IsSpellable) (sym old_names) (from_all IsSpellable (names function) old.spellable)))

    all_count : CountFrom 0 (names function')
    all_count = subst (CountFrom 0) (sym new_names) (counts naming.prefix 0 tags (subst (CountFrom 0) (sym old_names) old.numbers_count))

    -- ---- a declaration stays one

    abbrev with_lists : List (Width × Name) → List Block → Function
    with_lists vars blocks = record function { vars = vars; blocks = blocks }

    no_moves : function.blocks ≡ [] → (rest : List Move) → moves ≡ rest → moves ≡ []
    no_moves none [] is = is
    no_moves none (move ∷ rest) is =
        let is_move = moves_are 0 move (ap (λ l. slice_get l 0) is) in absurd (no_occurrence m function move.expr is_move.found_at none is_move.found)

    stays : function.blocks ≡ [] → function' ≡ function
    stays none =
        let blocks = λ (bs : List Block). new_blocks naming moves (length function.vars) (layout_of moves function.blocks) 0 bs in
        ap (λ bs. with_lists (function.vars ++ temporaries naming moves) (blocks bs)) none
        ∙ ap (λ l. with_lists (function.vars ++ temporaries naming l) []) (no_moves none moves refl)
        ∙ ap (λ vs. with_lists vs []) (append-nil function.vars)
        ∙ ap (with_lists function.vars) (sym none)

    declared_by : (blocks : List Block) → function.blocks ≡ blocks → new_blocks naming moves (length function.vars) (layout_of moves function.blocks) 0 blocks ≡ [] → (function' ≡ getchar) ⊎ (function' ≡ putchar)
    declared_by [] none e =
        subst (λ g. (g ≡ getchar) ⊎ (g ≡ putchar)) (sym (stays none)) (old.declared none)
    declared_by (block ∷ blocks) some e = absurd cc

    function_in : IsFunctionIn m' function'
    function_in = record {
      named = old.named;
      spellable = to_all IsSpellable (names function') all_spellable;
      names_differ = to_pairs (λ a b. a ≢ b) (map spelled (names function')) all_apart;
      numbers_count = all_count;
      blocks = blocks_in m rules i function there naming moves moves_are (scope m' function') extends (temp_width naming function.vars moves)
          (length_blocks naming moves (length function.vars) (layout_of moves function.blocks) function.blocks 0);
      declared = λ e. declared_by function.blocks refl e;
      few_params = old.few_params;
      few = planned.few i function there;
    }

  functions_from : (fs : List Function) (c : ℕ) → ((j : ℕ) → slice_get fs j ≡ slice_get m.functions (c + j)) → All (IsFunctionIn m') (applied_from plans c fs)
  functions_from [] c suffix = all_nil (IsFunctionIn m')
  functions_from (f ∷ fs) c suffix =
      let z : c + 0 ≡ c = omega arith in
      let there = sym (suffix 0 ∙ ap (slice_get m.functions) z) in
      all_cons (IsFunctionIn m') (applied_function (plans c) f) (applied_from plans (suc c) fs) (function_in c f there)
      (functions_from fs (suc c) (λ j. let e : c + suc j ≡ suc c + j = omega arith in suffix (suc j) ∙ ap (slice_get m.functions) e))

  pub keeps_rules : IsWellFormed m'
  keeps_rules = record {
    symbols_differ = subst (λ l. AllPairs (λ a b. a ≢ b) (map (λ g. g.name) m.globals ++ l)) (sym (same_names plans 0 m.functions)) rules.symbols_differ;
    globals = rules.globals;
    functions = functions_from m.functions 0 (λ j. let e : j ≡ 0 + j = omega arith in ap (slice_get m.functions) e);
    few_globals = rules.few_globals;
    few_functions = subst (λ n. n < item_limit) (sym (length_applied plans 0 m.functions)) rules.few_functions;
  }
