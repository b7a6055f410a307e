-- Each new block keeps the rules of blocks.
use Rattle.std.proofs.Common.{◌≡◌, ℕ, zero, suc, ◌+◌, ◌<◌, ◌≤◌, ◌^◌, Bool, true, false, if◌then◌else◌, List, [], ◌∷◌, ◌++◌, length, map, Some, None, refl, sym, ap, ◌∙◌, subst, arith, ⊎_elim}
use Rattle.std.specs.Prelude.{slice_get, slice_index_or, All, IsSomeAnd}
use Rattle.std.proofs.lemmas.Bool.{cases_lt}
use Rattle.std.proofs.lemmas.Option.{slice_get_within}
use Rattle.mc_num.specs.Op.{bits, result_width}
use Rattle.mc_num.specs.declared.op.Width.{Width}
use Rattle.mc_num.specs.declared.op.Width.TheVariants.{I1}
use Rattle.ir_types.specs.Program.{Program}
use Rattle.ir_types.specs.WellFormed.{Scope, scope, variable_width, HasWidth, AreCases, Ends, targets, item_limit, IsNamed, IsBlockIn, IsWellFormed}
use Rattle.ir_types.specs.declared.syntax.Operand.{Operand}
use Rattle.ir_types.specs.declared.syntax.Variable.TheVariants.{Local}
use Rattle.ir_types.specs.declared.syntax.Instr.{Instr}
use Rattle.ir_types.specs.declared.syntax.Terminator.{Terminator}
use Rattle.ir_types.specs.declared.syntax.Terminator.TheVariants.{Return, Jump, Branch, Switch, Unreachable}
use Rattle.ir_types.specs.declared.syntax.Block.{Block}
use Rattle.ir_types.specs.declared.syntax.Function.{Function}
use Rattle.applied.specs.Renamed.{renamed}
use Rattle.point_graph.specs.Graph.{Slot}
use Rattle.applied.specs.Motion.{slot_target, Move, IsMove}
use Rattle.applied.specs.Applied.{Naming, groups, has_groups, Layout, new_target, new_cases, new_term, is_single, splits_before, splits_at, block_count, split_block}
use Rattle.applied.specs.Built.{new_block, split_one, splits_from, split_blocks, new_blocks, home_from, layout_of}
use Rattle.applied.proofs.Fitting.{function_fits}
use Rattle.applied.proofs.Steps.{stands_whole}
use Rattle.applied.proofs.Building.{home_step, before_more}
use Rattle.applied_rules.proofs.Scopes.{Extends, some_by, at_end, before_end, fits_before, has_more}
use Rattle.applied_rules.proofs.Operands.{block_in}
use Rattle.applied_rules.proofs.Groups.{GoodAt, GoodFrom, groups_good}
use Rattle.applied_rules.proofs.Texts.{moves_fit, new_text, number, given, below, new_text_good, new_length}

pub all_nil : {X : Type 0} (P : X → Type 0) → All P []
all_nil P k d lt = absurd (omega (arith, lt))

pub all_cons : {X : Type 0} (P : X → Type 0) (x : X) (xs : List X) → P x → All P xs → All P (x ∷ xs)
all_cons P x xs p all zero d lt = p
all_cons P x xs p all (suc k) d lt = all k d (omega (arith, lt))

pub all_append : {X : Type 0} (P : X → Type 0) (xs ys : List X) → All P xs → All P ys → All P (xs ++ ys)
all_append P [] ys all more = more
all_append P (x ∷ xs) ys all more =
    all_cons P x (xs ++ ys) (all zero x (omega arith)) (all_append P xs ys (λ k d lt. all (suc k) d (omega (arith, lt))) more)

good_at : (s : Scope) (text : List Instr) (l : List Instr) (n j : ℕ) (instr : Instr) → GoodFrom s text n l → slice_get l j ≡ Some instr → GoodAt s text (n + j) instr
good_at s text [] n j instr good e = absurd cc
good_at s text (i ∷ l) n zero instr good e =
    let same : i ≡ instr = cc in
    let at : n ≡ n + 0 = omega arith in
    subst (λ k. GoodAt s text k instr) at (subst (GoodAt s text n) same good.0)
good_at s text (i ∷ l) n (suc j) instr good e =
    let at : suc n + j ≡ n + suc j = omega arith in subst (λ k. GoodAt s text k instr) at (good_at s text l (suc n) j instr good.1 e)

all_named : (s : Scope) (text : List Instr) (l : List Instr) (n : ℕ) → GoodFrom s text n l → All (IsNamed s) l
all_named s text [] n good = all_nil (IsNamed s)
all_named s text (i ∷ l) n good = all_cons (IsNamed s) i l good.0.1 (all_named s text l (suc n) good.1)

-- ---- the cases of a switch

module _ (layout : Layout) (b : ℕ) (moves : List Move) where
  length_cases : (slot : ℕ) (cases : List (ℕ × ℕ)) → length (new_cases layout b slot cases moves) ≡ length cases
  length_cases slot [] = refl
  length_cases slot (case ∷ cases) = ap suc (length_cases (suc slot) cases)

  same_value : (slot : ℕ) (cases : List (ℕ × ℕ)) (k : ℕ) (d : ℕ × ℕ) → k < length cases → (slice_index_or (new_cases layout b slot cases moves) k d).0 ≡ (slice_index_or cases k d).0
  same_value slot [] k d lt = absurd (omega (arith, lt))
  same_value slot (case ∷ cases) zero d lt = refl
  same_value slot (case ∷ cases) (suc k) d lt = same_value (suc slot) cases k d (omega (arith, lt))

  are_cases : (w : Width) (slot : ℕ) (cases : List (ℕ × ℕ)) → AreCases w cases → AreCases w (new_cases layout b slot cases moves)
  are_cases w slot cases are =
      let size = length_cases slot cases in
      record {
        fit = λ k d lt.
            let within : k < length cases = omega (arith, lt, size) in
            subst (λ v. v < 2 ^ bits w) (sym (same_value slot cases k d within)) (are.fit k d within);
        differ = λ i j d lt within.
            let j_within : j < length cases = omega (arith, within, size) in
            let i_within : i < length cases = omega (arith, lt, j_within) in
            λ e. are.differ i j d lt j_within (sym (same_value slot cases i d i_within) ∙ e ∙ same_value slot cases j d j_within);
        few = subst (λ n. n < item_limit) (sym size) are.few;
      }

module _ (m : Program) (rules : IsWellFormed m) (i : ℕ) (function : Function) (there : slice_get m.functions i ≡ Some function) (naming : Naming) (moves : List Move) (are : (x : ℕ) (move : Move) → slice_get moves x ≡ Some move → IsMove m function move) (s' : Scope) (extends : Extends (scope m function) s') (temps : (x : ℕ) (move : Move) → slice_get moves x ≡ Some move → variable_width s' (Local (length function.vars + x)) ≡ Some (result_width move.expr.op)) (count : s'.blocks ≡ home_from moves 0 function.blocks (length function.blocks)) where
  abbrev s : Scope
  s = scope m function

  abbrev vars : ℕ
  vars = length function.vars

  abbrev layout : Layout
  layout = layout_of moves function.blocks

  abbrev home : ℕ → ℕ
  home = home_from moves 0 function.blocks

  -- ---- where blocks stand

  home_next : (b : ℕ) (block : Block) → slice_get function.blocks b ≡ Some block → home (suc b) ≡ suc (home b + splits_before b (length (targets block.term)) block.term moves)
  home_next b block e =
      let z : 0 + b ≡ b = omega arith in
      omega (arith, home_step naming moves vars layout function.blocks 0 b ∙ ap (λ k. home b + block_count moves k (slice_get function.blocks b)) z ∙ ap (λ o. home b + block_count moves b o) e)

  block_found : (blocks : List Block) (b : ℕ) → b < length blocks → (block : Block) × (slice_get blocks b ≡ Some block)
  block_found [] b lt = absurd (omega (arith, lt))
  block_found (block ∷ blocks) zero lt = (block, refl)
  block_found (block ∷ blocks) (suc b) lt = block_found blocks b (omega (arith, lt))

  home_below : (c b : ℕ) → b < c → c ≤ length function.blocks → home b < home c
  home_below zero b lt le = absurd (omega (arith, lt))
  home_below (suc c) b lt le =
      let found = block_found function.blocks c (omega (arith, le)) in
      let next = home_next c found.0 found.1 in
      ⊎_elim
      (λ before. omega (arith, home_below c b before (omega (arith, le)), next))
      (λ at. let is : b ≡ c = omega (arith, lt, at) in omega (arith, ap home is, next))
      (cases_lt b c)

  home_most : (b : ℕ) → b ≤ length function.blocks → home b ≤ home (length function.blocks)
  home_most b le = ⊎_elim
      (λ before. omega (arith, home_below (length function.blocks) b before (omega arith)))
      (λ at. let is : b ≡ length function.blocks = omega (arith, le, at) in omega (arith, ap home is))
      (cases_lt b (length function.blocks))

  abbrev Within : ℕ → Type 0
  Within t = (0 < t) × (t < s'.blocks)

  home_within : (t : ℕ) → 0 < t → t < length function.blocks → Within (home t)
  home_within t lt within = (omega (arith, home_below t 0 lt (omega (arith, within))), omega (arith, home_below (length function.blocks) t within (omega arith), count))

  module _ (b : ℕ) (block : Block) (block_there : slice_get function.blocks b ≡ Some block) where
    abbrev term : Terminator
    term = block.term

    target_within : (slot target : ℕ) → slot_target term slot ≡ Some target → Within (home target)
    target_within slot target leads =
        let bounds = (function_fits m rules i function there).targets b slot target block block_there leads in home_within target bounds.0 bounds.1

    split_within : (slot target : ℕ) → slot_target term slot ≡ Some target → is_single term ≡ false → has_groups (Slot b slot) moves ≡ true → Within (layout.split b slot)
    split_within slot target leads many inserted =
        let lt = slice_get_within (targets term) slot target leads in
        let here : layout.split b slot ≡ suc (home b) + splits_before b slot term moves = ap (λ o. suc (home b) + splits_at moves b slot o) block_there in
        let one : splits_before b (suc slot) term moves ≡ suc (splits_before b slot term moves) =
        ap (λ q. splits_before b slot term moves + (if q then 0 else (if has_groups (Slot b slot) moves then 1 else 0))) many
        ∙ ap (λ q. splits_before b slot term moves + (if q then 1 else 0)) inserted ∙ omega arith in
        let more = before_more naming moves vars layout b term (suc slot) (length (targets term)) (omega (arith, lt)) in
        let next = home_next b block block_there in
        let most = home_most (suc b) (omega (arith, slice_get_within function.blocks b block block_there)) in
        (omega (arith, here), omega (arith, here, one, more, next, most, count))

    target_by : (slot target : ℕ) → slot_target term slot ≡ Some target → is_single term ≡ false → (q : Bool) → has_groups (Slot b slot) moves ≡ q → Within (if q then layout.split b slot else home target)
    target_by slot target leads many true e = split_within slot target leads many e
    target_by slot target leads many false e = target_within slot target leads

    new_within : (slot target : ℕ) → slot_target term slot ≡ Some target → is_single term ≡ false → Within (new_target layout b slot target moves)
    new_within slot target leads many = target_by slot target leads many _ refl

    cases_within : (slot : ℕ) (cases : List (ℕ × ℕ)) → is_single term ≡ false → ((j : ℕ) → slice_get (map (λ c. c.1) cases) j ≡ slot_target term (slot + j)) → All Within (map (λ c. c.1) (new_cases layout b slot cases moves))
    cases_within slot [] many suffix = all_nil Within
    cases_within slot (case ∷ cases) many suffix =
        let z : slot + 0 ≡ slot = omega arith in
        all_cons Within (new_target layout b slot case.1 moves) (map (λ c. c.1) (new_cases layout b (suc slot) cases moves))
        (new_within slot case.1 (ap (slot_target term) (sym z) ∙ sym (suffix 0)) many)
        (cases_within (suc slot) cases many (λ j. let e : slot + suc j ≡ suc slot + j = omega arith in suffix (suc j) ∙ ap (slot_target term) e))

    -- ---- the new block

    abbrev text : List Instr
    text = new_text m rules i function there naming moves are s' extends temps b block block_there

    abbrev num : ℕ → ℕ
    num = number m rules i function there naming moves are s' extends temps b block block_there

    operand_width : (w : Width) (operand : Operand) → HasWidth s block.instrs w operand → HasWidth s' text w (renamed num operand)
    operand_width w operand has =
        let end : length text ≡ num (length block.instrs) = new_length m rules i function there naming moves are s' extends temps b block block_there in
        let last = length block.instrs in
        before_end s' text w (renamed num operand)
        (has_more s s' extends block.instrs text num (given m rules i function there naming moves are s' extends temps b block block_there) last (length text)
        (λ r lt. omega (arith, below m rules i function there naming moves are s' extends temps b block block_there last r lt, end)) w operand (at_end s block.instrs w operand has))

    new_ends : (term' : Terminator) → Ends s block.instrs term' → Ends s' text (new_term num layout b term' moves)
    new_ends (Return None) ends = ap (λ own. own.ret) extends.own ∙ ends
    new_ends (Return (Some value)) ends =
        subst (λ own. IsSomeAnd own.ret (λ w. HasWidth s' text w (renamed num value))) (sym extends.own) (some_by _ _ (λ w. operand_width w value) s.own.ret ends)
    new_ends (Jump target) ends = tt
    new_ends (Branch condition then_block else_block) ends = operand_width I1 condition ends
    new_ends (Switch w value other []) ends = (operand_width w value ends.0, ends.1)
    new_ends (Switch w value other (case ∷ cases)) ends = (operand_width w value ends.0, are_cases layout b moves w 1 (case ∷ cases) ends.1)
    new_ends Unreachable ends = tt

    new_targets : (term' : Terminator) → term ≡ term' → All Within (targets (new_term num layout b term' moves))
    new_targets (Return value) is = all_nil Within
    new_targets (Jump target) is = all_cons Within (home target) [] (target_within 0 target (ap (λ t. slot_target t 0) is)) (all_nil Within)
    new_targets (Branch condition then_block else_block) is =
        let many = ap is_single is in
        all_cons Within (new_target layout b 0 then_block moves) (new_target layout b 1 else_block moves ∷ []) (new_within 0 then_block (ap (λ t. slot_target t 0) is) many)
        (all_cons Within (new_target layout b 1 else_block moves) [] (new_within 1 else_block (ap (λ t. slot_target t 1) is) many) (all_nil Within))
    new_targets (Switch w value other []) is = all_cons Within (home other) [] (target_within 0 other (ap (λ t. slot_target t 0) is)) (all_nil Within)
    new_targets (Switch w value other (case ∷ cases)) is =
        let many = ap is_single is in
        all_cons Within (new_target layout b 0 other moves) (map (λ c. c.1) (new_cases layout b 1 (case ∷ cases) moves)) (new_within 0 other (ap (λ t. slot_target t 0) is) many)
        (cases_within 1 (case ∷ cases) many (λ j. let n : suc j ≡ 1 + j = omega arith in sym (ap (λ t. slot_target t (suc j)) is) ∙ ap (slot_target term) n))
    new_targets Unreachable is = all_nil Within

    pub new_block_in : IsBlockIn s' (new_block naming moves vars layout b block)
    new_block_in =
        let good = new_text_good m rules i function there naming moves are s' extends temps b block block_there in
        record {
          fits = λ k instr e.
              let z : 0 + k ≡ k = omega arith in fits_before s' text k instr.kind (subst (λ n. GoodAt s' text n instr) z (good_at s' text text 0 k instr good e)).0;
          named = all_named s' text text 0 good;
          ends = new_ends block.term (block_in m rules i function there b block block_there).ends;
          targets_exist = new_targets block.term refl;
        }

    split_block_in : (slot target : ℕ) → slot_target term slot ≡ Some target → IsBlockIn s' (split_block naming vars (Slot b slot) (home target) moves)
    split_block_in slot target leads =
        let instrs = groups naming 0 vars (Slot b slot) moves in
        let good = groups_good s' instrs vars naming moves (moves_fit m rules i function there naming moves are s' extends temps) temps (Slot b slot) 0 (stands_whole instrs) in
        record {
          fits = λ k instr e.
              let z : 0 + k ≡ k = omega arith in fits_before s' instrs k instr.kind (subst (λ n. GoodAt s' instrs n instr) z (good_at s' instrs instrs 0 k instr good e)).0;
          named = all_named s' instrs instrs 0 good;
          ends = tt;
          targets_exist = all_cons Within (home target) [] (target_within slot target leads) (all_nil Within);
        }

    one_split : (single : Bool) (slot target : ℕ) → slot_target term slot ≡ Some target → All (IsBlockIn s') (split_one naming moves vars layout b single slot target)
    one_split true slot target leads = all_nil (IsBlockIn s')
    one_split false slot target leads = by (has_groups (Slot b slot) moves) (split_block_in slot target leads)
      where
        by : (q : Bool) → IsBlockIn s' (split_block naming vars (Slot b slot) (home target) moves) → All (IsBlockIn s') (if q then split_block naming vars (Slot b slot) (home target) moves ∷ [] else [])
        by true is = all_cons (IsBlockIn s') _ [] is (all_nil (IsBlockIn s'))
        by false is = all_nil (IsBlockIn s')

    splits_in : (single : Bool) (slot : ℕ) (rest : List ℕ) → ((j : ℕ) → slice_get rest j ≡ slot_target term (slot + j)) → All (IsBlockIn s') (splits_from naming moves vars layout b single slot rest)
    splits_in single slot [] suffix = all_nil (IsBlockIn s')
    splits_in single slot (target ∷ rest) suffix =
        let z : slot + 0 ≡ slot = omega arith in
        all_append (IsBlockIn s') (split_one naming moves vars layout b single slot target) (splits_from naming moves vars layout b single (suc slot) rest)
        (one_split single slot target (ap (slot_target term) (sym z) ∙ sym (suffix 0)))
        (splits_in single (suc slot) rest (λ j. let e : slot + suc j ≡ suc slot + j = omega arith in suffix (suc j) ∙ ap (slot_target term) e))

  blocks_from : (blocks : List Block) (c : ℕ) → ((j : ℕ) → slice_get blocks j ≡ slice_get function.blocks (c + j)) → All (IsBlockIn s') (new_blocks naming moves vars layout c blocks)
  blocks_from [] c suffix = all_nil (IsBlockIn s')
  blocks_from (block ∷ blocks) c suffix =
      let z : c + 0 ≡ c = omega arith in
      let block_there = sym (suffix 0 ∙ ap (slice_get function.blocks) z) in
      all_cons (IsBlockIn s') (new_block naming moves vars layout c block) _ (new_block_in c block block_there)
      (all_append (IsBlockIn s') (split_blocks naming moves vars layout c block.term) (new_blocks naming moves vars layout (suc c) blocks)
      (splits_in c block block_there (is_single block.term) 0 (targets block.term) (λ j. let e : j ≡ 0 + j = omega arith in ap (slot_target block.term) e))
      (blocks_from blocks (suc c) (λ j. let e : c + suc j ≡ suc c + j = omega arith in suffix (suc j) ∙ ap (slice_get function.blocks) e)))

  pub blocks_in : All (IsBlockIn s') (new_blocks naming moves vars layout 0 function.blocks)
  blocks_in = blocks_from function.blocks 0 (λ j. let e : j ≡ 0 + j = omega arith in ap (slice_get function.blocks) e)
