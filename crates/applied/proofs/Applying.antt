-- The module with all placements applied runs as the old one does.
use Rattle.std.proofs.Common.{◌≡◌, ℕ, zero, suc, ◌+◌, ◌<◌, ◌≤◌, Bool, true, false, if◌then◌else◌, List, [], ◌∷◌, ◌++◌, length, map, replicate, get_or, Option, Some, None, Ok, refl, sym, ap, ◌∙◌, subst, arith, length-append}
use Rattle.std.specs.Prelude.{◌==◌, slice_get, slice_index}
use Rattle.std.proofs.Math.Seq.{get_or-append_seam}
use Rattle.std.proofs.lemmas.List.{length-replicate, replicate-append-replicate, get_or-append-add, append-nil}
use Rattle.std.proofs.lemmas.Option.{slice_get_past, slice_get_within}
use Rattle.mc_num.specs.Value.{value_of}
use Rattle.ir_types.specs.Program.{Program}
use Rattle.ir_types.specs.WellFormed.{IsWellFormed}
use Rattle.ir_types.specs.declared.syntax.Operand.{Operand}
use Rattle.ir_types.specs.declared.syntax.Operand.TheVariants.{Const, Param, Reg}
use Rattle.ir_types.specs.declared.syntax.Variable.TheVariants.{Local}
use Rattle.ir_types.specs.declared.syntax.Kind.TheVariants.{Load, Compute}
use Rattle.ir_types.specs.declared.syntax.Instr.{Instr}
use Rattle.ir_types.specs.declared.syntax.Terminator.{Terminator}
use Rattle.ir_types.specs.declared.syntax.Terminator.TheVariants.{Return, Jump, Branch, Switch, Unreachable}
use Rattle.ir_types.specs.declared.syntax.Block.{Block}
use Rattle.ir_types.specs.declared.syntax.Function.{Function}
use Rattle.machines.specs.Runs.{RunAlike}
use Rattle.machines.specs.Acts.{Act, Goes}
use Rattle.machines.specs.Meaning.{state, machine_of}
use Rattle.machines.proofs.ByFrames.{Comes, AnswersAct, FollowsFrame, Answered, running, alike_by_frames}
use Rattle.ir_machine.specs.declared.frame.Frame.{Frame}
use Rattle.ir_machine.specs.Step.{Globals, value_in, past, computed, first_frame, instr_act, term_act, branched, switched, takes, block_act, act_in, block_at, blocks_of, frames_of, written}
use Rattle.ir_machine.specs.Same.{Same, is_defined}
use Rattle.applied.specs.Renamed.{renamed_kind}
use Rattle.point_graph.specs.Graph.{Point, Start, Head, Place, Edge, Entry, Inside, Slot, Joins, IsReached}
use Rattle.expressions.specs.declared.syntax.Expr.{Expr}
use Rattle.applied.specs.Motion.{slot_target, expr_in, OccursIn, Move, IsMove}
use Rattle.applied.specs.Applied.{Naming, Plan, StandsAt, groups, groups_along, edges_before, leaving, copied, is_stored, stores, has_groups, new_target, new_cases, new_term, is_single, temporaries, BlockApplied, split_block, FunctionApplied, IsApplied, AreMoves}
use Rattle.applied.proofs.Fitting.{IsEarlier, KindFits, EndFits, FunctionFits, function_fits}
use Rattle.applied.proofs.Loads.{Done, GoesOn, behind, length_done}
use Rattle.applied.proofs.Steps.{stands_whole, acts, goes, alone_goes}
use Rattle.applied.proofs.Living.{live_before, unkilled_before, not_at_start, not_true, reached_next, live_at_deleted}
use Rattle.applied.proofs.Agreeing.{agrees_at_head, value_agrees, agrees_past, CalleesAlike, EnteredAlike, instr_answers}
use Rattle.applied.proofs.Running.{Ready, stores_run, args_same}
use Rattle.applied.proofs.Trapping.{block_found, expr_kept, occurrence_value, past_end, InBlock, found_block, at_head_of, in_block_past, AtPoint, comes_within}
use Rattle.applied.proofs.Chains.{LiveOn, LiveAt, unkept, never_at_end, TrapsFrom, Chain, chain_run}
use Rattle.applied.proofs.Pairs.{pair_at, none_at, not_only_new, not_only_old, same_outlines, Deleted, Copied, AsItWas, IsDeleted, copied_is, none_inserted}

-- the first edge into a place, and where it leads
abbrev first_edge : ℕ → ℕ → Edge
first_edge zero zero = Entry
first_edge k b = Inside b k

abbrev first_target : ℕ → ℕ → Point
first_target zero zero = Head 0
first_target k b = Place b k

abbrev behind_first : ℕ → ℕ → List Edge
behind_first zero zero = Inside 0 0 ∷ []
behind_first k b = []

edges_are : (k b : ℕ) (block : Block) (leave : List Edge) → leaving b (slice_get block.instrs k) block.term ≡ leave → edges_before b k block ≡ first_edge k b ∷ (behind_first k b ++ leave)
edges_are zero zero block leave e = ap (λ l. Entry ∷ Inside 0 0 ∷ l) e
edges_are zero (suc b) block leave e = ap (λ l. Inside (suc b) 0 ∷ l) e
edges_are (suc k) b block leave e = ap (λ l. Inside b (suc k) ∷ l) e

into_head : (function : Function) (block : Block) (b : ℕ) → 0 < b → slice_get function.blocks b ≡ Some block → Joins function (first_edge 0 b) (Head b) (first_target 0 b)
into_head function block zero lt there = absurd (omega (arith, lt))
into_head function block (suc b) lt there = record { block = block; block_there = there; within = omega arith; begins = refl; ends = refl }

empty : (l : List ℕ) → length l ≡ 0 → l ≡ []
empty [] e = refl
empty (x ∷ xs) e = absurd (omega (arith, e))

earlier_more : (k n : ℕ) (operand : Operand) → k ≤ n → IsEarlier k operand → IsEarlier n operand
earlier_more k n (Const c) le e = tt
earlier_more k n (Param i) le e = tt
earlier_more k n (Reg i) le e = omega (arith, le, e)

stored_is : (kept inserted live : Bool) → kept ≡ true → inserted ≡ false → live ≡ true → (if kept then (if inserted then false else live) else false) ≡ true
stored_is true false live e e' e'' = e''
stored_is true true live e e' e'' = absurd cc
stored_is false inserted live e e' e'' = absurd cc

stored_kept : (kept inserted live : Bool) → (if kept then (if inserted then false else live) else false) ≡ true → kept ≡ true
stored_kept true inserted live e = refl
stored_kept false inserted live e = absurd cc

unkept_by : (kept inserted live : Bool) → (if kept then (if inserted then false else live) else false) ≡ false → inserted ≡ false → live ≡ true → (q : Bool) → kept ≡ q → kept ≡ false
unkept_by kept inserted live e e' e'' false is = is
unkept_by kept inserted live e e' e'' true is = absurd (not_true _ e (stored_is kept inserted live is e' e''))

pub length_temporaries : (naming : Naming) (moves : List Move) → length (temporaries naming moves) ≡ length moves
length_temporaries naming [] = refl
length_temporaries naming (move ∷ moves) = ap suc (length_temporaries naming moves)

module _ (m m' : Program) (plans : ℕ → Plan) (rules : IsWellFormed m) (are_moves : AreMoves m plans) (all : IsApplied m plans m') where
  abbrev moves_of : Frame → List Move
  moves_of f = (plans f.function).moves

  abbrev naming_of : Frame → Naming
  naming_of f = (plans f.function).naming

  -- the frame's function, and its new text
  pub record InPair (f : Frame) : Type 0 where
    pub function : Function
    pub function' : Function
    pub there : slice_get m.functions f.function ≡ Some function
    pub there' : slice_get m'.functions f.function ≡ Some function'
    pub applied : FunctionApplied (plans f.function) function function'
    pub vars : length f.variables ≡ length function.vars

  -- the old frame stands at a place, and the new one before the groups of the edge into the place
  pub record StandsBefore (globals : Globals) (f f' : Frame) : Type 0 where
    pub pair : InPair f
    pub block : Block
    pub block' : Block
    pub k : ℕ
    pub len : length f.registers ≡ k
    pub in_block : InBlock m pair.function block globals f
    pub text : BlockApplied (naming_of f) (moves_of f) (length pair.function.vars) pair.applied.layout f.block block block'
    pub at_start : length f'.registers ≡ text.start k
    pub from : Point
    pub joins : Joins pair.function (first_edge k f.block) from (first_target k f.block)
    pub reached : IsReached pair.function from
    pub ready : Ready m' block' (moves_of f) text.number (λ i move. LiveOn (first_edge k f.block) (first_target k f.block) move) globals f f'

  -- the old frame stands at the head of a block, and the new one in the block of the slot that leads there
  pub record StandsInSplit (globals : Globals) (f f' : Frame) : Type 0 where
    pub pair : InPair f
    pub b : ℕ
    pub slot : ℕ
    pub block : Block
    pub block_there : slice_get pair.function.blocks b ≡ Some block
    pub leads : slot_target block.term slot ≡ Some f.block
    pub none : f.registers ≡ []
    pub none' : f'.registers ≡ []
    pub reached : IsReached pair.function (Place b (length block.instrs))
    pub ready : Ready m' (split_block (naming_of f) (length pair.function.vars) (Slot b slot) (pair.applied.layout.home f.block) (moves_of f)) (moves_of f) (λ k. k) (λ i move. LiveOn (Slot b slot) (Head f.block) move) globals f f'

  data Related (globals : Globals) (f f' : Frame) : Type 0 where
    Before : StandsBefore globals f f' → Related globals f f'
    InSplit : StandsInSplit globals f f' → Related globals f f'

  abbrev FollowsHere : Globals → Frame → Frame → Type 0
  FollowsHere globals f f' = FollowsFrame (frames_of m) (frames_of m') Related globals f f'

  abbrev AnswersAt : Globals → Frame → Frame → Act Frame Globals → Act Frame Globals → Type 0
  AnswersAt globals f f' act act' = AnswersAct (frames_of m) (frames_of m') Related act act' globals f f'

  by_acts : (globals : Globals) (f f' : Frame) (act act' : Act Frame Globals) → (frames_of m).act globals f ≡ act → (frames_of m').act globals f' ≡ act' → AnswersAt globals f f' act act' → FollowsHere globals f f'
  by_acts globals f f' act act' e e' answers =
      Answered 0 (refl, subst (λ a. AnswersAt globals f f' a ((frames_of m').act globals f')) (sym e) (subst (λ b. AnswersAt globals f f' act b) (sym e') answers))

  moves_are : (f : Frame) (pair : InPair f) (x : ℕ) (move : Move) → slice_get (moves_of f) x ≡ Some move → IsMove m pair.function move
  moves_are f pair x move there = are_moves f.function x pair.function move pair.there there

  fits_of : (f : Frame) (pair : InPair f) → FunctionFits pair.function
  fits_of f pair = function_fits m rules f.function pair.function pair.there

  targets_of : (f : Frame) (pair : InPair f) (b slot target : ℕ) (block : Block) → slice_get pair.function.blocks b ≡ Some block → slot_target block.term slot ≡ Some target → (0 < target) × (target < length pair.function.blocks)
  targets_of f pair b slot target block = (fits_of f pair).targets b slot target block

  -- the live temporaries hold their values at the head of a block
  abbrev HeadFacts : Globals → Frame → List ℕ → Type 0
  HeadFacts globals f extra =
      (x : ℕ) (move : Move) → slice_get (moves_of f) x ≡ Some move → LiveAt (Head f.block) move → expr_in globals f move.expr ≡ Ok (slice_index extra x)

  live_into : (f : Frame) (pair : InPair f) (block : Block) (b : ℕ) → 0 < b → slice_get pair.function.blocks b ≡ Some block → IsReached pair.function (Head b) → (x : ℕ) (move : Move) → slice_get (moves_of f) x ≡ Some move → LiveOn (first_edge 0 b) (first_target 0 b) move → LiveAt (Head b) move
  live_into f pair block b lt there reached x move is live =
      let is_move = moves_are f pair x move is in
      live_before m pair.function move is_move (first_edge 0 b) (Head b) (first_target 0 b) (into_head pair.function block b lt there) live.1 live.0
      (unkept m pair.function (Head b) move is_move (λ e o. o) _ refl) reached

  -- both frames at the head of a block
  at_home : (globals : Globals) (f g : Frame) (pair : InPair f) (extra : List ℕ) → 0 < f.block → f.block < length pair.function.blocks → f.registers ≡ [] → g.registers ≡ [] → g.function ≡ f.function → g.block ≡ pair.applied.layout.home f.block → g.arguments ≡ f.arguments → g.variables ≡ f.variables ++ extra → length extra ≡ length (moves_of f) → IsReached pair.function (Head f.block) → HeadFacts globals f extra → StandsBefore globals f g
  at_home globals f g pair extra lt within none none' function block arguments variables size reached facts =
      let found = block_found pair.function.blocks f.block within in
      let new = pair.applied.blocks f.block found.0 found.1 in
      record {
        pair = pair;
        block = found.0;
        block' = new.0;
        k = 0;
        len = ap length none;
        in_block = at_head_of m pair.function found.0 globals f pair.there found.1 none;
        text = new.2;
        at_start = ap length none' ∙ sym new.2.start_zero;
        from = Head f.block;
        joins = into_head pair.function found.0 f.block lt found.1;
        reached = reached;
        ready = record {
          extra = extra;
          agrees = agrees_at_head new.2.number extra f g none function arguments variables;
          size = size;
          here = ap (λ i. block_at m' i g.block) function ∙ ap (block_at m' f.function) block ∙ ap (λ o. slice_get (blocks_of o) (pair.applied.layout.home f.block)) pair.there' ∙ new.1;
          facts = λ x move is live. facts x move is (live_into f pair found.0 f.block lt found.1 reached x move is live);
        };
      }

  -- the first frames of a function
  first_comes : (i : ℕ) (function : Function) → slice_get m.functions i ≡ Some function → 0 < length function.blocks → (function' : Function) → slice_get m'.functions i ≡ Some function' → FunctionApplied (plans i) function function' → (arguments : List ℕ) (globals : Globals) → Comes (frames_of m) (frames_of m') Related globals (first_frame i function arguments) globals (first_frame i function' arguments)
  first_comes i function there defined function' there' applied arguments globals =
      let f = first_frame i function arguments in
      let g = first_frame i function' arguments in
      let pair : InPair f = record { function = function; function' = function'; there = there; there' = there'; applied = applied; vars = length-replicate (length function.vars) 0 } in
      let found = block_found function.blocks 0 defined in
      let new = applied.blocks 0 found.0 found.1 in
      let moves = (plans i).moves in
      let extra = replicate (length moves) 0 in
      let count : length function'.vars ≡ length function.vars + length moves = ap length applied.vars ∙ length-append function.vars (temporaries (plans i).naming moves) ∙ ap (λ n. length function.vars + n) (length_temporaries (plans i).naming moves) in (
        0,
        (
          refl,
          Before (record {
            pair = pair;
            block = found.0;
            block' = new.0;
            k = 0;
            len = refl;
            in_block = at_head_of m function found.0 globals f there found.1 refl;
            text = new.2;
            at_start = sym new.2.start_zero;
            from = Start;
            joins = (refl, refl);
            reached = record { path = []; leads = refl };
            ready = record {
              extra = extra;
              agrees = agrees_at_head new.2.number extra f g refl refl refl (ap (λ n. replicate n 0) count ∙ sym (replicate-append-replicate (length function.vars) (length moves) 0));
              size = length-replicate (length moves) 0;
              here = ap (λ o. slice_get (blocks_of o) 0) there' ∙ ap (slice_get function'.blocks) (sym applied.home_first) ∙ new.1;
              facts = λ x move is live.
                  let is_move = moves_are f pair x move is in
                  absurd (not_at_start m function move is_move Entry Start (Head 0) (refl, refl) live.1 live.0 (unkept m function Start move is_move (λ e o. o) _ refl) (record { path = []; leads = refl }) refl);
            };
          }),
        ),
      )

  entered_alike : (i : ℕ) (function function' : Function) → slice_get m.functions i ≡ Some function → slice_get m'.functions i ≡ Some function' → FunctionApplied (plans i) function function' → (blocks blocks' : List Block) → function.blocks ≡ blocks → function'.blocks ≡ blocks' → EnteredAlike m m' Related i function function' blocks blocks'
  entered_alike i function function' there there' applied [] [] e e' = applied.name
  entered_alike i function function' there there' applied (b ∷ bs) (b' ∷ bs') e e' =
      first_comes i function there (omega (arith, ap length e)) function' there' applied
  entered_alike i function function' there there' applied [] (b' ∷ bs') e e' = absurd (not_only_new (plans i) function function' applied b' bs' e e')
  entered_alike i function function' there there' applied (b ∷ bs) [] e e' = absurd (not_only_old (plans i) function function' applied b bs e e')

  paired : (i : ℕ) (function : Function) → slice_get m.functions i ≡ Some function → (function' : Function) × (slice_get m'.functions i ≡ Some function') × FunctionApplied (plans i) function function'
  paired i function there =
      let p = pair_at plans 0 m.functions m'.functions all.functions i function there in
      let e : 0 + i ≡ i = omega arith in
      (p.0, p.1, subst (λ j. FunctionApplied (plans j) function p.0) e p.2)

  callees_by : (i : ℕ) (found : Option Function) → slice_get m.functions i ≡ found → CalleesAlike m m' Related i found (slice_get m'.functions i)
  callees_by i None e = subst (λ o. CalleesAlike m m' Related i None o) (sym (none_at plans 0 m.functions m'.functions all.functions i e)) tt
  callees_by i (Some function) e =
      let p = paired i function e in
      subst (λ o. CalleesAlike m m' Related i (Some function) o) (sym p.1)
      (entered_alike i function p.0 e p.1 p.2 function.blocks p.0.blocks refl refl)

  callees : (i : ℕ) → CalleesAlike m m' Related i (slice_get m.functions i) (slice_get m'.functions i)
  callees i = callees_by i _ refl

  -- through a slot
  abbrev through : Frame → ℕ → Frame
  through f target = record f { block = target; registers = [] }

  abbrev pair_through : (f : Frame) (target : ℕ) → InPair f → InPair (through f target)
  pair_through f target pair = record { function = pair.function; function' = pair.function'; there = pair.there; there' = pair.there'; applied = pair.applied; vars = pair.vars }

  abbrev pair_past : (f : Frame) (v : ℕ) (V : List ℕ) → length V ≡ length f.variables → InPair f → InPair (past (record f { variables = V }) v)
  pair_past f v V e pair = record { function = pair.function; function' = pair.function'; there = pair.there; there' = pair.there'; applied = pair.applied; vars = e ∙ pair.vars }

  module _ (globals : Globals) (f : Frame) (pair : InPair f) (block block' : Block) (k : ℕ) (len : length f.registers ≡ k) (in_block : InBlock m pair.function block globals f) (text : BlockApplied (naming_of f) (moves_of f) (length pair.function.vars) pair.applied.layout f.block block block') where
    abbrev moves : List Move
    moves = moves_of f

    abbrev naming : Naming
    naming = naming_of f

    abbrev vars : ℕ
    vars = length pair.function.vars

    abbrev ReadyFor : (Move → Type 0) → Frame → Type 0
    ReadyFor L g = Ready m' block' moves text.number (λ i move. L move) globals f g

    abbrev here : Point
    here = Place f.block k

    module _ (g : Frame) (ready : ReadyFor (LiveAt here) g) (reached : IsReached pair.function here) (ends : slice_get block.instrs k ≡ None) where
      at_end : k ≡ length block.instrs
      at_end = omega (arith, in_block.within, len, past_end block.instrs k ends)

      slot_joins : (slot target : ℕ) → slot_target block.term slot ≡ Some target → Joins pair.function (Slot f.block slot) here (Head target)
      slot_joins slot target leads = record { block = block; block_there = in_block.block_there; target = target; leads = leads; begins = ap (Place f.block) at_end; ends = refl }

      slot_facts : (slot target : ℕ) → slot_target block.term slot ≡ Some target → (x : ℕ) (move : Move) → slice_get moves x ≡ Some move → LiveOn (Slot f.block slot) (Head target) move → expr_in globals f move.expr ≡ Ok (slice_index ready.extra x)
      slot_facts slot target leads x move there live =
          let is_move = moves_are f pair x move there in
          ready.facts x move there
          (live_before m pair.function move is_move (Slot f.block slot) here (Head target) (slot_joins slot target leads) live.1 live.0
          (unkept m pair.function here move is_move (never_at_end m pair.function block f.block k in_block.block_there ends) _ refl) reached)

      jump_by : (slot target : ℕ) → slot_target block.term slot ≡ Some target → is_single block.term ≡ false → (q : Bool) → has_groups (Slot f.block slot) moves ≡ q → Related globals (through f target) (through g (if q then pair.applied.layout.split f.block slot else pair.applied.layout.home target))
      jump_by slot target leads many true q =
          InSplit (record {
            pair = pair_through f target pair;
            b = f.block;
            slot = slot;
            block = block;
            block_there = in_block.block_there;
            leads = leads;
            none = refl;
            none' = refl;
            reached = subst (λ n. IsReached pair.function (Place f.block n)) at_end reached;
            ready = record {
              extra = ready.extra;
              agrees = agrees_at_head (λ k. k) ready.extra (through f target) (through g (pair.applied.layout.split f.block slot)) refl ready.agrees.function ready.agrees.arguments ready.agrees.variables;
              size = ready.size;
              here = ap (λ i. block_at m' i (pair.applied.layout.split f.block slot)) ready.agrees.function ∙ ap (λ o. slice_get (blocks_of o) (pair.applied.layout.split f.block slot)) pair.there'
                  ∙ pair.applied.splits f.block slot target block in_block.block_there (record { leads = leads; many = many; inserted = q });
              facts = slot_facts slot target leads;
            };
          })
      jump_by slot target leads many false q =
          let bounds = targets_of f pair f.block slot target block in_block.block_there leads in
          Before (at_home globals (through f target) (through g (pair.applied.layout.home target)) (pair_through f target pair) ready.extra bounds.0 bounds.1 refl refl ready.agrees.function refl ready.agrees.arguments ready.agrees.variables ready.size
          (reached_next pair.function (Slot f.block slot) here (Head target) (slot_joins slot target leads) reached)
          (λ x move there live. slot_facts slot target leads x move there (none_inserted (Slot f.block slot) moves q x move there, live)))

      branches : (operand : Operand) (then_block else_block n : ℕ) → block.term ≡ Branch operand then_block else_block → AnswersAt globals f g (branched n then_block else_block globals f) (branched n (new_target pair.applied.layout f.block 0 then_block moves) (new_target pair.applied.layout f.block 1 else_block moves) globals g)
      branches operand then_block else_block zero is =
          (0, (refl, jump_by 1 else_block (ap (λ t. slot_target t 1) is) (ap is_single is) _ refl))
      branches operand then_block else_block (suc n) is =
          (0, (refl, jump_by 0 then_block (ap (λ t. slot_target t 0) is) (ap is_single is) _ refl))

      earlier : (operand : Operand) → IsEarlier (length block.instrs) operand → IsEarlier (length f.registers) operand
      earlier operand e = earlier_more (length block.instrs) (length f.registers) operand (omega (arith, at_end, len)) e

      -- a terminator with no slot or with many
      tested : (q : Bool) (a b a' b' : Act Frame Globals) → AnswersAt globals f g a a' → AnswersAt globals f g b b' → AnswersAt globals f g (if q then a else b) (if q then a' else b')
      tested true a b a' b' one other = one
      tested false a b a' b' one other = other

      cases_answer : (value slot other : ℕ) (cases : List (ℕ × ℕ)) → is_single block.term ≡ false → slot_target block.term 0 ≡ Some other → ((i : ℕ) → slot_target block.term (slot + i) ≡ slice_get (map (λ c. c.1) cases) i) → AnswersAt globals f g (switched value slot other cases globals f) (switched value slot (new_target pair.applied.layout f.block 0 other moves) (new_cases pair.applied.layout f.block slot cases moves) globals g)
      cases_answer value slot other [] many default suffix = (0, (refl, jump_by 0 other default many _ refl))
      cases_answer value slot other (case ∷ cases) many default suffix =
          let z : slot + 0 ≡ slot = omega arith in
          tested (case.0 == value) _ _ _ _
          (0, (refl, jump_by slot case.1 (ap (slot_target block.term) (sym z) ∙ suffix 0) many _ refl))
          (cases_answer value (suc slot) other cases many default (λ i. let n : suc slot + i ≡ slot + suc i = omega arith in ap (slot_target block.term) n ∙ suffix (suc i)))

      term_answers : (term : Terminator) → block.term ≡ term → is_single term ≡ false → EndFits (length block.instrs) term → AnswersAt globals f g (term_act term globals f) (term_act (new_term text.number pair.applied.layout f.block term moves) globals g)
      term_answers (Return None) is many end_fits = refl
      term_answers (Return (Some operand)) is many end_fits = ap Some (sym (value_agrees text.number ready.extra f g ready.agrees operand (earlier operand end_fits)))
      term_answers (Jump to) is many end_fits = absurd cc
      term_answers (Switch width operand other []) is many end_fits = absurd cc
      term_answers (Switch width operand other (case ∷ cases)) is many end_fits =
          subst (λ n. AnswersAt globals f g (switched (value_in f operand) 1 other (case ∷ cases) globals f) (switched n 1 (new_target pair.applied.layout f.block 0 other moves) (new_cases pair.applied.layout f.block 1 (case ∷ cases) moves) globals g))
          (sym (value_agrees text.number ready.extra f g ready.agrees operand (earlier operand end_fits)))
          (cases_answer (value_in f operand) 1 other (case ∷ cases) (ap is_single is) (ap (λ t. slot_target t 0) is)
          (λ i. let n : 1 + i ≡ suc i = omega arith in ap (slot_target block.term) n ∙ ap (λ t. slot_target t (suc i)) is))
      term_answers (Branch operand then_block else_block) is many end_fits =
          subst (λ n. AnswersAt globals f g (branched (value_in f operand) then_block else_block globals f) (branched n (new_target pair.applied.layout f.block 0 then_block moves) (new_target pair.applied.layout f.block 1 else_block moves) globals g))
          (sym (value_agrees text.number ready.extra f g ready.agrees operand (earlier operand end_fits)))
          (branches operand then_block else_block (value_in f operand) is)
      term_answers Unreachable is many end_fits = refl

    -- the new frame at the new terminator
    new_end : (g : Frame) → block_at m' g.function g.block ≡ Some block' → length g.registers ≡ text.number k → k ≡ length block.instrs → (frames_of m').act globals g ≡ term_act (new_term text.number pair.applied.layout f.block block.term moves) globals g
    new_end g there at end =
        let past : length block'.instrs ≤ length g.registers = omega (arith, text.ends, at, ap text.number end) in
        ap (λ o. act_in m' o globals g) there ∙ ap (λ o. block_act m' o block'.term globals g) (slice_get_past block'.instrs (length g.registers) past) ∙ ap (λ t. term_act t globals g) text.term

    old_act : (found : Option Instr) → slice_get block.instrs k ≡ found → (frames_of m).act globals f ≡ block_act m found block.term globals f
    old_act found is =
        ap (λ o. act_in m o globals f) (found_block m pair.function block f in_block.function_there in_block.block_there)
        ∙ ap (λ o. block_act m o block.term globals f) (ap (slice_get block.instrs) len ∙ is)

    module _ (g : Frame) (ready : ReadyFor (LiveAt here) g) (at : length g.registers ≡ text.number k) (reached : IsReached pair.function here) (instr : Instr) (is : slice_get block.instrs k ≡ Some instr) where
      abbrev next_edge : Edge
      next_edge = Inside f.block (suc k)

      abbrev next_point : Point
      next_point = Place f.block (suc k)

      next_joins : Joins pair.function next_edge here next_point
      next_joins = record { block = block; block_there = in_block.block_there; within = omega (arith, slice_get_within block.instrs k instr is); begins = refl; ends = refl }

      -- what is live behind the instruction and isn't stored there has its value before it and behind it
      passed_facts : (v : ℕ) (V : List ℕ) (after : Globals) → Done m instr.kind globals f v V after → (x : ℕ) (move : Move) → slice_get moves x ≡ Some move → LiveOn next_edge next_point move → is_stored move f.block k ≡ false → expr_in after (behind f v V) move.expr ≡ Ok (slice_index ready.extra x)
      passed_facts v V after done x move there live unstored =
          let is_move = moves_are f pair x move there in
          let unkept = unkept_by (move.kept here) (move.inserted next_edge) (move.live next_point) unstored live.0 live.1 _ refl in
          let unkilled = unkilled_before m pair.function move is_move next_edge here next_point next_joins live.1 live.0 unkept reached in
          expr_kept m instr.kind globals f v V after move.expr done
          (λ changes. unkilled (record { block = block; block_there = in_block.block_there; instr = instr; here = is; changes = changes }))
          ∙ ready.facts x move there (live_before m pair.function move is_move next_edge here next_point next_joins live.1 live.0 unkept reached)

      -- an occurrence is the instruction, and has the expression's value
      occurs_kind : (e : Expr) (occurs : OccursIn m pair.function e f.block k) → instr.kind ≡ Compute e.op occurs.operands
      occurs_kind e occurs =
          let same : block ≡ occurs.block = let both : Some block ≡ Some occurs.block = sym in_block.block_there ∙ occurs.block_there in cc in
          let instr_same : instr ≡ occurs.instr = let both : Some instr ≡ Some occurs.instr = sym is ∙ ap (λ x. slice_get x.instrs k) same ∙ occurs.here in cc in
          ap (λ i. i.kind) instr_same ∙ occurs.computes

      stored_values : (v : ℕ) (V : List ℕ) (after : Globals) → Done m instr.kind globals f v V after → (x : ℕ) (move : Move) → slice_get moves x ≡ Some move → is_stored move f.block k ≡ true → expr_in after (behind f v V) move.expr ≡ Ok v
      stored_values v V after done x move there stored =
          let is_move = moves_are f pair x move there in
          let occurs = (is_move.kept_is here (stored_kept (move.kept here) (move.inserted next_edge) (move.live next_point) stored)).1 in
          let e = move.expr in
          let done' : Done m (Compute e.op occurs.operands) globals f v V after = subst (λ kind. Done m kind globals f v V after) (occurs_kind e occurs) done in
          let f1 = behind f v V in
          ap (λ g. expr_in g f1 e) done'.2 ∙ ap (value_of e.op) (args_same globals f f1 e.args refl done'.1)
          ∙ sym (occurrence_value m pair.function e f.block k globals f block in_block.block_there occurs len in_block.loads)
          ∙ done'.0

      instr_next : StandsAt block'.instrs (suc (text.number k)) (stores vars (text.number k) f.block k moves) → GoesOn m m' Related ready.extra instr.kind globals f g
      instr_next stands v V V' after done e =
          let f1 = behind f v V in
          let g1 = behind g v V' in
          let number = text.number k in
          let size = length_done m instr.kind globals f v V after done in
          let number_at : text.number (length f.registers) ≡ length g.registers = ap text.number len ∙ sym at in
          let L : ℕ → Move → Type 0 = λ i move. LiveOn next_edge next_point move × (0 ≤ i → is_stored move f.block k ≡ false) in
          let ready1 : Ready m' block' moves text.number L after f1 g1 = record {
            extra = ready.extra;
            agrees = agrees_past text.number ready.extra f g ready.agrees v V V' ready.extra e number_at;
            size = ready.size;
            here = ready.here;
            facts = λ x move there l. passed_facts v V after done x move there l.0 (l.1 (omega arith));
          } in
          let value : slice_index g1.registers number ≡ v = ap (λ i. get_or (g.registers ++ v ∷ []) i 0) (sym at) ∙ get_or-append_seam g.registers v [] 0 in
          stores_run m m' Related block' naming moves text.number after f1 f.block k number v (LiveOn next_edge next_point) (stored_values v V after done)
          moves 0 (λ i. let e : i ≡ 0 + i = omega arith in ap (slice_get moves) e)
          (suc number) vars g1 (omega (arith, size, pair.vars)) (omega (arith, length-append g.registers (v ∷ []), at)) stands value (omega arith) ready1
          (λ h stored. (
            0,
            (
              refl,
              Before (record {
                pair = pair_past f v V size pair;
                block = block;
                block' = block';
                k = suc k;
                len = omega (arith, length-append f.registers (v ∷ []), len);
                in_block = in_block_past m pair.function block globals f in_block instr (ap (slice_get block.instrs) len ∙ is) v V after done;
                text = text;
                at_start = stored.1 ∙ sym (text.start_next k);
                from = here;
                joins = next_joins;
                reached = reached;
                ready = stored.0;
              }),
            ),
          ))

      instr_fits : KindFits (length f.registers) (length f.variables) instr.kind
      instr_fits =
          subst (λ n. KindFits n (length f.variables) instr.kind) (sym len)
          (subst (λ n. KindFits k n instr.kind) (sym pair.vars) ((fits_of f pair).instrs f.block k block instr in_block.block_there is))

      new_act : (new : Instr) → slice_get block'.instrs (text.number k) ≡ Some new → (frames_of m').act globals g ≡ instr_act m' new.kind globals g
      new_act new there = acts m' block' globals g new ready.here (ap (slice_get block'.instrs) at ∙ there)

      -- in place of a deleted occurrence its temporary is loaded
      deleted_answers : (deleted : Deleted here moves vars (copied vars text.number here instr moves)) → GoesOn m m' Related ready.extra instr.kind globals f g → AnswersAt globals f g (instr_act m instr.kind globals f) (instr_act m' (Load (Local (vars + deleted.index))) globals g)
      deleted_answers deleted next =
          let move = deleted.move in
          let e = move.expr in
          let is_move = moves_are f pair deleted.index move deleted.there in
          let occurs = ((is_move.deleted_is here).0 deleted.deleted).1 in
          let temp = slice_index ready.extra deleted.index in
          let value : value_of e.op (map (value_in f) occurs.operands) ≡ Ok temp =
          occurrence_value m pair.function e f.block k globals f block in_block.block_there occurs len in_block.loads
          ∙ ready.facts deleted.index move deleted.there (live_at_deleted m pair.function move is_move here deleted.deleted) in
          let loaded : slice_index g.variables (vars + deleted.index) ≡ temp =
          ap (λ l. get_or l (vars + deleted.index) 0) ready.agrees.variables
          ∙ ap (λ n. get_or (f.variables ++ ready.extra) (n + deleted.index) 0) (sym pair.vars)
          ∙ get_or-append-add f.variables ready.extra deleted.index 0 in
          let done : Done m instr.kind globals f temp f.variables globals = subst (λ kind. Done m kind globals f temp f.variables globals) (sym (occurs_kind e occurs)) (value, refl, refl) in
          let to : AnswersAt globals f g (computed (Ok temp) globals f) (Goes None (past g temp) globals) = next temp f.variables g.variables globals done ready.agrees.variables in
          subst (λ kind. AnswersAt globals f g (instr_act m kind globals f) (Goes None (past g (slice_index g.variables (vars + deleted.index))) globals)) (sym (occurs_kind e occurs))
          (subst (λ w. AnswersAt globals f g (computed (value_of e.op (map (value_in f) occurs.operands)) globals f) (Goes None (past g w) globals)) (sym loaded)
          (subst (λ r. AnswersAt globals f g (computed r globals f) (Goes None (past g temp) globals)) (sym value) to))

      copied_follows : (new : Instr) → copied vars text.number here instr moves ≡ new → Copied here text.number instr moves vars (copied vars text.number here instr moves) → FollowsHere globals f g
      copied_follows new e (AsItWas same) =
          let stands = text.copy_stands k instr is in
          by_acts globals f g (instr_act m instr.kind globals f) (instr_act m' (renamed_kind text.number instr.kind) globals g) (old_act (Some instr) is)
          (new_act (copied vars text.number here instr moves) stands.0 ∙ ap (λ kind. instr_act m' kind globals g) same)
          (instr_answers m m' Related text.number ready.extra f g ready.agrees callees instr.kind instr_fits globals (instr_next stands.1))
      copied_follows new e (IsDeleted deleted) =
          let stands = text.copy_stands k instr is in
          by_acts globals f g (instr_act m instr.kind globals f) (instr_act m' (Load (Local (vars + deleted.index))) globals g) (old_act (Some instr) is)
          (new_act (copied vars text.number here instr moves) stands.0 ∙ ap (λ kind. instr_act m' kind globals g) deleted.load)
          (deleted_answers deleted (instr_next stands.1))

      instr_follows : FollowsHere globals f g
      instr_follows = copied_follows _ refl (copied_is here text.number instr moves vars)

    module _ (pass : ℕ) where
      abbrev TrapsAt : Point → Type 0
      TrapsAt w = TrapsFrom m m' Related block' pair.function (fits_of f pair) naming moves text.number (moves_are f pair) globals f pair.vars w

      abbrev Leads : Point → List Edge → Point → Type 0
      Leads w edges v = Chain m m' Related block' pair.function (fits_of f pair) naming moves text.number (moves_are f pair) globals f pair.vars w edges v

      traps_at : (w : Point) → AtPoint f w → TrapsAt w
      traps_at w at e trap inevitable value =
          comes_within m pair.function (fits_of f pair) e trap inevitable.0 w block globals f inevitable.1 at in_block value

      first_traps : (j b : ℕ) → k ≡ j → f.block ≡ b → TrapsAt (first_target j b)
      first_traps zero zero e e' = traps_at (Head 0) (e', empty f.registers (len ∙ e))
      first_traps zero (suc b) e e' = traps_at (Place (suc b) 0) (e', len ∙ e)
      first_traps (suc j) b e e' = traps_at (Place b (suc j)) (e', len ∙ e)

      first_leads : (j b : ℕ) → k ≡ j → f.block ≡ b → (leave : List Edge) (v : Point) → Leads (Place b j) leave v → Leads (first_target j b) (behind_first j b ++ leave) v
      first_leads zero zero e e' leave v leads = (
        λ e o. o,
        Place 0 0,
        record { block = block; block_there = ap (slice_get pair.function.blocks) (sym e') ∙ in_block.block_there; within = omega arith; begins = refl; ends = refl },
        traps_at (Place 0 0) (e', len ∙ e),
        leads,
      )
      first_leads zero (suc b) e e' leave v leads = leads
      first_leads (suc j) b e e' leave v leads = leads

      -- the groups before the place run
      place_run : (leave : List Edge) (v : Point) → leaving f.block (slice_get block.instrs k) block.term ≡ leave → Leads here leave v → (f' : Frame) → length f'.registers ≡ text.start k → (from : Point) → Joins pair.function (first_edge k f.block) from (first_target k f.block) → IsReached pair.function from → ReadyFor (LiveOn (first_edge k f.block) (first_target k f.block)) f' → ((g : Frame) → ReadyFor (LiveAt v) g → length g.registers ≡ text.number k → IsReached pair.function v → FollowsHere globals f g) → FollowsHere globals f f'
      place_run leave v e leads f' at from joins reached ready next =
          let edges = edges_are k f.block block leave e in
          let within : k ≤ length block.instrs = omega (arith, in_block.within, len) in
          let stands = subst (λ edges. StandsAt block'.instrs (text.start k) (groups_along naming (text.start k) vars edges moves)) edges (text.groups_stand k within) in
          let number = text.number_is k ∙ ap (λ edges. text.start k + length (groups_along naming (text.start k) vars edges moves)) edges in
          chain_run m m' Related block' pair.function (fits_of f pair) naming moves text.number (moves_are f pair) globals f pair.vars
          (behind_first k f.block ++ leave) (first_edge k f.block) from (first_target k f.block) v joins reached (first_traps k f.block refl refl)
          (first_leads k f.block refl refl leave v leads) (text.start k) f' at stands ready
          (λ g arrived. next g arrived.0 (arrived.1 ∙ sym number) arrived.2)

      module _ (f' : Frame) (at : length f'.registers ≡ text.start k) (from : Point) (joins : Joins pair.function (first_edge k f.block) from (first_target k f.block)) (reached : IsReached pair.function from) (ready : ReadyFor (LiveOn (first_edge k f.block) (first_target k f.block)) f') where
        instrs_follow : (instr : Instr) → slice_get block.instrs k ≡ Some instr → FollowsHere globals f f'
        instrs_follow instr is =
            place_run [] here (ap (λ o. leaving f.block o block.term) is) refl f' at from joins reached ready
            (λ g ready at reached. instr_follows g ready at reached instr is)

        term_end : slice_get block.instrs k ≡ None → k ≡ length block.instrs
        term_end is = omega (arith, in_block.within, len, past_end block.instrs k is)

        ends_follow : (term : Terminator) → block.term ≡ term → is_single term ≡ false → slice_get block.instrs k ≡ None → leaving f.block None term ≡ [] → FollowsHere globals f f'
        ends_follow term is many none e =
            place_run [] here (ap (λ o. leaving f.block o block.term) none ∙ ap (leaving f.block None) is ∙ e) refl f' at from joins reached ready
            (λ g ready at reached. by_acts globals f g (term_act term globals f) (term_act (new_term text.number pair.applied.layout f.block term moves) globals g)
            (old_act None none ∙ ap (λ t. term_act t globals f) is)
            (new_end g ready.here at (term_end none) ∙ ap (λ t. term_act (new_term text.number pair.applied.layout f.block t moves) globals g) is)
            (term_answers g ready reached none term is many (subst (EndFits (length block.instrs)) is ((fits_of f pair).terms f.block block in_block.block_there))))

        -- a jump runs the groups of its slot before it
        jump_follows : (term : Terminator) (to : ℕ) → block.term ≡ term → slot_target term 0 ≡ Some to → leaving f.block None term ≡ Slot f.block 0 ∷ [] → term_act term globals f ≡ takes 0 to globals f → ((g : Frame) → term_act (new_term text.number pair.applied.layout f.block term moves) globals g ≡ takes 0 (pair.applied.layout.home to) globals g) → slice_get block.instrs k ≡ None → FollowsHere globals f f'
        jump_follows term to is to_there leave old_takes new_takes none =
            let leads : slot_target block.term 0 ≡ Some to = ap (λ t. slot_target t 0) is ∙ to_there in
            let bounds = targets_of f pair f.block 0 to block in_block.block_there leads in
            let found = block_found pair.function.blocks to bounds.1 in
            let old = old_act None none ∙ ap (λ t. term_act t globals f) is ∙ old_takes in
            let traps : TrapsAt (Head to) = λ e trap inevitable value.
            let c = comes_within m pair.function (fits_of f pair) e trap inevitable.0 (Head to) found.0 globals (through f to) inevitable.1 (refl, refl) (at_head_of m pair.function found.0 globals (through f to) pair.there found.1 refl) value in
            (suc c.0, alone_goes (frames_of m) c.0 _ globals globals f (through f to) _ old c.1) in
            let slot_joins : Joins pair.function (Slot f.block 0) here (Head to) = record { block = block; block_there = in_block.block_there; target = to; leads = leads; begins = ap (Place f.block) (term_end none); ends = refl } in
            place_run (Slot f.block 0 ∷ []) (Head to) (ap (λ o. leaving f.block o block.term) none ∙ ap (leaving f.block None) is ∙ leave)
            (never_at_end m pair.function block f.block k in_block.block_there none, Head to, slot_joins, traps, refl) f' at from joins reached ready
            (λ g ready at reached. by_acts globals f g (takes 0 to globals f) (takes 0 (pair.applied.layout.home to) globals g) old
            (new_end g ready.here at (term_end none) ∙ ap (λ t. term_act (new_term text.number pair.applied.layout f.block t moves) globals g) is ∙ new_takes g)
            (0, (refl, Before (at_home globals (through f to) (through g (pair.applied.layout.home to)) (pair_through f to pair) ready.extra bounds.0 bounds.1 refl refl ready.agrees.function refl ready.agrees.arguments ready.agrees.variables ready.size reached ready.facts))))

        terms_follow : (term : Terminator) → block.term ≡ term → slice_get block.instrs k ≡ None → FollowsHere globals f f'
        terms_follow (Return operand) is none = ends_follow (Return operand) is refl none refl
        terms_follow (Jump to) is none = jump_follows (Jump to) to is refl refl refl (λ g. refl) none
        terms_follow (Switch width operand other []) is none = jump_follows (Switch width operand other []) other is refl refl refl (λ g. refl) none
        terms_follow (Switch width operand other (case ∷ cases)) is none = ends_follow (Switch width operand other (case ∷ cases)) is refl none refl
        terms_follow (Branch operand then_block else_block) is none = ends_follow (Branch operand then_block else_block) is refl none refl
        terms_follow Unreachable is none = ends_follow Unreachable is refl none refl

        place_follows : (found : Option Instr) → slice_get block.instrs k ≡ found → FollowsHere globals f f'
        place_follows None is = terms_follow block.term refl is
        place_follows (Some instr) is = instrs_follow instr is

  before_follows : (globals : Globals) (f f' : Frame) → StandsBefore globals f f' → FollowsHere globals f f'
  before_follows globals f f' s =
      place_follows globals f s.pair s.block s.block' s.k s.len s.in_block s.text 0 f' s.at_start s.from s.joins s.reached s.ready _ refl

  split_follows : (globals : Globals) (f f' : Frame) → StandsInSplit globals f f' → FollowsHere globals f f'
  split_follows globals f f' s =
      let pair = s.pair in
      let moves = moves_of f in
      let naming = naming_of f in
      let vars = length pair.function.vars in
      let edge = Slot s.b s.slot in
      let home = pair.applied.layout.home f.block in
      let kinds = groups naming 0 vars edge moves in
      let new = split_block naming vars edge home moves in
      let bounds = targets_of f pair s.b s.slot f.block s.block s.block_there s.leads in
      let found = block_found pair.function.blocks f.block bounds.1 in
      let in_block = at_head_of m pair.function found.0 globals f pair.there found.1 s.none in
      let joins : Joins pair.function edge (Place s.b (length s.block.instrs)) (Head f.block) = record { block = s.block; block_there = s.block_there; target = f.block; leads = s.leads; begins = refl; ends = refl } in
      let whole : kinds ≡ kinds ++ [] = sym (append-nil kinds) in
      chain_run m m' Related new pair.function (fits_of f pair) naming moves (λ k. k) (moves_are f pair) globals f pair.vars
      [] edge (Place s.b (length s.block.instrs)) (Head f.block) (Head f.block) joins s.reached
      (λ e trap inevitable value. comes_within m pair.function (fits_of f pair) e trap inevitable.0 (Head f.block) found.0 globals f inevitable.1 (refl, s.none) in_block value)
      refl 0 f' (ap length s.none') (subst (StandsAt kinds 0) whole (stands_whole kinds)) s.ready
      (λ g arrived.
      let ready = arrived.0 in
      let past : length kinds ≤ length g.registers = omega (arith, arrived.1, ap length whole) in
      goes (frames_of m) (frames_of m') Related globals f g (through g home) _
      (ap (λ o. act_in m' o globals g) ready.here ∙ ap (λ o. block_act m' o (Jump home) globals g) (slice_get_past kinds (length g.registers) past))
      (before_follows globals f (through g home)
      (at_home globals f (through g home) pair ready.extra bounds.0 bounds.1 s.none refl ready.agrees.function refl ready.agrees.arguments ready.agrees.variables ready.size arrived.2 ready.facts)))

  follows : (globals : Globals) (f f' : Frame) → Related globals f f' → FollowsHere globals f f'
  follows globals f f' (Before s) = before_follows globals f f' s
  follows globals f f' (InSplit s) = split_follows globals f f' s

  defined_length : (blocks : List Block) → is_defined blocks ≡ true → 0 < length blocks
  defined_length [] e = absurd cc
  defined_length (b ∷ bs) e = omega arith

  same_start : written m' ≡ written m
  same_start = ap (λ globals. map (λ g. g.value) globals) all.globals

  pub same : Same m m'
  same = record {
    globals = sym all.globals;
    functions = same_outlines plans 0 m.functions m'.functions all.functions;
    runs = λ i f f' arguments input e e' defined fit bytes.
        let p = paired i f e in
        let is : p.0 ≡ f' = let both : Some p.0 ≡ Some f' = sym p.1 ∙ e' in cc in
        let applied = subst (λ g. FunctionApplied (plans i) f g) is p.2 in
        let begin = running (first_frame i f arguments) [] (written m) in
        subst (λ globals. RunAlike (machine_of (frames_of m)) (machine_of (frames_of m')) (state begin input []) (state (running (first_frame i f' arguments) [] globals) input [])) (sym same_start)
        (alike_by_frames (frames_of m) (frames_of m') Related follows (written m) (first_frame i f arguments) (first_frame i f' arguments) input []
        (first_comes i f e (defined_length f.blocks defined) f' e' applied arguments (written m)));
  }
