-- Each number of a run fits its width, and a step keeps that.
use Rattle.std.proofs.Common.{◌≡◌, ℕ, zero, suc, ◌%◌, ◌^◌, ◌<◌, List, [], ◌∷◌, length, map, take, Option, Some, None, Result, Ok, Err, All, Bool, true, false, refl, sym, ap, ◌∙◌, subst, arith, ⊎_elim}
use Rattle.std.specs.Prelude.{slice_get, slice_index, ◌==◌, if◌then◌else◌, IsSomeAnd, IfOk, option_and_then}
use Rattle.std.specs.Option.{unwrap_or, option_map}
use Rattle.std.specs.List.{AllZip}
use Rattle.std.proofs.lemmas.Option.{slice_get-map, slice_get_within, get_or_from_slice_get, option_and_then_some}
use Rattle.mc_num.specs.Op.{bits, argument_widths, result_width}
use Rattle.mc_num.specs.Value.{HaveWidths, value_of}
use Rattle.mc_num.specs.declared.op.Width.{Width}
use Rattle.mc_num.specs.declared.op.Width.TheVariants.{I32}
use Rattle.mc_num.specs.declared.op.Trap.{Trap}
use Rattle.mc_num.specs.declared.op.Op.{Op}
use Rattle.mc_num.proofs.Bounds.{value_fits}
use Rattle.ir_types.specs.Program.{Program}
use Rattle.ir_types.specs.WellFormed.{Scope, signature, scope, given_by, widths, HasWidth, Fits, Ends, IsBlockIn, IsFunctionIn, IsGlobal, IsWellFormed, variable_width as scope_width}
use Rattle.ir_types.specs.declared.syntax.Operand.{Operand}
use Rattle.ir_types.specs.declared.syntax.Operand.TheVariants.{Const, Param, Reg}
use Rattle.ir_types.specs.declared.syntax.Variable.{Variable}
use Rattle.ir_types.specs.declared.syntax.Variable.TheVariants.{Local, Global}
use Rattle.ir_types.specs.declared.syntax.Kind.{Kind}
use Rattle.ir_types.specs.declared.syntax.Kind.TheVariants.{Load, Store, Compute, Call}
use Rattle.ir_types.specs.declared.syntax.Instr.{Instr}
use Rattle.ir_types.specs.declared.syntax.Terminator.{Terminator}
use Rattle.ir_types.specs.declared.syntax.Terminator.TheVariants.{Return, Jump, Branch, Switch, Unreachable}
use Rattle.ir_types.specs.declared.syntax.Block.{Block}
use Rattle.ir_types.specs.declared.syntax.Function.{Function}
use Rattle.ir_types.specs.declared.syntax.Global as globals
use Rattle.machines.specs.Acts.{Act, Goes, Calls, Reads, Writes, Returns, Traps, Running, turn, turned, acted}
use Rattle.machines.specs.declared.events.Event.TheVariants.{Wants}
use Rattle.ir_machine.specs.Step.{Globals, value_in, variable_in, frame_with, globals_with, past, computed, first_frame, is_putchar, external_act, entered, called, instr_act, takes, branched, switched, term_act, block_act, act_in, blocks_of, block_at, frames_of, written}
use Rattle.ir_machine.specs.Fits.{FitWidths, global_width, param_width, variable_width, return_width, result_width_at, width_here, FrameFits, AreWaiting, RunningFits, CanRun, CanEnd}
use Rattle.ir_machine.specs.declared.frame.Frame.{Frame}
use Rattle.ir_machine.proofs.Widths.{above_zero, nothing_fits, zeros_fit, push_fits, set_fits, along, widths_fit}

-- ---- items of lists

all_at : {X : Type 0} (P : X → Type 0) (xs : List X) (k : ℕ) (x : X) → All P xs → slice_get xs k ≡ Some x → P x
all_at P xs k x all e = subst P (get_or_from_slice_get xs k x x e) (all k x (slice_get_within xs k x e))

some_and : {X : Type 0} (P : X → Type 0) (o : Option X) (x : X) → o ≡ Some x → IsSomeAnd o P → P x
some_and P None x e h = absurd h
some_and {X} P (Some y) x e h = let is : y ≡ x = cc in subst P is h

front : {X : Type 0} (n : ℕ) (xs : List X) (k : ℕ) (x : X) → slice_get (take n xs) k ≡ Some x → slice_get xs k ≡ Some x
front zero xs k x e = cc
front (suc n) [] k x e = e
front (suc n) (y ∷ xs) zero x e = e
front (suc n) (y ∷ xs) (suc k) x e = front n xs k x e

-- the written values of the globals fit
pub written_fit : (m : Program) → IsWellFormed m → FitWidths (global_width m) (written m)
written_fit m rules g w e =
    option_and_then_some (λ x. Some x.width) (slice_get m.globals g) w (as_chain (slice_get m.globals g) (sym (slice_get-map (λ x. x.width) m.globals g) ∙ e))
    (λ x is width_is.
    let below : x.value < 2 ^ bits x.width = (all_at IsGlobal m.globals g x rules.globals is).fits in
    let same : x.width ≡ w = cc in
    let there : slice_index (written m) g ≡ x.value = get_or_from_slice_get (written m) g x.value 0 (slice_get-map (λ x. x.value) m.globals g ∙ ap (option_map (λ x. x.value)) is) in
    subst (λ n. n < 2 ^ bits w) (sym there) (subst (λ u. x.value < 2 ^ bits u) same below))
  where
    as_chain : (o : Option globals.Global) → option_map (λ x. x.width) o ≡ Some w → option_and_then (λ x. Some x.width) o ≡ Some w
    as_chain None e = e
    as_chain (Some x) e = e

-- ---- where a frame stands

-- the frame stands in this block of this function, and its numbers fit
pub record Stands (m : Program) (frame : Frame) (f : Function) (b : Block) : Type 0 where
  pub function_is : slice_get m.functions frame.function ≡ Some f
  pub block_is : slice_get f.blocks frame.block ≡ Some b
  pub fits : FrameFits m frame

module _ (m : Program) (frame : Frame) (f : Function) (b : Block) (stands : Stands m frame f b) where
  result_is : (k : ℕ) → result_width_at m frame.function frame.block k ≡ option_and_then (λ i. given_by (scope m f) i.kind) (slice_get b.instrs k)
  result_is k =
      ap (option_and_then (λ f. option_and_then (λ b. option_and_then (λ i. given_by (scope m f) i.kind) (slice_get b.instrs k)) (slice_get f.blocks frame.block))) stands.function_is
      ∙ ap (option_and_then (λ b. option_and_then (λ i. given_by (scope m f) i.kind) (slice_get b.instrs k))) stands.block_is

  -- a list of instructions that the block begins with
  abbrev pub IsFront : List Instr → Type 0
  IsFront before = (k : ℕ) (i : Instr) → slice_get before k ≡ Some i → slice_get b.instrs k ≡ Some i

  pub operand_fits : (before : List Instr) (w : Width) (operand : Operand) → IsFront before → HasWidth (scope m f) before w operand → value_in frame operand < 2 ^ bits w
  operand_fits before w (Const n) is_front has = has
  operand_fits before w (Param p) is_front has =
      stands.fits.arguments p w (ap (option_and_then (λ f. slice_get (widths f.params) p)) stands.function_is ∙ has)
  operand_fits before w (Reg r) is_front has =
      option_and_then_some (λ i. given_by (scope m f) i.kind) (slice_get before r) w has
      (λ i e g. stands.fits.registers r w (result_is r ∙ ap (option_and_then (λ i. given_by (scope m f) i.kind)) (is_front r i e) ∙ g))

  operands_fit : (before : List Instr) (ws : List Width) (operands : List Operand) → IsFront before → AllZip (HasWidth (scope m f) before) ws operands → HaveWidths ws (map (value_in frame) operands)
  operands_fit before [] [] is_front zip = tt
  operands_fit before (w ∷ ws) (o ∷ os) is_front zip = (operand_fits before w o is_front zip.0, operands_fit before ws os is_front zip.1)
  operands_fit before [] (o ∷ os) is_front zip = absurd zip
  operands_fit before (w ∷ ws) [] is_front zip = absurd zip

  pub can_run : (before : List Instr) (kind : Kind) → IsFront before → Fits (scope m f) before kind → CanRun frame kind
  can_run before (Load v) is_front fits = tt
  can_run before (Store o v) is_front fits = tt
  can_run before (Compute op operands) is_front fits = (fits.exists, operands_fit before (argument_widths op) operands is_front fits.operands_fit)
  can_run before (Call i operands) is_front fits = tt

pub can_end : (s : Scope) (before : List Instr) (term : Terminator) → Ends s before term → CanEnd term
can_end s before (Return o) ends = tt
can_end s before (Jump b) ends = tt
can_end s before (Branch c a b) ends = tt
can_end s before (Switch w o other cases) ends = ends.1.few
can_end s before Unreachable ends = tt

-- ---- what an act leaves

pub past_fits : (m : Program) (frame : Frame) (v : ℕ) → FrameFits m frame → ((w : Width) → width_here m frame ≡ Some w → v < 2 ^ bits w) → FrameFits m (past frame v)
past_fits m frame v fits new = record {
  arguments = fits.arguments;
  variables = fits.variables;
  registers = push_fits (result_width_at m frame.function frame.block) frame.registers v fits.registers new;
}

abbrev pub ActFits : Program → Frame → Act Frame Globals → Type 0
ActFits m f (Goes slot frame globals) = FrameFits m frame × (frame.function ≡ f.function) × FitWidths (global_width m) globals
ActFits m f (Calls i frame) = FrameFits m frame × (width_here m f ≡ return_width m frame.function)
ActFits m f Reads = width_here m f ≡ Some I32
ActFits m f (Writes byte frame) = FrameFits m frame × (frame.function ≡ f.function)
ActFits m f (Returns value) = (w : Width) → return_width m f.function ≡ Some w → unwrap_or value 0 < 2 ^ bits w
ActFits m f (Traps trap) = Unit {0}

computed_fits : (m : Program) (frame : Frame) (globals : Globals) (op : Op) (r : Result ℕ Trap) → FrameFits m frame → FitWidths (global_width m) globals → width_here m frame ≡ Some (result_width op) → IfOk r (λ v. v < 2 ^ bits (result_width op)) → ActFits m frame (computed r globals frame)
computed_fits m frame globals op (Err trap) fits others here below = tt
computed_fits m frame globals op (Ok v) fits others here below =
    (past_fits m frame v fits (λ w e. let is : result_width op ≡ w = cc in subst (λ u. v < 2 ^ bits u) is below), refl, others)

with_fits : (m : Program) (frame : Frame) (f : Function) (v : Variable) (value : ℕ) → slice_get m.functions frame.function ≡ Some f → FrameFits m frame → ((w : Width) → scope_width (scope m f) v ≡ Some w → value < 2 ^ bits w) → FrameFits m (frame_with v value frame)
with_fits m frame f (Global g) value is fits new = fits
with_fits m frame f (Local v) value is fits new = record {
  arguments = fits.arguments;
  variables = set_fits (variable_width m frame.function) frame.variables v value fits.variables
      (λ w e. new w (sym (ap (option_and_then (λ f. slice_get (widths f.vars) v)) is) ∙ e));
  registers = fits.registers;
}

globals_fit : (m : Program) (f : Function) (globals : Globals) (v : Variable) (value : ℕ) → FitWidths (global_width m) globals → ((w : Width) → scope_width (scope m f) v ≡ Some w → value < 2 ^ bits w) → FitWidths (global_width m) (globals_with v value globals)
globals_fit m f globals (Local v) value fits new = fits
globals_fit m f globals (Global g) value fits new = set_fits (global_width m) globals g value fits new

takes_fits : (m : Program) (slot target : ℕ) (globals : Globals) (f : Frame) → FrameFits m f → FitWidths (global_width m) globals → ActFits m f (takes slot target globals f)
takes_fits m slot target globals f fits others = (
  record { arguments = fits.arguments; variables = fits.variables; registers = nothing_fits (result_width_at m f.function target) },
  refl,
  others,
)

branched_fits : (m : Program) (n a b : ℕ) (globals : Globals) (f : Frame) → FrameFits m f → FitWidths (global_width m) globals → ActFits m f (branched n a b globals f)
branched_fits m zero a b globals f fits others = takes_fits m 1 b globals f fits others
branched_fits m (suc n) a b globals f fits others = takes_fits m 0 a globals f fits others

either_fits : (m : Program) (f : Frame) (q : Bool) (a b : Act Frame Globals) → ActFits m f a → ActFits m f b → ActFits m f (if q then a else b)
either_fits m f true a b x y = x
either_fits m f false a b x y = y

switched_fits : (m : Program) (value slot other : ℕ) (cases : List (ℕ × ℕ)) (globals : Globals) (f : Frame) → FrameFits m f → FitWidths (global_width m) globals → ActFits m f (switched value slot other cases globals f)
switched_fits m value slot other [] globals f fits others = takes_fits m 0 other globals f fits others
switched_fits m value slot other (case ∷ cases) globals f fits others =
    either_fits m f (case.0 == value) (takes slot case.1 globals f) (switched value (suc slot) other cases globals f)
    (takes_fits m slot case.1 globals f fits others) (switched_fits m value (suc slot) other cases globals f fits others)

-- what a function without blocks gives is an i32
external_gives : (m : Program) (g : Function) → IsFunctionIn m g → g.blocks ≡ [] → g.ret ≡ Some I32
external_gives m g is none = ⊎_elim (λ e. ap (λ x. x.ret) e) (λ e. ap (λ x. x.ret) e) (is.declared none)

byte_fits : (c : ℕ) (w : Width) → Some I32 ≡ Some w → c % 2 ^ 8 < 2 ^ bits w
byte_fits c w e =
    let is : I32 ≡ w = cc in
    let below : c % 2 ^ 8 < 2 ^ bits I32 = omega arith in
    subst (λ u. c % 2 ^ 8 < 2 ^ bits u) is below

external_fits : (m : Program) (f : Frame) (q : Bool) (arguments : List ℕ) → FrameFits m f → width_here m f ≡ Some I32 → ActFits m f (external_act q arguments f)
external_fits m f true arguments fits here =
    (past_fits m f (slice_index arguments 0 % 2 ^ 8) fits (λ w e. byte_fits (slice_index arguments 0) w (sym here ∙ e)), refl)
external_fits m f false arguments fits here = here

return_is : (callee : ℕ) (found : Option Function) → option_and_then (λ g. g.ret) (option_map signature found) ≡ option_and_then (λ f. f.ret) found
return_is callee None = refl
return_is callee (Some g) = refl

entered_fits : (m : Program) (f : Frame) (i : ℕ) (g : Function) (arguments : List ℕ) → FrameFits m f → slice_get m.functions i ≡ Some g → IsFunctionIn m g → width_here m f ≡ g.ret → FitWidths (slice_get (widths g.params)) arguments → (blocks : List Block) → g.blocks ≡ blocks → ActFits m f (entered i g blocks arguments f)
entered_fits m f i g arguments fits is rules here given [] none =
    external_fits m f (is_putchar g) arguments fits (here ∙ external_gives m g rules none)
entered_fits m f i g arguments fits is rules here given (b ∷ bs) some = (
  record {
    arguments = along (param_width m i) (slice_get (widths g.params)) arguments (λ k. ap (option_and_then (λ f. slice_get (widths f.params) k)) is) given;
    variables = zeros_fit (variable_width m i) (length g.vars);
    registers = nothing_fits (result_width_at m i 0);
  },
  here ∙ sym (ap (option_and_then (λ f. f.ret)) is),
)

called_fits : (m : Program) (f : Frame) (i : ℕ) (arguments : List ℕ) → IsWellFormed m → FrameFits m f → width_here m f ≡ return_width m i → ((g : Function) → slice_get m.functions i ≡ Some g → FitWidths (slice_get (widths g.params)) arguments) → (found : Option Function) → slice_get m.functions i ≡ found → ActFits m f (called found i arguments f)
called_fits m f i arguments rules fits here given None is = tt
called_fits m f i arguments rules fits here given (Some g) is =
    entered_fits m f i g arguments fits is (all_at (IsFunctionIn m) m.functions i g rules.functions is) (here ∙ ap (option_and_then (λ f. f.ret)) is) (given g is) g.blocks refl

module _ (m : Program) (rules : IsWellFormed m) (frame : Frame) (f : Function) (b : Block) (stands : Stands m frame f b) (globals : Globals) (others : FitWidths (global_width m) globals) where
  variable_fits : (v : Variable) (w : Width) → scope_width (scope m f) v ≡ Some w → variable_in globals frame v < 2 ^ bits w
  variable_fits (Local v) w e = stands.fits.variables v w (ap (option_and_then (λ f. slice_get (widths f.vars) v)) stands.function_is ∙ e)
  variable_fits (Global g) w e = others g w e

  callee_gives : (i : ℕ) → option_and_then (λ g. g.ret) (slice_get (scope m f).functions i) ≡ return_width m i
  callee_gives i = ap (option_and_then (λ g. g.ret)) (slice_get-map signature m.functions i) ∙ return_is i (slice_get m.functions i)

  instr_fits : (before : List Instr) (kind : Kind) → IsFront m frame f b stands before → Fits (scope m f) before kind → width_here m frame ≡ given_by (scope m f) kind → ActFits m frame (instr_act m kind globals frame)
  instr_fits before (Load v) is_front fits here =
      (past_fits m frame (variable_in globals frame v) stands.fits (λ w e. variable_fits v w (sym here ∙ e)), refl, others)
  instr_fits before (Store o v) is_front fits here =
      let value = value_in frame o in
      let value_fits : (w : Width) → scope_width (scope m f) v ≡ Some w → value < 2 ^ bits w =
      λ w e. operand_fits m frame f b stands before w o is_front (some_and (λ w. HasWidth (scope m f) before w o) (scope_width (scope m f) v) w e fits) in (
        past_fits m (frame_with v value frame) 0 (with_fits m frame f v value stands.function_is stands.fits value_fits) (λ w e. above_zero w),
        stays v value,
        globals_fit m f globals v value others value_fits,
      )
    where
      stays : (v : Variable) (value : ℕ) → (past (frame_with v value frame) 0).function ≡ frame.function
      stays (Local v) value = refl
      stays (Global g) value = refl
  instr_fits before (Compute op operands) is_front fits here =
      let can = can_run m frame f b stands before (Compute op operands) is_front fits in
      computed_fits m frame globals op (value_of op (map (value_in frame) operands)) stands.fits others here (value_fits op (map (value_in frame) operands) can.0 can.1)
  instr_fits before (Call i operands) is_front fits here =
      called_fits m frame i (map (value_in frame) operands) rules stands.fits (here ∙ callee_gives i) given (slice_get m.functions i) refl
    where
      given : (g : Function) → slice_get m.functions i ≡ Some g → FitWidths (slice_get (widths g.params)) (map (value_in frame) operands)
      given g is =
          let found = slice_get-map signature m.functions i ∙ ap (option_map signature) is in
          let zip = some_and (λ g. AllZip (HasWidth (scope m f) before) g.params operands) (slice_get (scope m f).functions i) (signature g) found fits in
          widths_fit (widths g.params) (map (value_in frame) operands) (operands_fit m frame f b stands before (widths g.params) operands is_front zip)

  term_fits : (term : Terminator) → Ends (scope m f) b.instrs term → ActFits m frame (term_act term globals frame)
  term_fits (Return None) ends = λ w e. above_zero w
  term_fits (Return (Some o)) ends = λ w e.
      let ret_is : f.ret ≡ Some w = sym (ap (option_and_then (λ f. f.ret)) stands.function_is) ∙ e in
      operand_fits m frame f b stands b.instrs w o (λ k i at. at) (some_and (λ w. HasWidth (scope m f) b.instrs w o) f.ret w ret_is ends)
  term_fits (Jump target) ends = takes_fits m 0 target globals frame stands.fits others
  term_fits (Branch c x y) ends = branched_fits m (value_in frame c) x y globals frame stands.fits others
  term_fits (Switch w o other cases) ends = switched_fits m (value_in frame o) 1 other cases globals frame stands.fits others
  term_fits Unreachable ends = tt

  block_fits : IsBlockIn (scope m f) b → (found : Option Instr) → slice_get b.instrs (length frame.registers) ≡ found → ActFits m frame (block_act m found b.term globals frame)
  block_fits is None e = term_fits b.term is.ends
  block_fits is (Some instr) e =
      instr_fits (take (length frame.registers) b.instrs) instr.kind (λ k i at. front (length frame.registers) b.instrs k i at) (is.fits (length frame.registers) instr e)
      (result_is m frame f b stands (length frame.registers) ∙ ap (option_and_then (λ i. given_by (scope m f) i.kind)) e)

-- what runs can run
block_can_run : (m : Program) (frame : Frame) → IsWellFormed m → FrameFits m frame → (f : Option Function) → slice_get m.functions frame.function ≡ f → (b : Block) → slice_get (blocks_of f) frame.block ≡ Some b → (CanEnd b.term) × ((instr : Instr) → slice_get b.instrs (length frame.registers) ≡ Some instr → CanRun frame instr.kind)
block_can_run m frame rules fits None e b e' = cc
block_can_run m frame rules fits (Some f) e b e' =
    let is = all_at (IsFunctionIn m) m.functions frame.function f rules.functions e in
    let is_block = all_at (IsBlockIn (scope m f)) f.blocks frame.block b is.blocks e' in
    let n = length frame.registers in (
      can_end (scope m f) b.instrs b.term is_block.ends,
      λ instr at. can_run m frame f b (record { function_is = e; block_is = e'; fits = fits }) (take n b.instrs) instr.kind (λ k i at. front n b.instrs k i at) (is_block.fits n instr at),
    )

pub can_end_here : (m : Program) (frame : Frame) (b : Block) → IsWellFormed m → FrameFits m frame → block_at m frame.function frame.block ≡ Some b → CanEnd b.term
can_end_here m frame b rules fits e = (block_can_run m frame rules fits (slice_get m.functions frame.function) refl b e).0

pub can_run_here : (m : Program) (frame : Frame) (b : Block) (instr : Instr) → IsWellFormed m → FrameFits m frame → block_at m frame.function frame.block ≡ Some b → slice_get b.instrs (length frame.registers) ≡ Some instr → CanRun frame instr.kind
can_run_here m frame b instr rules fits e at = (block_can_run m frame rules fits (slice_get m.functions frame.function) refl b e).1 instr at

act_fits_in : (m : Program) (globals : Globals) (frame : Frame) → IsWellFormed m → FrameFits m frame → FitWidths (global_width m) globals → (f : Option Function) → slice_get m.functions frame.function ≡ f → (b : Option Block) → slice_get (blocks_of f) frame.block ≡ b → ActFits m frame (act_in m b globals frame)
act_fits_in m globals frame rules fits others f e None e' = tt
act_fits_in m globals frame rules fits others None e (Some b) e' = cc
act_fits_in m globals frame rules fits others (Some f) e (Some b) e' =
    let is = all_at (IsFunctionIn m) m.functions frame.function f rules.functions e in
    block_fits m rules frame f b (record { function_is = e; block_is = e'; fits = fits }) globals others
    (all_at (IsBlockIn (scope m f)) f.blocks frame.block b is.blocks e') (slice_get b.instrs (length frame.registers)) refl

pub act_fits : (m : Program) (globals : Globals) (frame : Frame) → IsWellFormed m → FrameFits m frame → FitWidths (global_width m) globals → ActFits m frame ((frames_of m).act globals frame)
act_fits m globals frame rules fits others =
    act_fits_in m globals frame rules fits others (slice_get m.functions frame.function) refl (block_at m frame.function frame.block) refl

acted_fits : (m : Program) (act : Act Frame Globals) (top : Frame) (below : List Frame) (globals : Globals) → ActFits m top act → FrameFits m top → AreWaiting m top.function below → FitWidths (global_width m) globals → RunningFits m (acted (frames_of m) act top below globals).running
acted_fits m (Goes slot frame globals') top below globals fits t b g =
    record { globals = fits.2; top = fits.0; below = subst (λ i. AreWaiting m i below) (sym fits.1) b }
acted_fits m (Calls i frame) top below globals fits t b g = record { globals = g; top = fits.0; below = (fits.1, t, b) }
acted_fits m Reads top below globals fits t b g = record { globals = g; top = t; below = b }
acted_fits m (Writes byte frame) top below globals fits t b g =
    record { globals = g; top = fits.0; below = subst (λ i. AreWaiting m i below) (sym fits.1) b }
acted_fits m (Returns value) top [] globals fits t b g = record { globals = g; top = t; below = b }
acted_fits m (Returns value) top (caller ∷ below) globals fits t b g =
    record { globals = g; top = past_fits m caller (unwrap_or value 0) b.1 (λ w e. fits w (sym b.0 ∙ e)); below = b.2 }
acted_fits m (Traps trap) top below globals fits t b g = record { globals = g; top = t; below = b }

-- a step keeps the numbers in their widths
pub turn_fits : (m : Program) (running : Running Frame Globals) → IsWellFormed m → RunningFits m running → RunningFits m (turn (frames_of m) running).running
turn_fits m running rules r =
    acted_fits m ((frames_of m).act running.globals running.top) running.top running.below running.globals (act_fits m running.globals running.top rules r.top r.globals) r.top r.below r.globals

-- a frame that wants a byte stands at a call that gives an i32
wants_by : (m : Program) (act : Act Frame Globals) (top top' : Frame) (below below' : List Frame) (globals globals' : Globals) → ActFits m top act → acted (frames_of m) act top below globals ≡ turned Wants top' below' globals' → width_here m top' ≡ Some I32
wants_by m (Goes None frame g) top top' below below' globals globals' fits e = let event = ap (λ t. t.event) e in cc
wants_by m (Goes (Some slot) frame g) top top' below below' globals globals' fits e = let event = ap (λ t. t.event) e in cc
wants_by m (Calls i frame) top top' below below' globals globals' fits e = let event = ap (λ t. t.event) e in cc
wants_by m Reads top top' below below' globals globals' fits e =
    subst (λ x. width_here m x ≡ Some I32) (ap (λ t. t.running.top) e) fits
wants_by m (Writes byte frame) top top' below below' globals globals' fits e = let event = ap (λ t. t.event) e in cc
wants_by m (Returns value) top top' [] below' globals globals' fits e = let event = ap (λ t. t.event) e in cc
wants_by m (Returns value) top top' (caller ∷ below) below' globals globals' fits e = let event = ap (λ t. t.event) e in cc
wants_by m (Traps trap) top top' below below' globals globals' fits e = let event = ap (λ t. t.event) e in cc

pub wants_here : (m : Program) (running : Running Frame Globals) (top' : Frame) (below' : List Frame) (globals' : Globals) → IsWellFormed m → RunningFits m running → turn (frames_of m) running ≡ turned Wants top' below' globals' → width_here m top' ≡ Some I32
wants_here m running top' below' globals' rules r e =
    wants_by m ((frames_of m).act running.globals running.top) running.top top' running.below below' running.globals globals' (act_fits m running.globals running.top rules r.top r.globals) e

-- a function's first frame, without arguments
pub start_fits : (m : Program) (main : ℕ) (f : Function) → IsWellFormed m → RunningFits m (record { top = first_frame main f []; below = []; globals = written m })
start_fits m main f rules = record {
  globals = written_fit m rules;
  top = record {
    arguments = nothing_fits (param_width m main);
    variables = zeros_fit (variable_width m main) (length f.vars);
    registers = nothing_fits (result_width_at m main 0);
  };
  below = tt;
}
