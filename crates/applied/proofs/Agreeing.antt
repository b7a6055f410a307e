-- In frames that agree: a copy of an instruction, with other numbers of registers, does what the instruction does.
use Rattle.std.proofs.Common.{◌≡◌, ℕ, ◌<◌, List, [], ◌∷◌, ◌++◌, length, map, get_or, Option, Some, None, Result, Ok, Err, Bool, true, false, refl, sym, ap, ◌∙◌, subst, arith, ⊎_elim, length-append}
use Rattle.std.specs.Prelude.{slice_get, slice_index, slice_set, codes}
use Rattle.std.specs.Str.{bytes_eq}
use Rattle.std.proofs.Math.Seq.{get_or-append_seam}
use Rattle.std.proofs.lemmas.List.{get_or_append_left, set-append_left}
use Rattle.std.proofs.lemmas.Bool.{cases_lt}
use Rattle.mc_num.specs.declared.op.Trap.{Trap}
use Rattle.ir_types.specs.declared.syntax.Operand.{Operand}
use Rattle.ir_types.specs.declared.syntax.Operand.TheVariants.{Const, Param, Reg}
use Rattle.ir_types.specs.declared.syntax.Kind.{Kind}
use Rattle.ir_types.specs.declared.syntax.Variable.{Variable}
use Rattle.ir_types.specs.declared.syntax.Variable.TheVariants.{Local, Global}
use Rattle.ir_types.specs.declared.syntax.Kind.TheVariants.{Load, Store, Compute, Call}
use Rattle.ir_types.specs.declared.syntax.Block.{Block}
use Rattle.ir_types.specs.declared.syntax.Function.{Function}
use Rattle.ir_types.specs.Program.{Program}
use Rattle.mc_num.specs.Value.{value_of}
use Rattle.ir_machine.specs.declared.frame.Frame.{Frame}
use Rattle.machines.specs.Acts.{Act}
use Rattle.ir_machine.specs.Step.{Globals, value_in, variable_in, frame_with, globals_with, past, computed, first_frame, is_putchar, external_act, entered, called, instr_act, frames_of}
use Rattle.ir_machine.specs.Same.{is_defined}
use Rattle.ir_machine.specs.Step.{blocks_of}
use Rattle.machines.proofs.ByFrames.{Comes, AnswersAct}
use Rattle.applied.proofs.Steps.{Further}
use Rattle.applied.specs.Renamed.{renamed, renamed_kind}
use Rattle.applied.proofs.Fitting.{IsEarlier, AreEarlier, VariableWithin, KindFits}
use Rattle.applied.proofs.Loads.{GoesOn}

-- the new frame has the old one's registers under their new numbers, and its variables with some more behind them
pub record Agrees (number : ℕ → ℕ) (extra : List ℕ) (f f' : Frame) : Type 0 where
  pub function : f'.function ≡ f.function
  pub arguments : f'.arguments ≡ f.arguments
  pub variables : f'.variables ≡ f.variables ++ extra
  pub within : (k : ℕ) → k < length f.registers → number k < length f'.registers
  pub registers : (k : ℕ) → k < length f.registers → slice_index f'.registers (number k) ≡ slice_index f.registers k

-- at the head of a block no register is read
pub agrees_at_head : (number : ℕ → ℕ) (extra : List ℕ) (f f' : Frame) → f.registers ≡ [] → f'.function ≡ f.function → f'.arguments ≡ f.arguments → f'.variables ≡ f.variables ++ extra → Agrees number extra f f'
agrees_at_head number extra f f' none function arguments variables =
    let nothing : (k : ℕ) → k < length f.registers → ⊥ = λ k lt. omega (arith, lt, ap length none) in
    record { function = function; arguments = arguments; variables = variables; within = λ k lt. absurd (nothing k lt); registers = λ k lt. absurd (nothing k lt) }

module _ (number : ℕ → ℕ) (extra : List ℕ) (f f' : Frame) (agrees : Agrees number extra f f') where
  pub value_agrees : (operand : Operand) → IsEarlier (length f.registers) operand → value_in f' (renamed number operand) ≡ value_in f operand
  value_agrees (Const n) earlier = refl
  value_agrees (Param i) earlier = ap (λ l. slice_index l i) agrees.arguments
  value_agrees (Reg i) earlier = agrees.registers i earlier

  pub values_agree : (operands : List Operand) → AreEarlier (length f.registers) operands → map (value_in f') (map (renamed number) operands) ≡ map (value_in f) operands
  values_agree [] earlier = refl
  values_agree (operand ∷ operands) earlier =
      ap (λ v. v ∷ map (value_in f') (map (renamed number) operands)) (value_agrees operand earlier.0)
      ∙ ap (λ l. value_in f operand ∷ l) (values_agree operands earlier.1)

  -- one more register on both sides
  pub agrees_past : (v : ℕ) (V V' more : List ℕ) → V' ≡ V ++ more → number (length f.registers) ≡ length f'.registers → Agrees number more (past (record f { variables = V }) v) (past (record f' { variables = V' }) v)
  agrees_past v V V' more e at = record {
    function = agrees.function;
    arguments = agrees.arguments;
    variables = e;
    within = λ k lt. ⊎_elim
        (λ below. omega (arith, agrees.within k below, length-append f'.registers (v ∷ [])))
        (λ above.
        let is : k ≡ length f.registers = omega (arith, lt, above, length-append f.registers (v ∷ [])) in
        let here = ap number is ∙ at in
        omega (arith, here, length-append f'.registers (v ∷ [])))
        (cases_lt k (length f.registers));
    registers = λ k lt. ⊎_elim
        (λ below.
        get_or_append_left f'.registers (v ∷ []) 0 (number k) (agrees.within k below)
        ∙ agrees.registers k below
        ∙ sym (get_or_append_left f.registers (v ∷ []) 0 k below))
        (λ above.
        let is : k ≡ length f.registers = omega (arith, lt, above, length-append f.registers (v ∷ [])) in
        ap (λ n. get_or (f'.registers ++ v ∷ []) n 0) (ap number is ∙ at)
        ∙ get_or-append_seam f'.registers v [] 0
        ∙ sym (ap (λ n. get_or (f.registers ++ v ∷ []) n 0) is ∙ get_or-append_seam f.registers v [] 0))
        (cases_lt k (length f.registers));
  }

  -- one more register on the new side alone
  pub agrees_more : (w : ℕ) (V more : List ℕ) → V ≡ f.variables ++ more → Agrees number more f (past (record f' { variables = V }) w)
  agrees_more w V more e = record {
    function = agrees.function;
    arguments = agrees.arguments;
    variables = e;
    within = λ k lt. omega (arith, agrees.within k lt, length-append f'.registers (w ∷ []));
    registers = λ k lt. get_or_append_left f'.registers (w ∷ []) 0 (number k) (agrees.within k lt) ∙ agrees.registers k lt;
  }

-- the new frame goes further
pub agrees_further : (number : ℕ → ℕ) (extra : List ℕ) (f f' g : Frame) (V : List ℕ) (n : ℕ) (more : List ℕ) → Agrees number extra f f' → Further f' V n g → V ≡ f.variables ++ more → Agrees number more f g
agrees_further number extra f f' g V n more agrees further e = record {
  function = further.function ∙ agrees.function;
  arguments = further.arguments ∙ agrees.arguments;
  variables = further.holds ∙ e;
  within = λ k lt. omega (arith, agrees.within k lt, ap length further.registers, length-append f'.registers further.more);
  registers = λ k lt. ap (λ l. get_or l (number k) 0) further.registers ∙ get_or_append_left f'.registers further.more 0 (number k) (agrees.within k lt) ∙ agrees.registers k lt;
}

-- the external function of this name shows a byte
abbrev putchar_named : List ℕ → Bool
putchar_named name = bytes_eq name (codes "putchar")

module _ (m m' : Program) (related : Globals → Frame → Frame → Type 0) where
  -- both are declared, or both are defined and their first frames come to be related
  abbrev pub EnteredAlike : ℕ → Function → Function → List Block → List Block → Type 0
  EnteredAlike i function function' [] [] = function'.name ≡ function.name
  EnteredAlike i function function' (b ∷ bs) (b' ∷ bs') =
      (arguments : List ℕ) (globals : Globals) → Comes (frames_of m) (frames_of m') related globals (first_frame i function arguments) globals (first_frame i function' arguments)
  EnteredAlike i function function' [] (b' ∷ bs') = ⊥
  EnteredAlike i function function' (b ∷ bs) [] = ⊥

  abbrev pub CalleesAlike : ℕ → Option Function → Option Function → Type 0
  CalleesAlike i None None = Unit {0}
  CalleesAlike i (Some function) (Some function') = EnteredAlike i function function' function.blocks function'.blocks
  CalleesAlike i None (Some function') = ⊥
  CalleesAlike i (Some function) None = ⊥

  abbrev AnswersHere : Act Frame Globals → Act Frame Globals → Globals → Frame → Frame → Type 0
  AnswersHere act act' globals f f' = AnswersAct (frames_of m) (frames_of m') related act act' globals f f'

  abbrev ComesBehind : Globals → ℕ → Frame → Frame → Type 0
  ComesBehind globals v f f' = Comes (frames_of m) (frames_of m') related globals (past f v) globals (past f' v)

  pub computed_answers : (r r' : Result ℕ Trap) (globals : Globals) (f f' : Frame) → r' ≡ r → ((v : ℕ) → r ≡ Ok v → ComesBehind globals v f f') → AnswersHere (computed r globals f) (computed r' globals f') globals f f'
  computed_answers (Ok v) (Ok v') globals f f' e next =
      let same : v' ≡ v = cc in
      subst (λ w. Comes (frames_of m) (frames_of m') related globals (past f v) globals (past f' w)) (sym same) (next v refl)
  computed_answers (Err t) (Err t') globals f f' e next = cc
  computed_answers (Ok v) (Err t') globals f f' e next = absurd cc
  computed_answers (Err t) (Ok v') globals f f' e next = absurd cc

  external_answers : (shows : Bool) (arguments : List ℕ) (globals : Globals) (f f' : Frame) → ((v : ℕ) → ComesBehind globals v f f') → AnswersHere (external_act shows arguments f) (external_act shows arguments f') globals f f'
  external_answers true arguments globals f f' next = (refl, next _)
  external_answers false arguments globals f f' next = λ value. next value

  entered_answers : (i : ℕ) (function function' : Function) (blocks blocks' : List Block) (arguments : List ℕ) (globals : Globals) (f f' : Frame) → EnteredAlike i function function' blocks blocks' → ((v : ℕ) (g : Globals) → (is_defined blocks ≡ false → g ≡ globals) → ComesBehind g v f f') → AnswersHere (entered i function blocks arguments f) (entered i function' blocks' arguments f') globals f f'
  entered_answers i function function' [] [] arguments globals f f' alike next =
      subst (λ name. AnswersHere (external_act (is_putchar function) arguments f) (external_act (putchar_named name) arguments f') globals f f') (sym alike)
      (external_answers (is_putchar function) arguments globals f f' (λ v. next v globals (λ e. refl)))
  entered_answers i function function' (b ∷ bs) (b' ∷ bs') arguments globals f f' alike next = (alike arguments globals, λ value g. next _ g (λ e. absurd cc))
  entered_answers i function function' [] (b' ∷ bs') arguments globals f f' alike next = absurd alike
  entered_answers i function function' (b ∷ bs) [] arguments globals f f' alike next = absurd alike

  called_answers : (i : ℕ) (callee callee' : Option Function) (arguments : List ℕ) (globals : Globals) (f f' : Frame) → CalleesAlike i callee callee' → ((v : ℕ) (g : Globals) → (is_defined (blocks_of callee) ≡ false → g ≡ globals) → ComesBehind g v f f') → AnswersHere (called callee i arguments f) (called callee' i arguments f') globals f f'
  called_answers i None None arguments globals f f' alike next = refl
  called_answers i (Some function) (Some function') arguments globals f f' alike next =
      entered_answers i function function' function.blocks function'.blocks arguments globals f f' alike next
  called_answers i None (Some function') arguments globals f f' alike next = absurd alike
  called_answers i (Some function) None arguments globals f f' alike next = absurd alike

  -- the copy answers a load and a store
  load_answers : (number : ℕ → ℕ) (extra : List ℕ) (f f' : Frame) → Agrees number extra f f' → (x : Variable) → VariableWithin (length f.variables) x → (globals : Globals) → GoesOn m m' related extra (Load x) globals f f' → Comes (frames_of m) (frames_of m') related globals (past f (variable_in globals f x)) globals (past f' (variable_in globals f' x))
  load_answers number extra f f' agrees (Local x) within globals next =
      let e : slice_index f'.variables x ≡ slice_index f.variables x = ap (λ l. get_or l x 0) agrees.variables ∙ get_or_append_left f.variables extra 0 x within in
      subst (λ v. Comes (frames_of m) (frames_of m') related globals (past f (slice_index f.variables x)) globals (past f' v)) (sym e)
      (next (slice_index f.variables x) f.variables f'.variables globals (refl, refl, refl) agrees.variables)
  load_answers number extra f f' agrees (Global y) within globals next =
      next (slice_index globals y) f.variables f'.variables globals (refl, refl, refl) agrees.variables

  store_answers : (number : ℕ → ℕ) (extra : List ℕ) (f f' : Frame) → Agrees number extra f f' → (operand : Operand) → IsEarlier (length f.registers) operand → (x : Variable) → VariableWithin (length f.variables) x → (globals : Globals) → GoesOn m m' related extra (Store operand x) globals f f' → Comes (frames_of m) (frames_of m') related (globals_with x (value_in f operand) globals) (past (frame_with x (value_in f operand) f) 0) (globals_with x (value_in f' (renamed number operand)) globals) (past (frame_with x (value_in f' (renamed number operand)) f') 0)
  store_answers number extra f f' agrees operand earlier (Local x) within globals next =
      let v = value_in f operand in
      let e = ap (λ w. slice_set f'.variables x w) (value_agrees number extra f f' agrees operand earlier) ∙ ap (λ l. slice_set l x v) agrees.variables ∙ set-append_left f.variables extra x v within in
      next 0 (slice_set f.variables x v) (slice_set f'.variables x (value_in f' (renamed number operand))) globals (refl, refl) e
  store_answers number extra f f' agrees operand earlier (Global y) within globals next =
      let v = value_in f operand in
      subst (λ w. Comes (frames_of m) (frames_of m') related (slice_set globals y v) (past f 0) (slice_set globals y w) (past f' 0)) (sym (value_agrees number extra f f' agrees operand earlier))
      (next 0 f.variables f'.variables (slice_set globals y v) (refl, refl) agrees.variables)

  -- the copy answers the instruction
  pub instr_answers : (number : ℕ → ℕ) (extra : List ℕ) (f f' : Frame) → Agrees number extra f f' → ((i : ℕ) → CalleesAlike i (slice_get m.functions i) (slice_get m'.functions i)) → (kind : Kind) → KindFits (length f.registers) (length f.variables) kind → (globals : Globals) → GoesOn m m' related extra kind globals f f' → AnswersHere (instr_act m kind globals f) (instr_act m' (renamed_kind number kind) globals f') globals f f'
  instr_answers number extra f f' agrees callees (Load x) fits globals next = load_answers number extra f f' agrees x fits globals next
  instr_answers number extra f f' agrees callees (Store operand x) fits globals next = store_answers number extra f f' agrees operand fits.0 x fits.1 globals next
  instr_answers number extra f f' agrees callees (Compute op operands) fits globals next =
      computed_answers (value_of op (map (value_in f) operands)) _ globals f f' (ap (value_of op) (values_agree number extra f f' agrees operands fits.0))
      (λ v is. next v f.variables f'.variables globals (is, refl, refl) agrees.variables)
  instr_answers number extra f f' agrees callees (Call i operands) fits globals next =
      subst (λ arguments. AnswersHere (instr_act m (Call i operands) globals f) (called (slice_get m'.functions i) i arguments f') globals f f') (sym (values_agree number extra f f' agrees operands fits))
      (called_answers i (slice_get m.functions i) (slice_get m'.functions i) (map (value_in f) operands) globals f f' (callees i) (λ v g same. next v f.variables f'.variables g (refl, same) agrees.variables))
