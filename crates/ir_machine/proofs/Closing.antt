-- What is true of each machine stays true.
use Rattle.std.proofs.Common.{◌≡◌, ℕ, ◌-◌, Bool, true, false, List, [], ◌∷◌, ◌++◌, Some, length, take, get_or, sym, ap, ◌∙◌, subst, arith, length-append}
use Rattle.std.specs.Prelude.{slice_get}
use Rattle.std.proofs.Math.Seq.{take-append_seam}
use Rattle.std.proofs.lemmas.Option.{get_or_from_slice_get}
use Rattle.mc_num.specs.declared.op.Width.TheVariants.{I32}
use Rattle.ir_types.specs.Program.{Program}
use Rattle.ir_types.specs.WellFormed.{IsWellFormed}
use Rattle.ir_types.specs.declared.syntax.Function.{Function}
use Rattle.machines.specs.declared.events.Event.{Event}
use Rattle.machines.specs.declared.events.Event.TheVariants.{Wants}
use Rattle.ir_machine.specs.declared.frame.Frame.{Frame}
use Rattle.ir_machine.specs.Step.{Globals, frames_of, first_frame, written}
use Rattle.ir_machine.specs.Fits.{RunningFits, width_here}
use Rattle.ir_machine.specs.Code.{MachineState, ComesTo, IsMachine, running_of, started}
use Rattle.ir_machine.proofs.Fitting.{turn_fits, wants_here, start_fits}

-- a machine that does not wait goes on
pub goes_on : (m : Program) (waits : Bool) (top top' : Frame) (below below' : List Frame) (globals globals' : Globals) (event : Event) → waits ≡ false → IsMachine m waits top below globals → ComesTo m ((frames_of m).act globals top) top below globals event top' below' globals' → IsMachine m false top' below' globals'
goes_on m true top top' below below' globals globals' event e is comes = absurd cc
goes_on m false top top' below below' globals globals' event e is comes = record {
  rules = is.rules;
  ready = tt;
  numbers = subst (RunningFits m) (ap (λ t. t.running) comes) (turn_fits m (running_of top below globals) is.rules is.numbers);
}

pub as_before : (m : Program) (waits : Bool) (top : Frame) (below : List Frame) (globals : Globals) → waits ≡ false → IsMachine m false top below globals → IsMachine m waits top below globals
as_before m waits top below globals e is = subst (λ b. IsMachine m b top below globals) (sym e) is

pub same_registers : (m : Program) (top : Frame) (below : List Frame) (globals : Globals) (registers : List ℕ) → registers ≡ top.registers → IsMachine m false top below globals → IsMachine m false (record top { registers = registers }) below globals
same_registers m top below globals registers e is = subst (λ r. IsMachine m false (record top { registers = r }) below globals) (sym e) is

-- a machine that begins to wait has room for the byte
pub waits_on : (m : Program) (waits : Bool) (top top' : Frame) (below below' : List Frame) (globals globals' : Globals) (event : Event) (registers : List ℕ) → waits ≡ false → event ≡ Wants → registers ≡ top'.registers ++ 0 ∷ [] → IsMachine m waits top below globals → ComesTo m ((frames_of m).act globals top) top below globals event top' below' globals' → IsMachine m true (record top' { registers = registers }) below' globals'
waits_on m true top top' below below' globals globals' event registers e wants pushed is comes = absurd cc
waits_on m false top top' below below' globals globals' event registers e wants pushed is comes =
    let on = goes_on m false top top' below below' globals globals' event e is comes in
    let comes' = subst (λ v. ComesTo m ((frames_of m).act globals top) top below globals v top' below' globals') wants comes in
    let here = wants_here m (running_of top below globals) top' _ globals' is.rules is.numbers comes' in
    let len = ap length pushed ∙ length-append top'.registers (0 ∷ []) in
    let n : length registers - 1 ≡ length top'.registers = omega (arith, len) in
    let front : take (length registers - 1) registers ≡ top'.registers = ap (λ k. take k registers) n ∙ ap (take (length top'.registers)) pushed ∙ take-append_seam top'.registers (0 ∷ []) in
    record {
      rules = is.rules;
      ready = (omega (arith, len), subst (λ r. width_here m (record top' { registers = r }) ≡ Some I32) (sym front) here);
      numbers = subst (λ r. RunningFits m (running_of (record top' { registers = r }) below' globals')) (sym front) on.numbers;
    }

-- ---- the start

abbrev pub state_at : Program → Frame → List Frame → Globals → MachineState
state_at m top below globals = record { program = m; running = running_of top below globals; waits = false; ended = false }

module _ (m : Program) (main : ℕ) (f function : Function) (arguments : List ℕ) (top : Frame) (below : List Frame) (globals : Globals) where
  pub starts : slice_get m.functions main ≡ Some f → function ≡ get_or m.functions main function → arguments ≡ [] → top ≡ first_frame main function arguments → below ≡ [] → globals ≡ written m → state_at m top below globals ≡ started m main f
  starts there at no_arguments top_is below_is globals_are =
      let same : function ≡ f = at ∙ get_or_from_slice_get m.functions main f function there in
      let first = top_is ∙ ap (first_frame main function) no_arguments ∙ ap (λ g. first_frame main g []) same in
      ap (λ t. state_at m t below globals) first ∙ ap (λ b. state_at m (first_frame main f []) b globals) below_is ∙ ap (state_at m (first_frame main f []) []) globals_are

  pub is_machine : IsWellFormed m → state_at m top below globals ≡ started m main f → IsMachine m false top below globals
  is_machine rules e = record {
    rules = rules;
    ready = tt;
    numbers = subst (RunningFits m) (sym (ap (λ s. s.running) e)) (start_fits m main f rules);
  }
