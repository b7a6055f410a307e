-- How the frames of a module move from block to block.
use Rattle.std.proofs.Common.{◌≡◌, ℕ, zero, suc, ◌<◌, Bool, true, false, List, [], ◌∷◌, ◌++◌, length, map, Option, Some, None, Result, Ok, Err, refl, sym, ap, ◌∙◌, subst, arith, append_assoc, length-append}
use Rattle.std.specs.Prelude.{slice_get, slice_index, ◌==◌, if◌then◌else◌}
use Rattle.std.proofs.Math.Seq.{get_or-append_seam}
use Rattle.mc_num.specs.declared.op.Trap.{Trap}
use Rattle.ir_types.specs.Program.{Program}
use Rattle.ir_types.specs.declared.syntax.Variable.TheVariants.{Local, Global}
use Rattle.ir_types.specs.declared.syntax.Kind.{Kind}
use Rattle.ir_types.specs.declared.syntax.Kind.TheVariants.{Load, Store, Compute, Call}
use Rattle.ir_types.specs.declared.syntax.Instr.{Instr}
use Rattle.ir_types.specs.declared.syntax.Terminator.{Terminator}
use Rattle.ir_types.specs.declared.syntax.Terminator.TheVariants.{Return, Jump, Branch, Switch, Unreachable}
use Rattle.ir_types.specs.declared.syntax.Block.{Block}
use Rattle.ir_types.specs.declared.syntax.Function.{Function}
use Rattle.machines.specs.Acts.{Act, Slot, Goes, Calls, Reads, Writes, Returns, Traps}
use Rattle.ir_machine.specs.declared.frame.Frame.{Frame}
use Rattle.ir_machine.specs.Same.{is_defined}
use Rattle.ir_machine.specs.Step.{Globals, frames_of, block_at, act_in, block_act, instr_act, term_act, called, entered, external_act, computed, takes, branched, switched, is_putchar}
use Rattle.flow_graph.specs.Slots.{slots_of}
use Rattle.profile.specs.Counts.{is_return}
use Rattle.run_counts.proofs.Conserved.{Place, place, Stands}

abbrev pub at : Frame → Place
at frame = place frame.function frame.block

abbrev pub targets_at : Option Block → List ℕ
targets_at None = []
targets_at (Some block) = slots_of block.term

-- the block that a slot of a module leads to
abbrev pub target_in : Program → ℕ → ℕ → ℕ → ℕ
target_in m function block slot = slice_index (targets_at (block_at m function block)) slot

abbrev pub IsSlotIn : Program → Slot → Type 0
IsSlotIn m slot = (block : Block) × (block_at m slot.function slot.block ≡ Some block) × (slot.slot < length (slots_of block.term))

abbrev pub IsDefinedIn : Program → ℕ → Type 0
IsDefinedIn m i = (f : Function) × (slice_get m.functions i ≡ Some f) × (is_defined f.blocks ≡ true)

abbrev pub IsEndIn : Program → Place → Type 0
IsEndIn m p = (block : Block) × (block_at m p.function p.block ≡ Some block) × (is_return block.term ≡ true)

-- what an act of a frame says of places
abbrev IsMove : Program → Frame → Act Frame Globals → Type 0
IsMove m f (Goes None f' g') = at f' ≡ at f
IsMove m f (Goes (Some slot) f' g') = (at f ≡ place slot.function slot.block) × (at f' ≡ place slot.function (target_in m slot.function slot.block slot.slot)) × IsSlotIn m slot
IsMove m f (Calls i f') = (at f' ≡ place i 0) × IsDefinedIn m i
IsMove m f Reads = Unit {0}
IsMove m f (Writes byte f') = at f' ≡ at f
IsMove m f (Returns value) = IsEndIn m (at f)
IsMove m f (Traps trap) = Unit {0}

module _ (m : Program) (frame : Frame) (globals : Globals) where
  computed_moves : (r : Result ℕ Trap) → IsMove m frame (computed r globals frame)
  computed_moves (Ok value) = refl
  computed_moves (Err trap) = tt

  external_moves : (b : Bool) (arguments : List ℕ) → IsMove m frame (external_act b arguments frame)
  external_moves true arguments = refl
  external_moves false arguments = tt

  entered_moves : (i : ℕ) (f : Function) (arguments : List ℕ) → slice_get m.functions i ≡ Some f → (blocks : List Block) → f.blocks ≡ blocks → IsMove m frame (entered i f blocks arguments frame)
  entered_moves i f arguments there [] e = external_moves (is_putchar f) arguments
  entered_moves i f arguments there (b ∷ bs) e = (refl, (f, there, ap is_defined e))

  called_moves : (i : ℕ) (arguments : List ℕ) (f : Option Function) → slice_get m.functions i ≡ f → IsMove m frame (called f i arguments frame)
  called_moves i arguments None there = tt
  called_moves i arguments (Some f) there = entered_moves i f arguments there f.blocks refl

  instr_moves : (kind : Kind) → IsMove m frame (instr_act m kind globals frame)
  instr_moves (Load v) = refl
  instr_moves (Store operand (Local v)) = refl
  instr_moves (Store operand (Global v)) = refl
  instr_moves (Compute op operands) = computed_moves _
  instr_moves (Call callee operands) = called_moves callee _ (slice_get m.functions callee) refl

  module _ (block : Block) (here : block_at m frame.function frame.block ≡ Some block) where
    takes_moves : (slot target : ℕ) → slot < length (slots_of block.term) → slice_index (slots_of block.term) slot ≡ target → IsMove m frame (takes slot target globals frame)
    takes_moves slot target lt e =
        let t : target_in m frame.function frame.block slot ≡ target = ap (λ b. slice_index (targets_at b) slot) here ∙ e in
        (refl, ap (place frame.function) (sym t), (block, here, lt))

    -- the slots past the default, from this one on
    switched_moves : (value other : ℕ) → (0 < length (slots_of block.term)) → slice_index (slots_of block.term) 0 ≡ other → (slot : ℕ) (front : List ℕ) (cases : List (ℕ × ℕ)) → length front ≡ slot → slots_of block.term ≡ front ++ map (λ c. c.1) cases → IsMove m frame (switched value slot other cases globals frame)
    switched_moves value other first at_first slot front [] len e = takes_moves 0 other first at_first
    switched_moves value other first at_first slot front (case ∷ cases) len e =
        let rest = map (λ c. c.1) cases in
        let e' : slots_of block.term ≡ (front ++ case.1 ∷ []) ++ rest = e ∙ sym (append_assoc front (case.1 ∷ []) rest) in
        let n : length (front ++ case.1 ∷ []) ≡ suc slot = omega (arith, length-append front (case.1 ∷ []), len) in
        let lt : slot < length (slots_of block.term) = omega (arith, ap length e, length-append front (case.1 ∷ rest), len) in
        let at : slice_index (slots_of block.term) slot ≡ case.1 = ap (λ l. slice_index l slot) e ∙ ap (λ k. slice_index (front ++ case.1 ∷ rest) k) (sym len) ∙ get_or-append_seam front case.1 rest 0 in
        elim (case.0 == value) as (λ b. IsMove m frame (if b then takes slot case.1 globals frame else switched value (suc slot) other cases globals frame)) [
          | true ↦ takes_moves slot case.1 lt at
          | false ↦ switched_moves value other first at_first (suc slot) (front ++ case.1 ∷ []) cases n e'
        ]

    branched_moves : (n one other : ℕ) → slots_of block.term ≡ one ∷ other ∷ [] → IsMove m frame (branched n one other globals frame)
    branched_moves zero one other e = takes_moves 1 other (omega (arith, ap length e)) (ap (λ l. slice_index l 1) e)
    branched_moves (suc n) one other e = takes_moves 0 one (omega (arith, ap length e)) (ap (λ l. slice_index l 0) e)

    term_moves : (term : Terminator) → block.term ≡ term → IsMove m frame (term_act term globals frame)
    term_moves (Return operand) e = (block, here, ap is_return e)
    term_moves (Jump target) e = takes_moves 0 target (omega (arith, ap (λ t. length (slots_of t)) e)) (ap (λ t. slice_index (slots_of t) 0) e)
    term_moves (Branch condition one other) e = branched_moves _ one other (ap slots_of e)
    term_moves (Switch width operand other cases) e =
        switched_moves _ other (omega (arith, ap (λ t. length (slots_of t)) e)) (ap (λ t. slice_index (slots_of t) 0) e) 1 (other ∷ []) cases refl (ap slots_of e)
    term_moves Unreachable e = tt

    block_moves : (instr : Option Instr) → IsMove m frame (block_act m instr block.term globals frame)
    block_moves (Some instr) = instr_moves instr.kind
    block_moves None = term_moves block.term refl

  moves_in : (block : Option Block) → block_at m frame.function frame.block ≡ block → IsMove m frame (act_in m block globals frame)
  moves_in None e = tt
  moves_in (Some block) e = block_moves block e (slice_get block.instrs (length frame.registers))

  act_moves : IsMove m frame ((frames_of m).act globals frame)
  act_moves = moves_in (block_at m frame.function frame.block) refl

pub module_stands : (m : Program) → Stands (frames_of m) at (target_in m) (IsSlotIn m) (IsDefinedIn m) (IsEndIn m)
module_stands m = record {
  goes = λ g f f' g' e. subst (IsMove m f) e (act_moves m f g);
  takes = λ g f slot f' g' e. subst (IsMove m f) e (act_moves m f g);
  calls = λ g f i f' e. subst (IsMove m f) e (act_moves m f g);
  writes = λ g f byte f' e. subst (IsMove m f) e (act_moves m f g);
  returns = λ g f value e. subst (IsMove m f) e (act_moves m f g);
  gives = λ f value. refl;
}
