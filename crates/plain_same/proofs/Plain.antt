-- A module whose names are written as they are spelled runs as it did.
use Rattle.std.proofs.Common.{◌≡◌, ℕ, Bool, List, [], ◌∷◌, length, map, replicate, Option, Some, None, refl, sym, ap, ◌∙◌, subst}
use Rattle.std.specs.Prelude.{slice_get, option_map}
use Rattle.std.proofs.lemmas.List.{length-map}
use Rattle.std.proofs.lemmas.Option.{slice_get-map}
use Rattle.mc_num.specs.declared.op.Width.{Width}
use Rattle.ir_types.specs.Names.{spelled}
use Rattle.ir_types.specs.Program.{Program}
use Rattle.ir_types.specs.Same.{plain_instr, plain_block, plain_names, plain_function, plain}
use Rattle.ir_types.specs.WellFormed.{widths}
use Rattle.ir_types.specs.declared.name.Name.{Name}
use Rattle.ir_types.specs.declared.syntax.Kind.{Kind}
use Rattle.ir_types.specs.declared.syntax.Kind.TheVariants.{Load, Store, Compute, Call}
use Rattle.ir_types.specs.declared.syntax.Instr.{Instr}
use Rattle.ir_types.specs.declared.syntax.Terminator.{Terminator}
use Rattle.ir_types.specs.declared.syntax.Block.{Block}
use Rattle.ir_types.specs.declared.syntax.Function.{Function}
use Rattle.machines.specs.Acts.{Calls}
use Rattle.machines.specs.Meaning.{State, state, machine_of}
use Rattle.machines.specs.Runs.{RunAlike}
use Rattle.ir_machine.specs.declared.frame.Frame.{Frame}
use Rattle.ir_machine.specs.Step.{Globals, value_in, first_frame, entered, called, instr_act, block_act, act_in, blocks_of, block_at, frames_of, written}
use Rattle.ir_machine.specs.Same.{Same, Outline, outline, is_defined, start}

-- ---- functions

length_names : (xs : List (Width × Name)) → length (plain_names xs) ≡ length xs
length_names xs = length-map xs (λ x. (x.0, spelled x.1))

same_widths : (xs : List (Width × Name)) → widths (plain_names xs) ≡ widths xs
same_widths [] = refl
same_widths (x ∷ xs) = ap (λ ws. x.0 ∷ ws) (same_widths xs)

same_defined : (blocks : List Block) → is_defined (map plain_block blocks) ≡ is_defined blocks
same_defined [] = refl
same_defined (block ∷ blocks) = refl

abbrev outline_of : List ℕ → Option Width → List Width → Bool → Outline
outline_of name ret params defined = record { name = name; types = record { ret = ret; params = params }; defined = defined }

same_outline : (f : Function) → outline (plain_function f) ≡ outline f
same_outline f =
    ap (λ params. outline_of f.name f.ret params (is_defined (map plain_block f.blocks))) (same_widths f.params)
    ∙ ap (outline_of f.name f.ret (widths f.params)) (same_defined f.blocks)

same_outlines : (fs : List Function) → map outline (map plain_function fs) ≡ map outline fs
same_outlines [] = refl
same_outlines (f ∷ fs) =
    ap (λ o. o ∷ map outline (map plain_function fs)) (same_outline f) ∙ ap (λ l. outline f ∷ l) (same_outlines fs)

abbrev first_frame_of : ℕ → List ℕ → ℕ → Frame
first_frame_of index arguments vars = record { function = index; block = 0; arguments = arguments; registers = []; variables = replicate vars 0 }

same_first : (index : ℕ) (f : Function) (arguments : List ℕ) → first_frame index (plain_function f) arguments ≡ first_frame index f arguments
same_first index f arguments = ap (first_frame_of index arguments) (length_names f.vars)

-- ---- what a frame does next

same_entered : (index : ℕ) (f : Function) (blocks : List Block) (arguments : List ℕ) (frame : Frame) → entered index (plain_function f) (map plain_block blocks) arguments frame ≡ entered index f blocks arguments frame
same_entered index f [] arguments frame = refl
same_entered index f (block ∷ blocks) arguments frame = ap (Calls index) (same_first index f arguments)

same_called : (o : Option Function) (index : ℕ) (arguments : List ℕ) (frame : Frame) → called (option_map plain_function o) index arguments frame ≡ called o index arguments frame
same_called None index arguments frame = refl
same_called (Some f) index arguments frame = same_entered index f f.blocks arguments frame

same_blocks : (o : Option Function) → blocks_of (option_map plain_function o) ≡ map plain_block (blocks_of o)
same_blocks None = refl
same_blocks (Some f) = refl

module _ (m : Program) where
  same_instr : (kind : Kind) (globals : Globals) (frame : Frame) → instr_act (plain m) kind globals frame ≡ instr_act m kind globals frame
  same_instr (Load v) globals frame = refl
  same_instr (Store operand v) globals frame = refl
  same_instr (Compute op operands) globals frame = refl
  same_instr (Call callee operands) globals frame =
      ap (λ o. called o callee (map (value_in frame) operands) frame) (slice_get-map plain_function m.functions callee)
      ∙ same_called (slice_get m.functions callee) callee (map (value_in frame) operands) frame

  same_place : (o : Option Instr) (term : Terminator) (globals : Globals) (frame : Frame) → block_act (plain m) (option_map plain_instr o) term globals frame ≡ block_act m o term globals frame
  same_place None term globals frame = refl
  same_place (Some instr) term globals frame = same_instr instr.kind globals frame

  same_block_act : (o : Option Block) (globals : Globals) (frame : Frame) → act_in (plain m) (option_map plain_block o) globals frame ≡ act_in m o globals frame
  same_block_act None globals frame = refl
  same_block_act (Some block) globals frame =
      ap (λ o. block_act (plain m) o block.term globals frame) (slice_get-map plain_instr block.instrs (length frame.registers))
      ∙ same_place (slice_get block.instrs (length frame.registers)) block.term globals frame

  same_block : (function block : ℕ) → block_at (plain m) function block ≡ option_map plain_block (block_at m function block)
  same_block function block =
      ap (λ o. slice_get (blocks_of o) block) (slice_get-map plain_function m.functions function)
      ∙ ap (λ blocks. slice_get blocks block) (same_blocks (slice_get m.functions function))
      ∙ slice_get-map plain_block (blocks_of (slice_get m.functions function)) block

  same_act : (globals : Globals) (frame : Frame) → (frames_of (plain m)).act globals frame ≡ (frames_of m).act globals frame
  same_act globals frame =
      ap (λ o. act_in (plain m) o globals frame) (same_block frame.function frame.block)
      ∙ same_block_act (block_at m frame.function frame.block) globals frame

  same_frames : frames_of (plain m) ≡ frames_of m
  same_frames = λ i. record { act = λ globals frame. same_act globals frame i; give = (frames_of m).give }

-- ---- the runs

-- the run that begins with this frame
abbrev begun : Program → Frame → List ℕ → State Frame Globals
begun m frame input = state (record { top = frame; below = []; globals = written m }) input []

-- a function of the plain module is that of the module
plain_there : (o : Option Function) (g : Function) → option_map plain_function o ≡ Some g → (f : Function) × (o ≡ Some f) × (plain_function f ≡ g)
plain_there None g e = absurd cc
plain_there (Some f) g e = (f, refl, cc)

pub plain_does_the_same : (m m_new : Program) → Same m m_new → Same m (plain m_new)
plain_does_the_same m m_new same = record {
  globals = same.globals;
  functions = same.functions ∙ sym (same_outlines m_new.functions);
  runs = λ index f g arguments input there there' defined fit bytes.
      let p = plain_there (slice_get m_new.functions index) g (sym (slice_get-map plain_function m_new.functions index) ∙ there') in
      let first : first_frame index p.0 arguments ≡ first_frame index g arguments = sym (same_first index p.0 arguments) ∙ ap (λ h. first_frame index h arguments) p.2 in
      let alike = same.runs index f p.0 arguments input there p.1 defined fit bytes in
      subst (λ frames. RunAlike (machine_of (frames_of m)) (machine_of frames) (start m index f arguments input) (start (plain m_new) index g arguments input)) (sym (same_frames m_new))
      (subst (λ frame. RunAlike (machine_of (frames_of m)) (machine_of (frames_of m_new)) (start m index f arguments input) (begun m_new frame input)) first alike);
}
