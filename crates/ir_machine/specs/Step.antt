-- What a frame of a module does next.
use Rattle.std.specs.Prelude.{ℕ, zero, suc, ◌%◌, ◌^◌, ◌==◌, if◌then◌else◌, Bool, true, false, List, [], ◌∷◌, ◌++◌, Option, Some, None, Result, Ok, Err, length, map, replicate, slice_get, slice_index, slice_set, codes}
use Rattle.std.specs.Option.{unwrap_or}
use Rattle.std.specs.Str.{bytes_eq}
use Rattle.mc_num.specs.Value.{value_of}
use Rattle.mc_num.specs.declared.op.Trap.{Trap}
use Rattle.mc_num.specs.declared.op.Trap.TheVariants.{Unreachable}
use Rattle.ir_types.specs.Program.{Program}
use Rattle.ir_types.specs.declared.syntax.Operand.{Operand}
use Rattle.ir_types.specs.declared.syntax.Operand.TheVariants.{Const, Param, Reg}
use Rattle.ir_types.specs.declared.syntax.Variable.{Variable}
use Rattle.ir_types.specs.declared.syntax.Variable.TheVariants.{Local, Global}
use Rattle.ir_types.specs.declared.syntax.Kind.{Kind}
use Rattle.ir_types.specs.declared.syntax.Kind.TheVariants.{Load, Store, Compute, Call}
use Rattle.ir_types.specs.declared.syntax.Instr.{Instr}
use Rattle.ir_types.specs.declared.syntax.Terminator.{Terminator}
use Rattle.ir_types.specs.declared.syntax.Terminator.TheVariants.{Return, Jump, Branch, Switch, Unreachable as UnreachableEnd}
use Rattle.ir_types.specs.declared.syntax.Block.{Block}
use Rattle.ir_types.specs.declared.syntax.Function.{Function}
use Rattle.machines.specs.Acts.{Act, Goes, Calls, Reads, Writes, Returns, Traps, Frames}
use Rattle.ir_machine.specs.declared.frame.Frame.{Frame}

-- the values of the globals
abbrev pub Globals : Type 0
Globals = List ℕ

-- ---- values

abbrev pub value_in : Frame → Operand → ℕ
value_in frame (Const value) = value
value_in frame (Param p) = slice_index frame.arguments p
value_in frame (Reg r) = slice_index frame.registers r

abbrev pub variable_in : Globals → Frame → Variable → ℕ
variable_in globals frame (Local v) = slice_index frame.variables v
variable_in globals frame (Global g) = slice_index globals g

-- the frame, and the globals, after a store
abbrev pub frame_with : Variable → ℕ → Frame → Frame
frame_with (Local v) value frame = record frame { variables = slice_set frame.variables v value }
frame_with (Global g) value frame = frame

abbrev pub globals_with : Variable → ℕ → Globals → Globals
globals_with (Local v) value globals = globals
globals_with (Global g) value globals = slice_set globals g value

-- the frame past an instruction that gave this value, or 0 where it gives none
abbrev pub past : Frame → ℕ → Frame
past frame value = record frame { registers = frame.registers ++ value ∷ [] }

-- ---- instructions

abbrev pub computed : Result ℕ Trap → Globals → Frame → Act Frame Globals
computed (Ok value) globals frame = Goes None (past frame value) globals
computed (Err trap) globals frame = Traps trap

-- a function's first frame: at its entry block, with every variable 0
abbrev pub first_frame : ℕ → Function → List ℕ → Frame
first_frame index function arguments = record {
  function = index;
  block = 0;
  arguments = arguments;
  registers = [];
  variables = replicate (length function.vars) 0;
}

-- of the two external functions putchar shows its argument modulo 256 and gives that, and getchar reads
abbrev pub is_putchar : Function → Bool
is_putchar function = bytes_eq function.name (codes "putchar")

abbrev pub external_act : Bool → List ℕ → Frame → Act Frame Globals
external_act true arguments frame = let byte = slice_index arguments 0 % 2 ^ 8 in Writes byte (past frame byte)
external_act false arguments frame = Reads

-- a function without blocks is external
abbrev pub entered : ℕ → Function → List Block → List ℕ → Frame → Act Frame Globals
entered index function [] arguments frame = external_act (is_putchar function) arguments frame
entered index function (block ∷ blocks) arguments frame = Calls index (first_frame index function arguments)

abbrev pub called : Option Function → ℕ → List ℕ → Frame → Act Frame Globals
called None index arguments frame = Traps Unreachable
called (Some function) index arguments frame = entered index function function.blocks arguments frame

abbrev pub instr_act : Program → Kind → Globals → Frame → Act Frame Globals
instr_act m (Load v) globals frame = Goes None (past frame (variable_in globals frame v)) globals
instr_act m (Store operand v) globals frame =
    let value = value_in frame operand in Goes None (past (frame_with v value frame) 0) (globals_with v value globals)
instr_act m (Compute op operands) globals frame = computed (value_of op (map (value_in frame) operands)) globals frame
instr_act m (Call callee operands) globals frame =
    called (slice_get m.functions callee) callee (map (value_in frame) operands) frame

-- ---- terminators

-- through a slot to the head of a block
abbrev pub takes : ℕ → ℕ → Globals → Frame → Act Frame Globals
takes slot target globals frame =
    Goes (Some (record { function = frame.function; block = frame.block; slot = slot })) (record frame { block = target; registers = [] }) globals

-- slot 0 where the condition holds, and slot 1 where it is 0
abbrev pub branched : ℕ → ℕ → ℕ → Globals → Frame → Act Frame Globals
branched zero then_block else_block globals frame = takes 1 else_block globals frame
branched (suc n) then_block else_block globals frame = takes 0 then_block globals frame

-- through the slot of the first case with the value, from this slot on, or else through slot 0
abbrev pub switched : ℕ → ℕ → ℕ → List (ℕ × ℕ) → Globals → Frame → Act Frame Globals
switched value slot other [] globals frame = takes 0 other globals frame
switched value slot other (case ∷ cases) globals frame =
    if case.0 == value then takes slot case.1 globals frame else switched value (suc slot) other cases globals frame

abbrev pub result_in : Frame → Option Operand → Option ℕ
result_in frame None = None
result_in frame (Some operand) = Some (value_in frame operand)

abbrev pub term_act : Terminator → Globals → Frame → Act Frame Globals
term_act (Return operand) globals frame = Returns (result_in frame operand)
term_act (Jump target) globals frame = takes 0 target globals frame
term_act (Branch condition then_block else_block) globals frame = branched (value_in frame condition) then_block else_block globals frame
term_act (Switch width operand other cases) globals frame = switched (value_in frame operand) 1 other cases globals frame
term_act UnreachableEnd globals frame = Traps Unreachable

-- ---- frames

-- the instruction at the frame's place, or else the block's terminator
abbrev pub block_act : Program → Option Instr → Terminator → Globals → Frame → Act Frame Globals
block_act m (Some instr) term globals frame = instr_act m instr.kind globals frame
block_act m None term globals frame = term_act term globals frame

-- a frame stands in a block; elsewhere it would trap
abbrev pub act_in : Program → Option Block → Globals → Frame → Act Frame Globals
act_in m None globals frame = Traps Unreachable
act_in m (Some block) globals frame = block_act m (slice_get block.instrs (length frame.registers)) block.term globals frame

abbrev pub blocks_of : Option Function → List Block
blocks_of None = []
blocks_of (Some function) = function.blocks

abbrev pub block_at : Program → ℕ → ℕ → Option Block
block_at m function block = slice_get (blocks_of (slice_get m.functions function)) block

-- how the frames of a module run. A call without a value gives a register of 0
abbrev pub frames_of : Program → Frames Frame Globals
frames_of m = record {
  act = λ globals frame. act_in m (block_at m frame.function frame.block) globals frame;
  give = λ frame value. past frame (unwrap_or value 0);
}

-- the written values of the globals
abbrev pub written : Program → Globals
written m = map (λ g. g.value) m.globals
