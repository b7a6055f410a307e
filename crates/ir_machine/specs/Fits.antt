-- Each number of a run fits its width.
use Rattle.std.specs.Prelude.{◌≡◌, ◌<◌, ◌^◌, ℕ, List, [], ◌∷◌, Option, Some, map, length, slice_get, slice_index, option_and_then}
use Rattle.mc_num.specs.Op.{bits, argument_widths, IsWellFormedOp}
use Rattle.mc_num.specs.Value.{HaveWidths}
use Rattle.mc_num.specs.declared.op.Width.{Width}
use Rattle.ir_types.specs.Program.{Program}
use Rattle.ir_types.specs.WellFormed.{scope, given_by, widths, item_limit}
use Rattle.ir_types.specs.declared.syntax.Kind.{Kind}
use Rattle.ir_types.specs.declared.syntax.Kind.TheVariants.{Load, Store, Compute, Call}
use Rattle.ir_types.specs.declared.syntax.Terminator.{Terminator}
use Rattle.ir_types.specs.declared.syntax.Terminator.TheVariants.{Return, Jump, Branch, Switch, Unreachable}
use Rattle.machines.specs.Acts.{Running}
use Rattle.ir_machine.specs.Step.{Globals, value_in}
use Rattle.ir_machine.specs.declared.frame.Frame.{Frame}

-- where a place has a width, the number there is below 2 to it
abbrev pub FitWidths : (ℕ → Option Width) → List ℕ → Type 0
FitWidths width_at numbers = (k : ℕ) (w : Width) → width_at k ≡ Some w → slice_index numbers k < 2 ^ bits w

-- the widths of the globals, and of a function's parameters, variables and value
abbrev pub global_width : Program → ℕ → Option Width
global_width m g = slice_get (map (λ x. x.width) m.globals) g

abbrev pub param_width : Program → ℕ → ℕ → Option Width
param_width m function p = option_and_then (λ f. slice_get (widths f.params) p) (slice_get m.functions function)

abbrev pub variable_width : Program → ℕ → ℕ → Option Width
variable_width m function v = option_and_then (λ f. slice_get (widths f.vars) v) (slice_get m.functions function)

abbrev pub return_width : Program → ℕ → Option Width
return_width m function = option_and_then (λ f. f.ret) (slice_get m.functions function)

-- the width of what an instruction of a block gives
abbrev pub result_width_at : Program → ℕ → ℕ → ℕ → Option Width
result_width_at m function block k =
    option_and_then (λ f. option_and_then (λ b. option_and_then (λ i. given_by (scope m f) i.kind) (slice_get b.instrs k)) (slice_get f.blocks block)) (slice_get m.functions function)

-- the width of what the instruction at the frame's place gives
abbrev pub width_here : Program → Frame → Option Width
width_here m frame = result_width_at m frame.function frame.block (length frame.registers)

pub record FrameFits (m : Program) (frame : Frame) : Type 0 where
  pub arguments : FitWidths (param_width m frame.function) frame.arguments
  pub variables : FitWidths (variable_width m frame.function) frame.variables
  pub registers : FitWidths (result_width_at m frame.function frame.block) frame.registers

-- the frames that wait for a function, the nearest first: each stands at a call that gives what the function gives
abbrev pub AreWaiting : Program → ℕ → List Frame → Type 0
AreWaiting m callee [] = Unit {0}
AreWaiting m callee (frame ∷ below) = (width_here m frame ≡ return_width m callee) × FrameFits m frame × AreWaiting m frame.function below

pub record RunningFits (m : Program) (running : Running Frame Globals) : Type 0 where
  pub globals : FitWidths (global_width m) running.globals
  pub top : FrameFits m running.top
  pub below : AreWaiting m running.top.function running.below

-- what the code asks of an instruction and of a terminator that it runs
abbrev pub CanRun : Frame → Kind → Type 0
CanRun frame (Load _) = Unit {0}
CanRun frame (Store _ _) = Unit {0}
CanRun frame (Compute op operands) = IsWellFormedOp op × HaveWidths (argument_widths op) (map (value_in frame) operands)
CanRun frame (Call _ _) = Unit {0}

abbrev pub CanEnd : Terminator → Type 0
CanEnd (Return _) = Unit {0}
CanEnd (Jump _) = Unit {0}
CanEnd (Branch _ _ _) = Unit {0}
CanEnd (Switch _ _ _ cases) = length cases < item_limit
CanEnd Unreachable = Unit {0}
