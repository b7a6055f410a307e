-- What an act says of where a frame stands: the slot that it takes leads to the block that it goes to, and so on.
use Rattle.std.proofs.Common.{◌≡◌, ℕ, zero, suc, ◌+◌, List, [], ◌∷◌, length, map, Option, Some, None, Result, Ok, Err, Bool, true, false, refl, ap, ◌∙◌, subst, arith}
use Rattle.std.specs.Prelude.{slice_get, ◌==◌, if◌then◌else◌}
use Rattle.mc_num.specs.Value.{value_of}
use Rattle.mc_num.specs.declared.op.Trap.{Trap}
use Rattle.ir_types.specs.Program.{Program}
use Rattle.ir_types.specs.WellFormed.{targets}
use Rattle.ir_types.specs.declared.syntax.Operand.{Operand}
use Rattle.ir_types.specs.declared.syntax.Variable.{Variable}
use Rattle.ir_types.specs.declared.syntax.Variable.TheVariants.{Local, Global}
use Rattle.ir_types.specs.declared.syntax.Kind.{Kind}
use Rattle.ir_types.specs.declared.syntax.Kind.TheVariants.{Load, Store, Compute, Call}
use Rattle.ir_types.specs.declared.syntax.Instr.{Instr}
use Rattle.ir_types.specs.declared.syntax.Terminator.{Terminator}
use Rattle.ir_types.specs.declared.syntax.Terminator.TheVariants.{Return, Jump, Branch, Switch, Unreachable}
use Rattle.ir_types.specs.declared.syntax.Block.{Block}
use Rattle.ir_types.specs.declared.syntax.Function.{Function}
use Rattle.machines.specs.Acts.{Act, Goes, Calls, Reads, Writes, Returns, Traps, Slot}
use Rattle.ir_machine.specs.Same.{is_defined}
use Rattle.ir_machine.specs.Step.{Globals, value_in, frame_with, past, computed, is_putchar, external_act, entered, called, instr_act, takes, branched, switched, term_act, block_act, act_in, block_at, frames_of}
use Rattle.ir_machine.specs.declared.frame.Frame.{Frame}

-- the slot is one of the block where the frame stood, and leads to the head of the block where it stands then
pub record IsTaking (m : Program) (f : Frame) (slot : Slot) (next : Frame) : Type 0 where
  pub block : Block
  pub here : block_at m f.function f.block ≡ Some block
  pub leads : slice_get (targets block.term) slot.slot ≡ Some next.block
  pub function_is : slot.function ≡ f.function
  pub block_is : slot.block ≡ f.block
  pub stays : next.function ≡ f.function
  pub head : next.registers ≡ []

-- the first frame of a defined function
pub record IsEntering (m : Program) (index : ℕ) (next : Frame) : Type 0 where
  pub function : Function
  pub there : slice_get m.functions index ≡ Some function
  pub defined : is_defined function.blocks ≡ true
  pub function_is : next.function ≡ index
  pub entry : next.block ≡ 0
  pub head : next.registers ≡ []

-- the frame stands in a block that ends by a return
pub record IsReturning (m : Program) (f : Frame) : Type 0 where
  pub block : Block
  pub here : block_at m f.function f.block ≡ Some block
  pub value : Option Operand
  pub ends : block.term ≡ Return value

abbrev pub StaysIn : Frame → Frame → Type 0
StaysIn f next = (next.function ≡ f.function) × (next.block ≡ f.block)

abbrev pub Does : Program → Frame → Act Frame Globals → Type 0
Does m f (Goes None next globals) = StaysIn f next
Does m f (Goes (Some slot) next globals) = IsTaking m f slot next
Does m f (Calls index next) = IsEntering m index next
Does m f Reads = Unit {0}
Does m f (Writes byte next) = StaysIn f next
Does m f (Returns value) = IsReturning m f
Does m f (Traps trap) = Unit {0}

module _ (m : Program) (f : Frame) (block : Block) (here : block_at m f.function f.block ≡ Some block) (globals : Globals) where
  takes_does : (slot target : ℕ) → slice_get (targets block.term) slot ≡ Some target → Does m f (takes slot target globals f)
  takes_does slot target leads = record {
    block = block;
    here = here;
    leads = leads;
    function_is = refl;
    block_is = refl;
    stays = refl;
    head = refl;
  }

  either_does : (q : Bool) (a b : Act Frame Globals) → Does m f a → Does m f b → Does m f (if q then a else b)
  either_does true a b x y = x
  either_does false a b x y = y

  switched_does : (value slot other : ℕ) (cases : List (ℕ × ℕ)) → slice_get (targets block.term) 0 ≡ Some other → ((j : ℕ) → slice_get (targets block.term) (slot + j) ≡ slice_get (map (λ c. c.1) cases) j) → Does m f (switched value slot other cases globals f)
  switched_does value slot other [] first rest = takes_does 0 other first
  switched_does value slot other (case ∷ cases) first rest =
      let e : slot ≡ slot + 0 = omega arith in
      either_does (case.0 == value) (takes slot case.1 globals f) (switched value (suc slot) other cases globals f)
      (takes_does slot case.1 (ap (slice_get (targets block.term)) e ∙ rest 0))
      (switched_does value (suc slot) other cases first (λ j. let e : suc slot + j ≡ slot + suc j = omega arith in ap (slice_get (targets block.term)) e ∙ rest (suc j)))

  branched_does : (n a b : ℕ) → slice_get (targets block.term) 0 ≡ Some a → slice_get (targets block.term) 1 ≡ Some b → Does m f (branched n a b globals f)
  branched_does zero a b x y = takes_does 1 b y
  branched_does (suc n) a b x y = takes_does 0 a x

  term_does : (term : Terminator) → block.term ≡ term → Does m f (term_act term globals f)
  term_does (Return value) e = record { block = block; here = here; value = value; ends = e }
  term_does (Jump target) e = takes_does 0 target (ap (λ t. slice_get (targets t) 0) e)
  term_does (Branch c a b) e =
      branched_does (value_in f c) a b (ap (λ t. slice_get (targets t) 0) e) (ap (λ t. slice_get (targets t) 1) e)
  term_does (Switch w o other cases) e =
      switched_does (value_in f o) 1 other cases (ap (λ t. slice_get (targets t) 0) e)
      (λ j. let n : 1 + j ≡ suc j = omega arith in ap (λ t. slice_get (targets t) (1 + j)) e ∙ ap (slice_get (other ∷ map (λ c. c.1) cases)) n)
  term_does Unreachable e = tt

  computed_does : (r : Result ℕ Trap) → Does m f (computed r globals f)
  computed_does (Ok value) = (refl, refl)
  computed_does (Err trap) = tt

  stored_does : (v : Variable) (value : ℕ) → StaysIn f (past (frame_with v value f) 0)
  stored_does (Local v) value = (refl, refl)
  stored_does (Global g) value = (refl, refl)

  external_does : (q : Bool) (arguments : List ℕ) → Does m f (external_act q arguments f)
  external_does true arguments = (refl, refl)
  external_does false arguments = tt

  entered_does : (index : ℕ) (g : Function) (arguments : List ℕ) → slice_get m.functions index ≡ Some g → (blocks : List Block) → g.blocks ≡ blocks → Does m f (entered index g blocks arguments f)
  entered_does index g arguments there [] e = external_does (is_putchar g) arguments
  entered_does index g arguments there (b ∷ bs) e = record {
    function = g;
    there = there;
    defined = ap is_defined e;
    function_is = refl;
    entry = refl;
    head = refl;
  }

  called_does : (index : ℕ) (arguments : List ℕ) (found : Option Function) → slice_get m.functions index ≡ found → Does m f (called found index arguments f)
  called_does index arguments None e = tt
  called_does index arguments (Some g) e = entered_does index g arguments e g.blocks refl

  instr_does : (kind : Kind) → Does m f (instr_act m kind globals f)
  instr_does (Load v) = (refl, refl)
  instr_does (Store o v) = stored_does v (value_in f o)
  instr_does (Compute op operands) = computed_does (value_of op (map (value_in f) operands))
  instr_does (Call index operands) = called_does index (map (value_in f) operands) (slice_get m.functions index) refl

  block_does : (found : Option Instr) → Does m f (block_act m found block.term globals f)
  block_does None = term_does block.term refl
  block_does (Some instr) = instr_does instr.kind

does_in : (m : Program) (f : Frame) (globals : Globals) (found : Option Block) → block_at m f.function f.block ≡ found → Does m f (act_in m found globals f)
does_in m f globals None here = tt
does_in m f globals (Some block) here = block_does m f block here globals (slice_get block.instrs (length f.registers))

-- what a frame of a module does
pub does : (m : Program) (globals : Globals) (f : Frame) → Does m f ((frames_of m).act globals f)
does m globals f = does_in m f globals (block_at m f.function f.block) refl

-- a frame that gets the value of a call stays in its block
pub given_stays : (m : Program) (f : Frame) (value : Option ℕ) → StaysIn f ((frames_of m).give f value)
given_stays m f value = (refl, refl)

-- after an act that takes a slot
pub taken : (m : Program) (globals globals' : Globals) (f next : Frame) (slot : Slot) → (frames_of m).act globals f ≡ Goes (Some slot) next globals' → IsTaking m f slot next
taken m globals globals' f next slot e = subst (Does m f) e (does m globals f)
