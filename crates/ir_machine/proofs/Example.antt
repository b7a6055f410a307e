-- Runs of modules by numbers: what they show, how they end, and what they count.
use Rattle.std.proofs.Common.{◌≡◌, ℕ, List, [], ◌∷◌, None, Some, refl}
use Rattle.std.specs.Prelude.{codes}
use Rattle.mc_num.specs.declared.op.Width.TheVariants.{I32}
use Rattle.mc_num.specs.declared.op.Width.{Width}
use Rattle.mc_num.specs.declared.op.Bin.TheVariants.{Add, UDiv}
use Rattle.mc_num.specs.declared.op.Pred.TheVariants.{Eq}
use Rattle.mc_num.specs.declared.op.Op.TheVariants.{Bin, Icmp}
use Rattle.mc_num.specs.declared.op.Trap.TheVariants.{DivZero}
use Rattle.ir_types.specs.Program.{Program}
use Rattle.ir_types.specs.WellFormed.{getchar, putchar}
use Rattle.ir_types.specs.declared.name.Name.{Name}
use Rattle.ir_types.specs.declared.name.Name.TheVariants.{Number}
use Rattle.ir_types.specs.declared.syntax.Operand.TheVariants.{Const, Reg}
use Rattle.ir_types.specs.declared.syntax.Variable.TheVariants.{Local}
use Rattle.ir_types.specs.declared.syntax.Kind.{Kind}
use Rattle.ir_types.specs.declared.syntax.Kind.TheVariants.{Load, Store, Compute, Call}
use Rattle.ir_types.specs.declared.syntax.Instr.{Instr}
use Rattle.ir_types.specs.declared.syntax.Terminator.{Terminator}
use Rattle.ir_types.specs.declared.syntax.Terminator.TheVariants.{Return, Jump, Branch}
use Rattle.ir_types.specs.declared.syntax.Block.{Block}
use Rattle.ir_types.specs.declared.syntax.Function.{Function}
use Rattle.machines.specs.Runs.{TookByte, ShowedByte, At, Over, after}
use Rattle.machines.specs.Meaning.{ByReturn, ByTrap, machine_of}
use Rattle.machines.specs.Events.{events_of}
use Rattle.machines.specs.declared.events.Event.TheVariants.{Shows, Trapped}
use Rattle.ir_machine.specs.Step.{frames_of}
use Rattle.ir_machine.specs.Same.{start}
use Rattle.ir_machine.specs.Prof.{counts_of}

-- the names play no part
abbrev named : Kind → Instr
named kind = record { result = None; kind = kind }

abbrev instrs : List Kind → List Instr
instrs [] = []
instrs (k ∷ ks) = named k ∷ instrs ks

abbrev block : List Kind → Terminator → Block
block kinds term = record { name = Number 0; instrs = instrs kinds; term = term }

abbrev main : List ℕ → List Block → Function
main vars blocks = record { name = codes "main"; ret = Some I32; params = []; vars = variables vars; blocks = blocks }
  where
    variables : List ℕ → List (Width × Name)
    variables [] = []
    variables (v ∷ vs) = (I32, Number v) ∷ variables vs

-- ---- a letter and a trap: putchar(65), 1 / 0

abbrev letter : Function
letter = main [] (block (Call 0 (Const 65 ∷ []) ∷ Compute (Bin UDiv I32) (Const 1 ∷ Const 0 ∷ []) ∷ []) (Return (Some (Const 0))) ∷ [])

abbrev letter_module : Program
letter_module = record { globals = []; functions = putchar ∷ letter ∷ [] }

letter_traps : after (machine_of (frames_of letter_module)) 2 (At (start letter_module 1 letter [] [])) ≡ Over (ByTrap DivZero) (ShowedByte 65 ∷ [])
letter_traps = refl

letter_events : events_of (frames_of letter_module) 100 (At (start letter_module 1 letter [] [])) ≡ Shows 65 ∷ Trapped DivZero ∷ []
letter_events = refl

-- ---- a loop that never ends

abbrev loop : Function
loop = main [] (block [] (Jump 1) ∷ block [] (Jump 1) ∷ [])

abbrev loop_module : Program
loop_module = record { globals = []; functions = loop ∷ [] }

-- after three steps it stands in the loop
loop_goes_on : after (machine_of (frames_of loop_module)) 3 (At (start loop_module 0 loop [] [])) ≡ after (machine_of (frames_of loop_module)) 1 (At (start loop_module 0 loop [] []))
loop_goes_on = refl

-- ---- two bytes, a branch on the first, and their sum: a = getchar(), b = getchar(), s = a + b where a is 65, and a + b

abbrev sum : Function
sum = main (0 ∷ 1 ∷ 2 ∷ []) (
    block (Call 0 [] ∷ Store (Reg 0) (Local 0) ∷ Call 0 [] ∷ Store (Reg 2) (Local 1) ∷ Load (Local 0) ∷ Compute (Icmp Eq I32) (Reg 4 ∷ Const 65 ∷ []) ∷ []) (Branch (Reg 5) 1 2)
    ∷ block (Load (Local 0) ∷ Load (Local 1) ∷ Compute (Bin Add I32) (Reg 0 ∷ Reg 1 ∷ []) ∷ Store (Reg 2) (Local 2) ∷ []) (Jump 3)
    ∷ block [] (Jump 3)
    ∷ block (Load (Local 0) ∷ Load (Local 1) ∷ Compute (Bin Add I32) (Reg 0 ∷ Reg 1 ∷ []) ∷ []) (Return (Some (Reg 2)))
    ∷ []
    )

abbrev sum_module : Program
sum_module = record { globals = []; functions = getchar ∷ sum ∷ [] }

sum_returns : after (machine_of (frames_of sum_module)) 16 (At (start sum_module 1 sum [] (65 ∷ 66 ∷ []))) ≡ Over (ByReturn (Some 131)) (TookByte 65 ∷ TookByte 66 ∷ [])
sum_returns = refl

-- one entry, and each slot that it took
sum_counts : counts_of sum_module 1 (events_of (frames_of sum_module) 16 (At (start sum_module 1 sum [] (65 ∷ 66 ∷ [])))) ≡ record { entry = 1; slots = 1 ∷ 0 ∷ 1 ∷ 0 ∷ [] } ∷ []
sum_counts = refl
