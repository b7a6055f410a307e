-- Two small modules by numbers: an expression that is inserted on both slots of a branch, and one that is computed again in its block.
use Rattle.std.proofs.Common.{◌≡◌, ℕ, zero, suc, Bool, true, false, List, [], ◌∷◌, ◌++◌, Some, None, refl}
use Rattle.std.specs.Prelude.{codes}
use Rattle.mc_num.specs.declared.op.Width.{Width}
use Rattle.mc_num.specs.declared.op.Width.TheVariants.{I32}
use Rattle.mc_num.specs.declared.op.Bin.TheVariants.{Add}
use Rattle.mc_num.specs.declared.op.Pred.TheVariants.{Slt}
use Rattle.mc_num.specs.declared.op.Op.TheVariants.{Bin, Icmp}
use Rattle.ir_types.specs.Program.{Program}
use Rattle.ir_types.specs.WellFormed.{getchar}
use Rattle.ir_types.specs.declared.name.Made.TheVariants.{Temp, Sum, Operand as MadeOperand, Split}
use Rattle.ir_types.specs.declared.name.Name.{Name}
use Rattle.ir_types.specs.declared.name.Name.TheVariants.{Text, Made}
use Rattle.ir_types.specs.declared.syntax.Operand.TheVariants.{Const, Reg}
use Rattle.ir_types.specs.declared.syntax.Variable.TheVariants.{Local}
use Rattle.ir_types.specs.declared.syntax.Kind.{Kind}
use Rattle.ir_types.specs.declared.syntax.Kind.TheVariants.{Load, Store, Compute, Call}
use Rattle.ir_types.specs.declared.syntax.Instr.{Instr}
use Rattle.ir_types.specs.declared.syntax.Terminator.{Terminator}
use Rattle.ir_types.specs.declared.syntax.Terminator.TheVariants.{Return, Jump, Branch}
use Rattle.ir_types.specs.declared.syntax.Block.{Block}
use Rattle.ir_types.specs.declared.syntax.Function.{Function}
use Rattle.machines.specs.Runs.{TookByte, At, Over, after}
use Rattle.machines.specs.Meaning.{ByReturn, machine_of}
use Rattle.ir_machine.specs.Step.{frames_of}
use Rattle.ir_machine.specs.Same.{start}
use Rattle.point_graph.specs.Graph.{Point, Head, Place, Edge, Slot}
use Rattle.expressions.specs.declared.syntax.Arg.TheVariants.{Const as ConstArg, Var as VarArg}
use Rattle.expressions.specs.declared.syntax.Expr.{Expr}
use Rattle.applied.specs.Motion.{Move}
use Rattle.applied.specs.Applied.{Plan}
use Rattle.applied.specs.Built.{applied}

abbrev gives : Name → Kind → Instr
gives name kind = record { result = Some name; kind = kind }

abbrev does : Kind → Instr
does kind = record { result = None; kind = kind }

abbrev block : Name → List Instr → Terminator → Block
block name instrs term = record { name = name; instrs = instrs; term = term }

abbrev main : List (Width × Name) → List Block → Function
main vars blocks = record { name = codes "main"; ret = Some I32; params = []; vars = vars; blocks = blocks }

abbrev a : Name
a = Text (codes "a")

-- the sum of the variable and 1
abbrev next : Expr
next = record { op = Bin Add I32; args = VarArg (Local 0) ∷ ConstArg 1 ∷ [] }

abbrev sum_of : ℕ → Kind
sum_of r = Compute (Bin Add I32) (Reg r ∷ Const 1 ∷ [])

-- ---- on both slots

abbrev arm : Name → Block
arm name = block name (gives (Text (codes "b")) (Load (Local 0)) ∷ gives (Text (codes "c")) (sum_of 0) ∷ []) (Return (Some (Reg 1)))

abbrev entry : ℕ → ℕ → Block
entry cold warm = block (Text (codes "entry"))
    (gives (Text (codes "g")) (Call 0 []) ∷ does (Store (Reg 0) (Local 0)) ∷ gives (Text (codes "g1")) (Load (Local 0))
    ∷ gives (Text (codes "c")) (Compute (Icmp Slt I32) (Reg 2 ∷ Const 0 ∷ [])) ∷ [])
    (Branch (Reg 3) cold warm)

abbrev branching : Program
branching = record {
  globals = [];
  functions = getchar ∷ main ((I32, a) ∷ []) (entry 1 2 ∷ arm (Text (codes "cold")) ∷ arm (Text (codes "warm")) ∷ []) ∷ [];
}

abbrev on_slots : Edge → Bool
on_slots (Slot zero slot) = true
on_slots edge = false

abbrev in_arms : Point → Bool
in_arms (Place (suc b) (suc zero)) = true
in_arms point = false

abbrev until_arms : Point → Bool
until_arms (Head (suc b)) = true
until_arms (Place (suc b) zero) = true
until_arms (Place (suc b) (suc zero)) = true
until_arms point = false

-- the edges from the entry block's branch have the numbers 6 and 7
abbrev slot_numbers : Edge → ℕ
slot_numbers (Slot zero zero) = 6
slot_numbers (Slot zero (suc zero)) = 7
slot_numbers edge = 0

abbrev hoisted : Move
hoisted = record { number = 1; expr = next; inserted = on_slots; kept = λ point. false; deleted = in_arms; live = until_arms }

abbrev hoists : ℕ → Plan
hoists zero = record { naming = record { prefix = 0; edge_number = slot_numbers }; moves = [] }
hoists (suc i) = record { naming = record { prefix = 0; edge_number = slot_numbers }; moves = hoisted ∷ [] }

abbrev loaded_arm : Name → Block
loaded_arm name = block name (gives (Text (codes "b")) (Load (Local 0)) ∷ gives (Text (codes "c")) (Load (Local 1)) ∷ []) (Return (Some (Reg 1)))

abbrev group_block : ℕ → ℕ → Block
group_block p target = block (Made 0 (Split p))
    (gives (Made 0 (MadeOperand 1 p 0)) (Load (Local 0)) ∷ gives (Made 0 (Sum 1 p)) (sum_of 0) ∷ does (Store (Reg 1) (Local 1)) ∷ []) (Jump target)

-- the slots lead to new blocks, which stand behind the entry block
abbrev branching_after : Program
branching_after = record {
  globals = [];
  functions = getchar ∷ main ((I32, a) ∷ (I32, Made 0 (Temp 1)) ∷ [])
      (entry 1 2 ∷ group_block 6 3 ∷ group_block 7 4 ∷ loaded_arm (Text (codes "cold")) ∷ loaded_arm (Text (codes "warm")) ∷ []) ∷ [];
}

new_branching : applied branching hoists ≡ branching_after
new_branching = refl

old_branch : after (machine_of (frames_of branching)) 8 (At (start branching 1 (main ((I32, a) ∷ []) []) [] (5 ∷ []))) ≡ Over (ByReturn (Some 6)) (TookByte 5 ∷ [])
old_branch = refl

new_branch : after (machine_of (frames_of branching_after)) 12 (At (start branching_after 1 (main ((I32, a) ∷ (I32, a) ∷ []) []) [] (5 ∷ []))) ≡ Over (ByReturn (Some 6)) (TookByte 5 ∷ [])
new_branch = refl

-- ---- twice in a block

abbrev chain : Block → Program
chain entry = record { globals = []; functions = main ((I32, a) ∷ []) (entry ∷ []) ∷ [] }

abbrev computed : List Instr
computed = gives (Text (codes "a1")) (Load (Local 0)) ∷ gives (Text (codes "x")) (sum_of 0) ∷ does (Store (Reg 1) (Local 0))
    ∷ gives (Text (codes "a2")) (Load (Local 0)) ∷ gives (Text (codes "y")) (sum_of 3) ∷ []

abbrev twice : Program
twice = chain (block (Text (codes "entry")) (computed ++ gives (Text (codes "a3")) (Load (Local 0)) ∷ gives (Text (codes "z")) (sum_of 5) ∷ []) (Return (Some (Reg 6))))

abbrev first_two : Point → Bool
first_two (Place zero (suc zero)) = true
first_two (Place zero (suc (suc (suc (suc zero))))) = true
first_two point = false

abbrev last : Point → Bool
last (Place zero (suc (suc (suc (suc (suc (suc zero))))))) = true
last point = false

abbrev until_last : Point → Bool
until_last (Place zero (suc (suc (suc (suc (suc zero)))))) = true
until_last (Place zero (suc (suc (suc (suc (suc (suc zero))))))) = true
until_last point = false

abbrev reused : Move
reused = record { number = 0; expr = next; inserted = λ edge. false; kept = first_two; deleted = last; live = until_last }

abbrev reuses : ℕ → Plan
reuses i = record { naming = record { prefix = 1; edge_number = λ edge. 0 }; moves = reused ∷ [] }

-- of the two kept sums the second alone is stored
abbrev twice_after : Program
twice_after = record {
  globals = [];
  functions = main ((I32, a) ∷ (I32, Made 1 (Temp 0)) ∷ [])
      (block (Text (codes "entry"))
      (computed ++ does (Store (Reg 4) (Local 1)) ∷ gives (Text (codes "a3")) (Load (Local 0)) ∷ gives (Text (codes "z")) (Load (Local 1)) ∷ [])
      (Return (Some (Reg 7))) ∷ [])
      ∷ [];
}

new_twice : applied twice reuses ≡ twice_after
new_twice = refl

old_run : after (machine_of (frames_of twice)) 8 (At (start twice 0 (main ((I32, a) ∷ []) []) [] [])) ≡ Over (ByReturn (Some 2)) []
old_run = refl

new_run : after (machine_of (frames_of twice_after)) 9 (At (start twice_after 0 (main ((I32, a) ∷ (I32, a) ∷ []) []) [] [])) ≡ Over (ByReturn (Some 2)) []
new_run = refl
