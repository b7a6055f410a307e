-- What the rules of modules say of the blocks of a function.
use Rattle.std.proofs.Common.{◌≡◌, ℕ, ◌^◌, ◌<◌, List, length, Option, Some, None, refl, arith}
use Rattle.std.proofs.lemmas.List.{length-map}
use Rattle.std.specs.Prelude.{All, IsSomeAnd, option_and_then, slice_get}
use Rattle.std.proofs.lemmas.List.Elements.{All-weaker}
use Rattle.std.proofs.lemmas.Option.{slice_get_within}
use Rattle.mc_num.specs.declared.op.Width.{Width}
use Rattle.mc_num.specs.declared.op.Width.TheVariants.{I1}
use Rattle.ir_types.specs.Program.{Program}
use Rattle.ir_types.specs.WellFormed.{Scope, scope, given_by, HasWidth, Ends, IsBlockIn, IsFunctionIn}
use Rattle.ir_types.specs.declared.syntax.Operand.{Operand}
use Rattle.ir_types.specs.declared.syntax.Operand.TheVariants.{Const, Param, Reg}
use Rattle.ir_types.specs.declared.syntax.Instr.{Instr}
use Rattle.ir_types.specs.declared.syntax.Terminator.{Terminator}
use Rattle.ir_types.specs.declared.syntax.Terminator.TheVariants.{Return, Jump, Branch, Switch, Unreachable}
use Rattle.ir_types.specs.declared.syntax.Block.{Block}
use Rattle.ir_types.specs.declared.syntax.Function.{Function}
use Rattle.flow_graph.specs.Slots.{slots_of}
use Rattle.function_text.specs.ByChanges.{IsBelow, AreBelow}
use Rattle.function_text.proofs.Layouts.{holds_at}

pub block_in : {m : Program} {f : Function} (b : ℕ) {block : Block} → IsFunctionIn m f → slice_get f.blocks b ≡ Some block → IsBlockIn (scope m f) block
block_in {m} {f} b {block} rules there = holds_at (IsBlockIn (scope m f)) f.blocks b block rules.blocks there

-- ---- slots

few_ends : (s : Scope) (instrs : List Instr) (term : Terminator) → Ends s instrs term → length (slots_of term) < 2 ^ 32
few_ends s instrs (Return _) ends = omega arith
few_ends s instrs (Jump _) ends = omega arith
few_ends s instrs (Branch _ _ _) ends = omega arith
few_ends s instrs (Switch w operand other cases) ends = omega (arith, ends.1.few, length-map cases (λ (c : ℕ × ℕ). c.1))
few_ends s instrs Unreachable ends = omega arith

pub few_slots : {s : Scope} {block : Block} → IsBlockIn s block → length (slots_of block.term) < 2 ^ 32
few_slots {s} {block} is = few_ends s block.instrs block.term is.ends

pub all_few : (m : Program) (f : Function) → IsFunctionIn m f → All (λ block. length (slots_of block.term) < 2 ^ 32) f.blocks
all_few m f rules = All-weaker (IsBlockIn (scope m f)) (λ block. length (slots_of block.term) < 2 ^ 32) (λ block is. few_slots is) f.blocks rules.blocks

pub slots_within : (m : Program) (f : Function) {block : Block} → IsBlockIn (scope m f) block → All (λ t. t < length f.blocks) (slots_of block.term)
slots_within m f {block} is = All-weaker (λ t. (0 < t) × (t < length f.blocks)) (λ t. t < length f.blocks) (λ t both. both.1) (slots_of block.term) is.targets_exist

-- ---- operands

found_within : (s : Scope) (instrs : List Instr) (r : ℕ) (w : Width) (found : Option Instr) → slice_get instrs r ≡ found
    → option_and_then (λ i. given_by s i.kind) found ≡ Some w → r < length instrs
found_within s instrs r w None e is = absurd cc
found_within s instrs r w (Some i) e is = slice_get_within instrs r i e

operand_below : (s : Scope) (instrs : List Instr) (w : Width) (operand : Operand) → HasWidth s instrs w operand → IsBelow (length instrs) operand
operand_below s instrs w (Const _) has = tt
operand_below s instrs w (Param _) has = tt
operand_below s instrs w (Reg r) has = found_within s instrs r w _ refl has

value_below : (s : Scope) (instrs : List Instr) (operand : Operand) (ret : Option Width) → IsSomeAnd ret (λ w. HasWidth s instrs w operand) → IsBelow (length instrs) operand
value_below s instrs operand None has = absurd has
value_below s instrs operand (Some w) has = operand_below s instrs w operand has

ends_below : (s : Scope) (instrs : List Instr) (term : Terminator) → Ends s instrs term → AreBelow (length instrs) term
ends_below s instrs (Return None) ends = tt
ends_below s instrs (Return (Some operand)) ends = value_below s instrs operand s.own.ret ends
ends_below s instrs (Jump _) ends = tt
ends_below s instrs (Branch condition _ _) ends = operand_below s instrs I1 condition ends
ends_below s instrs (Switch w operand other cases) ends = operand_below s instrs w operand ends.0
ends_below s instrs Unreachable ends = tt

pub term_below : {s : Scope} {block : Block} → IsBlockIn s block → AreBelow (length block.instrs) block.term
term_below {s} {block} is = ends_below s block.instrs block.term is.ends
