-- Where a frame stands, and what it does there.
use Rattle.std.proofs.Common.{◌≡◌, ℕ, ◌<◌, ◌≤◌, List, [], ◌∷◌, ◌++◌, length, reverse, get_or, Some, sym, ap, ◌∙◌, arith}
use Rattle.std.specs.Prelude.{slice_get}
use Rattle.std.proofs.lemmas.List.{reverse-append}
use Rattle.std.proofs.lemmas.Option.{slice_get-get_or, slice_get_past}
use Rattle.ir_types.specs.declared.syntax.Block.{Block}
use Rattle.ir_types.specs.declared.syntax.Function.{Function}
use Rattle.ir_types.specs.Program.{Program}
use Rattle.ir_machine.specs.declared.frame.Frame.{Frame}
use Rattle.machines.specs.declared.events.Event.TheVariants.{Entered}
use Rattle.machines.specs.Acts.{acted, turned}
use Rattle.ir_machine.specs.Step.{Globals, frames_of, first_frame, block_at, act_in, block_act, term_act, entered, called}
use Rattle.ir_machine.specs.Code.{ComesTo}

-- behind the instructions a frame runs the terminator
pub act_at_end : (m : Program) (frame : Frame) (globals : Globals) (block : Block) → Some block ≡ block_at m frame.function frame.block → length block.instrs ≤ length frame.registers → term_act block.term globals frame ≡ (frames_of m).act globals frame
act_at_end m frame globals block e le =
    ap (λ o. block_act m o block.term globals frame) (sym (slice_get_past block.instrs (length frame.registers) le))
    ∙ ap (λ o. act_in m o globals frame) e

entered_by : (m : Program) (index : ℕ) (function : Function) (blocks : List Block) (arguments : List ℕ) (top : Frame) (below : List Frame) (globals : Globals) → 0 < length blocks → acted (frames_of m) (entered index function blocks arguments top) top (reverse below) globals ≡ turned (Entered index) (first_frame index function arguments) (reverse (below ++ top ∷ [])) globals
entered_by m index function [] arguments top below globals lt = absurd (omega arith)
entered_by m index function (block ∷ blocks) arguments top below globals lt =
    ap (λ l. turned (Entered index) (first_frame index function arguments) l globals) (sym (reverse-append below (top ∷ [])))

-- a call of a function with blocks
pub comes_in : (m : Program) (index : ℕ) (function : Function) (arguments : List ℕ) (top first : Frame) (below below' : List Frame) (globals : Globals) → index < length m.functions → function ≡ get_or m.functions index function → 0 < length function.blocks → first ≡ first_frame index function arguments → below' ≡ below ++ top ∷ [] → ComesTo m (called (slice_get m.functions index) index arguments top) top below globals (Entered index) first below' globals
comes_in m index function arguments top first below below' globals lt e nonempty is_first is_below =
    ap (λ o. acted (frames_of m) (called o index arguments top) top (reverse below) globals) (slice_get-get_or m.functions index function lt ∙ ap Some (sym e))
    ∙ entered_by m index function function.blocks arguments top below globals nonempty
    ∙ ap (λ f. turned (Entered index) f (reverse (below ++ top ∷ [])) globals) (sym is_first)
    ∙ ap (λ l. turned (Entered index) first (reverse l) globals) (sym is_below)
