-- A frame of the new run goes on by itself.
use Rattle.std.proofs.Common.{◌≡◌, ℕ, suc, ◌+◌, List, [], ◌∷◌, ◌++◌, length, get_or, Option, Some, refl, sym, ap, ◌∙◌, subst, arith, length-append, append_assoc}
use Rattle.std.specs.Prelude.{slice_get, slice_index}
use Rattle.std.proofs.lemmas.List.{get_or_append_left, append-nil}
use Rattle.ir_types.specs.Program.{Program}
use Rattle.ir_types.specs.declared.syntax.Operand.{Operand}
use Rattle.ir_types.specs.declared.syntax.Operand.TheVariants.{Const, Param, Reg}
use Rattle.ir_types.specs.declared.syntax.Instr.{Instr}
use Rattle.ir_types.specs.declared.syntax.Block.{Block}
use Rattle.ir_machine.specs.declared.frame.Frame.{Frame}
use Rattle.ir_machine.specs.Step.{Globals, value_in, past, instr_act, block_act, act_in, block_at, frames_of}
use Rattle.machines.specs.Acts.{Frames, Slot, Goes}
use Rattle.machines.proofs.ByFrames.{Onwards, Alone, Comes, FollowsFrame, Answered, TrapsToo}
use Rattle.applied.specs.Applied.{StandsAt}
use Rattle.applied.proofs.Fitting.{IsEarlier}

-- the frame is further on in its block, by n registers, with these variables
pub record Further (f : Frame) (variables : List ℕ) (n : ℕ) (f' : Frame) : Type 0 where
  pub function : f'.function ≡ f.function
  pub block : f'.block ≡ f.block
  pub arguments : f'.arguments ≡ f.arguments
  pub holds : f'.variables ≡ variables
  pub more : List ℕ
  pub registers : f'.registers ≡ f.registers ++ more
  pub count : length more ≡ n

pub further_length : (f : Frame) (V : List ℕ) (n : ℕ) (f' : Frame) → Further f V n f' → length f'.registers ≡ length f.registers + n
further_length f V n f' further = omega (arith, ap length further.registers, length-append f.registers further.more, further.count)

pub further_none : (f : Frame) → Further f f.variables 0 f
further_none f = record { function = refl; block = refl; arguments = refl; holds = refl; more = []; registers = sym (append-nil f.registers); count = refl }

pub further_past : (f : Frame) (V : List ℕ) (n : ℕ) (f' : Frame) → Further f V n f' → (v : ℕ) (W : List ℕ) → Further f W (n + 1) (past (record f' { variables = W }) v)
further_past f V n f' further v W = record {
  function = further.function;
  block = further.block;
  arguments = further.arguments;
  holds = refl;
  more = further.more ++ v ∷ [];
  registers = ap (λ l. l ++ v ∷ []) further.registers ∙ append_assoc f.registers further.more (v ∷ []);
  count = omega (arith, length-append further.more (v ∷ []), further.count);
}

pub further_then : (f : Frame) (V : List ℕ) (n : ℕ) (g : Frame) (W : List ℕ) (k : ℕ) (h : Frame) → Further f V n g → Further g W k h → Further f W (n + k) h
further_then f V n g W k h one two = record {
  function = two.function ∙ one.function;
  block = two.block ∙ one.block;
  arguments = two.arguments ∙ one.arguments;
  holds = two.holds;
  more = one.more ++ two.more;
  registers = two.registers ∙ ap (λ l. l ++ two.more) one.registers ∙ append_assoc f.registers one.more two.more;
  count = omega (arith, length-append one.more two.more, one.count, two.count);
}

-- an earlier operand keeps its value
pub further_value : (f : Frame) (V : List ℕ) (n : ℕ) (f' : Frame) → Further f V n f' → (operand : Operand) → IsEarlier (length f.registers) operand → value_in f' operand ≡ value_in f operand
further_value f V n f' further (Const c) earlier = refl
further_value f V n f' further (Param i) earlier = ap (λ l. slice_index l i) further.arguments
further_value f V n f' further (Reg i) earlier =
    ap (λ l. get_or l i 0) further.registers ∙ get_or_append_left f.registers further.more 0 i earlier

pub stands_both : (instrs : List Instr) (n : ℕ) (front rest : List Instr) → StandsAt instrs n (front ++ rest) → StandsAt instrs n front × StandsAt instrs (n + length front) rest
stands_both instrs n [] rest stands = let e : n ≡ n + 0 = omega arith in (tt, subst (λ k. StandsAt instrs k rest) e stands)
stands_both instrs n (instr ∷ front) rest stands =
    let both = stands_both instrs (suc n) front rest stands.1 in
    let e : suc n + length front ≡ n + suc (length front) = omega arith in
    ((stands.0, both.0), subst (λ k. StandsAt instrs k rest) e both.1)

pub stands_further : (instr : Instr) (instrs : List Instr) (n : ℕ) (rest : List Instr) → StandsAt instrs n rest → StandsAt (instr ∷ instrs) (suc n) rest
stands_further instr instrs n [] stands = tt
stands_further instr instrs n (k ∷ ks) stands = (stands.0, stands_further instr instrs (suc n) ks stands.1)

pub stands_whole : (rest : List Instr) → StandsAt rest 0 rest
stands_whole [] = tt
stands_whole (instr ∷ rest) = (refl, stands_further instr rest 0 rest (stands_whole rest))

module _ (m : Program) (block : Block) where
  pub acts : (globals : Globals) (f : Frame) (instr : Instr) → block_at m f.function f.block ≡ Some block → slice_get block.instrs (length f.registers) ≡ Some instr → (frames_of m).act globals f ≡ instr_act m instr.kind globals f
  acts globals f instr b e = ap (λ o. act_in m o globals f) b ∙ ap (λ o. block_act m o block.term globals f) e

module _ {F G : Type 0} (frames : Frames F G) where
  pub alone_goes : (n : ℕ) (P : G → F → Type 0) (globals globals' : G) (f f' : F) (slot : Option Slot) → frames.act globals f ≡ Goes slot f' globals' → Alone frames n globals' f' P → Alone frames (suc n) globals f P
  alone_goes n P globals globals' f f' slot e rest =
      subst (λ act. Onwards frames act (λ g h. Alone frames n g h P)) (sym e) rest

module _ {F F' G : Type 0} (old : Frames F G) (new : Frames F' G) (related : G → F → F' → Type 0) where
  -- one more step of the new frame by itself
  pub goes : (globals : G) (f : F) (f' g' : F') (slot : Option Slot) → new.act globals f' ≡ Goes slot g' globals → FollowsFrame old new related globals f g' → FollowsFrame old new related globals f f'
  goes globals f f' g' slot e (Answered n alone) = Answered (suc n) (alone_goes new n _ globals globals f' g' slot e alone)
  goes globals f f' g' slot e (TrapsToo i j trap traps traps') = TrapsToo i (suc j) trap traps (alone_goes new j _ globals globals f' g' slot e traps')

  pub comes_goes : (globals : G) (f : F) (f' g' : F') (slot : Option Slot) → new.act globals f' ≡ Goes slot g' globals → Comes old new related globals f globals g' → Comes old new related globals f globals f'
  comes_goes globals f f' g' slot e comes = (suc comes.0, alone_goes new comes.0 _ globals globals f' g' slot e comes.1)
