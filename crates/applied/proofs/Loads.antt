-- What an instruction did, and that a register which a load gave holds its variable's value as long as nothing changes it.
use Rattle.std.proofs.Common.{◌≡◌, ℕ, ◌+◌, ◌<◌, Bool, true, false, List, [], ◌∷◌, ◌++◌, length, map, get_or, Some, Ok, refl, sym, ap, ◌∙◌, subst, arith, ⊎_elim, length-append, length-set}
use Rattle.std.specs.Prelude.{slice_get, slice_index}
use Rattle.std.proofs.Math.Seq.{get_or-append_seam}
use Rattle.std.proofs.lemmas.List.{get_or_append_left, get_or-set_other}
use Rattle.std.proofs.lemmas.Bool.{cases_lt}
use Rattle.mc_num.specs.Value.{value_of}
use Rattle.ir_types.specs.Program.{Program}
use Rattle.ir_types.specs.declared.syntax.Variable.{Variable}
use Rattle.ir_types.specs.declared.syntax.Variable.TheVariants.{Local, Global}
use Rattle.ir_types.specs.declared.syntax.Kind.{Kind}
use Rattle.ir_types.specs.declared.syntax.Kind.TheVariants.{Load, Store, Compute, Call}
use Rattle.ir_types.specs.declared.syntax.Instr.{Instr}
use Rattle.machines.proofs.ByFrames.{Comes}
use Rattle.ir_machine.specs.declared.frame.Frame.{Frame}
use Rattle.ir_machine.specs.Step.{Globals, value_in, variable_in, frame_with, globals_with, past, frames_of}
use Rattle.applied.specs.Motion.{defined_in, ChangesVariable, NoChange}

-- the value that it gave, and the variables and the globals after it
abbrev pub Done : Program → Kind → Globals → Frame → ℕ → List ℕ → Globals → Type 0
Done m (Load x) g f v V g' = (v ≡ variable_in g f x) × (V ≡ f.variables) × (g' ≡ g)
Done m (Store operand x) g f v V g' = (V ≡ (frame_with x (value_in f operand) f).variables) × (g' ≡ globals_with x (value_in f operand) g)
Done m (Compute op operands) g f v V g' = (value_of op (map (value_in f) operands) ≡ Ok v) × (V ≡ f.variables) × (g' ≡ g)
Done m (Call i operands) g f v V g' = (V ≡ f.variables) × (defined_in m i ≡ false → g' ≡ g)

-- the frame past an instruction that gave this value, with these variables
abbrev pub behind : Frame → ℕ → List ℕ → Frame
behind f v V = past (record f { variables = V }) v

module _ (m m' : Program) (related : Globals → Frame → Frame → Type 0) where
  -- after the instruction the frames come to be related
  abbrev pub GoesOn : List ℕ → Kind → Globals → Frame → Frame → Type 0
  GoesOn extra kind g f f' =
      (v : ℕ) (V V' : List ℕ) (g' : Globals) → Done m kind g f v V g' → V' ≡ V ++ extra
      → Comes (frames_of m) (frames_of m') related g' (behind f v V) g' (behind f' v V')

abbrev pub LoadsHold : Program → List Instr → Globals → Frame → Type 0
LoadsHold m instrs g f =
    (k : ℕ) (instr : Instr) (x : Variable) → slice_get instrs k ≡ Some instr → instr.kind ≡ Load x → k < length f.registers
    → NoChange m instrs x k (length f.registers) → slice_index f.registers k ≡ variable_in g f x

call_kept : (g g' : Globals) (y : ℕ) (q : Bool) → (q ≡ false → g' ≡ g) → ¬ (q ≡ true) → slice_index g' y ≡ slice_index g y
call_kept g g' y false same unchanged = ap (λ l. get_or l y 0) (same refl)
call_kept g g' y true same unchanged = absurd (unchanged refl)

-- an instruction that can't change a variable keeps it
pub kept : (m : Program) (kind : Kind) (g : Globals) (f : Frame) (v : ℕ) (V : List ℕ) (g' : Globals) (z : Variable) → Done m kind g f v V g' → ¬ ChangesVariable m kind z → variable_in g' (behind f v V) z ≡ variable_in g f z
kept m (Load x) g f v V g' (Local z) done unchanged = ap (λ l. get_or l z 0) done.1
kept m (Load x) g f v V g' (Global y) done unchanged = ap (λ l. get_or l y 0) done.2
kept m (Store operand (Local x)) g f v V g' (Local z) done unchanged =
    ap (λ l. get_or l z 0) done.0 ∙ get_or-set_other f.variables x z (value_in f operand) 0 (λ e. unchanged (ap (λ y. Local y) (sym e)))
kept m (Store operand (Local x)) g f v V g' (Global y) done unchanged = ap (λ l. get_or l y 0) done.1
kept m (Store operand (Global x)) g f v V g' (Local z) done unchanged = ap (λ l. get_or l z 0) done.0
kept m (Store operand (Global x)) g f v V g' (Global y) done unchanged =
    ap (λ l. get_or l y 0) done.1 ∙ get_or-set_other g x y (value_in f operand) 0 (λ e. unchanged (ap (λ z. Global z) (sym e)))
kept m (Compute op operands) g f v V g' (Local z) done unchanged = ap (λ l. get_or l z 0) done.1
kept m (Compute op operands) g f v V g' (Global y) done unchanged = ap (λ l. get_or l y 0) done.2
kept m (Call i operands) g f v V g' (Local z) done unchanged = ap (λ l. get_or l z 0) done.0
kept m (Call i operands) g f v V g' (Global y) done unchanged = call_kept g g' y (defined_in m i) done.1 unchanged

length_with : (x : Variable) (value : ℕ) (f : Frame) → length (frame_with x value f).variables ≡ length f.variables
length_with (Local x) value f = length-set f.variables x value
length_with (Global y) value f = refl

pub length_done : (m : Program) (kind : Kind) (g : Globals) (f : Frame) (v : ℕ) (V : List ℕ) (g' : Globals) → Done m kind g f v V g' → length V ≡ length f.variables
length_done m (Load x) g f v V g' done = ap length done.1
length_done m (Store operand x) g f v V g' done = ap length done.0 ∙ length_with x (value_in f operand) f
length_done m (Compute op operands) g f v V g' done = ap length done.1
length_done m (Call i operands) g f v V g' done = ap length done.0

loaded_same : (g : Globals) (f : Frame) (v : ℕ) (V : List ℕ) (g' : Globals) (x : Variable) → V ≡ f.variables → g' ≡ g → variable_in g' (behind f v V) x ≡ variable_in g f x
loaded_same g f v V g' (Local z) e e' = ap (λ l. get_or l z 0) e
loaded_same g f v V g' (Global y) e e' = ap (λ l. get_or l y 0) e'

load_gave : (m : Program) (kind : Kind) (g : Globals) (f : Frame) (v : ℕ) (V : List ℕ) (g' : Globals) (x : Variable) → Done m kind g f v V g' → kind ≡ Load x → v ≡ variable_in g' (behind f v V) x
load_gave m kind g f v V g' x done e =
    let d : Done m (Load x) g f v V g' = subst (λ k. Done m k g f v V g') e done in
    d.0 ∙ sym (loaded_same g f v V g' x d.1 d.2)

pub loads_hold : (m : Program) (instrs : List Instr) (g : Globals) (f : Frame) (instr : Instr) (v : ℕ) (V : List ℕ) (g' : Globals) → LoadsHold m instrs g f → slice_get instrs (length f.registers) ≡ Some instr → Done m instr.kind g f v V g' → LoadsHold m instrs g' (behind f v V)
loads_hold m instrs g f instr v V g' hold here done k other x e load lt unchanged =
    let n = length f.registers in
    let len : length (f.registers ++ v ∷ []) ≡ n + 1 = omega (arith, length-append f.registers (v ∷ [])) in
    ⊎_elim
    (λ below.
    let before : NoChange m instrs x k n = λ j another a b. unchanged j another a (omega (arith, b, len)) in
    let not_here : ¬ ChangesVariable m instr.kind x = unchanged n instr below (omega (arith, len)) here in
    get_or_append_left f.registers (v ∷ []) 0 k below ∙ hold k other x e load below before ∙ sym (kept m instr.kind g f v V g' x done not_here))
    (λ above.
    let is : k ≡ n = omega (arith, lt, above, len) in
    let same : instr ≡ other = let both : Some instr ≡ Some other = sym here ∙ ap (slice_get instrs) (sym is) ∙ e in cc in
    let loads : instr.kind ≡ Load x = ap (λ i. i.kind) same ∙ load in
    ap (λ j. get_or (f.registers ++ v ∷ []) j 0) is ∙ get_or-append_seam f.registers v [] 0 ∙ load_gave m instr.kind g f v V g' x done loads)
    (cases_lt k n)
