-- Registers get the numbers that the list of them says, and the text of a block grows place by place.
use Rattle.std.proofs.Common.{◌≡◌, ℕ, zero, suc, ◌+◌, ◌<◌, ◌≤◌, List, [], ◌∷◌, ◌++◌, length, map, drop, take, Option, Some, None, refl, sym, ap, ◌∙◌, arith, add-one}
use Rattle.std.specs.Prelude.{slice_get, slice_index, All, IsSomeAnd, option_and_then}
use Rattle.std.specs.List.{AllZip, range_with_len}
use Rattle.std.proofs.lemmas.List.{append_assoc, at_drop_more, at_drop_all, length-append}
use Rattle.std.proofs.lemmas.List.FromFn.{get_or-map-range_with_len, map-range_with_len_more}
use Rattle.std.proofs.lemmas.List.Elements.{All-head, All-tail, All-nil, All-cons}
use Rattle.std.proofs.lemmas.Option.{slice_get_within, get_or_from_slice_get}
use Rattle.mc_num.specs.Op.{argument_widths}
use Rattle.mc_num.specs.declared.op.Width.{Width}
use Rattle.ir_types.specs.Program.{Program}
use Rattle.ir_types.specs.WellFormed.{Scope, scope, Signature, variable_width, given_by, HasWidth, Fits, IsBlockIn, IsFunctionIn}
use Rattle.ir_types.specs.declared.syntax.Operand.{Operand}
use Rattle.ir_types.specs.declared.syntax.Operand.TheVariants.{Const, Param, Reg}
use Rattle.ir_types.specs.declared.syntax.Kind.{Kind}
use Rattle.ir_types.specs.declared.syntax.Kind.TheVariants.{Load, Store, Compute, Call}
use Rattle.ir_types.specs.declared.syntax.Instr.{Instr}
use Rattle.ir_types.specs.declared.syntax.Block.{Block}
use Rattle.ir_types.specs.declared.syntax.Function.{Function}
use Rattle.applied.specs.Renamed.{renamed, renamed_kind}
use Rattle.applied.proofs.Fitting.{all_at}
use Rattle.changes.specs.declared.lists.Action.{Action}
use Rattle.changes.specs.declared.lists.Action.TheVariants.{Stays, Loads, Stores}
use Rattle.changes.specs.Changed.{action_of, acted, added}
use Rattle.block_text.specs.ByChanges.{Given, IsBelow, AreBelow, before, start, number, copies, text}
use Rattle.block_text.proofs.Steps.{piece_more}

-- ---- what the rules say of registers

register_below : (s : Scope) (w : Width) (front : List Instr) (r : ℕ) (found : Option Instr) → slice_get front r ≡ found → option_and_then (λ i. given_by s i.kind) found ≡ Some w → r < length front
register_below s w front r None e is = absurd cc
register_below s w front r (Some instr) e is = slice_get_within front r instr e

is_below : (s : Scope) (front : List Instr) (w : Width) (n : ℕ) (operand : Operand) → length front ≤ n → HasWidth s front w operand → IsBelow n operand
is_below s front w n (Const value) le fits = tt
is_below s front w n (Param p) le fits = tt
is_below s front w n (Reg r) le fits = omega (arith, le, register_below s w front r _ refl fits)

all_below : (s : Scope) (front : List Instr) (n : ℕ) → length front ≤ n → (ws : List Width) (operands : List Operand) → AllZip (HasWidth s front) ws operands → All (IsBelow n) operands
all_below s front n le ws [] fits = All-nil (IsBelow n)
all_below s front n le [] (operand ∷ operands) fits = absurd fits
all_below s front n le (w ∷ ws) (operand ∷ operands) fits =
    All-cons (IsBelow n) operand operands (is_below s front w n operand le fits.0) (all_below s front n le ws operands fits.1)

stored_below : (s : Scope) (front : List Instr) (n : ℕ) (operand : Operand) → length front ≤ n → (found : Option Width) → IsSomeAnd found (λ w. HasWidth s front w operand) → IsBelow n operand
stored_below s front n operand le None is = absurd is
stored_below s front n operand le (Some w) is = is_below s front w n operand le is

called_below : (s : Scope) (front : List Instr) (n : ℕ) (operands : List Operand) → length front ≤ n → (found : Option Signature) → IsSomeAnd found (λ g. AllZip (HasWidth s front) g.params operands) → All (IsBelow n) operands
called_below s front n operands le None is = absurd is
called_below s front n operands le (Some g) is = all_below s front n le g.params operands is

kind_below : (s : Scope) (front : List Instr) (n : ℕ) (kind : Kind) → length front ≤ n → Fits s front kind → AreBelow n kind
kind_below s front n (Load v) le fits = tt
kind_below s front n (Store operand v) le fits = stored_below s front n operand le (variable_width s v) fits
kind_below s front n (Compute op operands) le fits = all_below s front n le (argument_widths op) operands fits.operands_fit
kind_below s front n (Call callee operands) le fits = called_below s front n operands le (slice_get s.functions callee) fits

length_take : {X : Type 0} (k : ℕ) (xs : List X) → length (take k xs) ≤ k
length_take zero xs = omega arith
length_take (suc k) [] = omega arith
length_take (suc k) (x ∷ xs) = omega (arith, length_take k xs)

pub instrs_below : (m : Program) (f : Function) → IsFunctionIn m f → (b : ℕ) (block : Block) → slice_get f.blocks b ≡ Some block
    → (k : ℕ) (instr : Instr) → slice_get block.instrs k ≡ Some instr → AreBelow k instr.kind
instrs_below m f rules b block there k instr is =
    let block_in = all_at (IsBlockIn (scope m f)) f.blocks b block rules.blocks there in
    kind_below (scope m f) (take k block.instrs) k instr.kind (length_take k block.instrs) (block_in.fits k instr is)

-- ---- two ways to number registers that agree below n

module _ (f h : ℕ → ℕ) (n : ℕ) (agree : (r : ℕ) → r < n → f r ≡ h r) where
  renamed_same : (operand : Operand) → IsBelow n operand → renamed f operand ≡ renamed h operand
  renamed_same (Const value) below = refl
  renamed_same (Param p) below = refl
  renamed_same (Reg r) below = ap Reg (agree r below)

  all_renamed_same : (operands : List Operand) → All (IsBelow n) operands → map (renamed f) operands ≡ map (renamed h) operands
  all_renamed_same [] below = refl
  all_renamed_same (operand ∷ operands) below =
      ap (λ o. o ∷ map (renamed f) operands) (renamed_same operand (All-head (IsBelow n) operand operands below))
      ∙ ap (λ os. renamed h operand ∷ os) (all_renamed_same operands (All-tail (IsBelow n) operand operands below))

  kind_same : (kind : Kind) → AreBelow n kind → renamed_kind f kind ≡ renamed_kind h kind
  kind_same (Load v) below = refl
  kind_same (Store operand v) below = ap (λ o. Store o v) (renamed_same operand below)
  kind_same (Compute op operands) below = ap (λ os. Compute op os) (all_renamed_same operands below)
  kind_same (Call callee operands) below = ap (λ os. Call callee os) (all_renamed_same operands below)

  acted_same : (action : Action) (vars : ℕ) (instr : Instr) → AreBelow n instr.kind → acted action vars f instr ≡ acted action vars h instr
  acted_same Stays vars instr below = ap (λ kind. record { result = instr.result; kind = kind }) (kind_same instr.kind below)
  acted_same (Loads j) vars instr below = refl
  acted_same (Stores j) vars instr below = ap (λ kind. record { result = instr.result; kind = kind }) (kind_same instr.kind below)

-- the list of the numbers of the first registers tells them
numbers_tell : (g : ℕ → ℕ) (n : ℕ) (numbers : List ℕ) → numbers ≡ map g (range_with_len 0 n) → (r : ℕ) → r < n → slice_index numbers r ≡ g r
numbers_tell g n numbers is r lt =
    ap (λ l. slice_index l r) is ∙ get_or-map-range_with_len g 0 n r r 0 lt (omega arith)

-- ---- one place more

-- what was made of the places before k: with the text from there on it is all of the text
pub record IsMade (g : Given) (b : ℕ) (block : Block) (k : ℕ) (instrs : List Instr) (numbers : List ℕ) : Type 0 where
  pub text : instrs ++ text g b block k (drop k block.instrs) ≡ text g b block 0 block.instrs
  pub starts : length instrs ≡ start g b block k
  pub numbered : numbers ≡ map (number g b block) (range_with_len 0 k)

-- what is added at the place k: groups, the instruction and its number, and its store
pub record Adds (g : Given) (b : ℕ) (block : Block) (k : ℕ) (instr : Instr) (instrs grown : List Instr) (numbers more : List ℕ) : Type 0 where
  pub here : slice_get block.instrs k ≡ Some instr
  pub below : AreBelow k instr.kind
  pub action : Action
  pub is_action : action ≡ action_of g.changes b k
  pub led : List Instr
  pub leads : led ≡ instrs ++ before g b block k (length instrs)
  pub register : ℕ
  pub is_register : register ≡ length led
  pub new : Instr
  pub acts : new ≡ acted action g.vars (slice_index numbers) instr
  pub copied : List Instr
  pub copies_it : copied ≡ led ++ new ∷ []
  pub stores_it : grown ≡ copied ++ added action g.vars register
  pub numbers_it : more ≡ numbers ++ register ∷ []

module _ (g : Given) (b : ℕ) (block : Block) (k : ℕ) (instr : Instr) (instrs grown : List Instr) (numbers more : List ℕ) (made : IsMade g b block k instrs numbers) (adds : Adds g b block k instr instrs grown numbers more) where
  abbrev action : Action
  action = action_of g.changes b k

  abbrev front : List Instr
  front = before g b block k (start g b block k)

  abbrev piece : List Instr
  piece = copies g b block k instr

  register_is : adds.register ≡ number g b block k
  register_is =
      adds.is_register
      ∙ ap length adds.leads
      ∙ length-append instrs (before g b block k (length instrs))
      ∙ ap (λ n. n + length (before g b block k n)) made.starts

  new_is : adds.new ≡ acted action g.vars (number g b block) instr
  new_is =
      adds.acts
      ∙ ap (λ a. acted a g.vars (slice_index numbers) instr) adds.is_action
      ∙ acted_same (slice_index numbers) (number g b block) k (numbers_tell (number g b block) k numbers made.numbered) action g.vars instr adds.below

  piece_is : grown ≡ adds.led ++ piece
  piece_is =
      adds.stores_it
      ∙ ap (λ a. adds.copied ++ added a g.vars adds.register) adds.is_action
      ∙ ap (λ l. l ++ added action g.vars adds.register) adds.copies_it
      ∙ append_assoc adds.led (adds.new ∷ []) (added action g.vars adds.register)
      ∙ ap (λ n. adds.led ++ adds.new ∷ added action g.vars n) register_is
      ∙ ap (λ i. adds.led ++ i ∷ added action g.vars (number g b block k)) new_is

  all_is : grown ≡ instrs ++ (front ++ piece)
  all_is =
      piece_is
      ∙ ap (λ l. l ++ piece) adds.leads
      ∙ append_assoc instrs (before g b block k (length instrs)) piece
      ∙ ap (λ n. instrs ++ (before g b block k n ++ piece)) made.starts

  text_more : grown ++ text g b block (k + 1) (drop (k + 1) block.instrs) ≡ text g b block 0 block.instrs
  text_more =
      let rest = drop (k + 1) block.instrs in
      let lt = slice_get_within block.instrs k instr adds.here in
      let splits : text g b block k (drop k block.instrs) ≡ (front ++ piece) ++ text g b block (k + 1) rest =
      at_drop_more (text g b block k) block.instrs k instr lt
      ∙ ap (λ i. front ++ (copies g b block k i ++ text g b block (suc k) rest)) (get_or_from_slice_get block.instrs k instr instr adds.here)
      ∙ sym (append_assoc front piece (text g b block (suc k) rest))
      ∙ ap (λ n. (front ++ piece) ++ text g b block n rest) (sym (add-one k)) in
      piece_more instrs (front ++ piece) (text g b block k (drop k block.instrs)) (text g b block (k + 1) rest) grown (text g b block 0 block.instrs) made.text splits all_is

  starts_more : length grown ≡ start g b block (k + 1)
  starts_more =
      ap length piece_is
      ∙ length-append adds.led piece
      ∙ ap (λ n. n + length piece) (sym adds.is_register ∙ register_is)
      ∙ (let same : number g b block k + length piece ≡ suc (number g b block k) + length (added action g.vars (number g b block k)) = omega arith in same)
      ∙ ap (start g b block) (sym (add-one k))

  numbers_more : more ≡ map (number g b block) (range_with_len 0 (k + 1))
  numbers_more =
      adds.numbers_it
      ∙ ap (λ l. l ++ adds.register ∷ []) made.numbered
      ∙ ap (λ n. map (number g b block) (range_with_len 0 k) ++ n ∷ []) register_is
      ∙ sym (map-range_with_len_more (number g b block) 0 k k (omega arith))

  pub made_more : IsMade g b block (k + 1) grown more
  made_more = record { text = text_more; starts = starts_more; numbered = numbers_more }

-- behind the last instruction
pub made_all : (g : Given) (b : ℕ) (block : Block) (k : ℕ) (instrs grown : List Instr) (numbers : List ℕ) → k ≡ length block.instrs → IsMade g b block k instrs numbers
    → grown ≡ instrs ++ before g b block (length block.instrs) (length instrs) → grown ≡ text g b block 0 block.instrs
made_all g b block k instrs grown numbers last made leads =
    let le : length block.instrs ≤ k = omega arith in
    leads
    ∙ ap (λ j. instrs ++ before g b block j (length instrs)) (sym last)
    ∙ ap (λ n. instrs ++ before g b block k n) made.starts
    ∙ ap (λ l. instrs ++ l) (sym (at_drop_all (text g b block k) block.instrs k le))
    ∙ made.text
