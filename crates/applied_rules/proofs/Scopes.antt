-- What fits in a text, told by the places of the whole text, and where a function has more variables.
use Rattle.std.proofs.Common.{◌≡◌, ℕ, zero, suc, ◌<◌, ◌^◌, List, [], ◌∷◌, ◌++◌, length, map, take, Option, Some, None, refl, sym, ap, ◌∙◌, subst, arith}
use Rattle.std.specs.Prelude.{slice_get, IsSome, is_some, IsSomeAnd, option_and_then}
use Rattle.std.specs.List.{AllZip}
use Rattle.mc_num.specs.Op.{bits, argument_widths, IsWellFormedOp}
use Rattle.mc_num.specs.declared.op.Width.{Width}
use Rattle.ir_types.specs.WellFormed.{Scope, variable_width, given_by, HasWidth, Fits}
use Rattle.ir_types.specs.declared.syntax.Operand.{Operand}
use Rattle.ir_types.specs.declared.syntax.Operand.TheVariants.{Const, Param, Reg}
use Rattle.ir_types.specs.declared.syntax.Variable.{Variable}
use Rattle.ir_types.specs.declared.syntax.Variable.TheVariants.{Local, Global}
use Rattle.ir_types.specs.declared.syntax.Kind.{Kind}
use Rattle.ir_types.specs.declared.syntax.Kind.TheVariants.{Load, Store, Compute, Call}
use Rattle.ir_types.specs.declared.syntax.Instr.{Instr}
use Rattle.applied.specs.Renamed.{renamed, renamed_kind}

-- the width of what the instruction at a place of the text gives
abbrev pub given_at : Scope → List Instr → ℕ → Option Width
given_at s text r = option_and_then (λ i. given_by s i.kind) (slice_get text r)

-- an operand has this width at the place n of the text
abbrev pub HasAt : Scope → List Instr → ℕ → Width → Operand → Type 0
HasAt s text n w (Const value) = value < 2 ^ bits w
HasAt s text n w (Param p) = slice_get s.own.params p ≡ Some w
HasAt s text n w (Reg r) = (r < n) × (given_at s text r ≡ Some w)

-- an instruction fits at the place n of the text
abbrev pub FitsAt : Scope → List Instr → ℕ → Kind → Type 0
FitsAt s text n (Load v) = IsSome (variable_width s v)
FitsAt s text n (Store value v) = IsSomeAnd (variable_width s v) (λ w. HasAt s text n w value)
FitsAt s text n (Compute op operands) = IsWellFormedOp op × AllZip (HasAt s text n) (argument_widths op) operands
FitsAt s text n (Call callee arguments) = IsSomeAnd (slice_get s.functions callee) (λ g. AllZip (HasAt s text n) g.params arguments)

get_take : {X : Type 0} (n r : ℕ) (xs : List X) → r < n → slice_get (take n xs) r ≡ slice_get xs r
get_take zero r xs lt = absurd (omega (arith, lt))
get_take (suc n) r [] lt = refl
get_take (suc n) zero (x ∷ xs) lt = refl
get_take (suc n) (suc r) (x ∷ xs) lt = get_take n r xs (omega (arith, lt))

take_within : {X : Type 0} (n r : ℕ) (xs : List X) (x : X) → slice_get (take n xs) r ≡ Some x → r < n
take_within zero r xs x e = absurd cc
take_within (suc n) r [] x e = absurd cc
take_within (suc n) zero (y ∷ ys) x e = omega arith
take_within (suc n) (suc r) (y ∷ ys) x e = omega (arith, take_within n r ys x e)

pub get_within : {X : Type 0} (xs ys : List X) (n : ℕ) (x : X) → slice_get xs n ≡ Some x → slice_get (xs ++ ys) n ≡ Some x
get_within [] ys n x e = absurd cc
get_within (z ∷ zs) ys zero x e = e
get_within (z ∷ zs) ys (suc n) x e = get_within zs ys n x e

take_all : {X : Type 0} (xs : List X) → take (length xs) xs ≡ xs
take_all [] = refl
take_all (x ∷ xs) = ap (λ l. x ∷ l) (take_all xs)

zip_by : {A B : Type 0} (R R' : A → B → Type 0) → ((a : A) (b : B) → R a b → R' a b) → (as' : List A) (bs : List B) → AllZip R as' bs → AllZip R' as' bs
zip_by R R' by [] [] all = tt
zip_by R R' by (a ∷ as') (b ∷ bs) all = (by a b all.0, zip_by R R' by as' bs all.1)
zip_by R R' by [] (b ∷ bs) all = absurd all
zip_by R R' by (a ∷ as') [] all = absurd all

pub some_by : {A : Type 0} (P Q : A → Type 0) → ((a : A) → P a → Q a) → (o : Option A) → IsSomeAnd o P → IsSomeAnd o Q
some_by P Q by None is = absurd is
some_by P Q by (Some a) is = by a is

module _ (s : Scope) (text : List Instr) (n : ℕ) where
  found_within : (r : ℕ) (w : Width) (found : Option Instr) → slice_get (take n text) r ≡ found → option_and_then (λ i. given_by s i.kind) found ≡ Some w → r < n
  found_within r w None e is = absurd cc
  found_within r w (Some i) e is = take_within n r text i e

  pub at_width : (w : Width) (operand : Operand) → HasWidth s (take n text) w operand → HasAt s text n w operand
  at_width w (Const value) has = has
  at_width w (Param p) has = has
  at_width w (Reg r) has =
      let within = found_within r w _ refl has in
      (within, ap (option_and_then (λ i. given_by s i.kind)) (sym (get_take n r text within)) ∙ has)

  pub has_width : (w : Width) (operand : Operand) → HasAt s text n w operand → HasWidth s (take n text) w operand
  has_width w (Const value) has = has
  has_width w (Param p) has = has
  has_width w (Reg r) has = ap (option_and_then (λ i. given_by s i.kind)) (get_take n r text has.0) ∙ has.1

  pub at_place : (kind : Kind) → Fits s (take n text) kind → FitsAt s text n kind
  at_place (Load v) fits = fits
  at_place (Store value v) fits = some_by _ _ (λ w. at_width w value) (variable_width s v) fits
  at_place (Compute op operands) fits = (fits.exists, zip_by _ _ at_width (argument_widths op) operands fits.operands_fit)
  at_place (Call callee arguments) fits = some_by _ _ (λ g. zip_by _ _ at_width g.params arguments) (slice_get s.functions callee) fits

  pub fits_before : (kind : Kind) → FitsAt s text n kind → Fits s (take n text) kind
  fits_before (Load v) fits = fits
  fits_before (Store value v) fits = some_by _ _ (λ w. has_width w value) (variable_width s v) fits
  fits_before (Compute op operands) fits = record { exists = fits.0; operands_fit = zip_by _ _ has_width (argument_widths op) operands fits.1 }
  fits_before (Call callee arguments) fits = some_by _ _ (λ g. zip_by _ _ has_width g.params arguments) (slice_get s.functions callee) fits

-- at the end of a text all of it stands before
pub at_end : (s : Scope) (text : List Instr) (w : Width) (operand : Operand) → HasWidth s text w operand → HasAt s text (length text) w operand
at_end s text w operand has = at_width s text (length text) w operand (subst (λ l. HasWidth s l w operand) (sym (take_all text)) has)

pub before_end : (s : Scope) (text : List Instr) (w : Width) (operand : Operand) → HasAt s text (length text) w operand → HasWidth s text w operand
before_end s text w operand has = subst (λ l. HasWidth s l w operand) (take_all text) (has_width s text (length text) w operand has)

-- ---- more variables

pub record Extends (s s' : Scope) : Type 0 where
  pub globals : s'.globals ≡ s.globals
  pub functions : s'.functions ≡ s.functions
  pub own : s'.own ≡ s.own
  pub more : List Width
  pub vars : s'.vars ≡ s.vars ++ more

module _ (s s' : Scope) (extends : Extends s s') where
  pub width_more : (v : Variable) (w : Width) → variable_width s v ≡ Some w → variable_width s' v ≡ Some w
  width_more (Local v) w e = ap (λ l. slice_get l v) extends.vars ∙ get_within s.vars extends.more v w e
  width_more (Global g) w e = ap (λ l. slice_get l g) extends.globals ∙ e

  same_by : (v : Variable) (found : Option Width) → variable_width s v ≡ found → IsSome found → variable_width s' v ≡ variable_width s v
  same_by v None e is = absurd cc
  same_by v (Some w) e is = width_more v w e ∙ sym e

  pub same_width : (v : Variable) → IsSome (variable_width s v) → variable_width s' v ≡ variable_width s v
  same_width v is = same_by v _ refl is

  stored_width : (v : Variable) (P : Width → Type 0) → IsSomeAnd (variable_width s v) P → IsSome (variable_width s v)
  stored_width v P is = by (variable_width s v) is
    where
      by : (found : Option Width) → IsSomeAnd found P → IsSome found
      by None is = absurd is
      by (Some w) is = refl

  pub same_given : (number : ℕ → ℕ) (text : List Instr) (n : ℕ) (kind : Kind) → FitsAt s text n kind → given_by s' (renamed_kind number kind) ≡ given_by s kind
  same_given number text n (Load v) fits = same_width v fits
  same_given number text n (Store value v) fits = refl
  same_given number text n (Compute op operands) fits = refl
  same_given number text n (Call callee arguments) fits = ap (λ l. option_and_then (λ g. g.ret) (slice_get l callee)) extends.functions

  -- the same text with other instructions between
  module _ (text text' : List Instr) (number : ℕ → ℕ) (given : (r : ℕ) (w : Width) → given_at s text r ≡ Some w → given_at s' text' (number r) ≡ Some w) (n n' : ℕ) (below : (r : ℕ) → r < n → number r < n') where
    pub has_more : (w : Width) (operand : Operand) → HasAt s text n w operand → HasAt s' text' n' w (renamed number operand)
    has_more w (Const value) has = has
    has_more w (Param p) has = ap (λ own. slice_get own.params p) extends.own ∙ has
    has_more w (Reg r) has = (below r has.0, given r w has.1)

    all_more : (ws : List Width) (operands : List Operand) → AllZip (HasAt s text n) ws operands → AllZip (HasAt s' text' n') ws (map (renamed number) operands)
    all_more [] [] all = tt
    all_more (w ∷ ws) (operand ∷ operands) all = (has_more w operand all.0, all_more ws operands all.1)
    all_more [] (operand ∷ operands) all = absurd all
    all_more (w ∷ ws) [] all = absurd all

    pub fits_more : (kind : Kind) → FitsAt s text n kind → FitsAt s' text' n' (renamed_kind number kind)
    fits_more (Load v) fits = ap is_some (same_width v fits) ∙ fits
    fits_more (Store value v) fits =
        subst (λ o. IsSomeAnd o (λ w. HasAt s' text' n' w (renamed number value))) (sym (same_width v (stored_width v _ fits)))
        (some_by _ _ (λ w. has_more w value) (variable_width s v) fits)
    fits_more (Compute op operands) fits = (fits.0, all_more (argument_widths op) operands fits.1)
    fits_more (Call callee arguments) fits =
        subst (λ l. IsSomeAnd (slice_get l callee) (λ g. AllZip (HasAt s' text' n') g.params (map (renamed number) arguments))) (sym extends.functions)
        (some_by _ _ (λ g. all_more g.params arguments) (slice_get s.functions callee) fits)
