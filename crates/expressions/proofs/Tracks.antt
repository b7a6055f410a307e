-- How it is tracked when variables were last changed.
use Rattle.std.proofs.Common.{◌≡◌, ℕ, zero, suc, ◌+◌, ◌<◌, ◌≤◌, Bool, true, false, not, cond, ◌&&◌, ◌||◌, List, [], ◌∷◌, ◌++◌, length, take, drop, Option, Some, None, refl, sym, ap, ◌∙◌, subst, arith, inl, inr, ◌⊎◌, ⊎_elim}
use Rattle.std.specs.Prelude.{slice_get, nat_le, if◌then◌else◌, option_and_then}
use Rattle.std.specs.List.{list_any}
use Rattle.std.specs.Map.{lookup}
use Rattle.std.specs.Option.{unwrap_or}
use Rattle.std.proofs.lemmas.Bool.{cases_lt}
use Rattle.std.proofs.lemmas.Bool.Decides.{nat_tests}
use Rattle.std.proofs.lemmas.List.{drop-append-le, drop_all, length-take-le, length_push, take_more}
use Rattle.std.proofs.lemmas.List.Folds.{list_any-append}
use Rattle.std.proofs.lemmas.Option.{slice_get_within, get_or_from_slice_get}
use Rattle.ir_types.specs.Program.{Program}
use Rattle.ir_types.specs.declared.syntax.Operand.{Operand}
use Rattle.ir_types.specs.declared.syntax.Operand.TheVariants as operands
use Rattle.ir_types.specs.declared.syntax.Variable.{Variable}
use Rattle.ir_types.specs.declared.syntax.Kind.{Kind}
use Rattle.ir_types.specs.declared.syntax.Kind.TheVariants.{Load, Store, Compute, Call}
use Rattle.ir_types.specs.declared.syntax.Instr.{Instr}
use Rattle.expressions.specs.declared.syntax.Arg.{Arg}
use Rattle.expressions.specs.declared.syntax.Arg.TheVariants.{Var}
use Rattle.expressions.specs.Expressions.{changes, is_defined, is_global, is_same_variable, loaded, arg_of}
use Rattle.expressions.specs.Tracking.{Tracked, last_store, is_current, IsUpTo, Passed, Tracks, loaded_now, arg_now}

-- ---- tests

le_false : (a n : ℕ) → n < a → nat_le a n ≡ false
le_false a n lt = grind (arith, nat_tests)

le_true : (a n : ℕ) → a ≤ n → nat_le a n ≡ true
le_true a n le = grind (arith, nat_tests)

and_false : (b : Bool) → (b && false) ≡ false
and_false true = refl
and_false false = refl

and_true : (b : Bool) → (b && true) ≡ b
and_true true = refl
and_true false = refl

not_or : (a b : Bool) → not (a || b) ≡ (not a && not b)
not_or true b = refl
not_or false b = refl

or_false : (b : Bool) → (b || false) ≡ b
or_false true = refl
or_false false = refl

-- ---- one instruction

unwrap_cond : (b : Bool) (point : ℕ) (o : Option ℕ) → unwrap_or (cond b (Some point) o) 0 ≡ cond b point (unwrap_or o 0)
unwrap_cond true point o = refl
unwrap_cond false point o = refl

-- the last stores after one more
pub stored : (v : Variable) (point : ℕ) (old new : Tracked) → ((w : Variable) → lookup (is_same_variable w) new.stores ≡ cond (is_same_variable v w) (Some point) (lookup (is_same_variable w) old.stores))
    → (w : Variable) → last_store new w ≡ (if is_same_variable v w then point else last_store old w)
stored v point old new h w = ap (λ o. unwrap_or o 0) (h w) ∙ unwrap_cond (is_same_variable v w) point (lookup (is_same_variable w) old.stores)

store_by : (b : Bool) (point n last : ℕ) (rest : Bool) → n < point → (nat_le (cond b point last) n && rest) ≡ ((nat_le last n && rest) && not b)
store_by true point n last rest lt = ap (λ t. t && rest) (le_false point n lt) ∙ sym (and_false (nat_le last n && rest))
store_by false point n last rest lt = sym (and_true (nat_le last n && rest))

pub passed_store : (m : Program) (operand : Operand) (v : Variable) (point : ℕ) (old new : Tracked)
    → ((w : Variable) → last_store new w ≡ (if is_same_variable v w then point else last_store old w)) → new.call ≡ old.call → Passed m (Store operand v) point old new
passed_store m operand v point old new stores call = record {
  before = λ w n lt.
      ap (λ l. nat_le l n && (nat_le new.call n || not (is_global w))) (stores w)
      ∙ ap (λ c. nat_le (cond (is_same_variable v w) point (last_store old w)) n && (nat_le c n || not (is_global w))) call
      ∙ store_by (is_same_variable v w) point n (last_store old w) (nat_le old.call n || not (is_global w)) lt;
}

cond_le : (b : Bool) (point last : ℕ) → last ≤ point → cond b point last ≤ point
cond_le true point last le = omega arith
cond_le false point last le = le

pub up_to_store : (v : Variable) (point : ℕ) (old new : Tracked)
    → ((w : Variable) → last_store new w ≡ (if is_same_variable v w then point else last_store old w)) → new.call ≡ old.call → IsUpTo old point → IsUpTo new point
up_to_store v point old new stores call up = record {
  stores = λ w. omega (arith, stores w, cond_le (is_same_variable v w) point (last_store old w) (up.stores w));
  call = omega (arith, call, up.call);
}

call_yes : (l c g : Bool) → (l && (false || not g)) ≡ ((l && (c || not g)) && not (g && true))
call_yes true true true = refl
call_yes true true false = refl
call_yes true false true = refl
call_yes true false false = refl
call_yes false c true = refl
call_yes false c false = refl

call_no : (x g : Bool) → x ≡ (x && not (g && false))
call_no true true = refl
call_no true false = refl
call_no false true = refl
call_no false false = refl

called : (m : Program) (callee : ℕ) (arguments : List Operand) (point : ℕ) (old : Tracked) (d : Bool) → is_defined m callee ≡ d → (w : Variable) (n : ℕ) → n < point
    → is_current (if d then record old { call = point } else old) w n ≡ (is_current old w n && not (changes m w (Call callee arguments)))
called m callee arguments point old true e w n lt =
    ap (λ t. nat_le (last_store old w) n && (t || not (is_global w))) (le_false point n lt)
    ∙ call_yes (nat_le (last_store old w) n) (nat_le old.call n) (is_global w)
    ∙ ap (λ d. is_current old w n && not (is_global w && d)) (sym e)
called m callee arguments point old false e w n lt =
    call_no (is_current old w n) (is_global w) ∙ ap (λ d. is_current old w n && not (is_global w && d)) (sym e)

pub passed_call : (m : Program) (callee : ℕ) (arguments : List Operand) (point : ℕ) (old new : Tracked)
    → new ≡ (if is_defined m callee then record old { call = point } else old) → Passed m (Call callee arguments) point old new
passed_call m callee arguments point old new same = record {
  before = λ w n lt. ap (λ s. is_current s w n) same ∙ called m callee arguments point old (is_defined m callee) refl w n lt;
}

call_up_to : (d : Bool) (point : ℕ) (old : Tracked) → IsUpTo old point → IsUpTo (if d then record old { call = point } else old) point
call_up_to true point old up = record { stores = up.stores; call = omega arith }
call_up_to false point old up = up

pub up_to_call : (m : Program) (callee point : ℕ) (old new : Tracked) → new ≡ (if is_defined m callee then record old { call = point } else old) → IsUpTo old point → IsUpTo new point
up_to_call m callee point old new same up = subst (λ s. IsUpTo s point) (sym same) (call_up_to (is_defined m callee) point old up)

pub passed_load : (m : Program) (v : Variable) (point : ℕ) (s : Tracked) → Passed m (Load v) point s s
passed_load m v point s = record { before = λ w n lt. sym (and_true (is_current s w n)) }

-- ---- the instructions of a block

is_now : (s : Tracked) (point : ℕ) (w : Variable) → IsUpTo s point → is_current s w point ≡ true
is_now s point w up = ap (λ t. t && (nat_le s.call point || not (is_global w))) (le_true (last_store s w) point (up.stores w)) ∙ ap (λ t. t || not (is_global w)) (le_true s.call point up.call)

pub later : (s : Tracked) (point next : ℕ) → point ≤ next → IsUpTo s point → IsUpTo s next
later s point next le up = record { stores = λ w. omega (arith, up.stores w, le); call = omega (arith, up.call, le) }

pub tracks_none : (m : Program) (first : ℕ) (s : Tracked) → IsUpTo s first → Tracks m [] first s
tracks_none m first s up = record { up_to = later s first (first + 0) (omega arith) up; exact = λ v r lt. absurd (omega (arith, lt)) }

tracks_push : (m : Program) (before : List Instr) (i : Instr) (first : ℕ) (s t : Tracked) → Tracks m before first s → Passed m i.kind (first + length before) s t → IsUpTo t (first + length before)
    → Tracks m (before ++ i ∷ []) first t
tracks_push m before i first s t tracks passed up = record {
  up_to = later t (first + length before) (first + length (before ++ i ∷ [])) (omega (arith, length_push before i)) up;
  exact = λ v r lt. ⊎_elim (λ (inside : r < length before). old v r inside) (λ (end : length before ≤ r). new v r (omega (arith, end, lt, length_push before i))) (cases_lt r (length before));
}
  where
    old : (v : Variable) (r : ℕ) → r < length before → is_current t v (first + r) ≡ not (list_any (λ j. changes m v j.kind) (drop (r + 1) (before ++ i ∷ [])))
    old v r lt =
        let test : Instr → Bool = λ j. changes m v j.kind in
        let split : drop (r + 1) (before ++ i ∷ []) ≡ drop (r + 1) before ++ i ∷ [] = drop-append-le (r + 1) before (i ∷ []) (omega (arith, lt)) in
        passed.before v (first + r) (omega (arith, lt))
        ∙ ap (λ b. b && not (changes m v i.kind)) (tracks.exact v r lt)
        ∙ sym (ap (λ l. not (list_any test l)) split ∙ ap not (list_any-append test (drop (r + 1) before) (i ∷ [])) ∙ ap (λ b. not (list_any test (drop (r + 1) before) || b)) (or_false (test i)) ∙ not_or (list_any test (drop (r + 1) before)) (test i))

    new : (v : Variable) (r : ℕ) → r ≡ length before → is_current t v (first + r) ≡ not (list_any (λ j. changes m v j.kind) (drop (r + 1) (before ++ i ∷ [])))
    new v r same =
        let test : Instr → Bool = λ j. changes m v j.kind in
        let none : drop (r + 1) (before ++ i ∷ []) ≡ [] = drop_all (r + 1) (before ++ i ∷ []) (omega (arith, length_push before i, same)) in
        ap (λ n. is_current t v (first + n)) same ∙ is_now t (first + length before) v up ∙ sym (ap (λ l. not (list_any test l)) none)

pub tracks_more : (m : Program) (instrs : List Instr) (k : ℕ) (i : Instr) (first : ℕ) (s t : Tracked) → slice_get instrs k ≡ Some i → Tracks m (take k instrs) first s
    → Passed m i.kind (first + k) s t → IsUpTo t (first + k) → Tracks m (take (k + 1) instrs) first t
tracks_more m instrs k i first s t there tracks passed up =
    let lt = slice_get_within instrs k i there in
    let n : length (take k instrs) ≡ k = length-take-le k instrs (omega (arith, lt)) in
    let more : take (k + 1) instrs ≡ take k instrs ++ i ∷ [] =
    take_more instrs k i lt ∙ ap (λ x. take k instrs ++ x ∷ []) (get_or_from_slice_get instrs k i i there) in
    subst (λ l. Tracks m l first t) (sym more)
    (tracks_push m (take k instrs) i first s t tracks
    (subst (λ p. Passed m i.kind (first + p) s t) (sym n) passed)
    (subst (λ p. IsUpTo t (first + p)) (sym n) up))

-- ---- what operands stand for

load_by : (v : Variable) (any now : Bool) → now ≡ not any → (if now then Some (Var v) else None) ≡ (if any then None else Some (Var v))
load_by v true now e = ap (λ b. if b then Some (Var v) else None) e
load_by v false now e = ap (λ b. if b then Some (Var v) else None) e

module _ (m : Program) (before : List Instr) (first : ℕ) (s : Tracked) (tracks : Tracks m before first s) where
  loaded_same : (kind : Kind) (r : ℕ) → r < length before → loaded_now s kind (first + r) ≡ loaded m kind (drop (r + 1) before)
  loaded_same (Load v) r lt = load_by v (list_any (λ i. changes m v i.kind) (drop (r + 1) before)) (is_current s v (first + r)) (tracks.exact v r lt)
  loaded_same (Store operand v) r lt = refl
  loaded_same (Compute op operands) r lt = refl
  loaded_same (Call callee arguments) r lt = refl

  register_same : (r : ℕ) (found : Option Instr) → slice_get before r ≡ found
      → option_and_then (λ i. loaded_now s i.kind (first + r)) found ≡ option_and_then (λ i. loaded m i.kind (drop (r + 1) before)) found
  register_same r None e = refl
  register_same r (Some i) e = loaded_same i.kind r (slice_get_within before r i e)

  arg_same : (operand : Operand) → arg_now s first before operand ≡ arg_of m before operand
  arg_same (operands.Const value) = refl
  arg_same (operands.Param p) = refl
  arg_same (operands.Reg r) = register_same r (slice_get before r) refl

  pub args_same : arg_now s first before ≡ arg_of m before
  args_same = λ i operand. arg_same operand i
