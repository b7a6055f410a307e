-- The module keeps the rules and the limits.
use Rattle.std.proofs.Common.{◌≡◌, ◌≢◌, ℕ, zero, suc, ◌+◌, ◌*◌, ◌<◌, ◌≤◌, List, [], ◌∷◌, Some, length, take, slice_get, All, refl, subst, arith}
use Rattle.std.specs.Prelude.{AllPairs, codes}
use Rattle.std.specs.List.{AllByRecursion}
use Rattle.std.proofs.lemmas.List.Elements.{All-from_recursion}
use Rattle.std.proofs.lemmas.List.Sums.{sum_by-cons}
use Rattle.mc_num.specs.declared.op.Width.TheVariants.{I32}
use Rattle.ir_types.specs.Limits.{IsWithinLimits, slot_count}
use Rattle.ir_types.specs.WellFormed.{IsWellFormed, IsFunctionIn, IsBlockIn, IsGlobal, Fits, IsNamed, Scope, Signature, scope, variable_width}
use Rattle.ir_types.specs.declared.name.Name.TheVariants.{Text}
use Rattle.ir_types.specs.declared.syntax.Block.{Block}
use Rattle.ir_types.specs.declared.syntax.Instr.{Instr}
use Rattle.ir_types.specs.declared.syntax.Operand.TheVariants.{Const, Reg}
use Rattle.ir_types.specs.declared.syntax.Terminator.TheVariants.{Jump}
use Rattle.ir_types.specs.declared.syntax.Variable.{Variable}
use Rattle.workload.specs.Names.{round_names}
use Rattle.workload.specs.Workload as work
use Rattle.workload.specs.Workload.{load, store, add, test, entry, start, left, right, join, end, main_function, workload_program}
use Rattle.workload.proofs.Differing.{names_differ, spellable, numbers_count}
use Rattle.workload.proofs.Tails.{tail, length_tail, sum_tail}

-- ---- blocks

abbrev own : Signature
own = record { ret = Some I32; params = [] }

-- what the instructions can name, where the function has so many blocks
abbrev around : ℕ → Scope
around count = record { globals = []; functions = own ∷ []; own = own; vars = I32 ∷ I32 ∷ []; blocks = count }

abbrev FitsAt : ℕ → List Instr → ℕ → Instr → Type 0
FitsAt count instrs k i = Fits (around count) (take k instrs) i.kind

abbrev IsTarget : ℕ → ℕ → Type 0
IsTarget count t = (0 < t) × (t < count)

entry_in : (count : ℕ) → 1 < count → IsBlockIn (around count) entry
entry_in count lt = record {
  fits = fits;
  named = All-from_recursion (IsNamed (around count)) entry.instrs ((λ h. h, λ h. h), tt);
  ends = tt;
  targets_exist = All-from_recursion (IsTarget count) (1 ∷ []) ((omega arith, lt), tt);
}
  where
    fits : (k : ℕ) (i : Instr) → slice_get entry.instrs k ≡ Some i → FitsAt count entry.instrs k i
    fits zero i e = let is : store (Const 0) work.a ≡ i = cc in subst (FitsAt count entry.instrs 0) is (omega arith)
    fits (suc k) i e = cc

start_in : (count j : ℕ) → 4 * j + 3 < count → IsBlockIn (around count) (start j)
start_in count j lt = record {
  fits = fits;
  named = All-from_recursion (IsNamed (around count)) (start j).instrs ((λ h. refl, λ h. refl), ((λ h. refl, λ h. refl), tt));
  ends = refl;
  targets_exist = All-from_recursion (IsTarget count) ((4 * j + 2) ∷ (4 * j + 3) ∷ []) ((omega arith, omega arith), ((omega arith, lt), tt));
}
  where
    fits : (k : ℕ) (i : Instr) → slice_get (start j).instrs k ≡ Some i → FitsAt count (start j).instrs k i
    fits zero i e = let is : load (round_names j).start_value ≡ i = cc in subst (FitsAt count (start j).instrs 0) is refl
    fits (suc zero) i e =
        let is : test (round_names j).start_test ≡ i = cc in
        subst (FitsAt count (start j).instrs 1) is (record { exists = tt; operands_fit = (refl, (omega arith, tt)) })
    fits (suc (suc k)) i e = cc

-- a block that adds to what it reads and stores the sum
abbrev adding : List ℕ → List ℕ → List ℕ → ℕ → Variable → ℕ → Block
adding name value sum j v next = record { name = Text name; instrs = load value ∷ add sum j ∷ store (Reg 1) v ∷ []; term = Jump next }

adding_in : (count : ℕ) (name value sum : List ℕ) (j : ℕ) (v : Variable) (next : ℕ) → variable_width (around count) v ≡ Some I32 → (0 < next) × (next < count) → IsBlockIn (around count) (adding name value sum j v next)
adding_in count name value sum j v next there inside = record {
  fits = fits;
  named = All-from_recursion (IsNamed (around count)) instrs ((λ h. refl, λ h. refl), ((λ h. refl, λ h. refl), ((λ h. h, λ h. h), tt)));
  ends = tt;
  targets_exist = All-from_recursion (IsTarget count) (next ∷ []) (inside, tt);
}
  where
    instrs : List Instr
    instrs = (adding name value sum j v next).instrs

    fits : (k : ℕ) (i : Instr) → slice_get (adding name value sum j v next).instrs k ≡ Some i → FitsAt count (adding name value sum j v next).instrs k i
    fits zero i e = let is : load value ≡ i = cc in subst (FitsAt count (adding name value sum j v next).instrs 0) is refl
    fits (suc zero) i e =
        let is : add sum j ≡ i = cc in
        subst (FitsAt count (adding name value sum j v next).instrs 1) is (record { exists = tt; operands_fit = (refl, (omega arith, tt)) })
    fits (suc (suc zero)) i e =
        let is : store (Reg 1) v ≡ i = cc in
        subst (FitsAt count (adding name value sum j v next).instrs 2) is (rw there refl)
    fits (suc (suc (suc k))) i e = cc

right_in : (count j : ℕ) → 4 * j + 4 < count → IsBlockIn (around count) (right j)
right_in count j lt = record {
  fits = λ k i e. cc;
  named = All-from_recursion (IsNamed (around count)) [] tt;
  ends = tt;
  targets_exist = All-from_recursion (IsTarget count) ((4 * j + 4) ∷ []) ((omega arith, lt), tt);
}

end_in : (count : ℕ) → IsBlockIn (around count) end
end_in count = record {
  fits = λ k i e. cc;
  named = All-from_recursion (IsNamed (around count)) [] tt;
  ends = omega arith;
  targets_exist = All-from_recursion (IsTarget count) [] tt;
}

tail_in : (count a k : ℕ) → 4 * (a + k) + 1 < count → AllByRecursion (IsBlockIn (around count)) (tail a k)
tail_in count a zero lt = (end_in count, tt)
tail_in count a (suc k) lt =
    let names = round_names a in (
      start_in count a (omega arith),
      (
        adding_in count names.left names.left_value names.left_sum a work.t (4 * a + 4) refl (omega arith, omega arith),
        (
          right_in count a (omega arith),
          (
            adding_in count names.join names.join_value names.join_sum a work.a (4 * a + 5) refl (omega arith, omega arith),
            tail_in count (a + 1) k (omega arith),
          ),
        ),
      ),
    )

-- ---- the function

blocks_in : (n : ℕ) → All (IsBlockIn (scope (workload_program n) (main_function n))) (main_function n).blocks
blocks_in n =
    let count = length (main_function n).blocks in
    let lt : 4 * (0 + n) + 1 < count = omega (arith, length_tail 0 n) in
    All-from_recursion (IsBlockIn (scope (workload_program n) (main_function n))) (main_function n).blocks (entry_in count (omega arith), tail_in count 0 n lt)

main_in : (n : ℕ) → n ≤ 10000 → IsFunctionIn (workload_program n) (main_function n)
main_in n le = record {
  named = record { some = omega arith; quotable = refl };
  spellable = spellable n;
  names_differ = names_differ n (omega arith);
  numbers_count = numbers_count n;
  blocks = blocks_in n;
  declared = λ e. cc;
  few_params = omega arith;
  few = omega (arith, length_tail 0 n, sum_by-cons (λ (b : Block). length b.instrs) entry (tail 0 n), sum_tail (λ (b : Block). length b.instrs) 8 (λ j. refl) 0 n);
}

one_symbol : AllPairs (λ a b. a ≢ b) (codes "main" ∷ [])
one_symbol i j d less within same = absurd (omega arith)

pub keeps_rules : (n : ℕ) → n ≤ 10000 → IsWellFormed (workload_program n)
keeps_rules n le = record {
  symbols_differ = one_symbol;
  globals = All-from_recursion IsGlobal [] tt;
  functions = All-from_recursion (IsFunctionIn (workload_program n)) (main_function n ∷ []) (main_in n le, tt);
  few_globals = omega arith;
  few_functions = omega arith;
}

main_within : (n : ℕ) → n ≤ 10000 → IsWithinLimits (main_function n)
main_within n le = record {
  instrs = omega (arith, sum_by-cons (λ (b : Block). length b.instrs) entry (tail 0 n), sum_tail (λ (b : Block). length b.instrs) 8 (λ j. refl) 0 n);
  blocks = omega (arith, length_tail 0 n);
  slots = omega (arith, sum_by-cons (λ (b : Block). slot_count b.term) entry (tail 0 n), sum_tail (λ (b : Block). slot_count b.term) 5 (λ j. refl) 0 n);
  vars = omega arith;
}

pub keeps_limits : (n : ℕ) → n ≤ 10000 → All IsWithinLimits (workload_program n).functions
keeps_limits n le = All-from_recursion IsWithinLimits (main_function n ∷ []) (main_within n le, tt)
