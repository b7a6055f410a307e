-- Terminators without a problem fit: their operands, their blocks and the values of their cases.
use Rattle.std.proofs.Common.{◌≡◌, ◌<◌, ◌^◌, ◌++◌, ◌||◌, ℕ, zero, suc, Bool, false, List, [], ◌∷◌, Option, None, Some, length, map, get_or, refl, sym, ap, ◌∙◌, arith}
use Rattle.std.specs.Prelude.{◌≢◌, ◌==◌, All, AllPairs, option_to_list}
use Rattle.std.specs.List.{list_any}
use Rattle.std.proofs.lemmas.Bool.Decides.{nat_tests}
use Rattle.std.proofs.lemmas.List.Elements.{All-nil, All-cons, All-head, All-tail, All-weaker}
use Rattle.mc_num.specs.Op.{bits}
use Rattle.mc_num.specs.declared.op.Width.{Width}
use Rattle.mc_num.specs.declared.op.Width.TheVariants.{I1}
use Rattle.ir_types.specs.declared.span.Span.{Span}
use Rattle.ir_types.specs.declared.rules.Here.{Here}
use Rattle.ir_types.specs.declared.syntax.Instr.{Instr}
use Rattle.ir_types.specs.declared.syntax.Terminator.{Terminator}
use Rattle.ir_types.specs.declared.tree.RawCase.{RawCase}
use Rattle.ir_types.specs.declared.tree.RawTerm.{RawTerm}
use Rattle.ir_types.specs.declared.tree.RawTerm.TheVariants as term
use Rattle.ir_types.specs.declared.tree.Ty.TheVariants.{Int, Void}
use Rattle.ir_types.specs.Limits.{raw_slot_count}
use Rattle.ir_types.specs.Uses.{Context, is_seen, cases_problem}
use Rattle.ir_types.specs.Rules.{term_problem}
use Rattle.ir_types.specs.ModuleOf.{constant_of, operand_of, target_of, case_of, term_of, width_of}
use Rattle.ir_types.specs.WellFormed.{Scope, HasWidth, Ends, targets}
use Rattle.ir_types.specs.Written.{IsSpelledCase, IsSpelledTerm}
use Rattle.tree_rules.proofs.Distinct.{both_none, kept}
use Rattle.tree_rules.proofs.Sorts.{neither}
use Rattle.tree_rules.proofs.Known.{Shape}
use Rattle.tree_rules.proofs.Uses.{one_type, scope_with, IsKnown, IsBehind, literal_counted, value_fits, label_fits}
use Rattle.tree_rules.proofs.Fitting.{some_holds}

-- ---- lists

pub length_same : {X Y : Type 0} (f : X → Y) (xs : List X) → length (map f xs) ≡ length xs
length_same f [] = refl
length_same f (x ∷ xs) = ap (λ (n : ℕ). suc n) (length_same f xs)

pub pairs_cons : {X : Type 0} (R : X → X → Type 0) (x : X) (xs : List X) → All (R x) xs → AllPairs R xs → (i j : ℕ) (d : X) → i < j → j < length (x ∷ xs) → R (get_or (x ∷ xs) i d) (get_or (x ∷ xs) j d)
pairs_cons R x xs head tail zero zero d l k = absurd (omega arith)
pairs_cons R x xs head tail zero (suc j) d l k = head j d (omega arith)
pairs_cons R x xs head tail (suc i) zero d l k = absurd (omega arith)
pairs_cons R x xs head tail (suc i) (suc j) d l k = tail i j d (omega arith) (omega arith)

or_false : (a b : Bool) → a ≡ false → b ≡ false → (a || b) ≡ false
or_false a b e f = rw (e, f) refl

any_push : {X : Type 0} (p : X → Bool) (xs : List X) (x : X) → list_any p (xs ++ x ∷ []) ≡ false → (list_any p xs ≡ false) × (p x ≡ false)
any_push p [] x h = (refl, (neither (p x) false h).0)
any_push p (y ∷ ys) x h =
    let parts = neither (p y) (list_any p (ys ++ x ∷ [])) h in
    let rest = any_push p ys x parts.1 in
    (or_false (p y) (list_any p ys) parts.0 rest.0, rest.1)

other_number : (a b : ℕ) → (a == b) ≡ false → a ≢ b
other_number a b h e = grind (arith, nat_tests)

-- ---- cases

-- the value of a case is none of these
abbrev IsNew : List ℕ → ℕ × ℕ → Type 0
IsNew seen c = list_any (λ x. x == c.0) seen ≡ false

abbrev IsTarget : ℕ → ℕ → Type 0
IsTarget blocks t = (0 < t) × (t < blocks)

record CasesFit (w : Width) (blocks : ℕ) (seen : List ℕ) (cases : List (ℕ × ℕ)) : Type 0 where
  fit : All (λ (c : ℕ × ℕ). c.0 < 2 ^ bits w) cases
  differ : AllPairs (λ (c : ℕ × ℕ) (d : ℕ × ℕ). c.0 ≢ d.0) cases
  new : All (IsNew seen) cases
  targets : All (IsTarget blocks) (map (λ (c : ℕ × ℕ). c.1) cases)

no_cases : (w : Width) (blocks : ℕ) (seen : List ℕ) → CasesFit w blocks seen []
no_cases w blocks seen = record {
  fit = All-nil (λ (c : ℕ × ℕ). c.0 < 2 ^ bits w);
  differ = λ i j d l k. absurd (omega arith);
  new = All-nil (IsNew seen);
  targets = All-nil (IsTarget blocks);
}

one_case : (w : Width) (blocks : ℕ) (seen : List ℕ) (c : ℕ × ℕ) (cases : List (ℕ × ℕ)) → c.0 < 2 ^ bits w → IsNew seen c → IsTarget blocks c.1 → CasesFit w blocks (seen ++ c.0 ∷ []) cases → CasesFit w blocks seen (c ∷ cases)
one_case w blocks seen c cases small new target rest = record {
  fit = All-cons (λ (c : ℕ × ℕ). c.0 < 2 ^ bits w) c cases small rest.fit;
  differ = pairs_cons (λ (c : ℕ × ℕ) (d : ℕ × ℕ). c.0 ≢ d.0) c cases
      (All-weaker (IsNew (seen ++ c.0 ∷ [])) (λ (d : ℕ × ℕ). c.0 ≢ d.0) (λ d h. other_number c.0 d.0 (any_push (λ x. x == d.0) seen c.0 h).1) cases rest.new) rest.differ;
  new = All-cons (IsNew seen) c cases new (All-weaker (IsNew (seen ++ c.0 ∷ [])) (IsNew seen) (λ d h. (any_push (λ x. x == d.0) seen c.0 h).0) cases rest.new);
  targets = All-cons (IsTarget blocks) c.1 (map (λ (c : ℕ × ℕ). c.1) cases) target rest.targets;
}

-- a terminator's operands fit, and its blocks are there and not the first
pub record EndsWell (s : Scope) (before : List Instr) (t : Terminator) : Type 0 where
  pub ends : Ends s before t
  pub targets : All (IsTarget s.blocks) (targets t)

module _ (c : Context) (globals : List Width) (sh : Shape) (known : IsKnown c globals sh) where
  cases_fit : (at : Here) (w : Width) (seen : List ℕ) (cases : List RawCase) → All IsSpelledCase cases → cases_problem c at w seen cases ≡ None → CasesFit w (length sh.blocks) seen (map (case_of c w) cases)
  unfolding cases_problem
  cases_fit at w seen [] spelled h = no_cases w (length sh.blocks) seen
  cases_fit at w seen (x ∷ xs) spelled h =
      let parts = both_none _ _ h in
      let first = both_none _ _ (both_none _ _ parts.0).1 in
      let second = both_none _ _ first.1 in
      let number = literal_counted c at w false x.value.span x.value.item (All-head IsSpelledCase x xs spelled) second.0 in
      let one : cases_problem c at w (seen ++ constant_of w x.value.item ∷ []) xs ≡ None = ap (λ (o : Option ℕ). cases_problem c at w (seen ++ option_to_list o) xs) (sym number.value) ∙ parts.1 in
      one_case w (length sh.blocks) seen (case_of c w x) (map (case_of c w) xs) number.small
      (ap (is_seen seen) (sym number.value) ∙ kept _ _ _ first.0)
      (label_fits c globals sh known at x.label second.1)
      (cases_fit at w (seen ++ constant_of w x.value.item ∷ []) xs (All-tail IsSpelledCase x xs spelled) one)

  pub term_fits : (at : Here) (before : List Instr) (word : Span) (t : RawTerm) → IsBehind (scope_with c globals sh) sh at before → IsSpelledTerm t → raw_slot_count t < 4294967295 → term_problem c at word t ≡ None
      → EndsWell (scope_with c globals sh) before (term_of c t)
  term_fits at before word (term.Return None) behind spelled few h = record { ends = ap width_of (one_type c.ret Void (kept _ _ _ h)); targets = All-nil (IsTarget (length sh.blocks)) }
  term_fits at before word (term.Return (Some v)) behind spelled few h =
      let parts = both_none _ _ h in
      record {
        ends = some_holds (λ w. HasWidth (scope_with c globals sh) before w (operand_of c v.0 v.1.item)) (width_of c.ret) v.0 (ap width_of (one_type c.ret (Int v.0) (kept _ _ _ parts.0))) (value_fits c globals sh known at before v.0 v.1 behind parts.1);
        targets = All-nil (IsTarget (length sh.blocks));
      }
  term_fits at before word (term.Jump target) behind spelled few h = record { ends = tt; targets = All-cons (IsTarget (length sh.blocks)) (target_of c target.item) [] (label_fits c globals sh known at target h) (All-nil (IsTarget (length sh.blocks))) }
  term_fits at before word (term.Branch test one other) behind spelled few h =
      let parts = both_none _ _ h in
      let labels = both_none _ _ parts.1 in
      record {
        ends = value_fits c globals sh known at before I1 test behind parts.0;
        targets = All-cons (IsTarget (length sh.blocks)) (target_of c one.item) (target_of c other.item ∷ []) (label_fits c globals sh known at one labels.0)
            (All-cons (IsTarget (length sh.blocks)) (target_of c other.item) [] (label_fits c globals sh known at other labels.1) (All-nil (IsTarget (length sh.blocks))));
      }
  term_fits at before word (term.Switch w v other cases) behind spelled few h =
      let parts = both_none _ _ h in
      let inner = both_none _ _ parts.1 in
      let fit = cases_fit at w [] cases spelled inner.1 in
      record {
        ends = (value_fits c globals sh known at before w v behind parts.0, record { fit = fit.fit; differ = fit.differ; few = omega (arith, few, length_same (case_of c w) cases) });
        targets = All-cons (IsTarget (length sh.blocks)) (target_of c other.item) (map (λ (c : ℕ × ℕ). c.1) (map (case_of c w) cases)) (label_fits c globals sh known at other inner.0) fit.targets;
      }
  term_fits at before word term.Unreachable behind spelled few h = record { ends = tt; targets = All-nil (IsTarget (length sh.blocks)) }
