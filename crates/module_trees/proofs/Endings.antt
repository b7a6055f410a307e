-- What ends a block of a tree has no problem, and means what ends the block.
use Rattle.std.proofs.Common.{◌≡◌, ◌≢◌, ◌<◌, ◌^◌, ◌++◌, ◌==◌, ◌||◌, not, ℕ, suc, false, List, [], ◌∷◌, Option, None, Some, IsSomeAnd, length, map, take, slice_get, slice_index_or, refl, sym, ap, subst, ◌∙◌, append_assoc, nat_eq, arith}
use Rattle.std.specs.Prelude.{AllPairs}
use Rattle.std.specs.Option.{option_to_list, option_map_or}
use Rattle.std.specs.List.{AllZip, AllByRecursion, IsDistinct, list_any}
use Rattle.std.proofs.lemmas.List.Elements.{recursion_from_All}
use Rattle.std.proofs.lemmas.Bool.Decides.{nat_tests}
use Rattle.mc_num.specs.Op.{bits}
use Rattle.mc_num.specs.declared.op.Width.{Width}
use Rattle.mc_num.specs.declared.op.Width.TheVariants.{I1}
use Rattle.ir_types.specs.Program.{Program}
use Rattle.ir_types.specs.Literals.{literal_value}
use Rattle.ir_types.specs.ModuleOf.{case_of, term_of}
use Rattle.ir_types.specs.Rules.{term_problem}
use Rattle.ir_types.specs.Uses.{Context, same_width, same_type, is_seen, item_problem, case_problem, cases_problem}
use Rattle.ir_types.specs.TreeOf.{type_tree, value_tree, label_tree, IsTreeCase, IsTreeTerm}
use Rattle.ir_types.specs.WellFormed.{scope, HasWidth, Ends, AreCases, IsBlockIn, targets}
use Rattle.ir_types.specs.declared.name.Name.{Name}
use Rattle.ir_types.specs.declared.rules.Here.{Here}
use Rattle.ir_types.specs.declared.rules.Rule.TheVariants as rule
use Rattle.ir_types.specs.declared.span.At.{At}
use Rattle.ir_types.specs.declared.span.Span.{Span}
use Rattle.ir_types.specs.declared.syntax.Block.{Block}
use Rattle.ir_types.specs.declared.syntax.Function.{Function}
use Rattle.ir_types.specs.declared.syntax.Operand.{Operand}
use Rattle.ir_types.specs.declared.syntax.Terminator.{Terminator}
use Rattle.ir_types.specs.declared.syntax.Terminator.TheVariants.{Return, Jump, Branch, Switch, Unreachable}
use Rattle.ir_types.specs.declared.tree.RawCase.{RawCase}
use Rattle.ir_types.specs.declared.tree.RawTerm.{RawTerm}
use Rattle.ir_types.specs.declared.tree.RawTerm.TheVariants as terms
use Rattle.ir_types.specs.declared.tree.RawValue.{RawValue}
use Rattle.ir_types.specs.declared.tree.Ty.TheVariants.{Int, Void}
use Rattle.module_trees.proofs.Literals.{IsMeantLiteral, literal_meant}
use Rattle.module_trees.proofs.Problems.{then_none, unbroken}
use Rattle.module_trees.proofs.Uses.{Knows, IsMeantValue, IsMeantLabel, value_meant, label_meant, same_as_itself}

-- ---- values of cases

differ : (n k : ℕ) → n ≢ k → (n == k) ≡ false
differ n k h = grind (arith, nat_tests, h)

head_apart : (n : ℕ) (cs : List (ℕ × ℕ)) → ((j : ℕ) (d : ℕ × ℕ) → j < length cs → n ≢ (slice_index_or cs j d).0) → AllByRecursion (λ y. (n == y) ≡ false) (map (λ c. c.0) cs)
head_apart n [] h = tt
head_apart n (c ∷ cs) h = (differ n c.0 (h 0 c (omega arith)), head_apart n cs (λ j d less. h (suc j) d (omega (arith, less))))

values_distinct : (cs : List (ℕ × ℕ)) → AllPairs (λ c d. c.0 ≢ d.0) cs → IsDistinct nat_eq (map (λ c. c.0) cs)
unfolding IsDistinct
values_distinct [] h = tt
values_distinct (c ∷ cs) h = (
  head_apart c.0 cs (λ j d less. h 0 (suc j) d (omega arith) (omega (arith, less))),
  values_distinct cs (λ i j d before less. h (suc i) (suc j) d (omega (arith, before)) (omega (arith, less))),
)

at_middle : (P : ℕ → Type 0) (ks : List ℕ) (x : ℕ) (xs : List ℕ) → AllByRecursion P (ks ++ x ∷ xs) → P x
at_middle P [] x xs h = h.0
at_middle P (k ∷ ks) x xs h = at_middle P ks x xs h.1

not_seen : (seen : List ℕ) (v : ℕ) (vs : List ℕ) → IsDistinct nat_eq (seen ++ v ∷ vs) → list_any (λ x. x == v) seen ≡ false
unfolding IsDistinct
not_seen [] v vs h = refl
not_seen (k ∷ seen) v vs h =
    let first : (k == v) ≡ false = at_middle (λ y. (k == y) ≡ false) seen v vs h.0 in
    let more : list_any (λ x. x == v) seen ≡ false = not_seen seen v vs h.1 in
    λ i. first i || more i

-- a block of the function may be named by this number
abbrev pub IsTarget : ℕ → ℕ → Type 0
IsTarget blocks t = (0 < t) × (t < blocks)

module _ (m : Program) (f : Function) (c : Context) (known : Knows m f c) (k : ℕ) (b : Block) (there : slice_get f.blocks k ≡ Some b) (rules_of : IsBlockIn (scope m f) b) (n : ℕ) (all : take n b.instrs ≡ b.instrs) where
  at : Here
  at = record { block = k; instr = n }

  value : (w : Width) (o : Operand) (v : At RawValue) → HasWidth (scope m f) b.instrs w o → v.item ≡ value_tree f b w o → IsMeantValue c at w o v.span v.item
  unfolding at
  value w o v h e = value_meant m f c known k b there rules_of n w o v.span v.item (subst (λ is. HasWidth (scope m f) is w o) (sym all) h) e

  label : (t : ℕ) (l : At Name) → IsTarget (length f.blocks) t → l.item ≡ label_tree f t → IsMeantLabel c at t l.span l.item
  label t l h e = label_meant m f c known at t l.span l.item h.0 h.1 e

  record AreMeantCases (w : Width) (seen : List ℕ) (cs : List (ℕ × ℕ)) (xs : List RawCase) : Type 0 where
    problem : cases_problem c at w seen xs ≡ None
    means : map (case_of c w) xs ≡ cs

  record IsMeantCase (w : Width) (seen : List ℕ) (x : ℕ × ℕ) (y : RawCase) : Type 0 where
    problem : case_problem c at w seen y ≡ None
    means : case_of c w y ≡ x
    counts : literal_value w y.value.item ≡ Some x.0

  case_meant : (w : Width) (seen : List ℕ) (x : ℕ × ℕ) (y : RawCase) → x.0 < 2 ^ bits w → IsTarget (length f.blocks) x.1 → list_any (λ z. z == x.0) seen ≡ false → IsTreeCase f w x y
      → IsMeantCase w seen x y
  case_meant w seen x y fits exists new t =
      let literal : IsMeantLiteral c at w x.0 y.value.span = literal_meant c at y.value.span w x.0 fits in
      let target : IsMeantLabel c at x.1 y.label.span y.label.item = label x.1 y.label exists t.label in
      let counts : literal_value w y.value.item ≡ Some x.0 = ap (literal_value w) t.value ∙ literal.counts in
      record {
        problem =
            then_none _ _ (unbroken rule.BadType y.width.span _ (ap (λ z. not (same_width z w)) t.width ∙ ap not (same_as_itself w)))
            (then_none _ _ (unbroken rule.Duplicate y.value.span _ (ap (is_seen seen) counts ∙ new))
            (then_none _ _ (ap (item_problem c at w false y.value.span) t.value ∙ literal.problem) target.problem));
        means = λ i. (option_map_or (λ (v : ℕ). v) (counts i) 0, target.means i);
        counts = counts;
      }

  cases_meant : (w : Width) (seen : List ℕ) (cs : List (ℕ × ℕ)) (xs : List RawCase) → AllByRecursion (λ x. x.0 < 2 ^ bits w) cs
      → AllByRecursion (IsTarget (length f.blocks)) (map (λ x. x.1) cs) → IsDistinct nat_eq (seen ++ map (λ x. x.0) cs) → AllZip (IsTreeCase f w) cs xs → AreMeantCases w seen cs xs
  unfolding cases_problem
  cases_meant w seen [] [] fit exist apart t = record { problem = refl; means = refl }
  cases_meant w seen [] (y ∷ ys) fit exist apart t = elim t [ ]
  cases_meant w seen (x ∷ cs) [] fit exist apart t = elim t [ ]
  cases_meant w seen (x ∷ cs) (y ∷ ys) fit exist apart t =
      let one : IsMeantCase w seen x y = case_meant w seen x y fit.0 exist.0 (not_seen seen x.0 (map (λ (z : ℕ × ℕ). z.0) cs) apart) t.0 in
      let next : List ℕ = seen ++ option_to_list (literal_value w y.value.item) in
      let next_is : next ≡ seen ++ x.0 ∷ [] = ap (λ (o : Option ℕ). seen ++ option_to_list o) one.counts in
      let apart_next : IsDistinct nat_eq (next ++ map (λ (z : ℕ × ℕ). z.0) cs) =
      subst (λ ks. IsDistinct nat_eq (ks ++ map (λ (z : ℕ × ℕ). z.0) cs)) (sym next_is)
      (subst (IsDistinct nat_eq) (sym (append_assoc seen (x.0 ∷ []) (map (λ (z : ℕ × ℕ). z.0) cs))) apart) in
      let more : AreMeantCases w next cs ys = cases_meant w next cs ys fit.1 exist.1 apart_next t.1 in
      record { problem = then_none _ _ one.problem more.problem; means = λ i. one.means i ∷ more.means i }

  -- ---- terminators

  pub record IsMeantTerm (word : Span) (t : Terminator) (x : RawTerm) : Type 0 where
    pub problem : term_problem c (record { block = k; instr = n }) word x ≡ None
    pub means : term_of c x ≡ t

  return_meant : (word : Span) (v : Option Operand) (x : RawTerm) → Ends (scope m f) b.instrs (Return v) → IsTreeTerm f b (Return v) x → IsMeantTerm word (Return v) x
  unfolding at
  return_meant word None (terms.Return None) ends t = record {
    problem = unbroken rule.BadType word _ (ap (λ r. not (same_type r Void)) (known.ret ∙ ap type_tree ends));
    means = refl;
  }
  return_meant word (Some o) (terms.Return (Some v)) ends t =
      let fits : HasWidth (scope m f) b.instrs v.0 o = subst (λ r. IsSomeAnd r (λ w. HasWidth (scope m f) b.instrs w o)) t.0 ends in
      let one = value v.0 o v.1 fits t.1 in
      record {
        problem = then_none _ _ (unbroken rule.BadType word _ (ap (λ r. not (same_type r (Int v.0))) (known.ret ∙ ap type_tree t.0) ∙ ap not (same_as_itself v.0))) one.problem;
        means = ap (λ o. Return (Some o)) one.means;
      }
  return_meant word None _ ends t = elim t [ ]
  return_meant word (Some o) _ ends t = elim t [ ]

  jump_meant : (word : Span) (t : ℕ) (x : RawTerm) → IsTarget (length f.blocks) t → IsTreeTerm f b (Jump t) x → IsMeantTerm word (Jump t) x
  unfolding at
  jump_meant word t (terms.Jump l) exists e = let one = label t l exists e in record { problem = one.problem; means = ap Jump one.means }
  jump_meant word t _ exists e = elim e [ ]

  branch_meant : (word : Span) (o : Operand) (t u : ℕ) (x : RawTerm) → HasWidth (scope m f) b.instrs I1 o → IsTarget (length f.blocks) t → IsTarget (length f.blocks) u
      → IsTreeTerm f b (Branch o t u) x → IsMeantTerm word (Branch o t u) x
  unfolding at
  branch_meant word o t u (terms.Branch v l r) fits exists other_exists e =
      let test = value I1 o v fits e.0 in
      let one = label t l exists e.1 in
      let other = label u r other_exists e.2 in
      record { problem = then_none _ _ test.problem (then_none _ _ one.problem other.problem); means = λ i. Branch (test.means i) (one.means i) (other.means i) }
  branch_meant word o t u _ fits exists other_exists e = elim e [ ]

  switch_of : (word : Span) (w : Width) (o : Operand) (t : ℕ) (cs : List (ℕ × ℕ)) (v : At RawValue) (l : At Name) (xs : List RawCase) → HasWidth (scope m f) b.instrs w o → AreCases w cs
      → AllByRecursion (IsTarget (length f.blocks)) (t ∷ map (λ x. x.1) cs) → v.item ≡ value_tree f b w o → l.item ≡ label_tree f t → AllZip (IsTreeCase f w) cs xs
      → IsMeantTerm word (Switch w o t cs) (terms.Switch w v l xs)
  unfolding at
  switch_of word w o t cs v l xs fits cases exist e g h =
      let one = value w o v fits e in
      let other = label t l exist.0 g in
      let rest : AreMeantCases w [] cs xs = cases_meant w [] cs xs (recursion_from_All (λ x. x.0 < 2 ^ bits w) cs cases.fit) exist.1 (values_distinct cs cases.differ) h in
      record {
        problem = then_none _ _ one.problem (then_none _ _ other.problem rest.problem);
        means = λ i. Switch w (one.means i) (other.means i) (rest.means i);
      }

  switch_meant : (word : Span) (w : Width) (o : Operand) (t : ℕ) (cs : List (ℕ × ℕ)) (x : RawTerm) → HasWidth (scope m f) b.instrs w o → AreCases w cs
      → AllByRecursion (IsTarget (length f.blocks)) (t ∷ map (λ x. x.1) cs) → IsTreeTerm f b (Switch w o t cs) x → IsMeantTerm word (Switch w o t cs) x
  switch_meant word w o t cs (terms.Switch v y l xs) fits cases exist e =
      subst (λ z. IsMeantTerm word (Switch w o t cs) (terms.Switch z y l xs)) (sym e.0) (switch_of word w o t cs y l xs fits cases exist e.1 e.2 e.3)
  switch_meant word w o t cs _ fits cases exist e = elim e [ ]

  unreachable_meant : (word : Span) (x : RawTerm) → IsTreeTerm f b Unreachable x → IsMeantTerm word Unreachable x
  unreachable_meant word terms.Unreachable e = record { problem = refl; means = refl }
  unreachable_meant word _ e = elim e [ ]

  by_form : (word : Span) (t : Terminator) (x : RawTerm) → Ends (scope m f) b.instrs t → AllByRecursion (IsTarget (length f.blocks)) (targets t) → IsTreeTerm f b t x → IsMeantTerm word t x
  by_form word (Return v) x ends exist e = return_meant word v x ends e
  by_form word (Jump t) x ends exist e = jump_meant word t x exist.0 e
  by_form word (Branch o t u) x ends exist e = branch_meant word o t u x ends exist.0 exist.1.0 e
  by_form word (Switch w o t cs) x ends exist e = switch_meant word w o t cs x ends.0 ends.1 exist e
  by_form word Unreachable x ends exist e = unreachable_meant word x e

  pub term_meant : (word : Span) (x : RawTerm) → IsTreeTerm f b b.term x → IsMeantTerm word b.term x
  term_meant word x e = by_form word b.term x rules_of.ends (recursion_from_All (IsTarget (length f.blocks)) (targets b.term) rules_of.targets_exist) e
