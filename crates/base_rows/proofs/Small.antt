-- The small module that tests run keeps the rules of modules.
use Rattle.std.proofs.Common.{◌≡◌, ◌≢◌, ◌<◌, ◌+◌, inr, ℕ, zero, suc, List, [], ◌∷◌, ◌++◌, Some, length, map, take, All, refl, sym, ◌∙◌, subst, arith, lit<, lit≤, append_assoc}
use Rattle.std.specs.Prelude.{codes, slice_get, AllPairs}
use Rattle.std.proofs.lemmas.List.Elements.{All-nil, All-cons}
use Rattle.std.proofs.lemmas.List.Kept.{AllPairs-cons}
use Rattle.std.proofs.lemmas.List.{append-nil}
use Rattle.ir_types.specs.Names.{spelled, IsSpellable, no_number}
use Rattle.ir_types.specs.WellFormed.{Scope, scope, Fits, IsNamed, IsBlockIn, IsFunctionIn, IsGlobal, IsWellFormed, putchar, symbols, names}
use Rattle.ir_types.specs.declared.name.Name.{Name}
use Rattle.ir_types.specs.declared.name.Name.TheVariants.{Number}
use Rattle.ir_types.specs.declared.syntax.Operand.TheVariants.{Reg}
use Rattle.ir_types.specs.declared.syntax.Variable.TheVariants.{Local, Global}
use Rattle.ir_types.specs.declared.syntax.Kind.TheVariants.{Load, Call}
use Rattle.ir_types.specs.declared.syntax.Instr.{Instr}
use Rattle.ir_machine.specs.Code.{CanStart}
use Rattle.base_rows.specs.Small.{gives, keeps, kept_block, kept, main_block, main, letter, small}

number_is : (a b : ℕ) → Number a ≡ Number b → a ≡ b
number_is a b e = cc

abbrev AreNumbers : ℕ → List Name → Type 0
AreNumbers k [] = Unit {0}
AreNumbers k (n ∷ ns) = (n ≡ Number k) × AreNumbers (suc k) ns

differs_above : (a k : ℕ) (ns : List Name) → a < k → AreNumbers k ns → All (λ b. Number a ≢ b) ns
differs_above a k [] lt are = All-nil (λ b. Number a ≢ b)
differs_above a k (n ∷ ns) lt are =
    All-cons (λ b. Number a ≢ b) n ns (λ e. let same = number_is a k (e ∙ are.0) in absurd (omega (arith, same, lt))) (differs_above a (suc k) ns (omega arith) are.1)

all_differ : (k : ℕ) (ns : List Name) → AreNumbers k ns → AllPairs (λ a b. a ≢ b) ns
all_differ k [] are = λ i j d lt below. absurd (omega arith)
all_differ k (n ∷ ns) are =
    AllPairs-cons (λ a b. a ≢ b) n ns (subst (λ a. All (λ b. a ≢ b) ns) (sym are.0) (differs_above k (suc k) ns (omega arith) are.1)) (all_differ (suc k) ns are.1)

all_spellable : (k : ℕ) (ns : List Name) → AreNumbers k ns → k + length ns < no_number → All IsSpellable ns
all_spellable k [] are few = All-nil IsSpellable
all_spellable k (n ∷ ns) are few =
    All-cons IsSpellable n ns (subst IsSpellable (sym are.0) (omega arith)) (all_spellable (suc k) ns are.1 (omega arith))

-- each instruction fits after those before it
abbrev AllFit : Scope → List Instr → List Instr → Type 0
AllFit s before [] = Unit {0}
AllFit s before (i ∷ is) = Fits s before i.kind × AllFit s (before ++ i ∷ []) is

fits_at : (s : Scope) (before is : List Instr) → AllFit s before is → (k : ℕ) (i : Instr) → slice_get is k ≡ Some i → Fits s (before ++ take k is) i.kind
fits_at s before [] all k i e = cc
fits_at s before (x ∷ is) all zero i e =
    let same : x ≡ i = cc in
    subst (λ y. Fits s (before ++ []) y.kind) same (subst (λ l. Fits s l x.kind) (sym (append-nil before)) all.0)
fits_at s before (x ∷ is) all (suc k) i e =
    subst (λ l. Fits s l i.kind) (append_assoc before (x ∷ []) (take k is)) (fits_at s (before ++ x ∷ []) is all.1 k i e)

differ_by_heads : (x y : ℕ) (xs ys : List ℕ) → x < y → (x ∷ xs) ≢ (y ∷ ys)
differ_by_heads x y xs ys lt e = let same : x ≡ y = cc in absurd (omega (arith, same, lt))

differ_by_heads' : (x y : ℕ) (xs ys : List ℕ) → y < x → (x ∷ xs) ≢ (y ∷ ys)
differ_by_heads' x y xs ys lt e = let same : x ≡ y = cc in absurd (omega (arith, same, lt))

abbrev Differ : List ℕ → List ℕ → Type 0
Differ a b = a ≢ b

small_symbols_differ : AllPairs (λ a b. a ≢ b) (symbols small)
small_symbols_differ =
    AllPairs-cons Differ (codes "g") (codes "putchar" ∷ codes "f" ∷ codes "main" ∷ [])
    (All-cons (Differ (codes "g")) (codes "putchar") (codes "f" ∷ codes "main" ∷ []) (differ_by_heads 103 112 _ _ (lit< tt))
    (All-cons (Differ (codes "g")) (codes "f") (codes "main" ∷ []) (differ_by_heads' 103 102 _ _ (lit< tt))
    (All-cons (Differ (codes "g")) (codes "main") [] (differ_by_heads 103 109 _ _ (lit< tt)) (All-nil (Differ (codes "g"))))))
    (AllPairs-cons Differ (codes "putchar") (codes "f" ∷ codes "main" ∷ [])
    (All-cons (Differ (codes "putchar")) (codes "f") (codes "main" ∷ []) (differ_by_heads' 112 102 _ _ (lit< tt))
    (All-cons (Differ (codes "putchar")) (codes "main") [] (differ_by_heads' 112 109 _ _ (lit< tt)) (All-nil (Differ (codes "putchar")))))
    (AllPairs-cons Differ (codes "f") (codes "main" ∷ [])
    (All-cons (Differ (codes "f")) (codes "main") [] (differ_by_heads 102 109 _ _ (lit< tt)) (All-nil (Differ (codes "f"))))
    (AllPairs-cons Differ (codes "main") [] (All-nil (Differ (codes "main"))) (λ i j d lt below. absurd (omega arith)))))

putchar_is : IsFunctionIn small putchar
putchar_is = record {
  named = record { some = lit< tt; quotable = refl };
  spellable = all_spellable 0 (names putchar) (refl, tt) (lit< tt);
  names_differ = all_differ 0 (map spelled (names putchar)) (refl, tt);
  numbers_count = (refl, tt);
  blocks = All-nil (IsBlockIn (scope small putchar));
  declared = λ e. inr refl;
  few_params = lit≤ tt;
  few = lit< tt;
}

kept_is : IsFunctionIn small kept
kept_is = record {
  named = record { some = lit< tt; quotable = refl };
  spellable = all_spellable 0 (names kept) (refl, (refl, (refl, (refl, tt)))) (lit< tt);
  names_differ = all_differ 0 (map spelled (names kept)) (refl, (refl, (refl, (refl, tt))));
  numbers_count = (refl, (refl, (refl, (refl, tt))));
  blocks = All-cons (IsBlockIn (scope small kept)) kept_block [] kept_block_is (All-nil (IsBlockIn (scope small kept)));
  declared = λ e. cc;
  few_params = lit≤ tt;
  few = lit< tt;
}
  where
    kept_block_is : IsBlockIn (scope small kept) kept_block
    kept_block_is = record {
      fits = fits_at (scope small kept) [] kept_block.instrs (refl, (refl, tt));
      named = All-cons (IsNamed (scope small kept)) keeps (gives 3 (Load (Local 0)) ∷ []) ((λ x. x), (λ x. x)) (All-cons (IsNamed (scope small kept)) (gives 3 (Load (Local 0))) [] ((λ x. refl), (λ x. refl)) (All-nil (IsNamed (scope small kept))));
      ends = refl;
      targets_exist = All-nil (λ t. (0 < t) × (t < 1));
    }

main_is : IsFunctionIn small main
main_is = record {
  named = record { some = lit< tt; quotable = refl };
  spellable = all_spellable 0 (names main) (refl, (refl, (refl, (refl, tt)))) (lit< tt);
  names_differ = all_differ 0 (map spelled (names main)) (refl, (refl, (refl, (refl, tt))));
  numbers_count = (refl, (refl, (refl, (refl, tt))));
  blocks = All-cons (IsBlockIn (scope small main)) main_block [] main_block_is (All-nil (IsBlockIn (scope small main)));
  declared = λ e. cc;
  few_params = lit≤ tt;
  few = lit< tt;
}
  where
    main_block_is : IsBlockIn (scope small main) main_block
    main_block_is = record {
      fits = fits_at (scope small main) [] main_block.instrs (refl, ((refl, tt), ((refl, tt), tt)));
      named = All-cons (IsNamed (scope small main)) (gives 1 (Load (Global 0))) (gives 2 (Call 1 (Reg 0 ∷ [])) ∷ gives 3 (Call 0 (Reg 1 ∷ [])) ∷ []) ((λ x. refl), (λ x. refl)) (All-cons (IsNamed (scope small main)) (gives 2 (Call 1 (Reg 0 ∷ []))) (gives 3 (Call 0 (Reg 1 ∷ [])) ∷ []) ((λ x. refl), (λ x. refl)) (All-cons (IsNamed (scope small main)) (gives 3 (Call 0 (Reg 1 ∷ []))) [] ((λ x. refl), (λ x. refl)) (All-nil (IsNamed (scope small main)))));
      ends = refl;
      targets_exist = All-nil (λ t. (0 < t) × (t < 1));
    }

pub small_is : IsWellFormed small
small_is = record {
  symbols_differ = small_symbols_differ;
  globals = All-cons IsGlobal letter [] (record { named = record { some = lit< tt; quotable = refl }; fits = lit< tt }) (All-nil IsGlobal);
  functions = All-cons (IsFunctionIn small) putchar (kept ∷ main ∷ []) putchar_is (All-cons (IsFunctionIn small) kept (main ∷ []) kept_is (All-cons (IsFunctionIn small) main [] main_is (All-nil (IsFunctionIn small))));
  few_globals = lit< tt;
  few_functions = lit< tt;
}

pub small_starts : CanStart small 2
small_starts = record { function = main; there = refl; defined = λ e. cc; no_params = refl }
