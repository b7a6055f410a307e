-- The names of the function can be spelled, and differ: each tells its place.
use Rattle.std.proofs.Common.{◌≡◌, ◌≢◌, ℕ, zero, suc, ◌+◌, ◌*◌, ◌^◌, ◌<◌, ◌==◌, true, false, if◌then◌else◌, List, [], ◌∷◌, ◌++◌, Option, None, Some, length, map, get_or, All, refl, sym, ap, ◌∙◌, arith}
use Rattle.std.specs.Prelude.{AllPairs, codes}
use Rattle.std.specs.Fmt.{decimal}
use Rattle.std.specs.List.{range_with_len, list_all, AllByRecursion}
use Rattle.std.proofs.lemmas.List.{get_or-map, length-map}
use Rattle.std.proofs.lemmas.List.Folds.{list_all-append}
use Rattle.std.proofs.lemmas.List.FromFn.{length-range_with_len, get_or-range_with_len}
use Rattle.std.proofs.lemmas.List.Elements.{All-from_recursion}
use Rattle.ir_types.specs.Bytes.{heads, is_digit, is_quotable}
use Rattle.ir_types.specs.Names.{spelled, IsNameText, IsSpellable}
use Rattle.ir_types.specs.WellFormed.{names, block_names, CountFrom}
use Rattle.ir_types.specs.declared.name.Name.{Name}
use Rattle.ir_types.specs.declared.name.Name.TheVariants.{Text, Number, Made}
use Rattle.ir_types.proofs.Decimals.{decimal_quotable}
use Rattle.profile.specs.Forms.{number_of, front_digits, front_number}
use Rattle.profile.proofs.Fronts.{front_decimal}
use Rattle.workload.specs.Workload.{main_function}
use Rattle.workload.proofs.Tails.{tail}

-- ---- the place of a name

-- by its letter
abbrev base : ℕ → ℕ
base c = if c == 115 then 0 else (if c == 108 then 3 else (if c == 114 then 6 else 7))

-- by what stands behind the number
abbrev behind : List ℕ → ℕ
behind [] = 0
behind (dot ∷ []) = 0
behind (dot ∷ b ∷ bs) = if b == 97 then 1 else 2

-- a name without a number
abbrev fixed : ℕ → ℕ → List ℕ → ℕ
fixed n c rest = if c == 97 then 1 else (if c == 116 then 2 else (if length rest == 4 then 0 else (10 * n + 3)))

abbrev found : ℕ → ℕ → List ℕ → Option (ℕ × List ℕ) → ℕ
found n c rest None = fixed n c rest
found n c rest (Some r) = 10 * r.0 + (3 + (base c + behind r.1))

abbrev place : ℕ → Name → ℕ
place n (Text []) = 0
place n (Text (c ∷ rest)) = found n c rest (front_number (32 ∷ rest))
place n (Number _) = 0
place n (Made _ _) = 0

at : (n c j : ℕ) (part : List ℕ) → j < 2 ^ 64 → heads is_digit part ≡ false → (m : ℕ) → m ≡ 10 * j + (3 + (base c + behind part)) → place n (Text (c ∷ (decimal j ++ part))) ≡ m
at n c j part lt stop m is = ap (found n c (decimal j ++ part)) (front_decimal j part lt stop) ∙ sym is

at_entry : (n : ℕ) → place n (Text (codes "entry")) ≡ 0
unfolding front_number front_digits number_of
at_entry n = refl

at_first : (n : ℕ) → place n (Text (codes "a")) ≡ 1
unfolding front_number front_digits number_of
at_first n = refl

at_second : (n : ℕ) → place n (Text (codes "t")) ≡ 2
unfolding front_number front_digits number_of
at_second n = refl

at_end : (n : ℕ) → place n (Text (codes "end")) ≡ 10 * n + 3
unfolding front_number front_digits number_of
at_end n = refl

cons : (x y : ℕ) (xs ys : List ℕ) → x ≡ y → xs ≡ ys → x ∷ xs ≡ y ∷ ys
cons x y xs ys p q = cc

ten_more : (k : ℕ) → suc (suc (suc (suc (suc (suc (suc (suc (suc (suc (10 * k + 1)))))))))) ≡ 10 * suc k + 1
ten_more k = omega arith

places : (n a k : ℕ) → a + k ≡ n → n < 2 ^ 64 → map (place n) (map spelled (block_names (tail a k))) ≡ range_with_len (10 * a + 3) (10 * k + 1)
places n a zero e lt = cons _ _ _ _ (let same : 10 * n + 3 ≡ 10 * a + 3 = omega (arith, e) in at_end n ∙ same) refl
places n a (suc k) e lt =
    let more = places n (a + 1) k (omega (arith, e)) lt in
    let small : a < 2 ^ 64 = omega (arith, e) in
    let next : 10 * (a + 1) + 3 ≡ 10 * a + 3 + 1 + 1 + 1 + 1 + 1 + 1 + 1 + 1 + 1 + 1 = omega arith in
    cons _ _ _ _ (at n 115 a [] small refl (10 * a + 3) (omega arith)) (
    cons _ _ _ _ (at n 115 a (codes ".a") small refl (10 * a + 3 + 1) (omega arith)) (
    cons _ _ _ _ (at n 115 a (codes ".c") small refl (10 * a + 3 + 1 + 1) (omega arith)) (
    cons _ _ _ _ (at n 108 a [] small refl (10 * a + 3 + 1 + 1 + 1) (omega arith)) (
    cons _ _ _ _ (at n 108 a (codes ".a") small refl (10 * a + 3 + 1 + 1 + 1 + 1) (omega arith)) (
    cons _ _ _ _ (at n 108 a (codes ".v") small refl (10 * a + 3 + 1 + 1 + 1 + 1 + 1) (omega arith)) (
    cons _ _ _ _ (at n 114 a [] small refl (10 * a + 3 + 1 + 1 + 1 + 1 + 1 + 1) (omega arith)) (
    cons _ _ _ _ (at n 106 a [] small refl (10 * a + 3 + 1 + 1 + 1 + 1 + 1 + 1 + 1) (omega arith)) (
    cons _ _ _ _ (at n 106 a (codes ".a") small refl (10 * a + 3 + 1 + 1 + 1 + 1 + 1 + 1 + 1 + 1) (omega arith)) (
    cons _ _ _ _ (at n 106 a (codes ".v") small refl (10 * a + 3 + 1 + 1 + 1 + 1 + 1 + 1 + 1 + 1 + 1) (omega arith))
    (more ∙ ap (λ x. range_with_len x (10 * k + 1)) next)
    )
    )
    )
    )
    )
    )
    )
    )
    )
    ∙ ap (range_with_len (10 * a + 3)) (ten_more k)

all_places : (n : ℕ) → n < 2 ^ 64 → map (place n) (map spelled (names (main_function n))) ≡ range_with_len 0 (10 * n + 4)
all_places n lt =
    let more : suc (suc (suc (10 * n + 1))) ≡ 10 * n + 4 = omega arith in
    cons _ _ _ _ (at_entry n) (cons _ _ _ _ (at_first n) (cons _ _ _ _ (at_second n) (places n 0 n (omega arith) lt))) ∙ ap (range_with_len 0) more

-- names that tell their places differ
apart : (f : Name → ℕ) (xs : List Name) (m : ℕ) → map f xs ≡ range_with_len 0 m → AllPairs (λ a b. a ≢ b) xs
apart f xs m e i j d less within same =
    let len : length xs ≡ m = sym (length-map xs f) ∙ (ap length e ∙ length-range_with_len 0 m) in
    let i' : f (get_or xs i d) ≡ 0 + i = sym (get_or-map f xs i d 0 (omega arith)) ∙ (ap (λ l. get_or l i 0) e ∙ get_or-range_with_len 0 m i 0 (omega (arith, len))) in
    let j' : f (get_or xs j d) ≡ 0 + j = sym (get_or-map f xs j d 0 (omega arith)) ∙ (ap (λ l. get_or l j 0) e ∙ get_or-range_with_len 0 m j 0 (omega (arith, len))) in
    let equal : f (get_or xs i d) ≡ f (get_or xs j d) = ap f same in
    omega (arith, i', j', equal)

pub names_differ : (n : ℕ) → n < 2 ^ 64 → AllPairs (λ a b. a ≢ b) (map spelled (names (main_function n)))
names_differ n lt = apart (place n) (map spelled (names (main_function n))) (10 * n + 4) (all_places n lt)

-- ---- spelling

good : (c j : ℕ) (part : List ℕ) → is_quotable c ≡ true → list_all is_quotable part ≡ true → IsNameText (c ∷ (decimal j ++ part))
good c j part first last = record {
  some = omega arith;
  quotable = rw (first, list_all-append is_quotable (decimal j) part, decimal_quotable j, last) refl;
}

spellable_tail : (a k : ℕ) → AllByRecursion IsSpellable (block_names (tail a k))
spellable_tail a zero = (record { some = omega arith; quotable = refl }, tt)
spellable_tail a (suc k) = (
  good 115 a [] refl refl,
  (
    good 115 a (codes ".a") refl refl,
    (
      good 115 a (codes ".c") refl refl,
      (
        good 108 a [] refl refl,
        (
          good 108 a (codes ".a") refl refl,
          (
            good 108 a (codes ".v") refl refl,
            (
              good 114 a [] refl refl,
              (
                good 106 a [] refl refl,
                (
                  good 106 a (codes ".a") refl refl,
                  (
                    good 106 a (codes ".v") refl refl,
                    spellable_tail (a + 1) k,
                  ),
                ),
              ),
            ),
          ),
        ),
      ),
    ),
  ),
)

pub spellable : (n : ℕ) → All IsSpellable (names (main_function n))
spellable n = All-from_recursion IsSpellable (names (main_function n)) (
  record { some = omega arith; quotable = refl },
  (record { some = omega arith; quotable = refl }, (record { some = omega arith; quotable = refl }, spellable_tail 0 n)),
)

-- ---- no name is a number

count_tail : (a k : ℕ) → CountFrom 0 (block_names (tail a k))
count_tail a zero = tt
count_tail a (suc k) = count_tail (a + 1) k

pub numbers_count : (n : ℕ) → CountFrom 0 (names (main_function n))
numbers_count n = count_tail 0 n
