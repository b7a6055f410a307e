-- Sums over slots, block by block.
use Rattle.std.proofs.Common.{◌≡◌, ℕ, ◌+◌, ◌<◌, ◌≤◌, ◌==◌, ◌&&◌, Bool, true, false, cond, List, [], ◌∷◌, ◌++◌, Some, length, take, drop, map, get_or, slice_get, sum, sum_by, refl, sym, ap, ◌∙◌, arith}
use Rattle.std.specs.List.{zip}
use Rattle.std.proofs.lemmas.List.{take_more, length-map, length-take-le, length-drop}
use Rattle.std.proofs.lemmas.List.Sums.{sum_by-cons, sum_by-append, sum_by_push, sum_by-drop_more}
use Rattle.std.proofs.lemmas.Option.{slice_get_within}
use Rattle.ir_types.specs.declared.syntax.Block.{Block}
use Rattle.flow_graph.specs.Slots.{slots_of, slots_from}
use Rattle.profile.specs.Sums.{into, entered, left}
use Rattle.profile.specs.Text.{width}
use Rattle.profile.proofs.Widths.{slots_cons}
use Rattle.profile.proofs.Outlines.{take_one}

-- ---- lists of pairs

zip_nil : {A B : Type 0} (xs : List A) → zip {X = B} xs [] ≡ []
zip_nil [] = refl
zip_nil (x ∷ xs) = refl

zip_append : {A B : Type 0} (xs ys : List A) (cs : List B) → zip (xs ++ ys) cs ≡ zip xs (take (length xs) cs) ++ zip ys (drop (length xs) cs)
zip_append [] ys cs = refl
zip_append (x ∷ xs) ys [] = sym (zip_nil ys)
zip_append (x ∷ xs) ys (c ∷ cs) = ap (λ l. (x, c) ∷ l) (zip_append xs ys cs)

zip_push : {A B : Type 0} (xs : List A) (cs : List B) (x : A) (c : B) → length xs ≡ length cs → zip (xs ++ x ∷ []) (cs ++ c ∷ []) ≡ zip xs cs ++ (x, c) ∷ []
zip_push [] [] x c e = refl
zip_push [] (d ∷ cs) x c e = absurd (omega (arith, e))
zip_push (y ∷ xs) [] x c e = absurd (omega (arith, e))
zip_push (y ∷ xs) (d ∷ cs) x c e = ap (λ l. (y, d) ∷ l) (zip_push xs cs x c (omega (arith, e)))

none_then : (n : ℕ) → 0 + n ≡ n
none_then n = omega arith

-- ---- the slots of one block

pub into_more : (b : ℕ) (ts cs : List ℕ) (i t c : ℕ) → slice_get ts i ≡ Some t → i < length cs → c ≡ get_or cs i c → into b (take (i + 1) ts) (take (i + 1) cs) ≡ into b (take i ts) (take i cs) + cond (t == b) c 0
into_more b ts cs i t c there lt is =
    let xs = take_one ts i t there in
    let ys : take (i + 1) cs ≡ take i cs ++ c ∷ [] = take_more cs i c lt ∙ ap (λ d. take i cs ++ d ∷ []) (sym is) in
    let same : length (take i ts) ≡ length (take i cs) = length-take-le i ts (omega (arith, slice_get_within ts i t there)) ∙ sym (length-take-le i cs (omega arith)) in
    ap (λ l. into b l (take (i + 1) cs)) xs ∙ ap (λ l. into b (take i ts ++ t ∷ []) l) ys
    ∙ ap (sum_by (λ (s : ℕ × ℕ). cond (s.0 == b) s.1 0)) (zip_push (take i ts) (take i cs) t c same)
    ∙ sum_by_push (λ (s : ℕ × ℕ). cond (s.0 == b) s.1 0) (zip (take i ts) (take i cs)) (t, c)

pub sum_left : (cs : List ℕ) (i c : ℕ) → i < length cs → c ≡ get_or cs i c → sum (drop i cs) ≡ c + sum (drop (i + 1) cs)
sum_left cs i c lt is = sum_by-drop_more (λ x. x) cs i c lt ∙ ap (λ n. n + sum (drop (i + 1) cs)) (sym is)

pub some_of : (r : Bool) (c : ℕ) → cond r c 0 ≤ c
some_of true c = omega arith
some_of false c = omega arith

pub into_le : (b : ℕ) (ts cs : List ℕ) → into b ts cs ≤ sum cs
into_le b [] cs = omega arith
into_le b (t ∷ ts) [] = omega arith
into_le b (t ∷ ts) (c ∷ cs) = omega (arith, sum_by-cons (λ (s : ℕ × ℕ). cond (s.0 == b) s.1 0) (t, c) (zip ts cs), sum_by-cons (λ (x : ℕ). x) c cs, some_of (t == b) c, into_le b ts cs)

-- ---- block by block

pub sum_split : (f : (ℕ × ℕ) × ℕ → ℕ) (i : ℕ) (x : Block) (xs : List Block) (cs : List ℕ) →
    sum_by f (zip (slots_from i (x ∷ xs)) cs) ≡ sum_by f (zip (map (λ (t : ℕ). (i, t)) (slots_of x.term)) (take (width x) cs)) + sum_by f (zip (slots_from (i + 1) xs) (drop (width x) cs))
sum_split f i x xs cs =
    let own = map (λ (t : ℕ). (i, t)) (slots_of x.term) in
    let len : length own ≡ width x = length-map (slots_of x.term) (λ (t : ℕ). (i, t)) in
    ap (sum_by f) (zip_append own (slots_from (i + 1) xs) cs ∙ ap (λ n. zip own (take n cs) ++ zip (slots_from (i + 1) xs) (drop n cs)) len)
    ∙ sum_by-append f (zip own (take (width x) cs)) (zip (slots_from (i + 1) xs) (drop (width x) cs))

entered_true : (test : ℕ → Bool) (b i : ℕ) (ts cs : List ℕ) → test i ≡ true → entered test b (zip (map (λ (t : ℕ). (i, t)) ts) cs) ≡ into b ts cs
entered_true test b i [] cs e = refl
entered_true test b i (t ∷ ts) [] e = refl
entered_true test b i (t ∷ ts) (c ∷ cs) e =
    sum_by-cons (λ (s : (ℕ × ℕ) × ℕ). cond (test s.0.0 && (s.0.1 == b)) s.1 0) ((i, t), c) (zip (map (λ (t : ℕ). (i, t)) ts) cs)
    ∙ ap (λ r. cond (r && (t == b)) c 0 + entered test b (zip (map (λ (t : ℕ). (i, t)) ts) cs)) e
    ∙ ap (λ n. cond (t == b) c 0 + n) (entered_true test b i ts cs e)
    ∙ sym (sum_by-cons (λ (s : ℕ × ℕ). cond (s.0 == b) s.1 0) (t, c) (zip ts cs))

entered_false : (test : ℕ → Bool) (b i : ℕ) (ts cs : List ℕ) → test i ≡ false → entered test b (zip (map (λ (t : ℕ). (i, t)) ts) cs) ≡ 0
entered_false test b i [] cs e = refl
entered_false test b i (t ∷ ts) [] e = refl
entered_false test b i (t ∷ ts) (c ∷ cs) e =
    sum_by-cons (λ (s : (ℕ × ℕ) × ℕ). cond (test s.0.0 && (s.0.1 == b)) s.1 0) ((i, t), c) (zip (map (λ (t : ℕ). (i, t)) ts) cs)
    ∙ ap (λ r. cond (r && (t == b)) c 0 + entered test b (zip (map (λ (t : ℕ). (i, t)) ts) cs)) e
    ∙ none_then (entered test b (zip (map (λ (t : ℕ). (i, t)) ts) cs)) ∙ entered_false test b i ts cs e

-- what enters by the slots of a block and by those behind it
pub entered_yes : (test : ℕ → Bool) (b i : ℕ) (x : Block) (xs : List Block) (cs : List ℕ) → test i ≡ true → entered test b (zip (slots_from i (x ∷ xs)) cs) ≡ into b (slots_of x.term) (take (width x) cs) + entered test b (zip (slots_from (i + 1) xs) (drop (width x) cs))
entered_yes test b i x xs cs e =
    sum_split (λ s. cond (test s.0.0 && (s.0.1 == b)) s.1 0) i x xs cs ∙ ap (λ n. n + entered test b (zip (slots_from (i + 1) xs) (drop (width x) cs))) (entered_true test b i (slots_of x.term) (take (width x) cs) e)

pub entered_no : (test : ℕ → Bool) (b i : ℕ) (x : Block) (xs : List Block) (cs : List ℕ) → test i ≡ false → entered test b (zip (slots_from i (x ∷ xs)) cs) ≡ entered test b (zip (slots_from (i + 1) xs) (drop (width x) cs))
entered_no test b i x xs cs e =
    let first = entered_false test b i (slots_of x.term) (take (width x) cs) e in
    let both = sum_split (λ s. cond (test s.0.0 && (s.0.1 == b)) s.1 0) i x xs cs in
    omega (arith, first, both)

left_own : (b i : ℕ) (ts cs : List ℕ) → length cs ≡ length ts → left b (zip (map (λ (t : ℕ). (i, t)) ts) cs) ≡ cond (i == b) (sum cs) 0
left_own b i [] [] e = zero_of (i == b)
  where
    zero_of : (r : Bool) → ◌≡◌ {A = ℕ} 0 (cond r 0 0)
    zero_of true = refl
    zero_of false = refl
left_own b i [] (c ∷ cs) e = absurd (omega (arith, e))
left_own b i (t ∷ ts) [] e = absurd (omega (arith, e))
left_own b i (t ∷ ts) (c ∷ cs) e =
    sum_by-cons (λ (s : (ℕ × ℕ) × ℕ). cond (s.0.0 == b) s.1 0) ((i, t), c) (zip (map (λ (t : ℕ). (i, t)) ts) cs)
    ∙ ap (λ n. cond (i == b) c 0 + n) (left_own b i ts cs (omega (arith, e)))
    ∙ join (i == b) c (sum cs) ∙ ap (λ n. cond (i == b) n 0) (sym (sum_by-cons (λ (x : ℕ). x) c cs))
  where
    join : (r : Bool) (m n : ℕ) → cond r m 0 + cond r n 0 ≡ cond r (m + n) 0
    join true m n = refl
    join false m n = refl

-- what leaves a block, and what leaves those behind it
pub left_split : (b i : ℕ) (x : Block) (xs : List Block) (cs : List ℕ) → length cs ≡ length (slots_from i (x ∷ xs)) → left b (zip (slots_from i (x ∷ xs)) cs) ≡ cond (i == b) (sum (take (width x) cs)) 0 + left b (zip (slots_from (i + 1) xs) (drop (width x) cs))
left_split b i x xs cs len =
    sum_split (λ s. cond (s.0.0 == b) s.1 0) i x xs cs
    ∙ ap (λ n. n + left b (zip (slots_from (i + 1) xs) (drop (width x) cs))) (left_own b i (slots_of x.term) (take (width x) cs) (length-take-le (width x) cs (omega (arith, len, slots_cons i x xs))))

-- nothing leaves a block before those that are left
pub left_before : (b i : ℕ) (xs : List Block) (cs : List ℕ) → b < i → length cs ≡ length (slots_from i xs) → left b (zip (slots_from i xs) cs) ≡ 0
left_before b i [] cs lt len = refl
left_before b i (x ∷ xs) cs lt len =
    left_split b i x xs cs len ∙ ap (λ r. cond r (sum (take (width x) cs)) 0 + left b (zip (slots_from (i + 1) xs) (drop (width x) cs))) (other i b lt)
    ∙ none_then (left b (zip (slots_from (i + 1) xs) (drop (width x) cs))) ∙ left_before b (i + 1) xs (drop (width x) cs) (omega arith) (omega (arith, len, slots_cons i x xs, length-drop (width x) cs))
  where
    other : (i b : ℕ) → b < i → i == b ≡ false
    other i b lt = grind arith

-- nor one behind them
pub left_past : (b i : ℕ) (xs : List Block) (cs : List ℕ) → i + length xs ≤ b → length cs ≡ length (slots_from i xs) → left b (zip (slots_from i xs) cs) ≡ 0
left_past b i [] cs le len = refl
left_past b i (x ∷ xs) cs le len =
    left_split b i x xs cs len ∙ ap (λ r. cond r (sum (take (width x) cs)) 0 + left b (zip (slots_from (i + 1) xs) (drop (width x) cs))) (other i b (omega arith))
    ∙ none_then (left b (zip (slots_from (i + 1) xs) (drop (width x) cs))) ∙ left_past b (i + 1) xs (drop (width x) cs) (omega arith) (omega (arith, len, slots_cons i x xs, length-drop (width x) cs))
  where
    other : (i b : ℕ) → i < b → i == b ≡ false
    other i b lt = grind arith

-- what leaves the first of the blocks that are left, and a later one
pub left_here : (i : ℕ) (x : Block) (xs : List Block) (cs : List ℕ) → length cs ≡ length (slots_from i (x ∷ xs)) → left i (zip (slots_from i (x ∷ xs)) cs) ≡ sum (take (width x) cs)
left_here i x xs cs len =
    let rest = left_before i (i + 1) xs (drop (width x) cs) (omega arith) (omega (arith, len, slots_cons i x xs, length-drop (width x) cs)) in
    left_split i i x xs cs len ∙ ap (λ r. cond r (sum (take (width x) cs)) 0 + left i (zip (slots_from (i + 1) xs) (drop (width x) cs))) (same i) ∙ omega (arith, rest)
  where
    same : (i : ℕ) → i == i ≡ true
    same i = grind arith

pub left_later : (b i : ℕ) (x : Block) (xs : List Block) (cs : List ℕ) → i < b → length cs ≡ length (slots_from i (x ∷ xs)) → left b (zip (slots_from i (x ∷ xs)) cs) ≡ left b (zip (slots_from (i + 1) xs) (drop (width x) cs))
left_later b i x xs cs lt len =
    left_split b i x xs cs len ∙ ap (λ r. cond r (sum (take (width x) cs)) 0 + left b (zip (slots_from (i + 1) xs) (drop (width x) cs))) (other i b lt)
    ∙ none_then (left b (zip (slots_from (i + 1) xs) (drop (width x) cs)))
  where
    other : (i b : ℕ) → i < b → i == b ≡ false
    other i b lt = grind arith

pub rest_len : (i : ℕ) (x : Block) (xs : List Block) (cs : List ℕ) → length cs ≡ length (slots_from i (x ∷ xs)) → (width x ≤ length cs) × (length (drop (width x) cs) ≡ length (slots_from (i + 1) xs))
rest_len i x xs cs len = (omega (arith, len, slots_cons i x xs), omega (arith, len, slots_cons i x xs, length-drop (width x) cs))
