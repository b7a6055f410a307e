-- How many slots blocks have, and the lines with their counts.
use Rattle.std.proofs.Common.{◌≡◌, ℕ, zero, suc, Some, ◌+◌, ◌≤◌, List, [], ◌∷◌, ◌++◌, length, take, drop, map, slice_get, refl, ap, ◌∙◌, arith}
use Rattle.std.proofs.lemmas.List.{length-append, length-map, length-take-le, take-append-le, drop-append-le, take_all, nil_from_length, length-drop}
use Rattle.std.proofs.lemmas.Option.{none-some, same_Some}
use Rattle.ir_types.specs.declared.syntax.Block.{Block}
use Rattle.flow_graph.specs.Slots.{slots_of, slots_from}
use Rattle.profile.specs.declared.lines.Line.TheVariants as line
use Rattle.profile.specs.Text.{width, block_lines}
use Rattle.profile.specs.Reading.{outline, BlockLine, block_outlines}

pub slots_cons : (b : ℕ) (x : Block) (xs : List Block) → length (slots_from b (x ∷ xs)) ≡ width x + length (slots_from (b + 1) xs)
slots_cons b x xs = length-append (map (λ (t : ℕ). (b, t)) (slots_of x.term)) (slots_from (b + 1) xs) ∙ ap (λ n. n + length (slots_from (b + 1) xs)) (length-map (slots_of x.term) (λ (t : ℕ). (b, t)))

pub slots_push : (b : ℕ) (xs : List Block) (x : Block) → length (slots_from b (xs ++ x ∷ [])) ≡ length (slots_from b xs) + width x
slots_push b [] x = omega (arith, slots_cons b x [])
slots_push b (y ∷ ys) x = omega (arith, slots_cons b y (ys ++ x ∷ []), slots_cons b y ys, slots_push (b + 1) ys x)

pub block_lines_push : (b : ℕ) (xs : List Block) (x : Block) (cs own : List ℕ) → length cs ≡ length (slots_from b xs) → length own ≡ width x → block_lines b (xs ++ x ∷ []) (cs ++ own) ≡ block_lines b xs cs ++ line.Block (b + length xs) own ∷ []
block_lines_push b [] x cs own len wide =
    let empty : cs ≡ [] = nil_from_length cs len in
    let same : cs ++ own ≡ own = ap (λ l. l ++ own) empty in
    ap (λ l. line.Block b (take (width x) l) ∷ []) same ∙ ap (λ l. line.Block b l ∷ []) (take_all (width x) own (omega arith)) ∙ ap (λ n. line.Block n own ∷ []) (none b)
  where
    none : (n : ℕ) → n ≡ n + 0
    none n = omega arith
block_lines_push b (y ∷ ys) x cs own len wide =
    let s = slots_cons b y ys in
    let enough : width y ≤ length cs = omega (arith, s, len) in
    let rest : length (drop (width y) cs) ≡ length (slots_from (b + 1) ys) = omega (arith, length-drop (width y) cs, s, len) in
    ap (λ l. line.Block b l ∷ block_lines (b + 1) (ys ++ x ∷ []) (drop (width y) (cs ++ own))) (take-append-le (width y) cs own enough)
    ∙ ap (λ l. line.Block b (take (width y) cs) ∷ block_lines (b + 1) (ys ++ x ∷ []) l) (drop-append-le (width y) cs own enough)
    ∙ ap (λ l. line.Block b (take (width y) cs) ∷ l) (block_lines_push (b + 1) ys x (drop (width y) cs) own rest wide)
    ∙ ap (λ n. line.Block b (take (width y) cs) ∷ (block_lines (b + 1) ys (drop (width y) cs) ++ line.Block n own ∷ [])) (shift b (length ys))
  where
    shift : (b n : ℕ) → b + 1 + n ≡ b + suc n
    shift b n = omega arith

pub block_outlines_of : (b : ℕ) (xs : List Block) (cs : List ℕ) → length cs ≡ length (slots_from b xs) → map outline (block_lines b xs cs) ≡ block_outlines b xs
block_outlines_of b [] cs len = refl
block_outlines_of b (x ∷ xs) cs len =
    let s = slots_cons b x xs in
    let wide : length (take (width x) cs) ≡ width x = length-take-le (width x) cs (omega (arith, s, len)) in
    ap (λ n. BlockLine b n ∷ map outline (block_lines (b + 1) xs (drop (width x) cs))) wide
    ∙ ap (λ l. BlockLine b (width x) ∷ l) (block_outlines_of (b + 1) xs (drop (width x) cs) (omega (arith, length-drop (width x) cs, s, len)))

pub length-block_lines : (b : ℕ) (xs : List Block) (cs : List ℕ) → length (block_lines b xs cs) ≡ length xs
length-block_lines b [] cs = refl
length-block_lines b (x ∷ xs) cs = ap (λ n. suc n) (length-block_lines (b + 1) xs (drop (width x) cs))

pub length-block_outlines : (b : ℕ) (xs : List Block) → length (block_outlines b xs) ≡ length xs
length-block_outlines b [] = refl
length-block_outlines b (x ∷ xs) = ap (λ n. suc n) (length-block_outlines (b + 1) xs)

pub take-block_outlines : (i b : ℕ) (xs : List Block) → take i (block_outlines b xs) ≡ block_outlines b (take i xs)
take-block_outlines zero b xs = refl
take-block_outlines (suc i) b [] = refl
take-block_outlines (suc i) b (x ∷ xs) = ap (λ l. BlockLine b (width x) ∷ l) (take-block_outlines i (b + 1) xs)

pub block_outline_at : (b i : ℕ) (xs : List Block) (x : Block) → slice_get xs i ≡ Some x → slice_get (block_outlines b xs) i ≡ Some (BlockLine (b + i) (width x))
block_outline_at b i [] x e = absurd (none-some x e)
block_outline_at b zero (y ∷ ys) x e =
    let same : y ≡ x = same_Some y x e in
    ap (λ n. Some (BlockLine n (width y))) (none b) ∙ ap (λ z. Some (BlockLine (b + 0) (width z))) same
  where
    none : (n : ℕ) → n ≡ n + 0
    none n = omega arith
block_outline_at b (suc i) (y ∷ ys) x e = block_outline_at (b + 1) i ys x e ∙ ap (λ n. Some (BlockLine n (width x))) (shift b i)
  where
    shift : (b n : ℕ) → b + 1 + n ≡ b + suc n
    shift b n = omega arith
