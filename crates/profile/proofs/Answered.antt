-- A text has one answer.
use Rattle.std.proofs.Common.{◌≡◌, ℕ, zero, suc, ◌+◌, ◌<◌, List, [], ◌∷◌, ◌++◌, length, take, drop, map, get_or, slice_get, refl, sym, ap, subst, ◌∙◌, arith, append_assoc, codes, inl, inr}
use Rattle.std.specs.Prelude.{All}
use Rattle.std.specs.List.{AllZip, flat_map}
use Rattle.std.proofs.lemmas.List.{append_cancel_left, take_at, drop_at, take-append-drop, length-drop, append-nil}
use Rattle.std.proofs.lemmas.List.Elements.{All-head, All-tail}
use Rattle.std.proofs.lemmas.Bool.{cases_lt}
use Rattle.ir_types.specs.Program.{Program}
use Rattle.ir_types.specs.declared.syntax.Block.{Block}
use Rattle.ir_types.specs.declared.syntax.Function.{Function}
use Rattle.flow_graph.specs.Slots.{slots_from}
use Rattle.profile.specs.declared.counts.FnCounts.{FnCounts}
use Rattle.profile.specs.declared.lines.Line.{Line}
use Rattle.profile.specs.declared.lines.Line.TheVariants as line
use Rattle.profile.specs.Counts.{defined, HasSlots}
use Rattle.profile.specs.Forms.{Run}
use Rattle.profile.specs.Text.{spaced, word, numbers, line_text, first_line, text_of_lines, width, block_lines, function_lines, lines}
use Rattle.profile.specs.Reading.{Fits, HasLines, BeginsWithLine, LacksFirstLine, IsFormless, Outline, outline, outlines, IsFirstDifference, IsMisshapen, Says}
use Rattle.profile.proofs.Fronts.{front_feed}
use Rattle.profile.proofs.Runs.{same_run, line_run, two_words, line_parts}
use Rattle.profile.proofs.Widths.{slots_cons, length-block_lines}
use Rattle.profile.proofs.Functions.{function_outlines_of}

-- ---- lines

two_items : (a b : ℕ) (xs ys : List ℕ) → a ∷ xs ≡ b ∷ ys → (a ≡ b) × (xs ≡ ys)
two_items a b xs ys e = (ap (λ (l : List ℕ). get_or l 0 0) e, ap (λ (l : List ℕ). drop 1 l) e)

-- what follows a line's word tells its numbers and what follows the line
one_run : (l k : Line) (x y : List ℕ) → Fits l → Fits k → spaced (numbers l) ++ 10 ∷ x ≡ spaced (numbers k) ++ 10 ∷ y → (numbers l ≡ numbers k) × (x ≡ y)
one_run l k x y f g e =
    let both = same_run (spaced (numbers l) ++ 10 ∷ x) (numbers l) (numbers k) (10 ∷ x) (10 ∷ y) (line_run l x f) (front_feed x) (subst (λ t. Run t (numbers k) (10 ∷ y)) (sym e) (line_run k y g)) (front_feed y) in
    (both.0, (two_items 10 10 x y both.1).1)

one_line : (l k : Line) (x y : List ℕ) → Fits l → Fits k → line_text l ++ x ≡ line_text k ++ y → (l ≡ k) × (x ≡ y)
one_line l k x y f g e = go l k f g (sym (line_parts l x) ∙ e ∙ line_parts k y)
  where
    go : (l k : Line) → Fits l → Fits k → word l ++ (spaced (numbers l) ++ 10 ∷ x) ≡ word k ++ (spaced (numbers k) ++ 10 ∷ y) → (l ≡ k) × (x ≡ y)
    go (line.Function a m) (line.Function b n) f g h =
        let r = one_run (line.Function a m) (line.Function b n) x y f g (append_cancel_left (codes "func") (spaced (a ∷ m ∷ []) ++ 10 ∷ x) (spaced (b ∷ n ∷ []) ++ 10 ∷ y) h) in
        let first = two_items a b (m ∷ []) (n ∷ []) r.0 in
        (ap (λ i. line.Function i m) first.0 ∙ ap (λ i. line.Function b i) (two_items m n [] [] first.1).0, r.1)
    go (line.Block a ms) (line.Block b ns) f g h =
        let r = one_run (line.Block a ms) (line.Block b ns) x y f g (append_cancel_left (codes "block") (spaced (a ∷ ms) ++ 10 ∷ x) (spaced (b ∷ ns) ++ 10 ∷ y) h) in
        let first = two_items a b ms ns r.0 in
        (ap (λ i. line.Block i ms) first.0 ∙ ap (λ l. line.Block b l) first.1, r.1)
    go (line.Function a m) (line.Block b ns) f g h = absurd (two_words (spaced (a ∷ m ∷ []) ++ 10 ∷ x) (spaced (b ∷ ns) ++ 10 ∷ y) h)
    go (line.Block b ns) (line.Function a m) f g h = absurd (two_words (spaced (a ∷ m ∷ []) ++ 10 ∷ y) (spaced (b ∷ ns) ++ 10 ∷ x) (sym h))

begins : (l : Line) (ls : List Line) (rest : List ℕ) → Fits l → BeginsWithLine (flat_map line_text (l ∷ ls) ++ rest)
begins l ls rest fits = record { line = l; fits = fits; rest = flat_map line_text ls ++ rest; text = append_assoc (line_text l) (flat_map line_text ls) rest }

-- lines that are followed by no line are told by the text
same_lines : (ls ks : List Line) (x y : List ℕ) → All Fits ls → All Fits ks → ¬ (BeginsWithLine x) → ¬ (BeginsWithLine y) → flat_map line_text ls ++ x ≡ flat_map line_text ks ++ y → (ls ≡ ks) × (x ≡ y)
same_lines [] [] x y f g p q e = (refl, e)
same_lines [] (k ∷ ks) x y f g p q e = absurd (p (subst BeginsWithLine (sym e) (begins k ks y (All-head Fits k ks g))))
same_lines (l ∷ ls) [] x y f g p q e = absurd (q (subst BeginsWithLine e (begins l ls x (All-head Fits l ls f))))
same_lines (l ∷ ls) (k ∷ ks) x y f g p q e =
    let one = one_line l k (flat_map line_text ls ++ x) (flat_map line_text ks ++ y) (All-head Fits l ls f) (All-head Fits k ks g)
    (sym (append_assoc (line_text l) (flat_map line_text ls) x) ∙ e ∙ append_assoc (line_text k) (flat_map line_text ks) y) in
    let more = same_lines ls ks x y (All-tail Fits l ls f) (All-tail Fits k ks g) p q one.1 in
    (ap (λ a. a ∷ ls) one.0 ∙ ap (λ l. k ∷ l) more.0, more.1)

no_line_left : ¬ (BeginsWithLine [])
no_line_left b = some b.line (ap length b.text)
  where
    some : (l : Line) → 0 ≡ length (line_text l ++ b.rest) → ⊥
    some (line.Function k n) e = omega (arith, e)
    some (line.Block k ns) e = omega (arith, e)

behind_first : (bytes : List ℕ) (ls ks : List Line) (x y : List ℕ) → bytes ≡ text_of_lines ls ++ x → bytes ≡ text_of_lines ks ++ y → flat_map line_text ls ++ x ≡ flat_map line_text ks ++ y
behind_first bytes ls ks x y e f =
    append_cancel_left first_line (flat_map line_text ls ++ x) (flat_map line_text ks ++ y)
    (sym (append_assoc first_line (flat_map line_text ls) x) ∙ sym e ∙ f ∙ append_assoc first_line (flat_map line_text ks) y)

whole : (bytes : List ℕ) (ls : List Line) → HasLines bytes ls → bytes ≡ text_of_lines ls ++ []
whole bytes ls h = h.text ∙ sym (append-nil (text_of_lines ls))

pub one_text : (bytes : List ℕ) (ls ks : List Line) → HasLines bytes ls → HasLines bytes ks → ls ≡ ks
one_text bytes ls ks h k = (same_lines ls ks [] [] h.fit k.fit no_line_left no_line_left (behind_first bytes ls ks [] [] (whole bytes ls h) (whole bytes ks k))).0

has_first : (bytes : List ℕ) (ls : List Line) (x : List ℕ) → bytes ≡ text_of_lines ls ++ x → ¬ (LacksFirstLine bytes)
has_first bytes ls x e lacks = lacks (flat_map line_text ls ++ x) (e ∙ append_assoc first_line (flat_map line_text ls) x)

pub one_formless : (bytes : List ℕ) (n m : ℕ) → IsFormless bytes n → IsFormless bytes m → n ≡ m
one_formless bytes n m (inl p) (inl q) = p.0 ∙ sym q.0
one_formless bytes n m (inl p) (inr q) = absurd (has_first bytes q.0 q.1.rest q.1.text p.1)
one_formless bytes n m (inr p) (inl q) = absurd (has_first bytes p.0 p.1.rest p.1.text q.1)
one_formless bytes n m (inr p) (inr q) =
    let same = same_lines p.0 q.0 p.1.rest q.1.rest p.1.fit q.1.fit p.1.formless q.1.formless (behind_first bytes p.0 q.0 p.1.rest q.1.rest p.1.text q.1.text) in
    p.2 ∙ ap (λ l. length l + 2) same.0 ∙ sym q.2

pub not_formless : (bytes : List ℕ) (n : ℕ) (ls : List Line) → IsFormless bytes n → HasLines bytes ls → ⊥
not_formless bytes n ls (inl p) h = has_first bytes ls [] (whole bytes ls h) p.1
not_formless bytes n ls (inr p) h = p.1.goes_on (same_lines p.0 ls p.1.rest [] p.1.fit h.fit p.1.formless no_line_left (behind_first bytes p.0 ls p.1.rest [] p.1.text (whole bytes ls h))).1

-- ---- places

same_below : {X : Type 0} (n : ℕ) (xs ys : List X) (p : ℕ) → p < n → take n xs ≡ take n ys → slice_get xs p ≡ slice_get ys p
same_below n xs ys p lt e = sym (within n xs p lt) ∙ ap (λ l. slice_get l p) e ∙ within n ys p lt
  where
    within : {X : Type 0} (n : ℕ) (xs : List X) (p : ℕ) → p < n → slice_get (take n xs) p ≡ slice_get xs p
    within zero xs p lt = absurd (omega arith)
    within (suc n) [] p lt = refl
    within (suc n) (x ∷ xs) zero lt = refl
    within (suc n) (x ∷ xs) (suc p) lt = within n xs p (omega arith)

one_place : (xs ys : List Outline) (p q : ℕ) → IsFirstDifference xs ys p → IsFirstDifference xs ys q → p ≡ q
one_place xs ys p q d e = elim (cases_lt p q) [
  | inl lt ↦ absurd (d.differs (same_below q xs ys p lt e.before))
  | inr le ↦ elim (cases_lt q p) [
    | inl lt ↦ absurd (e.differs (same_below p xs ys q lt d.before))
    | inr ge ↦ omega arith
  ]
]

pub one_misshapen : (m : Program) (bytes : List ℕ) (n k : ℕ) → IsMisshapen m bytes n → IsMisshapen m bytes k → n ≡ k
one_misshapen m bytes n k p q =
    let same = one_text bytes p.read q.read p.has q.has in
    let place = one_place (outlines m) (map outline q.read) p.place q.place (subst (λ l. IsFirstDifference (outlines m) (map outline l) p.place) same p.first) q.first in
    p.line_is ∙ ap (λ i. i + 2) place ∙ sym q.line_is

pub not_misshapen : (m : Program) (bytes : List ℕ) (n : ℕ) (counts : List FnCounts) → IsMisshapen m bytes n → Says m bytes counts → ⊥
not_misshapen m bytes n counts p s =
    p.first.differs (ap (λ l. slice_get l p.place) (sym (function_outlines_of 0 (defined m) counts s.shape) ∙ ap (map outline) (one_text bytes (lines m counts) p.read s.has p.has)))

-- ---- counts

cut : {X : Type 0} (fs gs xs ys : List X) → length fs ≡ length gs → fs ++ xs ≡ gs ++ ys → (fs ≡ gs) × (xs ≡ ys)
cut fs gs xs ys len e = (
  sym (take_at fs xs (length fs) refl) ∙ ap (take (length fs)) e ∙ take_at gs ys (length fs) (sym len),
  sym (drop_at fs xs (length fs) refl) ∙ ap (drop (length fs)) e ∙ drop_at gs ys (length fs) (sym len),
)

abbrev counts_in : Line → List ℕ
counts_in (line.Function k n) = []
counts_in (line.Block b ns) = ns

abbrev entry_in : Line → ℕ
entry_in (line.Function k n) = n
entry_in (line.Block b ns) = 0

head_of : (l k : Line) (ls ks : List Line) → l ∷ ls ≡ k ∷ ks → (l ≡ k) × (ls ≡ ks)
head_of l k ls ks e = (ap (λ (x : List Line). get_or x 0 l) e, ap (λ (x : List Line). drop 1 x) e)

one_block_lines : (b : ℕ) (xs : List Block) (cs ds : List ℕ) → length cs ≡ length (slots_from b xs) → length ds ≡ length (slots_from b xs) → block_lines b xs cs ≡ block_lines b xs ds → cs ≡ ds
one_block_lines b [] [] [] p q e = refl
one_block_lines b [] (c ∷ cs) ds p q e = absurd (omega (arith, p))
one_block_lines b [] [] (d ∷ ds) p q e = absurd (omega (arith, q))
one_block_lines b (x ∷ xs) cs ds p q e =
    let h = head_of (line.Block b (take (width x) cs)) (line.Block b (take (width x) ds)) (block_lines (b + 1) xs (drop (width x) cs)) (block_lines (b + 1) xs (drop (width x) ds)) e in
    let s = slots_cons b x xs in
    let more = one_block_lines (b + 1) xs (drop (width x) cs) (drop (width x) ds) (omega (arith, p, s, length-drop (width x) cs)) (omega (arith, q, s, length-drop (width x) ds)) h.1 in
    sym (take-append-drop (width x) cs) ∙ ap (λ l. l ++ drop (width x) cs) (own h.0) ∙ ap (λ l. take (width x) ds ++ l) more ∙ take-append-drop (width x) ds
  where
    own : line.Block b (take (width x) cs) ≡ line.Block b (take (width x) ds) → take (width x) cs ≡ take (width x) ds
    own h = ap counts_in h

one_functions : (k : ℕ) (fs : List Function) (cs ds : List FnCounts) → AllZip HasSlots fs cs → AllZip HasSlots fs ds → function_lines k fs cs ≡ function_lines k fs ds → cs ≡ ds
one_functions k [] [] [] p q e = refl
one_functions k [] (c ∷ cs) ds p q e = absurd p
one_functions k [] [] (d ∷ ds) p q e = absurd q
one_functions k (f ∷ fs) [] ds p q e = absurd p
one_functions k (f ∷ fs) (c ∷ cs) [] p q e = absurd q
one_functions k (f ∷ fs) (c ∷ cs) (d ∷ ds) p q e =
    let h = head_of (line.Function k c.entry) (line.Function k d.entry) (block_lines 0 f.blocks c.slots ++ function_lines (k + 1) fs cs) (block_lines 0 f.blocks d.slots ++ function_lines (k + 1) fs ds) e in
    let parts = cut (block_lines 0 f.blocks c.slots) (block_lines 0 f.blocks d.slots) (function_lines (k + 1) fs cs) (function_lines (k + 1) fs ds) (length-block_lines 0 f.blocks c.slots ∙ sym (length-block_lines 0 f.blocks d.slots)) h.1 in
    let slots : c.slots ≡ d.slots = one_block_lines 0 f.blocks c.slots d.slots p.0 q.0 parts.0 in
    let own : c ≡ d = ap (λ n. record { entry = n; slots = c.slots }) (entry h.0) ∙ ap (λ (l : List ℕ). record { entry = d.entry; slots = l }) slots in
    ap (λ x. x ∷ cs) own ∙ ap (λ l. d ∷ l) (one_functions (k + 1) fs cs ds p.1 q.1 parts.1)
  where
    entry : line.Function k c.entry ≡ line.Function k d.entry → c.entry ≡ d.entry
    entry h = ap entry_in h

pub one_saying : (m : Program) (bytes : List ℕ) (cs ds : List FnCounts) → Says m bytes cs → Says m bytes ds → cs ≡ ds
one_saying m bytes cs ds s t = one_functions 0 (defined m) cs ds s.shape t.shape (one_text bytes (lines m cs) (lines m ds) s.has t.has)
