-- A text is the profile of one list of counts, or refused for one reason.
use Rattle.std.proofs.Common.{◌≡◌, ◌≢◌, ℕ, zero, suc, ◌+◌, ◌^◌, ◌<◌, ◌≤◌, List, [], ◌∷◌, ◌++◌, Some, length, take, drop, slice_get, sum, sum_by, refl, sym, ap, subst, ◌∙◌, arith, inl, inr, Ok, Err, IfOk, IfErr}
use Rattle.std.specs.Prelude.{All, MatchResult}
use Rattle.std.specs.declared.result.Result.{Result}
use Rattle.std.specs.List.{AllZip}
use Rattle.std.proofs.lemmas.List.Sums.{sum_by-cons, get_or-le-sum_by, length-filter, count_by-le-length}
use Rattle.std.proofs.lemmas.List.Elements.{All-head, All-tail, All-cons, All-nil, All-append, All-take, All-drop, All-filter, All-from_get_or}
use Rattle.std.proofs.lemmas.Bool.{cases_lt}
use Rattle.std.proofs.lemmas.Option.{same_Some, none-some}
use Rattle.ir_types.specs.Program.{Program}
use Rattle.ir_types.specs.WellFormed.{IsWellFormed}
use Rattle.ir_types.specs.declared.syntax.Block.{Block}
use Rattle.ir_types.specs.declared.syntax.Function.{Function}
use Rattle.profile.specs.declared.counts.FnCounts.{FnCounts}
use Rattle.profile.specs.declared.counts.Profile.{Profile}
use Rattle.profile.specs.declared.lines.Line.TheVariants as line
use Rattle.profile.specs.declared.reading.ProfileError.{ProfileError}
use Rattle.profile.specs.declared.reading.ProfileError.TheVariants.{Form, Shape, Unbalanced, Unreached, Total, NoMemory}
use Rattle.profile.specs.Counts.{is_defined, defined, HasSlots, IsBalanced, IsUnreachedZero, AreCounts, IsAccepted, total, entering, leaving}
use Rattle.profile.specs.Text.{width, block_lines, function_lines, lines}
use Rattle.profile.specs.Reading.{Fits, Says, Reads, Refuses, IsFirstBad, IsFirstUnbalanced, IsFirstUnreached, HasOneAnswer}
use Rattle.profile.proofs.Balancing.{alike, same_entering}
use Rattle.profile.proofs.Answered.{one_formless, not_formless, one_misshapen, not_misshapen, one_saying}

-- ---- numbers of accepted counts fit

fits_blocks : (b : ℕ) (xs : List Block) (cs : List ℕ) → b + length xs ≤ 2 ^ 64 → All (λ n. n < 2 ^ 64) cs → All Fits (block_lines b xs cs)
fits_blocks b [] cs few small = All-nil Fits
fits_blocks b (x ∷ xs) cs few small =
    All-cons Fits (line.Block b (take (width x) cs)) (block_lines (b + 1) xs (drop (width x) cs))
    (All-cons (λ n. n < 2 ^ 64) b (take (width x) cs) (omega arith) (All-take (λ n. n < 2 ^ 64) (width x) cs small))
    (fits_blocks (b + 1) xs (drop (width x) cs) (omega arith) (All-drop (λ n. n < 2 ^ 64) (width x) cs small))

small_counts : (cs : List ℕ) → sum cs < 2 ^ 62 → All (λ n. n < 2 ^ 64) cs
small_counts cs lt = All-from_get_or (λ n. n < 2 ^ 64) cs 0 (λ i h. omega (arith, get_or-le-sum_by (λ x. x) cs i 0 h, lt))

fits_functions : (k : ℕ) (fs : List Function) (cs : List FnCounts) → k + length fs ≤ 2 ^ 64 → All (λ f. length f.blocks < 2 ^ 32) fs → sum_by total cs < 2 ^ 62 → All Fits (function_lines k fs cs)
fits_functions k [] cs few blocks small = All-nil Fits
fits_functions k (f ∷ fs) [] few blocks small = All-nil Fits
fits_functions k (f ∷ fs) (c ∷ cs) few blocks small =
    let parts = sum_by-cons total c cs in
    All-cons Fits (line.Function k c.entry) (block_lines 0 f.blocks c.slots ++ function_lines (k + 1) fs cs)
    (All-cons (λ n. n < 2 ^ 64) k (c.entry ∷ []) (omega arith) (All-cons (λ n. n < 2 ^ 64) c.entry [] (omega (arith, parts, small)) (All-nil (λ n. n < 2 ^ 64))))
    (All-append Fits (block_lines 0 f.blocks c.slots) (function_lines (k + 1) fs cs)
    (fits_blocks 0 f.blocks c.slots (let one = All-head (λ (g : Function). length g.blocks < 2 ^ 32) f fs blocks in omega (arith, one)) (small_counts c.slots (omega (arith, parts, small))))
    (fits_functions (k + 1) fs cs (omega arith) (All-tail (λ (g : Function). length g.blocks < 2 ^ 32) f fs blocks) (omega (arith, parts, small))))

shape_of : (fs : List Function) (cs : List FnCounts) → AllZip AreCounts fs cs → AllZip HasSlots fs cs
shape_of [] [] h = tt
shape_of [] (c ∷ cs) h = h
shape_of (f ∷ fs) [] h = h
shape_of (f ∷ fs) (c ∷ cs) h = (h.0.slots, shape_of fs cs h.1)

balanced_of : (fs : List Function) (cs : List FnCounts) → AllZip AreCounts fs cs → AllZip IsBalanced fs cs
balanced_of [] [] h = tt
balanced_of [] (c ∷ cs) h = h
balanced_of (f ∷ fs) [] h = h
balanced_of (f ∷ fs) (c ∷ cs) h = (h.0.balanced, balanced_of fs cs h.1)

unreached_of : (fs : List Function) (cs : List FnCounts) → AllZip AreCounts fs cs → AllZip IsUnreachedZero fs cs
unreached_of [] [] h = tt
unreached_of [] (c ∷ cs) h = h
unreached_of (f ∷ fs) [] h = h
unreached_of (f ∷ fs) (c ∷ cs) h = (h.0.unreached, unreached_of fs cs h.1)

reads_says : (m : Program) (bytes : List ℕ) (counts : List FnCounts) → IsWellFormed m → Reads m bytes counts → Says m bytes counts
reads_says m bytes counts rules r =
    let len = length-filter is_defined m.functions in
    let most = count_by-le-length is_defined m.functions in
    let few = rules.few_functions in
    record {
      shape = shape_of (defined m) counts r.accepted.functions;
      has = record {
        text = r.text;
        fit = fits_functions 0 (defined m) counts (omega (arith, len, most, few)) (All-filter is_defined (λ f. length f.blocks < 2 ^ 32) m.functions (λ i d lt. (let few = (rules.functions i d lt).few in omega (arith, few)))) r.accepted.total;
      };
    }

-- ---- the first that is bad

at_place : {A B : Type 0} (R : A → B → Type 0) (xs : List A) (ys : List B) (p : ℕ) (x : A) (y : B) → AllZip R xs ys → slice_get xs p ≡ Some x → slice_get ys p ≡ Some y → R x y
at_place R [] ys p x y h e f = absurd (none-some x e)
at_place R (a ∷ xs) [] p x y h e f = absurd h
at_place R (a ∷ xs) (b ∷ ys) zero x y h e f = subst (λ z. R z y) (same_Some a x e) (subst (λ z. R a z) (same_Some b y f) h.0)
at_place R (a ∷ xs) (b ∷ ys) (suc p) x y h e f = at_place R xs ys p x y h.1 e f

taken_at : {X : Type 0} (n : ℕ) (xs : List X) (p : ℕ) (x : X) → p < n → slice_get xs p ≡ Some x → slice_get (take n xs) p ≡ Some x
taken_at zero xs p x lt e = absurd (omega arith)
taken_at (suc n) [] p x lt e = absurd (none-some x e)
taken_at (suc n) (y ∷ ys) zero x lt e = e
taken_at (suc n) (y ∷ ys) (suc p) x lt e = taken_at n ys p x (omega arith) e

not_bad : (Good Bad : Function → FnCounts → Type 0) → ((f : Function) (c : FnCounts) → Good f c → Bad f c → ⊥) → (fs : List Function) (cs : List FnCounts) (k : ℕ) → AllZip Good fs cs → IsFirstBad Good Bad fs cs k → ⊥
not_bad Good Bad apart fs cs k h b = apart b.function b.counts (at_place Good fs cs k b.function b.counts h b.is_function b.is_counts) b.bad

not_later : (Good Bad Other : Function → FnCounts → Type 0) → ((f : Function) (c : FnCounts) → Good f c → Bad f c → ⊥) → (fs : List Function) (cs : List FnCounts) (k j : ℕ) → IsFirstBad Good Bad fs cs k → IsFirstBad Good Other fs cs j → ¬ (k < j)
not_later Good Bad Other apart fs cs k j b o lt =
    apart b.function b.counts (at_place Good (take j fs) (take j cs) k b.function b.counts o.before (taken_at j fs k b.function lt b.is_function) (taken_at j cs k b.counts lt b.is_counts)) b.bad

same_place : (k j : ℕ) → ¬ (k < j) → ¬ (j < k) → k ≡ j
same_place k j a b = elim (cases_lt k j) [
  | inl lt ↦ absurd (a lt)
  | inr le ↦ elim (cases_lt j k) [ inl lt ↦ absurd (b lt) | inr ge ↦ omega arith ]
]

unbalanced_apart : (b x y : ℕ) (f : Function) (c : FnCounts) → IsBalanced f c → IsFirstUnbalanced f c b x y → ⊥
unbalanced_apart b x y f c h u = u.differ (u.sums.0 ∙ h u.test u.reached b u.here.0 u.here.1 ∙ sym u.sums.1)

unreached_apart : (b : ℕ) (f : Function) (c : FnCounts) → IsUnreachedZero f c → IsFirstUnreached f c b → ⊥
unreached_apart b f c h u = (let none = h b u.unreached in let some = u.leaves in omega (arith, none, some))

no_earlier : (f : Function) (c : FnCounts) (a x y b z w : ℕ) → IsFirstUnbalanced f c a x y → IsFirstUnbalanced f c b z w → ¬ (a < b)
no_earlier f c a x y b z w u v lt =
    u.differ (u.sums.0 ∙ same_entering f c u.test v.test a u.reached v.reached ∙ v.first a lt (sym (alike f u.test v.test u.reached v.reached a) ∙ u.here.0) u.here.1 ∙ sym u.sums.1)

one_unbalanced : (f : Function) (c : FnCounts) (a x y b z w : ℕ) → IsFirstUnbalanced f c a x y → IsFirstUnbalanced f c b z w → (a ≡ b) × (x ≡ z) × (y ≡ w)
one_unbalanced f c a x y b z w u v =
    let same = same_place a b (no_earlier f c a x y b z w u v) (no_earlier f c b z w a x y v u) in (
      same,
      u.sums.0 ∙ same_entering f c u.test v.test a u.reached v.reached ∙ ap (entering v.test f c) same ∙ sym v.sums.0,
      u.sums.1 ∙ ap (leaving f c) same ∙ sym v.sums.1,
    )

one_unreached : (f : Function) (c : FnCounts) (a b : ℕ) → IsFirstUnreached f c a → IsFirstUnreached f c b → a ≡ b
one_unreached f c a b u v = same_place a b (λ lt. (let none = v.first a lt u.unreached in let some = u.leaves in omega (arith, none, some))) (λ lt. (let none = u.first b lt v.unreached in let some = v.leaves in omega (arith, none, some)))

same_pair : {A B : Type 0} (xs : List A) (ys : List B) (k j : ℕ) (x y : A) (u v : B) → k ≡ j → slice_get xs k ≡ Some x → slice_get xs j ≡ Some y → slice_get ys k ≡ Some u → slice_get ys j ≡ Some v → (x ≡ y) × (u ≡ v)
same_pair xs ys k j x y u v e a b c d = (same_Some x y (sym a ∙ ap (slice_get xs) e ∙ b), same_Some u v (sym c ∙ ap (slice_get ys) e ∙ d))

-- ---- refusals

module _ (m : Program) (bytes : List ℕ) where
  unbalanced_same : (k b x y j d z w : ℕ) → Refuses m bytes (Unbalanced k b x y) → Refuses m bytes (Unbalanced j d z w) → Unbalanced k b x y ≡ Unbalanced j d z w
  unbalanced_same k b x y j d z w p q =
      let cs = one_saying m bytes p.counts q.counts p.says q.says in
      let P = subst (λ l. IsFirstBad IsBalanced (λ f c. IsFirstUnbalanced f c b x y) (defined m) l k) cs p.wrong in
      let place = same_place k j
      (not_later IsBalanced (λ f c. IsFirstUnbalanced f c b x y) (λ f c. IsFirstUnbalanced f c d z w) (unbalanced_apart b x y) (defined m) q.counts k j P q.wrong)
      (not_later IsBalanced (λ f c. IsFirstUnbalanced f c d z w) (λ f c. IsFirstUnbalanced f c b x y) (unbalanced_apart d z w) (defined m) q.counts j k q.wrong P) in
      let both = same_pair (defined m) q.counts k j P.function q.wrong.function P.counts q.wrong.counts place P.is_function q.wrong.is_function P.is_counts q.wrong.is_counts in
      let one = one_unbalanced q.wrong.function q.wrong.counts b x y d z w (subst (λ f. IsFirstUnbalanced f q.wrong.counts b x y) both.0 (subst (λ c. IsFirstUnbalanced P.function c b x y) both.1 P.bad)) q.wrong.bad in
      ap (λ i. Unbalanced i b x y) place ∙ ap (λ i. Unbalanced j i x y) one.0 ∙ ap (λ i. Unbalanced j d i y) one.1 ∙ ap (λ i. Unbalanced j d z i) one.2

  unreached_same : (k b j d : ℕ) → Refuses m bytes (Unreached k b) → Refuses m bytes (Unreached j d) → Unreached k b ≡ Unreached j d
  unreached_same k b j d p q =
      let cs = one_saying m bytes p.counts q.counts p.says q.says in
      let P = subst (λ l. IsFirstBad IsUnreachedZero (λ f c. IsFirstUnreached f c b) (defined m) l k) cs p.wrong.1 in
      let place = same_place k j
      (not_later IsUnreachedZero (λ f c. IsFirstUnreached f c b) (λ f c. IsFirstUnreached f c d) (unreached_apart b) (defined m) q.counts k j P q.wrong.1)
      (not_later IsUnreachedZero (λ f c. IsFirstUnreached f c d) (λ f c. IsFirstUnreached f c b) (unreached_apart d) (defined m) q.counts j k q.wrong.1 P) in
      let both = same_pair (defined m) q.counts k j P.function q.wrong.1.function P.counts q.wrong.1.counts place P.is_function q.wrong.1.is_function P.is_counts q.wrong.1.is_counts in
      let one = one_unreached q.wrong.1.function q.wrong.1.counts b d (subst (λ f. IsFirstUnreached f q.wrong.1.counts b) both.0 (subst (λ c. IsFirstUnreached P.function c b) both.1 P.bad)) q.wrong.1.bad in
      ap (λ i. Unreached i b) place ∙ ap (λ i. Unreached j i) one

  -- balanced counts aren't out of balance, and those of reached blocks alone leave no other
  not_unbalanced : (k b x y : ℕ) (cs : List FnCounts) → Says m bytes cs → AllZip IsBalanced (defined m) cs → Refuses m bytes (Unbalanced k b x y) → ⊥
  not_unbalanced k b x y cs s h q =
      not_bad IsBalanced (λ f c. IsFirstUnbalanced f c b x y) (unbalanced_apart b x y) (defined m) q.counts k (subst (λ l. AllZip IsBalanced (defined m) l) (one_saying m bytes cs q.counts s q.says) h) q.wrong

  not_unreached : (k b : ℕ) (cs : List FnCounts) → Says m bytes cs → AllZip IsUnreachedZero (defined m) cs → Refuses m bytes (Unreached k b) → ⊥
  not_unreached k b cs s h q =
      not_bad IsUnreachedZero (λ f c. IsFirstUnreached f c b) (unreached_apart b) (defined m) q.counts k (subst (λ l. AllZip IsUnreachedZero (defined m) l) (one_saying m bytes cs q.counts s q.says) h) q.wrong.1

  one_refusal : (e f : ProfileError) → Refuses m bytes e → Refuses m bytes f → e ≢ NoMemory → f ≢ NoMemory → e ≡ f
  one_refusal NoMemory f p q e g = absurd (e refl)
  one_refusal e NoMemory p q h g = absurd (g refl)
  one_refusal (Form n) (Form k) p q e g = ap Form (one_formless bytes n k p q)
  one_refusal (Form n) (Shape k) p q e g = absurd (not_formless bytes n q.read p q.has)
  one_refusal (Form n) (Unbalanced k b x y) p q e g = absurd (not_formless bytes n (lines m q.counts) p q.says.has)
  one_refusal (Form n) (Unreached k b) p q e g = absurd (not_formless bytes n (lines m q.counts) p q.says.has)
  one_refusal (Form n) Total p q e g = absurd (not_formless bytes n (lines m q.counts) p q.says.has)
  one_refusal (Shape k) (Form n) q p e g = absurd (not_formless bytes n q.read p q.has)
  one_refusal (Shape n) (Shape k) p q e g = ap Shape (one_misshapen m bytes n k p q)
  one_refusal (Shape n) (Unbalanced k b x y) p q e g = absurd (not_misshapen m bytes n q.counts p q.says)
  one_refusal (Shape n) (Unreached k b) p q e g = absurd (not_misshapen m bytes n q.counts p q.says)
  one_refusal (Shape n) Total p q e g = absurd (not_misshapen m bytes n q.counts p q.says)
  one_refusal (Unbalanced k b x y) (Form n) q p e g = absurd (not_formless bytes n (lines m q.counts) p q.says.has)
  one_refusal (Unbalanced k b x y) (Shape n) q p e g = absurd (not_misshapen m bytes n q.counts p q.says)
  one_refusal (Unbalanced k b x y) (Unbalanced j d z w) p q e g = unbalanced_same k b x y j d z w p q
  one_refusal (Unbalanced k b x y) (Unreached j d) p q e g = absurd (not_unbalanced k b x y q.counts q.says q.wrong.0 p)
  one_refusal (Unbalanced k b x y) Total p q e g = absurd (not_unbalanced k b x y q.counts q.says q.wrong.0 p)
  one_refusal (Unreached k b) (Form n) q p e g = absurd (not_formless bytes n (lines m q.counts) p q.says.has)
  one_refusal (Unreached k b) (Shape n) q p e g = absurd (not_misshapen m bytes n q.counts p q.says)
  one_refusal (Unreached j d) (Unbalanced k b x y) q p e g = absurd (not_unbalanced k b x y q.counts q.says q.wrong.0 p)
  one_refusal (Unreached k b) (Unreached j d) p q e g = unreached_same k b j d p q
  one_refusal (Unreached k b) Total p q e g = absurd (not_unreached k b q.counts q.says q.wrong.1 p)
  one_refusal Total (Form n) q p e g = absurd (not_formless bytes n (lines m q.counts) p q.says.has)
  one_refusal Total (Shape n) q p e g = absurd (not_misshapen m bytes n q.counts p q.says)
  one_refusal Total (Unbalanced k b x y) q p e g = absurd (not_unbalanced k b x y q.counts q.says q.wrong.0 p)
  one_refusal Total (Unreached k b) q p e g = absurd (not_unreached k b q.counts q.says q.wrong.1 p)
  one_refusal Total Total p q e g = refl

  not_both : (c : List FnCounts) (e : ProfileError) → Says m bytes c → IsAccepted m c → Refuses m bytes e → e ≡ NoMemory
  not_both c (Form n) s a q = absurd (not_formless bytes n (lines m c) q s.has)
  not_both c (Shape n) s a q = absurd (not_misshapen m bytes n c q s)
  not_both c (Unbalanced k b x y) s a q = absurd (not_unbalanced k b x y c s (balanced_of (defined m) c a.functions) q)
  not_both c (Unreached k b) s a q = absurd (not_unreached k b c s (unreached_of (defined m) c a.functions) q)
  not_both c Total s a q = (let small : sum_by total c < 2 ^ 62 = a.total in let large = q.wrong.2 in absurd (omega (arith, small, large, ap (sum_by total) (one_saying m bytes c q.counts s q.says))))
  not_both c NoMemory s a q = refl

pub has_one_answer : (m : Program) → IsWellFormed m → (bytes : List ℕ) → HasOneAnswer m bytes
has_one_answer m rules bytes = record {
  one_profile = λ c d p q. one_saying m bytes c d (reads_says m bytes c rules p) (reads_says m bytes d rules q);
  one_refusal = one_refusal m bytes;
  not_both = λ c e p q. not_both m bytes c e (reads_says m bytes c rules p) p.accepted q;
}

pub exact_answer : (m : Program) (bytes : List ℕ) → IsWellFormed m → (r : Result Profile ProfileError) → IfOk r (λ p. Reads m bytes p.functions) → IfErr r (λ e. Refuses m bytes e) → (counts : List FnCounts) → Reads m bytes counts → MatchResult r (λ p. p.functions ≡ counts) (λ e. e ≡ NoMemory)
exact_answer m bytes rules (Ok p) ok err counts h = (has_one_answer m rules bytes).one_profile p.functions counts ok h
exact_answer m bytes rules (Err e) ok err counts h = (has_one_answer m rules bytes).not_both counts e h err
