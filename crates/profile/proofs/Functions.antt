-- The lines of a text beside those of a module, function by function.
use Rattle.std.proofs.Common.{◌≡◌, ℕ, zero, suc, ◌+◌, ◌<◌, ◌≤◌, ◌==◌, not, true, false, cond, List, [], ◌∷◌, ◌++◌, None, length, take, drop, map, get_or, slice_get, refl, sym, ap, subst, ◌∙◌, arith, append_assoc}
use Rattle.std.specs.Prelude.{filter}
use Rattle.std.specs.List.{AllZip}
use Rattle.std.specs.Option.{option_map}
use Rattle.std.proofs.lemmas.List.{drop_more, take_all, take_at, drop_at, take-append-le, length-map, length-take-le, take-map, map-append, append-nil, take-append-drop}
use Rattle.std.proofs.lemmas.List.Elements.{filter_more, filter-append}
use Rattle.std.proofs.lemmas.Option.{slice_get-map, slice_get_past, none-some}
use Rattle.ir_types.specs.Rules.{is_nil}
use Rattle.ir_types.specs.Program.{Program}
use Rattle.ir_types.specs.declared.syntax.Function.{Function}
use Rattle.profile.specs.declared.counts.FnCounts.{FnCounts}
use Rattle.profile.specs.declared.lines.Line.{Line}
use Rattle.profile.specs.declared.lines.Line.TheVariants as line
use Rattle.profile.specs.declared.reading.ProfileError.{ProfileError}
use Rattle.profile.specs.declared.reading.ProfileError.TheVariants.{Form, Shape, Unbalanced, Unreached, Total, NoMemory}
use Rattle.profile.specs.Counts.{is_defined, defined, HasSlots}
use Rattle.profile.specs.Text.{block_lines, function_lines, lines}
use Rattle.profile.specs.Reading.{Outline, outline, FunctionLine, block_outlines, function_outlines, outlines, IsFirstDifference, HasLines, Refuses}
use Rattle.profile.specs.Shapes.{FailsAt, AreFunction}
use Rattle.profile.proofs.Widths.{block_outlines_of}
use Rattle.profile.proofs.Outlines.{slice_get-drop}

-- ---- lists

pub take_add : {X : Type 0} (n m : ℕ) (xs : List X) → take (n + m) xs ≡ take n xs ++ take m (drop n xs)
take_add zero m xs = ap (λ k. take k xs) (zeros m)
  where
    zeros : (m : ℕ) → 0 + m ≡ m
    zeros m = omega arith
take_add (suc n) m [] = ap (λ k. take k []) (shift n m) ∙ sym (take_nil m)
  where
    shift : (n m : ℕ) → suc n + m ≡ suc (n + m)
    shift n m = omega arith

    take_nil : {X : Type 0} (m : ℕ) → take {A = X} m [] ≡ []
    take_nil zero = refl
    take_nil (suc m) = refl
take_add (suc n) m (x ∷ xs) = ap (λ k. take k (x ∷ xs)) (shift n m) ∙ ap (λ l. x ∷ l) (take_add n m xs)
  where
    shift : (n m : ℕ) → suc n + m ≡ suc (n + m)
    shift n m = omega arith

take_behind : {X : Type 0} (xs ys : List X) (p : ℕ) → take (length xs + p) (xs ++ ys) ≡ xs ++ take p ys
take_behind xs ys p =
    take_add (length xs) p (xs ++ ys) ∙ ap (λ l. l ++ take p (drop (length xs) (xs ++ ys))) (take_at xs ys (length xs) refl) ∙ ap (λ l. xs ++ take p l) (drop_at xs ys (length xs) refl)

get_behind : {X : Type 0} (xs ys : List X) (p : ℕ) → slice_get (xs ++ ys) (length xs + p) ≡ slice_get ys p
get_behind xs ys p = sym (slice_get-drop (length xs) (xs ++ ys) p) ∙ ap (λ l. slice_get l p) (drop_at xs ys (length xs) refl)

get_before : {X : Type 0} (xs ys : List X) (p : ℕ) → p < length xs → slice_get (xs ++ ys) p ≡ slice_get xs p
get_before [] ys p lt = absurd (omega arith)
get_before (x ∷ xs) ys zero lt = refl
get_before (x ∷ xs) ys (suc p) lt = get_before xs ys p (omega arith)

-- lists that first differ within a part do so behind what they have alike
differ_behind : (xs ys zs more : List Outline) (p : ℕ) → p < length ys → IsFirstDifference ys zs p → IsFirstDifference (xs ++ (ys ++ more)) (xs ++ zs) (length xs + p)
differ_behind xs ys zs more p lt d = record {
  before = take_behind xs (ys ++ more) p ∙ ap (λ l. xs ++ l) (take-append-le p ys more (omega arith) ∙ d.before) ∙ sym (take_behind xs zs p);
  differs = λ e. d.differs (sym (get_before ys more p lt) ∙ sym (get_behind xs (ys ++ more) p) ∙ e ∙ get_behind xs zs p);
}

-- ---- functions with their counts

pub zip_length : {A B : Type 0} (R : A → B → Type 0) (xs : List A) (ys : List B) → AllZip R xs ys → length xs ≡ length ys
zip_length R [] [] h = refl
zip_length R [] (y ∷ ys) h = absurd h
zip_length R (x ∷ xs) [] h = absurd h
zip_length R (x ∷ xs) (y ∷ ys) h = ap (λ n. suc n) (zip_length R xs ys h.1)

pub zip_push : {A B : Type 0} (R : A → B → Type 0) (xs : List A) (ys : List B) (x : A) (y : B) → AllZip R xs ys → R x y → AllZip R (xs ++ x ∷ []) (ys ++ y ∷ [])
zip_push R [] [] x y h r = (r, tt)
zip_push R [] (z ∷ ys) x y h r = absurd h
zip_push R (z ∷ xs) [] x y h r = absurd h
zip_push R (z ∷ xs) (w ∷ ys) x y h r = (h.0, zip_push R xs ys x y h.1 r)

function_lines_push : (k : ℕ) (fs : List Function) (cs : List FnCounts) (f : Function) (c : FnCounts) → AllZip HasSlots fs cs →
    function_lines k (fs ++ f ∷ []) (cs ++ c ∷ []) ≡ function_lines k fs cs ++ (line.Function (k + length fs) c.entry ∷ block_lines 0 f.blocks c.slots)
function_lines_push k [] [] f c h = ap (λ l. line.Function k c.entry ∷ l) (append-nil (block_lines 0 f.blocks c.slots)) ∙ ap (λ n. line.Function n c.entry ∷ block_lines 0 f.blocks c.slots) (zeros k)
  where
    zeros : (k : ℕ) → k ≡ k + 0
    zeros k = omega arith
function_lines_push k [] (d ∷ cs) f c h = absurd h
function_lines_push k (g ∷ fs) [] f c h = absurd h
function_lines_push k (g ∷ fs) (d ∷ cs) f c h =
    ap (λ l. line.Function k d.entry ∷ (block_lines 0 g.blocks d.slots ++ l)) (function_lines_push (k + 1) fs cs f c h.1)
    ∙ ap (λ n. line.Function k d.entry ∷ (block_lines 0 g.blocks d.slots ++ (function_lines (k + 1) fs cs ++ (line.Function n c.entry ∷ block_lines 0 f.blocks c.slots)))) (shift k (length fs))
    ∙ ap (λ l. line.Function k d.entry ∷ l) (sym (append_assoc (block_lines 0 g.blocks d.slots) (function_lines (k + 1) fs cs) (line.Function (k + suc (length fs)) c.entry ∷ block_lines 0 f.blocks c.slots)))
  where
    shift : (k n : ℕ) → k + 1 + n ≡ k + suc n
    shift k n = omega arith

pub function_outlines_of : (k : ℕ) (fs : List Function) (cs : List FnCounts) → AllZip HasSlots fs cs → map outline (function_lines k fs cs) ≡ function_outlines k fs
function_outlines_of k [] cs h = refl
function_outlines_of k (f ∷ fs) [] h = absurd h
function_outlines_of k (f ∷ fs) (c ∷ cs) h =
    ap (λ l. FunctionLine k ∷ l) (map-append outline (block_lines 0 f.blocks c.slots) (function_lines (k + 1) fs cs)
    ∙ ap (λ l. l ++ map outline (function_lines (k + 1) fs cs)) (block_outlines_of 0 f.blocks c.slots h.0)
    ∙ ap (λ l. block_outlines 0 f.blocks ++ l) (function_outlines_of (k + 1) fs cs h.1))

function_outlines_append : (k : ℕ) (fs gs : List Function) → function_outlines k (fs ++ gs) ≡ function_outlines k fs ++ function_outlines (k + length fs) gs
function_outlines_append k [] gs = ap (λ n. function_outlines n gs) (zeros k)
  where
    zeros : (k : ℕ) → k ≡ k + 0
    zeros k = omega arith
function_outlines_append k (f ∷ fs) gs =
    ap (λ l. FunctionLine k ∷ (block_outlines 0 f.blocks ++ l)) (function_outlines_append (k + 1) fs gs)
    ∙ ap (λ n. FunctionLine k ∷ (block_outlines 0 f.blocks ++ (function_outlines (k + 1) fs ++ function_outlines n gs))) (shift k (length fs))
    ∙ ap (λ l. FunctionLine k ∷ l) (sym (append_assoc (block_outlines 0 f.blocks) (function_outlines (k + 1) fs) (function_outlines (k + suc (length fs)) gs)))
  where
    shift : (k n : ℕ) → k + 1 + n ≡ k + suc n
    shift k n = omega arith

-- ---- so far

-- the lines before `at` are those of these functions with their counts
pub record FunctionsSoFar (fs : List Function) (read : List Line) (at : ℕ) (counts : List FnCounts) : Type 0 where
  pub inside : at ≤ length read
  pub shape : AllZip HasSlots fs counts
  pub same : take at read ≡ function_lines 0 fs counts

pub functions_none : (read : List Line) → FunctionsSoFar [] read 0 []
functions_none read = record { inside = omega arith; shape = tt; same = refl }

functions_more : (fs : List Function) (read : List Line) (at : ℕ) (counts : List FnCounts) (f : Function) (c : FnCounts) → FunctionsSoFar fs read at counts → AreFunction f (length counts) read at c → FunctionsSoFar (fs ++ f ∷ []) read (at + (1 + length f.blocks)) (counts ++ c ∷ [])
functions_more fs read at counts f c s a = record {
  inside = omega (arith, a.inside);
  shape = zip_push HasSlots fs counts f c s.shape a.slots;
  same =
      take_add at (1 + length f.blocks) read ∙ ap (λ l. l ++ take (1 + length f.blocks) (drop at read)) s.same ∙ ap (λ l. function_lines 0 fs counts ++ l) a.same
      ∙ ap (λ n. function_lines 0 fs counts ++ (line.Function n c.entry ∷ block_lines 0 f.blocks c.slots)) (number (length fs) (length counts) (zip_length HasSlots fs counts s.shape))
      ∙ sym (function_lines_push 0 fs counts f c s.shape);
}
  where
    number : (n k : ℕ) → n ≡ k → k ≡ 0 + n
    number n k e = omega arith

pub is_nil_is : {X : Type 0} (xs : List X) → is_nil xs ≡ (length xs == 0)
is_nil_is [] = refl
is_nil_is (x ∷ xs) = grind arith

-- one more function that has blocks, or none
pub functions_step : (all : List Function) (i : ℕ) (f : Function) (read : List Line) (at : ℕ) (counts : List FnCounts) (c : FnCounts) → i < length all → f ≡ get_or all i f → length f.blocks == 0 ≡ false → AreFunction f (length counts) read at c → FunctionsSoFar (filter is_defined (take i all)) read at counts → FunctionsSoFar (filter is_defined (take (i + 1) all)) read (at + (1 + length f.blocks)) (counts ++ c ∷ [])
functions_step all i f read at counts c lt is some a s =
    let test : is_defined (get_or all i f) ≡ true = ap is_defined (sym is) ∙ ap not (is_nil_is f.blocks ∙ some) in
    let more : filter is_defined (take (i + 1) all) ≡ filter is_defined (take i all) ++ f ∷ [] =
    filter_more is_defined all i f lt ∙ ap (λ b. filter is_defined (take i all) ++ cond b (get_or all i f ∷ []) []) test ∙ ap (λ g. filter is_defined (take i all) ++ g ∷ []) (sym is) in
    subst (λ l. FunctionsSoFar l read (at + (1 + length f.blocks)) (counts ++ c ∷ [])) (sym more) (functions_more (filter is_defined (take i all)) read at counts f c s a)

pub functions_skip : (all : List Function) (i : ℕ) (f : Function) (read : List Line) (at : ℕ) (counts : List FnCounts) → i < length all → f ≡ get_or all i f → length f.blocks == 0 ≡ true → FunctionsSoFar (filter is_defined (take i all)) read at counts → FunctionsSoFar (filter is_defined (take (i + 1) all)) read at counts
functions_skip all i f read at counts lt is none s =
    let test : is_defined (get_or all i f) ≡ false = ap is_defined (sym is) ∙ ap not (is_nil_is f.blocks ∙ none) in
    let more : filter is_defined (take (i + 1) all) ≡ filter is_defined (take i all) =
    filter_more is_defined all i f lt ∙ ap (λ b. filter is_defined (take i all) ++ cond b (get_or all i f ∷ []) []) test ∙ append-nil (filter is_defined (take i all)) in
    subst (λ l. FunctionsSoFar l read at counts) (sym more) s

-- ---- the first line that isn't the module's

outlines_before : (fs : List Function) (read : List Line) (at : ℕ) (counts : List FnCounts) → FunctionsSoFar fs read at counts → take at (map outline read) ≡ function_outlines 0 fs
outlines_before fs read at counts s = take-map outline at read ∙ ap (map outline) s.same ∙ function_outlines_of 0 fs counts s.shape

-- the outlines that are wanted from a function on
split_outlines : (all : List Function) (i : ℕ) (f : Function) (k : ℕ) → i < length all → f ≡ get_or all i f → length f.blocks == 0 ≡ false → length (filter is_defined (take i all)) ≡ k →
    (more : List Outline) × (function_outlines 0 (filter is_defined all) ≡ function_outlines 0 (filter is_defined (take i all)) ++ ((FunctionLine k ∷ block_outlines 0 f.blocks) ++ more))
split_outlines all i f k lt is some num =
    let test : is_defined f ≡ true = ap not (is_nil_is f.blocks ∙ some) in
    let later = drop (i + 1) all in
    let parts : filter is_defined all ≡ filter is_defined (take i all) ++ f ∷ filter is_defined later =
    ap (filter is_defined) (sym (take-append-drop i all) ∙ ap (λ l. take i all ++ l) (drop_more all i f lt ∙ ap (λ g. g ∷ drop (i + 1) all) (sym is)))
    ∙ filter-append is_defined (take i all) (f ∷ later) ∙ ap (λ b. filter is_defined (take i all) ++ cond b (f ∷ filter is_defined later) (filter is_defined later)) test in (
      function_outlines (k + 1) (filter is_defined later),
      ap (function_outlines 0) parts ∙ function_outlines_append 0 (filter is_defined (take i all)) (f ∷ filter is_defined later)
          ∙ ap (λ n. function_outlines 0 (filter is_defined (take i all)) ++ (FunctionLine n ∷ (block_outlines 0 f.blocks ++ function_outlines (n + 1) (filter is_defined later)))) (zeros (length (filter is_defined (take i all))) ∙ num),
    )
  where
    zeros : (n : ℕ) → 0 + n ≡ n
    zeros n = omega arith

-- two lists with their parts
differ_in : (wanted there before part more : List Outline) (at p : ℕ) → wanted ≡ before ++ (part ++ more) → take at there ≡ before → at ≤ length there → p < length part → IsFirstDifference part (drop at there) p → IsFirstDifference wanted there (at + p)
differ_in wanted there before part more at p w b le lt d =
    let len : length before ≡ at = ap length (sym b) ∙ length-take-le at there le in
    let whole : there ≡ before ++ drop at there = sym (take-append-drop at there) ∙ ap (λ l. l ++ drop at there) b in
    subst (λ n. IsFirstDifference wanted there (n + p)) len
    (subst (λ l. IsFirstDifference wanted l (length before + p)) (sym whole)
    (subst (λ l. IsFirstDifference l (before ++ drop at there) (length before + p)) (sym w) (differ_behind before part (drop at there) more p lt d)))

pub functions_fail : (m : Program) (i : ℕ) (f : Function) (read : List Line) (at : ℕ) (counts : List FnCounts) (e : ProfileError) → i < length m.functions → f ≡ get_or m.functions i f → length f.blocks == 0 ≡ false → FunctionsSoFar (filter is_defined (take i m.functions)) read at counts →
    FailsAt (FunctionLine (length counts) ∷ block_outlines 0 f.blocks) (map outline read) at e → (bytes : List ℕ) → HasLines bytes read → Refuses m bytes e
functions_fail m i f read at counts (Shape n) lt is some s d bytes has =
    let fs = filter is_defined (take i m.functions) in
    let w = split_outlines m.functions i f (length counts) lt is some (zip_length HasSlots (filter is_defined (take i m.functions)) counts s.shape) in
    record {
      read = read;
      has = has;
      place = at + d.place;
      first = differ_in (outlines m) (map outline read) (function_outlines 0 fs) (FunctionLine (length counts) ∷ block_outlines 0 f.blocks) w.0 at d.place w.1 (outlines_before fs read at counts s) (omega (arith, s.inside, length-map read outline)) d.inside d.first;
      line_is = d.line_is;
    }
functions_fail m i f read at counts NoMemory lt is some s d bytes has = tt
functions_fail m i f read at counts (Form n) lt is some s d bytes has = absurd d
functions_fail m i f read at counts (Unbalanced n b x y) lt is some s d bytes has = absurd d
functions_fail m i f read at counts (Unreached n b) lt is some s d bytes has = absurd d
functions_fail m i f read at counts Total lt is some s d bytes has = absurd d

stands : (read : List Line) (at : ℕ) → at < length read → None ≡ option_map outline (slice_get read at) → ⊥
stands [] at lt e = absurd (omega arith)
stands (l ∷ ls) zero lt e = none-some (outline l) e
stands (l ∷ ls) (suc at) lt e = stands ls at (omega arith) e

-- lines follow those of the module
pub lines_follow : (m : Program) (read : List Line) (at n : ℕ) (counts : List FnCounts) → at < length read → FunctionsSoFar (defined m) read at counts → n ≡ at + 2 → (bytes : List ℕ) → HasLines bytes read → Refuses m bytes (Shape n)
lines_follow m read at n counts lt s is bytes has =
    let before = outlines_before (defined m) read at counts s in
    let len : length (outlines m) ≡ at = ap length (sym before) ∙ length-take-le at (map outline read) (omega (arith, length-map read outline)) in
    record {
      read = read;
      has = has;
      place = at;
      first = record {
        before = take_all at (outlines m) (omega (arith, len)) ∙ sym before;
        differs = λ e. ends (sym (slice_get_past (outlines m) at (omega (arith, len))) ∙ e);
      };
      line_is = is;
    }
  where
    ends : None ≡ slice_get (map outline read) at → ⊥
    ends e = stands read at lt (e ∙ slice_get-map outline read at)

pub functions_all : (all fs : List Function) (read : List Line) (at i : ℕ) (counts : List FnCounts) → length all ≤ i → fs ≡ all → FunctionsSoFar (filter is_defined (take i all)) read at counts → FunctionsSoFar (filter is_defined fs) read at counts
functions_all all fs read at i counts le same s = subst (λ l. FunctionsSoFar (filter is_defined l) read at counts) (take_all i all le ∙ sym same) s

pub all_lines : (m : Program) (read : List Line) (at : ℕ) (counts : List FnCounts) → length read ≤ at → FunctionsSoFar (defined m) read at counts → read ≡ lines m counts
all_lines m read at counts le s = sym (take_all at read le) ∙ s.same

-- the same of a list that is the module's
pub functions_fail_in : (m : Program) (all : List Function) (i : ℕ) (f : Function) (read : List Line) (at k : ℕ) (counts : List FnCounts) (e : ProfileError) → all ≡ m.functions → k ≡ length counts → i < length all → f ≡ get_or all i f → length f.blocks == 0 ≡ false →
    FunctionsSoFar (filter is_defined (take i all)) read at counts → FailsAt (FunctionLine k ∷ block_outlines 0 f.blocks) (map outline read) at e → (bytes : List ℕ) → HasLines bytes read → Refuses m bytes e
functions_fail_in m all i f read at k counts e same num lt is some s d =
    functions_fail m i f read at counts e (subst (λ l. i < length l) same lt) (is ∙ ap (λ l. get_or l i f) same) some (subst (λ l. FunctionsSoFar (filter is_defined (take i l)) read at counts) same s)
    (subst (λ n. FailsAt (FunctionLine n ∷ block_outlines 0 f.blocks) (map outline read) at e) num d)

pub functions_step_in : (all : List Function) (i : ℕ) (f : Function) (read : List Line) (at k next : ℕ) (counts new : List FnCounts) (c : FnCounts) → k ≡ length counts → next ≡ at + (1 + length f.blocks) → new ≡ counts ++ c ∷ [] → i < length all → f ≡ get_or all i f → length f.blocks == 0 ≡ false →
    AreFunction f k read at c → FunctionsSoFar (filter is_defined (take i all)) read at counts → FunctionsSoFar (filter is_defined (take (i + 1) all)) read next new
functions_step_in all i f read at k next counts new c num to grown lt is some a s =
    subst (λ n. FunctionsSoFar (filter is_defined (take (i + 1) all)) read n new) (sym to)
    (subst (λ l. FunctionsSoFar (filter is_defined (take (i + 1) all)) read (at + (1 + length f.blocks)) l) (sym grown)
    (functions_step all i f read at counts c lt is some (subst (λ n. AreFunction f n read at c) num a) s))
