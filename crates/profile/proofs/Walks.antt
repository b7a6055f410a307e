-- The functions that have blocks beside their counts, one after another.
use Rattle.std.proofs.Common.{◌≡◌, ℕ, ◌+◌, ◌<◌, ◌≤◌, ◌^◌, ◌==◌, not, true, false, cond, List, [], ◌∷◌, ◌++◌, Some, length, take, drop, get_or, slice_get, refl, sym, ap, subst, ◌∙◌, arith}
use Rattle.std.specs.Prelude.{filter}
use Rattle.std.specs.List.{AllZip}
use Rattle.std.proofs.lemmas.List.{take_all, take_more, take_at, append-nil, take-append-drop, length_push}
use Rattle.std.proofs.lemmas.List.Elements.{filter_more, filter-append}
use Rattle.std.proofs.lemmas.Option.{slice_get_read}
use Rattle.ir_types.specs.Program.{Program}
use Rattle.ir_types.specs.WellFormed.{IsWellFormed, IsFunctionIn}
use Rattle.ir_types.specs.declared.syntax.Function.{Function}
use Rattle.profile.specs.declared.counts.FnCounts.{FnCounts}
use Rattle.profile.specs.declared.reading.ProfileError.{ProfileError}
use Rattle.profile.specs.declared.reading.ProfileError.TheVariants.{Form, Shape, Unbalanced, Unreached, Total, NoMemory}
use Rattle.profile.specs.Counts.{is_defined, defined, HasSlots, IsBalanced, IsUnreachedZero}
use Rattle.profile.specs.Reading.{Says, IsFirstBad, IsFirstUnbalanced, IsFirstUnreached, Refuses}
use Rattle.profile.specs.Sums.{TellsUnbalanced, TellsUnreached}
use Rattle.profile.proofs.Functions.{is_nil_is, zip_length, zip_push}
use Rattle.profile.proofs.Printed.{next_is, skipped}

-- ---- the walk

-- the counts before `n` are good for the functions before `i` that have blocks, and the others have the shape
pub record Walking (Good : Function → FnCounts → Type 0) (all : List Function) (counts : List FnCounts) (i n : ℕ) : Type 0 where
  pub shape : AllZip HasSlots (filter is_defined (drop i all)) (drop n counts)
  pub good : AllZip Good (filter is_defined (take i all)) (take n counts)
  pub number : length (filter is_defined (take i all)) ≡ n
  pub few : n ≤ i

pub walking_start : (Good : Function → FnCounts → Type 0) (all : List Function) (counts : List FnCounts) → AllZip HasSlots (filter is_defined all) counts → Walking Good all counts 0 0
walking_start Good all counts shape = record { shape = shape; good = tt; number = refl; few = omega arith }

taken : (all : List Function) (i : ℕ) (f : Function) → i < length all → f ≡ get_or all i f → filter is_defined (take (i + 1) all) ≡ filter is_defined (take i all) ++ cond (is_defined f) (f ∷ []) []
taken all i f lt is = filter_more is_defined all i f lt ∙ ap (λ g. filter is_defined (take i all) ++ cond (is_defined g) (g ∷ []) []) (sym is)

pub walking_more : (Good : Function → FnCounts → Type 0) (all : List Function) (counts : List FnCounts) (i n : ℕ) (f : Function) (c : FnCounts) → i < length all → f ≡ get_or all i f → length f.blocks == 0 ≡ false → c ≡ get_or counts n c → Good f c → Walking Good all counts i n → Walking Good all counts (i + 1) (n + 1)
walking_more Good all counts i n f c lt is some read g w =
    let next = next_is all i f counts n c lt is some w.shape read in
    let more : filter is_defined (take (i + 1) all) ≡ filter is_defined (take i all) ++ f ∷ [] = taken all i f lt is ∙ ap (λ b. filter is_defined (take i all) ++ cond b (f ∷ []) []) (ap not (is_nil_is f.blocks ∙ some)) in
    let cs : take (n + 1) counts ≡ take n counts ++ c ∷ [] = take_more counts n c next.inside ∙ ap (λ d. take n counts ++ d ∷ []) (sym read) in
    record {
      shape = next.shape;
      good = subst (λ l. AllZip Good l (take (n + 1) counts)) (sym more) (subst (λ l. AllZip Good (filter is_defined (take i all) ++ f ∷ []) l) (sym cs) (zip_push Good (filter is_defined (take i all)) (take n counts) f c w.good g));
      number = ap length more ∙ length_push (filter is_defined (take i all)) f ∙ ap (λ k. k + 1) w.number;
      few = omega (arith, w.few);
    }

pub walking_skip : (Good : Function → FnCounts → Type 0) (all : List Function) (counts : List FnCounts) (i n : ℕ) (f : Function) → i < length all → f ≡ get_or all i f → length f.blocks == 0 ≡ true → Walking Good all counts i n → Walking Good all counts (i + 1) n
walking_skip Good all counts i n f lt is none w =
    let less = skipped all i f lt is none in
    let more : filter is_defined (take (i + 1) all) ≡ filter is_defined (take i all) =
    taken all i f lt is ∙ ap (λ b. filter is_defined (take i all) ++ cond b (f ∷ []) []) (ap not (is_nil_is f.blocks ∙ none)) ∙ append-nil (filter is_defined (take i all)) in
    record {
      shape = subst (λ l. AllZip HasSlots l (drop n counts)) less w.shape;
      good = subst (λ l. AllZip Good l (take n counts)) (sym more) w.good;
      number = ap length more ∙ w.number;
      few = omega (arith, w.few);
    }

pub walking_end : (Good : Function → FnCounts → Type 0) (all : List Function) (counts : List FnCounts) (i n : ℕ) → length all ≤ i → AllZip HasSlots (filter is_defined all) counts → Walking Good all counts i n → AllZip Good (filter is_defined all) counts
walking_end Good all counts i n le shape w =
    let whole = take_all i all le in
    let len : length counts ≡ n = sym (zip_length HasSlots (filter is_defined all) counts shape) ∙ ap (λ l. length (filter is_defined l)) (sym whole) ∙ w.number in
    subst (λ l. AllZip Good (filter is_defined l) counts) whole (subst (λ l. AllZip Good (filter is_defined (take i all)) l) (take_all n counts (omega (arith, len))) w.good)

-- ---- the first that is bad

pub walking_bad : (Good Bad : Function → FnCounts → Type 0) (all : List Function) (counts : List FnCounts) (i n : ℕ) (f : Function) (c : FnCounts) → i < length all → f ≡ get_or all i f → length f.blocks == 0 ≡ false → c ≡ get_or counts n c → Bad f c → Walking Good all counts i n → IsFirstBad Good Bad (filter is_defined all) counts n
walking_bad Good Bad all counts i n f c lt is some read b w =
    let next = next_is all i f counts n c lt is some w.shape read in
    let whole : filter is_defined all ≡ filter is_defined (take i all) ++ f ∷ filter is_defined (drop (i + 1) all) =
    ap (filter is_defined) (sym (take-append-drop i all)) ∙ filter-append is_defined (take i all) (drop i all) ∙ ap (λ l. filter is_defined (take i all) ++ l) next.functions in
    record {
      before = subst (λ l. AllZip Good l (take n counts)) (sym (ap (take n) whole ∙ take_at (filter is_defined (take i all)) (f ∷ filter is_defined (drop (i + 1) all)) n w.number)) w.good;
      function = f;
      counts = c;
      is_function = ap (λ l. slice_get l n) whole ∙ at (filter is_defined (take i all)) f (filter is_defined (drop (i + 1) all)) n w.number;
      is_counts = slice_get_read counts (length counts) n c refl next.inside read;
      bad = b;
    }
  where
    at : {X : Type 0} (xs : List X) (x : X) (ys : List X) (n : ℕ) → length xs ≡ n → slice_get (xs ++ x ∷ ys) n ≡ Some x
    at [] x ys n e = ap (slice_get (x ∷ ys)) (sym e)
    at (y ∷ xs) x ys n e = ap (slice_get (y ∷ (xs ++ x ∷ ys))) (sym e) ∙ at xs x ys (length xs) refl

pub walking_unbalanced : (m : Program) (counts : List FnCounts) (i n k : ℕ) (f : Function) (c : FnCounts) (e : ProfileError) → k ≡ n → i < length m.functions → f ≡ get_or m.functions i f → length f.blocks == 0 ≡ false → c ≡ get_or counts n c → TellsUnbalanced f c k e →
    Walking IsBalanced m.functions counts i n → (bytes : List ℕ) → Says m bytes counts → Refuses m bytes e
walking_unbalanced m counts i n k f c (Unbalanced j b x y) num lt is some read t w bytes says =
    let j_is : j ≡ n = t.0 ∙ num in
    record {
      counts = counts;
      says = says;
      wrong = subst (λ l. IsFirstBad IsBalanced (λ g d. IsFirstUnbalanced g d b x y) (defined m) counts l) (sym j_is) (walking_bad IsBalanced (λ g d. IsFirstUnbalanced g d b x y) m.functions counts i n f c lt is some read t.1 w);
    }
walking_unbalanced m counts i n k f c NoMemory num lt is some read t w bytes says = tt
walking_unbalanced m counts i n k f c (Form j) num lt is some read t w bytes says = absurd t
walking_unbalanced m counts i n k f c (Shape j) num lt is some read t w bytes says = absurd t
walking_unbalanced m counts i n k f c (Unreached j b) num lt is some read t w bytes says = absurd t
walking_unbalanced m counts i n k f c Total num lt is some read t w bytes says = absurd t

pub walking_unreached : (m : Program) (counts : List FnCounts) (i n k : ℕ) (f : Function) (c : FnCounts) (e : ProfileError) → AllZip IsBalanced (defined m) counts → k ≡ n → i < length m.functions → f ≡ get_or m.functions i f → length f.blocks == 0 ≡ false → c ≡ get_or counts n c → TellsUnreached f c k e →
    Walking IsUnreachedZero m.functions counts i n → (bytes : List ℕ) → Says m bytes counts → Refuses m bytes e
walking_unreached m counts i n k f c (Unreached j b) balanced num lt is some read t w bytes says =
    let j_is : j ≡ n = t.0 ∙ num in
    record {
      counts = counts;
      says = says;
      wrong = (balanced, subst (λ l. IsFirstBad IsUnreachedZero (λ g d. IsFirstUnreached g d b) (defined m) counts l) (sym j_is) (walking_bad IsUnreachedZero (λ g d. IsFirstUnreached g d b) m.functions counts i n f c lt is some read t.1 w));
    }
walking_unreached m counts i n k f c NoMemory balanced num lt is some read t w bytes says = tt
walking_unreached m counts i n k f c (Form j) balanced num lt is some read t w bytes says = absurd t
walking_unreached m counts i n k f c (Shape j) balanced num lt is some read t w bytes says = absurd t
walking_unreached m counts i n k f c (Unbalanced j b x y) balanced num lt is some read t w bytes says = absurd t
walking_unreached m counts i n k f c Total balanced num lt is some read t w bytes says = absurd t

-- ---- how much a module has

pub few_blocks : (m : Program) (i : ℕ) (f : Function) → IsWellFormed m → i < length m.functions → f ≡ get_or m.functions i f → length f.blocks < 2 ^ 32
few_blocks m i f rules lt is =
    let one : IsFunctionIn m (get_or m.functions i f) = rules.functions i f lt in
    let few = (subst (λ g. IsFunctionIn m g) (sym is) one).few in
    omega (arith, few)

pub few_functions : (m : Program) → IsWellFormed m → length m.functions < 2 ^ 32
few_functions m rules = omega (arith, rules.few_functions)
