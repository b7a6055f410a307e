-- The globals and functions of a tree without a problem, each at its number: their names mean them.
use Rattle.std.proofs.Common.{◌≡◌, ◌<◌, ◌+◌, ◌++◌, ◌&&◌, not, ℕ, zero, suc, Bool, true, false, List, [], ◌∷◌, Option, None, Some, length, map, cond, get_or, drop, is_some, refl, sym, ap, ◌∙◌, arith}
use Rattle.std.specs.Prelude.{◌≢◌, All, AllPairs, slice_get, if◌then◌else◌}
use Rattle.std.specs.Map.{lookup}
use Rattle.std.proofs.lemmas.List.Elements.{All-nil, All-cons, All-head, All-tail}
use Rattle.mc_num.specs.declared.op.Width.{Width}
use Rattle.ir_types.specs.declared.span.At.{At}
use Rattle.ir_types.specs.declared.name.Name.{Name}
use Rattle.ir_types.specs.declared.name.Name.TheVariants.{Text}
use Rattle.ir_types.specs.declared.rules.Meaning.{Meaning}
use Rattle.ir_types.specs.declared.rules.Meaning.TheVariants as meaning
use Rattle.ir_types.specs.declared.tree.RawFunction.{RawFunction}
use Rattle.ir_types.specs.declared.tree.RawGlobal.{RawGlobal}
use Rattle.ir_types.specs.Definitions.{Defined, same_name, name_of, define, meaning_of, name_problem, symbol_name}
use Rattle.ir_types.specs.Limits.{is_above_limits}
use Rattle.ir_types.specs.Order.{Item, Global, Function, starts_before, up_to, merged}
use Rattle.ir_types.specs.Uses.{value_problem}
use Rattle.ir_types.specs.Rules.{is_nil, is_known_external, Passed, at_top, after_item, after_items, context_in, no_context, nowhere, body_problem, items_problem}
use Rattle.tree_rules.proofs.Distinct.{both_none, kept, itself, is_none}
use Rattle.tree_rules.proofs.Known.{AllKnown, define_known, at_drop, drop_next}
use Rattle.tree_rules.proofs.Uses.{KnowsSymbol}

-- ---- lists with numbers

unfoldable pub EachFrom : {X : Type 0} → (ℕ → X → Type 0) → ℕ → List X → Type 0
EachFrom P n [] = Unit {0}
EachFrom P n (x ∷ xs) = P n x × EachFrom P (n + 1) xs

pub each_append : {X : Type 0} (P : ℕ → X → Type 0) (n m : ℕ) (xs ys : List X) → EachFrom P n xs → m ≡ n + length xs → EachFrom P m ys → EachFrom P n (xs ++ ys)
unfolding EachFrom
each_append P n m [] ys h e g = let same : n ≡ m = omega arith in rw same g
each_append P n m (x ∷ xs) ys h e g = (h.0, each_append P (n + 1) m xs ys h.1 (omega (arith, e)) g)

each_at : {X : Type 0} (P : ℕ → X → Type 0) (n : ℕ) (xs : List X) → EachFrom P n xs → (k m : ℕ) (d : X) → k < length xs → m ≡ n + k → P m (get_or xs k d)
unfolding EachFrom
each_at P n [] h k m d l e = absurd (omega arith)
each_at P n (x ∷ xs) h zero m d l e = let same : m ≡ n = omega arith in rw same h.0
each_at P n (x ∷ xs) h (suc k) m d l e = each_at P (n + 1) xs h.1 k m d (omega arith) (omega arith)

pub each_map : {X Y : Type 0} (P : ℕ → Y → Type 0) (f : X → Y) (n : ℕ) (xs : List X) → EachFrom (λ k x. P k (f x)) n xs → EachFrom P n (map f xs)
unfolding EachFrom
each_map P f n [] h = tt
each_map P f n (x ∷ xs) h = (h.0, each_map P f (n + 1) xs h.1)

pub each_weaker : {X : Type 0} (P Q : ℕ → X → Type 0) (a n m : ℕ) (xs : List X) → ((k : ℕ) (x : X) → P k x → Q (a + k) x) → m ≡ a + n → EachFrom P n xs → EachFrom Q m xs
unfolding EachFrom
each_weaker P Q a n m [] f e h = tt
each_weaker P Q a n m (x ∷ xs) f e h = (rw e (f n x h.0), each_weaker P Q a (n + 1) (m + 1) xs f (omega (arith, e)) h.1)

pub each_all : {X : Type 0} (P : ℕ → X → Type 0) (A Q : X → Type 0) (n : ℕ) (xs : List X) → ((k : ℕ) (x : X) → A x → P k x → Q x) → All A xs → EachFrom P n xs → All Q xs
unfolding EachFrom
each_all P A Q n [] f a h = All-nil Q
each_all P A Q n (x ∷ xs) f a h = All-cons Q x xs (f n x (All-head A x xs a) h.0) (each_all P A Q (n + 1) xs f (All-tail A x xs a) h.1)

-- things that a map numbers from 0 on all differ
pub numbered_differ : {X : Type 0} (number : X → ℕ) (xs : List X) → EachFrom (λ n x. number x ≡ n) 0 xs → AllPairs (λ a b. a ≢ b) xs
numbered_differ number xs h i j d l k e =
    let one : number (get_or xs i d) ≡ i = each_at (λ n x. number x ≡ n) 0 xs h i i d (omega arith) (omega arith) in
    let other : number (get_or xs j d) ≡ j = each_at (λ n x. number x ≡ n) 0 xs h j j d k (omega arith) in
    let same : number (get_or xs i d) ≡ number (get_or xs j d) = ap number e in
    absurd (omega (arith, one, other, same))

-- ---- text order

-- what holds of each global and each function at its number
unfoldable pub EachItem : (ℕ → RawGlobal → Type 0) → (ℕ → RawFunction → Type 0) → ℕ → ℕ → List Item → Type 0
EachItem P Q g f [] = Unit {0}
EachItem P Q g f (Global x ∷ rest) = P g x × EachItem P Q (g + 1) f rest
EachItem P Q g f (Function x ∷ rest) = Q f x × EachItem P Q g (f + 1) rest

module _ (P : ℕ → RawGlobal → Type 0) (Q : ℕ → RawFunction → Type 0) where
  -- by the test which of two lists is the one
  either : {R : Type 0} (b : Bool) (m n : ℕ) (one other : List Item) → EachItem P Q m n (if b then one else other) → (EachItem P Q m n one → R) → (EachItem P Q m n other → R) → R
  either true m n one other h f g = f h
  either false m n one other h f g = g h

  both : (b : Bool) (m n : ℕ) (one other : List Item) → EachItem P Q m n one → EachItem P Q m n other → EachItem P Q m n (if b then one else other)
  both true m n one other f g = f
  both false m n one other f g = g

  functions_apart : (m n : ℕ) (fs : List RawFunction) → EachItem P Q m n (map Function fs) → EachFrom Q n fs
  unfolding EachItem EachFrom
  functions_apart m n [] h = tt
  functions_apart m n (f ∷ fs) h = (h.0, functions_apart m (n + 1) fs h.1)

  up_to_apart : (g : RawGlobal) (gs : List RawGlobal) (rest : List RawFunction → List Item) → ((m n : ℕ) (fs : List RawFunction) → EachItem P Q m n (rest fs) → EachFrom P m gs × EachFrom Q n fs)
      → (m n : ℕ) (fs : List RawFunction) → EachItem P Q m n (up_to g rest fs) → EachFrom P m (g ∷ gs) × EachFrom Q n fs
  unfolding EachItem EachFrom up_to
  up_to_apart g gs rest later m n [] h = let apart = later (m + 1) n [] h.1 in ((h.0, apart.0), tt)
  up_to_apart g gs rest later m n (f ∷ fs) h =
      either (starts_before f g) m n (Function f ∷ up_to g rest fs) (Global g ∷ rest (f ∷ fs)) h
      (λ here. let apart = up_to_apart g gs rest later m (n + 1) fs here.1 in (apart.0, (here.0, apart.1)))
      (λ here. let apart = later (m + 1) n (f ∷ fs) here.1 in ((here.0, apart.0), apart.1))

  pub merged_apart : (gs : List RawGlobal) (m n : ℕ) (fs : List RawFunction) → EachItem P Q m n (merged gs fs) → EachFrom P m gs × EachFrom Q n fs
  unfolding EachFrom merged
  merged_apart [] m n fs h = (tt, functions_apart m n fs h)
  merged_apart (g ∷ gs) m n fs h = up_to_apart g gs (merged gs) (merged_apart gs) m n fs h

  functions_together : (m n : ℕ) (fs : List RawFunction) → EachFrom Q n fs → EachItem P Q m n (map Function fs)
  unfolding EachItem EachFrom
  functions_together m n [] h = tt
  functions_together m n (f ∷ fs) h = (h.0, functions_together m (n + 1) fs h.1)

  up_to_together : (g : RawGlobal) (gs : List RawGlobal) (rest : List RawFunction → List Item) → ((m n : ℕ) (fs : List RawFunction) → EachFrom P m gs → EachFrom Q n fs → EachItem P Q m n (rest fs))
      → (m n : ℕ) (fs : List RawFunction) → EachFrom P m (g ∷ gs) → EachFrom Q n fs → EachItem P Q m n (up_to g rest fs)
  unfolding EachItem EachFrom up_to
  up_to_together g gs rest later m n [] h k = (h.0, later (m + 1) n [] h.1 k)
  up_to_together g gs rest later m n (f ∷ fs) h k =
      both (starts_before f g) m n (Function f ∷ up_to g rest fs) (Global g ∷ rest (f ∷ fs))
      (k.0, up_to_together g gs rest later m (n + 1) fs h k.1)
      (h.0, later (m + 1) n (f ∷ fs) h.1 k)

  pub merged_together : (gs : List RawGlobal) (m n : ℕ) (fs : List RawFunction) → EachFrom P m gs → EachFrom Q n fs → EachItem P Q m n (merged gs fs)
  unfolding EachFrom merged
  merged_together [] m n fs h k = functions_together m n fs k
  merged_together (g ∷ gs) m n fs h k = up_to_together g gs (merged gs) (merged_together gs) m n fs h k

-- ---- a name means what was defined first

found_more : (t : Name → Bool) (e : Name × Meaning) (es fs : List (Name × Meaning)) (m : Meaning) (b : Bool) → t e.0 ≡ b → lookup t (e ∷ es) ≡ Some m → (lookup t es ≡ Some m → lookup t (es ++ fs) ≡ Some m) → lookup t (e ∷ (es ++ fs)) ≡ Some m
found_more t e es fs m true p h rest = ap (λ (b : Bool). cond b (Some e.1) (lookup t (es ++ fs))) p ∙ (sym (ap (λ (b : Bool). cond b (Some e.1) (lookup t es)) p) ∙ h)
found_more t e es fs m false p h rest =
    let later : lookup t es ≡ Some m = ap (λ (b : Bool). cond b (Some e.1) (lookup t es)) (sym p) ∙ h in
    ap (λ (b : Bool). cond b (Some e.1) (lookup t (es ++ fs))) p ∙ rest later

found_still : (t : Name → Bool) (es fs : List (Name × Meaning)) (m : Meaning) → lookup t es ≡ Some m → lookup t (es ++ fs) ≡ Some m
found_still t [] fs m h = cc
found_still t (e ∷ es) fs m h = found_more t e es fs m (t e.0) refl h (found_still t es fs m)

new_more : (t : Name → Bool) (e : Name × Meaning) (es fs : List (Name × Meaning)) (m : Meaning) (b : Bool) → t e.0 ≡ b → lookup t (e ∷ es) ≡ None → (lookup t es ≡ None → lookup t (es ++ fs) ≡ Some m) → lookup t (e ∷ (es ++ fs)) ≡ Some m
new_more t e es fs m true p h rest = let found : Some e.1 ≡ None = ap (λ (b : Bool). cond b (Some e.1) (lookup t es)) (sym p) ∙ h in cc
new_more t e es fs m false p h rest =
    let later : lookup t es ≡ None = ap (λ (b : Bool). cond b (Some e.1) (lookup t es)) (sym p) ∙ h in
    ap (λ (b : Bool). cond b (Some e.1) (lookup t (es ++ fs))) p ∙ rest later

found_new : (t : Name → Bool) (es : List (Name × Meaning)) (n : Name) (m : Meaning) → lookup t es ≡ None → t n ≡ true → lookup t (es ++ (n, m) ∷ []) ≡ Some m
found_new t [] n m h f = ap (λ (b : Bool). cond b (Some m) None) f
found_new t (e ∷ es) n m h f = new_more t e es ((n, m) ∷ []) m (t e.0) refl h (λ later. found_new t es n m later f)

define_keeps : (d : Defined) (written : Option (At Name)) (m' : Meaning) (name : Name) (m : Meaning) → meaning_of d name ≡ Some m → meaning_of (define d written m') name ≡ Some m
define_keeps d written m' name m h = by (is_some (lookup (same_name (name_of d written)) d.meanings))
  where
    by : (b : Bool) → lookup (same_name name) (if b then d.meanings else (d.meanings ++ (name_of d written, m') ∷ [])) ≡ Some m
    by true = h
    by false = found_still (same_name name) d.meanings ((name_of d written, m') ∷ []) m h

define_finds : (d : Defined) (n : At Name) (m : Meaning) → name_problem d (Some n) ≡ None → meaning_of (define d (Some n) m) n.item ≡ Some m
define_finds d n m h =
    let free : is_some (lookup (same_name n.item) d.meanings) ≡ false = kept _ _ _ (both_none _ _ h).0 in
    ap (λ (b : Bool). lookup (same_name n.item) (if b then d.meanings else (d.meanings ++ (n.item, m) ∷ []))) free
    ∙ found_new (same_name n.item) d.meanings n.item m (is_none (lookup (same_name n.item) d.meanings) free) (itself n.item)

item_keeps : (p : Passed) (x : Item) (name : Name) (m : Meaning) → meaning_of p.before name ≡ Some m → meaning_of (after_item p x).before name ≡ Some m
item_keeps p (Global g) name m h = define_keeps p.before (symbol_name g.name) (meaning.Global p.globals g.width) name m h
item_keeps p (Function f) name m h = define_keeps p.before (symbol_name f.name) (meaning.Function p.functions) name m h

items_keep : (p : Passed) (xs : List Item) (name : Name) (m : Meaning) → meaning_of p.before name ≡ Some m → meaning_of (after_items p xs).before name ≡ Some m
unfolding after_items
items_keep p [] name m h = h
items_keep p (x ∷ xs) name m h = items_keep (after_item p x) xs name m (item_keeps p x name m h)

-- ---- the walk

-- a global without a problem, whose name means it in the end
pub record IsGlobalAt (final : Defined) (n : ℕ) (g : RawGlobal) : Type 0 where
  pub meant : meaning_of final (Text g.name.item) ≡ Some (meaning.Global n g.width)
  pub value : value_problem no_context nowhere g.width g.value ≡ None

pub record IsFunctionAt (functions : List RawFunction) (symbols : Defined) (final : Defined) (n : ℕ) (f : RawFunction) : Type 0 where
  pub meant : meaning_of final (Text f.name.item) ≡ Some (meaning.Function n)
  pub external : (is_nil f.blocks && not (is_known_external f)) ≡ false
  pub within : is_above_limits f ≡ false
  pub body : body_problem (context_in functions symbols f) f ≡ None

module _ (functions : List RawFunction) (symbols : Defined) where
  pub each_fine : (p : Passed) (xs : List Item) → items_problem functions symbols p xs ≡ None → EachItem (IsGlobalAt (after_items p xs).before) (IsFunctionAt functions symbols (after_items p xs).before) p.globals p.functions xs
  unfolding EachItem items_problem after_items
  each_fine p [] h = tt
  each_fine p (Global g ∷ xs) h =
      let parts = both_none _ _ h in
      let own = both_none _ _ parts.0 in (
        record {
          meant = items_keep (after_item p (Global g)) xs (Text g.name.item) (meaning.Global p.globals g.width)
              (define_finds p.before (record { item = Text g.name.item; span = g.name.span }) (meaning.Global p.globals g.width) own.0);
          value = own.1;
        },
        each_fine (after_item p (Global g)) xs parts.1,
      )
  each_fine p (Function f ∷ xs) h =
      let parts = both_none _ _ h in
      let own = both_none _ _ parts.0 in
      let inner = both_none _ _ own.1 in
      let last = both_none _ _ inner.1 in (
        record {
          meant = items_keep (after_item p (Function f)) xs (Text f.name.item) (meaning.Function p.functions)
              (define_finds p.before (record { item = Text f.name.item; span = f.name.span }) (meaning.Function p.functions) own.0);
          external = kept _ _ _ inner.0;
          within = kept _ _ _ last.0;
          body = last.1;
        },
        each_fine (after_item p (Function f)) xs parts.1,
      )

-- ---- what the names of a tree mean

abbrev pub global_widths : List RawGlobal → List Width
global_widths gs = map (λ g. g.width) gs

abbrev HasWidthAt : List Width → ℕ → RawGlobal → Type 0
HasWidthAt ws n g = slice_get ws n ≡ Some g.width

abbrev Any : ℕ → RawFunction → Type 0
Any n f = Unit {0}

widths_at : (ws : List Width) (n : ℕ) (gs : List RawGlobal) → drop n ws ≡ global_widths gs → EachFrom (HasWidthAt ws) n gs
unfolding EachFrom
widths_at ws n [] h = tt
widths_at ws n (g ∷ gs) h = (at_drop ws n g.width (global_widths gs) h, widths_at ws (n + 1) gs (drop_next ws n g.width (global_widths gs) h))

any_at : (n : ℕ) (fs : List RawFunction) → EachFrom Any n fs
unfolding EachFrom
any_at n [] = tt
any_at n (f ∷ fs) = (tt, any_at (n + 1) fs)

items_known : (ws : List Width) (p : Passed) (xs : List Item) → EachItem (HasWidthAt ws) Any p.globals p.functions xs → AllKnown (KnowsSymbol ws) p.before → AllKnown (KnowsSymbol ws) (after_items p xs).before
unfolding EachItem after_items
items_known ws p [] e h = h
items_known ws p (Global g ∷ xs) e h = items_known ws (after_item p (Global g)) xs e.1 (define_known (KnowsSymbol ws) p.before (symbol_name g.name) (meaning.Global p.globals g.width) h e.0)
items_known ws p (Function f ∷ xs) e h = items_known ws (after_item p (Function f)) xs e.1 (define_known (KnowsSymbol ws) p.before (symbol_name f.name) (meaning.Function p.functions) h tt)

pub symbols_known : (gs : List RawGlobal) (fs : List RawFunction) → AllKnown (KnowsSymbol (global_widths gs)) (after_items at_top (merged gs fs)).before
symbols_known gs fs =
    items_known (global_widths gs) at_top (merged gs fs) (merged_together (HasWidthAt (global_widths gs)) Any gs 0 0 fs (widths_at (global_widths gs) 0 gs refl) (any_at 0 fs))
    (All-nil (λ (e : Name × Meaning). KnowsSymbol (global_widths gs) e.1))
