-- The globals and functions of a tree, one by one.
use Rattle.std.proofs.Common.{◌≡◌, ◌<◌, ◌≤◌, ◌+◌, ◌^◌, ℕ, zero, suc, Bool, true, false, List, [], ◌∷◌, ◌++◌, Option, None, Some, length, map, drop, add-one, refl, sym, subst, ap, ◌∙◌, arith}
use Rattle.std.specs.Prelude.{slice_get, sum_by, option_to_list, option_map}
use Rattle.std.proofs.lemmas.List.Sums.{sum_by-cons}
use Rattle.ir_types.specs.Order.{Item, Global, Function, merged, up_to, starts_before}
use Rattle.ir_types.specs.Problems.{◌>>◌}
use Rattle.ir_types.specs.Definitions.{Defined}
use Rattle.ir_types.specs.Rules.{Passed, after_item, after_items, item_problem, items_problem}
use Rattle.ir_types.specs.ModuleOf.{function_of, global_of}
use Rattle.ir_types.specs.Size.{function_items, items}
use Rattle.ir_types.specs.declared.tree.RawFunction.{RawFunction}
use Rattle.ir_types.specs.declared.tree.RawGlobal.{RawGlobal}
use Rattle.ir_types.specs.declared.tree.Raw.{Raw}
use Rattle.ir_check.specs.declared.tree.Part.{Part}
use Rattle.ir_check.specs.Items.{IsFew, earlier, function_in, global_in, item_in, made_of, next_item}

-- what is left from an index on
from_index : {X : Type 0} (xs : List X) (i : ℕ) (x : X) → slice_get xs i ≡ Some x → drop i xs ≡ x ∷ drop (suc i) xs
from_index [] i x h = cc
from_index (y ∷ ys) zero x h = cc
from_index (y ∷ ys) (suc i) x h = from_index ys i x h

behind_last : {X : Type 0} (xs : List X) (i : ℕ) → slice_get xs i ≡ None → drop i xs ≡ []
behind_last [] zero h = refl
behind_last [] (suc i) h = refl
behind_last (y ∷ ys) zero h = cc
behind_last (y ∷ ys) (suc i) h = behind_last ys i h

within : {X : Type 0} (xs : List X) (i : ℕ) (x : X) → slice_get xs i ≡ Some x → i < length xs
within [] i x h = cc
within (y ∷ ys) zero x h = omega arith
within (y ∷ ys) (suc i) x h = omega (arith, within ys i x h)

part_of_sum : {X : Type 0} (f : X → ℕ) (xs : List X) (i : ℕ) (x : X) → slice_get xs i ≡ Some x → f x ≤ sum_by f xs
part_of_sum f [] i x h = cc
part_of_sum f (y ∷ ys) zero x h =
    let same : f y ≡ f x = cc in
    omega (arith, sum_by-cons f y ys)
part_of_sum f (y ∷ ys) (suc i) x h = omega (arith, sum_by-cons f y ys, part_of_sum f ys i x h)

-- an item comes first: what is left is it and what is left behind it
pub record ComesFirst (raw : Raw) (p : Passed) (x : Item) : Type 0 where
  pub order : merged (drop p.globals raw.globals) (drop p.functions raw.functions) ≡ x ∷ merged (drop (after_item p x).globals raw.globals) (drop (after_item p x).functions raw.functions)
  pub globals : (symbols : Defined) → map global_of (drop p.globals raw.globals) ≡ option_to_list (global_in (made_of raw.functions symbols x)) ++ map global_of (drop (after_item p x).globals raw.globals)
  pub functions : (symbols : Defined) → map (function_of raw.functions symbols) (drop p.functions raw.functions) ≡ option_to_list (function_in (made_of raw.functions symbols x)) ++ map (function_of raw.functions symbols) (drop (after_item p x).functions raw.functions)
  pub few : items raw ≤ 2 ^ 26 → IsFew x
  pub room_globals : p.globals ≤ length raw.globals → (after_item p x).globals ≤ length raw.globals
  pub room_functions : p.functions ≤ length raw.functions → (after_item p x).functions ≤ length raw.functions

module _ (raw : Raw) (p : Passed) where
  a_global : (g : RawGlobal) → slice_get raw.globals p.globals ≡ Some g
      → merged (drop p.globals raw.globals) (drop p.functions raw.functions) ≡ Global g ∷ merged (drop (p.globals + 1) raw.globals) (drop p.functions raw.functions)
      → ComesFirst raw p (Global g)
  a_global g got order = record {
    order = order;
    globals = λ symbols. rw (add-one, from_index raw.globals p.globals g got) refl;
    functions = λ symbols. refl;
    few = λ h. tt;
    room_globals = λ h. omega (arith, within raw.globals p.globals g got);
    room_functions = λ h. h;
  }

  a_function : (f : RawFunction) → slice_get raw.functions p.functions ≡ Some f
      → merged (drop p.globals raw.globals) (drop p.functions raw.functions) ≡ Function f ∷ merged (drop p.globals raw.globals) (drop (p.functions + 1) raw.functions)
      → ComesFirst raw p (Function f)
  a_function f got order = record {
    order = order;
    globals = λ symbols. refl;
    functions = λ symbols. rw (add-one, from_index raw.functions p.functions f got) refl;
    few = λ h. omega (arith, part_of_sum function_items raw.functions p.functions f got);
    room_globals = λ h. h;
    room_functions = λ h. omega (arith, within raw.functions p.functions f got);
  }

  both : (g : RawGlobal) (f : RawFunction) (b : Bool) (x : Item) → starts_before f g ≡ b → slice_get raw.globals p.globals ≡ Some g → slice_get raw.functions p.functions ≡ Some f → earlier (Some g) (Some f) ≡ Some x → ComesFirst raw p x
  unfolding merged up_to
  both g f true x is eg ef e =
      let same : Function f ≡ x = cc in
      subst (λ (y : Item). ComesFirst raw p y) same (a_function f ef (rw (add-one, from_index raw.globals p.globals g eg, from_index raw.functions p.functions f ef, is) refl))
  both g f false x is eg ef e =
      let same : Global g ≡ x = cc in
      subst (λ (y : Item). ComesFirst raw p y) same (a_global g eg (rw (add-one, from_index raw.globals p.globals g eg, from_index raw.functions p.functions f ef, is) refl))

  by : (g : Option RawGlobal) (f : Option RawFunction) (x : Item) → slice_get raw.globals p.globals ≡ g → slice_get raw.functions p.functions ≡ f → earlier g f ≡ Some x → ComesFirst raw p x
  unfolding merged up_to
  by None None x eg ef e = cc
  by (Some g) None x eg ef e =
      let same : Global g ≡ x = cc in
      subst (λ (y : Item). ComesFirst raw p y) same (a_global g eg (rw (add-one, from_index raw.globals p.globals g eg, behind_last raw.functions p.functions ef) refl))
  by None (Some f) x eg ef e =
      let same : Function f ≡ x = cc in
      subst (λ (y : Item). ComesFirst raw p y) same (a_function f ef (rw (add-one, behind_last raw.globals p.globals eg, from_index raw.functions p.functions f ef) refl))
  by (Some g) (Some f) x eg ef e = both g f (starts_before f g) x refl eg ef e

  pub comes_first : (x : Item) → next_item raw p ≡ Some x → ComesFirst raw p x
  comes_first x e = by (slice_get raw.globals p.globals) (slice_get raw.functions p.functions) x refl refl e

  neither : (g : Option RawGlobal) (f : Option RawFunction) → slice_get raw.globals p.globals ≡ g → slice_get raw.functions p.functions ≡ f → earlier g f ≡ None → (drop p.globals raw.globals ≡ []) × (drop p.functions raw.functions ≡ [])
  neither None None eg ef e = (behind_last raw.globals p.globals eg, behind_last raw.functions p.functions ef)
  neither (Some g) None eg ef e = cc
  neither None (Some f) eg ef e = cc
  neither (Some g) (Some f) eg ef e = cc

  pub none_left : next_item raw p ≡ None → (drop p.globals raw.globals ≡ []) × (drop p.functions raw.functions ≡ [])
  none_left e = neither (slice_get raw.globals p.globals) (slice_get raw.functions p.functions) refl refl e

-- loops over items
pub after_items-step : (p : Passed) (x : Item) (xs rest : List Item) → xs ≡ x ∷ rest → after_items p xs ≡ after_items (after_item p x) rest
unfolding after_items
after_items-step p x xs rest e = rw e refl

pub after_items-end : (p : Passed) (gs : List RawGlobal) (fs : List RawFunction) → (gs ≡ []) × (fs ≡ []) → after_items p (merged gs fs) ≡ p
unfolding after_items merged
after_items-end p gs fs e = rw (e.0, e.1) refl

pub items_problem-step : (functions : List RawFunction) (symbols : Defined) (p : Passed) (x : Item) (xs rest : List Item) → xs ≡ x ∷ rest → items_problem functions symbols p xs ≡ (item_problem functions symbols p x >> items_problem functions symbols (after_item p x) rest)
unfolding items_problem
items_problem-step functions symbols p x xs rest e = rw e refl

pub items_problem-end : (functions : List RawFunction) (symbols : Defined) (p : Passed) (gs : List RawGlobal) (fs : List RawFunction) → (gs ≡ []) × (fs ≡ []) → items_problem functions symbols p (merged gs fs) ≡ None
unfolding items_problem merged
items_problem-end functions symbols p gs fs e = rw (e.0, e.1) refl

-- what the code finds is the next item
pub found : (o : Option Part) (part : Part) (n : Option Item) → option_map item_in o ≡ n → o ≡ Some part → n ≡ Some (item_in part)
found o part n e is = sym e ∙ ap (λ (o : Option Part). option_map item_in o) is

pub not_found : (o : Option Part) (n : Option Item) → option_map item_in o ≡ n → o ≡ None → n ≡ None
not_found o n e is = sym e ∙ ap (λ (o : Option Part). option_map item_in o) is

-- one item less is left
pub shorter : (raw : Raw) (p : Passed) (x : Item) (s : Passed) → ComesFirst raw p x → s ≡ after_item p x
    → length (merged (drop s.globals raw.globals) (drop s.functions raw.functions)) < length (merged (drop p.globals raw.globals) (drop p.functions raw.functions))
shorter raw p x s first e = rw (e, first.order) (omega arith)
