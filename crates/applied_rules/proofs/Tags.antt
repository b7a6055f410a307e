-- The names of a new function: the old ones in their order, and made ones between them.
use Rattle.std.proofs.Common.{◌≡◌, ◌≢◌, ℕ, suc, ◌+◌, Bool, true, false, if◌then◌else◌, List, [], ◌∷◌, ◌++◌, length, map, refl, sym, ap, ◌∙◌}
use Rattle.std.specs.Prelude.{filter_map}
use Rattle.std.proofs.lemmas.List.{map-append}
use Rattle.std.proofs.lemmas.List.Elements.{filter_map-append}
use Rattle.ir_types.specs.Names.{prefix, spelled, IsSpellable}
use Rattle.ir_types.specs.WellFormed.{CountFrom}
use Rattle.ir_types.specs.declared.name.Made.{Made}
use Rattle.ir_types.specs.declared.name.Made.TheVariants.{Sum, Operand}
use Rattle.ir_types.specs.declared.name.Name.{Name}
use Rattle.ir_types.specs.declared.name.Name.TheVariants.{Text, Number, Made as MadeName}
use Rattle.ir_types.specs.declared.syntax.Instr.{Instr}
use Rattle.point_graph.specs.Graph.{Edge}
use Rattle.expressions.specs.declared.syntax.Arg.{Arg}
use Rattle.expressions.specs.declared.syntax.Arg.TheVariants.{Const as ConstArg, Param as ParamArg, Var as VarArg}
use Rattle.applied.specs.Motion.{Move}
use Rattle.applied.specs.Applied.{Naming, made, arg_loads, group, groups, groups_along}
use Rattle.applied_rules.proofs.Apart.{Each, Apart}
use Rattle.applied_rules.proofs.Spelled.{FitsMade, same_made}

-- a name of the old function, or a made one
pub data Tag : Type 0 where
  Old : (name : Name) → Tag
  New : (what : Made) → Tag

abbrev pub untagged : ℕ → Tag → Name
untagged j (Old name) = name
untagged j (New what) = MadeName j what

abbrev pub olds : List Tag → List Name
olds [] = []
olds (Old name ∷ tags) = name ∷ olds tags
olds (New what ∷ tags) = olds tags

abbrev pub news : List Tag → List Made
news [] = []
news (Old name ∷ tags) = news tags
news (New what ∷ tags) = what ∷ news tags

pub olds_append : (xs ys : List Tag) → olds (xs ++ ys) ≡ olds xs ++ olds ys
olds_append [] ys = refl
olds_append (Old name ∷ xs) ys = ap (λ l. name ∷ l) (olds_append xs ys)
olds_append (New what ∷ xs) ys = olds_append xs ys

pub news_append : (xs ys : List Tag) → news (xs ++ ys) ≡ news xs ++ news ys
news_append [] ys = refl
news_append (Old name ∷ xs) ys = news_append xs ys
news_append (New what ∷ xs) ys = ap (λ l. what ∷ l) (news_append xs ys)

abbrev pub all_old : List Name → List Tag
all_old names = map (λ n. Old n) names

abbrev pub all_new : List Made → List Tag
all_new mades = map (λ x. New x) mades

pub olds_old : (names : List Name) → olds (all_old names) ≡ names
olds_old [] = refl
olds_old (name ∷ names) = ap (λ l. name ∷ l) (olds_old names)

pub news_old : (names : List Name) → news (all_old names) ≡ []
news_old [] = refl
news_old (name ∷ names) = news_old names

pub olds_new : (mades : List Made) → olds (all_new mades) ≡ []
olds_new [] = refl
olds_new (what ∷ mades) = olds_new mades

pub news_new : (mades : List Made) → news (all_new mades) ≡ mades
news_new [] = refl
news_new (what ∷ mades) = ap (λ l. what ∷ l) (news_new mades)

pub untagged_old : (j : ℕ) (names : List Name) → map (untagged j) (all_old names) ≡ names
untagged_old j [] = refl
untagged_old j (name ∷ names) = ap (λ l. name ∷ l) (untagged_old j names)

-- ---- what holds of the old names holds of all

pub counts : (j next : ℕ) (tags : List Tag) → CountFrom next (olds tags) → CountFrom next (map (untagged j) tags)
counts j next [] count = tt
counts j next (Old (Text bytes) ∷ tags) count = counts j next tags count
counts j next (Old (Number n) ∷ tags) count = (count.0, counts j (next + 1) tags count.1)
counts j next (Old (MadeName i what) ∷ tags) count = counts j next tags count
counts j next (New what ∷ tags) count = counts j next tags count

pub spellable : (j : ℕ) (tags : List Tag) → Each IsSpellable (olds tags) → Each IsSpellable (map (untagged j) tags)
spellable j [] each = tt
spellable j (Old name ∷ tags) each = (each.0, spellable j tags each.1)
spellable j (New what ∷ tags) each = (tt, spellable j tags each)

abbrev pub IsOther : ℕ → Name → Type 0
IsOther j name = (rest : List ℕ) → spelled name ≢ Text (prefix j ++ rest)

old_differs : (j : ℕ) (name : Name) → IsOther j name → (tags : List Tag) → Each (λ y. spelled name ≢ y) (map spelled (olds tags)) → Each (λ y. spelled name ≢ y) (map spelled (map (untagged j) tags))
old_differs j name other [] each = tt
old_differs j name other (Old n ∷ tags) each = (each.0, old_differs j name other tags each.1)
old_differs j name other (New what ∷ tags) each = (other _, old_differs j name other tags each)

new_differs : (j : ℕ) (what : Made) → FitsMade what → (tags : List Tag) → Each (IsOther j) (olds tags) → Each FitsMade (news tags) → Each (λ y. what ≢ y) (news tags) → Each (λ y. spelled (MadeName j what) ≢ y) (map spelled (map (untagged j) tags))
new_differs j what fits [] others fit each = tt
new_differs j what fits (Old n ∷ tags) others fit each = ((λ e. others.0 _ (sym e)), new_differs j what fits tags others.1 fit each)
new_differs j what fits (New x ∷ tags) others fit each =
    ((λ e. each.0 (same_made j what x fits fit.0 e)), new_differs j what fits tags others fit.1 each.1)

pub names_apart : (j : ℕ) (tags : List Tag) → Apart (map spelled (olds tags)) → Each (IsOther j) (olds tags) → Apart (news tags) → Each FitsMade (news tags) → Apart (map spelled (map (untagged j) tags))
names_apart j [] apart others made_apart fit = tt
names_apart j (Old name ∷ tags) apart others made_apart fit =
    (old_differs j name others.0 tags apart.0, names_apart j tags apart.1 others.1 made_apart fit)
names_apart j (New what ∷ tags) apart others made_apart fit =
    (new_differs j what fit.0 tags others fit.1 made_apart.0, names_apart j tags apart others made_apart.1 fit.1)

-- ---- made names of groups

abbrev pub arg_mades : ℕ → ℕ → ℕ → List Arg → List Made
arg_mades x p i [] = []
arg_mades x p i (ConstArg c ∷ args) = arg_mades x p (suc i) args
arg_mades x p i (ParamArg q ∷ args) = arg_mades x p (suc i) args
arg_mades x p i (VarArg v ∷ args) = Operand x p i ∷ arg_mades x p (suc i) args

abbrev pub group_mades : Naming → Edge → Move → List Made
group_mades naming edge move =
    let p = naming.edge_number edge in arg_mades move.number p 0 move.expr.args ++ Sum move.number p ∷ []

abbrev pub edge_mades : Naming → Edge → List Move → List Made
edge_mades naming edge [] = []
edge_mades naming edge (move ∷ moves) = (if move.inserted edge then group_mades naming edge move else []) ++ edge_mades naming edge moves

abbrev pub along_mades : Naming → List Edge → List Move → List Made
along_mades naming [] moves = []
along_mades naming (edge ∷ edges) moves = edge_mades naming edge moves ++ along_mades naming edges moves

abbrev results : List Instr → List Name
results instrs = filter_map (λ i. i.result) instrs

module _ (naming : Naming) where
  load_results : (x p i : ℕ) (args : List Arg) → results (arg_loads naming x p i args) ≡ map (made naming) (arg_mades x p i args)
  load_results x p i [] = refl
  load_results x p i (ConstArg c ∷ args) = load_results x p (suc i) args
  load_results x p i (ParamArg q ∷ args) = load_results x p (suc i) args
  load_results x p i (VarArg v ∷ args) = ap (λ l. made naming (Operand x p i) ∷ l) (load_results x p (suc i) args)

  group_results : (edge : Edge) (n temp : ℕ) (move : Move) → results (group naming edge n temp move) ≡ map (made naming) (group_mades naming edge move)
  group_results edge n temp move =
      let p = naming.edge_number edge in
      let mades = arg_mades move.number p 0 move.expr.args in
      filter_map-append (λ i. i.result) (arg_loads naming move.number p 0 move.expr.args) _
      ∙ ap (λ l. l ++ made naming (Sum move.number p) ∷ []) (load_results move.number p 0 move.expr.args)
      ∙ sym (map-append (made naming) mades (Sum move.number p ∷ []))

  pub edge_results : (edge : Edge) (n temp : ℕ) (moves : List Move) → results (groups naming n temp edge moves) ≡ map (made naming) (edge_mades naming edge moves)
  edge_results edge n temp [] = refl
  edge_results edge n temp (move ∷ moves) = by (move.inserted edge) (λ k. edge_results edge k (suc temp) moves)
    where
      by : (q : Bool) → ((k : ℕ) → results (groups naming k (suc temp) edge moves) ≡ map (made naming) (edge_mades naming edge moves))
          → results ((if q then group naming edge n temp move else []) ++ groups naming (n + length (if q then group naming edge n temp move else [])) (suc temp) edge moves) ≡ map (made naming) ((if q then group_mades naming edge move else []) ++ edge_mades naming edge moves)
      by true rest =
          filter_map-append (λ i. i.result) (group naming edge n temp move) _
          ∙ ap (λ l. l ++ results (groups naming (n + length (group naming edge n temp move)) (suc temp) edge moves)) (group_results edge n temp move)
          ∙ ap (λ l. map (made naming) (group_mades naming edge move) ++ l) (rest _)
          ∙ sym (map-append (made naming) (group_mades naming edge move) (edge_mades naming edge moves))
      by false rest = rest (n + 0)

  pub along_results : (edges : List Edge) (n temp : ℕ) (moves : List Move) → results (groups_along naming n temp edges moves) ≡ map (made naming) (along_mades naming edges moves)
  along_results [] n temp moves = refl
  along_results (edge ∷ edges) n temp moves =
      let here = groups naming n temp edge moves in
      filter_map-append (λ i. i.result) here _
      ∙ ap (λ l. l ++ results (groups_along naming (n + length here) temp edges moves)) (edge_results edge n temp moves)
      ∙ ap (λ l. map (made naming) (edge_mades naming edge moves) ++ l) (along_results edges (n + length here) temp moves)
      ∙ sym (map-append (made naming) (edge_mades naming edge moves) (along_mades naming edges moves))
