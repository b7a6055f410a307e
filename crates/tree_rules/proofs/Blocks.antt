-- The blocks of a function without a problem keep their rules.
use Rattle.std.proofs.Common.{◌≡◌, ◌<◌, ◌+◌, ◌++◌, ℕ, zero, suc, List, [], ◌∷◌, Option, None, Some, length, map, take, is_some, append_assoc, append-nil, length-append, refl, sym, ap, ◌∙◌, arith}
use Rattle.std.specs.Prelude.{◌↔◌, All, IfSome, IsSome, slice_get, option_to_list}
use Rattle.std.proofs.lemmas.List.{map-append}
use Rattle.std.proofs.lemmas.List.Elements.{All-nil, All-cons, All-head, All-tail}
use Rattle.mc_num.specs.declared.op.Width.{Width}
use Rattle.ir_types.specs.declared.name.Name.{Name}
use Rattle.ir_types.specs.declared.syntax.Instr.{Instr}
use Rattle.ir_types.specs.declared.tree.RawInstr.{RawInstr}
use Rattle.ir_types.specs.declared.tree.RawBlock.{RawBlock}
use Rattle.ir_types.specs.Definitions.{name_of}
use Rattle.ir_types.specs.Limits.{raw_slot_count}
use Rattle.ir_types.specs.Uses.{Context}
use Rattle.ir_types.specs.Rules.{Reached, here, after_instr, after_instrs, at_block, at_term, after_block, kind_problem, instrs_problem, block_problem, blocks_problem}
use Rattle.ir_types.specs.ModuleOf.{kind_of, instr_of, instrs_from, block_of, blocks_from}
use Rattle.ir_types.specs.WellFormed.{Scope, given_by, Fits, IsNamed, IsBlockIn}
use Rattle.ir_types.specs.Written.{IsSpelledInstr, IsSpelledBlock}
use Rattle.tree_rules.proofs.Distinct.{both_none}
use Rattle.tree_rules.proofs.Sorts.{raw_width, Sort, variable, result, nothing as taker}
use Rattle.tree_rules.proofs.Bodies.{sort_of, block_stays}
use Rattle.tree_rules.proofs.Known.{Shape, types, type_of, typed_as, Stands, StandsBefore, in_block, before_next}
use Rattle.tree_rules.proofs.Uses.{scope_with, IsKnown, given, IsBehind}
use Rattle.tree_rules.proofs.Fitting.{IsFit, kind_fits}
use Rattle.tree_rules.proofs.Cases.{term_fits}

-- each instruction fits after those before it, and is named where it gives a result
unfoldable FitsFrom : Scope → List Instr → List Instr → Type 0
FitsFrom s before [] = Unit {0}
FitsFrom s before (i ∷ rest) = Fits s before i.kind × IsNamed s i × FitsFrom s (before ++ i ∷ []) rest

fits_at : (s : Scope) (before rest : List Instr) → FitsFrom s before rest → (k : ℕ) (i : Instr) → slice_get rest k ≡ Some i → Fits s (before ++ take k rest) i.kind
unfolding FitsFrom
fits_at s before [] u k i h = cc
fits_at s before (x ∷ xs) u zero i h = let found : x ≡ i = cc in rw (append-nil before, ← found) u.0
fits_at s before (x ∷ xs) u (suc k) i h = rw (← append_assoc before (x ∷ []) (take k xs)) (fits_at s (before ++ x ∷ []) xs u.2 k i h)

all_named : (s : Scope) (before rest : List Instr) → FitsFrom s before rest → All (IsNamed s) rest
unfolding FitsFrom
all_named s before [] u = All-nil (IsNamed s)
all_named s before (x ∷ xs) u = All-cons (IsNamed s) x xs u.1 (all_named s (before ++ x ∷ []) xs u.2)

-- instructions that fit, whose results have these widths, with the number of the place behind them
record Fitted (s : Scope) (ts : List (Option Width)) (before is : List Instr) (end : ℕ) : Type 0 where
  fit : FitsFrom s before is
  types : ts ≡ map (given s) (before ++ is)
  count : end ≡ length (before ++ is)

fitted_as : (s : Scope) (ts : List (Option Width)) (before is js : List Instr) (end : ℕ) → is ≡ js → Fitted s ts before js end → Fitted s ts before is end
fitted_as s ts before is js end e h = rw e h

fitted_more : (s : Scope) (ts : List (Option Width)) (before : List Instr) (i : Instr) (rest : List Instr) (end : ℕ) → Fits s before i.kind → IsNamed s i → Fitted s ts (before ++ i ∷ []) rest end → Fitted s ts before (i ∷ rest) end
unfolding FitsFrom
fitted_more s ts before i rest end f n h = let together = append_assoc before (i ∷ []) rest in record {
  fit = (f, n, h.fit);
  types = h.types ∙ ap (map (given s)) together;
  count = h.count ∙ ap (λ (l : List Instr). length l) together;
}

-- a place of a block behind these instructions, where these are left
record Front (s : Scope) (sh : Shape) (ts : List (Option Width)) (r : Reached) (xs : List RawInstr) (before : List Instr) : Type 0 where
  block : slice_get sh.blocks r.block ≡ Some ts
  left : ts ≡ map (given s) before ++ types xs
  instrs : r.instrs ≡ length before

if_some : {X : Type 0} (P : X → Type 0) (o : Option X) (x : X) → o ≡ Some x → IfSome o P → P x
if_some P o x e h = rw e at h

gives_nothing : (o : Option Width) (n : Option Name) → o ≡ None → n ≡ None → IsSome n ↔ IsSome o
gives_nothing o n e f = rw (e, f) (λ some. some, λ some. some)

gives_something : (o : Option Width) (w : Width) (n : Name) → o ≡ Some w → IsSome (Some n) ↔ IsSome o
gives_something o w n e = (λ some. ap is_some e, λ some. refl)

module _ (c : Context) (globals : List Width) (sh : Shape) (known : IsKnown c globals sh) (ts : List (Option Width)) where
  front_more : (r : Reached) (x : RawInstr) (xs : List RawInstr) (before : List Instr) (i : Instr) (w : Option Width) → Front (scope_with c globals sh) sh ts r (x ∷ xs) before → type_of x.kind ≡ w ∷ [] → given (scope_with c globals sh) i ≡ w → (after_instr r x).instrs ≡ r.instrs + 1
      → Front (scope_with c globals sh) sh ts (after_instr r x) xs (before ++ i ∷ [])
  unfolding types
  front_more r x xs before i w front t g e = record {
    block = front.block;
    left =
        front.left
        ∙ (ap (λ (l : List (Option Width)). map (given (scope_with c globals sh)) before ++ (l ++ types xs)) (t ∙ ap (λ (v : Option Width). v ∷ []) (sym g))
        ∙ (sym (append_assoc (map (given (scope_with c globals sh)) before) (given (scope_with c globals sh) i ∷ []) (types xs))
        ∙ ap (λ (l : List (Option Width)). l ++ types xs) (sym (map-append (given (scope_with c globals sh)) before (i ∷ [])))));
    instrs = omega (arith, e, front.instrs, length-append before (i ∷ []));
  }

  front_same : (r : Reached) (x : RawInstr) (xs : List RawInstr) (before : List Instr) → Front (scope_with c globals sh) sh ts r (x ∷ xs) before → type_of x.kind ≡ [] → (after_instr r x).instrs ≡ r.instrs → Front (scope_with c globals sh) sh ts (after_instr r x) xs before
  unfolding types
  front_same r x xs before front t e = record {
    block = front.block;
    left = front.left ∙ ap (λ (l : List (Option Width)). map (given (scope_with c globals sh)) before ++ (l ++ types xs)) t;
    instrs = e ∙ front.instrs;
  }

  front_behind : (r : Reached) (xs : List RawInstr) (before : List Instr) → Front (scope_with c globals sh) sh ts r xs before → IsBehind (scope_with c globals sh) sh (here r) before
  front_behind r xs before front = record { rest = types xs; types = front.block ∙ ap Some front.left; instrs = front.instrs }

  fit_step : (r : Reached) (x : RawInstr) (xs : List RawInstr) (before : List Instr) (rest : List Instr) (end : ℕ) → kind_problem c r (is_some x.result) x.word x.kind ≡ None → Front (scope_with c globals sh) sh ts r (x ∷ xs) before → Sort c r x
      → ((b : List Instr) → Front (scope_with c globals sh) sh ts (after_instr r x) xs b → Fitted (scope_with c globals sh) ts b rest end)
      → Fitted (scope_with c globals sh) ts before (option_to_list (instr_of c r x) ++ rest) end
  fit_step r x xs before rest end h front (variable v) more =
      fitted_as (scope_with c globals sh) ts before (option_to_list (instr_of c r x) ++ rest) rest end (ap (λ (o : Option Instr). option_to_list o ++ rest) v.instr)
      (more before (front_same r x xs before front (ap type_of v.is) (ap (λ (q : Reached). q.instrs) v.after)))
  fit_step r x xs before rest end h front (result v) more =
      let i : Instr = record { result = Some (name_of r.before x.result); kind = v.kind } in
      let fit : IsFit (scope_with c globals sh) before (raw_width x.kind) v.kind =
      if_some (IsFit (scope_with c globals sh) before (raw_width x.kind)) (kind_of c x.kind) v.kind v.meant (kind_fits c globals sh known r before (is_some x.result) x.word x.kind (front_behind r (x ∷ xs) before front) h) in
      let gives : given_by (scope_with c globals sh) v.kind ≡ Some v.width = fit.gives ∙ v.gives in
      fitted_as (scope_with c globals sh) ts before (option_to_list (instr_of c r x) ++ rest) (i ∷ rest) end (ap (λ (o : Option Instr). option_to_list o ++ rest) v.instr)
      (fitted_more (scope_with c globals sh) ts before i rest end fit.fits (gives_something (given_by (scope_with c globals sh) v.kind) v.width (name_of r.before x.result) gives)
      (more (before ++ i ∷ []) (front_more r x xs before i (Some v.width) front (typed_as x.kind (Some v.width) v.is_no_alloca v.gives) gives (ap (λ (q : Reached). q.instrs) v.after))))
  fit_step r x xs before rest end h front (taker v) more =
      let i : Instr = record { result = None; kind = v.kind } in
      let fit : IsFit (scope_with c globals sh) before (raw_width x.kind) v.kind =
      if_some (IsFit (scope_with c globals sh) before (raw_width x.kind)) (kind_of c x.kind) v.kind v.meant (kind_fits c globals sh known r before (is_some x.result) x.word x.kind (front_behind r (x ∷ xs) before front) h) in
      let gives : given_by (scope_with c globals sh) v.kind ≡ None = fit.gives ∙ v.gives in
      fitted_as (scope_with c globals sh) ts before (option_to_list (instr_of c r x) ++ rest) (i ∷ rest) end (ap (λ (o : Option Instr). option_to_list o ++ rest) v.instr)
      (fitted_more (scope_with c globals sh) ts before i rest end fit.fits (gives_nothing (given_by (scope_with c globals sh) v.kind) None gives refl)
      (more (before ++ i ∷ []) (front_more r x xs before i None front (typed_as x.kind None v.is_no_alloca v.gives) gives (ap (λ (q : Reached). q.instrs) v.after))))

  instrs_fit : (r : Reached) (xs : List RawInstr) (before : List Instr) → All IsSpelledInstr xs → instrs_problem c r xs ≡ None → Front (scope_with c globals sh) sh ts r xs before
      → Fitted (scope_with c globals sh) ts before (instrs_from c r xs) (after_instrs r xs).instrs
  unfolding instrs_problem instrs_from after_instrs types FitsFrom
  instrs_fit r [] before spelled h front = record {
    fit = tt;
    types = front.left ∙ (append-nil (map (given (scope_with c globals sh)) before) ∙ ap (map (given (scope_with c globals sh))) (sym (append-nil before)));
    count = front.instrs ∙ ap (λ (l : List Instr). length l) (sym (append-nil before));
  }
  instrs_fit r (x ∷ xs) before spelled h front =
      let parts = both_none _ _ h in
      fit_step r x xs before (instrs_from c (after_instr r x) xs) (after_instrs (after_instr r x) xs).instrs (both_none _ _ parts.0).1 front (sort_of c r x (All-head IsSpelledInstr x xs spelled) parts.0)
      (λ b f. instrs_fit (after_instr r x) xs b (All-tail IsSpelledInstr x xs spelled) parts.1 f)

abbrev pub HasFewSlots : RawBlock → Type 0
HasFewSlots b = raw_slot_count b.term < 4294967295

module _ (c : Context) (globals : List Width) (sh : Shape) (known : IsKnown c globals sh) where
  block_fits : (r : Reached) (b : RawBlock) (bs : List RawBlock) → StandsBefore sh r (b ∷ bs) → IsSpelledBlock b → HasFewSlots b → block_problem c r b ≡ None → IsBlockIn (scope_with c globals sh) (block_of c r b)
  block_fits r b bs stands spelled few h =
      let inner = both_none _ _ (both_none _ _ h).1 in
      let place : Stands sh (types b.instrs) (at_block r b) b.instrs _ = in_block sh r b bs stands in
      let fitted = instrs_fit c globals sh known (types b.instrs) (at_block r b) b.instrs [] spelled.instrs inner.0 (record { block = place.block; left = refl; instrs = refl }) in
      let is : List Instr = instrs_from c (at_block r b) b.instrs in
      let found : slice_get sh.blocks (at_term r b).block ≡ Some (map (given (scope_with c globals sh)) is ++ []) =
      ap (λ (n : ℕ). slice_get sh.blocks n) (block_stays (at_block r b) b.instrs) ∙ (place.block ∙ ap Some (fitted.types ∙ sym (append-nil (map (given (scope_with c globals sh)) is)))) in
      let behind : IsBehind (scope_with c globals sh) sh (here (at_term r b)) is = record { rest = []; types = found; instrs = fitted.count } in
      let end = term_fits c globals sh known (here (at_term r b)) is b.term_word b.term behind spelled.term few inner.1 in
      record {
        fits = fits_at (scope_with c globals sh) [] is fitted.fit;
        named = all_named (scope_with c globals sh) [] is fitted.fit;
        ends = end.ends;
        targets_exist = end.targets;
      }

  pub blocks_fit : (r : Reached) (bs : List RawBlock) → StandsBefore sh r bs → All IsSpelledBlock bs → All HasFewSlots bs → blocks_problem c r bs ≡ None → All (IsBlockIn (scope_with c globals sh)) (blocks_from c r bs)
  unfolding blocks_problem blocks_from
  blocks_fit r [] stands spelled few h = All-nil (IsBlockIn (scope_with c globals sh))
  blocks_fit r (b ∷ bs) stands spelled few h =
      let parts = both_none _ _ h in
      let head : IsSpelledBlock b = All-head IsSpelledBlock b bs spelled in
      All-cons (IsBlockIn (scope_with c globals sh)) (block_of c r b) (blocks_from c (after_block r b) bs)
      (block_fits r b bs stands head (All-head HasFewSlots b bs few) parts.0)
      (blocks_fit (after_block r b) bs (before_next c sh r b bs head parts.0 stands) (All-tail IsSpelledBlock b bs spelled) (All-tail HasFewSlots b bs few) parts.1)
