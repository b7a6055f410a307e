-- The names that a function without a problem defines are those of the function that it means, in the same order.
use Rattle.std.proofs.Common.{inl, inr, ◌≡◌, ◌<◌, ◌+◌, ◌++◌, ℕ, List, [], ◌∷◌, Option, None, length, map, append_assoc, append-nil, refl, ap, ◌∙◌, arith}
use Rattle.std.specs.Prelude.{◌⊎◌, All, filter_map, option_to_list}
use Rattle.std.proofs.lemmas.List.{map-append}
use Rattle.std.proofs.lemmas.List.Elements.{All-head, All-tail, filter_map-append}
use Rattle.mc_num.specs.declared.op.Width.{Width}
use Rattle.ir_types.specs.declared.name.Name.{Name}
use Rattle.ir_types.specs.declared.rules.Meaning.TheVariants as meaning
use Rattle.ir_types.specs.declared.syntax.Instr.{Instr}
use Rattle.ir_types.specs.declared.tree.RawInstr.{RawInstr}
use Rattle.ir_types.specs.declared.tree.RawBlock.{RawBlock}
use Rattle.ir_types.specs.declared.tree.RawParam.{RawParam}
use Rattle.ir_types.specs.Definitions.{Defined, define, name_of, name_problem}
use Rattle.ir_types.specs.Uses.{Context}
use Rattle.ir_types.specs.Rules.{Reached, after_instr, after_instrs, at_block, at_term, after_block, after_blocks, after_params, instr_problem, instrs_problem, block_problem, blocks_problem, params_problem}
use Rattle.ir_types.specs.ModuleOf.{var_of, instr_of, vars_from, instrs_from, blocks_from, variables_from, params_from}
use Rattle.ir_types.specs.WellFormed.{block_names, body_names}
use Rattle.ir_types.specs.Written.{IsDefinable, IsSpelledInstr, IsSpelledBlock}
use Rattle.tree_rules.proofs.Distinct.{both_none}
use Rattle.tree_rules.proofs.Names.{Names, Grown, none_grown, then_grown, same_grown, one_grown}
use Rattle.tree_rules.proofs.Sorts.{Sort, variable, result, nothing as taker, sort}

abbrev pub label : Width × Name → Name
label x = x.1

abbrev pub results : List Instr → List Name
results is = filter_map (λ i. i.result) is

pub sort_of : (c : Context) (r : Reached) (x : RawInstr) → IsSpelledInstr x → instr_problem c r x ≡ None → Sort c r x
sort_of c r x spelled h = sort c r x.result x.word x.kind spelled.kind h

-- ---- allocas stand first

no_vars_step : (c : Context) (r : Reached) (x : RawInstr) (xs : List RawInstr) → Sort c r x → 0 < r.block + r.instrs → (0 < (after_instr r x).block + (after_instr r x).instrs → vars_from (after_instr r x) xs ≡ [])
    → option_to_list (var_of r x x.kind) ++ vars_from (after_instr r x) xs ≡ []
no_vars_step c r x xs (variable v) late rest = absurd (omega (arith, v.first))
no_vars_step c r x xs (result v) late rest =
    let later : (after_instr r x).instrs ≡ r.instrs + 1 = ap (λ (q : Reached). q.instrs) v.after in
    ap (λ (o : Option (Width × Name)). option_to_list o ++ vars_from (after_instr r x) xs) v.variable ∙ rest (omega (arith, later))
no_vars_step c r x xs (taker v) late rest =
    let later : (after_instr r x).instrs ≡ r.instrs + 1 = ap (λ (q : Reached). q.instrs) v.after in
    ap (λ (o : Option (Width × Name)). option_to_list o ++ vars_from (after_instr r x) xs) v.variable ∙ rest (omega (arith, later))

pub no_vars : (c : Context) (r : Reached) (xs : List RawInstr) → All IsSpelledInstr xs → instrs_problem c r xs ≡ None → 0 < r.block + r.instrs → vars_from r xs ≡ []
unfolding instrs_problem vars_from
no_vars c r [] spelled h late = refl
no_vars c r (x ∷ xs) spelled h late =
    let parts = both_none _ _ h in
    no_vars_step c r x xs (sort_of c r x (All-head IsSpelledInstr x xs spelled) parts.0) late (no_vars c (after_instr r x) xs (All-tail IsSpelledInstr x xs spelled) parts.1)

-- an instruction makes no instruction, or no variable follows it
none_or_none : (c : Context) (r : Reached) (x : RawInstr) (xs : List RawInstr) → All IsSpelledInstr xs → Sort c r x → instrs_problem c (after_instr r x) xs ≡ None
    → (option_to_list (instr_of c r x) ≡ []) ⊎ (vars_from (after_instr r x) xs ≡ [])
none_or_none c r x xs spelled (variable v) h = inl (ap option_to_list v.instr)
none_or_none c r x xs spelled (result v) h =
    let later : (after_instr r x).instrs ≡ r.instrs + 1 = ap (λ (q : Reached). q.instrs) v.after in
    inr (no_vars c (after_instr r x) xs spelled h (omega (arith, later)))
none_or_none c r x xs spelled (taker v) h =
    let later : (after_instr r x).instrs ≡ r.instrs + 1 = ap (λ (q : Reached). q.instrs) v.after in
    inr (no_vars c (after_instr r x) xs spelled h (omega (arith, later)))

-- ---- instructions

moved : (d new other : Defined) (ns ms : List Name) (n : ℕ) → new ≡ other → ms ≡ ns → Grown d other ns n → Grown d new ms n
moved d new other ns ms n e f g = rw (e, f) g

module _ (c : Context) (r : Reached) (x : RawInstr) (room : r.before.next < 4294967295) (named : Names r.before) (spelled : IsDefinable x.result) (h : name_problem r.before x.result ≡ None) where
  instr_grown : Sort c r x → Grown r.before (after_instr r x).before (map label (option_to_list (var_of r x x.kind)) ++ results (option_to_list (instr_of c r x))) 1
  instr_grown (variable v) =
      moved r.before (after_instr r x).before (define r.before x.result (meaning.Variable r.variables v.width)) (name_of r.before x.result ∷ []) (map label (option_to_list (var_of r x x.kind)) ++ results (option_to_list (instr_of c r x))) 1
      (ap (λ (q : Reached). q.before) v.after) (λ i. map label (option_to_list (v.variable i)) ++ results (option_to_list (v.instr i)))
      (one_grown r.before (meaning.Variable r.variables v.width) room x.result named h spelled)
  instr_grown (result v) =
      moved r.before (after_instr r x).before _ (name_of r.before x.result ∷ []) (map label (option_to_list (var_of r x x.kind)) ++ results (option_to_list (instr_of c r x))) 1
      (ap (λ (q : Reached). q.before) v.after) (λ i. map label (option_to_list (v.variable i)) ++ results (option_to_list (v.instr i)))
      (one_grown r.before _ room x.result named h spelled)
  instr_grown (taker v) =
      moved r.before (after_instr r x).before r.before [] (map label (option_to_list (var_of r x x.kind)) ++ results (option_to_list (instr_of c r x))) 1
      (ap (λ (q : Reached). q.before) v.after) (λ i. map label (option_to_list (v.variable i)) ++ results (option_to_list (v.instr i)))
      (none_grown r.before 1 named)

arranged : (vs ws : List (Width × Name)) (is js : List Instr) → (is ≡ []) ⊎ (ws ≡ []) → (map label vs ++ results is) ++ (map label ws ++ results js) ≡ map label (vs ++ ws) ++ results (is ++ js)
arranged vs ws is js (inl none) = rw (none, append-nil (map label vs), map-append label vs ws, append_assoc (map label vs) (map label ws) (results js)) refl
arranged vs ws is js (inr none) = rw (none, append-nil vs, filter_map-append (λ (i : Instr). i.result) is js, append_assoc (map label vs) (results is) (results js)) refl

pub instrs_grown : (c : Context) (r : Reached) (xs : List RawInstr) → r.before.next + length xs < 4294967295 → Names r.before → All IsSpelledInstr xs → instrs_problem c r xs ≡ None
    → Grown r.before (after_instrs r xs).before (map label (vars_from r xs) ++ results (instrs_from c r xs)) (length xs)
unfolding instrs_problem after_instrs vars_from instrs_from
instrs_grown c r [] room named spelled h = none_grown r.before 0 named
instrs_grown c r (x ∷ xs) room named spelled h =
    let parts = both_none _ _ h in
    let head : IsSpelledInstr x = All-head IsSpelledInstr x xs spelled in
    let tail : All IsSpelledInstr xs = All-tail IsSpelledInstr x xs spelled in
    let s : Sort c r x = sort_of c r x head parts.0 in
    let first : Grown r.before (after_instr r x).before (map label (option_to_list (var_of r x x.kind)) ++ results (option_to_list (instr_of c r x))) 1 = instr_grown c r x (omega arith) named head.result (both_none _ _ parts.0).0 s in
    let rest = instrs_grown c (after_instr r x) xs (omega (arith, first.next)) first.names tail parts.1 in
    same_grown r.before (after_instrs (after_instr r x) xs).before _ _ (1 + length xs) (length (x ∷ xs))
    (arranged (option_to_list (var_of r x x.kind)) (vars_from (after_instr r x) xs) (option_to_list (instr_of c r x)) (instrs_from c (after_instr r x) xs) (none_or_none c r x xs tail s parts.1)) (omega arith)
    (then_grown r.before (after_instr r x).before (after_instrs (after_instr r x) xs).before _ _ 1 (length xs) first rest)

-- ---- blocks

abbrev pub names_of_block : Reached → RawBlock → Context → List Name
names_of_block r b c = name_of r.before b.label ∷ (map label (vars_from (at_block r b) b.instrs) ++ results (instrs_from c (at_block r b) b.instrs))

pub block_grown : (c : Context) (r : Reached) (b : RawBlock) → r.before.next + (1 + length b.instrs) < 4294967295 → Names r.before → IsSpelledBlock b → block_problem c r b ≡ None
    → Grown r.before (after_block r b).before (names_of_block r b c) (1 + length b.instrs)
block_grown c r b room named spelled h =
    let parts = both_none _ _ h in
    let inner = both_none _ _ parts.1 in
    let first : Grown r.before (at_block r b).before (name_of r.before b.label ∷ []) 1 = one_grown r.before (meaning.Block r.block) (omega arith) b.label named parts.0 spelled.label in
    let rest = instrs_grown c (at_block r b) b.instrs (omega (arith, first.next)) first.names spelled.instrs inner.0 in
    then_grown r.before (at_block r b).before (at_term r b).before _ _ 1 (length b.instrs) first rest

-- how many names blocks can define
unfoldable pub names_in : List RawBlock → ℕ
names_in [] = 0
names_in (b ∷ bs) = 1 + length b.instrs + names_in bs

without_vars : (n : Name) (vs : List (Width × Name)) (ns ms : List Name) → vs ≡ [] → (n ∷ (map label vs ++ ns)) ++ ms ≡ (n ∷ ns) ++ ms
without_vars n vs ns ms e = rw e refl

pub block_stays : (r : Reached) (xs : List RawInstr) → (after_instrs r xs).block ≡ r.block
unfolding after_instrs
block_stays r [] = refl
block_stays r (x ∷ xs) = block_stays (after_instr r x) xs

pub next_number : (r : Reached) (b : RawBlock) → (after_block r b).block ≡ r.block + 1
next_number r b = ap (λ (n : ℕ). n + 1) (block_stays (at_block r b) b.instrs)

pub blocks_grown : (c : Context) (r : Reached) (bs : List RawBlock) → 0 < r.block → r.before.next + names_in bs < 4294967295 → Names r.before → All IsSpelledBlock bs → blocks_problem c r bs ≡ None
    → Grown r.before (after_blocks r bs).before (block_names (blocks_from c r bs)) (names_in bs)
unfolding blocks_problem after_blocks blocks_from names_in
blocks_grown c r [] late room named spelled h = none_grown r.before 0 named
blocks_grown c r (b ∷ bs) late room named spelled h =
    let parts = both_none _ _ h in
    let head : IsSpelledBlock b = All-head IsSpelledBlock b bs spelled in
    let first : Grown r.before (after_block r b).before (names_of_block r b c) (1 + length b.instrs) = block_grown c r b (omega arith) named head parts.0 in
    let late' : 0 < (after_block r b).block = omega (arith, next_number r b) in
    let rest = blocks_grown c (after_block r b) bs late' (omega (arith, first.next)) first.names (All-tail IsSpelledBlock b bs spelled) parts.1 in
    let none : vars_from (at_block r b) b.instrs ≡ [] = no_vars c (at_block r b) b.instrs head.instrs (both_none _ _ (both_none _ _ parts.0).1).0 (omega arith) in
    same_grown r.before (after_blocks (after_block r b) bs).before _ _ (1 + length b.instrs + names_in bs) (1 + length b.instrs + names_in bs)
    (without_vars (name_of r.before b.label) (vars_from (at_block r b) b.instrs) (results (instrs_from c (at_block r b) b.instrs)) (block_names (blocks_from c (after_block r b) bs)) none) (omega arith)
    (then_grown r.before (after_block r b).before (after_blocks (after_block r b) bs).before _ _ (1 + length b.instrs) (names_in bs) first rest)

pub no_variables : (c : Context) (r : Reached) (bs : List RawBlock) → 0 < r.block → All IsSpelledBlock bs → blocks_problem c r bs ≡ None → variables_from r bs ≡ []
unfolding blocks_problem variables_from
no_variables c r [] late spelled h = refl
no_variables c r (b ∷ bs) late spelled h =
    let parts = both_none _ _ h in
    let head : IsSpelledBlock b = All-head IsSpelledBlock b bs spelled in
    let late' : 0 < (after_block r b).block = omega (arith, next_number r b) in
    let none : vars_from (at_block r b) b.instrs ≡ [] = no_vars c (at_block r b) b.instrs head.instrs (both_none _ _ (both_none _ _ parts.0).1).0 (omega arith) in
    let rest = no_variables c (after_block r b) bs late' (All-tail IsSpelledBlock b bs spelled) parts.1 in
    λ i. none i ++ rest i

-- ---- parameters and bodies

pub params_grown : (i : ℕ) (d : Defined) (ps : List RawParam) → d.next + length ps < 4294967295 → Names d → All (λ p. IsDefinable p.name) ps → params_problem i d ps ≡ None
    → Grown d (after_params i d ps) (map label (params_from i d ps)) (length ps)
unfolding params_problem after_params params_from
params_grown i d [] room named spelled h = none_grown d 0 named
params_grown i d (p ∷ ps) room named spelled h =
    let parts = both_none _ _ h in
    let d' : Defined = define d p.name (meaning.Parameter i p.width) in
    let first : Grown d d' (name_of d p.name ∷ []) 1 = one_grown d (meaning.Parameter i p.width) (omega arith) p.name named parts.0 (All-head (λ (p : RawParam). IsDefinable p.name) p ps spelled) in
    let rest = params_grown (i + 1) d' ps (omega (arith, first.next)) first.names (All-tail (λ (p : RawParam). IsDefinable p.name) p ps spelled) parts.1 in
    same_grown d (after_params (i + 1) d' ps) _ _ (1 + length ps) (length (p ∷ ps)) refl (omega arith)
    (then_grown d d' (after_params (i + 1) d' ps) _ _ 1 (length ps) first rest)

with_more : (n : Name) (vs ws : List (Width × Name)) (ns ms : List Name) → ws ≡ [] → (n ∷ (map label vs ++ ns)) ++ ms ≡ n ∷ (map label (vs ++ ws) ++ (ns ++ ms))
with_more n vs ws ns ms e = rw (e, append-nil vs, append_assoc (map label vs) ns ms) refl

-- blocks from the entry block on
pub body_grown : (c : Context) (r : Reached) (bs : List RawBlock) → r.before.next + names_in bs < 4294967295 → Names r.before → All IsSpelledBlock bs → blocks_problem c r bs ≡ None
    → Grown r.before (after_blocks r bs).before (body_names (map label (variables_from r bs)) (blocks_from c r bs)) (names_in bs)
unfolding blocks_problem after_blocks blocks_from variables_from names_in
body_grown c r [] room named spelled h = none_grown r.before 0 named
body_grown c r (b ∷ bs) room named spelled h =
    let parts = both_none _ _ h in
    let head : IsSpelledBlock b = All-head IsSpelledBlock b bs spelled in
    let tail : All IsSpelledBlock bs = All-tail IsSpelledBlock b bs spelled in
    let first : Grown r.before (after_block r b).before (names_of_block r b c) (1 + length b.instrs) = block_grown c r b (omega arith) named head parts.0 in
    let late : 0 < (after_block r b).block = omega (arith, next_number r b) in
    let rest = blocks_grown c (after_block r b) bs late (omega (arith, first.next)) first.names tail parts.1 in
    same_grown r.before (after_blocks (after_block r b) bs).before _ _ (1 + length b.instrs + names_in bs) (1 + length b.instrs + names_in bs)
    (with_more (name_of r.before b.label) (vars_from (at_block r b) b.instrs) (variables_from (after_block r b) bs) (results (instrs_from c (at_block r b) b.instrs)) (block_names (blocks_from c (after_block r b) bs)) (no_variables c (after_block r b) bs late tail parts.1)) (omega arith)
    (then_grown r.before (after_block r b).before (after_blocks (after_block r b) bs).before _ _ (1 + length b.instrs) (names_in bs) first rest)
