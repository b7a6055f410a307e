-- What the names of a function without a problem mean among its parameters, blocks, results and variables.
use Rattle.std.proofs.Common.{◌≡◌, ◌<◌, ◌+◌, ◌++◌, ℕ, zero, suc, Bool, true, false, List, [], ◌∷◌, Option, None, Some, length, map, drop, add-one, is_some, refl, ap, ◌∙◌}
use Rattle.std.specs.Prelude.{All, IfSome, slice_get, option_and_then, if◌then◌else◌}
use Rattle.std.specs.Map.{lookup}
use Rattle.std.proofs.lemmas.List.Elements.{All-nil, All-head, All-tail, All-push, All-contains}
use Rattle.std.proofs.lemmas.Map.Views.{Contains-from_lookup}
use Rattle.std.proofs.lemmas.Option.{slice_get_within}
use Rattle.mc_num.specs.declared.op.Width.{Width}
use Rattle.ir_types.specs.declared.span.At.{At as Placed}
use Rattle.ir_types.specs.declared.name.Name.{Name}
use Rattle.ir_types.specs.declared.rules.Meaning.{Meaning}
use Rattle.ir_types.specs.declared.rules.Meaning.TheVariants.{Parameter, Block, Register, Variable, Function, Global}
use Rattle.ir_types.specs.declared.tree.RawKind.{RawKind}
use Rattle.ir_types.specs.declared.tree.RawKind.TheVariants as kind
use Rattle.ir_types.specs.declared.tree.RawInstr.{RawInstr}
use Rattle.ir_types.specs.declared.tree.RawBlock.{RawBlock}
use Rattle.ir_types.specs.declared.tree.RawParam.{RawParam}
use Rattle.ir_types.specs.declared.tree.RawFunction.{RawFunction}
use Rattle.ir_types.specs.declared.tree.Ty.TheVariants.{Int}
use Rattle.ir_types.specs.Definitions.{Defined, nothing, same_name, define, name_of, meaning_of}
use Rattle.ir_types.specs.Limits.{is_alloca}
use Rattle.ir_types.specs.Uses.{Context}
use Rattle.ir_types.specs.Rules.{Reached, after_instr, after_instrs, at_block, at_term, after_block, after_blocks, after_params, at_body, locals_of, instrs_problem, block_problem, blocks_problem}
use Rattle.ir_types.specs.ModuleOf.{width_of}
use Rattle.ir_types.specs.Written.{IsSpelledInstr, IsSpelledBlock}
use Rattle.tree_rules.proofs.Distinct.{both_none, same}
use Rattle.tree_rules.proofs.Sorts.{raw_width, Sort, variable, result, nothing as taker}
use Rattle.tree_rules.proofs.Bodies.{sort_of, next_number}

-- ---- lists

pub at_drop : {X : Type 0} (xs : List X) (n : ℕ) (x : X) (rest : List X) → drop n xs ≡ x ∷ rest → slice_get xs n ≡ Some x
at_drop [] zero x rest h = cc
at_drop [] (suc n) x rest h = cc
at_drop (y ∷ ys) zero x rest h = cc
at_drop (y ∷ ys) (suc n) x rest h = at_drop ys n x rest h

drop_suc : {X : Type 0} (xs : List X) (n : ℕ) (x : X) (rest : List X) → drop n xs ≡ x ∷ rest → drop (suc n) xs ≡ rest
drop_suc [] zero x rest h = cc
drop_suc [] (suc n) x rest h = cc
drop_suc (y ∷ ys) zero x rest h = cc
drop_suc (y ∷ ys) (suc n) x rest h = drop_suc ys n x rest h

pub drop_next : {X : Type 0} (xs : List X) (n : ℕ) (x : X) (rest : List X) → drop n xs ≡ x ∷ rest → drop (n + 1) xs ≡ rest
drop_next xs n x rest h = rw add-one (drop_suc xs n x rest h)

-- ---- the shape of a function

-- what an instruction adds to the widths of its block's results
abbrev pub type_of : RawKind → List (Option Width)
type_of k = if is_alloca k then [] else (raw_width k ∷ [])

unfoldable pub types : List RawInstr → List (Option Width)
types [] = []
types (x ∷ xs) = type_of x.kind ++ types xs

abbrev pub alloca_of : RawKind → List Width
alloca_of (kind.Alloca w) = w ∷ []
alloca_of _ = []

unfoldable pub allocas : List RawInstr → List Width
allocas [] = []
allocas (x ∷ xs) = alloca_of x.kind ++ allocas xs

unfoldable pub all_allocas : List RawBlock → List Width
all_allocas [] = []
all_allocas (b ∷ bs) = allocas b.instrs ++ all_allocas bs

abbrev pub block_types : List RawBlock → List (List (Option Width))
block_types bs = map (λ b. types b.instrs) bs

-- the widths of parameters, of results block by block, and of variables
pub record Shape : Type 0 where
  pub params : List Width
  pub blocks : List (List (Option Width))
  pub vars : List Width

abbrev pub param_widths : List RawParam → List Width
param_widths ps = map (λ p. p.width) ps

abbrev pub shape_of : RawFunction → Shape
shape_of f = record { params = param_widths f.params; blocks = block_types f.blocks; vars = all_allocas f.blocks }

-- a meaning is there in a function of this shape
abbrev pub Knows : Shape → Meaning → Type 0
Knows sh (Parameter i w) = slice_get sh.params i ≡ Some w
Knows sh (Block b) = b < length sh.blocks
Knows sh (Register b i type) = option_and_then (λ ts. slice_get ts i) (slice_get sh.blocks b) ≡ Some (width_of type)
Knows sh (Variable v w) = slice_get sh.vars v ≡ Some w
Knows sh (Function _) = ⊥
Knows sh (Global _ _) = ⊥

abbrev pub AllKnown : (Meaning → Type 0) → Defined → Type 0
AllKnown P d = All (λ (e : Name × Meaning). P e.1) d.meanings

pub define_known : (P : Meaning → Type 0) (d : Defined) (written : Option (Placed Name)) (m : Meaning) → AllKnown P d → P m → AllKnown P (define d written m)
define_known P d written m h k = by (is_some (lookup (same_name (name_of d written)) d.meanings))
  where
    by : (b : Bool) → All (λ (e : Name × Meaning). P e.1) (if b then d.meanings else (d.meanings ++ (name_of d written, m) ∷ []))
    by true = h
    by false = All-push (λ (e : Name × Meaning). P e.1) d.meanings (name_of d written, m) h k

pub looked_up : (P : Meaning → Type 0) (d : Defined) → AllKnown P d → (name : Name) (m : Option Meaning) → meaning_of d name ≡ m → IfSome m P
looked_up P d known name None h = tt
looked_up P d known name (Some m) h = All-contains (λ (e : Name × Meaning). P e.1) d.meanings (name, m) known (Contains-from_lookup same name m d.meanings h)

-- ---- instructions

-- a place of a block before these instructions; ts are the widths of all its results, and more are the variables of later blocks
pub record Stands (sh : Shape) (ts : List (Option Width)) (r : Reached) (xs : List RawInstr) (more : List Width) : Type 0 where
  pub block : slice_get sh.blocks r.block ≡ Some ts
  pub instrs : drop r.instrs ts ≡ types xs
  pub vars : drop r.variables sh.vars ≡ allocas xs ++ more
  pub known : AllKnown (Knows sh) r.before

stands_at : (sh : Shape) (ts : List (Option Width)) (r s : Reached) (xs : List RawInstr) (more : List Width) → r ≡ s → Stands sh ts s xs more → Stands sh ts r xs more
stands_at sh ts r s xs more e h = rw e h

found : (sh : Shape) (b i : ℕ) (ts : List (Option Width)) (w : Option Width) → slice_get sh.blocks b ≡ Some ts → slice_get ts i ≡ Some w → option_and_then (λ ts. slice_get ts i) (slice_get sh.blocks b) ≡ Some w
found sh b i ts w e f = ap (λ (o : Option (List (Option Width))). option_and_then (λ ts. slice_get ts i) o) e ∙ f

pub typed_as : (k : RawKind) (w : Option Width) → is_alloca k ≡ false → raw_width k ≡ w → type_of k ≡ w ∷ []
typed_as k w n e = ap (λ (b : Bool). if b then [] else (raw_width k ∷ [])) n ∙ ap (λ (o : Option Width). o ∷ []) e

no_alloca : (k : RawKind) → is_alloca k ≡ false → alloca_of k ≡ []
no_alloca (kind.Alloca w) h = cc
no_alloca (kind.Load w a) h = refl
no_alloca (kind.Store w v a) h = refl
no_alloca (kind.Bin op w one other) h = refl
no_alloca (kind.Icmp p w one other) h = refl
no_alloca (kind.Cast o w v to) h = refl
no_alloca (kind.Select test w one second other) h = refl
no_alloca (kind.Call type callee arguments) h = refl
no_alloca (kind.Phi w pairs) h = refl

module _ (c : Context) (sh : Shape) (ts : List (Option Width)) (r : Reached) (x : RawInstr) (xs : List RawInstr) (more : List Width) (h : Stands sh ts r (x ∷ xs) more) where
  -- behind an instruction with or without a result
  results_left : (w : Option Width) → is_alloca x.kind ≡ false → raw_width x.kind ≡ w → drop r.instrs ts ≡ w ∷ types xs
  unfolding types
  results_left w n e = h.instrs ∙ ap (λ (l : List (Option Width)). l ++ types xs) (typed_as x.kind w n e)

  vars_left : is_alloca x.kind ≡ false → drop r.variables sh.vars ≡ allocas xs ++ more
  unfolding allocas
  vars_left n = h.vars ∙ ap (λ (l : List Width). (l ++ allocas xs) ++ more) (no_alloca x.kind n)

  same_results : (w : Width) → x.kind ≡ kind.Alloca w → drop r.instrs ts ≡ types xs
  unfolding types
  same_results w e = h.instrs ∙ ap (λ (k : RawKind). type_of k ++ types xs) e

  one_variable : (w : Width) → x.kind ≡ kind.Alloca w → drop r.variables sh.vars ≡ w ∷ (allocas xs ++ more)
  unfolding allocas
  one_variable w e = h.vars ∙ ap (λ (k : RawKind). (alloca_of k ++ allocas xs) ++ more) e

  stands_step : Sort c r x → Stands sh ts (after_instr r x) xs more
  stands_step (variable v) = stands_at sh ts (after_instr r x) _ xs more v.after (record {
    block = h.block;
    instrs = same_results v.width v.is;
    vars = drop_next sh.vars r.variables v.width (allocas xs ++ more) (one_variable v.width v.is);
    known = define_known (Knows sh) r.before x.result (Variable r.variables v.width) h.known (at_drop sh.vars r.variables v.width (allocas xs ++ more) (one_variable v.width v.is));
  })
  stands_step (result v) = let left = results_left (Some v.width) v.is_no_alloca v.gives in stands_at sh ts (after_instr r x) _ xs more v.after (record {
    block = h.block;
    instrs = drop_next ts r.instrs (Some v.width) (types xs) left;
    vars = vars_left v.is_no_alloca;
    known = define_known (Knows sh) r.before x.result (Register r.block r.instrs (Int v.width)) h.known
        (found sh r.block r.instrs ts (Some v.width) h.block (at_drop ts r.instrs (Some v.width) (types xs) left));
  })
  stands_step (taker v) = stands_at sh ts (after_instr r x) _ xs more v.after (record {
    block = h.block;
    instrs = drop_next ts r.instrs None (types xs) (results_left None v.is_no_alloca v.gives);
    vars = vars_left v.is_no_alloca;
    known = h.known;
  })

pub stands_last : (c : Context) (sh : Shape) (ts : List (Option Width)) (r : Reached) (xs : List RawInstr) (more : List Width) → All IsSpelledInstr xs → instrs_problem c r xs ≡ None → Stands sh ts r xs more
    → Stands sh ts (after_instrs r xs) [] more
unfolding instrs_problem after_instrs
stands_last c sh ts r [] more spelled h s = s
stands_last c sh ts r (x ∷ xs) more spelled h s =
    let parts = both_none _ _ h in
    stands_last c sh ts (after_instr r x) xs more (All-tail IsSpelledInstr x xs spelled) parts.1 (stands_step c sh ts r x xs more s (sort_of c r x (All-head IsSpelledInstr x xs spelled) parts.0))

-- ---- blocks

-- a place of a function before these blocks
pub record StandsBefore (sh : Shape) (r : Reached) (bs : List RawBlock) : Type 0 where
  pub blocks : drop r.block sh.blocks ≡ block_types bs
  pub vars : drop r.variables sh.vars ≡ all_allocas bs
  pub known : AllKnown (Knows sh) r.before

pub in_block : (sh : Shape) (r : Reached) (b : RawBlock) (bs : List RawBlock) → StandsBefore sh r (b ∷ bs) → Stands sh (types b.instrs) (at_block r b) b.instrs (all_allocas bs)
unfolding all_allocas
in_block sh r b bs h =
    let here : slice_get sh.blocks r.block ≡ Some (types b.instrs) = at_drop sh.blocks r.block (types b.instrs) (block_types bs) h.blocks in
    record {
      block = here;
      instrs = refl;
      vars = h.vars;
      known = define_known (Knows sh) r.before b.label (Block r.block) h.known (slice_get_within sh.blocks r.block (types b.instrs) here);
    }

pub before_next : (c : Context) (sh : Shape) (r : Reached) (b : RawBlock) (bs : List RawBlock) → IsSpelledBlock b → block_problem c r b ≡ None → StandsBefore sh r (b ∷ bs) → StandsBefore sh (after_block r b) bs
unfolding allocas
before_next c sh r b bs spelled h s =
    let problems = (both_none _ _ (both_none _ _ h).1).0 in
    let last : Stands sh (types b.instrs) (at_term r b) [] (all_allocas bs) = stands_last c sh (types b.instrs) (at_block r b) b.instrs (all_allocas bs) spelled.instrs problems (in_block sh r b bs s) in
    record {
      blocks = ap (λ (n : ℕ). drop n sh.blocks) (next_number r b) ∙ drop_next sh.blocks r.block (types b.instrs) (block_types bs) s.blocks;
      vars = last.vars;
      known = last.known;
    }

stands_behind : (c : Context) (sh : Shape) (r : Reached) (bs : List RawBlock) → All IsSpelledBlock bs → blocks_problem c r bs ≡ None → StandsBefore sh r bs → StandsBefore sh (after_blocks r bs) []
unfolding blocks_problem after_blocks
stands_behind c sh r [] spelled h s = s
stands_behind c sh r (b ∷ bs) spelled h s =
    let parts = both_none _ _ h in
    stands_behind c sh (after_block r b) bs (All-tail IsSpelledBlock b bs spelled) parts.1 (before_next c sh r b bs (All-head IsSpelledBlock b bs spelled) parts.0 s)

params_known : (sh : Shape) (i : ℕ) (d : Defined) (ps : List RawParam) → drop i sh.params ≡ param_widths ps → AllKnown (Knows sh) d → AllKnown (Knows sh) (after_params i d ps)
unfolding after_params
params_known sh i d [] e h = h
params_known sh i d (p ∷ ps) e h =
    params_known sh (i + 1) (define d p.name (Parameter i p.width)) ps (drop_next sh.params i p.width (param_widths ps) e)
    (define_known (Knows sh) d p.name (Parameter i p.width) h (at_drop sh.params i p.width (param_widths ps) e))

pub stands_first : (f : RawFunction) → StandsBefore (shape_of f) (at_body f) f.blocks
stands_first f = record {
  blocks = refl;
  vars = refl;
  known = params_known (shape_of f) 0 nothing f.params refl (All-nil (λ (e : Name × Meaning). Knows (shape_of f) e.1));
}

-- what the names of a function without a problem mean is there
pub locals_known : (c : Context) (f : RawFunction) → All IsSpelledBlock f.blocks → blocks_problem c (at_body f) f.blocks ≡ None → AllKnown (Knows (shape_of f)) (locals_of f)
locals_known c f spelled h = (stands_behind c (shape_of f) (at_body f) f.blocks spelled h (stands_first f)).known
