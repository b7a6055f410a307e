-- How much the function that a tree means has, and the widths of its parts.
use Rattle.std.proofs.Common.{◌≡◌, ◌≤◌, ◌+◌, ◌++◌, not, ℕ, suc, false, List, [], ◌∷◌, Option, None, Some, length, map, cond, length-append, refl, sym, ap, ◌∙◌, arith}
use Rattle.std.specs.Prelude.{All, sum_by, count_by, option_to_list}
use Rattle.std.proofs.lemmas.Bool.Decides.{nat_tests}
use Rattle.std.proofs.lemmas.List.{map-append}
use Rattle.std.proofs.lemmas.List.Sums.{sum_by-cons, get_or-le-sum_by}
use Rattle.mc_num.specs.declared.op.Width.{Width}
use Rattle.ir_types.specs.declared.name.Name.{Name}
use Rattle.ir_types.specs.declared.rules.Meaning.TheVariants.{Parameter}
use Rattle.ir_types.specs.declared.syntax.Block.{Block}
use Rattle.ir_types.specs.declared.syntax.Kind.{Kind}
use Rattle.ir_types.specs.declared.tree.RawKind.{RawKind}
use Rattle.ir_types.specs.declared.tree.RawKind.TheVariants as kind
use Rattle.ir_types.specs.declared.tree.RawInstr.{RawInstr}
use Rattle.ir_types.specs.declared.tree.RawBlock.{RawBlock}
use Rattle.ir_types.specs.declared.tree.RawParam.{RawParam}
use Rattle.ir_types.specs.declared.tree.RawFunction.{RawFunction}
use Rattle.ir_types.specs.declared.tree.RawTerm.{RawTerm}
use Rattle.ir_types.specs.declared.tree.RawTerm.TheVariants as term
use Rattle.ir_types.specs.Definitions.{Defined, define}
use Rattle.ir_types.specs.Limits.{is_alloca, raw_slot_count, slot_count, is_above, is_above_limits}
use Rattle.ir_types.specs.Size.{block_items}
use Rattle.ir_types.specs.Uses.{Context}
use Rattle.ir_types.specs.Rules.{Reached, after_instr, at_block, after_block}
use Rattle.ir_types.specs.ModuleOf.{var_of, kind_of, instr_with, instr_of, vars_from, instrs_from, case_of, term_of, block_of, blocks_from, variables_from, params_from, numbered_from}
use Rattle.ir_types.specs.WellFormed.{widths}
use Rattle.tree_rules.proofs.Bodies.{names_in}
use Rattle.tree_rules.proofs.Known.{alloca_of, allocas, all_allocas, param_widths}
use Rattle.tree_rules.proofs.Cases.{length_same}
use Rattle.tree_rules.proofs.Blocks.{HasFewSlots}

-- ---- instructions

one_kind : (c : Context) (k : RawKind) → length (option_to_list (kind_of c k)) ≤ cond (not (is_alloca k)) 1 0
one_kind c (kind.Alloca w) = omega arith
one_kind c (kind.Load w a) = omega arith
one_kind c (kind.Store w v a) = omega arith
one_kind c (kind.Bin o w one other) = omega arith
one_kind c (kind.Icmp p w one other) = omega arith
one_kind c (kind.Cast o w v to) = omega arith
one_kind c (kind.Select test w one second other) = omega arith
one_kind c (kind.Call type callee arguments) = omega arith
one_kind c (kind.Phi w pairs) = omega arith

as_many : (r : Reached) (x : RawInstr) (o : Option Kind) → length (option_to_list (instr_with r x o)) ≡ length (option_to_list o)
as_many r x None = refl
as_many r x (Some k) = refl

few_instrs : (c : Context) (r : Reached) (xs : List RawInstr) → length (instrs_from c r xs) ≤ count_by (λ x. not (is_alloca x.kind)) xs
unfolding instrs_from
few_instrs c r [] = omega arith
few_instrs c r (x ∷ xs) = omega (
  arith,
  length-append (option_to_list (instr_of c r x)) (instrs_from c (after_instr r x) xs),
  as_many r x (kind_of c x.kind),
  one_kind c x.kind,
  few_instrs c (after_instr r x) xs,
  sum_by-cons (λ (x : RawInstr). cond (not (is_alloca x.kind)) 1 0) x xs,
)

var_width : (r : Reached) (x : RawInstr) (k : RawKind) → map (λ (v : Width × Name). v.0) (option_to_list (var_of r x k)) ≡ alloca_of k
var_width r x (kind.Alloca w) = refl
var_width r x (kind.Load w a) = refl
var_width r x (kind.Store w v a) = refl
var_width r x (kind.Bin o w one other) = refl
var_width r x (kind.Icmp p w one other) = refl
var_width r x (kind.Cast o w v to) = refl
var_width r x (kind.Select test w one second other) = refl
var_width r x (kind.Call type callee arguments) = refl
var_width r x (kind.Phi w pairs) = refl

one_alloca : (k : RawKind) → length (alloca_of k) ≡ cond (is_alloca k) 1 0
one_alloca (kind.Alloca w) = refl
one_alloca (kind.Load w a) = refl
one_alloca (kind.Store w v a) = refl
one_alloca (kind.Bin o w one other) = refl
one_alloca (kind.Icmp p w one other) = refl
one_alloca (kind.Cast o w v to) = refl
one_alloca (kind.Select test w one second other) = refl
one_alloca (kind.Call type callee arguments) = refl
one_alloca (kind.Phi w pairs) = refl

vars_widths : (r : Reached) (xs : List RawInstr) → widths (vars_from r xs) ≡ allocas xs
unfolding vars_from allocas
vars_widths r [] = refl
vars_widths r (x ∷ xs) =
    map-append (λ (v : Width × Name). v.0) (option_to_list (var_of r x x.kind)) (vars_from (after_instr r x) xs)
    ∙ (λ i. var_width r x x.kind i ++ vars_widths (after_instr r x) xs i)

count_allocas : (xs : List RawInstr) → length (allocas xs) ≡ count_by (λ x. is_alloca x.kind) xs
unfolding allocas
count_allocas [] = refl
count_allocas (x ∷ xs) = omega (arith, length-append (alloca_of x.kind) (allocas xs), one_alloca x.kind, count_allocas xs, sum_by-cons (λ (x : RawInstr). cond (is_alloca x.kind) 1 0) x xs)

-- ---- blocks

abbrev pub raw_instrs : List RawBlock → ℕ
raw_instrs bs = sum_by (λ b. count_by (λ x. not (is_alloca x.kind)) b.instrs) bs

abbrev pub raw_slots : List RawBlock → ℕ
raw_slots bs = sum_by (λ b. raw_slot_count b.term) bs

abbrev pub raw_vars : List RawBlock → ℕ
raw_vars bs = sum_by (λ b. count_by (λ x. is_alloca x.kind) b.instrs) bs

pub instrs_count : (c : Context) (r : Reached) (bs : List RawBlock) → sum_by (λ b. length b.instrs) (blocks_from c r bs) ≤ raw_instrs bs
unfolding blocks_from
instrs_count c r [] = omega arith
instrs_count c r (b ∷ bs) = omega (
  arith,
  sum_by-cons (λ (b : Block). length b.instrs) (block_of c r b) (blocks_from c (after_block r b) bs),
  few_instrs c (at_block r b) b.instrs,
  instrs_count c (after_block r b) bs,
  sum_by-cons (λ (b : RawBlock). count_by (λ x. not (is_alloca x.kind)) b.instrs) b bs,
)

pub blocks_count : (c : Context) (r : Reached) (bs : List RawBlock) → length (blocks_from c r bs) ≡ length bs
unfolding blocks_from
blocks_count c r [] = refl
blocks_count c r (b ∷ bs) = ap (λ (n : ℕ). suc n) (blocks_count c (after_block r b) bs)

one_slots : (c : Context) (t : RawTerm) → slot_count (term_of c t) ≡ raw_slot_count t
one_slots c (term.Return None) = refl
one_slots c (term.Return (Some v)) = refl
one_slots c (term.Jump target) = refl
one_slots c (term.Branch test one other) = refl
one_slots c (term.Switch w v other cases) = ap (λ (n : ℕ). 1 + n) (length_same (case_of c w) cases)
one_slots c term.Unreachable = refl

pub slots_count : (c : Context) (r : Reached) (bs : List RawBlock) → sum_by (λ b. slot_count b.term) (blocks_from c r bs) ≡ raw_slots bs
unfolding blocks_from
slots_count c r [] = refl
slots_count c r (b ∷ bs) = omega (
  arith,
  sum_by-cons (λ (b : Block). slot_count b.term) (block_of c r b) (blocks_from c (after_block r b) bs),
  one_slots c b.term,
  slots_count c (after_block r b) bs,
  sum_by-cons (λ (b : RawBlock). raw_slot_count b.term) b bs,
)

pub variables_widths : (r : Reached) (bs : List RawBlock) → widths (variables_from r bs) ≡ all_allocas bs
unfolding variables_from all_allocas
variables_widths r [] = refl
variables_widths r (b ∷ bs) =
    map-append (λ (v : Width × Name). v.0) (vars_from (at_block r b) b.instrs) (variables_from (after_block r b) bs)
    ∙ (λ i. vars_widths (at_block r b) b.instrs i ++ variables_widths (after_block r b) bs i)

count_all_allocas : (bs : List RawBlock) → length (all_allocas bs) ≡ raw_vars bs
unfolding all_allocas
count_all_allocas [] = refl
count_all_allocas (b ∷ bs) = omega (arith, length-append (allocas b.instrs) (all_allocas bs), count_allocas b.instrs, count_all_allocas bs, sum_by-cons (λ (b : RawBlock). count_by (λ x. is_alloca x.kind) b.instrs) b bs)

pub variables_count : (r : Reached) (bs : List RawBlock) → length (variables_from r bs) ≡ raw_vars bs
variables_count r bs = sym (length_same (λ (v : Width × Name). v.0) (variables_from r bs)) ∙ (ap (λ (l : List Width). length l) (variables_widths r bs) ∙ count_all_allocas bs)

-- ---- parameters

pub params_widths : (i : ℕ) (d : Defined) (ps : List RawParam) → widths (params_from i d ps) ≡ param_widths ps
unfolding params_from
params_widths i d [] = refl
params_widths i d (p ∷ ps) = ap (λ (l : List Width). p.width ∷ l) (params_widths (i + 1) (define d p.name (Parameter i p.width)) ps)

pub numbered_widths : (i : ℕ) (ps : List RawParam) → widths (numbered_from i ps) ≡ param_widths ps
unfolding numbered_from
numbered_widths i [] = refl
numbered_widths i (p ∷ ps) = ap (λ (l : List Width). p.width ∷ l) (numbered_widths (i + 1) ps)

-- ---- limits

pub record HasFew (f : RawFunction) : Type 0 where
  pub instrs : raw_instrs f.blocks ≤ 262144
  pub blocks : length f.blocks ≤ 65536
  pub slots : raw_slots f.blocks ≤ 131072
  pub vars : raw_vars f.blocks ≤ 1048576

four_limits : (a b c d : ℕ) → is_above a b c d ≡ false → (a ≤ 262144) × (b ≤ 65536) × (c ≤ 131072) × (d ≤ 1048576)
four_limits a b c d h = grind (arith, nat_tests)

pub within_limits : (f : RawFunction) → is_above_limits f ≡ false → HasFew f
within_limits f h = let l = four_limits (raw_instrs f.blocks) (length f.blocks) (raw_slots f.blocks) (raw_vars f.blocks) h in record { instrs = l.0; blocks = l.1; slots = l.2; vars = l.3 }

pub few_slots : (bs : List RawBlock) → raw_slots bs ≤ 131072 → All HasFewSlots bs
few_slots bs h = λ k d l. omega (arith, get_or-le-sum_by (λ (b : RawBlock). raw_slot_count b.term) bs k d l)

pub few_names : (bs : List RawBlock) → names_in bs ≤ length bs + sum_by block_items bs
unfolding names_in
few_names [] = omega arith
few_names (b ∷ bs) = omega (arith, few_names bs, sum_by-cons block_items b bs)
