-- Loops over the parts of functions: what is left after one part more.
use Rattle.std.proofs.Common.{◌≡◌, ◌<◌, ◌≤◌, ◌+◌, ℕ, Bool, true, false, List, [], ◌∷◌, ◌++◌, None, length, get_or, drop, refl, arith}
use Rattle.std.specs.Prelude.{option_to_list, if◌then◌else◌}
use Rattle.mc_num.specs.declared.op.Width.{Width}
use Rattle.ir_types.specs.Problems.{◌>>◌}
use Rattle.ir_types.specs.Definitions.{Defined, define, name_of, name_problem}
use Rattle.ir_types.specs.Literals.{literal_value}
use Rattle.ir_types.specs.Limits.{is_alloca}
use Rattle.ir_types.specs.Uses.{Context, case_problem, cases_problem}
use Rattle.ir_types.specs.Rules.{Reached, after_instr, after_instrs, instr_problem, instrs_problem, at_block, after_block, after_blocks, block_problem, blocks_problem, after_params, params_problem}
use Rattle.ir_types.specs.ModuleOf.{var_of, instr_of, vars_from, instrs_from, block_of, blocks_from, variables_from, params_from, numbered_from}
use Rattle.ir_types.specs.declared.name.Name.TheVariants.{Number}
use Rattle.ir_types.specs.declared.rules.Here.{Here}
use Rattle.ir_types.specs.declared.rules.Meaning.TheVariants.{Parameter}
use Rattle.ir_types.specs.declared.tree.RawCase.{RawCase}
use Rattle.ir_types.specs.declared.tree.RawParam.{RawParam}
use Rattle.ir_types.specs.declared.tree.RawInstr.{RawInstr}
use Rattle.ir_types.specs.declared.tree.RawBlock.{RawBlock}
use Rattle.ir_uses.proofs.Steps.{drop_at, drop_end}

module _ (c : Context) (here : Here) (w : Width) (seen : List ℕ) (i : ℕ) (xs : List RawCase) where
  pub cases_problem-step : (x : RawCase) → i < length xs → x ≡ get_or xs i x
      → cases_problem c here w seen (drop i xs) ≡ (case_problem c here w seen x >> cases_problem c here w (seen ++ option_to_list (literal_value w x.value.item)) (drop (i + 1) xs))
  unfolding cases_problem
  cases_problem-step x l e = rw (drop_at xs i x l e) refl

  pub cases_problem-end : length xs ≤ i → cases_problem c here w seen (drop i xs) ≡ None
  unfolding cases_problem
  cases_problem-end h = rw (drop_end xs i h) refl

module _ (r : Reached) (xs : List RawInstr) (i : ℕ) where
  pub after_instrs-step : (x : RawInstr) → i < length xs → x ≡ get_or xs i x → after_instrs r (drop i xs) ≡ after_instrs (after_instr r x) (drop (i + 1) xs)
  unfolding after_instrs
  after_instrs-step x l e = rw (drop_at xs i x l e) refl

  pub after_instrs-end : length xs ≤ i → after_instrs r (drop i xs) ≡ r
  unfolding after_instrs
  after_instrs-end h = rw (drop_end xs i h) refl

  pub instrs_problem-step : (c : Context) (x : RawInstr) → i < length xs → x ≡ get_or xs i x
      → instrs_problem c r (drop i xs) ≡ (instr_problem c r x >> instrs_problem c (after_instr r x) (drop (i + 1) xs))
  unfolding instrs_problem
  instrs_problem-step c x l e = rw (drop_at xs i x l e) refl

  pub instrs_problem-end : (c : Context) → length xs ≤ i → instrs_problem c r (drop i xs) ≡ None
  unfolding instrs_problem
  instrs_problem-end c h = rw (drop_end xs i h) refl

  pub vars_from-step : (x : RawInstr) → i < length xs → x ≡ get_or xs i x → vars_from r (drop i xs) ≡ option_to_list (var_of r x x.kind) ++ vars_from (after_instr r x) (drop (i + 1) xs)
  unfolding vars_from
  vars_from-step x l e = rw (drop_at xs i x l e) refl

  pub vars_from-end : length xs ≤ i → vars_from r (drop i xs) ≡ []
  unfolding vars_from
  vars_from-end h = rw (drop_end xs i h) refl

  pub instrs_from-step : (c : Context) (x : RawInstr) → i < length xs → x ≡ get_or xs i x → instrs_from c r (drop i xs) ≡ option_to_list (instr_of c r x) ++ instrs_from c (after_instr r x) (drop (i + 1) xs)
  unfolding instrs_from
  instrs_from-step c x l e = rw (drop_at xs i x l e) refl

  pub instrs_from-end : (c : Context) → length xs ≤ i → instrs_from c r (drop i xs) ≡ []
  unfolding instrs_from
  instrs_from-end c h = rw (drop_end xs i h) refl

module _ (i : ℕ) (before : Defined) (ps : List RawParam) where
  pub after_params-step : (p : RawParam) → i < length ps → p ≡ get_or ps i p → after_params i before (drop i ps) ≡ after_params (i + 1) (define before p.name (Parameter i p.width)) (drop (i + 1) ps)
  unfolding after_params
  after_params-step p l e = rw (drop_at ps i p l e) refl

  pub after_params-end : length ps ≤ i → after_params i before (drop i ps) ≡ before
  unfolding after_params
  after_params-end h = rw (drop_end ps i h) refl

  pub params_problem-step : (p : RawParam) → i < length ps → p ≡ get_or ps i p
      → params_problem i before (drop i ps) ≡ (name_problem before p.name >> params_problem (i + 1) (define before p.name (Parameter i p.width)) (drop (i + 1) ps))
  unfolding params_problem
  params_problem-step p l e = rw (drop_at ps i p l e) refl

  pub params_problem-end : length ps ≤ i → params_problem i before (drop i ps) ≡ None
  unfolding params_problem
  params_problem-end h = rw (drop_end ps i h) refl

  pub params_from-step : (p : RawParam) → i < length ps → p ≡ get_or ps i p
      → params_from i before (drop i ps) ≡ (p.width, name_of before p.name) ∷ params_from (i + 1) (define before p.name (Parameter i p.width)) (drop (i + 1) ps)
  unfolding params_from
  params_from-step p l e = rw (drop_at ps i p l e) refl

  pub params_from-end : length ps ≤ i → params_from i before (drop i ps) ≡ []
  unfolding params_from
  params_from-end h = rw (drop_end ps i h) refl

module _ (i : ℕ) (ps : List RawParam) where
  pub numbered_from-step : (p : RawParam) → i < length ps → p ≡ get_or ps i p → numbered_from i (drop i ps) ≡ (p.width, Number i) ∷ numbered_from (i + 1) (drop (i + 1) ps)
  unfolding numbered_from
  numbered_from-step p l e = rw (drop_at ps i p l e) refl

  pub numbered_from-end : length ps ≤ i → numbered_from i (drop i ps) ≡ []
  unfolding numbered_from
  numbered_from-end h = rw (drop_end ps i h) refl

module _ (r : Reached) (xs : List RawBlock) (i : ℕ) where
  pub after_blocks-step : (x : RawBlock) → i < length xs → x ≡ get_or xs i x → after_blocks r (drop i xs) ≡ after_blocks (after_block r x) (drop (i + 1) xs)
  unfolding after_blocks
  after_blocks-step x l e = rw (drop_at xs i x l e) refl

  pub after_blocks-end : length xs ≤ i → after_blocks r (drop i xs) ≡ r
  unfolding after_blocks
  after_blocks-end h = rw (drop_end xs i h) refl

  pub blocks_problem-step : (c : Context) (x : RawBlock) → i < length xs → x ≡ get_or xs i x
      → blocks_problem c r (drop i xs) ≡ (block_problem c r x >> blocks_problem c (after_block r x) (drop (i + 1) xs))
  unfolding blocks_problem
  blocks_problem-step c x l e = rw (drop_at xs i x l e) refl

  pub blocks_problem-end : (c : Context) → length xs ≤ i → blocks_problem c r (drop i xs) ≡ None
  unfolding blocks_problem
  blocks_problem-end c h = rw (drop_end xs i h) refl

  pub blocks_from-step : (c : Context) (x : RawBlock) → i < length xs → x ≡ get_or xs i x → blocks_from c r (drop i xs) ≡ block_of c r x ∷ blocks_from c (after_block r x) (drop (i + 1) xs)
  unfolding blocks_from
  blocks_from-step c x l e = rw (drop_at xs i x l e) refl

  pub blocks_from-end : (c : Context) → length xs ≤ i → blocks_from c r (drop i xs) ≡ []
  unfolding blocks_from
  blocks_from-end c h = rw (drop_end xs i h) refl

  pub variables_from-step : (x : RawBlock) → i < length xs → x ≡ get_or xs i x
      → variables_from r (drop i xs) ≡ vars_from (at_block r x) x.instrs ++ variables_from (after_block r x) (drop (i + 1) xs)
  unfolding variables_from
  variables_from-step x l e = rw (drop_at xs i x l e) refl

  pub variables_from-end : length xs ≤ i → variables_from r (drop i xs) ≡ []
  unfolding variables_from
  variables_from-end h = rw (drop_end xs i h) refl

-- one instruction more stands before the place
pub counted : (r : Reached) (x : RawInstr) → (after_instr r x).variables + (after_instr r x).instrs ≡ r.variables + r.instrs + 1
counted r x = by (is_alloca x.kind)
  where
    by : (b : Bool) → (if b then r.variables + 1 else r.variables) + (if b then r.instrs else r.instrs + 1) ≡ r.variables + r.instrs + 1
    by true = omega arith
    by false = omega arith
