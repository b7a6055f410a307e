-- The tree of a function has no problem, and means the function.
use Rattle.std.proofs.Common.{◌≡◌, ◌≢◌, ◌+◌, ◌++◌, ◌&&◌, ◌⊎◌, not, ℕ, suc, false, List, [], ◌∷◌, None, Some, map, slice_get, All, if◌then◌else◌, inl, inr, refl, sym, ap, subst, ◌∙◌, append_assoc, append-nil, arith}
use Rattle.std.specs.Prelude.{AllPairs}
use Rattle.std.specs.List.{AllZip, AllByRecursion}
use Rattle.std.proofs.lemmas.List.Elements.{recursion_from_All}
use Rattle.std.proofs.lemmas.Map.Made.{IsDistinct-from_AllPairs}
use Rattle.mc_num.specs.declared.op.Width.{Width}
use Rattle.ir_types.specs.Program.{Program}
use Rattle.ir_types.specs.Definitions.{Defined, nothing}
use Rattle.ir_types.specs.Limits.{IsWithinLimits, is_above_limits}
use Rattle.ir_types.specs.ModuleOf.{blocks_from, variables_from, params_from, numbered_from}
use Rattle.ir_types.specs.Names.{spelled, IsSpellable}
use Rattle.ir_types.specs.Rules.{Reached, after_block, after_blocks, at_body, locals_of, params_problem, blocks_problem, body_problem, is_nil, is_known_external}
use Rattle.ir_types.specs.Same.{plain_names, plain_block}
use Rattle.ir_types.specs.TreeOf.{IsTreeFunction, IsTreeBlock, IsTreeParam, AreTreeBlocks, AreTreeParams}
use Rattle.ir_types.specs.Uses.{Context}
use Rattle.ir_types.specs.WellFormed.{scope, names, body_names, block_names, result_names, CountFrom, IsFunctionIn, IsBlockIn, getchar, putchar}
use Rattle.ir_types.specs.declared.name.Name.{Name}
use Rattle.ir_types.specs.declared.rules.Meaning.{Meaning}
use Rattle.ir_types.specs.declared.rules.Meaning.TheVariants.{Parameter}
use Rattle.ir_types.specs.declared.span.Span.{Span}
use Rattle.ir_types.specs.declared.syntax.Block.{Block}
use Rattle.ir_types.specs.declared.syntax.Function.{Function}
use Rattle.ir_types.specs.declared.tree.RawBlock.{RawBlock}
use Rattle.ir_types.specs.declared.tree.RawFunction.{RawFunction}
use Rattle.module_trees.proofs.Blocks.{IsPassed, block_passed, ArePassed as BlocksPassed, blocks_passed}
use Rattle.module_trees.proofs.Counts.{within}
use Rattle.module_trees.proofs.Declared.{getchar_tree, putchar_tree, of_getchar, of_putchar}
use Rattle.module_trees.proofs.Lists.{at_place}
use Rattle.module_trees.proofs.Names.{decided}
use Rattle.module_trees.proofs.Params.{ArePassed as ParamsPassed, params_passed}
use Rattle.module_trees.proofs.Problems.{then_none}
use Rattle.module_trees.proofs.Ready.{IsReady}
use Rattle.module_trees.proofs.Table.{numbered, of_block, of_blocks, of_body, of_function, KnowsLocals, knows_locals}
use Rattle.module_trees.proofs.Uses.{Knows}

-- the tree of a function has no problem, and means the function
pub record IsMeantFunction (m : Program) (f : Function) (x : RawFunction) : Type 0 where
  pub locals : KnowsLocals (scope m f) f (locals_of x)
  pub external : (is_nil x.blocks && not (is_known_external x)) ≡ false
  pub limits : IsWithinLimits f → is_above_limits x ≡ false
  pub problem : (c : Context) → Knows m f c → body_problem c x ≡ None
  pub params : (if is_nil x.blocks then numbered_from 0 x.params else params_from 0 nothing x.params) ≡ plain_names f.params
  pub vars : variables_from (at_body x) x.blocks ≡ plain_names f.vars
  pub blocks : (c : Context) → Knows m f c → blocks_from c (at_body x) x.blocks ≡ map plain_block f.blocks

-- ---- declarations

no_locals : (m : Program) (f : Function) (d : Defined) → f.blocks ≡ [] → KnowsLocals (scope m f) f d
no_locals m f d e =
    let none : (t : ℕ) (b : Block) → slice_get f.blocks t ≡ Some b → ⊥ = λ t b h. let never : None ≡ Some b = sym (ap (λ bs. slice_get bs t) e) ∙ h in cc in
    record {
      parameter = λ t b p x there h. absurd (none t b there);
      variable = λ t b v x there h. absurd (none t b there);
      block = λ t b there. absurd (none t b there);
      register = λ t b r i n w there here named gives. absurd (none t b there);
    }

getchar_meant : (m : Program) (s : Span) → IsMeantFunction m getchar (getchar_tree s)
unfolding params_problem blocks_problem variables_from blocks_from numbered_from
getchar_meant m s = record {
  locals = no_locals m getchar (locals_of (getchar_tree s)) refl;
  external = refl;
  limits = λ few. refl;
  problem = λ c known. refl;
  params = refl;
  vars = refl;
  blocks = λ c known. refl;
}

putchar_meant : (m : Program) (s : Span) → IsMeantFunction m putchar (putchar_tree s)
unfolding params_problem blocks_problem variables_from blocks_from numbered_from
putchar_meant m s = record {
  locals = no_locals m putchar (locals_of (putchar_tree s)) refl;
  external = refl;
  limits = λ few. refl;
  problem = λ c known. refl;
  params = refl;
  vars = refl;
  blocks = λ c known. refl;
}

declared_meant : (m : Program) (f : Function) (x : RawFunction) → (f ≡ getchar) ⊎ (f ≡ putchar) → IsTreeFunction m f x → IsMeantFunction m f x
declared_meant m f x (inl e) t =
    subst (λ g. IsMeantFunction m g x) (sym e) (subst (IsMeantFunction m getchar) (of_getchar m x (subst (λ g. IsTreeFunction m g x) e t)) (getchar_meant m x.name.span))
declared_meant m f x (inr e) t =
    subst (λ g. IsMeantFunction m g x) (sym e) (subst (IsMeantFunction m putchar) (of_putchar m x (subst (λ g. IsTreeFunction m g x) e t)) (putchar_meant m x.name.span))

-- ---- definitions

ready_from : (ns : List Name) → AllPairs (λ a b. a ≢ b) (map spelled ns) → CountFrom 0 ns → All IsSpellable ns → IsReady nothing ns
ready_from ns differ counts spellable = record {
  differ = IsDistinct-from_AllPairs decided (map spelled ns) differ;
  counts = counts;
  spellable = recursion_from_All IsSpellable ns spellable;
}

all_entry : (k : ℕ) (vars : List (Width × Name)) → k ≡ 0 → AllByRecursion (λ v. k ≡ 0) vars
all_entry k [] e = tt
all_entry k (v ∷ vars) e = (e, all_entry k vars e)

-- the meanings of a function are those of its parameters, its first block and the other blocks
of_parts : (ps first rest start middle last : List (Name × Meaning)) → start ≡ ps → middle ≡ start ++ first → last ≡ middle ++ rest → last ≡ ps ++ (first ++ rest)
of_parts ps first rest start middle last e f g = g ∙ (ap (λ xs. xs ++ rest) f ∙ (ap (λ xs. (xs ++ first) ++ rest) e ∙ append_assoc ps first rest))

module _ (m : Program) (f : Function) (rules_of : IsFunctionIn m f) (b : Block) (bs : List Block) (are : f.blocks ≡ b ∷ bs) where
  ready : IsReady nothing (map (λ p. p.1) f.params ++ (b.name ∷ (map (λ v. v.1) f.vars ++ (result_names b ++ block_names bs))))
  ready =
      subst (λ cs. IsReady nothing (map (λ p. p.1) f.params ++ body_names (map (λ v. v.1) f.vars) cs)) are
      (ready_from (names f) rules_of.names_differ rules_of.numbers_count rules_of.spellable)

  module _ (x : RawFunction) (y : RawBlock) (ys : List RawBlock) where
    tree : RawFunction
    tree = record { name = x.name; ret = x.ret; params = x.params; blocks = y ∷ ys }

    definition_meant : AllZip IsTreeParam f.params x.params → IsTreeBlock m f f.vars b y → AllZip (IsTreeBlock m f []) bs ys → IsMeantFunction m f tree
    unfolding tree params_problem blocks_problem variables_from blocks_from after_blocks
    definition_meant params first rest =
        let passed : ParamsPassed 0 nothing f.params x.params (b.name ∷ (map (λ v. v.1) f.vars ++ (result_names b ++ block_names bs))) =
        params_passed 0 nothing f.params x.params (b.name ∷ (map (λ (v : Width × Name). v.1) f.vars ++ (result_names b ++ block_names bs))) params ready in
        let body : Reached = at_body tree in
        let there : slice_get f.blocks 0 ≡ Some b = ap (λ cs. slice_get cs 0) are in
        let one : IsPassed m f body f.vars b y (block_names bs) =
        block_passed m f body f.vars b y (block_names bs) there (at_place (IsBlockIn (scope m f)) f.blocks rules_of.blocks 0 b there) (all_entry 0 f.vars refl) refl passed.ready first in
        let next : Reached = after_block body y in
        let next_is : next.block ≡ 1 = ap (λ (k : ℕ). k + 1) one.block in
        let later : (j : ℕ) (c : Block) → slice_get bs j ≡ Some c → slice_get f.blocks (next.block + j) ≡ Some c =
        λ j c e.
        let number : suc j ≡ next.block + j = omega (arith, next_is) in
        subst (λ k. slice_get f.blocks k ≡ Some c) number (ap (λ cs. slice_get cs (suc j)) are ∙ e) in
        let more : BlocksPassed m f next bs ys = blocks_passed m f next bs ys rules_of.blocks later rest one.ready in
        let behind : (after_blocks next ys).before.meanings ≡ next.before.meanings ++ of_blocks (scope m f) 1 bs =
        more.meanings ∙ ap (λ (k : ℕ). next.before.meanings ++ of_blocks (scope m f) k bs) next_is in
        let parameters : List (Name × Meaning) = numbered Parameter 0 f.params in
        let all : (locals_of tree).meanings ≡ of_function (scope m f) f =
        of_parts parameters (of_block (scope m f) 0 f.vars b) (of_blocks (scope m f) 1 bs) body.before.meanings next.before.meanings (locals_of tree).meanings passed.meanings one.meanings behind
        ∙ ap (λ cs. parameters ++ of_body (scope m f) f.vars cs) (sym are) in
        record {
          locals = knows_locals (scope m f) f (locals_of tree) more.ready all;
          external = refl;
          limits = λ few. within m f b bs tree y ys are refl first rest few;
          problem = λ c known. then_none _ _ passed.problem (then_none _ _ (one.problem c known) (more.problem c known));
          params = passed.means;
          vars = (λ i. one.vars_are i ++ more.vars_are i) ∙ append-nil (plain_names f.vars);
          blocks = λ c known. (λ i. one.means c known i ∷ more.means c known i) ∙ sym (ap (map plain_block) are);
        }

    pub of_definition : x.blocks ≡ y ∷ ys → AllZip IsTreeParam f.params x.params → IsTreeBlock m f f.vars b y → AllZip (IsTreeBlock m f []) bs ys → IsMeantFunction m f x
    unfolding tree
    of_definition e params first rest =
        let whole : tree ≡ x = λ i. record { name = x.name; ret = x.ret; params = x.params; blocks = sym e i } in
        subst (IsMeantFunction m f) whole (definition_meant params first rest)

module _ (m : Program) (f : Function) (rules_of : IsFunctionIn m f) (x : RawFunction) (t : IsTreeFunction m f x) where
  by_blocks : (bs : List Block) (ys : List RawBlock) → f.blocks ≡ bs → x.blocks ≡ ys → AreTreeParams f bs x.params → AreTreeBlocks m f bs ys → IsMeantFunction m f x
  by_blocks [] ys e g params blocks = declared_meant m f x (rules_of.declared e) t
  by_blocks (b ∷ bs) [] e g params blocks = elim blocks [ ]
  by_blocks (b ∷ bs) (y ∷ ys) e g params blocks = of_definition m f rules_of b bs e x y ys g params blocks.0 blocks.1

  pub function_meant : IsMeantFunction m f x
  function_meant = by_blocks f.blocks x.blocks refl refl t.params t.blocks
