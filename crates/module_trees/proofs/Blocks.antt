-- The blocks of a function's tree, in order.
use Rattle.std.proofs.Common.{◌≡◌, ◌+◌, ◌++◌, ℕ, suc, List, [], ◌∷◌, Option, None, Some, length, map, take, slice_get, All, refl, sym, ap, subst, ◌∙◌, append_assoc, append-nil, arith}
use Rattle.std.specs.List.{AllZip, AllByRecursion}
use Rattle.mc_num.specs.declared.op.Width.{Width}
use Rattle.ir_types.specs.Program.{Program}
use Rattle.ir_types.specs.Same.{plain_block, plain_names}
use Rattle.ir_types.specs.ModuleOf.{block_of, vars_from, blocks_from, variables_from}
use Rattle.ir_types.specs.Names.{spelled}
use Rattle.ir_types.specs.Rules.{Reached, after_instrs, at_block, at_term, after_block, after_blocks, block_problem, blocks_problem}
use Rattle.ir_types.specs.TreeOf.{IsTreeBlock, IsTreeTerm, IsTreeResult, IsTreeInstr, IsTreeAlloca}
use Rattle.ir_types.specs.Uses.{Context}
use Rattle.ir_types.specs.WellFormed.{scope, IsBlockIn, result_names, block_names}
use Rattle.ir_types.specs.declared.name.Name.{Name}
use Rattle.ir_types.specs.declared.rules.Meaning.{Meaning}
use Rattle.ir_types.specs.declared.rules.Meaning.TheVariants.{Block as BlockMeaning, Variable}
use Rattle.ir_types.specs.declared.span.At.{At}
use Rattle.ir_types.specs.declared.span.Span.{Span}
use Rattle.ir_types.specs.declared.syntax.Block.{Block}
use Rattle.ir_types.specs.declared.syntax.Function.{Function}
use Rattle.ir_types.specs.declared.syntax.Instr.{Instr}
use Rattle.ir_types.specs.declared.tree.RawBlock.{RawBlock}
use Rattle.ir_types.specs.declared.tree.RawInstr.{RawInstr}
use Rattle.ir_types.specs.declared.tree.RawTerm.{RawTerm}
use Rattle.module_trees.proofs.Allocas.{ArePassed as AllocasPassed, allocas_passed}
use Rattle.module_trees.proofs.Endings.{term_meant}
use Rattle.module_trees.proofs.Lists.{at_place}
use Rattle.module_trees.proofs.Others.{ArePassed as OthersPassed, others_passed}
use Rattle.module_trees.proofs.Problems.{then_none}
use Rattle.module_trees.proofs.Ready.{IsReady, IsDefined, defined}
use Rattle.module_trees.proofs.Table.{numbered, registers_from, variables_from as variables_meant, of_block, of_blocks}
use Rattle.module_trees.proofs.Uses.{Knows}

take_all : {X : Type 0} (xs : List X) (n : ℕ) → n ≡ length xs → take n xs ≡ xs
take_all xs n e = ap (λ k. take k xs) e ∙ whole xs
  where
    whole : {X : Type 0} (xs : List X) → take (length xs) xs ≡ xs
    whole [] = refl
    whole (x ∷ xs) = ap (λ ys. x ∷ ys) (whole xs)

-- the meanings of a block are its label's, those of its variables and those of its registers
joined : (ms start middle last : List (Name × Meaning)) (e : Name × Meaning) (vs rs : List (Name × Meaning)) → start ≡ ms ++ e ∷ [] → middle ≡ start ++ vs → last ≡ middle ++ rs
    → last ≡ ms ++ (e ∷ (vs ++ rs))
joined ms start middle last e vs rs f g h =
    h
    ∙ (ap (λ xs. xs ++ rs) g
    ∙ (ap (λ xs. (xs ++ vs) ++ rs) f
    ∙ (append_assoc (ms ++ e ∷ []) vs rs
    ∙ append_assoc ms (e ∷ []) (vs ++ rs))))

moved : (first last : Reached) (ms rs ss : List (Name × Meaning)) → first ≡ last → last.before.meanings ≡ ms ++ rs → rs ≡ ss → first.before.meanings ≡ ms ++ ss
moved first last ms rs ss e f g = ap (λ q. q.before.meanings) e ∙ (f ∙ ap (λ xs. ms ++ xs) g)

module _ (m : Program) (f : Function) where
  -- ---- one block

  -- a block with its tree is passed
  pub record IsPassed (r : Reached) (vars : List (Width × Name)) (b : Block) (x : RawBlock) (ns : List Name) : Type 0 where
    pub block : (at_term r x).block ≡ r.block
    pub meanings : (at_term r x).before.meanings ≡ r.before.meanings ++ of_block (scope m f) r.block vars b
    pub ready : IsReady (at_term r x).before ns
    pub vars_are : vars_from (at_block r x) x.instrs ≡ plain_names vars
    pub problem : (c : Context) → Knows m f c → block_problem c r x ≡ None
    pub means : (c : Context) → Knows m f c → block_of c r x ≡ plain_block b

  module _ (r : Reached) (vars : List (Width × Name)) (b : Block) (ns : List Name) (there : slice_get f.blocks r.block ≡ Some b) (rules_of : IsBlockIn (scope m f) b)
      (written : At Name) (allocas others : List RawInstr) (term : RawTerm) (word : Span) where
    tree : RawBlock
    tree = record { label = Some written; instrs = allocas ++ others; term = term; term_word = word }

    with_parts : AllByRecursion (λ v. r.block ≡ 0) vars → numbered Variable r.variables vars ≡ variables_meant 0 vars
        → IsReady r.before (b.name ∷ (map (λ v. v.1) vars ++ (result_names b ++ ns)))
        → written.item ≡ spelled b.name → AllZip IsTreeAlloca vars allocas → AllZip (IsTreeInstr m f b) b.instrs others → IsTreeTerm f b b.term term
        → IsPassed r vars b tree ns
    unfolding tree
    with_parts entry start ready label are_allocas are_others tree_term =
        let first : IsDefined r.before b.name (map (λ v. v.1) vars ++ (result_names b ++ ns)) (BlockMeaning r.block) written =
        defined r.before b.name (map (λ (v : Width × Name). v.1) vars ++ (result_names b ++ ns)) (BlockMeaning r.block) written ready label in
        let begin : Reached = at_block r tree in
        let one : AllocasPassed begin vars allocas others (result_names b ++ ns) = allocas_passed begin vars allocas others (result_names b ++ ns) refl entry are_allocas first.ready in
        let middle : Reached = one.after in
        let there_then : slice_get f.blocks middle.block ≡ Some b = subst (λ k. slice_get f.blocks k ≡ Some b) (sym one.block) there in
        let instr_here : (j : ℕ) (i : Instr) → slice_get b.instrs j ≡ Some i → slice_get b.instrs (middle.instrs + j) ≡ Some i =
        λ j i e.
        let number : j ≡ middle.instrs + j = omega (arith, one.none_yet) in
        subst (λ k. slice_get b.instrs k ≡ Some i) number e in
        let two : OthersPassed m f b rules_of middle b.instrs others ns = others_passed m f b rules_of middle b.instrs others ns there_then instr_here are_others one.ready in
        let end_is : at_term r tree ≡ after_instrs middle others = one.reached in
        let block_is : (at_term r tree).block ≡ r.block = ap (λ (q : Reached). q.block) end_is ∙ (two.block ∙ one.block) in
        let count_is : (at_term r tree).instrs ≡ length b.instrs = ap (λ (q : Reached). q.instrs) end_is ∙ (two.counted ∙ (ap (λ (k : ℕ). k + length b.instrs) one.none_yet ∙ omega arith)) in
        let there_at_end : slice_get f.blocks (at_term r tree).block ≡ Some b = subst (λ k. slice_get f.blocks k ≡ Some b) (sym block_is) there in
        let registers : List (Name × Meaning) = registers_from (scope m f) r.block 0 b.instrs in
        let variables_are : middle.before.meanings ≡ begin.before.meanings ++ variables_meant 0 vars = one.meanings ∙ ap (λ (ms : List (Name × Meaning)). begin.before.meanings ++ ms) start in
        let registers_here : registers_from (scope m f) middle.block middle.instrs b.instrs ≡ registers = λ i. registers_from (scope m f) (one.block i) (one.none_yet i) b.instrs in
        let registers_are : (at_term r tree).before.meanings ≡ middle.before.meanings ++ registers =
        moved (at_term r tree) (after_instrs middle others) middle.before.meanings (registers_from (scope m f) middle.block middle.instrs b.instrs) registers end_is two.meanings registers_here in
        record {
          block = block_is;
          meanings = joined r.before.meanings begin.before.meanings middle.before.meanings (at_term r tree).before.meanings (spelled b.name, BlockMeaning r.block) (variables_meant 0 vars) registers
              first.meanings variables_are registers_are;
          ready = subst (λ (q : Reached). IsReady q.before ns) (sym end_is) two.ready;
          vars_are = one.vars_are ∙ (ap (λ (tail : List (Width × Name)). plain_names vars ++ tail) two.vars_are ∙ append-nil (plain_names vars));
          problem = λ c known.
              then_none _ _ first.problem
              (then_none _ _ (one.problem c ∙ two.problem c known)
              (term_meant m f c known (at_term r tree).block b there_at_end rules_of (at_term r tree).instrs (take_all b.instrs (at_term r tree).instrs count_is) word term tree_term).problem);
          means = λ c known.
              let ended = term_meant m f c known (at_term r tree).block b there_at_end rules_of (at_term r tree).instrs (take_all b.instrs (at_term r tree).instrs count_is) word term tree_term in
              λ i. record {
                name = label i;
                instrs = (one.instrs_are c ∙ two.means c known) i;
                term = ended.means i;
              };
        }

  label_written : (n : Name) (o : Option (At Name)) → IsTreeResult (Some n) o → (at : At Name) × (o ≡ Some at) × (at.item ≡ spelled n)
  label_written n None h = elim h [ ]
  label_written n (Some at) h = (at, refl, h)

  pub block_passed : (r : Reached) (vars : List (Width × Name)) (b : Block) (x : RawBlock) (ns : List Name) → slice_get f.blocks r.block ≡ Some b → IsBlockIn (scope m f) b
      → AllByRecursion (λ v. r.block ≡ 0) vars → numbered Variable r.variables vars ≡ variables_meant 0 vars
      → IsReady r.before (b.name ∷ (map (λ v. v.1) vars ++ (result_names b ++ ns))) → IsTreeBlock m f vars b x → IsPassed r vars b x ns
  unfolding tree
  block_passed r vars b x ns there rules_of entry start ready t =
      let named = label_written b.name x.label t.label in
      let whole : tree r vars b ns there rules_of named.0 t.allocas t.others x.term x.term_word ≡ x =
      λ i. record { label = sym named.1 i; instrs = sym t.instrs i; term = x.term; term_word = x.term_word } in
      subst (λ y. IsPassed r vars b y ns) whole
      (with_parts r vars b ns there rules_of named.0 t.allocas t.others x.term x.term_word entry start ready named.2 t.are_allocas t.are_others t.term)

  -- ---- all blocks behind the first

  pub record ArePassed (r : Reached) (bs : List Block) (xs : List RawBlock) : Type 0 where
    pub meanings : (after_blocks r xs).before.meanings ≡ r.before.meanings ++ of_blocks (scope m f) r.block bs
    pub ready : IsReady (after_blocks r xs).before []
    pub vars_are : variables_from r xs ≡ []
    pub problem : (c : Context) → Knows m f c → blocks_problem c r xs ≡ None
    pub means : (c : Context) → Knows m f c → blocks_from c r xs ≡ map plain_block bs

  pub blocks_passed : (r : Reached) (bs : List Block) (xs : List RawBlock) → All (IsBlockIn (scope m f)) f.blocks
      → ((j : ℕ) (b : Block) → slice_get bs j ≡ Some b → slice_get f.blocks (r.block + j) ≡ Some b) → AllZip (IsTreeBlock m f []) bs xs
      → IsReady r.before (block_names bs) → ArePassed r bs xs
  unfolding after_blocks variables_from blocks_problem blocks_from
  blocks_passed r [] (x ∷ xs) rules_of there trees ready = elim trees [ ]
  blocks_passed r (b ∷ bs) [] rules_of there trees ready = elim trees [ ]
  blocks_passed r [] [] rules_of there trees ready = record {
    meanings = sym (append-nil r.before.meanings);
    ready = ready;
    vars_are = refl;
    problem = λ c known. refl;
    means = λ c known. refl;
  }
  blocks_passed r (b ∷ bs) (x ∷ xs) rules_of there trees ready =
      let first : r.block + 0 ≡ r.block = omega arith in
      let here : slice_get f.blocks r.block ≡ Some b = subst (λ k. slice_get f.blocks k ≡ Some b) first (there 0 b refl) in
      let step : IsPassed r [] b x (block_names bs) =
      block_passed r [] b x (block_names bs) here (at_place (IsBlockIn (scope m f)) f.blocks rules_of r.block b here) tt refl ready trees.0 in
      let next : Reached = after_block r x in
      let next_is : next.block ≡ r.block + 1 = ap (λ (k : ℕ). k + 1) step.block in
      let later : (j : ℕ) (y : Block) → slice_get bs j ≡ Some y → slice_get f.blocks (next.block + j) ≡ Some y =
      λ j y e.
      let number : r.block + suc j ≡ next.block + j = omega (arith, next_is) in
      subst (λ k. slice_get f.blocks k ≡ Some y) number (there (suc j) y e) in
      let more : ArePassed next bs xs = blocks_passed next bs xs rules_of later trees.1 step.ready in
      record {
        meanings =
            more.meanings
            ∙ (ap (λ (k : ℕ). next.before.meanings ++ of_blocks (scope m f) k bs) next_is
            ∙ (ap (λ (ms : List (Name × Meaning)). ms ++ of_blocks (scope m f) (r.block + 1) bs) step.meanings
            ∙ append_assoc r.before.meanings (of_block (scope m f) r.block [] b) (of_blocks (scope m f) (r.block + 1) bs)));
        ready = more.ready;
        vars_are = (λ i. step.vars_are i ++ more.vars_are i);
        problem = λ c known. then_none _ _ (step.problem c known) (more.problem c known);
        means = λ c known. λ i. step.means c known i ∷ more.means c known i;
      }
