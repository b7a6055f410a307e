-- The instructions of a block behind its allocas, in order.
use Rattle.std.proofs.Common.{◌≡◌, ◌+◌, ◌++◌, ◌↔◌, ℕ, suc, Bool, true, false, List, [], ◌∷◌, Option, None, Some, length, map, slice_get, IsSome, if◌then◌else◌, refl, sym, ap, subst, ◌∙◌, append_assoc, append-nil, arith}
use Rattle.std.specs.List.{AllZip, filter_map, cons_option}
use Rattle.std.specs.Option.{option_to_list, option_map, is_some}
use Rattle.mc_num.specs.declared.op.Width.{Width}
use Rattle.ir_types.specs.Program.{Program}
use Rattle.ir_types.specs.Definitions.{Defined, define_some, name_of, name_problem}
use Rattle.ir_types.specs.Same.{plain_instr}
use Rattle.ir_types.specs.ModuleOf.{var_of, instr_with, instr_of, vars_from, instrs_from}
use Rattle.ir_types.specs.Names.{spelled}
use Rattle.ir_types.specs.Rules.{Reached, register, result_meaning, instr_problem, instrs_problem, after_instr, after_instrs}
use Rattle.ir_types.specs.TreeOf.{type_tree, IsTreeInstr, IsTreeResult}
use Rattle.ir_types.specs.Uses.{Context}
use Rattle.ir_types.specs.WellFormed.{Scope, scope, given_by, IsBlockIn, IsNamed}
use Rattle.ir_types.specs.declared.name.Name.{Name}
use Rattle.ir_types.specs.declared.rules.Meaning.{Meaning}
use Rattle.ir_types.specs.declared.rules.Meaning.TheVariants.{Register}
use Rattle.ir_types.specs.declared.span.At.{At}
use Rattle.ir_types.specs.declared.syntax.Block.{Block}
use Rattle.ir_types.specs.declared.syntax.Function.{Function}
use Rattle.ir_types.specs.declared.syntax.Instr.{Instr}
use Rattle.ir_types.specs.declared.syntax.Kind.{Kind}
use Rattle.ir_types.specs.declared.tree.RawInstr.{RawInstr}
use Rattle.ir_types.specs.declared.tree.RawKind.{RawKind}
use Rattle.ir_types.specs.declared.tree.Ty.TheVariants.{Int}
use Rattle.module_trees.proofs.Doing.{IsShaped, shaped, IsMeantKind, kind_meant}
use Rattle.module_trees.proofs.Lists.{at_place}
use Rattle.module_trees.proofs.Problems.{then_none}
use Rattle.module_trees.proofs.Ready.{IsReady, IsDefined, defined}
use Rattle.module_trees.proofs.Table.{with_register, registers_from}
use Rattle.module_trees.proofs.Uses.{Knows}

-- ---- results

-- the result of an instruction is defined
record IsResult (s : Scope) (r : Reached) (k : Kind) (result : Option Name) (ns : List Name) (written : Option (At Name)) (after : Defined) : Type 0 where
  problem : name_problem r.before written ≡ None
  meanings : after.meanings ≡ r.before.meanings ++ with_register s r.block r.instrs k result []
  ready : IsReady after ns
  named : is_some written ≡ is_some (given_by s k)
  means : (if is_some (given_by s k) then Some (name_of r.before written) else None) ≡ option_map spelled result

result_defined : (s : Scope) (r : Reached) (k : Kind) (result : Option Name) (ns : List Name) (written : Option (At Name)) (given : Option Width)
    → given_by s k ≡ given → (IsSome result ↔ IsSome given) → IsReady r.before (cons_option result ns) → IsTreeResult result written
    → IsResult s r k result ns written (define_some r.before written (register r (option_map Int given)))
result_defined s r k None ns None None e h ready t = record {
  problem = refl;
  meanings = sym (append-nil r.before.meanings);
  ready = ready;
  named = sym (ap is_some e);
  means = ap (λ (g : Option Width). if is_some g then Some (name_of r.before None) else None) e;
}
result_defined s r k (Some n) ns (Some written) (Some w) e h ready t =
    let step : IsDefined r.before n ns (Register r.block r.instrs (Int w)) written = defined r.before n ns (Register r.block r.instrs (Int w)) written ready t in
    record {
      problem = step.problem;
      meanings = step.meanings ∙ ap (λ (g : Option Width). r.before.meanings ++ (spelled n, Register r.block r.instrs (type_tree g)) ∷ []) (sym e);
      ready = step.ready;
      named = sym (ap is_some e);
      means = ap (λ (g : Option Width). if is_some g then Some (name_of r.before (Some written)) else None) e ∙ ap (λ (x : Name). Some x) t;
    }
result_defined s r k None ns (Some written) given e h ready t = elim t [ ]
result_defined s r k (Some n) ns None given e h ready t = elim t [ ]
result_defined s r k None ns None (Some w) e h ready t = let never : false ≡ true = h.1 refl in cc
result_defined s r k (Some n) ns (Some written) None e h ready t = let never : false ≡ true = h.0 refl in cc

-- what the result means
meaning_is : (s : Scope) (r : Reached) (k : Kind) (x : RawKind) (given : Option Width) (named : Bool) → IsShaped s k x → given_by s k ≡ given → named ≡ is_some given
    → result_meaning r named x ≡ register r (option_map Int given)
meaning_is s r k x (Some w) named shape e h = shape.meaning r named ∙ ap (register r) (shape.typed named w e)
meaning_is s r k x None named shape e h =
    ap (λ (b : Bool). result_meaning r b x) h ∙ (shape.meaning r false ∙ ap (register r) (shape.untyped e))

module _ (m : Program) (f : Function) (b : Block) (rules_of : IsBlockIn (scope m f) b) where
  -- ---- one instruction

  -- an instruction with its tree is passed
  record IsPassed (r : Reached) (i : Instr) (ns : List Name) (x : RawInstr) : Type 0 where
    counted : (after_instr r x).instrs ≡ r.instrs + 1
    meanings : (after_instr r x).before.meanings ≡ r.before.meanings ++ with_register (scope m f) r.block r.instrs i.kind i.result []
    ready : IsReady (after_instr r x).before ns
    var : var_of r x x.kind ≡ None
    problem : (c : Context) → Knows m f c → instr_problem c r x ≡ None
    means : (c : Context) → Knows m f c → instr_of c r x ≡ Some (plain_instr i)

  passed : (r : Reached) (i : Instr) (ns : List Name) (x : RawInstr) → slice_get f.blocks r.block ≡ Some b → slice_get b.instrs r.instrs ≡ Some i
      → IsReady r.before (cons_option i.result ns) → IsTreeInstr m f b i x → IsPassed r i ns x
  passed r i ns x there here ready tree =
      let s : Scope = scope m f in
      let shape : IsShaped s i.kind x.kind = shaped m f b i.kind x.kind tree.kind in
      let given : Option Width = given_by s i.kind in
      let result : IsResult s r i.kind i.result ns x.result (define_some r.before x.result (register r (option_map Int given))) =
      result_defined s r i.kind i.result ns x.result given refl (at_place (IsNamed s) b.instrs rules_of.named r.instrs i here) ready tree.result in
      let before : define_some r.before x.result (register r (option_map Int given)) ≡ (after_instr r x).before =
      ap (define_some r.before x.result) (sym (meaning_is s r i.kind x.kind given (is_some x.result) shape refl result.named)) in
      record {
        counted = ap (λ (a : Bool). if a then r.instrs else r.instrs + 1) shape.alloca;
        meanings = sym (ap (λ (d : Defined). d.meanings) before) ∙ result.meanings;
        ready = subst (λ d. IsReady d ns) before result.ready;
        var = shape.var r x;
        problem = λ c known. then_none _ _ result.problem (kind_meant m f c known r b there rules_of (is_some x.result) x.word i.kind x.kind (rules_of.fits r.instrs i here) result.named tree.kind).problem;
        means = λ c known.
            let kind : IsMeantKind c r (is_some x.result) x.word i.kind x.kind =
            kind_meant m f c known r b there rules_of (is_some x.result) x.word i.kind x.kind (rules_of.fits r.instrs i here) result.named tree.kind in
            ap (instr_with r x) kind.means
            ∙ ap (λ (o : Option Name). Some (record { result = o; kind = i.kind })) (ap (λ (g : Bool). if g then Some (name_of r.before x.result) else None) shape.gives_same ∙ result.means);
      }

  -- ---- all of them

  -- instructions with their trees are passed, up to the end of the block
  pub record ArePassed (r : Reached) (is : List Instr) (xs : List RawInstr) (ns : List Name) : Type 0 where
    pub counted : (after_instrs r xs).instrs ≡ r.instrs + length is
    pub block : (after_instrs r xs).block ≡ r.block
    pub meanings : (after_instrs r xs).before.meanings ≡ r.before.meanings ++ registers_from (scope m f) r.block r.instrs is
    pub ready : IsReady (after_instrs r xs).before ns
    pub vars_are : vars_from r xs ≡ []
    pub problem : (c : Context) → Knows m f c → instrs_problem c r xs ≡ None
    pub means : (c : Context) → Knows m f c → instrs_from c r xs ≡ map plain_instr is

  register_first : (k i : ℕ) (kind : Kind) (result : Option Name) (ms rest : List (Name × Meaning))
      → (ms ++ with_register (scope m f) k i kind result []) ++ rest ≡ ms ++ with_register (scope m f) k i kind result rest
  register_first k i kind None ms rest = ap (λ (xs : List (Name × Meaning)). xs ++ rest) (append-nil ms)
  register_first k i kind (Some n) ms rest = append_assoc ms ((spelled n, Register k i (type_tree (given_by (scope m f) kind))) ∷ []) rest

  option_first : (o : Option Name) (xs ns : List Name) → cons_option o xs ++ ns ≡ cons_option o (xs ++ ns)
  option_first None xs ns = refl
  option_first (Some n) xs ns = refl

  pub others_passed : (r : Reached) (is : List Instr) (xs : List RawInstr) (ns : List Name) → slice_get f.blocks r.block ≡ Some b
      → ((j : ℕ) (i : Instr) → slice_get is j ≡ Some i → slice_get b.instrs (r.instrs + j) ≡ Some i) → AllZip (IsTreeInstr m f b) is xs
      → IsReady r.before (filter_map (λ i. i.result) is ++ ns) → ArePassed r is xs ns
  unfolding instrs_problem after_instrs vars_from instrs_from
  others_passed r [] (x ∷ xs) ns there here trees ready = elim trees [ ]
  others_passed r (i ∷ is) [] ns there here trees ready = elim trees [ ]
  others_passed r [] [] ns there here trees ready = record {
    counted = omega arith;
    block = refl;
    meanings = sym (append-nil r.before.meanings);
    ready = ready;
    vars_are = refl;
    problem = λ c known. refl;
    means = λ c known. refl;
  }
  others_passed r (i ∷ is) (x ∷ xs) ns there here trees ready =
      let behind : List Name = filter_map (λ (j : Instr). j.result) is ++ ns in
      let first : r.instrs + 0 ≡ r.instrs = omega arith in
      let step : IsPassed r i behind x =
      passed r i behind x there (subst (λ k. slice_get b.instrs k ≡ Some i) first (here 0 i refl))
      (subst (IsReady r.before) (option_first i.result (filter_map (λ (j : Instr). j.result) is) ns) ready) trees.0 in
      let next : Reached = after_instr r x in
      let later : (j : ℕ) (y : Instr) → slice_get is j ≡ Some y → slice_get b.instrs (next.instrs + j) ≡ Some y =
      λ j y e.
      let number : r.instrs + suc j ≡ next.instrs + j = omega (arith, step.counted) in
      subst (λ k. slice_get b.instrs k ≡ Some y) number (here (suc j) y e) in
      let more : ArePassed next is xs ns = others_passed next is xs ns there later trees.1 step.ready in
      record {
        counted = more.counted ∙ (ap (λ (k : ℕ). k + length is) step.counted ∙ omega arith);
        block = more.block;
        meanings =
            more.meanings
            ∙ (ap (λ (k : ℕ). next.before.meanings ++ registers_from (scope m f) r.block k is) step.counted
            ∙ (ap (λ (ms : List (Name × Meaning)). ms ++ registers_from (scope m f) r.block (r.instrs + 1) is) step.meanings
            ∙ register_first r.block r.instrs i.kind i.result r.before.meanings (registers_from (scope m f) r.block (r.instrs + 1) is)));
        ready = more.ready;
        vars_are = ap (λ (o : Option (Width × Name)). option_to_list o ++ vars_from next xs) step.var ∙ more.vars_are;
        problem = λ c known. then_none _ _ (step.problem c known) (more.problem c known);
        means = λ c known.
            ap (λ (o : Option Instr). option_to_list o ++ instrs_from c next xs) (step.means c known)
            ∙ ap (λ (tail : List Instr). plain_instr i ∷ tail) (more.means c known);
      }
