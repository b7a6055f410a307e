-- The allocas of a block, in order.
use Rattle.std.proofs.Common.{◌≡◌, ◌+◌, ◌++◌, ◌==◌, ◌&&◌, not, ℕ, List, [], ◌∷◌, Option, None, Some, map, refl, sym, ap, subst, ◌∙◌, append_assoc, append-nil}
use Rattle.std.specs.List.{AllZip, AllByRecursion}
use Rattle.std.specs.Option.{option_to_list}
use Rattle.mc_num.specs.declared.op.Width.{Width}
use Rattle.ir_types.specs.Same.{plain_names}
use Rattle.ir_types.specs.ModuleOf.{var_of, instr_of, vars_from, instrs_from}
use Rattle.ir_types.specs.Names.{spelled}
use Rattle.ir_types.specs.Problems.{◌>>◌}
use Rattle.ir_types.specs.Rules.{Reached, instr_problem, instrs_problem, after_instr, after_instrs}
use Rattle.ir_types.specs.Uses.{Context}
use Rattle.ir_types.specs.TreeOf.{IsTreeAlloca, IsTreeResult}
use Rattle.ir_types.specs.declared.name.Name.{Name}
use Rattle.ir_types.specs.declared.rules.Meaning.{Meaning}
use Rattle.ir_types.specs.declared.rules.Meaning.TheVariants.{Variable}
use Rattle.ir_types.specs.declared.rules.Problem.{Problem}
use Rattle.ir_types.specs.declared.rules.Rule.TheVariants as rule
use Rattle.ir_types.specs.declared.span.At.{At}
use Rattle.ir_types.specs.declared.span.Span.{Span}
use Rattle.ir_types.specs.declared.syntax.Instr.{Instr}
use Rattle.ir_types.specs.declared.tree.RawInstr.{RawInstr}
use Rattle.ir_types.specs.declared.tree.RawKind.{RawKind}
use Rattle.ir_types.specs.declared.tree.RawKind.TheVariants as forms
use Rattle.module_trees.proofs.Problems.{then_none, unbroken}
use Rattle.module_trees.proofs.Ready.{IsReady, IsDefined, defined}
use Rattle.module_trees.proofs.Table.{numbered}

-- the alloca of a variable is passed
record IsPassed (r : Reached) (v : Width × Name) (ns : List Name) (x : RawInstr) : Type 0 where
  problem : (c : Context) → instr_problem c r x ≡ None
  var : var_of r x x.kind ≡ Some (v.0, spelled v.1)
  instr : (c : Context) → instr_of c r x ≡ None
  none_yet : (after_instr r x).instrs ≡ 0
  variables : (after_instr r x).variables ≡ r.variables + 1
  meanings : (after_instr r x).before.meanings ≡ r.before.meanings ++ (spelled v.1, Variable r.variables v.0) ∷ []
  ready : IsReady (after_instr r x).before ns

alloca_passed : (r : Reached) (v : Width × Name) (ns : List Name) (written : Option (At Name)) (word : Span)
    → r.block ≡ 0 → r.instrs ≡ 0 → IsReady r.before (v.1 ∷ ns) → IsTreeResult (Some v.1) written → IsPassed r v ns (record { result = written; word = word; kind = forms.Alloca v.0 })
alloca_passed r v ns None word entry none ready e = elim e [ ]
alloca_passed r v ns (Some written) word entry none ready e =
    let step : IsDefined r.before v.1 ns (Variable r.variables v.0) written = defined r.before v.1 ns (Variable r.variables v.0) written ready e in
    record {
      problem = λ c. then_none _ _ step.problem (unbroken rule.LateAlloca word _ (λ i. not (entry i == 0 && none i == 0)));
      var = ap (λ (n : Name). Some (v.0, n)) e;
      instr = λ c. refl;
      none_yet = none;
      variables = refl;
      meanings = step.meanings;
      ready = step.ready;
    }

passed : (r : Reached) (v : Width × Name) (ns : List Name) (x : RawInstr) → r.block ≡ 0 → r.instrs ≡ 0 → IsReady r.before (v.1 ∷ ns) → IsTreeAlloca v x → IsPassed r v ns x
passed r v ns x entry none ready tree =
    subst (λ (k : RawKind). IsPassed r v ns (record { result = x.result; word = x.word; kind = k })) (sym tree.kind) (alloca_passed r v ns x.result x.word entry none ready tree.result)

-- the allocas of variables are passed; `rest` comes behind them
pub record ArePassed (r : Reached) (vars : List (Width × Name)) (xs rest : List RawInstr) (ns : List Name) : Type 0 where
  pub after : Reached
  pub reached : after_instrs r (xs ++ rest) ≡ after_instrs after rest
  pub problem : (c : Context) → instrs_problem c r (xs ++ rest) ≡ instrs_problem c after rest
  pub vars_are : vars_from r (xs ++ rest) ≡ plain_names vars ++ vars_from after rest
  pub instrs_are : (c : Context) → instrs_from c r (xs ++ rest) ≡ instrs_from c after rest
  pub none_yet : after.instrs ≡ 0
  pub block : after.block ≡ r.block
  pub meanings : after.before.meanings ≡ r.before.meanings ++ numbered Variable r.variables vars
  pub ready : IsReady after.before ns

pub allocas_passed : (r : Reached) (vars : List (Width × Name)) (xs rest : List RawInstr) (ns : List Name)
    → r.instrs ≡ 0 → AllByRecursion (λ v. r.block ≡ 0) vars → AllZip IsTreeAlloca vars xs → IsReady r.before (map (λ v. v.1) vars ++ ns) → ArePassed r vars xs rest ns
unfolding instrs_problem after_instrs vars_from instrs_from
allocas_passed r [] (x ∷ xs) rest ns none entry trees ready = elim trees [ ]
allocas_passed r (v ∷ vars) [] rest ns none entry trees ready = elim trees [ ]
allocas_passed r [] [] rest ns none entry trees ready = record {
  after = r;
  reached = refl;
  problem = λ c. refl;
  vars_are = refl;
  instrs_are = λ c. refl;
  none_yet = none;
  block = refl;
  meanings = sym (append-nil r.before.meanings);
  ready = ready;
}
allocas_passed r (v ∷ vars) (x ∷ xs) rest ns none entry trees ready =
    let step : IsPassed r v (map (λ v. v.1) vars ++ ns) x = passed r v (map (λ (v : Width × Name). v.1) vars ++ ns) x entry.0 none ready trees.0 in
    let next : Reached = after_instr r x in
    let more : ArePassed next vars xs rest ns = allocas_passed next vars xs rest ns step.none_yet entry.1 trees.1 step.ready in
    record {
      after = more.after;
      reached = more.reached;
      problem = λ c. ap (λ (p : Option Problem). p >> instrs_problem c next (xs ++ rest)) (step.problem c) ∙ more.problem c;
      vars_are =
          ap (λ (o : Option (Width × Name)). option_to_list o ++ vars_from next (xs ++ rest)) step.var
          ∙ ap (λ (tail : List (Width × Name)). (v.0, spelled v.1) ∷ tail) more.vars_are;
      instrs_are = λ c. ap (λ (o : Option Instr). option_to_list o ++ instrs_from c next (xs ++ rest)) (step.instr c) ∙ more.instrs_are c;
      none_yet = more.none_yet;
      block = more.block;
      meanings =
          more.meanings
          ∙ (ap (λ (k : ℕ). next.before.meanings ++ numbered Variable k vars) step.variables
          ∙ (ap (λ (ms : List (Name × Meaning)). ms ++ numbered Variable (r.variables + 1) vars) step.meanings
          ∙ append_assoc r.before.meanings ((spelled v.1, Variable r.variables v.0) ∷ []) (numbered Variable (r.variables + 1) vars)));
      ready = more.ready;
    }
