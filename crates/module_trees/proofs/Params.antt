-- The parameters of a definition's tree, in order.
use Rattle.std.proofs.Common.{◌≡◌, ◌+◌, ◌++◌, ℕ, List, [], ◌∷◌, Option, None, Some, map, refl, sym, ap, subst, ◌∙◌, append_assoc, append-nil}
use Rattle.std.specs.List.{AllZip}
use Rattle.mc_num.specs.declared.op.Width.{Width}
use Rattle.ir_types.specs.Definitions.{Defined, define, name_of, name_problem}
use Rattle.ir_types.specs.Same.{plain_names}
use Rattle.ir_types.specs.ModuleOf.{params_from}
use Rattle.ir_types.specs.Names.{spelled}
use Rattle.ir_types.specs.Rules.{after_params, params_problem}
use Rattle.ir_types.specs.TreeOf.{IsTreeParam, IsTreeResult}
use Rattle.ir_types.specs.declared.name.Name.{Name}
use Rattle.ir_types.specs.declared.rules.Meaning.{Meaning}
use Rattle.ir_types.specs.declared.rules.Meaning.TheVariants.{Parameter}
use Rattle.ir_types.specs.declared.span.At.{At}
use Rattle.ir_types.specs.declared.tree.RawParam.{RawParam}
use Rattle.module_trees.proofs.Problems.{then_none}
use Rattle.module_trees.proofs.Ready.{IsReady, IsDefined, defined}
use Rattle.module_trees.proofs.Table.{numbered}

-- a parameter is passed
record IsPassed (i : ℕ) (d : Defined) (p : Width × Name) (x : RawParam) (ns : List Name) : Type 0 where
  problem : name_problem d x.name ≡ None
  width : x.width ≡ p.0
  named : name_of d x.name ≡ spelled p.1
  meanings : (define d x.name (Parameter i x.width)).meanings ≡ d.meanings ++ (spelled p.1, Parameter i p.0) ∷ []
  ready : IsReady (define d x.name (Parameter i x.width)) ns

param_passed : (i : ℕ) (d : Defined) (p : Width × Name) (written : Option (At Name)) (ns : List Name) → IsReady d (p.1 ∷ ns) → IsTreeResult (Some p.1) written
    → IsPassed i d p (record { width = p.0; name = written }) ns
param_passed i d p None ns ready e = elim e [ ]
param_passed i d p (Some written) ns ready e =
    let step : IsDefined d p.1 ns (Parameter i p.0) written = defined d p.1 ns (Parameter i p.0) written ready e in
    record { problem = step.problem; width = refl; named = e; meanings = step.meanings; ready = step.ready }

passed : (i : ℕ) (d : Defined) (p : Width × Name) (x : RawParam) (ns : List Name) → IsReady d (p.1 ∷ ns) → IsTreeParam p x → IsPassed i d p x ns
passed i d p x ns ready tree =
    subst (λ (w : Width). IsPassed i d p (record { width = w; name = x.name }) ns) (sym tree.width) (param_passed i d p x.name ns ready tree.named)

pub record ArePassed (i : ℕ) (d : Defined) (ps : List (Width × Name)) (xs : List RawParam) (ns : List Name) : Type 0 where
  pub problem : params_problem i d xs ≡ None
  pub means : params_from i d xs ≡ plain_names ps
  pub meanings : (after_params i d xs).meanings ≡ d.meanings ++ numbered Parameter i ps
  pub ready : IsReady (after_params i d xs) ns

pub params_passed : (i : ℕ) (d : Defined) (ps : List (Width × Name)) (xs : List RawParam) (ns : List Name) → AllZip IsTreeParam ps xs → IsReady d (map (λ p. p.1) ps ++ ns)
    → ArePassed i d ps xs ns
unfolding params_problem params_from after_params
params_passed i d [] (x ∷ xs) ns trees ready = elim trees [ ]
params_passed i d (p ∷ ps) [] ns trees ready = elim trees [ ]
params_passed i d [] [] ns trees ready = record { problem = refl; means = refl; meanings = sym (append-nil d.meanings); ready = ready }
params_passed i d (p ∷ ps) (x ∷ xs) ns trees ready =
    let step : IsPassed i d p x (map (λ p. p.1) ps ++ ns) = passed i d p x (map (λ (p : Width × Name). p.1) ps ++ ns) ready trees.0 in
    let next : Defined = define d x.name (Parameter i x.width) in
    let more : ArePassed (i + 1) next ps xs ns = params_passed (i + 1) next ps xs ns trees.1 step.ready in
    record {
      problem = then_none _ _ step.problem more.problem;
      means = λ j. (step.width j, step.named j) ∷ more.means j;
      meanings =
          more.meanings
          ∙ (ap (λ (ms : List (Name × Meaning)). ms ++ numbered Parameter (i + 1) ps) step.meanings
          ∙ append_assoc d.meanings ((spelled p.1, Parameter i p.0) ∷ []) (numbered Parameter (i + 1) ps));
      ready = more.ready;
    }
