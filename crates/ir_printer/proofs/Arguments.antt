-- Arguments end with the shorter of two lists.
use Rattle.std.proofs.Common.{◌≡◌, ℕ, zero, suc, ◌≤◌, List, [], ◌∷◌, length, drop, refl, arith}
use Rattle.std.specs.Prelude.{min}
use Rattle.mc_num.specs.declared.op.Width.{Width}
use Rattle.ir_types.specs.declared.name.Name.{Name}
use Rattle.ir_types.specs.declared.syntax.Operand.{Operand}
use Rattle.ir_types.specs.declared.syntax.Block.{Block}
use Rattle.ir_types.specs.declared.syntax.Function.{Function}
use Rattle.ir_printer.specs.Text.{arguments_texts}

pub arguments_end : (f : Function) (b : Block) (ps : List (Width × Name)) (os : List Operand) (i : ℕ) → min (length ps) (length os) ≤ i → arguments_texts f b (drop i ps) (drop i os) ≡ []
arguments_end f b [] os zero h = refl
arguments_end f b [] os (suc i) h = refl
arguments_end f b (p ∷ ps) [] zero h = refl
arguments_end f b (p ∷ ps) [] (suc i) h = no_operands (drop i ps)
  where
    no_operands : (ps : List (Width × Name)) → arguments_texts f b ps [] ≡ []
    no_operands [] = refl
    no_operands (p ∷ ps) = refl
arguments_end f b (p ∷ ps) (o ∷ os) zero h = absurd (omega arith)
arguments_end f b (p ∷ ps) (o ∷ os) (suc i) h = arguments_end f b ps os i (omega arith)
