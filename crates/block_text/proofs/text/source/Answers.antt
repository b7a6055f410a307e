use Rattle.std.proofs.Common.{ℕ, sym, subst, arith}
use Rattle.block_text.specs.ByChanges.{AreBounded}
use Rattle.block_text.proofs.Bounds.{bounded, vars_small}
use Rattle.block_text.proofs.text.source.Goals as goal

pub overflow_cast-result : goal.overflow_cast-result
overflow_cast-result c = omega (arith, c.len.ensures, vars_small c.args.function.now c.args.table.now.exprs c.args.changes.now c.requires)

pub invariant_of-result : goal.invariant_of-result
invariant_of-result c =
    subst (λ (n : ℕ). AreBounded (record { exprs = c.args.table.now.exprs; changes = c.args.changes.now; vars = n })) (sym c.len.ensures)
    (bounded c.args.function.now c.args.table.now.exprs c.args.changes.now c.requires)
