use Rattle.std.proofs.Common.{sym, ap, ◌∙◌, subst}
use Rattle.std.specs.Prelude.{◌↔◌, IsTrue}
use Rattle.mc_num.specs.Value.{CanTrap, DivisorFits, traps_at}
use Rattle.expressions.proofs.tables.Table.traps.Goals as goal

pub can_trap-requires-clause-fits : goal.can_trap-requires-clause-fits
can_trap-requires-clause-fits c =
    subst (DivisorFits c.expr-expr.result.now.op) (sym c.divisor.ensures) c.expr-expr.ensures.sound.divisor_fits

pub can_trap-requires-clause-formed : goal.can_trap-requires-clause-formed
can_trap-requires-clause-formed c = c.expr-expr.ensures.sound.exists

pub returns : goal.returns
returns c = record {
  expr = c.expr-expr.result.now;
  there = c.expr-expr.ensures.there;
  exact = subst (λ d. IsTrue c.can_trap.result ↔ CanTrap c.expr-expr.result.now.op d) c.divisor.ensures c.can_trap.ensures.exact;
  test = c.can_trap.ensures.test ∙ ap (traps_at c.expr-expr.result.now.op) c.divisor.ensures;
}
