use Rattle.std.proofs.Common.{IsTrue, false, inl, inr, refl, subst}
use Rattle.top_call.proofs.OptLemmas.{made_large}
use Rattle.top_call.proofs.itself.fit_choices.Goals as goal

never : IsTrue false → ⊥
never told = cc

pub returns-then-not-within_limits-clause-stops : goal.returns-then-not-within_limits-clause-stops
returns-then-not-within_limits-clause-stops c = (
  refl,
  refl,
  inl
      (made_large c.args.program.now c.args.counts.now.functions c.in_ok-optimised.optimised.certificate c.in_ok-optimised.optimised.module c.in_ok-optimised.ensures.optimised
      (inr (λ limits. never (subst IsTrue c.if-not-within_limits.true (c.within_limits.ensures.1 limits))))),
)
