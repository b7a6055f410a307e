use Rattle.std.proofs.Common.{IsTrue, false, inl, inr, refl, rules, subst}
use Rattle.std.specs.Prelude.{All}
use Rattle.ir_types.specs.Limits.{IsWithinLimits}
use Rattle.top_call.proofs.OptLemmas.{made_large, texts_made}
use Rattle.top_call.proofs.opt.optimised_texts.Goals as goal

pub returns-clause-texts : goal.returns-clause-texts
returns-clause-texts c =
    let made = c.in_ok-optimised.optimised in
    let limits : All IsWithinLimits made.module.functions = search rules in
    texts_made c.args.program.now c.args.counts.now.functions made.certificate made.module c.in_ok-module.module.items c.in_ok-certificate.certificate.items
    c.in_ok-optimised.ensures.optimised c.requires.counts (c.certified_are_best.ensures c.args.program.now c.args.counts.now.functions made.certificate made.module c.requires.counts)
    (c.text_holds_its_certificate.ensures made.certificate c.in_ok-optimised.ensures.within) limits
    (c.reads_back.ensures made.module c.keeps_rules.ensures limits) (c.plain_same.ensures c.args.program.now made.module)
    c.in_ok-module.ensures.text c.in_ok-module.ensures.short c.in_ok-certificate.ensures.text

never : IsTrue false → ⊥
never told = cc

pub returns-then-not-within_limits-clause-stops : goal.returns-then-not-within_limits-clause-stops
returns-then-not-within_limits-clause-stops c = (
  refl,
  refl,
  inl
      (made_large c.args.program.now c.args.counts.now.functions c.in_ok-optimised.optimised.certificate c.in_ok-optimised.optimised.module c.in_ok-optimised.ensures.optimised
      (inr (λ limits. never (subst IsTrue c.if-not-within_limits.true (c.within_limits.ensures.1 limits))))),
)
