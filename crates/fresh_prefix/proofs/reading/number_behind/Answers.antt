use Rattle.std.proofs.Common.{◌∙◌, sym, refl}
use Rattle.fresh_prefix.proofs.Texts.{dot_is, no_dot_is}
use Rattle.fresh_prefix.proofs.reading.number_behind.Goals as goal

pub returns-in-Some : goal.returns-in-Some
returns-in-Some c j lt =
    let word = c.number_between.ensures j lt in
    let dot = dot_is c.args.bytes.now _ c.in-Some.dot j (sym c.dot_at.ensures ∙ c.in-Some.is) refl in
    (λ e. dot.0 (word.0 e), λ b. word.1 (dot.1 b))

pub returns-in-None : goal.returns-in-None
returns-in-None c j lt = no_dot_is c.args.bytes.now j (sym c.dot_at.ensures ∙ c.in-None.is)
