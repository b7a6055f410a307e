use Rattle.std.proofs.Common.{ap, ◌∙◌}
use Rattle.serde_json.specs.Written.{has_float, compact_text}
use Rattle.certificate.proofs.NoFloat.{no_float}
use Rattle.certificate.proofs.write.to_json.Goals as goal

pub returns : goal.returns
returns c =
    let is = c.in_ok-value.ensures in
    c.in_ok-to_vec.ensures.text (ap has_float is ∙ no_float c.args.certificate.now) ∙ ap compact_text is
