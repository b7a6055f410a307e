use Rattle.std.proofs.Common.{arith}
use Rattle.fresh_prefix.proofs.Texts.{text_name_is, made_name_is}
use Rattle.fresh_prefix.proofs.reading.prefix_of.Goals as goal

pub returns-in-Text : goal.returns-in-Text
returns-in-Text c j lt =
    rw c.in-Text.is
    (let bytes = c.number_of.ensures j lt in
    let name = text_name_is c.bytes.result.now c.in-Text.spelling j c.bytes.ensures in
    (λ e. name.0 (bytes.0 e), λ h. bytes.1 (name.1 h)))

pub returns-in-Made : goal.returns-in-Made
returns-in-Made c j lt = rw c.in-Made.is (made_name_is c.in-Made.prefix c.in-Made.field-1 (omega arith) j lt)
