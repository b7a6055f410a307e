use Rattle.std.proofs.Common.{◌∙◌, sym, length, inl, inr}
use Rattle.std.proofs.lemmas.Bool.{both_ways, eqb-true, eqb-false}
use Rattle.fresh_prefix.proofs.Texts.{empty_is, out_is, other_is, some_is}
use Rattle.fresh_prefix.proofs.reading.number_between.Goals as goal
use Rattle.fresh_prefix.proofs.reading.number_between.Goals.{then-number-eq0-via-then-number-eq0, then-number-eq0-via-else-number-eq0+then-number}

pub returns-then-is_empty : goal.returns-then-is_empty
returns-then-is_empty c = empty_is c.args.word.now (eqb-true (length c.args.word.now) 0 (sym c.is_empty.ensures ∙ c.if-is_empty.true))

pub returns-then-number-eq0 : goal.returns-then-number-eq0
returns-then-number-eq0 c j lt =
    out_is c.args.word.now c.number-number.result c.number-number.ensures (eqb-false (length c.args.word.now) 0 (sym c.is_empty.ensures ∙ c.if-is_empty.false)) j lt
    (elim c.then-number-eq0.branch [
      | then-number-eq0-via-then-number-eq0 w ↦ inl w.if-number-eq0.true
      | then-number-eq0-via-else-number-eq0+then-number w ↦ inr w.if-number.true
    ])

pub returns-then-writes : goal.returns-then-writes
returns-then-writes c j lt =
    some_is c.args.word.now c.number-number.result c.number-number.ensures (eqb-false (length c.args.word.now) 0 (sym c.is_empty.ensures ∙ c.if-is_empty.false)) j lt
    c.if-number-eq0.false (c.writes.ensures.0 c.if-writes.true)

pub returns-else-writes : goal.returns-else-writes
returns-else-writes c j lt =
    other_is c.args.word.now c.number-number.result c.number-number.ensures (eqb-false (length c.args.word.now) 0 (sym c.is_empty.ensures ∙ c.if-is_empty.false)) j lt
    (λ h. both_ways c.writes.result c.if-writes.false (c.writes.ensures.1 h))
