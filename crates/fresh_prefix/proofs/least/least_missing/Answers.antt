use Rattle.std.proofs.Common.{not, ap, sym, ◌∙◌}
use Rattle.std.specs.Prelude.{position}
use Rattle.fresh_prefix.proofs.Marks.{some_clear, least_is, is_some_of, sum_is}
use Rattle.fresh_prefix.proofs.least.least_missing.Goals as goal

pub unwrap-requires : goal.unwrap-requires
unwrap-requires c =
    is_some_of c.first_clear.result (λ none.
    some_clear c.in_ok-count.count c.args.numbers.now c.in_ok-marks.marks.items c.in_ok-marks.ensures (sum_is c.checked_add.result _ _ c.in_ok-count.count c.checked_add.ensures c.in_ok-count.ensures.ok_part)
    (ap (position (λ mark. not mark)) (sym c.deref.ensures.value) ∙ sym c.first_clear.ensures ∙ none))

pub returns : goal.returns
returns c =
    least_is c.in_ok-count.count c.args.numbers.now c.in_ok-marks.marks.items c.in_ok-marks.ensures c.unwrap.result
    (ap (position (λ mark. not mark)) (sym c.deref.ensures.value) ∙ sym c.first_clear.ensures ∙ c.unwrap.ensures)
