use Rattle.std.proofs.Common.{map, ap, ◌∙◌}
use Rattle.std.specs.Option.{option_map}
use Rattle.std.proofs.lemmas.Option.{slice_get-map}
use Rattle.std.proofs.lemmas.Result.{err_from_is_err_and}
use Rattle.profile.specs.Reading.{outline}
use Rattle.profile.proofs.Outlines.{function_said, function_fails_later}
use Rattle.profile.proofs.shapes.function_counts.Goals as goal

pub returns-in_err-slots-clause-err : goal.returns-in_err-slots-clause-err
returns-in_err-slots-clause-err c =
    let p = err_from_is_err_and c.from_residual.result c.from_residual.ensures.1 in
    rw (p.1, p.2)
    (function_fails_later c.args.function.now c.args.number (map outline c.args.read.now) c.args.at c.in_err-slots.field-0.0 (slice_get-map outline c.args.read.now c.args.at ∙ ap (option_map outline) c.in-Some.ensures)
    (rw c.as_slice.ensures at c.in_err-slots.ensures.err))

pub returns-clause-ok : goal.returns-clause-ok
returns-clause-ok c = function_said c.args.function.now c.args.number c.args.read.now c.args.at c.in-Some.entry c.in_ok-slots.slots c.in-Some.ensures (rw c.as_slice.ensures at c.in_ok-slots.ensures.ok)
