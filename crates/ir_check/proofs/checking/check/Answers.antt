use Rattle.ir_check.proofs.Last.{limits_kept, parts_keep}
use Rattle.ir_check.proofs.checking.check.Goals as goal

pub new-requires : goal.new-requires
new-requires c =
    let admitted = c.checked_trees.ensures c.args.raw.now c.requires.spelled c.requires.few c.in_ok-globals.ensures.problem in
    parts_keep c.args.raw.now c.in_ok-globals.field-0.globals c.in_ok-globals.field-0.functions admitted.well_formed c.in_ok-globals.ensures.globals c.in_ok-globals.ensures.functions

pub returns-clause-limits : goal.returns-clause-limits
returns-clause-limits c =
    let admitted = c.checked_trees.ensures c.args.raw.now c.requires.spelled c.requires.few c.in_ok-globals.ensures.problem in
    limits_kept c.args.raw.now c.in_ok-globals.field-0.globals c.in_ok-globals.field-0.functions c.new.result admitted.limits c.in_ok-globals.ensures.functions c.new.ensures
