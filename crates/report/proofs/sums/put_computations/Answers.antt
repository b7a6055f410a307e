use Rattle.std.proofs.Common.{◌∙◌, ◌++◌, codes}
use Rattle.report.specs.Report.{change_text}
use Rattle.report.proofs.Parts.{same_whole, step}
use Rattle.report.proofs.sums.put_computations.Goals as goal

pub returns : goal.returns
returns c =
    let change = change_text c.args.totals.old c.args.totals.new in
    same_whole _ _ _ _ c.put-2.ensures.ok
    (step c.put.new.self.written c.put_change.new.text.written change (codes "\n") c.in_ok-put_change.ensures
    ∙ step c.args.text.now.written c.put.new.self.written (codes "computations ") (change ++ codes "\n") c.in_ok-put.ensures.ok)
