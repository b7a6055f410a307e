use Rattle.std.proofs.Common.{◌∙◌, ap, sym}
use Rattle.report.specs.Report.{report_text, summary_text}
use Rattle.report.proofs.laws.one_report.Goals as goal

pub returns-clause-report : goal.returns-clause-report
returns-clause-report c m counts placements one other a b =
    a.is_text ∙ ap (report_text m) (c.one_tallying.ensures m counts placements a.tallies b.tallies a.are_tallies b.are_tallies) ∙ sym b.is_text

pub returns-clause-summary : goal.returns-clause-summary
returns-clause-summary c n m counts placements one other a b =
    a.is_text ∙ ap (summary_text n m) (c.one_tallying.ensures m counts placements a.tallies b.tallies a.are_tallies b.are_tallies) ∙ sym b.is_text
