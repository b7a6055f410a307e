use Rattle.std.proofs.Common.{◌∙◌, ◌++◌, codes}
use Rattle.std.specs.Fmt.{decimal}
use Rattle.expression_text.specs.ExpressionText.{expr_text}
use Rattle.report.specs.Report.{change_text, lazy_text, places_text}
use Rattle.report.proofs.Parts.{same_whole, step}
use Rattle.report.proofs.lines.put_tally.Goals as goal

pub returns : goal.returns
returns c =
    let t = c.args.tally.now in
    let number = decimal c.args.number in
    let expr = expr_text c.args.program.now c.args.function.now t.expr in
    let change = change_text t.old t.new in
    let places = places_text t in
    let lazy = lazy_text t.lazy in
    let end = codes "\n" in
    same_whole _ _ _ _ c.put-3.ensures.ok
    (step c.put_places.new.text.written c.put_lazy.new.text.written lazy end c.in_ok-put_lazy.ensures
    ∙ step c.put_change.new.text.written c.put_places.new.text.written places (lazy ++ end) c.in_ok-put_places.ensures
    ∙ step c.put-2.new.self.written c.put_change.new.text.written change (places ++ (lazy ++ end)) c.in_ok-put_change.ensures
    ∙ step c.put_expression.new.text.written c.put-2.new.self.written (codes ": ") (change ++ (places ++ (lazy ++ end))) c.in_ok-put-2.ensures.ok
    ∙ step c.put.new.self.written c.put_expression.new.text.written expr (codes ": " ++ (change ++ (places ++ (lazy ++ end)))) c.in_ok-put_expression.ensures
    ∙ step c.put_number.new.self.written c.put.new.self.written (codes " ") (expr ++ (codes ": " ++ (change ++ (places ++ (lazy ++ end))))) c.in_ok-put.ensures.ok
    ∙ step c.args.text.now.written c.put_number.new.self.written number (codes " " ++ (expr ++ (codes ": " ++ (change ++ (places ++ (lazy ++ end)))))) c.in_ok-put_number.ensures.ok)
