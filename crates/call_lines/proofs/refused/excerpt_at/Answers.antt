use Rattle.call_lines.proofs.Excerpts.{excerpt_is}
use Rattle.call_lines.proofs.refused.excerpt_at.Goals as goal

pub returns : goal.returns
returns c = excerpt_is c.args.source.now c.args.span.start c.args.span.end c.min-end.result c.min-start.result c.min-end.ensures c.min-start.ensures c.min.result c.min.ensures
