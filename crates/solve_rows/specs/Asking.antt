-- What can be asked of `solve`.
use Rattle.std.specs.Prelude.{◌<◌, ◌^◌, length}
use Rattle.point_graph.specs.Numbers.{ArePoints}
use Rattle.expressions.specs.Tables.{IsTable}
use Rattle.profile.specs.Counts.{HasSlots, IsUnreachedZero, total}
use Rattle.solve_rows.specs.declared.question.Question.{Question}

-- an expression of a defined function, with its points, its table and its counts
pub record IsAsked (q : Question) : Type 0 where
  pub defined : 0 < length q.function.now.blocks
  pub points : ArePoints q.function.now q.points.now
  pub told : IsTable q.function.now q.points.now q.table.now
  pub expression : q.e < length q.table.now.exprs
  pub slots : HasSlots q.function.now q.counts.now
  pub unreached : IsUnreachedZero q.function.now q.counts.now
  pub total : total q.counts.now < 2 ^ 62
