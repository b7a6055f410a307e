-- The placement of a good entry of an expression that can't trap is the best one.
use Rattle.std.proofs.Common.{◌<◌, ◌^◌, ℕ, length}
use Rattle.ir_types.specs.declared.syntax.Function.{Function}
use Rattle.profile.specs.Counts.{total}
use Rattle.profile.specs.declared.counts.FnCounts.{FnCounts}
use Rattle.point_graph.specs.Numbers.{ArePoints}
use Rattle.point_graph.specs.declared.graph.Points.{Points}
use Rattle.expressions.specs.Kept.{Kept}
use Rattle.expressions.specs.Tables.{IsTable}
use Rattle.best_choice.specs.Best.{IsBestIn}
use Rattle.function_graphs.specs.Best.{CertifiedIsBest}
use Rattle.function_graphs.specs.Graphs.{EventsExist, IsIn}
use Rattle.certificate.specs.declared.types.Entry.{Entry}
use Rattle.certified.specs.Entries.{IsGood, IsPlain, rank_in}

-- each point is something to an expression, and a certified placement is best
pub record GraphLaws : Type 0 where
  pub events : EventsExist
  pub best : CertifiedIsBest

pub good_is_best : GraphLaws → (f : Function) (p : Points) (t : Kept) (counts : FnCounts) (x : ℕ) (entry : Entry) → 0 < length f.blocks → ArePoints f p → IsTable f p t → x < length t.exprs → total counts < 2 ^ 64
    → IsPlain t x → IsGood f p t counts x entry → IsBestIn f p t x counts entry.placement
good_is_best laws f p t counts x entry defined are table inside small plain good =
    let reached = are.blocks.test in
    let event = laws.events f p t x table inside in
    let there : IsIn f p t x reached event.0 = record { defined = defined; points = are; table = table; blocks = are.blocks.told; events = event.1 } in
    let here = good.certifies plain in
    let shows = here.shows reached event.0 there in
    laws.best f p t x counts reached event.0 here.net shows.flow (rank_in shows.ranks) entry.placement there small (here.network reached event.0 there) good.listed shows.certifies
