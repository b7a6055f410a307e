use Rattle.std.specs.Prelude.{MatchOption}
use Rattle.std.proofs.lemmas.Result.{IfOk-weaker}
use Rattle.expressions.specs.Tables.{IsEventOf}
use Rattle.placement.specs.Placements.{arcs_of, IsCorrect, IsFirstInvalid}
use Rattle.placement.proofs.GraphLemmas.{has_marks, first_of}
use Rattle.placement.proofs.PathLemmas.{FirstByMarks}
use Rattle.placement.proofs.checking.first_invalid.Goals as goal

pub first_marked-requires : goal.first_marked-requires
first_marked-requires c =
    has_marks c.args.function.now c.args.points.now c.args.table.now c.args.e c.args.placement.now c.in_ok-events.events.items c.in_ok-marked.marked c.requires.points c.in_ok-events.ensures
    (rw c.as_slice.ensures at c.in_ok-marked.ensures)

pub returns : goal.returns
returns c =
    let p = c.args.points.now in
    IfOk-weaker c.first_marked.result
    (λ first. FirstByMarks c.in_ok-marked.marked first)
    (λ first. MatchOption first (IsCorrect (arcs_of c.args.points.now.edges) (IsEventOf c.args.function.now c.args.points.now c.args.table.now c.args.e) c.args.placement.now) (IsFirstInvalid (arcs_of c.args.points.now.edges) (IsEventOf c.args.function.now c.args.points.now c.args.table.now c.args.e) c.args.placement.now))
    (λ first h. first_of c.args.function.now c.args.points.now c.args.table.now c.args.e c.args.placement.now c.in_ok-events.events.items c.in_ok-marked.marked c.requires.points c.in_ok-events.ensures (rw c.as_slice.ensures at c.in_ok-marked.ensures) first h)
    c.first_marked.ensures
