use Rattle.std.proofs.Common.{◌≡◌, ◌+◌, ◌<◌, length, get_or, take, Some, ap, sym, ◌∙◌, subst, arith}
use Rattle.std.specs.Prelude.{slice_get}
use Rattle.std.proofs.lemmas.Option.{slice_get-get_or}
use Rattle.expressions.specs.Tracking.{IsUpTo, Passed, Tracks}
use Rattle.expressions.specs.Walking.{AddsOne, place_expr, seen_of}
use Rattle.expressions.proofs.Sound.{found_sound}
use Rattle.expressions.proofs.Tracks.{tracks_more}
use Rattle.expressions.proofs.WalkSteps.{on_ok, on_ok_both, place_found}
use Rattle.expressions.proofs.walk.Found.pass_instr.Goals as goal

pub note-requires-clause-sound : goal.note-requires-clause-sound
note-requires-clause-sound c =
    let instrs = c.args.block.now.instrs in
    let i = get_or c.as_slice-instrs.result.now c.args.k c.index-instrs-k.result in
    let lt : c.args.k < length c.as_slice-instrs.result.now = omega (arith, ap length c.as_slice-instrs.ensures, c.requires.there) in
    let there : slice_get instrs c.args.k ≡ Some i =
    subst (λ l. slice_get l c.args.k ≡ Some i) c.as_slice-instrs.ensures (slice_get-get_or c.as_slice-instrs.result.now c.args.k c.index-instrs-k.result lt) in
    found_sound instrs c.requires.sound c.args.k i there c.args.self.now.changes c.args.first c.front.result.now c.in_ok-expr.expr c.in_ok-expr.ensures

pub returns-clause-adds : goal.returns-clause-adds
returns-clause-adds c =
    let instrs = c.args.block.now.instrs in
    let i = get_or c.as_slice-instrs.result.now c.args.k c.index-instrs-k.result in
    let lt : c.args.k < length c.as_slice-instrs.result.now = omega (arith, ap length c.as_slice-instrs.ensures, c.requires.there) in
    let there : slice_get instrs c.args.k ≡ Some i =
    subst (λ l. slice_get l c.args.k ≡ Some i) c.as_slice-instrs.ensures (slice_get-get_or c.as_slice-instrs.result.now c.args.k c.index-instrs-k.result lt) in
    let here = place_found c.args.module.now c.args.block.now c.args.k i c.args.first c.args.self.now.changes c.front.result.now c.in_ok-expr.expr there
    (c.front.ensures ∙ ap (take c.args.k) c.as_slice-instrs.ensures) c.requires.tracks c.in_ok-expr.ensures in
    on_ok c.pass.result _ (subst (λ e. AddsOne e (seen_of c.args.self.now) (seen_of c.note.new.self)) here c.in_ok-note.ensures.adds)

pub returns-clause-tracks : goal.returns-clause-tracks
returns-clause-tracks c =
    let instrs = c.args.block.now.instrs in
    let i = get_or c.as_slice-instrs.result.now c.args.k c.index-instrs-k.result in
    let lt : c.args.k < length c.as_slice-instrs.result.now = omega (arith, ap length c.as_slice-instrs.ensures, c.requires.there) in
    let there : slice_get instrs c.args.k ≡ Some i =
    subst (λ l. slice_get l c.args.k ≡ Some i) c.as_slice-instrs.ensures (slice_get-get_or c.as_slice-instrs.result.now c.args.k c.index-instrs-k.result lt) in
    let tracks = subst (λ s. Tracks c.args.module.now (take c.args.k instrs) c.args.first s) (sym c.in_ok-note.ensures.changes) c.requires.tracks in
    on_ok_both c.pass.result _ _ _ c.pass.ensures.passed c.pass.ensures.up_to
    (λ passed up. tracks_more c.args.module.now instrs c.args.k i c.args.first c.note.new.self.changes c.pass.new.self there tracks passed up)
