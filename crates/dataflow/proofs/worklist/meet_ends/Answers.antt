use Rattle.std.proofs.Common.{◌<◌, length, get_or, arith}
use Rattle.dataflow.proofs.Meeting.{MetEnds-start, MetEnds-met, noted_or_same, noted_all, noted_falls}
use Rattle.dataflow.proofs.worklist.meet_ends.Goals as goal

pub loop-end-init : goal.loop-end-init
loop-end-init g c = record { pass = λ d. MetEnds-start g.met.V.Meet.laws d _ _ _ _; pending = c.requires.pending; falls = omega arith }

pub meet_end-requires-clause-alike : goal.meet_end-requires-clause-alike
meet_end-requires-clause-alike g c d =
    let w = c.requires.within c.loop-end.end-index 0 c.loop-end-test.true in
    g.met.V.Meet.laws.on _ _ _ ((c.loop-end.invariant.pass d).alike _ w) (c.requires.alike d _ w)

pub loop-end-preserved : goal.loop-end-preserved
loop-end-preserved g c =
    let end = get_or c.args.ends.now c.loop-end.end-index 0 in
    let w = c.requires.within c.loop-end.end-index 0 c.loop-end-test.true in
    let s = c.loop-end.invariant in
    let notes = c.in_ok-meet_end.ensures.noted in
    record {
      pass = λ d. MetEnds-met g.met.V.Meet.laws d c.args.ends.now c.args.entry.now c.args.exit.now c.args.pending.now.items (λ k h. c.requires.within k 0 h) (c.requires.alike d)
          c.loop-end.entry c.loop-end.pending.items c.loop-end.end-index c.loop-end-test.true (s.pass d)
          c.meet_end.new.entry c.meet_end.new.pending.items (c.in_ok-meet_end.ensures.met d)
          (noted_or_same g.V.Meet.height_of c.loop-end.entry c.meet_end.new.entry c.loop-end.pending.items c.meet_end.new.pending.items end notes);
      pending = noted_all g.V.Meet.height_of c.loop-end.entry c.meet_end.new.entry c.loop-end.pending.items c.meet_end.new.pending.items end notes
          (λ n. n < length c.args.entry.now) s.pending w;
      falls =
          let f = noted_falls g.V.Meet.height_of c.loop-end.entry c.meet_end.new.entry c.loop-end.pending.items c.meet_end.new.pending.items end notes in
          omega (arith, f, s.falls, c.meet_end.new.pending.ok.0, c.loop-end.pending.ok.0);
    }

pub returns-clause-met : goal.returns-clause-met
returns-clause-met g c d = let s = c.loop-end.invariant.pass d in record {
  len = s.len;
  alike = s.alike;
  below = s.below;
  met_exit = λ k h. s.met_exit k (omega arith);
  grows = s.grows;
  kept = s.kept;
  above = s.above;
}
