use Rattle.std.proofs.Common.{◌≡◌, ◌+◌, length, ap, sym, ◌∙◌, arith}
use Rattle.expressions.specs.Walking.{place_expr, seen_of}
use Rattle.expressions.proofs.WalkSteps.{adds_end, adds_more, length_one, on_ok_by}
use Rattle.expressions.proofs.walk.Found.pass_block.Goals as goal

pub loop-k-preserved : goal.loop-k-preserved
loop-k-preserved c =
    let here = c.loop-k.invariant in
    let block = c.args.block.now in
    record {
      adds = adds_more (place_expr c.args.module.now block) c.loop-k.k (seen_of c.args.self.now) (seen_of c.loop-k.self) (seen_of c.pass_instr.new.self) here.adds c.in_ok-pass_instr.ensures.adds;
      tracks = c.in_ok-pass_instr.ensures.tracks;
      fit = c.in_ok-pass_instr.ensures.fit;
      point =
          let one = length_one (place_expr c.args.module.now block c.loop-k.k) (seen_of c.loop-k.self) (seen_of c.pass_instr.new.self) c.in_ok-pass_instr.ensures.adds in
          omega (arith, one, here.point);
      first = here.first;
    }

pub returns-clause-adds : goal.returns-clause-adds
returns-clause-adds c =
    let block = c.args.block.now in
    let all : c.loop-k.k ≡ length block.instrs = omega (arith, c.len-k-end.ensures) in
    on_ok_by c.note-2.result _ _ c.note-2.ensures.adds
    (λ adds. adds_end (place_expr c.args.module.now block) c.loop-k.k (length block.instrs) (seen_of c.args.self.now) (seen_of c.loop-k.self) (seen_of c.note-2.new.self) all c.loop-k.invariant.adds adds)
