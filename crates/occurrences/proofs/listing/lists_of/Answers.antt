use Rattle.std.proofs.Common.{None}
use Rattle.occurrences.proofs.Growing.{nothing_listed, point_passed}
use Rattle.occurrences.proofs.listing.lists_of.Goals as goal

pub loop-point-init : goal.loop-point-init
loop-point-init c = rw c.in_ok-lists.ensures (nothing_listed c.args.count)

pub loop-point-preserved : goal.loop-point-preserved
loop-point-preserved c =
    point_passed c.args.count c.args.occurring.now c.loop-point.point None c.loop-point.lists.items c.add_place.new.lists.items c.loop-point-test.true c.loop-point.invariant
    c.in_ok-add_place.ensures
