use Rattle.std.proofs.Common.{◌≡◌, ◌-ℤ◌, ◌≤ℤ◌, pos, neg_ℤ, ◌^◌, arith, ℤ, set, get_or, to_z, of_z}
use mir.Syntax.{w128}
use Rattle.std.proofs.lemmas.Int.{ints}
use Rattle.flow_check.specs.Sums.{sum_at}
use Rattle.flow_check.proofs.Adding.{moved, taken_room}
use Rattle.flow_check.proofs.flow.add_amount.Goals as goal

pub returns : goal.returns
returns c = λ v h.
    let sums = c.args.sums.now in
    let i = c.args.arc.from in
    let j = c.args.arc.to in
    let x = c.args.amount in
    let a : ℤ = to_z w128 (of_z w128 (to_z w128 (of_z w128 (get_or sums i (pos 0))) -ℤ to_z w128 x)) in
    let low : neg_ℤ (pos (2 ^ 120)) ≤ℤ sum_at sums i = (c.requires.room i c.requires.from).0 in
    let high : sum_at sums i ≤ℤ pos (2 ^ 120) = (c.requires.room i c.requires.from).1 in
    let taken : a ≡ sum_at sums i -ℤ pos x = omega (arith, ints) in
    let room = taken_room sums i x a c.requires.from c.requires.amount c.requires.room taken j c.requires.to in
    let low' : neg_ℤ (pos (2 ^ 121)) ≤ℤ sum_at (set sums i a) j = room.0 in
    let high' : sum_at (set sums i a) j ≤ℤ pos (2 ^ 120) = room.1 in
    moved sums i j x a _ c.requires.from c.requires.to taken (omega (arith, ints)) v
