use Rattle.std.proofs.Common.{◌≡◌, ◌≤◌, length, slice_get, arith, Some, refl, sym}
use Rattle.std.proofs.lemmas.Option.{slice_get_read}
use Rattle.flow_net.specs.Network.{loads}
use Rattle.flow_net.proofs.Loads.{load_read, loads_len}
use Rattle.flow_net.proofs.residual.Goals as goal

pub overflow_sub-result : goal.overflow_sub-result
overflow_sub-result c =
    omega (arith, load_read c.args.net.now c.args.flow.now c.args.arc c.index.result.now c.index-amount.result.now c.requires.within c.requires.arc c.index.ensures c.index-amount.ensures)

pub returns : goal.returns
returns c =
    let read = load_read c.args.net.now c.args.flow.now c.args.arc c.index.result.now c.index-amount.result.now c.requires.within c.requires.arc c.index.ensures c.index-amount.ensures in
    let fits : c.index-amount.result.now ≤ c.index.result.now.cap = read.1 in
    let at : slice_get (loads c.args.net.now c.args.flow.now) c.args.arc ≡ Some (c.index.result.now, c.index-amount.result.now) = slice_get_read (loads c.args.net.now c.args.flow.now) (length c.args.net.now.arcs.items) c.args.arc (c.index.result.now, c.index-amount.result.now) (sym (loads_len c.args.net.now c.args.flow.now c.requires.within)) c.requires.arc read.0 in
    rw at (omega arith, refl)
