use Rattle.std.proofs.Common.{arith}
use Rattle.interp.proofs.Adding.{place_within, counts_within, entered}
use Rattle.interp.proofs.tally.Tally.enter.Goals as goal

pub index-requires : goal.index-requires
index-requires c =
    let r = c.requires in
    omega (arith, place_within r.program r.main r.events c.args.self.now r.is c.args.function r.known.function r.known.there, c.args.self.now.places.ok.0)

pub index_mut-counts-requires : goal.index_mut-counts-requires
index_mut-counts-requires c =
    let r = c.requires in
    omega (arith, counts_within r.program r.main r.events c.args.self.now r.is c.args.function r.known.function r.known.there r.known.defined c.index.result.now c.index.ensures, c.args.self.now.counts.ok.0)

pub returns : goal.returns
returns c = λ m main events is has few. record {
  counts = entered m main events c.args.self.now c.args.function c.raised-counts.result c.index.result.now c.index_mut-counts.result.now is has few c.index.ensures c.index_mut-counts.ensures.value c.raised-counts.ensures;
  places = is.places;
}
