use Rattle.std.proofs.Common.{◌∙◌, sym}
use Rattle.std.proofs.lemmas.Bool.{false≢true}
use Rattle.std.proofs.lemmas.List.Elements.{Contains-get_or}
use Rattle.flow_paths.specs.Paths.{target}
use Rattle.flow_paths.specs.Spreads.{IsSet}
use Rattle.placement.specs.Placements.{arcs_of}
use Rattle.entry_check.proofs.Listing.{below_first}
use Rattle.entry_check.proofs.trapping.first_unset.Goals as goal

pub returns-then-not-is_end_set : goal.returns-then-not-is_end_set
returns-then-not-is_end_set c =
    let numbers = c.args.numbers.now in
    let index = c.loop-number.number-index in
    record {
      listed = Contains-get_or numbers index 0 c.loop-number-test.true;
      unset = λ set. false≢true (sym c.if-not-is_end_set.true ∙ c.is_end_set.ensures.1 set);
      first = below_first (λ d. IsSet c.args.bits.now (target (arcs_of c.args.edges.now) d)) numbers c.requires.ascending index c.loop-number.invariant;
    }
