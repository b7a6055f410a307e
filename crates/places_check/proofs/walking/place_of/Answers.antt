use Rattle.places_check.proofs.Places.{place_found}
use Rattle.places_check.proofs.walking.place_of.Goals as goal

pub unwrap-requires : goal.unwrap-requires
unwrap-requires c =
    let found = place_found c.args.blocks.now c.args.block c.requires.ascending c.requires.listed c.binary_search.result c.binary_search.ensures.position in
    cc

pub returns : goal.returns
returns c =
    let found = place_found c.args.blocks.now c.args.block c.requires.ascending c.requires.listed c.binary_search.result c.binary_search.ensures.position in
    let given = c.unwrap.ensures in
    cc
