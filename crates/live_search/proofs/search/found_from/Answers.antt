use Rattle.live_search.proofs.Steps.{search_begins, search_ends}
use Rattle.live_search.proofs.search.found_from.Goals as goal

pub follow-requires : goal.follow-requires
follow-requires c = search_begins c.args.graph.now c.args.barred_points.now.keys c.args.barred_arcs.now.keys c.args.goals.now c.in_ok-found.found.keys c.in_ok-found.ensures c.requires

pub returns : goal.returns
returns c = search_ends c.args.graph.now c.args.barred_points.now.keys c.args.barred_arcs.now.keys c.args.goals.now c.follow.new.found.keys c.in_ok-follow.ensures
