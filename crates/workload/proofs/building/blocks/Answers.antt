use Rattle.std.proofs.Common.{ap, ◌∙◌, length, arith}
use Rattle.std.proofs.lemmas.List.FromFn.{length-map-range_with_len}
use Rattle.workload.specs.Names.{round_names}
use Rattle.workload.proofs.Ranges.{map_range_at}
use Rattle.workload.proofs.building.blocks.Goals as goal

pub bounds-names-round : goal.bounds-names-round
bounds-names-round c = omega (arith, ap length c.requires.names ∙ length-map-range_with_len round_names 0 c.args.n)

pub push_round-requires-clause-names : goal.push_round-requires-clause-names
push_round-requires-clause-names c =
    map_range_at round_names c.args.names.now c.args.n c.loop-round.round c.index-names-round.result c.requires.names (omega arith) c.index-names-round.is
