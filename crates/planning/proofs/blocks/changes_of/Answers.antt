use Rattle.planning.proofs.Blocked.{start_inside, block_inside, room}
use Rattle.planning.proofs.blocks.changes_of.Goals as goal

pub start_at-requires : goal.start_at-requires
start_at-requires c = start_inside _ _ c.args.moved.now c.requires.defined c.requires.rules c.requires.points c.requires.edges c.requires.actions c.args.number (c.requires.told.0 c.if-reached.true)

pub block_at-requires : goal.block_at-requires
block_at-requires c = block_inside _ _ c.args.moved.now c.requires.defined c.requires.rules c.requires.points c.requires.edges c.requires.actions c.args.number (c.requires.told.0 c.if-reached.true)

pub changes_from-requires : goal.changes_from-requires
changes_from-requires c = room _ _ c.args.moved.now c.requires.defined c.requires.rules c.requires.points c.requires.edges c.requires.actions c.args.number (c.requires.told.0 c.if-reached.true) _ _ c.start_at.ensures c.block_at.ensures
