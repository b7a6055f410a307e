use Rattle.std.proofs.Common.{◌∷◌, ◌++◌, [], ap, ◌∙◌}
use Rattle.planning.proofs.Lists.{ChangesListed-more}
use Rattle.planning.proofs.moves.insert_temp.Goals as goal

pub loop-edge-preserved : goal.loop-edge-preserved
loop-edge-preserved c =
    ChangesListed-more c.args.inserted.now (λ n list. list ++ c.args.temp ∷ []) [] c.args.edges.now.items c.loop-edge.edges.items c.loop-edge.edge-index _ c.index_mut.result.now
    c.requires.differ c.loop-edge-test.true (c.requires.within c.loop-edge.edge-index 0 c.loop-edge-test.true) c.loop-edge.invariant
    (c.in_ok-push.ensures.ok ∙ ap (λ l. l ++ c.args.temp ∷ []) c.index_mut.ensures.value)
