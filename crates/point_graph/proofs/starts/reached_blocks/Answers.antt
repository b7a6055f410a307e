use Rattle.std.proofs.Common.{◌++◌, ◌∷◌, [], ap, sym, ◌∙◌}
use Rattle.flow_graph.specs.Paths.{is_marked}
use Rattle.point_graph.proofs.Ranges.{filter-range_yes, filter-range_no}
use Rattle.point_graph.proofs.starts.reached_blocks.Goals as goal
use Rattle.point_graph.proofs.starts.reached_blocks.Goals.{then-reached-block+in_ok-push, else-reached-block}

pub loop-block-preserved : goal.loop-block-preserved
loop-block-preserved c =
    let test = is_marked c.args.reached.now in
    let block = c.loop-block.block in
    elim c.if-reached-block.branch [
      | then-reached-block+in_ok-push w ↦
          ap (λ v. v.items) w.blocks-is ∙ w.in_ok-push.ensures.items ∙ ap (λ l. l ++ block ∷ []) c.loop-block.invariant ∙ sym (filter-range_yes test block w.if-reached-block.true)
      | else-reached-block w ↦ ap (λ v. v.items) w.blocks-is ∙ c.loop-block.invariant ∙ sym (filter-range_no test block w.if-reached-block.false)
    ]
