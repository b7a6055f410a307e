use Rattle.std.proofs.Common.{◌≡◌, ◌+◌, ◌<◌, ◌++◌, ◌∷◌, [], length, Some, ap, sym, ◌∙◌, subst, arith}
use Rattle.std.specs.Prelude.{slice_get}
use Rattle.std.proofs.lemmas.List.Elements.{All-push, All-same}
use Rattle.std.proofs.lemmas.Option.{slice_get_read}
use Rattle.flow_graph.specs.Paths.{is_marked}
use Rattle.point_graph.specs.Building.{IsSmall, start_of}
use Rattle.point_graph.proofs.Ranges.{map-range_more}
use Rattle.point_graph.proofs.BlockStarts.{start_of-yes, start_of-no, start-room, start-same, point-small}
use Rattle.point_graph.proofs.starts.block_starts.Goals as goal
use Rattle.point_graph.proofs.starts.block_starts.Goals.{then-reached-index, else-reached-index}

pub start_behind-next-requires-clause-points : goal.start_behind-next-requires-clause-points
start_behind-next-requires-clause-points c =
    let f = c.args.function.now in
    let there : slice_get f.blocks c.loop-index.index ≡ Some c.block-item.result =
    subst (λ bs. slice_get bs c.loop-index.index ≡ Some c.block-item.result) c.as_slice-block-items.ensures (slice_get_read c.as_slice-block-items.result.now (length c.as_slice-block-items.result.now) c.loop-index.index c.block-item.result (omega arith) (omega arith) c.block-item.is) in
    let next : c.loop-index.next.point ≡ (start_of f (is_marked c.args.reached.now) c.loop-index.index).point = ap (λ s. s.point) c.loop-index.invariant.next in
    omega (arith, next, (start-room f c.requires.limits (is_marked c.args.reached.now) c.loop-index.index c.block-item.result there c.if-reached-index.true).0)

pub start_behind-next-requires-clause-edges : goal.start_behind-next-requires-clause-edges
start_behind-next-requires-clause-edges c =
    let f = c.args.function.now in
    let there : slice_get f.blocks c.loop-index.index ≡ Some c.block-item.result =
    subst (λ bs. slice_get bs c.loop-index.index ≡ Some c.block-item.result) c.as_slice-block-items.ensures (slice_get_read c.as_slice-block-items.result.now (length c.as_slice-block-items.result.now) c.loop-index.index c.block-item.result (omega arith) (omega arith) c.block-item.is) in
    let next : c.loop-index.next.edge ≡ (start_of f (is_marked c.args.reached.now) c.loop-index.index).edge = ap (λ s. s.edge) c.loop-index.invariant.next in
    omega (arith, next, (start-room f c.requires.limits (is_marked c.args.reached.now) c.loop-index.index c.block-item.result there c.if-reached-index.true).1)

pub loop-index-preserved : goal.loop-index-preserved
loop-index-preserved c =
    let f = c.args.function.now in
    let test = is_marked c.args.reached.now in
    let index = c.loop-index.index in
    let there : slice_get f.blocks index ≡ Some c.block-item.result =
    subst (λ bs. slice_get bs index ≡ Some c.block-item.result) c.as_slice-block-items.ensures (slice_get_read c.as_slice-block-items.result.now (length c.as_slice-block-items.result.now) index c.block-item.result (omega arith) (omega arith) c.block-item.is) in
    let in_blocks : index < length f.blocks = omega (arith, ap length c.as_slice-block-items.ensures) in
    let here = c.loop-index.invariant in
    record {
      starts =
          c.in_ok-push.ensures.items
          ∙ ap (λ s. c.loop-index.starts.items ++ s ∷ []) here.next
          ∙ ap (λ l. l ++ start_of f test index ∷ []) here.starts
          ∙ sym (map-range_more (start_of f test) index);
      next = elim c.if-reached-index.branch [
        | then-reached-index w ↦
            let step = start_of-yes f test index c.block-item.result there w.if-reached-index.true in
            let point : c.loop-index.next.point ≡ (start_of f test index).point = ap (λ s. s.point) here.next in
            let edge : c.loop-index.next.edge ≡ (start_of f test index).edge = ap (λ s. s.edge) here.next in
            w.next-is ∙ start-same w.start_behind-next.result (start_of f test (index + 1))
            (omega (arith, step.0, point, w.start_behind-next.ensures.point))
            (omega (arith, step.1, edge, w.start_behind-next.ensures.edge))
        | else-reached-index w ↦ w.next-is ∙ here.next ∙ sym (start_of-no f test index w.if-reached-index.false)
      ];
      small = All-same IsSmall _ _ c.in_ok-push.ensures.items (All-push IsSmall c.loop-index.starts.items c.loop-index.next here.small
          (let small = point-small f c.requires.limits test index (omega arith) in
          let next : c.loop-index.next.point ≡ (start_of f test index).point = ap (λ s. s.point) here.next in
          omega (arith, small, next)));
    }
