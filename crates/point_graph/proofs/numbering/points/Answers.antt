use Rattle.std.proofs.Common.{◌≡◌, List, Bool, length, ap, sym, ◌∙◌}
use Rattle.std.proofs.lemmas.List.FromFn.{length-map-range_with_len}
use Rattle.flow_graph.specs.Paths.{is_marked}
use Rattle.point_graph.specs.Numbers.{all_points}
use Rattle.point_graph.specs.Building.{all_numbered, blocks_before, starts_of}
use Rattle.point_graph.proofs.Numbered.{blocks_within, points_are}
use Rattle.point_graph.proofs.numbering.points.Goals as goal

pub list_points-requires-clause-within : goal.list_points-requires-clause-within
list_points-requires-clause-within c =
    let f = c.args.function.now in
    let test = is_marked c.in_ok-reached.reached.items in
    let listed : c.in_ok-blocks.blocks.items ≡ blocks_before test (length f.blocks) =
    c.in_ok-blocks.ensures ∙ ap (λ (l : List Bool). blocks_before (is_marked l) (length l)) c.as_slice-2.ensures.value ∙ ap (blocks_before test) c.in_ok-reached.ensures.len in
    blocks_within f test c.in_ok-reached.ensures.reached c.requires.rules c.requires.limits _ (c.as_slice-3.ensures.value ∙ listed)

pub list_edges-requires-clause-within : goal.list_edges-requires-clause-within
list_edges-requires-clause-within c =
    let f = c.args.function.now in
    let test = is_marked c.in_ok-reached.reached.items in
    let listed : c.in_ok-blocks.blocks.items ≡ blocks_before test (length f.blocks) =
    c.in_ok-blocks.ensures ∙ ap (λ (l : List Bool). blocks_before (is_marked l) (length l)) c.as_slice-2.ensures.value ∙ ap (blocks_before test) c.in_ok-reached.ensures.len in
    blocks_within f test c.in_ok-reached.ensures.reached c.requires.rules c.requires.limits _ (c.as_slice-4.ensures.value ∙ listed)

pub list_edges-requires-clause-starts : goal.list_edges-requires-clause-starts
list_edges-requires-clause-starts c =
    ap length (c.as_slice-5.ensures.value ∙ c.in_ok-starts.ensures.starts) ∙ length-map-range_with_len _ 0 (length c.args.function.now.blocks)

pub returns : goal.returns
returns c =
    let f = c.args.function.now in
    let test = is_marked c.in_ok-reached.reached.items in
    let listed : c.in_ok-blocks.blocks.items ≡ blocks_before test (length f.blocks) =
    c.in_ok-blocks.ensures ∙ ap (λ (l : List Bool). blocks_before (is_marked l) (length l)) c.as_slice-2.ensures.value ∙ ap (blocks_before test) c.in_ok-reached.ensures.len in
    let started : c.in_ok-starts.starts.items ≡ starts_of f test (length f.blocks) =
    c.in_ok-starts.ensures.starts ∙ ap (λ (l : List Bool). starts_of f (is_marked l) (length f.blocks)) c.as_slice.ensures.value in
    let points : c.from-2.result ≡ all_points f c.from.result =
    c.from-2.ensures ∙ c.in_ok-points.ensures ∙ ap (all_points f) (c.as_slice-3.ensures.value ∙ sym c.from.ensures) in
    let edges : c.from-3.result ≡ all_numbered f c.from-4.result c.from.result =
    c.from-3.ensures ∙ c.in_ok-edges.ensures
    ∙ ap (λ l. all_numbered f l c.as_slice-4.result.now) (c.as_slice-5.ensures.value ∙ sym c.from-4.ensures)
    ∙ ap (all_numbered f c.from-4.result) (c.as_slice-4.ensures.value ∙ sym c.from.ensures) in
    points_are f test c.in_ok-reached.ensures.reached c.requires.rules c.requires.limits c.requires.defined c.from.result c.from-4.result c.from-2.result c.from-3.result
    (c.from.ensures ∙ listed) (c.from-4.ensures ∙ started) points edges
