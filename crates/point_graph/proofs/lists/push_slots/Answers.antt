use Rattle.std.proofs.Common.{◌≡◌, ◌++◌, ◌∷◌, [], ap, sym, ◌∙◌}
use Rattle.std.specs.Prelude.{slice_get}
use Rattle.std.specs.Option.{option_map_or}
use Rattle.flow_graph.specs.Slots.{slots_of}
use Rattle.point_graph.specs.Building.{head_of, slot_edge}
use Rattle.point_graph.specs.declared.graph.EdgeKind.TheVariants.{Slot}
use Rattle.point_graph.proofs.Ranges.{put_more}
use Rattle.point_graph.proofs.lists.push_slots.Goals as goal

pub loop-slot-preserved : goal.loop-slot-preserved
loop-slot-preserved c =
    let starts = c.args.starts.now in
    let to : c.head_at.result ≡ option_map_or (head_of starts) (slice_get (slots_of c.args.term.now) c.loop-slot.slot) 0 =
    c.head_at.ensures ∙ sym (ap (λ o. option_map_or (head_of starts) o 0) c.target.ensures) in
    put_more (slot_edge starts c.args.block c.args.from c.args.term.now) c.loop-slot.slot _ c.loop-slot.edges.items _ c.loop-slot.invariant
    (c.in_ok-push.ensures.items ∙ ap (λ t. c.loop-slot.edges.items ++ record { from = c.args.from; to = t; kind = Slot c.args.block c.loop-slot.slot } ∷ []) to)
