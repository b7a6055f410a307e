use Rattle.std.proofs.Common.{◌∙◌, sym, ap, refl, length, get_or, arith, List}
use Rattle.std.specs.Prelude.{slice_get}
use Rattle.std.proofs.lemmas.List.{nil_from_length}
use Rattle.std.proofs.lemmas.Option.{slice_get-get_or}
use Rattle.ir_types.specs.declared.syntax.Block.{Block}
use Rattle.flow_graph.proofs.SearchSteps.{Searching-step, Searching-end, popped_inside}
use Rattle.flow_graph.proofs.reaching.Search.visit_all.Goals as goal

pub bounds-blocks-block : goal.bounds-blocks-block
bounds-blocks-block c = omega (arith, ap length c.as_slice-blocks.ensures, popped_inside c.args.function.now c.loop-block.self c.pop.new.self.items c.in-Some.block c.in-Some.ensures.items c.loop-block.invariant)

pub loop-block-preserved : goal.loop-block-preserved
loop-block-preserved c =
    let blocks = c.as_slice-blocks.result.now in
    let block = get_or c.as_slice-blocks.result.now c.in-Some.block c.index-blocks-block.result in
    let inside = popped_inside c.args.function.now c.loop-block.self c.pop.new.self.items c.in-Some.block c.in-Some.ensures.items c.loop-block.invariant in
    Searching-step c.args.function.now c.in-Some.block block c.loop-block.self (record { marks = c.loop-block.self.marks; pending = c.pop.new.self }) c.reach_slots.new.self refl c.in-Some.ensures.items
    (ap (λ (l : List Block). slice_get l c.in-Some.block) (sym c.as_slice-blocks.ensures) ∙ slice_get-get_or c.as_slice-blocks.result.now c.in-Some.block c.index-blocks-block.result (omega (arith, ap length c.as_slice-blocks.ensures, inside)))
    c.in_ok-reach_slots.ensures c.loop-block.invariant

pub returns-clause-reached : goal.returns-clause-reached
returns-clause-reached c =
    Searching-end c.args.function.now c.loop-block.self (nil_from_length c.loop-block.self.pending.items (omega (arith, c.in_default.ensures.cases.0, c.loop-block.self.pending.ok.0))) c.loop-block.invariant
