use Rattle.std.proofs.Common.{◌+◌, ◌==◌, cond, ℕ, List, ◌∙◌, ap, arith}
use Rattle.ir_types.specs.declared.syntax.Block.{Block}
use Rattle.std.specs.List.{zip}
use Rattle.flow_graph.specs.Slots.{slots_from}
use Rattle.flow_graph.specs.Paths.{is_marked}
use Rattle.profile.specs.Sums.{entered}
use Rattle.profile.proofs.Balancing.{balance_is}
use Rattle.profile.proofs.sums.balanced.Goals as goal

pub returns : goal.returns
returns c =
    balance_is c.args.function.now c.args.counts.now c.args.reached.now c.add_blocks.new.sums c.first_difference.result c.requires.reached
    (λ b lt.
    c.add_blocks.ensures b (omega (arith, lt, c.requires.sums, c.put_entries.auto.sums))
    ∙ ap (λ n. n + entered (is_marked c.args.reached.now) b (zip (slots_from 0 c.as_slice.result.now) c.as_slice-slots.result.now)) (c.put_entries.ensures b (omega (arith, lt, c.requires.sums)))
    ∙ ap (λ (l : List Block). cond (b == 0) c.args.counts.now.entry 0 + entered (is_marked c.args.reached.now) b (zip (slots_from 0 l) c.as_slice-slots.result.now)) c.as_slice.ensures
    ∙ ap (λ (l : List ℕ). cond (b == 0) c.args.counts.now.entry 0 + entered (is_marked c.args.reached.now) b (zip (slots_from 0 c.args.function.now.blocks) l)) c.as_slice-slots.ensures)
    c.first_difference.ensures
