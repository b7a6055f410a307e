use Rattle.std.proofs.Common.{◌≡◌, None, rules, ap, sym, ◌∙◌}
use Rattle.ir_types.specs.Rules.{Passed}
use Rattle.ir_check.specs.Items.{item_in, next_item}
use Rattle.ir_check.proofs.InOrder.{after_items-end, after_items-step, comes_first, found, none_left, not_found, shorter}
use Rattle.ir_check.proofs.tree.symbols_of.Goals as goal

pub loop-part-smaller : goal.loop-part-smaller
loop-part-smaller c =
    let first = comes_first c.args.raw.now c.loop-part.passed (item_in c.in-Some.part) (found c.next.result c.in-Some.part (next_item c.args.raw.now c.loop-part.passed) c.next.ensures c.in-Some.is) in
    shorter c.args.raw.now c.loop-part.passed (item_in c.in-Some.part) c.pass.new.self first c.in_ok-pass.ensures

pub loop-part-preserved : goal.loop-part-preserved
loop-part-preserved c =
    let first = comes_first c.args.raw.now c.loop-part.passed (item_in c.in-Some.part) (found c.next.result c.in-Some.part (next_item c.args.raw.now c.loop-part.passed) c.next.ensures c.in-Some.is) in
    record {
      after = rw c.in_ok-pass.ensures (sym (after_items-step c.loop-part.passed (item_in c.in-Some.part) _ _ first.order) ∙ c.loop-part.invariant.after);
      globals = rw c.in_ok-pass.ensures (first.room_globals c.loop-part.invariant.globals);
      functions = rw c.in_ok-pass.ensures (first.room_functions c.loop-part.invariant.functions);
    }

pub returns : goal.returns
returns c =
    let none : c.next.result ≡ None = search rules in
    let left = none_left c.args.raw.now c.loop-part.passed (not_found c.next.result (next_item c.args.raw.now c.loop-part.passed) c.next.ensures none) in
    c.into_before.ensures ∙ ap (λ (p : Passed). p.before) (sym (after_items-end c.loop-part.passed _ _ left) ∙ c.loop-part.invariant.after)
