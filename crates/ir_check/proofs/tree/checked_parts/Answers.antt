use Rattle.std.proofs.Common.{◌≡◌, None, map, rules, ap, sym, ◌∙◌}
use Rattle.std.proofs.lemmas.Result.{err_from_is_err_and}
use Rattle.ir_types.specs.ModuleOf.{function_of, global_of}
use Rattle.ir_check.specs.declared.tree.Made.{Made}
use Rattle.ir_check.specs.Items.{function_in, global_in, item_in, made_of, next_item}
use Rattle.ir_uses.proofs.Steps.{ended, more_some, passed, stopped}
use Rattle.ir_check.proofs.InOrder.{comes_first, found, items_problem-end, items_problem-step, none_left, not_found, shorter}
use Rattle.ir_check.proofs.tree.checked_parts.Goals as goal

pub checked_part-requires : goal.checked_part-requires
checked_part-requires c =
    let first = comes_first c.args.raw.now c.loop-each.passed (item_in c.in-Some.each) (found c.next.result c.in-Some.each (next_item c.args.raw.now c.loop-each.passed) c.next.ensures c.in-Some.is) in
    record { few = first.few c.requires.few }

pub returns-in_err-checked_part-clause-problem : goal.returns-in_err-checked_part-clause-problem
returns-in_err-checked_part-clause-problem c =
    let first = comes_first c.args.raw.now c.loop-each.passed (item_in c.in-Some.each) (found c.next.result c.in-Some.each (next_item c.args.raw.now c.loop-each.passed) c.next.ensures c.in-Some.is) in
    let p = err_from_is_err_and c.from_residual.result c.from_residual.ensures.1 in
    let step = items_problem-step c.args.raw.now.functions c.args.symbols.now c.loop-each.passed (item_in c.in-Some.each) _ _ first.order in
    rw (p.1, p.2) (stopped _ _ _ _ (rw c.as_slice-functions.ensures at c.in_err-checked_part.ensures.problem) (sym c.loop-each.invariant.problem ∙ step))

pub loop-each-smaller : goal.loop-each-smaller
loop-each-smaller c =
    let first = comes_first c.args.raw.now c.loop-each.passed (item_in c.in-Some.each) (found c.next.result c.in-Some.each (next_item c.args.raw.now c.loop-each.passed) c.next.ensures c.in-Some.is) in
    shorter c.args.raw.now c.loop-each.passed (item_in c.in-Some.each) c.pass.new.self first c.in_ok-pass.ensures

pub loop-each-preserved : goal.loop-each-preserved
loop-each-preserved c =
    let raw = c.args.raw.now in
    let symbols = c.args.symbols.now in
    let x = item_in c.in-Some.each in
    let first = comes_first raw c.loop-each.passed x (found c.next.result c.in-Some.each (next_item raw c.loop-each.passed) c.next.ensures c.in-Some.is) in
    let step = items_problem-step raw.functions symbols c.loop-each.passed x _ _ first.order in
    let made : c.in_ok-checked_part.field-0 ≡ made_of raw.functions symbols x = rw c.as_slice-functions.ensures at c.in_ok-checked_part.ensures.made in
    record {
      problem = rw c.in_ok-pass.ensures (sym (passed _ _ _ (rw c.as_slice-functions.ensures at c.in_ok-checked_part.ensures.problem) (sym c.loop-each.invariant.problem ∙ step)));
      made_globals = rw c.in_ok-pass.ensures (more_some c.loop-each.parts.globals (global_in c.in_ok-checked_part.field-0) (global_in (made_of raw.functions symbols x)) _ _ _ _ c.in_ok-push.ensures.globals (ap (λ (m : Made). global_in m) made) (first.globals symbols) c.loop-each.invariant.made_globals);
      made_functions = rw c.in_ok-pass.ensures (more_some c.loop-each.parts.functions (function_in c.in_ok-checked_part.field-0) (function_in (made_of raw.functions symbols x)) _ _ _ _ c.in_ok-push.ensures.functions (ap (λ (m : Made). function_in m) made) (first.functions symbols) c.loop-each.invariant.made_functions);
      globals = rw c.in_ok-pass.ensures (first.room_globals c.loop-each.invariant.globals);
      functions = rw c.in_ok-pass.ensures (first.room_functions c.loop-each.invariant.functions);
    }

pub returns-clause-problem : goal.returns-clause-problem
returns-clause-problem c =
    let none : c.next.result ≡ None = search rules in
    let left = none_left c.args.raw.now c.loop-each.passed (not_found c.next.result (next_item c.args.raw.now c.loop-each.passed) c.next.ensures none) in
    sym c.loop-each.invariant.problem ∙ items_problem-end c.args.raw.now.functions c.args.symbols.now c.loop-each.passed _ _ left

pub returns-clause-globals : goal.returns-clause-globals
returns-clause-globals c =
    let none : c.next.result ≡ None = search rules in
    let left = none_left c.args.raw.now c.loop-each.passed (not_found c.next.result (next_item c.args.raw.now c.loop-each.passed) c.next.ensures none) in
    ended c.loop-each.parts.globals _ _ (ap (λ gs. map global_of gs) left.0) c.loop-each.invariant.made_globals

pub returns-clause-functions : goal.returns-clause-functions
returns-clause-functions c =
    let none : c.next.result ≡ None = search rules in
    let left = none_left c.args.raw.now c.loop-each.passed (not_found c.next.result (next_item c.args.raw.now c.loop-each.passed) c.next.ensures none) in
    ended c.loop-each.parts.functions _ _ (ap (λ fs. map (function_of c.args.raw.now.functions c.args.symbols.now) fs) left.1) c.loop-each.invariant.made_functions
