use Rattle.std.proofs.Common.{◌≡◌, ◌++◌, ℕ, Some, length, map, List, ap, sym, ◌∙◌, subst, arith}
use Rattle.std.specs.Prelude.{slice_get, slice_index}
use Rattle.std.specs.List.{range_with_len}
use Rattle.std.proofs.lemmas.Option.{slice_get_read}
use Rattle.std.proofs.lemmas.List.FromFn.{length-map-range_with_len}
use Rattle.ir_types.specs.declared.syntax.Instr.{Instr}
use Rattle.changes.specs.Changed.{acted}
use Rattle.block_text.specs.ByChanges.{AreBelow, before, number}
use Rattle.block_text.proofs.Registers.{Adds, made_more, made_all}
use Rattle.block_text.proofs.text.block_text.Goals as goal

pub acted-requires-clause-below : goal.acted-requires-clause-below
acted-requires-clause-below c =
    let k = c.loop-place.place in
    let instr = c.instr-item.result in
    let there : slice_get c.args.block.now.instrs k ≡ Some instr =
    subst (λ (l : List Instr). slice_get l k ≡ Some instr) c.as_slice-instr-items.ensures (slice_get_read c.as_slice-instr-items.result.now (length c.as_slice-instr-items.result.now) k instr (omega arith) (omega arith) c.instr-item.is) in
    let same : length c.as_slice.result.now ≡ k =
    ap length (c.as_slice.ensures.value ∙ c.loop-place.invariant.numbered) ∙ length-map-range_with_len (number c.args.source.now c.args.number c.args.block.now) 0 k in
    subst (λ (n : ℕ). AreBelow n instr.kind) (sym same) (c.requires k instr there)

pub loop-place-preserved : goal.loop-place-preserved
loop-place-preserved c =
    let k = c.loop-place.place in
    let instr = c.instr-item.result in
    let there : slice_get c.args.block.now.instrs k ≡ Some instr =
    subst (λ (l : List Instr). slice_get l k ≡ Some instr) c.as_slice-instr-items.ensures (slice_get_read c.as_slice-instr-items.result.now (length c.as_slice-instr-items.result.now) k instr (omega arith) (omega arith) c.instr-item.is) in
    let adds : Adds c.args.source.now c.args.number c.args.block.now k instr c.loop-place.instrs.items c.push_store.new.instrs.items c.loop-place.numbers.items c.push-in-loop-place.new.self.items = record {
      here = there;
      below = c.requires k instr there;
      action = c.action-action.result;
      is_action = c.action-action.ensures;
      led = c.push_before.new.instrs.items;
      leads = c.in_ok-push_before.ensures;
      register = c.in_ok-register.register;
      is_register = c.in_ok-register.ensures.number ∙ c.len.ensures ∙ c.push_before.new.instrs.ok.0;
      new = c.in_ok-acted.field-0;
      acts = c.in_ok-acted.ensures ∙ ap (λ (l : List ℕ). acted c.action-action.result c.args.source.now.vars (slice_index l) instr) c.as_slice.ensures.value;
      copied = c.push.new.self.items;
      copies_it = c.in_ok-push.ensures.items;
      stores_it = c.in_ok-push_store.ensures;
      numbers_it = c.in_ok-push-2.ensures.items;
    } in
    made_more c.args.source.now c.args.number c.args.block.now k instr _ _ _ _ c.loop-place.invariant adds

pub returns : goal.returns
returns c =
    let g = c.args.source.now in
    let b = c.args.number in
    let block = c.args.block.now in
    let instrs = c.loop-place.instrs.items in
    let last : c.loop-place.place ≡ length block.instrs = omega (arith, ap length c.as_slice-instr-items.ensures) in
    let ends : c.len-2.result ≡ length block.instrs = c.len-2.ensures in
    let leads : c.push_before-2.new.instrs.items ≡ instrs ++ before g b block (length block.instrs) (length instrs) =
    c.in_ok-push_before-2.ensures ∙ ap (λ (n : ℕ). instrs ++ before g b block n (length instrs)) ends in
    record {
      instrs = c.from.ensures ∙ made_all g b block c.loop-place.place instrs c.push_before-2.new.instrs.items c.loop-place.numbers.items last c.loop-place.invariant leads;
      numbers = c.from-2.ensures ∙ c.loop-place.invariant.numbered ∙ ap (λ (n : ℕ). map (number g b block) (range_with_len 0 n)) last;
    }
