use Rattle.std.proofs.Common.{◌≡◌, ◌++◌, List, length, arith, sym, ◌∙◌, subst}
use Rattle.std.specs.Prelude.{OnOk}
use Rattle.std.proofs.lemmas.List.{append-nil}
use Rattle.ir_types.specs.declared.syntax.Instr.{Instr}
use Rattle.point_graph.specs.Graph.{Edge, Slot}
use Rattle.block_text.specs.ByChanges.{along, edge_groups}
use Rattle.block_text.proofs.Steps.{along_none, leaving_before, leaving_many, leaving_one}
use Rattle.block_text.proofs.text.push_leaving.Goals as goal
use Rattle.block_text.proofs.text.push_leaving.Goals.{else-place-len-via-then-place-len+else-is_single, else-place-len-via-else-place-len}

pub returns-then-is_single : goal.returns-then-is_single
returns-then-is_single c =
    let g = c.args.source.now in
    let old = c.args.instrs.now.items in
    let new = c.push_slot.new.instrs.items in
    let one = leaving_one c.args.number c.args.place c.args.block.now (omega (arith, c.if-place-len.true, c.len.ensures)) (sym c.is_single.ensures ∙ c.if-is_single.true) in
    subst (λ (es : List Edge). OnOk c.push_slot.result (new ≡ old ++ along g (length old) es)) (sym one)
    (subst (λ (l : List Instr). OnOk c.push_slot.result (new ≡ old ++ l)) (sym (append-nil (edge_groups g (length old) (Slot c.args.number 0)))) c.push_slot.ensures)

pub returns-else-place-len : goal.returns-else-place-len
returns-else-place-len c =
    elim c.else-place-len.branch [
      | else-place-len-via-then-place-len+else-is_single w ↦
          along_none c.args.source.now c.args.instrs.now.items _ (leaving_many c.args.number c.args.place c.args.block.now (sym w.is_single.ensures ∙ w.if-is_single.false))
      | else-place-len-via-else-place-len w ↦
          along_none c.args.source.now c.args.instrs.now.items _ (leaving_before c.args.number c.args.place c.args.block.now (omega (arith, w.if-place-len.false, c.len.ensures, c.requires)))
    ]
