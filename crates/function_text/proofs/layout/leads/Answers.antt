use Rattle.std.proofs.Common.{◌≡◌, ◌<◌, ◌+◌, suc, length, ◌∙◌, ap, sym, true, false, Some, arith, add-one}
use Rattle.std.specs.Prelude.{slice_index}
use Rattle.flow_graph.specs.Slots.{slots_of}
use Rattle.function_text.specs.ByChanges.{is_split, split_count}
use Rattle.function_text.proofs.Layouts.{count_kept, count_room, count_split, holds_at, lead_kept, lead_split, one_lead}
use Rattle.function_text.proofs.layout.leads.Goals as goal
use Rattle.function_text.proofs.layout.leads.Goals.{then-is_split+in_ok-push, else-is_split+in_ok-push-2}

pub overflow_add-next : goal.overflow_add-next
overflow_add-next c =
    let split : is_split c.args.lists.now c.args.term.now c.loop-slot.slot ≡ true = sym c.is_split.ensures ∙ c.if-is_split.true in
    omega (arith, count_room c.args.lists.now c.args.term.now c.args.first c.loop-slot.slot (length (slots_of c.args.term.now)) split (omega arith))

pub bounds-homes-target : goal.bounds-homes-target
bounds-homes-target c = holds_at (λ t. t < length c.args.homes.now) (slots_of c.args.term.now) c.loop-slot.slot c.target.result c.requires.targets c.target.ensures

pub loop-slot-preserved : goal.loop-slot-preserved
loop-slot-preserved c =
    let lists = c.args.lists.now in
    let term = c.args.term.now in
    let homes = c.args.homes.now in
    let slots = slots_of term in
    let slot = c.loop-slot.slot in
    let lt : slot < length slots = omega arith in
    let next_slot : split_count lists term (slot + 1) ≡ split_count lists term (suc slot) = ap (split_count lists term) (add-one slot) in
    elim c.if-is_split.branch [
      | then-is_split+in_ok-push w ↦
          let split : is_split lists term slot ≡ true = sym c.is_split.ensures ∙ w.if-is_split.true in
          record {
            next = omega (arith, next_slot, count_split lists term slot split, c.loop-slot.invariant.next, w.next-is);
            rest = one_lead lists term homes c.args.first slots slot c.loop-slot.next c.loop-slot.leads.items c.if-is_split.leads.items _ lt
                (λ t there. lead_split lists term homes c.args.first slots slot t split ∙ sym c.loop-slot.invariant.next)
                (ap (λ v. v.items) w.leads-is ∙ w.in_ok-push.ensures.items)
                c.loop-slot.invariant.rest;
          }
      | else-is_split+in_ok-push-2 w ↦
          let kept : is_split lists term slot ≡ false = sym c.is_split.ensures ∙ w.if-is_split.false in
          record {
            next = omega (arith, next_slot, count_kept lists term slot kept, c.loop-slot.invariant.next, w.next-is);
            rest = one_lead lists term homes c.args.first slots slot (slice_index homes w.target.result) c.loop-slot.leads.items c.if-is_split.leads.items _ lt
                (λ t there. lead_kept lists term homes c.args.first slots slot t kept ∙ ap (slice_index homes) (let same : Some t ≡ Some w.target.result = sym there ∙ w.target.ensures in cc))
                (ap (λ v. v.items) w.leads-is ∙ w.in_ok-push-2.ensures.items)
                c.loop-slot.invariant.rest;
          }
    ]
