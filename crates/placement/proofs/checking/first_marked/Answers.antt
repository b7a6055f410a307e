use Rattle.placement.proofs.PathLemmas.{first_by_bits}
use Rattle.placement.proofs.checking.first_marked.Goals as goal

pub returns : goal.returns
returns c =
    first_by_bits c.args.marked.now c.in_ok-invalid.invalid.items
    (rw (c.deref.ensures.value, c.deref-2.ensures.value, c.deref-3.ensures.value) at c.in_ok-invalid.ensures.bits)
    c.first_deleted.result
    (rw (c.deref-4.ensures.value, c.deref-5.ensures.value, c.deref-6.ensures.value) at c.first_deleted.ensures)
