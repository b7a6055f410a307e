use Rattle.std.proofs.Common.{[], ◌∷◌, true, false, sym, subst}
use Rattle.places_check.specs.Walked.{GoesPast}
use Rattle.places_check.proofs.Passing.{moved, set_passed, unset_passed}
use Rattle.places_check.proofs.cursor.Cursor.pass.Goals as goal
use Rattle.places_check.proofs.cursor.Cursor.pass.Goals.{then-bit, else-bit}

pub returns : goal.returns
returns c =
    elim c.if-bit.branch [
      | then-bit w ↦
          subst (λ bit. GoesPast (bit ∷ []) c.args.self.now (moved c.if-bit.self 1)) (sym w.if-bit.true)
          (subst (λ taken. GoesPast (true ∷ []) c.args.self.now (moved taken 1)) (sym w.self-is) (set_passed c.args.self.now w.take_next.new.self w.take_next.ensures.next w.take_next.ensures.left))
      | else-bit w ↦
          subst (λ bit. GoesPast (bit ∷ []) c.args.self.now (moved c.if-bit.self 1)) (sym w.if-bit.false)
          (subst (λ same. GoesPast (false ∷ []) c.args.self.now (moved same 1)) (sym w.self-is) (unset_passed c.args.self.now 0 0 1))
    ]
