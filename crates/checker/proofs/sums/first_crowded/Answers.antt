use Rattle.std.proofs.Common.{◌≡◌, ◌≤◌, ◌^◌, IsTrue, false, List, Some, length, refl, sym, subst}
use Rattle.std.specs.Prelude.{slice_get}
use Rattle.std.proofs.lemmas.Option.{slice_get_read}
use Rattle.certificate.specs.declared.types.Entry.{Entry}
use Rattle.certified.specs.Certified.{insertions, placements_in}
use Rattle.checker.proofs.Inserting.{none_crowded, one_more_few}
use Rattle.checker.proofs.sums.first_crowded.Goals as goal

never : IsTrue false → ⊥
never told = cc

pub loop-function-preserved : goal.loop-function-preserved
loop-function-preserved c =
    let certificate = c.args.certificate.now in
    let lists = c.as_slice-lists.result.now in
    let k = c.loop-function.function in
    let entries = c.index-lists-function.result in
    let listed : slice_get certificate.functions k ≡ Some entries = rw (sym c.as_slice-lists.ensures) (slice_get_read lists (length lists) k entries refl c.loop-function-test.true c.index-lists-function.is) in
    one_more_few certificate k entries listed
    (λ many. never (subst IsTrue c.if-is_crowded.false (c.is_crowded.ensures.1 (subst (λ (l : List Entry). 2 ^ 28 ≤ insertions (placements_in l)) (sym c.as_slice.ensures) many))))
    c.loop-function.invariant

pub returns : goal.returns
returns c =
    let end : length c.args.certificate.now.functions ≤ c.loop-function.function = subst (λ (l : List (List Entry)). length l ≤ c.loop-function.function) c.as_slice-lists.ensures c.loop-function-test.false in
    none_crowded c.args.certificate.now c.loop-function.function end c.loop-function.invariant
