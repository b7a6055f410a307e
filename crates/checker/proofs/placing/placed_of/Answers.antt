use Rattle.std.proofs.Common.{◌≡◌, ◌<◌, ◌∙◌, ℕ, List, [], ◌∷◌, ◌++◌, Some, length, refl, sym, ap, subst, arith}
use Rattle.std.specs.Prelude.{slice_get}
use Rattle.std.proofs.lemmas.Iterator.Adapters.{YieldsList-from_vec}
use Rattle.std.proofs.lemmas.Iterator.Consumers.{YieldsList-turn}
use Rattle.std.proofs.lemmas.Option.{slice_get_read}
use Rattle.certificate.specs.declared.types.Entry.{Entry}
use Rattle.transform.specs.declared.placed.Placed.{Placed}
use Rattle.checker.specs.Placing.{ArePlacedBy, placed_by}
use Rattle.checker.proofs.Growing.{one_more_placed}
use Rattle.checker.proofs.placing.placed_of.Goals as goal

pub loop-own-preserved : goal.loop-own-preserved
loop-own-preserved c =
    let certificate = c.args.certificate.now in
    let lists = c.as_slice-lists.result.now in
    let placed = c.loop-own.placed.items in
    let q = c.in-Some.own in
    let list = c.index-lists-len.result in
    let len : c.len.result ≡ length placed = omega (arith, c.len.ensures, c.loop-own.placed.ok.0) in
    let gives = c.into_iter-own-iterator.ensures.into_iter_gives in
    let turn = YieldsList-turn (YieldsList-from_vec {s = c.into_iter-own-iterator.result} c.args.numbered.items gives.0 (gives.1 ∙ c.args.numbered.ok.0))
    c.loop-own.yielded c.loop-own.own-iterator c.loop-own.yielded_by c.next.result c.next.new.self q c.in-Some.is c.next.ensures.steps in
    let lists_same : length lists ≡ length certificate.functions = ap (λ (l : List (List Entry)). length l) c.as_slice-lists.ensures in
    let inside : c.len.result < length lists = omega (arith, len, turn.0, c.loop-own.invariant.count, c.requires, lists_same) in
    let listed : slice_get certificate.functions c.len.result ≡ Some list = rw (sym c.as_slice-lists.ensures) (slice_get_read lists (length lists) c.len.result list refl inside c.index-lists-len.is) in
    let here : slice_get certificate.functions (length placed) ≡ Some list = subst (λ (j : ℕ). slice_get certificate.functions j ≡ Some list) len listed in
    let made : c.in_ok-placed_in.field-0 ≡ placed_by q list = c.in_ok-placed_in.ensures ∙ ap (placed_by q) c.as_slice-entries.ensures in
    rw c.in_ok-push.ensures.items
    (subst (λ (p : Placed). ArePlacedBy (c.loop-own.yielded ++ q ∷ []) certificate (placed ++ p ∷ [])) (sym made)
    (one_more_placed c.loop-own.yielded certificate placed q list here c.loop-own.invariant))
