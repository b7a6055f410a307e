-- What a certificate places, function by function.
use Rattle.std.proofs.Common.{◌≡◌, ⊎_elim, ℕ, List, [], ◌∷◌, ◌++◌, length, Some, sym, ap, ◌∙◌, subst, arith}
use Rattle.std.specs.Prelude.{slice_get}
use Rattle.std.proofs.lemmas.List.{length_push}
use Rattle.std.proofs.lemmas.Option.{same_Some}
use Rattle.certificate.specs.declared.types.Entry.{Entry}
use Rattle.certificate.specs.declared.types.Certificate.{Certificate}
use Rattle.transform.specs.declared.placed.Placed.{Placed}
use Rattle.checker.specs.Placing.{ArePlacedBy, placed_by}
use Rattle.checker.specs.declared.numbered.Numbered.{Numbered}
use Rattle.checker.proofs.Grown.{get_left, get_last, get_push}

pub one_more_placed : (numbered : List Numbered) (certificate : Certificate) (placed : List Placed) (q : Numbered) (entries : List Entry) → slice_get certificate.functions (length placed) ≡ Some entries
    → ArePlacedBy numbered certificate placed → ArePlacedBy (numbered ++ q ∷ []) certificate (placed ++ placed_by q entries ∷ [])
one_more_placed numbered certificate placed q entries listed are = record {
  count = omega (arith, length_push placed (placed_by q entries), length_push numbered q, are.count);
  each = λ j p list there named. ⊎_elim
      (λ (before : slice_get numbered j ≡ Some p). get_left placed (placed_by q entries) j (placed_by p list) (are.each j p list before named))
      (λ (last : (j ≡ length numbered) × (q ≡ p)).
      let at : length placed ≡ j = are.count ∙ sym last.0 in
      let same : entries ≡ list = same_Some entries list (sym listed ∙ ap (slice_get certificate.functions) at ∙ named) in
      let here : slice_get (placed ++ placed_by q entries ∷ []) j ≡ Some (placed_by q entries) =
      subst (λ (i : ℕ). slice_get (placed ++ placed_by q entries ∷ []) i ≡ Some (placed_by q entries)) at (get_last placed (placed_by q entries)) in
      here ∙ ap (λ (p : Numbered). Some (placed_by p entries)) last.1 ∙ ap (λ (l : List Entry). Some (placed_by p l)) same)
      (get_push numbered q j p there);
}
