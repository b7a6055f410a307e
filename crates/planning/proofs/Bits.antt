-- Lists of bits, as they grow.
use Rattle.std.proofs.Common.{◌≡◌, ℕ, ◌<◌, ◌+◌, Bool, true, false, List, [], ◌∷◌, ◌++◌, length, get_or, set, take, replicate, sym, ◌∙◌, subst, ap, ⊎_elim, Contains, arith, get_or-set_same, get_or-set_other, length-set}
use Rattle.std.proofs.lemmas.List.{get_or-replicate, length-replicate, take_more}
use Rattle.std.proofs.lemmas.List.Elements.{Contains-append_left, Contains-push, Contains-push_cases}
use Rattle.std.proofs.lemmas.Bool.{cases_eq}
use Rattle.planning.specs.Marking.{AreBits}

no_member : (x : ℕ) → ¬ Contains [] x
no_member x c = let h : c.0 < 0 = c.1 in absurd (omega arith)

pub AreBits-start : (n : ℕ) (bits : List Bool) → bits ≡ replicate n false → AreBits n [] bits
AreBits-start n bits e = record {
  len = ap length e ∙ length-replicate n false;
  bits_are = λ k h. (
    λ w. let p : false ≡ true = sym (get_or-replicate n k false false h) ∙ (sym (ap (λ m. get_or m k false) e) ∙ w) in cc,
    λ c. absurd (no_member k c),
  );
}

AreBits-set : (n : ℕ) (numbers : List ℕ) (bits : List Bool) (e : ℕ) → e < n → AreBits n numbers bits → AreBits n (numbers ++ e ∷ []) (set bits e true)
AreBits-set n numbers bits e h m =
    let within : e < length bits = let l : length bits ≡ n = m.len in omega arith in
    record {
      len = length-set bits e true ∙ m.len;
      bits_are = λ k hk. ⊎_elim
          (λ (q : k ≡ e). (
            λ w. subst (λ x. Contains (numbers ++ e ∷ []) x) (sym q) (Contains-push numbers e),
            λ c. subst (λ x. get_or (set bits e true) x false ≡ true) (sym q) (get_or-set_same bits e true false within),
          ))
          (λ (ne : k ≡ e → ⊥). (
            λ w. Contains-append_left numbers (e ∷ []) k ((m.bits_are k hk).0 (sym (get_or-set_other bits e k true false ne) ∙ w)),
            λ c. get_or-set_other bits e k true false ne ∙ (m.bits_are k hk).1 (⊎_elim (λ (i : Contains numbers k). i) (λ (q : e ≡ k). absurd (ne (sym q))) (Contains-push_cases numbers e k c)),
          ))
          (cases_eq k e);
    }

pub AreBits-more : (n : ℕ) (numbers : List ℕ) (bits : List Bool) (i : ℕ) → i < length numbers → get_or numbers i 0 < n → AreBits n (take i numbers) bits → AreBits n (take (i + 1) numbers) (set bits (get_or numbers i 0) true)
AreBits-more n numbers bits i h k m = subst (λ xs. AreBits n xs (set bits (get_or numbers i 0) true)) (sym (take_more numbers i 0 h)) (AreBits-set n (take i numbers) bits (get_or numbers i 0) k m)
