-- The values that earlier cases of a switch have.
use Rattle.std.proofs.Common.{◌≡◌, ◌==◌, ℕ, nat_eq, Bool, false, List, [], ◌∷◌, ◌++◌, Option, None, Some, if◌then◌else◌, refl, sym, ap, ◌∙◌, arith}
use Rattle.std.specs.List.{list_any}
use Rattle.std.specs.Prelude.{option_to_list}
use Rattle.std.proofs.lemmas.Bool.Decides.{nat_tests}
use Rattle.indexmap.specs.IndexSet.{insert_key}
use Rattle.ir_types.specs.Uses.{is_seen}

same_test : (a b : ℕ) → (a == b) ≡ (b == a)
same_test a b = grind (arith, nat_tests)

any_same : (ks : List ℕ) (v : ℕ) → list_any (λ x. x == v) ks ≡ list_any (nat_eq v) ks
any_same [] v = refl
any_same (k ∷ ks) v = rw (same_test k v, any_same ks v) refl

one_more : (ks : List ℕ) (v : ℕ) → list_any (λ x. x == v) ks ≡ false → insert_key nat_eq ks v ≡ ks ++ v ∷ []
one_more ks v absent = ap (λ (b : Bool). if b then ks else (ks ++ v ∷ [])) (sym (any_same ks v) ∙ absent)

-- a value that no case had goes last
pub noted : (ks : List ℕ) (o : Option ℕ) (v : ℕ) (new : List ℕ) → o ≡ Some v → is_seen ks o ≡ false → new ≡ insert_key nat_eq ks v → new ≡ ks ++ option_to_list o
noted ks None v new is absent h = cc
noted ks (Some u) v new is absent h =
    let same : u ≡ v = cc in
    h ∙ (ap (λ w. insert_key nat_eq ks w) (sym same) ∙ one_more ks u absent)
