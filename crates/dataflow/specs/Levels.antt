-- The lesser of two numbers as a meet.
use Rattle.std.specs.Prelude.{◌≡◌, ℕ, Bool, true, false, min, if◌then◌else◌}
use Rattle.std.proofs.Common.{arith}
use Rattle.dataflow.specs.Laws.{MeetLaws, TransferLaws}

-- numbers fall to the lesser one
pub least_laws : MeetLaws {V = ℕ} (λ x y. Unit {0}) min (λ x. x)
least_laws = record {
  itself = λ x. tt;
  back = λ x y h. tt;
  on = λ x y z h k. tt;
  alike = λ x y h. tt;
  assoc = λ x y z h k. omega arith;
  comm = λ x y h. omega arith;
  idem = λ x. omega arith;
  falls = λ x y h k. omega (arith, k);
}

-- at most `most` where b is true
abbrev pub capped : Bool → ℕ → ℕ → ℕ
capped b most x = if b then min x most else x

-- a cap is monotone
capped_monotone : (b : Bool) (most x y : ℕ) → min x y ≡ x → min (capped b most x) (capped b most y) ≡ capped b most x
capped_monotone true most x y h = omega (arith, h)
capped_monotone false most x y h = h

-- the laws of a cap at some nodes
pub cap_laws : (capping : ℕ → Bool) (most : ℕ) → TransferLaws {V = ℕ} (λ x y. Unit {0}) min (λ n x. Unit {0}) (λ n x. capped (capping n) most x)
cap_laws capping most = record {
  alike = λ n x h. tt;
  monotone = λ n x y h k a b. capped_monotone (capping n) most x y b;
}
