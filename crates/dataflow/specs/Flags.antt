-- The meet of flags.
use Rattle.std.specs.Prelude.{◌≡◌, ◌≢◌, ℕ, ◌<◌, ◌&&◌, Bool, true, false, refl, if◌then◌else◌}
use Rattle.std.proofs.Common.{ap}
use Rattle.std.proofs.Math.Nat.{zero-lt-suc}
use Rattle.dataflow.specs.declared.flag.Flag.{Flag}
use Rattle.dataflow.specs.Laws.{MeetLaws}

-- the flag that is set where b is true
abbrev flag_of : Bool → Flag
flag_of b = record { set = b }

-- set where both are
abbrev pub met_flags : Flag → Flag → Flag
met_flags x y = flag_of (x.set && y.set)

-- 1 where it is set
abbrev pub flag_height : Flag → ℕ
flag_height x = if x.set then 1 else 0

and_assoc : (a b c : Bool) → ((a && b) && c) ≡ (a && (b && c))
and_assoc true b c = refl
and_assoc false b c = refl

and_comm : (a b : Bool) → (a && b) ≡ (b && a)
and_comm true true = refl
and_comm true false = refl
and_comm false true = refl
and_comm false false = refl

and_idem : (a : Bool) → (a && a) ≡ a
and_idem true = refl
and_idem false = refl

and_falls : (a b : Bool) → flag_of (a && b) ≢ flag_of a → flag_height (flag_of (a && b)) < flag_height (flag_of a)
and_falls true true h = absurd (h refl)
and_falls true false h = zero-lt-suc 0
and_falls false b h = absurd (h refl)

-- flags fall from set to not set
pub flag_laws : MeetLaws {V = Flag} (λ x y. Unit {0}) met_flags flag_height
flag_laws = record {
  itself = λ x. tt;
  back = λ x y h. tt;
  on = λ x y z h k. tt;
  alike = λ x y h. tt;
  assoc = λ x y z h k. ap flag_of (and_assoc x.set y.set z.set);
  comm = λ x y h. ap flag_of (and_comm x.set y.set);
  idem = λ x. ap flag_of (and_idem x.set);
  falls = λ x y h. and_falls x.set y.set;
}
