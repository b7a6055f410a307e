-- A transfer that sets the flag at some nodes and clears it at others.
use Rattle.std.specs.Prelude.{◌≡◌, ℕ, ◌&&◌, ◌||◌, Bool, true, false, not, refl}
use Rattle.std.proofs.Common.{ap}
use Rattle.dataflow.specs.declared.flag.Flag.{Flag}
use Rattle.dataflow.specs.Flags.{met_flags}
use Rattle.dataflow.specs.Laws.{TransferLaws}

-- what leaves is monotone
keeps : (set clear x y : Bool) → (x && y) ≡ x → ((set || (not clear && x)) && (set || (not clear && y))) ≡ (set || (not clear && x))
keeps true clear x y q = refl
keeps false true x y q = refl
keeps false false x y q = q

-- the flag that is set where b is true
abbrev flag_of : Bool → Flag
flag_of b = record { set = b }

-- whether a flag is set
abbrev set_of : Flag → Bool
set_of f = f.set

-- the laws of that transfer
pub kept_laws : (set clear : ℕ → Bool) → TransferLaws {V = Flag} (λ x y. Unit {0}) met_flags (λ n x. Unit {0}) (λ n x. record { set = set n || (not (clear n) && x.set) })
kept_laws set clear = record {
  alike = λ n x h. tt;
  monotone = λ n x y h k a b. ap flag_of (keeps (set n) (clear n) x.set y.set (ap set_of b));
}
