-- What nodes do to a value by their marks.
use Rattle.std.specs.Prelude.{◌≡◌, ℕ, zero, suc, ◌&&◌, Bool, true, false, List, slice_index_or, refl}
use Rattle.std.proofs.Common.{ap}
use Rattle.flow_paths.specs.declared.marks.Mark.{Mark}
use Rattle.flow_paths.specs.declared.marks.Mark.TheVariants.{Write, Kill, Pass}
use Rattle.dataflow.specs.declared.flag.Flag.{Flag}
use Rattle.dataflow.specs.Flags.{met_flags}
use Rattle.dataflow.specs.Laws.{TransferLaws}

-- whether the value is there behind a place with this mark
abbrev pub leaves : Mark → Bool → Bool
leaves Write there = true
leaves Kill there = false
leaves Pass there = there

-- the mark of node n
abbrev pub mark_of : List Mark → ℕ → Mark
mark_of marks n = slice_index_or marks n Write

-- the flag that is set where b is true
abbrev pub flag_of : Bool → Flag
flag_of b = record { set = b }

-- a value may be there at each node but the first
abbrev pub begins : ℕ → Bool
begins zero = false
begins (suc n) = true

leaves_monotone : (mark : Mark) (x y : Bool) → (x && y) ≡ x → (leaves mark x && leaves mark y) ≡ leaves mark x
leaves_monotone Write x y q = refl
leaves_monotone Kill x y q = refl
leaves_monotone Pass x y q = q

-- the laws of nodes with marks
pub passing_laws : (mark : ℕ → Mark) → TransferLaws {V = Flag} (λ x y. Unit {0}) met_flags (λ n x. Unit {0}) (λ n x. flag_of (leaves (mark n) x.set))
passing_laws mark = record {
  alike = λ n x h. tt;
  monotone = λ n x y h k a b. ap flag_of (leaves_monotone (mark n) x.set y.set (ap (λ (f : Flag). f.set) b));
}
