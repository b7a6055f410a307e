-- What a whole text says.
use Rattle.std.proofs.Common.{◌≡◌, ℕ, ◌-◌, ◌^◌, ◌<◌, ◌≤◌, List, [], ◌∷◌, length, min, sum_by, sym, subst, ◌∙◌, arith}
use Rattle.std.specs.List.{AllZip}
use Rattle.std.proofs.lemmas.List.{append-nil}
use Rattle.ir_types.specs.Program.{Program}
use Rattle.ir_types.specs.declared.syntax.Function.{Function}
use Rattle.profile.specs.declared.counts.FnCounts.{FnCounts}
use Rattle.profile.specs.declared.lines.Line.{Line}
use Rattle.profile.specs.declared.reading.ProfileError.TheVariants.{Total}
use Rattle.profile.specs.Counts.{defined, HasSlots, HasShape, IsBalanced, IsUnreachedZero, AreCounts, total}
use Rattle.profile.specs.Text.{lines, text_of_lines}
use Rattle.profile.specs.Reading.{HasLines, Says, Reads, Refuses}
use Rattle.profile.proofs.Runs.{few_lines}

pub few_read : (bytes : List ℕ) (ls : List Line) → HasLines bytes ls → length ls ≤ length bytes
few_read bytes ls h = omega (arith, few_lines bytes ls [] (record { text = h.text ∙ sym (append-nil (text_of_lines ls)); fit = h.fit }))

pub says : (m : Program) (bytes : List ℕ) (read : List Line) (counts : List FnCounts) → HasLines bytes read → HasShape m counts → read ≡ lines m counts → Says m bytes counts
says m bytes read counts has shape same = record { shape = shape; has = subst (HasLines bytes) same has }

all_three : (fs : List Function) (cs : List FnCounts) → AllZip HasSlots fs cs → AllZip IsBalanced fs cs → AllZip IsUnreachedZero fs cs → AllZip AreCounts fs cs
all_three [] [] s b u = tt
all_three [] (c ∷ cs) s b u = s
all_three (f ∷ fs) [] s b u = s
all_three (f ∷ fs) (c ∷ cs) s b u = (record { slots = s.0; balanced = b.0; unreached = u.0 }, all_three fs cs s.1 b.1 u.1)

pub reads : (m : Program) (bytes : List ℕ) (counts : List FnCounts) (all : ℕ) → Says m bytes counts → AllZip IsBalanced (defined m) counts → AllZip IsUnreachedZero (defined m) counts → all ≡ min (sum_by total counts) (2 ^ 128 - 1) → all < 2 ^ 62 → Reads m bytes counts
reads m bytes counts all s b u sum lt = record {
  text = s.has.text;
  accepted = record { functions = all_three (defined m) counts s.shape b u; total = omega (arith, sum, lt) };
}

pub too_many : (m : Program) (bytes : List ℕ) (counts : List FnCounts) (all : ℕ) → Says m bytes counts → AllZip IsBalanced (defined m) counts → AllZip IsUnreachedZero (defined m) counts → all ≡ min (sum_by total counts) (2 ^ 128 - 1) → 2 ^ 62 ≤ all → Refuses m bytes Total
too_many m bytes counts all s b u sum le = record { counts = counts; says = s; wrong = (b, u, omega (arith, sum, le)) }
