-- What a good certificate says of its module.
use Rattle.std.specs.Prelude.{◌≡◌, ◌<◌, ◌^◌, ℕ, List, length}
use Rattle.ir_types.specs.Program.{Program}
use Rattle.ir_types.specs.declared.syntax.Function.{Function}
use Rattle.point_graph.specs.Numbers.{ArePoints}
use Rattle.point_graph.specs.declared.graph.Points.{Points}
use Rattle.expressions.specs.Kept.{Kept}
use Rattle.expressions.specs.Tables.{IsTable}
use Rattle.profile.specs.Counts.{IsAccepted, total}
use Rattle.profile.specs.declared.counts.FnCounts.{FnCounts}
use Rattle.best_choice.specs.Best.{IsBestIn}
use Rattle.certificate.specs.declared.types.Entry.{Entry}
use Rattle.certificate.specs.declared.types.Certificate.{Certificate}
use Rattle.certified.specs.Entries.{IsGood, IsPlain}
use Rattle.certified.specs.Certified.{AreAllBest, IsCertified}

-- the placement of a good entry of an expression that can't trap is the best one, whoever made it
abbrev pub GoodIsBest : Type 0
GoodIsBest = (f : Function) (p : Points) (t : Kept) (counts : FnCounts) (x : ℕ) (entry : Entry) → 0 < length f.blocks → ArePoints f p → IsTable f p t → x < length t.exprs → total counts < 2 ^ 64
    → IsPlain t x → IsGood f p t counts x entry → IsBestIn f p t x counts entry.placement

-- a certificate that is good has one module
abbrev pub OneCertified : Type 0
OneCertified = (m : Program) (counts : List FnCounts) (certificate : Certificate) (one other : Program) → IsCertified m counts certificate one → IsCertified m counts certificate other → one ≡ other

-- the placements that it names are the best ones
abbrev pub CertifiedAreBest : Type 0
CertifiedAreBest = (m : Program) (counts : List FnCounts) (certificate : Certificate) (m' : Program) → IsAccepted m counts → IsCertified m counts certificate m' → AreAllBest m counts certificate
