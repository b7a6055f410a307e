use Rattle.std.proofs.Common.{ℕ, List, Option}
use Rattle.std.specs.Prelude.{IfSome, MatchOption}
use Rattle.std.proofs.lemmas.Result.{IfOk-weaker}
use Rattle.ir_types.specs.Program.{Program}
use Rattle.checker.specs.Checked.{IsChecked}
use Rattle.checker.specs.Reasons.{IsFirstReason}
use Rattle.checker.specs.declared.verdict.Reason.{Reason}
use Rattle.checker.proofs.Verdicts.{Found, found_first, found_unchecked}
use Rattle.checker.proofs.checking.first_reason.Goals as goal

pub returns-clause-first : goal.returns-clause-first
returns-clause-first c =
    let counts = c.args.counts.now in
    let certificate = c.args.certificate.now in
    let numbered = c.args.numbered.now in
    let First : Option Reason → Type 0 = λ found. MatchOption found (IsChecked counts numbered certificate) (λ reason. (m : Program) (bytes : List ℕ) → IsFirstReason m counts bytes certificate numbered reason) in
    IfOk-weaker c.first_fault.result (Found counts certificate numbered) First
    (found_first counts certificate numbered c.in_default.ensures c.in_default-crowded.ensures) c.first_fault.ensures

pub returns-clause-not_checked : goal.returns-clause-not_checked
returns-clause-not_checked c =
    let counts = c.args.counts.now in
    let certificate = c.args.certificate.now in
    let numbered = c.args.numbered.now in
    let Unchecked : Option Reason → Type 0 = λ found. IfSome found (λ _. ¬ (IsChecked counts numbered certificate)) in
    IfOk-weaker c.first_fault.result (Found counts certificate numbered) Unchecked (found_unchecked counts certificate numbered) c.first_fault.ensures
