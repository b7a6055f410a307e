-- What the comparison of the texts tells.
use Rattle.std.proofs.Common.{◌≡◌, ◌↔◌, ℕ, List, refl, sym, ap, ◌∙◌, subst}
use Rattle.std.specs.Prelude.{slice_get}
use Rattle.ir_types.specs.Program.{Program}
use Rattle.ir_printer.specs.Text.{text_of}
use Rattle.profile.specs.declared.counts.FnCounts.{FnCounts}
use Rattle.certificate.specs.declared.types.Certificate.{Certificate}
use Rattle.certified.specs.Certified.{IsCertified, IsYes}
use Rattle.certified.specs.Laws.{OneCertified}
use Rattle.checker.specs.Checked.{Tells}
use Rattle.checker.specs.Reasons.{AreNumbered, IsFirstDifference, IsFirstReason, IsNo}
use Rattle.checker.specs.declared.numbered.Numbered.{Numbered}
use Rattle.checker.specs.declared.verdict.Reason.{Reason}
use Rattle.checker.specs.declared.verdict.Reason.TheVariants.{Text}
use Rattle.checker.specs.declared.verdict.Verdict.{Verdict}
use Rattle.checker.specs.declared.verdict.Verdict.TheVariants.{Yes, No}

not_same : (one other : List ℕ) (n : ℕ) → IsFirstDifference one other n → one ≡ other → ⊥
not_same one other n difference e = difference.differs (ap (λ (l : List ℕ). slice_get l n) e)

no_is_no_yes : {P : Type 0} (reason : Reason) → No reason ≡ Yes → P
no_is_no_yes reason e = cc

module _ (m : Program) (counts : List FnCounts) (bytes : List ℕ) (certificate : Certificate) where
  pub refused : (reason : Reason) → ¬ (IsYes m counts bytes certificate) → (No reason ≡ Yes) ↔ IsYes m counts bytes certificate
  refused reason not_yes = (λ e. no_is_no_yes reason e, λ yes. absurd (not_yes yes))

  pub first_refusal : (numbered : List Numbered) → AreNumbered m numbered → (reason other : Reason) → IsFirstReason m counts bytes certificate numbered reason → No reason ≡ No other → IsNo m counts bytes certificate other
  first_refusal numbered are reason other first e =
      let same : reason ≡ other = cc in
      record { numbered = numbered; are = are; first = subst (λ (r : Reason). IsFirstReason m counts bytes certificate numbered r) same first }

  module _ (made : Program) (is : IsCertified m counts certificate made) where
    pub tells_yes : OneCertified → (verdict : Verdict) → Tells bytes (text_of made) verdict → (verdict ≡ Yes) ↔ IsYes m counts bytes certificate
    tells_yes one Yes same = (λ e. record { program' = made; certified = is; text = same }, λ yes. refl)
    tells_yes one (No (Text place)) differs =
        refused (Text place) (λ yes. not_same bytes (text_of made) place differs (yes.text ∙ ap text_of (one m counts certificate yes.program' made yes.certified is)))
    tells_yes one (No _) none = absurd none

    pub tells_no : (numbered : List Numbered) → AreNumbered m numbered → (verdict : Verdict) → Tells bytes (text_of made) verdict → (reason : Reason) → verdict ≡ No reason → IsNo m counts bytes certificate reason
    tells_no numbered are Yes same reason e = no_is_no_yes reason (sym e)
    tells_no numbered are (No (Text place)) differs reason e =
        first_refusal numbered are (Text place) reason (record { program' = made; certified = is; difference = differs }) e
    tells_no numbered are (No _) none reason e = absurd none
