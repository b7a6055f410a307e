use Rattle.std.proofs.Common.{ℕ, List}
use Rattle.ir_types.specs.Program.{Program}
use Rattle.ir_printer.specs.Text.{text_of}
use Rattle.certified.specs.Certified.{EachGood}
use Rattle.transform.specs.Transformed.{IsTransformed}
use Rattle.checker.specs.Checked.{IsChecked, Tells}
use Rattle.checker.specs.Reasons.{IsFirstReason}
use Rattle.checker.proofs.Endings.{first_refusal, refused, tells_no, tells_yes}
use Rattle.checker.proofs.Numbering.{all_numbers, ready}
use Rattle.checker.proofs.Sound.{each_sound}
use Rattle.checker.proofs.Verdicts.{certified_here, each_good, good_passes}
use Rattle.checker.proofs.checking.check_all.Goals as goal

pub first_reason-requires-clause-ready : goal.first_reason-requires-clause-ready
first_reason-requires-clause-ready c =
    rw (c.deref.ensures.value, c.as_slice.ensures) (ready c.args.program.now c.in_ok-numbered.numbered.items c.in_ok-numbered.ensures.numbers c.args.profile.now.functions c.requires.counts)

pub returns-in-Some-clause-exact : goal.returns-in-Some-clause-exact
returns-in-Some-clause-exact c =
    let m = c.args.program.now in
    let counts = c.args.profile.now.functions in
    let certificate = c.args.certificate.now in
    let numbered = c.in_ok-numbered.numbered.items in
    let unchecked : ¬ (IsChecked counts numbered certificate) = rw (c.in-Some.is, c.deref.ensures.value, c.as_slice.ensures) at c.in_ok-reason.ensures.not_checked in
    refused m counts c.args.text.now certificate c.in-Some.reason
    (λ yes. unchecked (good_passes m counts certificate numbered c.in_ok-numbered.ensures.numbers c.one_numbering.ensures yes.certified.placed yes.certified.each_good))

pub returns-in-Some-clause-reason : goal.returns-in-Some-clause-reason
returns-in-Some-clause-reason c =
    let m = c.args.program.now in
    let counts = c.args.profile.now.functions in
    let certificate = c.args.certificate.now in
    let numbered = c.in_ok-numbered.numbered.items in
    let first : (m : Program) (bytes : List ℕ) → IsFirstReason m counts bytes certificate numbered c.in-Some.reason = rw (c.in-Some.is, c.deref.ensures.value, c.as_slice.ensures) at c.in_ok-reason.ensures.first in
    λ reason e. first_refusal m counts c.args.text.now certificate numbered (all_numbers m numbered c.in_ok-numbered.ensures.numbers) c.in-Some.reason reason (first m c.args.text.now) e

pub apply-requires-clause-placed : goal.apply-requires-clause-placed
apply-requires-clause-placed c =
    let m = c.args.program.now in
    let counts = c.args.profile.now.functions in
    let certificate = c.args.certificate.now in
    let numbered = c.in_ok-numbered.numbered.items in
    let are = c.in_ok-numbered.ensures.numbers in
    let placed = c.in_ok-placed.placed.items in
    let checked : IsChecked counts numbered certificate = rw (c.in_default.is, c.deref.ensures.value, c.as_slice.ensures) at c.in_ok-reason.ensures.first in
    let each : EachGood m counts certificate placed = each_good m counts certificate numbered are (ready m numbered are counts c.requires.counts) checked placed c.in_ok-placed.ensures in
    rw c.deref-2.ensures.value (each_sound c.placed_is_move.ensures m counts certificate placed each)

pub returns-clause-exact : goal.returns-clause-exact
returns-clause-exact c =
    let m = c.args.program.now in
    let counts = c.args.profile.now.functions in
    let certificate = c.args.certificate.now in
    let numbered = c.in_ok-numbered.numbered.items in
    let are = c.in_ok-numbered.ensures.numbers in
    let placed = c.in_ok-placed.placed.items in
    let made = c.in_ok-made.made in
    let checked : IsChecked counts numbered certificate = rw (c.in_default.is, c.deref.ensures.value, c.as_slice.ensures) at c.in_ok-reason.ensures.first in
    let transformed : IsTransformed m placed made = rw c.deref-2.ensures.value at c.in_ok-made.ensures in
    let certified = certified_here m counts certificate numbered are (ready m numbered are counts c.requires.counts) checked placed c.in_ok-placed.ensures made transformed in
    let tells : Tells c.args.text.now (text_of made) c.compared.result = rw (c.deref-3.ensures.value, c.in_ok-expected.ensures) at c.compared.ensures in
    tells_yes m counts c.args.text.now certificate made certified c.one_certified.ensures c.compared.result tells

pub returns-clause-reason : goal.returns-clause-reason
returns-clause-reason c =
    let m = c.args.program.now in
    let counts = c.args.profile.now.functions in
    let certificate = c.args.certificate.now in
    let numbered = c.in_ok-numbered.numbered.items in
    let are = c.in_ok-numbered.ensures.numbers in
    let placed = c.in_ok-placed.placed.items in
    let made = c.in_ok-made.made in
    let checked : IsChecked counts numbered certificate = rw (c.in_default.is, c.deref.ensures.value, c.as_slice.ensures) at c.in_ok-reason.ensures.first in
    let transformed : IsTransformed m placed made = rw c.deref-2.ensures.value at c.in_ok-made.ensures in
    let certified = certified_here m counts certificate numbered are (ready m numbered are counts c.requires.counts) checked placed c.in_ok-placed.ensures made transformed in
    let tells : Tells c.args.text.now (text_of made) c.compared.result = rw (c.deref-3.ensures.value, c.in_ok-expected.ensures) at c.compared.ensures in
    tells_no m counts c.args.text.now certificate made certified numbered (all_numbers m numbered are) c.compared.result tells

pub returns-clause-best : goal.returns-clause-best
returns-clause-best c =
    let m = c.args.program.now in
    let counts = c.args.profile.now.functions in
    let certificate = c.args.certificate.now in
    let numbered = c.in_ok-numbered.numbered.items in
    let are = c.in_ok-numbered.ensures.numbers in
    let placed = c.in_ok-placed.placed.items in
    let made = c.in_ok-made.made in
    let checked : IsChecked counts numbered certificate = rw (c.in_default.is, c.deref.ensures.value, c.as_slice.ensures) at c.in_ok-reason.ensures.first in
    let transformed : IsTransformed m placed made = rw c.deref-2.ensures.value at c.in_ok-made.ensures in
    let certified = certified_here m counts certificate numbered are (ready m numbered are counts c.requires.counts) checked placed c.in_ok-placed.ensures made transformed in
    λ yes. c.certified_are_best.ensures m counts certificate made c.requires.counts certified
