use Rattle.std.proofs.Common.{length}
use Rattle.checker.specs.Checked.{AreGoodEntries, IsReasonIn}
use Rattle.checker.proofs.Faulty.{counts_inside, one_more_good, reason_at, there_at, turn}
use Rattle.checker.proofs.faults.first_fault.Goals as goal

pub bounds-counts-number : goal.bounds-counts-number
bounds-counts-number c =
    counts_inside c.args.counts.now c.args.numbered.now c.args.certificate.now c.requires.ready c.loop-number.number c.index-numbered-number.result c.loop-number-test.true c.index-numbered-number.is

pub fault_in-requires-clause-own : goal.fault_in-requires-clause-own
fault_in-requires-clause-own c =
    let k = c.loop-number.number in
    let q = c.index-numbered-number.result in
    c.requires.ready.rules k q (there_at c.args.counts.now c.args.numbered.now c.args.certificate.now c.requires.ready k q c.loop-number-test.true c.index-numbered-number.is)

pub fault_in-requires-clause-counts : goal.fault_in-requires-clause-counts
fault_in-requires-clause-counts c =
    let numbered = c.args.numbered.now in
    let counts = c.args.counts.now in
    let certificate = c.args.certificate.now in
    let k = c.loop-number.number in
    let q = c.index-numbered-number.result in
    let own = c.index-counts-number.result in
    let entries = c.as_slice-entries.result.now in
    let at = turn counts numbered certificate c.requires.ready k q c.loop-number-test.true c.index-numbered-number.is c.requires.lengths c.as_slice-lists.result.now c.index-lists-number.result entries own
    c.as_slice-lists.ensures c.index-lists-number.is c.as_slice-entries.ensures c.index-counts-number.is in
    at.are

pub fault_in-requires-clause-entries : goal.fault_in-requires-clause-entries
fault_in-requires-clause-entries c =
    let numbered = c.args.numbered.now in
    let counts = c.args.counts.now in
    let certificate = c.args.certificate.now in
    let k = c.loop-number.number in
    let q = c.index-numbered-number.result in
    let own = c.index-counts-number.result in
    let entries = c.as_slice-entries.result.now in
    let at = turn counts numbered certificate c.requires.ready k q c.loop-number-test.true c.index-numbered-number.is c.requires.lengths c.as_slice-lists.result.now c.index-lists-number.result entries own
    c.as_slice-lists.ensures c.index-lists-number.is c.as_slice-entries.ensures c.index-counts-number.is in
    at.fits

pub returns-in-Some : goal.returns-in-Some
returns-in-Some c =
    let numbered = c.args.numbered.now in
    let counts = c.args.counts.now in
    let certificate = c.args.certificate.now in
    let k = c.loop-number.number in
    let q = c.index-numbered-number.result in
    let own = c.index-counts-number.result in
    let entries = c.as_slice-entries.result.now in
    let at = turn counts numbered certificate c.requires.ready k q c.loop-number-test.true c.index-numbered-number.is c.requires.lengths c.as_slice-lists.result.now c.index-lists-number.result entries own
    c.as_slice-lists.ensures c.index-lists-number.is c.as_slice-entries.ensures c.index-counts-number.is in
    let found : IsReasonIn q own entries k c.in-Some.reason = rw c.in-Some.is at c.in_ok-found.ensures in
    reason_at counts numbered certificate k q own entries at.there at.counted at.listed c.in-Some.reason found c.loop-number.invariant

pub loop-number-preserved : goal.loop-number-preserved
loop-number-preserved c =
    let numbered = c.args.numbered.now in
    let counts = c.args.counts.now in
    let certificate = c.args.certificate.now in
    let k = c.loop-number.number in
    let q = c.index-numbered-number.result in
    let own = c.index-counts-number.result in
    let entries = c.as_slice-entries.result.now in
    let at = turn counts numbered certificate c.requires.ready k q c.loop-number-test.true c.index-numbered-number.is c.requires.lengths c.as_slice-lists.result.now c.index-lists-number.result entries own
    c.as_slice-lists.ensures c.index-lists-number.is c.as_slice-entries.ensures c.index-counts-number.is in
    let good : AreGoodEntries q own entries (length entries) = rw c.in_default.is at c.in_ok-found.ensures in
    one_more_good counts numbered certificate k q own entries at.there at.counted at.listed good c.loop-number.invariant
