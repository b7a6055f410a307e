use Rattle.std.proofs.Common.{◌≡◌, ◌<◌, ◌≤◌, Some, length, refl, arith}
use Rattle.std.specs.Prelude.{slice_get}
use Rattle.std.proofs.lemmas.Option.{slice_get_read}
use Rattle.certified.specs.Entries.{IsGood}
use Rattle.checker.proofs.Faulty.{all_entries, one_more_entry}
use Rattle.checker.proofs.faults.fault_in.Goals as goal

pub loop-e-preserved : goal.loop-e-preserved
loop-e-preserved c =
    let q = c.args.own.now in
    let own = c.args.counts.now in
    let entries = c.args.entries.now in
    let x = c.loop-e.e in
    let entry = c.index-entries-e.result in
    let inside : x < length entries = omega (arith, c.loop-e-test.true, c.len-e-end.ensures, c.requires.entries) in
    let there : slice_get entries x ≡ Some entry = slice_get_read entries (length entries) x entry refl inside c.index-entries-e.is in
    let good : IsGood q.function.now q.points q.table own x entry = rw c.in_default.is at c.in_ok-found.ensures.fault in
    one_more_entry q own entries x c.loop-e.invariant entry there good

pub returns : goal.returns
returns c =
    let end : length c.args.entries.now ≤ c.loop-e.e = omega (arith, c.loop-e-test.false, c.len-e-end.ensures, c.requires.entries) in
    all_entries c.args.own.now c.args.counts.now c.args.entries.now c.loop-e.e c.loop-e.invariant end
