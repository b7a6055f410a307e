use Rattle.std.proofs.Common.{◌≡◌, ◌<◌, ◌∙◌, List, Some, length, refl, sym, ap, arith}
use Rattle.std.specs.Prelude.{slice_get}
use Rattle.std.proofs.lemmas.Option.{slice_get_read}
use Rattle.certificate.specs.declared.types.Entry.{Entry}
use Rattle.checker.specs.declared.numbered.Numbered.{Numbered}
use Rattle.checker.proofs.Fitting.{none_differs, one_more_fits}
use Rattle.checker.proofs.lengths.first_other.Goals as goal

pub loop-function-preserved : goal.loop-function-preserved
loop-function-preserved c =
    let numbered = c.args.numbered.now in
    let certificate = c.args.certificate.now in
    let lists = c.as_slice-lists.result.now in
    let k = c.loop-function.function in
    let q = c.index-numbered-function.result in
    let entries = c.index-lists-function.result in
    let lists_same : length lists ≡ length certificate.functions = ap (λ (l : List (List Entry)). length l) c.as_slice-lists.ensures in
    let inside : k < length lists = omega (arith, c.loop-function-test.true, c.requires.lists, lists_same) in
    let there : slice_get numbered k ≡ Some q = slice_get_read numbered (length numbered) k q refl c.loop-function-test.true c.index-numbered-function.is in
    let listed : slice_get certificate.functions k ≡ Some entries = rw (sym c.as_slice-lists.ensures) (slice_get_read lists (length lists) k entries refl inside c.index-lists-function.is) in
    let same : length entries ≡ length q.table.exprs = sym c.len-entries.ensures ∙ c.if-entries-expressions.false ∙ c.len-expressions.ensures ∙ ap (λ (p : Numbered). length p.table.exprs) (sym c.index-numbered-function.is) in
    one_more_fits numbered certificate k q entries there listed same c.loop-function.invariant

pub returns : goal.returns
returns c = none_differs c.args.numbered.now c.args.certificate.now c.loop-function.function c.loop-function-test.false c.loop-function.invariant
