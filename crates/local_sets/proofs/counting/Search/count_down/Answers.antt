use Rattle.std.proofs.Common.{◌≡◌, ◌+◌, ◌-◌, ◌<◌, length, set, refl, sym, ◌∙◌, arith, get_or-set_same}
use Rattle.std.proofs.lemmas.List.{get_or_read, length-set}
use Rattle.local_sets.specs.Counting.{left_at}
use Rattle.local_sets.proofs.CountLemmas.{CountsDown-push}
use Rattle.local_sets.proofs.counting.Search.count_down.Goals as goal

pub returns-in_ok-push : goal.returns-in_ok-push
returns-in_ok-push c =
    let read : c.index_mut.result.now ≡ left_at c.args.self.now c.args.point = get_or_read c.args.self.now.left.items c.args.point c.index_mut.result.now c.requires.point c.index_mut.ensures.value 0 in
    let some = c.requires.left in
    let one_less : (c.index_mut.result.now - 1) + 1 ≡ left_at c.args.self.now c.args.point = omega (arith, read, some) in
    let value = c.index_mut.result.now - 1 in
    let items = c.args.self.now.left.items in
    let inside : c.args.point < length (set items c.args.point value) = omega (arith, c.requires.point, length-set items c.args.point value) in
    let read_back = get_or_read (set items c.args.point value) c.args.point c.index.result.now inside c.index.ensures 0 in
    let none : value ≡ 0 = sym (get_or-set_same items c.args.point value 0 c.requires.point) ∙ (sym read_back ∙ c.if-index-eq0.true) in
    CountsDown-push c.args.free.now c.args.point c.args.self.now _ c.requires.point c.requires.left (c.index_mut.result.now - 1) one_less refl refl
    c.if-free-point.true none c.in_ok-push.ensures.items
