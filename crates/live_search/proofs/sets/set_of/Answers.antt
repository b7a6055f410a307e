use Rattle.std.proofs.Common.{ℕ, List, take, sym, subst}
use Rattle.std.specs.Prelude.{◌↔◌, Contains}
use Rattle.std.proofs.lemmas.List.{take_more, take_all}
use Rattle.live_search.proofs.Keys.{Inserted, inserted, set_grows}
use Rattle.live_search.proofs.sets.set_of.Goals as goal

pub loop-number-preserved : goal.loop-number-preserved
loop-number-preserved c =
    subst (λ (xs : List ℕ). (v : ℕ) → Contains c.insert.new.self.keys v ↔ Contains xs v) (sym (take_more c.args.numbers.now c.loop-number.number-index 0 c.loop-number-test.true))
    (set_grows c.loop-number.set.keys _ c.insert.new.self.keys (take c.loop-number.number-index c.args.numbers.now)
    (subst (Inserted c.loop-number.set.keys _) (sym c.in_ok-insert.ensures.keys) (inserted c.loop-number.set.keys _)) c.loop-number.invariant)

pub returns : goal.returns
returns c = subst (λ (xs : List ℕ). (v : ℕ) → Contains c.loop-number.set.keys v ↔ Contains xs v) (take_all c.loop-number.number-index c.args.numbers.now c.loop-number-test.false) c.loop-number.invariant
