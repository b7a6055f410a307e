use Rattle.std.proofs.Common.{◌≡◌, ◌+◌, ◌<◌, ◌++◌, ◌∷◌, [], length, drop, get_or, ap, ◌∙◌, arith}
use Rattle.std.specs.Prelude.{◌==◌}
use Rattle.interp.specs.Tallies.{starts_from}
use Rattle.interp.specs.TallyOf.{first_counts, places_from}
use Rattle.interp.proofs.Making.{counts_next, places_next, counts_left}
use Rattle.interp.proofs.tally.Tally.new.Goals as goal

pub loop-number-preserved : goal.loop-number-preserved
loop-number-preserved c =
    let fs = c.args.program.now.functions in
    let n = c.loop-number.number in
    let f = c.function-item.result in
    let counts = c.loop-number.tally.counts.items in
    let places = c.loop-number.tally.places.items in
    let same = c.functions-function-items.ensures.list in
    let there : f ≡ get_or fs n f = c.function-item.is ∙ ap (λ l. get_or l n f) same in
    let lt : n < length fs = omega (arith, ap length same, c.loop-number-test.true) in
    let is_main = n == c.args.main in
    let counted = c.in_ok-add_function.ensures.counts ∙ ap (λ g. counts ++ first_counts is_main g) there in
    let placed = c.in_ok-add_function.ensures.places in
    record {
      items = same;
      counts_left =
          ap (λ l. l ++ counts_left c.args.main (n + 1) (drop (n + 1) fs)) counted
          ∙ counts_next c.args.main n fs f counts lt
          ∙ c.loop-number.invariant.counts_left;
      places_left =
          ap (λ l. l ++ places_from (length c.add_function.new.self.counts.items) (drop (n + 1) fs)) placed
          ∙ ap (λ l. (places ++ record { index = length counts; starts = starts_from 0 f.blocks } ∷ []) ++ places_from (length l) (drop (n + 1) fs)) c.in_ok-add_function.ensures.counts
          ∙ ap (λ g. (places ++ record { index = length counts; starts = starts_from 0 g.blocks } ∷ []) ++ places_from (length (counts ++ first_counts is_main g)) (drop (n + 1) fs)) there
          ∙ places_next n fs f is_main places counts lt
          ∙ c.loop-number.invariant.places_left;
    }
