-- The events of a block, by its points and along its steps.
use Rattle.std.proofs.Common.{◌≡◌, ◌+◌, ℕ, zero, suc, Bool, false, cond, List, [], ◌∷◌, ◌++◌, length, map, filter, get_or, refl, sym, ap, ◌∙◌, subst, arith}
use Rattle.std.specs.List.{AllZip, range_with_len}
use Rattle.std.proofs.lemmas.List.{length-append}
use Rattle.std.proofs.lemmas.List.FromFn.{length-map-range_with_len}
use Rattle.std.proofs.lemmas.Option.{same_Some}
use Rattle.ir_types.specs.declared.syntax.Function.{Function}
use Rattle.point_graph.specs.declared.graph.Point.{Point}
use Rattle.point_graph.specs.declared.graph.Point.TheVariants.{Head, Instr, Term}
use Rattle.point_graph.specs.declared.graph.Points.{Points}
use Rattle.point_graph.specs.Numbers.{block_points}
use Rattle.expressions.specs.declared.syntax.Event.{Event}
use Rattle.expressions.specs.declared.syntax.Event.TheVariants.{Occurs, Kills, Bars, Passes}
use Rattle.expressions.specs.Kept.{Kept}
use Rattle.expressions.specs.Tables.{IsEventOf}
use Rattle.profile.specs.declared.counts.FnCounts.{FnCounts}
use Rattle.placement.proofs.EventLemmas.{one_event, event_inside}
use Rattle.local_sets.specs.declared.blocks.BlockSets.{BlockSets}
use Rattle.local_sets.specs.Blocks.{occurs_or_kills, last_after, is_forced, forced_after, IsAt, IsBlockSets}
use Rattle.best_placement.specs.BlockNetwork.{event_after, first_event, last_event, forced_here, forced}
use Rattle.best_placement.specs.Shapes.{block_from, blocks_from, next_point, next_edge, steps_from}
use Rattle.function_graphs.specs.Graphs.{IsIn}
use Rattle.function_graphs.specs.Sets.{HasSets, SetsAgree}
use Rattle.function_graphs.proofs.Parts.{StandsIn}
use Rattle.function_graphs.proofs.Lying.{LiesAt, LieFrom, shape}
use Rattle.function_graphs.proofs.Suiting.{all_laid, content_at, nothing_passes, at_end}

-- ---- lists of events

-- what becomes of a list of events with one more in front
first_more : (k : Event) (r : Event) (rest : List Event) → r ≡ get_or rest 0 Passes → event_after k r ≡ get_or (cond (occurs_or_kills k) (k ∷ rest) rest) 0 Passes
first_more Occurs r rest e = refl
first_more Kills r rest e = refl
first_more Bars r rest e = e
first_more Passes r rest e = e

last_more : (k before : Event) (rest : List Event) → last_after (event_after k before) rest ≡ last_after before (cond (occurs_or_kills k) (k ∷ rest) rest)
last_more Occurs before rest = refl
last_more Kills before rest = refl
last_more Bars before rest = refl
last_more Passes before rest = refl

forced_same : (before k : Event) → forced_here before k ≡ is_forced before k
forced_same Occurs k = refl
forced_same Kills Occurs = refl
forced_same Kills Kills = refl
forced_same Kills Bars = refl
forced_same Kills Passes = refl
forced_same Bars k = refl
forced_same Passes k = refl

none_forced : (before k : Event) → (k ≡ Occurs → ⊥) → forced_here before k ≡ 0
none_forced Occurs k h = refl
none_forced Kills Occurs h = absurd (h refl)
none_forced Kills Kills h = refl
none_forced Kills Bars h = refl
none_forced Kills Passes h = refl
none_forced Bars k h = refl
none_forced Passes k h = refl

forced_more : (k before : Event) (rest : List Event) → forced_here before k + forced_after (event_after k before) rest ≡ forced_after before (cond (occurs_or_kills k) (k ∷ rest) rest)
forced_more Occurs before rest = ap (λ n. n + forced_after Occurs rest) (forced_same before Occurs)
forced_more Kills before rest = ap (λ n. n + forced_after Kills rest) (forced_same before Kills)
forced_more Bars before rest = let z = none_forced before Bars (λ h. cc) in omega (arith, z)
forced_more Passes before rest = let z = none_forced before Passes (λ h. cc) in omega (arith, z)

module _ (event : ℕ → Event) where
  abbrev along : List (ℕ × ℕ) → List Event
  along steps = map (λ s. event s.1) steps

  first_along : (steps : List (ℕ × ℕ)) → first_event event steps ≡ get_or (filter occurs_or_kills (along steps)) 0 Passes
  first_along [] = refl
  first_along (s ∷ steps) = first_more (event s.1) (first_event event steps) (filter occurs_or_kills (along steps)) (first_along steps)

  last_along : (before : Event) (steps : List (ℕ × ℕ)) → last_event event before steps ≡ last_after before (filter occurs_or_kills (along steps))
  last_along before [] = refl
  last_along before (s ∷ steps) = last_along (event_after (event s.1) before) steps ∙ last_more (event s.1) before (filter occurs_or_kills (along steps))

  forced_along : (before : Event) (steps : List (ℕ × ℕ)) → forced event before steps ≡ forced_after before (filter occurs_or_kills (along steps))
  forced_along before [] = refl
  forced_along before (s ∷ steps) =
      ap (λ n. forced_here before (event s.1) + n) (forced_along (event_after (event s.1) before) steps) ∙ forced_more (event s.1) before (filter occurs_or_kills (along steps))

  -- the events of n points from v on
  abbrev events_at : ℕ → ℕ → List Event
  events_at v zero = []
  events_at v (suc n) = event v ∷ events_at (suc v) n

  steps_at : (e v n : ℕ) → along (steps_from e v n) ≡ events_at v n
  steps_at e v zero = refl
  steps_at e v (suc n) = ap (λ l. event v ∷ l) (steps_at (suc e) (suc v) n)

  events_more : (v n : ℕ) → events_at v (suc n) ≡ events_at v n ++ event (v + n) ∷ []
  events_more v zero = let z : v ≡ v + 0 = omega arith in ap (λ x. event x ∷ []) z
  events_more v (suc n) = let z : suc v + n ≡ v + suc n = omega arith in ap (λ l. event v ∷ l) (events_more (suc v) n ∙ ap (λ x. events_at (suc v) n ++ event x ∷ []) z)

filter_end : (events : List Event) (k : Event) → occurs_or_kills k ≡ false → filter occurs_or_kills (events ++ k ∷ []) ≡ filter occurs_or_kills events
filter_end [] k h = ap (λ b. cond b (k ∷ []) []) h
filter_end (x ∷ events) k h = ap (λ l. cond (occurs_or_kills x) (x ∷ l) l) (filter_end events k h)

neither : (k : Event) → (k ≡ Occurs → ⊥) × (k ≡ Kills → ⊥) → occurs_or_kills k ≡ false
neither Occurs h = absurd (h.0 refl)
neither Kills h = absurd (h.1 refl)
neither Bars h = refl
neither Passes h = refl

module _ (f : Function) (p : Points) (t : Kept) (e : ℕ) (c : FnCounts) (reached : ℕ → Bool) (event : ℕ → Event) (is : IsIn f p t e reached event) where
  events_there : (v : ℕ) (points : List Point) (events : List Event) → StandsIn p.points v points → AllZip (IsAt f t e) points events → events ≡ events_at event v (length points)
  events_there v [] [] stand are = refl
  events_there v [] (k ∷ events) stand are = absurd are
  events_there v (at ∷ points) [] stand are = absurd are
  events_there v (at ∷ points) (k ∷ events) stand are =
      let here : IsEventOf f p t e v k = record { expr = are.0.expr; expr_there = are.0.there; at = at; point_there = stand.0; is_event = are.0.is_event } in
      let same : event v ≡ k = one_event f p t e v (event v) k (is.events.at_points v (event_inside f p t e v k here)) here in
      ap (λ x. x ∷ events) (sym same) ∙ ap (λ l. event v ∷ l) (events_there (suc v) points events stand.1 are.1)

  block_sets : (b index point edge : ℕ) (at : LiesAt f p c reached b point edge) (sets : BlockSets) → IsBlockSets f t e b sets → HasSets event (block_from index point edge (shape f p c reached b)) sets
  block_sets b index point edge at sets has =
      let n = length at.block.instrs in
      let steps = steps_from edge (suc point) n in
      let same : has.block ≡ at.block = same_Some has.block at.block (sym has.block_there ∙ at.block_there) in
      let are : AllZip (IsAt f t e) (block_points b at.block) has.events = subst (λ x. AllZip (IsAt f t e) (block_points b x) has.events) same has.are in
      let instrs = map (Instr b) (range_with_len 0 n) in
      let count : length (instrs ++ Term b ∷ []) ≡ suc n = omega (arith, length-append instrs (Term b ∷ []), length-map-range_with_len (Instr b) 0 n) in
      let whole : has.events ≡ event point ∷ (events_at event (suc point) n ++ event (suc point + n) ∷ []) =
      events_there point (block_points b at.block) has.events at.points_stand are ∙ ap (λ m. event point ∷ events_at event (suc point) m) count ∙ ap (λ l. event point ∷ l) (events_more event (suc point) n) in
      let head = let r = content_at f p t e c reached event is point (Head b) at.head in nothing_passes t.module_of r.0 (event point) r.1 in
      let kept : filter occurs_or_kills has.events ≡ filter occurs_or_kills (along event steps) =
      ap (filter occurs_or_kills) whole
      ∙ ap (λ k. filter occurs_or_kills (k ∷ (events_at event (suc point) n ++ event (suc point + n) ∷ []))) head
      ∙ filter_end (events_at event (suc point) n) (event (suc point + n)) (neither (event (suc point + n)) (at_end f p t e c reached event is b point edge at))
      ∙ ap (filter occurs_or_kills) (sym (steps_at event edge (suc point) n)) in
      subst (λ s. HasSets event (block_from index point edge s) sets) (sym at.shape_is)
      (record {
        first = first_along event steps ∙ ap (λ l. get_or l 0 Passes) (sym kept) ∙ ap (λ x. x.first) (sym has.sets_are);
        last = last_along event Passes steps ∙ ap (last_after Passes) (sym kept) ∙ ap (λ x. x.last) (sym has.sets_are);
        forced_count = forced_along event Passes steps ∙ ap (forced_after Passes) (sym kept) ∙ ap (λ x. x.forced) (sym has.sets_are);
      })

  sets_from : (index point edge : ℕ) (listed : List ℕ) (sets : List BlockSets) → LieFrom f p c reached point edge listed → AllZip (IsBlockSets f t e) listed sets → AllZip (HasSets event) (blocks_from index point edge (map (shape f p c reached) listed)) sets
  sets_from index point edge [] [] lies are = tt
  sets_from index point edge [] (s ∷ sets) lies are = absurd are
  sets_from index point edge (b ∷ listed) [] lies are = absurd are
  sets_from index point edge (b ∷ listed) (s ∷ sets) lies are = (
    block_sets b index point edge lies.0 s are.0,
    sets_from (suc index) (next_point point (shape f p c reached b)) (next_edge edge (shape f p c reached b)) listed sets lies.1 are.1,
  )

pub sets_agree : SetsAgree
sets_agree f p t e c reached event sets is are = sets_from f p t e c reached event is 0 1 1 p.blocks sets (all_laid f p t e c reached event is) are
