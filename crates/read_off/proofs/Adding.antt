-- Bits that are added to lists, and what was read so far.
use Rattle.std.proofs.Common.{◌≡◌, ℕ, suc, zero, ◌+◌, ◌<◌, Bool, true, false, not, ◌&&◌, List, [], ◌∷◌, ◌++◌, length, map, take, get_or, refl, sym, ap, ◌∙◌, arith, subst, append_assoc, length-append}
use Rattle.std.specs.Prelude.{slice_get, Some}
use Rattle.std.proofs.lemmas.List.{take_more, map-append, length-map}
use Rattle.std.proofs.lemmas.Option.{slice_get_within}
use Rattle.expressions.specs.declared.syntax.Event.{Event}
use Rattle.expressions.specs.declared.syntax.Event.TheVariants.{Passes}
use Rattle.best_placement.specs.BlockNetwork.{head_node, terminator_node, last_event, event_after}
use Rattle.best_placement.specs.ReadOff.{is_owed}
use Rattle.best_placement.specs.Bits.{is_occurrence, positions, none, kept_along, inserted_slots, inserted_in, kept_in, bits_joined}
use Rattle.best_placement.specs.Shapes.{Shape, steps_from, slots_from, block_from, blocks_from, points_from, next_point, next_edge}
use Rattle.best_placement.specs.Blocks.{Block}
use Rattle.function_graphs.proofs.Parts.{map_at}
use Rattle.block_places.specs.Places.{edges_from}
use Rattle.read_off.specs.Bits.{targets_by, Adds, ReadsSteps, ReadsSlots, ReadsBlock, Holds, ReadsBlocks}
use Rattle.read_off.specs.declared.bits.SetBits.{SetBits}

pub positions_append : (n : ℕ) (xs ys : List Bool) → positions n (xs ++ ys) ≡ positions n xs ++ positions (n + length xs) ys
positions_append n [] ys = ap (λ m. positions m ys) (let q : n ≡ n + 0 = omega arith in q)
positions_append n (true ∷ xs) ys = ap (λ l. n ∷ l) (positions_append (suc n) xs ys ∙ ap (λ m. positions (suc n) xs ++ positions m ys) (let q : suc n + length xs ≡ n + length (true ∷ xs) = omega arith in q))
positions_append n (false ∷ xs) ys = positions_append (suc n) xs ys ∙ ap (λ m. positions (suc n) xs ++ positions m ys) (let q : suc n + length xs ≡ n + length (false ∷ xs) = omega arith in q)

pub adds_then : (bits more : List Bool) (a b c : SetBits) → Adds bits a b → Adds more b c → Adds (bits ++ more) a c
adds_then bits more a b c f s = record {
  numbers = s.numbers
      ∙ ap (λ l. l ++ positions b.next more) f.numbers
      ∙ ap (λ m. (a.numbers.items ++ positions a.next bits) ++ positions m more) f.next
      ∙ append_assoc a.numbers.items (positions a.next bits) (positions (a.next + length bits) more)
      ∙ ap (λ l. a.numbers.items ++ l) (sym (positions_append a.next bits more));
  next = let x = f.next in let y = s.next in omega (arith, length-append bits more);
}

none_snoc : (e v n : ℕ) → none (steps_from e v (suc n)) ≡ none (steps_from e v n) ++ false ∷ []
none_snoc e v zero = refl
none_snoc e v (suc n) = ap (λ l. false ∷ l) (none_snoc (suc e) (suc v) n)

pub last_snoc : (event : ℕ → Event) (before : Event) (e v n : ℕ) → last_event event before (steps_from e v (suc n)) ≡ event_after (event (v + n)) (last_event event before (steps_from e v n))
last_snoc event before e v zero = ap (λ x. event_after (event x) before) (let q : v ≡ v + 0 = omega arith in q)
last_snoc event before e v (suc n) = last_snoc event (event_after (event v) before) (suc e) (suc v) n
    ∙ ap (λ x. event_after (event x) (last_event event (event_after (event v) before) (steps_from (suc e) (suc v) n))) (let q : suc v + n ≡ v + suc n = omega arith in q)

pub kept_snoc : (event : ℕ → Event) (head : Bool) (before : Event) (e v n : ℕ) →
    kept_along event head before (steps_from e v (suc n)) ≡ kept_along event head before (steps_from e v n) ++ (is_occurrence (event (v + n)) && is_owed (last_event event before (steps_from e v n)) head) ∷ []
kept_snoc event head before e v zero = ap (λ x. (is_occurrence (event x) && is_owed before head) ∷ []) (let q : v ≡ v + 0 = omega arith in q)
kept_snoc event head before e v (suc n) = ap (λ l. (is_occurrence (event v) && is_owed before head) ∷ l) (kept_snoc event head (event_after (event v) before) (suc e) (suc v) n
    ∙ ap (λ x. kept_along event head (event_after (event v) before) (steps_from (suc e) (suc v) n) ++ (is_occurrence (event x) && is_owed (last_event event (event_after (event v) before) (steps_from (suc e) (suc v) n)) head) ∷ []) (let q : suc v + n ≡ v + suc n = omega arith in q))

no_more : (xs : List Bool) → xs ++ [] ≡ xs
no_more [] = refl
no_more (x ∷ xs) = ap (λ l. x ∷ l) (no_more xs)

nothing : (xs : List ℕ) → xs ≡ xs ++ []
nothing [] = refl
nothing (x ∷ xs) = ap (λ l. x ∷ l) (nothing xs)

-- no step was read yet
pub reads_none : (event : ℕ → Event) (head : Bool) (ins kept : SetBits) → ReadsSteps event head 0 ins ins kept kept Passes
reads_none event head ins kept = record {
  edges = record { numbers = nothing ins.numbers.items; next = omega arith };
  points = record { numbers = nothing kept.numbers.items; next = omega arith };
  next_edge = omega arith;
  next_point = omega arith;
  event_before = refl;
}

-- one more step is read
pub reads_more : (event : ℕ → Event) (head : Bool) (n : ℕ) (ins ins' ins'' kept kept' kept'' : SetBits) (before here : Event) → ReadsSteps event head n ins ins' kept kept' before →
    Adds (false ∷ []) ins' ins'' → here ≡ event kept'.next → Adds ((is_occurrence here && is_owed before head) ∷ []) kept' kept'' → ReadsSteps event head (n + 1) ins ins'' kept kept'' (event_after here before)
reads_more event head n ins ins' ins'' kept kept' kept'' before here r e h k =
    let one : suc n ≡ n + 1 = omega arith in
    let at : here ≡ event (kept.next + n) = h ∙ ap event r.next_point in
    subst (λ m. ReadsSteps event head m ins ins'' kept kept'' (event_after here before)) one (record {
      edges = subst (λ l. Adds l ins ins'') (sym (none_snoc ins.next kept.next n)) (adds_then (none (steps_from ins.next kept.next n)) (false ∷ []) ins ins' ins'' r.edges e);
      points = subst (λ l. Adds l kept kept'') (ap (λ l. kept_along event head Passes (steps_from ins.next kept.next n) ++ l ∷ []) (ap (λ x. is_occurrence x && is_owed before head) at ∙ ap (λ x. is_occurrence (event (kept.next + n)) && is_owed x head) r.event_before)
          ∙ sym (kept_snoc event head Passes ins.next kept.next n))
          (adds_then (kept_along event head Passes (steps_from ins.next kept.next n)) ((is_occurrence here && is_owed before head) ∷ []) kept kept' kept'' r.points k);
      next_edge = let x = r.next_edge in let y = e.next in omega arith;
      next_point = let x = r.next_point in let y = k.next in omega arith;
      event_before = ap (λ x. event_after x before) at ∙ ap (event_after (event (kept.next + n))) r.event_before ∙ sym (last_snoc event Passes ins.next kept.next n);
    })

pub slots_none : (sink_side : List Bool) (terminator : Bool) (targets : List ℕ) (a : SetBits) → ReadsSlots sink_side terminator (take 0 targets) a a
slots_none sink_side terminator targets a = record { numbers = nothing a.numbers.items; next = omega arith }

-- one more slot is read
pub slots_more : (sink_side : List Bool) (terminator : Bool) (targets : List ℕ) (i : ℕ) (x : Bool) (a b c : SetBits) → i < length targets → x ≡ (not terminator && get_or sink_side (head_node (get_or targets i 0)) false) →
    ReadsSlots sink_side terminator (take i targets) a b → Adds (x ∷ []) b c → ReadsSlots sink_side terminator (take (i + 1) targets) a c
slots_more sink_side terminator targets i x a b c h e r more =
    let bit : ℕ → Bool = λ t. not terminator && get_or sink_side (head_node t) false in
    subst (λ l. Adds l a c) (ap (λ y. map bit (take i targets) ++ y ∷ []) e ∙ sym (map-append bit (take i targets) (get_or targets i 0 ∷ [])) ∙ ap (map bit) (sym (take_more targets i 0 h)))
    (adds_then (map bit (take i targets)) (x ∷ []) a b c r more)

-- one more slot is read, which leads to the block t
pub slot_read : (sink_side : List Bool) (places targets : List ℕ) (terminator : Bool) (i t : ℕ) (x : Bool) (a b c : SetBits) → slice_get targets i ≡ Some t → x ≡ (not terminator && get_or sink_side (head_node (get_or places t 0)) false) →
    ReadsSlots sink_side terminator (take i (targets_by places targets)) a b → Adds (x ∷ []) b c → ReadsSlots sink_side terminator (take (i + 1) (targets_by places targets)) a c
slot_read sink_side places targets terminator i t x a b c there e r more =
    let inside : i < length (targets_by places targets) = let l = slice_get_within targets i t there in omega (arith, l, length-map targets (λ (u : ℕ). get_or places u 0)) in
    slots_more sink_side terminator (targets_by places targets) i x a b c inside
    (e ∙ ap (λ p. not terminator && get_or sink_side (head_node p) false) (sym (map_at (λ (u : ℕ). get_or places u 0) targets i t 0 there))) r more

-- one more step is read, by the results of calls
pub reads_step : (event : ℕ → Event) (head : Bool) (n : ℕ) (ins ins' ins'' kept kept' kept'' : SetBits) (before here last : Event) (x : Bool) → here ≡ event kept'.next → ReadsSteps event head n ins ins' kept kept' before →
    Adds (false ∷ []) ins' ins'' → x ≡ (is_occurrence here && is_owed before head) → Adds (x ∷ []) kept' kept'' → last ≡ event_after here before → ReadsSteps event head (n + 1) ins ins'' kept kept'' last
reads_step event head n ins ins' ins'' kept kept' kept'' before here last x h r e b k l =
    subst (λ y. ReadsSteps event head (n + 1) ins ins'' kept kept'' y) (sym l)
    (reads_more event head n ins ins' ins'' kept kept' kept'' before here r e h (subst (λ y. Adds (y ∷ []) kept' kept'') b k))

pub slots_as_bits : (nodes : ℕ → Bool) (end : Bool) (e : ℕ) (targets : List ℕ) → inserted_slots nodes end (slots_from e targets) ≡ map (λ t. not end && nodes (head_node t)) targets
slots_as_bits nodes end e [] = refl
slots_as_bits nodes end e (t ∷ targets) = ap (λ l. (not end && nodes (head_node t)) ∷ l) (slots_as_bits nodes end (suc e) targets)

-- a block is read by its parts
pub reads_block : (event : ℕ → Event) (sink_side : List Bool) (index : ℕ) (s : Shape) (ins ins' ins'' ins3 kept kept' kept'' kept3 : SetBits) (last : Event) (x : Bool) →
    Adds (false ∷ []) kept kept' → ReadsSteps event (get_or sink_side (head_node index) false) s.instructions ins ins' kept' kept'' last → Adds (false ∷ []) kept'' kept3 →
    x ≡ (get_or sink_side (terminator_node index) false && is_owed last (get_or sink_side (head_node index) false)) → Adds (x ∷ []) ins' ins'' → ReadsSlots sink_side (get_or sink_side (terminator_node index) false) s.targets ins'' ins3 →
    ReadsBlock event (λ v. get_or sink_side v false) index s ins ins3 kept kept3
reads_block event sink_side index s ins ins' ins'' ins3 kept kept' kept'' kept3 last x first steps end e exit slots =
    let nodes : ℕ → Bool = λ v. get_or sink_side v false in
    let h : Bool = nodes (head_node index) in
    let t : Bool = nodes (terminator_node index) in
    let b : Block = block_from index kept.next ins.next s in
    let at : kept'.next ≡ suc kept.next = let n = first.next in omega arith in
    let run : List (ℕ × ℕ) = steps_from ins.next kept'.next s.instructions in
    let same : run ≡ b.steps = ap (λ m. steps_from ins.next m s.instructions) at in
    let bit : x ≡ (t && is_owed (last_event event Passes b.steps) h) = e ∙ ap (λ l. t && is_owed l h) (steps.event_before ∙ ap (last_event event Passes) same) in
    record {
      edges = adds_then (none b.steps) ((t && is_owed (last_event event Passes b.steps) h) ∷ inserted_slots nodes t b.slots) ins ins' ins3
          (subst (λ l. Adds (none l) ins ins') same steps.edges)
          (adds_then ((t && is_owed (last_event event Passes b.steps) h) ∷ []) (inserted_slots nodes t b.slots) ins' ins'' ins3 (subst (λ y. Adds (y ∷ []) ins' ins'') bit exit)
          (subst (λ l. Adds l ins'' ins3) (sym (slots_as_bits nodes t (suc (ins.next + s.instructions)) s.targets)) slots));
      points = adds_then (false ∷ []) (kept_along event h Passes b.steps ++ false ∷ []) kept kept' kept3 first
          (adds_then (kept_along event h Passes b.steps) (false ∷ []) kept' kept'' kept3 (subst (λ l. Adds (kept_along event h Passes l) kept' kept'') same steps.points) end);
      after_edges = let n = steps.next_edge in let m = exit.next in omega (arith, slots.next, length-map s.targets (λ (t : ℕ). not (get_or sink_side (terminator_node index) false) && get_or sink_side (head_node t) false));
      after_points = let n = steps.next_point in let m = end.next in omega arith;
    }

-- more bits are held
pub holds_then : (bits more : List Bool) (a b : SetBits) → Holds bits a → Adds more a b → Holds (bits ++ more) b
holds_then bits more a b h m = record {
  numbers = m.numbers ∙ ap (λ l. l ++ positions a.next more) h.numbers ∙ ap (λ n. positions 0 bits ++ positions n more) (h.next ∙ (let q : length bits ≡ 0 + length bits = omega arith in q)) ∙ sym (positions_append 0 bits more);
  next = let x = h.next in let y = m.next in omega (arith, length-append bits more);
}

pub holds_first : (x : Bool) (a b : SetBits) → a.numbers.items ≡ [] → a.next ≡ 0 → Adds (x ∷ []) a b → Holds (x ∷ []) b
holds_first x a b empty first m = record {
  numbers = m.numbers ∙ ap (λ l. l ++ positions a.next (x ∷ [])) empty ∙ ap (λ n. positions n (x ∷ [])) first;
  next = let y = m.next in omega arith;
}

joined_snoc : (f : Block → List Bool) (blocks : List Block) (b : Block) → bits_joined f (blocks ++ b ∷ []) ≡ bits_joined f blocks ++ f b
joined_snoc f [] b = no_more (f b)
joined_snoc f (a ∷ blocks) b = ap (λ l. f a ++ l) (joined_snoc f blocks b) ∙ sym (append_assoc (f a) (bits_joined f blocks) (f b))

blocks_snoc : (index point edge : ℕ) (shapes : List Shape) (s : Shape) → blocks_from index point edge (shapes ++ s ∷ []) ≡ blocks_from index point edge shapes ++ block_from (index + length shapes) (points_from point shapes) (edges_from edge shapes) s ∷ []
blocks_snoc index point edge [] s = ap (λ i. block_from i point edge s ∷ []) (let q : index ≡ index + 0 = omega arith in q)
blocks_snoc index point edge (a ∷ shapes) s = ap (λ l. block_from index point edge a ∷ l) (blocks_snoc (suc index) (next_point point a) (next_edge edge a) shapes s
    ∙ ap (λ i. blocks_from (suc index) (next_point point a) (next_edge edge a) shapes ++ block_from i (points_from (next_point point a) shapes) (edges_from (next_edge edge a) shapes) s ∷ []) (let q : suc index + length shapes ≡ index + length (a ∷ shapes) = omega arith in q))

pub points_snoc : (point : ℕ) (shapes : List Shape) (s : Shape) → points_from point (shapes ++ s ∷ []) ≡ next_point (points_from point shapes) s
points_snoc point [] s = refl
points_snoc point (a ∷ shapes) s = points_snoc (next_point point a) shapes s

pub edges_snoc : (edge : ℕ) (shapes : List Shape) (s : Shape) → edges_from edge (shapes ++ s ∷ []) ≡ next_edge (edges_from edge shapes) s
edges_snoc edge [] s = refl
edges_snoc edge (a ∷ shapes) s = edges_snoc (next_edge edge a) shapes s

-- one more block is read
pub reads_more_blocks : (event : ℕ → Event) (nodes : ℕ → Bool) (shapes : List Shape) (s : Shape) (ins ins' kept kept' : SetBits) → ReadsBlocks event nodes shapes ins kept → ReadsBlock event nodes (length shapes) s ins ins' kept kept' →
    ReadsBlocks event nodes (shapes ++ s ∷ []) ins' kept'
reads_more_blocks event nodes shapes s ins ins' kept kept' r b =
    let all : List Block = blocks_from 0 1 1 shapes in
    let here : Block = block_from (length shapes) kept.next ins.next s in
    let zero_plus : length shapes ≡ 0 + length shapes = omega arith in
    let same : here ≡ block_from (0 + length shapes) (points_from 1 shapes) (edges_from 1 shapes) s =
    ap (λ i. block_from i kept.next ins.next s) zero_plus ∙ ap (λ p. block_from (0 + length shapes) p ins.next s) r.after_points ∙ ap (λ e. block_from (0 + length shapes) (points_from 1 shapes) e s) r.after_edges in
    let grown : blocks_from 0 1 1 (shapes ++ s ∷ []) ≡ all ++ here ∷ [] = blocks_snoc 0 1 1 shapes s ∙ ap (λ x. all ++ x ∷ []) (sym same) in
    record {
      edges = subst (λ l. Holds (nodes (head_node 0) ∷ l) ins') (sym (ap (bits_joined (inserted_in event nodes)) grown ∙ joined_snoc (inserted_in event nodes) all here))
          (holds_then (nodes (head_node 0) ∷ bits_joined (inserted_in event nodes) all) (inserted_in event nodes here) ins ins' r.edges b.edges);
      points = subst (λ l. Holds (false ∷ l) kept') (sym (ap (bits_joined (kept_in event nodes)) grown ∙ joined_snoc (kept_in event nodes) all here))
          (holds_then (false ∷ bits_joined (kept_in event nodes) all) (kept_in event nodes here) kept kept' r.points b.points);
      after_edges = b.after_edges ∙ ap (λ e. next_edge e s) r.after_edges ∙ sym (edges_snoc 1 shapes s);
      after_points = b.after_points ∙ ap (λ p. next_point p s) r.after_points ∙ sym (points_snoc 1 shapes s);
    }

-- nothing but the first bits was read
pub reads_no_blocks : (event : ℕ → Event) (nodes : ℕ → Bool) (ins ins' kept kept' : SetBits) → ins.numbers.items ≡ [] → ins.next ≡ 0 → kept.numbers.items ≡ [] → kept.next ≡ 0 → Adds (nodes (head_node 0) ∷ []) ins ins' → Adds (false ∷ []) kept kept' → ReadsBlocks event nodes [] ins' kept'
reads_no_blocks event nodes ins ins' kept kept' ie iz ke kz i k = record {
  edges = holds_first (nodes (head_node 0)) ins ins' ie iz i;
  points = holds_first false kept kept' ke kz k;
  after_edges = let n = i.next in omega arith;
  after_points = let n = k.next in omega arith;
}
