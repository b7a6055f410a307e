-- A list compared with bits, one after another.
use Rattle.std.proofs.Common.{◌≡◌, ◌↔◌, ℕ, suc, zero, ◌+◌, ◌<◌, Bool, true, false, not, ◌&&◌, IsTrue, List, [], ◌∷◌, ◌++◌, length, map, take, get_or, refl, sym, ap, ◌∙◌, subst, arith, append_assoc, length-append}
use Rattle.std.proofs.lemmas.List.{map-append, take_more, length-map}
use Rattle.expressions.specs.declared.syntax.Event.{Event}
use Rattle.expressions.specs.declared.syntax.Event.TheVariants.{Passes}
use Rattle.best_placement.specs.BlockNetwork.{head_node, terminator_node, last_event, event_after}
use Rattle.best_placement.specs.ReadOff.{is_owed}
use Rattle.best_placement.specs.Bits.{is_occurrence, positions, none, kept_along, inserted_slots}
use Rattle.best_placement.specs.Blocks.{Block}
use Rattle.best_placement.specs.Shapes.{Shape, steps_from, block_from}
use Rattle.read_off.proofs.Adding.{kept_snoc, last_snoc, slots_as_bits}
use Rattle.places_check.specs.Walked.{IsLeft, GoesPast, GoesSteps, GoesSlots, GoesBlock}
use Rattle.places_check.specs.declared.cursor.Cursor.{Cursor}

-- the number of the next bit grows
abbrev pub moved : Cursor → ℕ → Cursor
moved c n = record { left = c.left; next = c.next + n; agrees = c.agrees }

pub set_passed : (old taken : Cursor) → taken.next ≡ old.next → ((rest : List ℕ) → (IsTrue old.agrees × (old.left.now ≡ old.next ∷ rest)) ↔ (IsTrue taken.agrees × (taken.left.now ≡ rest)))
    → GoesPast (true ∷ []) old (moved taken 1)
set_passed old taken e takes = record {
  next = omega arith;
  left = λ more. subst (λ n. (IsTrue old.agrees × (old.left.now ≡ old.next ∷ positions (suc old.next) more)) ↔ (IsTrue taken.agrees × (taken.left.now ≡ positions n more)))
      (let q : suc old.next ≡ taken.next + 1 = omega arith in q) (takes (positions (suc old.next) more));
}

positions_none : (n e v k : ℕ) (more : List Bool) → positions n (none (steps_from e v k) ++ more) ≡ positions (n + k) more
positions_none n e v zero more = ap (λ m. positions m more) (let q : n ≡ n + 0 = omega arith in q)
positions_none n e v (suc k) more = positions_none (suc n) (suc e) (suc v) k more ∙ ap (λ m. positions m more) (let q : suc n + k ≡ n + suc k = omega arith in q)

pub length_none : (e v k : ℕ) → length (none (steps_from e v k)) ≡ k
length_none e v zero = refl
length_none e v (suc k) = let r = length_none (suc e) (suc v) k in omega arith

pub unset_passed : (old : Cursor) (e v k : ℕ) → GoesPast (none (steps_from e v k)) old (moved old k)
unset_passed old e v k = record {
  next = omega (arith, length_none e v k);
  left = λ more. subst (λ l. IsLeft (none (steps_from e v k) ++ more) old ↔ (IsTrue old.agrees × (old.left.now ≡ l))) (positions_none old.next e v k more) ((λ h. h), (λ h. h));
}

pub goes_none : (a : Cursor) → GoesPast [] a a
goes_none a = record { next = omega arith; left = λ more. ((λ h. h), (λ h. h)) }

pub goes_then : (bits more : List Bool) (a b c : Cursor) → GoesPast bits a b → GoesPast more b c → GoesPast (bits ++ more) a c
goes_then bits more a b c f s = record {
  next = let x = f.next in let y = s.next in omega (arith, length-append bits more);
  left = λ rest. subst (λ l. IsLeft l a ↔ IsLeft rest c) (sym (append_assoc bits more rest))
      ((λ h. (s.left rest).0 ((f.left (more ++ rest)).0 h)), (λ h. (f.left (more ++ rest)).1 ((s.left rest).1 h)));
}

-- ---- steps

pub steps_none : (event : ℕ → Event) (head : Bool) (edge : ℕ) (a : Cursor) → GoesSteps event head edge 0 a a Passes
steps_none event head edge a = record { points = goes_none a; event_before = refl }

-- one more step is passed
pub steps_more : (event : ℕ → Event) (head : Bool) (edge n : ℕ) (a b c : Cursor) (before here last : Event) (x : Bool) → b.next ≡ a.next + n → here ≡ event b.next → GoesSteps event head edge n a b before
    → x ≡ (is_occurrence here && is_owed before head) → GoesPast (x ∷ []) b c → last ≡ event_after here before → GoesSteps event head edge (n + 1) a c last
steps_more event head edge n a b c before here last x next h steps e more l =
    let one : suc n ≡ n + 1 = omega arith in
    let at : here ≡ event (a.next + n) = h ∙ ap event next in
    let run : List (ℕ × ℕ) = steps_from edge a.next n in
    let bit : x ≡ (is_occurrence (event (a.next + n)) && is_owed (last_event event Passes run) head) =
    e ∙ ap (λ k. is_occurrence k && is_owed before head) at ∙ ap (λ k. is_occurrence (event (a.next + n)) && is_owed k head) steps.event_before in
    subst (λ m. GoesSteps event head edge m a c last) one (record {
      points = subst (λ bits. GoesPast bits a c) (ap (λ y. kept_along event head Passes run ++ y ∷ []) bit ∙ sym (kept_snoc event head Passes edge a.next n))
          (goes_then (kept_along event head Passes run) (x ∷ []) a b c steps.points more);
      event_before = l ∙ ap (λ k. event_after k before) at ∙ ap (event_after (event (a.next + n))) steps.event_before ∙ sym (last_snoc event Passes edge a.next n);
    })

-- ---- slots

pub slots_none : (sink_side : List Bool) (terminator : Bool) (targets : List ℕ) (a : Cursor) → GoesSlots sink_side terminator (take 0 targets) a a
slots_none sink_side terminator targets a = goes_none a

-- one more slot is passed
pub slots_more : (sink_side : List Bool) (terminator : Bool) (targets : List ℕ) (i place : ℕ) (x : Bool) (a b c : Cursor) → i < length targets → place ≡ get_or targets i 0
    → x ≡ (not terminator && get_or sink_side (head_node place) false) → GoesSlots sink_side terminator (take i targets) a b → GoesPast (x ∷ []) b c → GoesSlots sink_side terminator (take (i + 1) targets) a c
slots_more sink_side terminator targets i place x a b c h there e slots more =
    let bit : ℕ → Bool = λ t. not terminator && get_or sink_side (head_node t) false in
    subst (λ l. GoesPast l a c) (ap (λ y. map bit (take i targets) ++ y ∷ []) (e ∙ ap bit there) ∙ sym (map-append bit (take i targets) (get_or targets i 0 ∷ [])) ∙ ap (map bit) (sym (take_more targets i 0 h)))
    (goes_then (map bit (take i targets)) (x ∷ []) a b c slots more)

-- ---- blocks

-- a block is passed by its parts
pub goes_block : (event : ℕ → Event) (sink_side : List Bool) (place : ℕ) (s : Shape) (ins ins' ins'' ins3 kept kept' kept'' kept3 : Cursor) (last : Event) (x : Bool)
    → GoesPast (false ∷ []) kept kept' → GoesSteps event (get_or sink_side (head_node place) false) ins.next s.instructions kept' kept'' last → GoesPast (false ∷ []) kept'' kept3
    → ((e v : ℕ) → GoesPast (none (steps_from e v s.instructions)) ins ins')
    → x ≡ (get_or sink_side (terminator_node place) false && is_owed last (get_or sink_side (head_node place) false)) → GoesPast (x ∷ []) ins' ins''
    → GoesSlots sink_side (get_or sink_side (terminator_node place) false) s.targets ins'' ins3
    → GoesBlock event (λ v. get_or sink_side v false) place s ins ins3 kept kept3
goes_block event sink_side place s ins ins' ins'' ins3 kept kept' kept'' kept3 last x first steps end unset e exit slots =
    let nodes : ℕ → Bool = λ v. get_or sink_side v false in
    let h : Bool = nodes (head_node place) in
    let t : Bool = nodes (terminator_node place) in
    let b : Block = block_from place kept.next ins.next s in
    let at : kept'.next ≡ suc kept.next = let n = first.next in omega arith in
    let same : steps_from ins.next kept'.next s.instructions ≡ b.steps = ap (λ m. steps_from ins.next m s.instructions) at in
    let owed : Bool = t && is_owed (last_event event Passes b.steps) h in
    let bit : x ≡ owed = e ∙ ap (λ l. t && is_owed l h) (steps.event_before ∙ ap (last_event event Passes) same) in
    record {
      edges = goes_then (none b.steps) (owed ∷ inserted_slots nodes t b.slots) ins ins' ins3 (unset ins.next (suc kept.next))
          (goes_then (owed ∷ []) (inserted_slots nodes t b.slots) ins' ins'' ins3 (subst (λ y. GoesPast (y ∷ []) ins' ins'') bit exit)
          (subst (λ l. GoesPast l ins'' ins3) (sym (slots_as_bits nodes t (suc (ins.next + s.instructions)) s.targets)) slots));
      points = goes_then (false ∷ []) (kept_along event h Passes b.steps ++ false ∷ []) kept kept' kept3 first
          (goes_then (kept_along event h Passes b.steps) (false ∷ []) kept' kept'' kept3 (subst (λ l. GoesPast (kept_along event h Passes l) kept' kept'') same steps.points) end);
    }

pub slots_next : (sink_side : List Bool) (terminator : Bool) (targets : List ℕ) (a b : Cursor) → GoesSlots sink_side terminator targets a b → b.next ≡ a.next + length targets
slots_next sink_side terminator targets a b slots = omega (arith, slots.next, length-map targets (λ (u : ℕ). not terminator && get_or sink_side (head_node u) false))
