-- A tally as it is made.
use Rattle.std.proofs.Common.{◌≡◌, ℕ, zero, suc, ◌+◌, ◌<◌, Bool, true, false, cond, List, [], ◌∷◌, ◌++◌, length, map, take, drop, replicate, get_or, refl, sym, ap, ◌∙◌, arith, append_assoc, length-append}
use Rattle.std.specs.Prelude.{◌==◌}
use Rattle.std.proofs.Math.Seq.{drop-cons}
use Rattle.std.proofs.lemmas.List.{replicate-append-replicate, take_more, length-replicate}
use Rattle.std.proofs.lemmas.List.Sums.{sum_by-cons, sum_by_push}
use Rattle.ir_types.specs.Limits.{slot_count}
use Rattle.ir_types.specs.declared.syntax.Block.{Block}
use Rattle.ir_types.specs.declared.syntax.Function.{Function}
use Rattle.ir_machine.specs.Same.{is_defined}
use Rattle.ir_machine.specs.Prof.{takings, function_counts}
use Rattle.profile.specs.declared.counts.FnCounts.{FnCounts}
use Rattle.run_counts.specs.Counted.{fn_counts}
use Rattle.run_counts.proofs.Splits.{map-append}
use Rattle.run_counts.proofs.Keys.{keys_of, keys_from}
use Rattle.run_counts.proofs.Tallied.{slot_takings_are, defined_from}
use Rattle.interp.specs.Tallies.{starts_from, slots_in}
use Rattle.interp.specs.TallyOf.{first_counts, places_from}
use Rattle.interp.specs.declared.tally.Places.{Places}

-- ---- blocks

pub starts_next : (starts slots : List ℕ) (blocks : List Block) (i n : ℕ) (d : Block) → i < length blocks → n ≡ slot_count (get_or blocks i d).term → (starts ++ length slots ∷ []) ++ starts_from (length (slots ++ replicate n 0)) (drop (i + 1) blocks) ≡ starts ++ starts_from (length slots) (drop i blocks)
starts_next starts slots blocks i n d lt is =
    let e : suc i ≡ i + 1 = omega arith in
    let len : length (slots ++ replicate n 0) ≡ length slots + slot_count (get_or blocks i d).term = length-append slots (replicate n 0) ∙ ap (λ k. length slots + k) (length-replicate n 0 ∙ is) in
    append_assoc starts (length slots ∷ []) (starts_from (length (slots ++ replicate n 0)) (drop (i + 1) blocks))
    ∙ ap (λ k. starts ++ length slots ∷ starts_from k (drop (i + 1) blocks)) len
    ∙ ap (λ k. starts ++ length slots ∷ starts_from (length slots + slot_count (get_or blocks i d).term) (drop k blocks)) (sym e)
    ∙ ap (λ l. starts ++ starts_from (length slots) l) (sym (drop-cons blocks i d lt))

abbrev zeros : ℕ → List ℕ
zeros n = replicate n 0

pub slots_next : (blocks : List Block) (i n : ℕ) (d : Block) → i < length blocks → n ≡ slot_count (get_or blocks i d).term → zeros (slots_in (take i blocks)) ++ zeros n ≡ zeros (slots_in (take (i + 1) blocks))
slots_next blocks i n d lt is =
    let a : slots_in (take (i + 1) blocks) ≡ slots_in (take i blocks) + n = ap slots_in (take_more blocks i d lt) ∙ sum_by_push (λ b. slot_count b.term) (take i blocks) (get_or blocks i d) ∙ ap (λ k. slots_in (take i blocks) + k) (sym is) in
    replicate-append-replicate (slots_in (take i blocks)) n 0 ∙ ap zeros (sym a)

-- ---- functions

-- no slot was taken yet
no_takings : (function i : ℕ) (blocks : List Block) → map (λ k. takings [] function k.0 k.1) (keys_from i blocks) ≡ replicate (slots_in blocks) 0
no_takings function i [] = refl
no_takings function i (b ∷ blocks) =
    let t : ℕ × ℕ → ℕ = λ k. takings [] function k.0 k.1 in
    let n = slot_count b.term in
    map-append t (keys_of i 0 n) (keys_from (i + 1) blocks)
    ∙ ap (λ l. l ++ map t (keys_from (i + 1) blocks)) (no_slots 0 n)
    ∙ ap (λ l. replicate n 0 ++ l) (no_takings function (i + 1) blocks)
    ∙ replicate-append-replicate n (slots_in blocks) 0
    ∙ ap (λ k. replicate k 0) (sym (sum_by-cons (λ b. slot_count b.term) b blocks)) where
      no_slots : (from n : ℕ) → map (λ k. takings [] function k.0 k.1) (keys_of i from n) ≡ replicate n 0
      no_slots from zero = refl
      no_slots from (suc n) = ap (λ l. 0 ∷ l) (no_slots (from + 1) n)

first_are : (main number : ℕ) (f : Function) → fn_counts (function_counts main [] number f) ≡ record { entry = cond (number == main) 1 0; slots = replicate (slots_in f.blocks) 0 }
first_are main number f =
    let a = slot_takings_are [] number f.blocks ∙ no_takings number 0 f.blocks in
    let b : 0 + cond (number == main) 1 0 ≡ cond (number == main) 1 0 = omega arith in
    cc

abbrev pub counts_left : ℕ → ℕ → List Function → List FnCounts
counts_left main number fs = map fn_counts (map (λ x. function_counts main [] x.0 x.1) (defined_from number fs))

left_next : (main number : ℕ) (f : Function) (fs : List Function) → first_counts (number == main) f ++ counts_left main (number + 1) fs ≡ counts_left main number (f ∷ fs)
left_next main number f fs =
    let rest = defined_from (number + 1) fs in
    let first : FnCounts = record { entry = cond (number == main) 1 0; slots = replicate (slots_in f.blocks) 0 } in
    elim (is_defined f.blocks) as (λ b. cond b (first ∷ []) [] ++ counts_left main (number + 1) fs ≡ map fn_counts (map (λ x. function_counts main [] x.0 x.1) (cond b ((number, f) ∷ rest) rest))) [
      | true ↦ ap (λ c. c ∷ counts_left main (number + 1) fs) (sym (first_are main number f))
      | false ↦ refl
    ]

append-nil : {X : Type 0} (xs : List X) → xs ++ [] ≡ xs
append-nil [] = refl
append-nil (x ∷ xs) = ap (λ l. x ∷ l) (append-nil xs)

pub counts_next : (main number : ℕ) (fs : List Function) (d : Function) (built : List FnCounts) → number < length fs → (built ++ first_counts (number == main) (get_or fs number d)) ++ counts_left main (number + 1) (drop (number + 1) fs) ≡ built ++ counts_left main number (drop number fs)
counts_next main number fs d built lt =
    let e : suc number ≡ number + 1 = omega arith in
    let f = get_or fs number d in
    append_assoc built (first_counts (number == main) f) (counts_left main (number + 1) (drop (number + 1) fs))
    ∙ ap (λ l. built ++ l) (left_next main number f (drop (number + 1) fs))
    ∙ ap (λ k. built ++ counts_left main number (f ∷ drop k fs)) (sym e)
    ∙ ap (λ l. built ++ counts_left main number l) (sym (drop-cons fs number d lt))

pub places_next : (number : ℕ) (fs : List Function) (d : Function) (is_main : Bool) (built : List Places) (counts : List FnCounts) → number < length fs → (built ++ record { index = length counts; starts = starts_from 0 (get_or fs number d).blocks } ∷ []) ++ places_from (length (counts ++ first_counts is_main (get_or fs number d))) (drop (number + 1) fs) ≡ built ++ places_from (length counts) (drop number fs)
places_next number fs d is_main built counts lt =
    let e : suc number ≡ number + 1 = omega arith in
    let f = get_or fs number d in
    let here : Places = record { index = length counts; starts = starts_from 0 f.blocks } in
    let first : FnCounts = record { entry = cond is_main 1 0; slots = replicate (slots_in f.blocks) 0 } in
    let n : (b : Bool) → length (counts ++ cond b (first ∷ []) []) ≡ cond b (length counts + 1) (length counts) = elim [ true ↦ length-append counts (first ∷ []) | false ↦ ap length (append-nil counts) ] in
    append_assoc built (here ∷ []) (places_from (length (counts ++ first_counts is_main f)) (drop (number + 1) fs))
    ∙ ap (λ k. built ++ here ∷ places_from k (drop (number + 1) fs)) (n (is_defined f.blocks))
    ∙ ap (λ k. built ++ here ∷ places_from (cond (is_defined f.blocks) (length counts + 1) (length counts)) (drop k fs)) (sym e)
    ∙ ap (λ l. built ++ places_from (length counts) l) (sym (drop-cons fs number d lt))
