-- Paths meet each block.
use Rattle.std.proofs.Common.{◌≡◌, ℕ, zero, suc, ◌+◌, ◌*◌, ◌/◌, ◌%◌, ◌<◌, ◌≤◌, List, [], ◌∷◌, ◌++◌, Option, Some, slice_get, refl, ap, subst, ◌∙◌, arith, inl, inr}
use Rattle.std.specs.Option.{option_and_then}
use Rattle.std.proofs.lemmas.Bool.{cases_lt}
use Rattle.ir_types.specs.declared.syntax.Block.{Block}
use Rattle.ir_types.specs.declared.syntax.Function.{Function}
use Rattle.flow_graph.specs.Slots.{slots_of, next_block}
use Rattle.flow_graph.specs.Paths.{IsPath, IsReached}
use Rattle.workload.specs.Workload.{end, round_blocks, main_function}
use Rattle.workload.proofs.Tails.{tail, length_tail}

-- ---- the blocks by their numbers

front : (a : ℕ) (xs : List Block) (r : ℕ) → r < 4 → slice_get (round_blocks a ++ xs) r ≡ slice_get (round_blocks a) r
front a xs zero lt = refl
front a xs (suc zero) lt = refl
front a xs (suc (suc zero)) lt = refl
front a xs (suc (suc (suc zero))) lt = refl
front a xs (suc (suc (suc (suc r)))) lt = absurd (omega arith)

-- block r of round i of these rounds
at_round : (a k i r : ℕ) → i < k → r < 4 → slice_get (tail a k) (4 * i + r) ≡ slice_get (round_blocks (a + i)) r
at_round a zero i r lt few = absurd (omega arith)
at_round a (suc k) zero r lt few =
    let here : 4 * 0 + r ≡ r = omega arith in
    let same : a ≡ a + 0 = omega arith in
    ap (slice_get (tail a (suc k))) here ∙ front a (tail (a + 1) k) r few ∙ ap (λ x. slice_get (round_blocks x) r) same
at_round a (suc k) (suc i) r lt few =
    let here : 4 * suc i + r ≡ suc (suc (suc (suc (4 * i + r)))) = omega arith in
    let same : a + 1 + i ≡ a + suc i = omega arith in
    ap (slice_get (tail a (suc k))) here ∙ at_round (a + 1) k i r (omega arith) few ∙ ap (λ x. slice_get (round_blocks x) r) same

at_last : (a k : ℕ) → slice_get (tail a k) (4 * k) ≡ Some end
at_last a zero = refl
at_last a (suc k) =
    let here : 4 * suc k ≡ suc (suc (suc (suc (4 * k)))) = omega arith in
    ap (slice_get (tail a (suc k))) here ∙ at_last (a + 1) k

pub at_end : (n b : ℕ) → b ≡ 4 * n + 1 → slice_get (main_function n).blocks b ≡ Some end
at_end n b e =
    let here : b ≡ suc (4 * n) = omega (arith, e) in
    ap (slice_get (main_function n).blocks) here ∙ at_last 0 n

-- ---- paths

path_on : (f : Function) (a : ℕ) (path : List ℕ) (b slot c : ℕ) → IsPath f a path b → next_block f b slot ≡ Some c → IsPath f a (path ++ slot ∷ []) c
path_on f a [] b slot c same next = (c, ap (λ x. next_block f x slot) same ∙ next, refl)
path_on f a (first ∷ path) b slot c leads next = (leads.0, leads.1, path_on f leads.0 path b slot c leads.2 next)

abbrev IsMet : ℕ → ℕ → Type 0
IsMet n b = IsReached (main_function n) b

abbrev slot_in : ℕ → Option Block → Option ℕ
slot_in slot o = option_and_then (λ x. slice_get (slots_of x.term) slot) o

-- from block r of round j by this slot
step : (n j r slot b c : ℕ) → j < n → r < 4 → slot_in slot (slice_get (round_blocks j) r) ≡ Some c → b ≡ suc (4 * j + r) → c < 4 * n + 2 → IsMet n b → IsMet n c
step n j r slot b c lt few leads is inside met =
    let at : next_block (main_function n) b slot ≡ Some c =
    ap (λ x. next_block (main_function n) x slot) is
    ∙ (ap (slot_in slot) (at_round 0 n j r lt few) ∙ (let same : 0 + j ≡ j = omega arith in ap (λ x. slot_in slot (slice_get (round_blocks x) r)) same) ∙ leads) in
    record { inside = omega (arith, length_tail 0 n); path = met.path ++ slot ∷ []; leads = path_on (main_function n) 0 met.path b slot c met.leads at }

-- where a round starts, and the end
starts : (n j : ℕ) → j ≤ n → IsMet n (4 * j + 1)
starts n zero le = record { inside = omega (arith, length_tail 0 n); path = 0 ∷ []; leads = (1, refl, refl) }
starts n (suc j) le =
    let first = starts n j (omega arith) in
    let left = step n j 0 0 (4 * j + 1) (4 * j + 2) (omega arith) (omega arith) refl (omega arith) (omega arith) first in
    let join = step n j 1 0 (4 * j + 2) (4 * j + 4) (omega arith) (omega arith) refl (omega arith) (omega arith) left in
    let next = step n j 3 0 (4 * j + 4) (4 * j + 5) (omega arith) (omega arith) refl (omega arith) (omega arith) join in
    let same : 4 * j + 5 ≡ 4 * suc j + 1 = omega arith in
    subst (IsMet n) same next

rest : (n j r : ℕ) → r < 4 → j < n → IsMet n (4 * j + 1 + r)
rest n j zero few lt = let same : 4 * j + 1 ≡ 4 * j + 1 + 0 = omega arith in subst (IsMet n) same (starts n j (omega arith))
rest n j (suc zero) few lt =
    let left = step n j 0 0 (4 * j + 1) (4 * j + 2) lt (omega arith) refl (omega arith) (omega arith) (starts n j (omega arith)) in
    let same : 4 * j + 2 ≡ 4 * j + 1 + 1 = omega arith in
    subst (IsMet n) same left
rest n j (suc (suc zero)) few lt =
    let right = step n j 0 1 (4 * j + 1) (4 * j + 3) lt (omega arith) refl (omega arith) (omega arith) (starts n j (omega arith)) in
    let same : 4 * j + 3 ≡ 4 * j + 1 + 2 = omega arith in
    subst (IsMet n) same right
rest n j (suc (suc (suc zero))) few lt =
    let left = step n j 0 0 (4 * j + 1) (4 * j + 2) lt (omega arith) refl (omega arith) (omega arith) (starts n j (omega arith)) in
    let join = step n j 1 0 (4 * j + 2) (4 * j + 4) lt (omega arith) refl (omega arith) (omega arith) left in
    let same : 4 * j + 4 ≡ 4 * j + 1 + 3 = omega arith in
    subst (IsMet n) same join
rest n j (suc (suc (suc (suc r)))) few lt = absurd (omega arith)

pub all_met : (n b : ℕ) → b < 4 * n + 2 → IsReached (main_function n) b
all_met n zero lt = record { inside = omega (arith, length_tail 0 n); path = []; leads = refl }
all_met n (suc b) lt = elim (cases_lt (b / 4) n) [
  | inl inside ↦ (let same : 4 * (b / 4) + 1 + b % 4 ≡ suc b = omega arith in subst (IsMet n) same (rest n (b / 4) (b % 4) (omega arith) inside))
  | inr last ↦ (let same : 4 * n + 1 ≡ suc b = omega arith in subst (IsMet n) same (starts n n (omega arith)))
]
