-- What a `Vec` holds once a slice of it was written.
use Rattle.std.proofs.Common.{◌≡◌, ℕ, List, ◌++◌, length, take, drop, sym, ◌∙◌, subst, ap}
use Rattle.std.proofs.Math.Seq.{take-append_seam}
use Rattle.dataflow.specs.FixedPoints.{IsGreatestFixedPoint}
use Rattle.std.proofs.Common.{get_or}

-- the written slice has the length of the `Vec`, so it is all that the `Vec` holds
pub written_back : {V : Type 0} (items new : List V) (n : ℕ) → length new ≡ n → take n (new ++ drop (length new) items) ≡ new
written_back items new n e = ap (λ k. take k (new ++ drop (length new) items)) (sym e) ∙ take-append_seam new (drop (length new) items)

pub solution_at : {V : Type 0} (Alike : V → V → Type 0) (met : V → V → V) (leaving : ℕ → V → V) (arcs : List (ℕ × ℕ)) (nodes : ℕ) (d : V) (start entry exit start' entry' exit' : List V) (nodes' : ℕ) → start' ≡ start → entry' ≡ entry → exit' ≡ exit → nodes' ≡ nodes
    → IsGreatestFixedPoint Alike met leaving arcs nodes' (λ n. get_or start' n d) (λ n. get_or entry' n d) (λ n. get_or exit' n d)
    → IsGreatestFixedPoint Alike met leaving arcs nodes (λ n. get_or start n d) (λ n. get_or entry n d) (λ n. get_or exit n d)
solution_at Alike met leaving arcs nodes d start entry exit start' entry' exit' nodes' a b c e h =
    subst (λ xs. IsGreatestFixedPoint Alike met leaving arcs nodes (λ n. get_or xs n d) (λ n. get_or entry n d) (λ n. get_or exit n d)) a
    (subst (λ xs. IsGreatestFixedPoint Alike met leaving arcs nodes (λ n. get_or start' n d) (λ n. get_or xs n d) (λ n. get_or exit n d)) b
    (subst (λ xs. IsGreatestFixedPoint Alike met leaving arcs nodes (λ n. get_or start' n d) (λ n. get_or entry' n d) (λ n. get_or xs n d)) c
    (subst (λ k. IsGreatestFixedPoint Alike met leaving arcs k (λ n. get_or start' n d) (λ n. get_or entry' n d) (λ n. get_or exit' n d)) e h)))
