-- Steps of the loops that set bits and collect numbers.
use Rattle.std.proofs.Common.{ap, ◌∙◌, get_or, ◌≡◌, ℕ, ◌<◌, ◌≤◌, ◌+◌, Bool, true, List, [], ◌∷◌, ◌++◌, length, set, sym, subst, ◌⊎◌, inl, inr, ⊎_elim, Contains, ◌↔◌, arith}
use Rattle.std.specs.List.Sorted.{IsStrictlyIncreasing}
use Rattle.std.proofs.lemmas.Bool.{cases_eq, cases_lt}
use Rattle.std.proofs.lemmas.List.{length-append, get_or_append_left, get_or-append-add}
use Rattle.std.proofs.lemmas.List.Elements.{Contains-append_left, Contains-push, Contains-push_cases, Contains-get_or}
use Rattle.flow_paths.specs.Paths.{target}
use Rattle.flow_paths.specs.Spreads.{IsSet}
use Rattle.flow_paths.proofs.PathLemmas.{IsSet-set, IsSet-kept, IsSet-cases}
use Rattle.lazy_motion.specs.Steps.{EndsUndelayed}

-- the list holds exactly those of the first n numbers with P
abbrev pub Collected : (ℕ → Type 0) → ℕ → List ℕ → Type 0
Collected P n items = (k : ℕ) → Contains items k ↔ ((k < n) × P k)

pub Collected-start : (P : ℕ → Type 0) → Collected P 0 []
Collected-start P k = (λ c. absurd (let h : c.0 < 0 = c.1 in omega arith), λ h. absurd (let l : k < 0 = h.0 in omega arith))

pub Collected-push : (P : ℕ → Type 0) (n : ℕ) (items : List ℕ) → P n → Collected P n items → Collected P (n + 1) (items ++ n ∷ [])
Collected-push P n items here w k = (
  λ c. ⊎_elim
      (λ (i : Contains items k). let h = (w k).0 i in let l : k < n = h.0 in (omega arith, h.1))
      (λ (e : n ≡ k). (omega arith, subst P e here))
      (Contains-push_cases items n k c),
  λ h. ⊎_elim
      (λ (e : k ≡ n). subst (λ x. Contains (items ++ n ∷ []) x) (sym e) (Contains-push items n))
      (λ (ne : k ≡ n → ⊥). let l : k < n + 1 = h.0 in Contains-append_left items (n ∷ []) k ((w k).1 (omega arith, h.1)))
      (cases_eq k n),
)

pub Collected-skip : (P : ℕ → Type 0) (n : ℕ) (items : List ℕ) → ¬ (P n) → Collected P n items → Collected P (n + 1) items
Collected-skip P n items other w k = (
  λ c. let h = (w k).0 c in let l : k < n = h.0 in (omega arith, h.1),
  λ h. ⊎_elim
      (λ (e : k ≡ n). absurd (other (subst P e h.1)))
      (λ (ne : k ≡ n → ⊥). let l : k < n + 1 = h.0 in (w k).1 (omega arith, h.1))
      (cases_eq k n),
)

-- the list holds exactly those of the first n numbers with P, in ascending order
pub record Gathered (P : ℕ → Type 0) (n : ℕ) (items : List ℕ) : Type 0 where
  pub collected : Collected P n items
  pub rising : IsStrictlyIncreasing items

pub IsStrictlyIncreasing-push : (xs : List ℕ) (n : ℕ) → ((k : ℕ) → Contains xs k → k < n) → IsStrictlyIncreasing xs → IsStrictlyIncreasing (xs ++ n ∷ [])
IsStrictlyIncreasing-push xs n below r k h =
    let len : k + 1 < length xs + 1 = simp length-append at h in
    let left : k < length xs = omega arith in
    let here : get_or (xs ++ n ∷ []) k 0 ≡ get_or xs k 0 = get_or_append_left xs (n ∷ []) 0 k left in
    ⊎_elim
    (λ (l : k + 1 < length xs).
    let next : get_or (xs ++ n ∷ []) (k + 1) 0 ≡ get_or xs (k + 1) 0 = get_or_append_left xs (n ∷ []) 0 (k + 1) l in
    let s : get_or xs k 0 < get_or xs (k + 1) 0 = r k l in
    omega arith)
    (λ (g : length xs ≤ k + 1).
    let next : get_or (xs ++ n ∷ []) (length xs + 0) 0 ≡ n = get_or-append-add xs (n ∷ []) 0 0 in
    let e : k + 1 ≡ length xs + 0 = omega arith in
    let last : get_or (xs ++ n ∷ []) (k + 1) 0 ≡ n = ap (λ i. get_or (xs ++ n ∷ []) i 0) e ∙ next in
    let b : get_or xs k 0 < n = below (get_or xs k 0) (Contains-get_or xs k 0 left) in
    omega arith)
    (cases_lt (k + 1) (length xs))

pub Gathered-start : (P : ℕ → Type 0) → Gathered P 0 []
Gathered-start P = record { collected = Collected-start P; rising = λ k h. absurd (omega arith) }

pub Gathered-push : (P : ℕ → Type 0) (n : ℕ) (items : List ℕ) → P n → Gathered P n items → Gathered P (n + 1) (items ++ n ∷ [])
Gathered-push P n items here g = record {
  collected = Collected-push P n items here g.collected;
  rising = IsStrictlyIncreasing-push items n (λ k c. ((g.collected k).0 c).0) g.rising;
}

pub Gathered-skip : (P : ℕ → Type 0) (n : ℕ) (items : List ℕ) → ¬ (P n) → Gathered P n items → Gathered P (n + 1) items
Gathered-skip P n items other g = record { collected = Collected-skip P n items other g.collected; rising = g.rising }

-- the bits are those of before and the ends of undelayed edges among the first n
abbrev pub Ended : List (ℕ × ℕ) → List Bool → List Bool → ℕ → List Bool → Type 0
Ended arcs delayed before n bits = (v : ℕ) → IsSet bits v ↔ (IsSet before v ⊎ EndsUndelayed arcs delayed n v)

module _ (arcs : List (ℕ × ℕ)) (delayed before : List Bool) where
  pub Ended-start : Ended arcs delayed before 0 before
  Ended-start v = (λ s. inl s, λ k. ⊎_elim (λ (s : IsSet before v). s) (λ (b : EndsUndelayed arcs delayed 0 v). absurd (let h : b.edge < 0 = b.is_edge in omega arith)) k)

  earlier : (n v : ℕ) → EndsUndelayed arcs delayed n v → EndsUndelayed arcs delayed (n + 1) v
  earlier n v k = record { edge = k.edge; is_edge = let h : k.edge < n = k.is_edge in omega arith; undelayed = k.undelayed; ends = k.ends }

  later : (n v : ℕ) → EndsUndelayed arcs delayed (n + 1) v → EndsUndelayed arcs delayed n v ⊎ ((¬ (IsSet delayed n)) × (target arcs n ≡ v))
  later n v k =
      let h : k.edge < n + 1 = k.is_edge in ⊎_elim
      (λ (q : k.edge ≡ n). inr (subst (λ x. ¬ (IsSet delayed x)) q k.undelayed, subst (λ x. target arcs x ≡ v) q k.ends))
      (λ (ne : k.edge ≡ n → ⊥). inl (record { edge = k.edge; is_edge = omega arith; undelayed = k.undelayed; ends = k.ends }))
      (cases_eq k.edge n)

  pub Ended-skip : (n : ℕ) (bits : List Bool) → IsSet delayed n → Ended arcs delayed before n bits → Ended arcs delayed before (n + 1) bits
  Ended-skip n bits is w v = (
    λ s. ⊎_elim (λ (b : IsSet before v). inl b) (λ (k : EndsUndelayed arcs delayed n v). inr (earlier n v k)) ((w v).0 s),
    λ t. ⊎_elim
        (λ (b : IsSet before v). (w v).1 (inl b))
        (λ (k : EndsUndelayed arcs delayed (n + 1) v). ⊎_elim
        (λ (e : EndsUndelayed arcs delayed n v). (w v).1 (inr e))
        (λ (l : (¬ (IsSet delayed n)) × (target arcs n ≡ v)). absurd (l.0 is))
        (later n v k))
        t,
  )

  pub Ended-set : (n : ℕ) (bits : List Bool) → target arcs n < length bits → ¬ (IsSet delayed n) → Ended arcs delayed before n bits → Ended arcs delayed before (n + 1) (set bits (target arcs n) true)
  Ended-set n bits within is w v = (
    λ s. ⊎_elim
        (λ (q : v ≡ target arcs n). inr (record { edge = n; is_edge = omega arith; undelayed = is; ends = sym q }))
        (λ (b : IsSet bits v). ⊎_elim (λ (b : IsSet before v). inl b) (λ (k : EndsUndelayed arcs delayed n v). inr (earlier n v k)) ((w v).0 b))
        (IsSet-cases bits (target arcs n) v s),
    λ t. ⊎_elim
        (λ (b : IsSet before v). IsSet-kept bits (target arcs n) v within ((w v).1 (inl b)))
        (λ (k : EndsUndelayed arcs delayed (n + 1) v). ⊎_elim
        (λ (e : EndsUndelayed arcs delayed n v). IsSet-kept bits (target arcs n) v within ((w v).1 (inr e)))
        (λ (l : (¬ (IsSet delayed n)) × (target arcs n ≡ v)). subst (λ x. IsSet (set bits (target arcs n) true) x) l.1 (IsSet-set bits (target arcs n) within))
        (later n v k))
        t,
  )
