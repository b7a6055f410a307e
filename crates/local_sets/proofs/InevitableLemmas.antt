-- Inevitable points: a larger bound serves, finitely many bounds have a common one, and a closed set has them all.
use Rattle.std.proofs.Common.{◌≡◌, ◌≢◌, ℕ, zero, suc, ◌<◌, ◌+◌, List, length, sym, subst, ⊎_elim, inl, inr, arith}
use Rattle.std.proofs.lemmas.Bool.{cases_eq}
use Rattle.flow_paths.specs.Paths.{source, target, ArcsWithin}
use Rattle.flow_paths.specs.Inevitable.{LeadsAllTo, IsInevitableWithin, IsInevitable}

module _ (arcs : List (ℕ × ℕ)) (Occurs Stops : ℕ → Type 0) where
  abbrev Within : ℕ → ℕ → Type 0
  Within k v = IsInevitableWithin arcs Occurs Stops k v

  pub leads_map : (P Q : ℕ → Type 0) → ((w : ℕ) → P w → Q w) → (v : ℕ) → LeadsAllTo arcs P v → LeadsAllTo arcs Q v
  leads_map P Q f v l = record { arc = l.arc; is_arc = l.is_arc; leaves = l.leaves; all = λ e h s. f (target arcs e) (l.all e h s) }

  -- one arc more serves
  within_more : (k v : ℕ) → Within k v → Within (suc k) v
  within_more zero v h = (h.0, inl h.1)
  within_more (suc k) v h = (
    h.0,
    ⊎_elim
        (λ (o : Occurs v). inl o)
        (λ (p : ¬ (Stops v) × LeadsAllTo arcs (λ w. Within k w) v). inr (p.0, leads_map (λ w. Within k w) (λ w. Within (suc k) w) (λ w i. within_more k w i) v p.1))
        h.1,
  )

  within_add : (j k v : ℕ) → Within k v → Within (j + k) v
  within_add zero k v h = let e : k ≡ zero + k = omega arith in subst (λ n. Within n v) e h
  within_add (suc j) k v h = let e : suc (j + k) ≡ suc j + k = omega arith in subst (λ n. Within n v) e (within_more (j + k) v (within_add j k v h))

  -- the first n arcs out of v have one bound in common
  common_bound : (v n : ℕ) → ((e : ℕ) → e < n → source arcs e ≡ v → (k : ℕ) × Within k (target arcs e)) → (k : ℕ) × ((e : ℕ) → e < n → source arcs e ≡ v → Within k (target arcs e))
  common_bound v zero h = (0, λ e l s. absurd (omega arith))
  common_bound v (suc n) h =
      let rest = common_bound v n (λ e l s. h e (omega arith) s) in
      ⊎_elim
      (λ (s : source arcs n ≡ v).
      let last = h n (omega arith) s in
      let swap : rest.0 + last.0 ≡ last.0 + rest.0 = omega arith in (
        last.0 + rest.0,
        λ e l q. ⊎_elim
            (λ (is : e ≡ n). subst (λ x. Within (last.0 + rest.0) (target arcs x)) (sym is) (subst (λ k. Within k (target arcs n)) swap (within_add rest.0 last.0 (target arcs n) last.1)))
            (λ (ne : e ≡ n → ⊥). within_add last.0 rest.0 (target arcs e) (rest.1 e (omega arith) q))
            (cases_eq e n),
      ))
      (λ (other : source arcs n ≡ v → ⊥). (
        rest.0,
        λ e l q. ⊎_elim
            (λ (is : e ≡ n). absurd (other (subst (λ x. source arcs x ≡ v) is q)))
            (λ (ne : e ≡ n → ⊥). rest.1 e (omega arith) q)
            (cases_eq e n),
      ))
      (cases_eq (source arcs n) v)

  -- a point that does not stop and leads to inevitable points alone is inevitable
  pub inevitable_step : (v : ℕ) → v ≢ 0 → ¬ (Stops v) → LeadsAllTo arcs (λ w. IsInevitable arcs Occurs Stops w) v → IsInevitable arcs Occurs Stops v
  inevitable_step v start goes l =
      let bound = common_bound v (length arcs) l.all in
      (suc bound.0, (start, inr (goes, record { arc = l.arc; is_arc = l.is_arc; leaves = l.leaves; all = bound.1 })))

  -- a set that holds the occurrences, and each point that only leads into it, holds all inevitable points
  pub inevitable_in_closed : (n : ℕ) → ArcsWithin arcs n → (S : ℕ → Type 0)
      → ((v : ℕ) → v < n → v ≢ 0 → Occurs v → S v)
      → ((v : ℕ) → v < n → v ≢ 0 → ¬ (Stops v) → LeadsAllTo arcs S v → S v)
      → (k v : ℕ) → v < n → Within k v → S v
  inevitable_in_closed n within S occurs leads zero v l h = occurs v l h.0 h.1
  inevitable_in_closed n within S occurs leads (suc k) v l h =
      ⊎_elim
      (λ (o : Occurs v). occurs v l h.0 o)
      (λ (p : ¬ (Stops v) × LeadsAllTo arcs (λ w. Within k w) v).
      leads v l h.0 p.0 (record {
        arc = p.1.arc;
        is_arc = p.1.is_arc;
        leaves = p.1.leaves;
        all = λ e b s. inevitable_in_closed n within S occurs leads k (target arcs e) (within e b).1 (p.1.all e b s);
      }))
      h.1

-- what occurs and what stops may be said in other words
pub inevitable_words : (arcs : List (ℕ × ℕ)) (n : ℕ) (O S O' S' : ℕ → Type 0) → ArcsWithin arcs n → ((v : ℕ) → v < n → O v → O' v) → ((v : ℕ) → v < n → S' v → S v) → (k v : ℕ) → v < n → IsInevitableWithin arcs O S k v → IsInevitableWithin arcs O' S' k v
inevitable_words arcs n O S O' S' within occurs stops zero v l h = (h.0, occurs v l h.1)
inevitable_words arcs n O S O' S' within occurs stops (suc k) v l h = (
  h.0,
  ⊎_elim
      (λ (o : O v). inl (occurs v l o))
      (λ (p : ¬ (S v) × LeadsAllTo arcs (λ w. IsInevitableWithin arcs O S k w) v). inr (
        λ s. p.0 (stops v l s),
        record {
          arc = p.1.arc;
          is_arc = p.1.is_arc;
          leaves = p.1.leaves;
          all = λ e b q. inevitable_words arcs n O S O' S' within occurs stops k (target arcs e) (within e b).1 (p.1.all e b q);
        },
      ))
      h.1,
)
