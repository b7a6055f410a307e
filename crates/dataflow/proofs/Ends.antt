-- The ends of the arcs from a node.
use Rattle.std.proofs.Common.{All, ◌≡◌, ℕ, ◌<◌, ◌+◌, Bool, true, false, cond, List, [], ◌∷◌, ◌++◌, length, take, get_or, set, map, refl, sym, ◌∙◌, subst, ap, ⊎_elim, arith, eq-eqb, suc, zero, get_or-set_same, get_or-set_other}
use Rattle.std.specs.Prelude.{◌==◌}
use Rattle.std.proofs.lemmas.Bool.{cases_Bool, cases_eq, eqb-true}
use Rattle.std.proofs.lemmas.List.{get_or_default, take_more, map-set, get_or-map, length-map}
use Rattle.dataflow.specs.FixedPoints.{source, target, ArcsWithin, ends_from}

-- an arc more at the end, from the node or from another one
pub ends_from-push_same : (arcs : List (ℕ × ℕ)) (arc : ℕ × ℕ) (n : ℕ) → (arc.0 == n) ≡ true → ends_from (arcs ++ arc ∷ []) n ≡ ends_from arcs n ++ arc.1 ∷ []
ends_from-push_same [] arc n h = ap (λ b. cond b (arc.1 ∷ []) []) h
ends_from-push_same (a ∷ arcs) arc n h = step (a.0 == n) (ends_from-push_same arcs arc n h)
  where
    step : (b : Bool) → ends_from (arcs ++ arc ∷ []) n ≡ ends_from arcs n ++ arc.1 ∷ [] → cond b (a.1 ∷ ends_from (arcs ++ arc ∷ []) n) (ends_from (arcs ++ arc ∷ []) n) ≡ cond b (a.1 ∷ ends_from arcs n) (ends_from arcs n) ++ arc.1 ∷ []
    step true rest = ap (λ xs. a.1 ∷ xs) rest
    step false rest = rest

pub ends_from-push_other : (arcs : List (ℕ × ℕ)) (arc : ℕ × ℕ) (n : ℕ) → (arc.0 == n) ≡ false → ends_from (arcs ++ arc ∷ []) n ≡ ends_from arcs n
ends_from-push_other [] arc n h = ap (λ b. cond b (arc.1 ∷ []) []) h
ends_from-push_other (a ∷ arcs) arc n h = step (a.0 == n) (ends_from-push_other arcs arc n h)
  where
    step : (b : Bool) → ends_from (arcs ++ arc ∷ []) n ≡ ends_from arcs n → cond b (a.1 ∷ ends_from (arcs ++ arc ∷ []) n) (ends_from (arcs ++ arc ∷ []) n) ≡ cond b (a.1 ∷ ends_from arcs n) (ends_from arcs n)
    step true rest = ap (λ xs. a.1 ∷ xs) rest
    step false rest = rest

differ : (a b : ℕ) → ¬ (a ≡ b) → (a == b) ≡ false
differ a b ne = ⊎_elim (λ (q : (a == b) ≡ true). absurd (ne (eqb-true a b q))) (λ (q : (a == b) ≡ false). q) (cases_Bool (a == b))

-- an arc more: its end goes to the list of the node where it begins
module _ {V : Type 0} (items : V → List ℕ) (arcs : List (ℕ × ℕ)) (nodes : ℕ) (lists : List V) (i : ℕ) (is_arc : i < length arcs) (len : length lists ≡ nodes) (within : source arcs i < nodes) (ends : (n : ℕ) → n < nodes → get_or (map items lists) n [] ≡ ends_from (take i arcs) n) (old new : V) (was : get_or lists (source arcs i) old ≡ old) (pushed : items new ≡ items old ++ target arcs i ∷ []) where
  pub ends_more : (n : ℕ) → n < nodes → get_or (map items (set lists (source arcs i) new)) n [] ≡ ends_from (take (i + 1) arcs) n
  ends_more n h =
      let u = source arcs i in
      let inside : u < length lists = omega (arith, len, within) in
      let goes : map items (set lists u new) ≡ set (map items lists) u (items new) = map-set items lists u new in
      let more : ends_from (take (i + 1) arcs) n ≡ ends_from (take i arcs ++ get_or arcs i (0, 0) ∷ []) n = ap (λ xs. ends_from xs n) (take_more arcs i (0, 0) is_arc) in
      let before : get_or (map items lists) u [] ≡ items old = get_or-map items lists u old [] inside ∙ ap items was in
      ap (λ xs. get_or xs n []) goes ∙ ⊎_elim
      (λ (q : n ≡ u).
      ap (λ k. get_or (set (map items lists) u (items new)) k []) q
      ∙ get_or-set_same (map items lists) u (items new) [] (omega (arith, inside, length-map lists items))
      ∙ pushed
      ∙ ap (λ xs. xs ++ target arcs i ∷ []) (sym before ∙ ends u within ∙ ap (ends_from (take i arcs)) (sym q))
      ∙ sym (more ∙ ends_from-push_same (take i arcs) (get_or arcs i (0, 0)) n (eq-eqb u n (sym q))))
      (λ (ne : n ≡ u → ⊥).
      get_or-set_other (map items lists) u n (items new) [] ne
      ∙ ends n h
      ∙ sym (more ∙ ends_from-push_other (take i arcs) (get_or arcs i (0, 0)) n (differ u n (λ q. ne (sym q)))))
      (cases_eq n u)

-- each arc from a node has its end in the node's list
pub end_of_arc : (arcs : List (ℕ × ℕ)) (n e : ℕ) → e < length arcs → source arcs e ≡ n → (k : ℕ) × ((k < length (ends_from arcs n)) × (get_or (ends_from arcs n) k 0 ≡ target arcs e))
end_of_arc [] n e h s = let bad : e < 0 = h in absurd (omega arith)
end_of_arc (arc ∷ arcs) n zero h s = subst (λ b. (k : ℕ) × ((k < length (cond b (arc.1 ∷ ends_from arcs n) (ends_from arcs n))) × (get_or (cond b (arc.1 ∷ ends_from arcs n) (ends_from arcs n)) k 0 ≡ arc.1))) (sym (eq-eqb arc.0 n s)) (0, (omega arith, refl))
end_of_arc (arc ∷ arcs) n (suc e) h s =
    let rest = end_of_arc arcs n e (omega arith) s in step (arc.0 == n) rest.0 rest.1.0 rest.1.1
  where
    step : (b : Bool) (k : ℕ) → k < length (ends_from arcs n) → get_or (ends_from arcs n) k 0 ≡ target arcs e → (k : ℕ) × ((k < length (cond b (arc.1 ∷ ends_from arcs n) (ends_from arcs n))) × (get_or (cond b (arc.1 ∷ ends_from arcs n) (ends_from arcs n)) k 0 ≡ target arcs e))
    step true k l t = (suc k, (omega arith, t))
    step false k l t = (k, (l, t))

-- each end in a node's list is that of an arc from the node
pub arc_of_end : (arcs : List (ℕ × ℕ)) (n k : ℕ) → k < length (ends_from arcs n) → (e : ℕ) × ((e < length arcs) × (source arcs e ≡ n) × (target arcs e ≡ get_or (ends_from arcs n) k 0))
arc_of_end [] n k h = let bad : k < 0 = h in absurd (omega arith)
arc_of_end (arc ∷ arcs) n k h = step (arc.0 == n) refl (arc_of_end arcs n) k h
  where
    later : (end : ℕ) → ((e : ℕ) × ((e < length arcs) × (source arcs e ≡ n) × (target arcs e ≡ end))) → (e : ℕ) × ((e < length (arc ∷ arcs)) × (source (arc ∷ arcs) e ≡ n) × (target (arc ∷ arcs) e ≡ end))
    later end r = (suc r.0, (omega (arith, r.1.0), r.1.1, r.1.2))

    step : (b : Bool) → (arc.0 == n) ≡ b → ((k : ℕ) → k < length (ends_from arcs n) → (e : ℕ) × ((e < length arcs) × (source arcs e ≡ n) × (target arcs e ≡ get_or (ends_from arcs n) k 0))) → (k : ℕ) → k < length (cond b (arc.1 ∷ ends_from arcs n) (ends_from arcs n)) → (e : ℕ) × ((e < length (arc ∷ arcs)) × (source (arc ∷ arcs) e ≡ n) × (target (arc ∷ arcs) e ≡ get_or (cond b (arc.1 ∷ ends_from arcs n) (ends_from arcs n)) k 0))
    step true q rest zero h = (0, (omega arith, eqb-true arc.0 n q, refl))
    step true q rest (suc k) h = later (get_or (ends_from arcs n) k 0) (rest k (omega arith))
    step false q rest k h = later (get_or (ends_from arcs n) k 0) (rest k h)

-- all ends are nodes
pub ends_within : (arcs : List (ℕ × ℕ)) (nodes n : ℕ) → ArcsWithin arcs nodes → All (λ end. end < nodes) (ends_from arcs n)
ends_within arcs nodes n within k d h =
    let arc = arc_of_end arcs n k h in
    subst (λ end. end < nodes) (arc.1.2 ∙ get_or_default (ends_from arcs n) k 0 d h) (within arc.0 arc.1.0).1

-- what is read at a node from the lists of all nodes
pub ends_at : {V : Type 0} (items : V → List ℕ) (lists : List V) (n : ℕ) (list : V) (ends from : List ℕ) → n < length lists → list ≡ get_or lists n list → ends ≡ items list → get_or (map items lists) n [] ≡ from → ends ≡ from
ends_at items lists n list ends from h is read at = read ∙ ap items is ∙ sym (get_or-map items lists n list [] h) ∙ at
