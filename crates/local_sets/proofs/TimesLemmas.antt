-- How often points stand among the sources of arcs.
use Rattle.std.proofs.Common.{◌≡◌, ◌<◌, ◌≤◌, ◌+◌, ◌==◌, ℕ, zero, suc, Bool, true, false, not, cond, List, [], ◌∷◌, ◌++◌, length, get_or, set, take, map, refl, sym, ap, ◌∙◌, subst, arith, inl, inr, ⊎_elim, get_or-set_same, get_or-set_other}
use Rattle.std.proofs.lemmas.Bool.{cases_eq, cases_Bool, eq-eqb, ne_eqb}
use Rattle.flow_paths.specs.Paths.{source, target}
use Rattle.local_sets.specs.Counting.{times, sources_where, unmarked}

pub times-append : (v : ℕ) (xs ys : List ℕ) → times v (xs ++ ys) ≡ times v xs + times v ys
times-append v [] ys = omega arith
times-append v (x ∷ xs) ys = omega (arith, times-append v xs ys)

-- whether it stands here
abbrev pub one_at : ℕ → ℕ → ℕ
one_at u v = cond (u == v) 1 0

pub one_same : (u v : ℕ) → u ≡ v → one_at u v ≡ 1
one_same u v e = ap (λ b. cond b 1 0) (eq-eqb u v e)

pub one_other : (u v : ℕ) → (u ≡ v → ⊥) → one_at u v ≡ 0
one_other u v ne = ap (λ b. cond b 1 0) (ne_eqb u v ne)

one_least : (u v : ℕ) → one_at u v ≤ 1
one_least u v = ⊎_elim (λ (e : u ≡ v). omega (arith, one_same u v e)) (λ (ne : u ≡ v → ⊥). omega (arith, one_other u v ne)) (cases_eq u v)

pub times-most : (v : ℕ) (xs : List ℕ) → times v xs ≤ length xs
times-most v [] = omega arith
times-most v (x ∷ xs) = omega (arith, one_least x v, times-most v xs)

pub times-here : (v : ℕ) (xs : List ℕ) (i : ℕ) → i < length xs → get_or xs i 0 ≡ v → 0 < times v xs
times-here v [] i h e = absurd (omega (arith, h))
times-here v (x ∷ xs) zero h e = omega (arith, one_same x v e)
times-here v (x ∷ xs) (suc i) h e = omega (arith, times-here v xs i (omega (arith, h)) e)

-- what stands in the sources is where an arc begins that ends so
pub record Begins (p : ℕ → Bool) (arcs : List (ℕ × ℕ)) (v : ℕ) : Type 0 where
  pub arc : ℕ
  pub is_arc : arc < length arcs
  pub leaves : source arcs arc ≡ v
  pub ends : p (target arcs arc) ≡ true

module _ (p : ℕ → Bool) where
  pub sources-append : (xs ys : List (ℕ × ℕ)) → sources_where p (xs ++ ys) ≡ sources_where p xs ++ sources_where p ys
  sources-append [] ys = refl
  sources-append (a ∷ xs) ys =
      elim (cases_Bool (p a.1)) [
        | inl t ↦ rw t (ap (λ l. a.0 ∷ l) (sources-append xs ys))
        | inr f ↦ rw f (sources-append xs ys)
      ]

  later : (a : ℕ × ℕ) (arcs : List (ℕ × ℕ)) (v : ℕ) → Begins p arcs v → Begins p (a ∷ arcs) v
  later a arcs v b = record { arc = suc b.arc; is_arc = let h : b.arc < length arcs = b.is_arc in omega arith; leaves = b.leaves; ends = b.ends }

  pub source_begins : (arcs : List (ℕ × ℕ)) (v : ℕ) → 0 < times v (sources_where p arcs) → Begins p arcs v
  source_begins [] v h = absurd (omega (arith, h))
  source_begins (a ∷ arcs) v h =
      elim (cases_Bool (p a.1)) [
        | inl t ↦
            let k : 0 < times v (a.0 ∷ sources_where p arcs) = subst (λ b. 0 < times v (cond b (a.0 ∷ sources_where p arcs) (sources_where p arcs))) t h in
            ⊎_elim
            (λ (e : a.0 ≡ v). record { arc = 0; is_arc = omega arith; leaves = e; ends = t })
            (λ (ne : a.0 ≡ v → ⊥). later a arcs v (source_begins arcs v (omega (arith, k, one_other a.0 v ne))))
            (cases_eq a.0 v)
        | inr f ↦ later a arcs v (source_begins arcs v (subst (λ b. 0 < times v (cond b (a.0 ∷ sources_where p arcs) (sources_where p arcs))) f h))
      ]

  pub begins_source : (arcs : List (ℕ × ℕ)) (v e : ℕ) → e < length arcs → source arcs e ≡ v → p (target arcs e) ≡ true → 0 < times v (sources_where p arcs)
  begins_source [] v e h s t = absurd (omega (arith, h))
  begins_source (a ∷ arcs) v zero h s t = subst (λ b. 0 < times v (cond b (a.0 ∷ sources_where p arcs) (sources_where p arcs))) (sym t) (omega (arith, one_same a.0 v s))
  begins_source (a ∷ arcs) v (suc e) h s t =
      let rest : 0 < times v (sources_where p arcs) = begins_source arcs v e (omega (arith, h)) s t in
      elim (cases_Bool (p a.1)) [
        | inl b ↦ subst (λ b. 0 < times v (cond b (a.0 ∷ sources_where p arcs) (sources_where p arcs))) (sym b) (omega (arith, rest))
        | inr b ↦ subst (λ b. 0 < times v (cond b (a.0 ∷ sources_where p arcs) (sources_where p arcs))) (sym b) rest
      ]

-- all arcs have a source
pub sources_all : (p : ℕ → Bool) → ((w : ℕ) → p w ≡ true) → (arcs : List (ℕ × ℕ)) → sources_where p arcs ≡ map (λ a. a.0) arcs
sources_all p all [] = refl
sources_all p all (a ∷ arcs) = rw (all a.1) (ap (λ l. a.0 ∷ l) (sources_all p all arcs))

-- ---- one point more is marked

module _ (bits : List Bool) (w : ℕ) (inside : w < length bits) (fresh : get_or bits w false ≡ false) where
  marked_now : (x : ℕ) → x ≡ w → unmarked (set bits w true) x ≡ false
  marked_now x e = ap not (ap (λ k. get_or (set bits w true) k false) e ∙ get_or-set_same bits w true false inside)

  same_mark : (x : ℕ) → (x ≡ w → ⊥) → unmarked (set bits w true) x ≡ unmarked bits x
  same_mark x ne = ap not (get_or-set_other bits w x true false ne)

  unmarked_here : (x : ℕ) → x ≡ w → unmarked bits x ≡ true
  unmarked_here x e = ap not (ap (λ k. get_or bits k false) e ∙ fresh)

  head : (v : ℕ) (p : ℕ → Bool) (a : ℕ × ℕ) (arcs : List (ℕ × ℕ)) (b : Bool) → p a.1 ≡ b → times v (sources_where p (a ∷ arcs)) ≡ times v (cond b (a.0 ∷ sources_where p arcs) (sources_where p arcs))
  head v p a arcs b e = ap (λ b. times v (cond b (a.0 ∷ sources_where p arcs) (sources_where p arcs))) e

  pub times-marked : (v : ℕ) (arcs : List (ℕ × ℕ)) → times v (sources_where (unmarked (set bits w true)) arcs) + times v (sources_where (λ x. x == w) arcs) ≡ times v (sources_where (unmarked bits) arcs)
  times-marked v [] = refl
  times-marked v (a ∷ arcs) =
      let rest = times-marked v arcs in
      ⊎_elim
      (λ (e : a.1 ≡ w).
      let one = head v (unmarked (set bits w true)) a arcs false (marked_now a.1 e) in
      let two = head v (λ x. x == w) a arcs true (eq-eqb a.1 w e) in
      let three = head v (unmarked bits) a arcs true (unmarked_here a.1 e) in
      omega (arith, rest, one, two, three))
      (λ (ne : a.1 ≡ w → ⊥).
      let two = head v (λ x. x == w) a arcs false (ne_eqb a.1 w ne) in
      elim (cases_Bool (unmarked bits a.1)) [
        | inl t ↦
            let one = head v (unmarked (set bits w true)) a arcs true (same_mark a.1 ne ∙ t) in
            let three = head v (unmarked bits) a arcs true t in
            omega (arith, rest, one, two, three)
        | inr f ↦
            let one = head v (unmarked (set bits w true)) a arcs false (same_mark a.1 ne ∙ f) in
            let three = head v (unmarked bits) a arcs false f in
            omega (arith, rest, one, two, three)
      ])
      (cases_eq a.1 w)

-- what stands at a place stands once more than before it
pub times-next : (xs : List ℕ) (i : ℕ) → i < length xs → times (get_or xs i 0) (take i xs) < times (get_or xs i 0) xs
times-next [] i h = absurd (omega (arith, h))
times-next (x ∷ xs) zero h = omega (arith, one_same x x refl)
times-next (x ∷ xs) (suc i) h = omega (arith, times-next xs i (omega (arith, h)))
