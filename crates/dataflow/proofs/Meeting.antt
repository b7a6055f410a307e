-- Meeting the entries of some nodes with one exit.
use Rattle.std.proofs.Common.{◌≡◌, ℕ, ◌<◌, ◌≤◌, ◌+◌, List, [], ◌∷◌, ◌++◌, length, get_or, set, Contains, refl, sym, ◌∙◌, subst, ap, ⊎_elim, ◌⊎◌, inl, inr, All, ◌*◌, sum_by, length-append, arith, get_or-set_same, get_or-set_other, length-set, below_more}
use Rattle.std.proofs.lemmas.List.Elements.{All-push, Contains-append_left, Contains-push}
use Rattle.std.proofs.lemmas.Bool.{cases_eq}
use Rattle.dataflow.specs.Laws.{IsBelow, MeetLaws}
use Rattle.dataflow.specs.Meeting.{MetEnds}
use Rattle.dataflow.proofs.Below.{below_itself, below_on, met_below_left, met_below_right, met_greatest}

module _ {V : Type 0} {Alike : V → V → Type 0} {met : V → V → V} {height_of : V → ℕ} (laws : MeetLaws Alike met height_of) (d : V) (ends : List ℕ) (before : List V) (exit : V) (noted_before : List ℕ) where
  pub MetEnds-start : MetEnds Alike met d ends before before exit noted_before noted_before 0
  MetEnds-start = record {
    len = refl;
    alike = λ n h. laws.itself (get_or before n d);
    below = λ n h. below_itself laws (get_or before n d);
    met_exit = λ k h. absurd (omega arith);
    grows = λ n c. c;
    kept = λ n h c. refl;
    above = λ f a b c n h. b n h;
  }

  module _ (within : (k : ℕ) → k < length ends → get_or ends k 0 < length before) (alike : (n : ℕ) → n < length before → Alike (get_or before n d) exit) (entry : List V) (noted : List ℕ) (i : ℕ) (is_end : i < length ends) (pass : MetEnds Alike met d ends before entry exit noted_before noted i) where
    -- one end more
    pub MetEnds-met : (next : List V) (noted_next : List ℕ) → next ≡ set entry (get_or ends i 0) (met (get_or entry (get_or ends i 0) d) exit)
        → (((next ≡ entry) × (noted_next ≡ noted)) ⊎ (noted_next ≡ noted ++ get_or ends i 0 ∷ []))
        → MetEnds Alike met d ends before next exit noted_before noted_next (i + 1)
    MetEnds-met next noted_next is notes =
        let t = get_or ends i 0 in
        let old = get_or entry t d in
        let t_in : t < length before = within i is_end in
        let inside : t < length entry = let l : length entry ≡ length before = pass.len in omega arith in
        let a : Alike old exit = laws.on old (get_or before t d) exit (pass.alike t t_in) (alike t t_in) in
        let here : get_or next t d ≡ met old exit = ap (λ xs. get_or xs t d) is ∙ get_or-set_same entry t (met old exit) d inside in
        let there : (n : ℕ) → ¬ (n ≡ t) → get_or next n d ≡ get_or entry n d = λ n ne. ap (λ xs. get_or xs n d) is ∙ get_or-set_other entry t n (met old exit) d ne in
        let lower : (n : ℕ) → n < length before → IsBelow met (get_or next n d) (get_or entry n d) = λ n h. ⊎_elim
        (λ (q : n ≡ t). subst (λ k. IsBelow met (get_or next k d) (get_or entry k d)) (sym q) (subst (λ x. IsBelow met x old) (sym here) (met_below_left laws old exit a)))
        (λ (ne : n ≡ t → ⊥). subst (λ x. IsBelow met x (get_or entry n d)) (sym (there n ne)) (below_itself laws (get_or entry n d)))
        (cases_eq n t) in
        let next_alike : (n : ℕ) → n < length before → Alike (get_or next n d) (get_or entry n d) = λ n h. ⊎_elim
        (λ (q : n ≡ t). subst (λ k. Alike (get_or next k d) (get_or entry k d)) (sym q) (subst (λ x. Alike x old) (sym here) (laws.alike old exit a)))
        (λ (ne : n ≡ t → ⊥). subst (λ x. Alike x (get_or entry n d)) (sym (there n ne)) (laws.itself (get_or entry n d)))
        (cases_eq n t) in
        let next_exit : (n : ℕ) → n < length before → IsBelow met (get_or entry n d) exit → IsBelow met (get_or next n d) exit = λ n h b.
        below_on laws (get_or next n d) (get_or entry n d) exit (next_alike n h) (laws.on (get_or entry n d) (get_or before n d) exit (pass.alike n h) (alike n h)) (lower n h) b in
        record {
          len = ap length is ∙ length-set entry t (met old exit) ∙ pass.len;
          alike = λ n h. laws.on (get_or next n d) (get_or entry n d) (get_or before n d) (next_alike n h) (pass.alike n h);
          below = λ n h. below_on laws (get_or next n d) (get_or entry n d) (get_or before n d) (next_alike n h) (pass.alike n h) (lower n h) (pass.below n h);
          met_exit = below_more (λ k. IsBelow met (get_or next (get_or ends k 0) d) exit) i
              (λ k h. next_exit (get_or ends k 0) (within k (omega arith)) (pass.met_exit k h))
              (subst (λ x. IsBelow met x exit) (sym here) (met_below_right laws old exit a));
          grows = λ n c. ⊎_elim
              (λ (k : (next ≡ entry) × (noted_next ≡ noted)). subst (λ xs. Contains xs n) (sym k.1) (pass.grows n c))
              (λ (k : noted_next ≡ noted ++ t ∷ []). subst (λ xs. Contains xs n) (sym k) (Contains-append_left noted (t ∷ []) n (pass.grows n c)))
              notes;
          kept = λ n h c. ⊎_elim
              (λ (k : (next ≡ entry) × (noted_next ≡ noted)). ap (λ xs. get_or xs n d) k.0 ∙ pass.kept n h (subst (λ xs. ¬ Contains xs n) k.1 c))
              (λ (k : noted_next ≡ noted ++ t ∷ []).
              let c' : ¬ Contains (noted ++ t ∷ []) n = subst (λ xs. ¬ Contains xs n) k c in
              there n (λ q. c' (subst (λ x. Contains (noted ++ t ∷ []) x) (sym q) (Contains-push noted t))) ∙ pass.kept n h (λ m. c' (Contains-append_left noted (t ∷ []) n m)))
              notes;
          above = λ f fa fb fe n h. ⊎_elim
              (λ (q : n ≡ t). subst (λ k. IsBelow met (f k) (get_or next k d)) (sym q)
              (subst (λ x. IsBelow met (f t) x) (sym here)
              (met_greatest laws (f t) old exit (laws.on (f t) (get_or before t d) old (fa t t_in) (laws.back old (get_or before t d) (pass.alike t t_in))) a (pass.above f fa fb fe t t_in) (fe i is_end))))
              (λ (ne : n ≡ t → ⊥). subst (λ x. IsBelow met (f n) x) (sym (there n ne)) (pass.above f fa fb fe n h))
              (cases_eq n t);
        }

-- what `meet_end` notes
abbrev pub Noted : {V : Type 0} → (V → ℕ) → List V → List V → List ℕ → List ℕ → ℕ → Type 0
Noted height_of entry next noted noted_next t = ((next ≡ entry) × (noted_next ≡ noted)) ⊎ ((sum_by height_of next < sum_by height_of entry) × (noted_next ≡ noted ++ t ∷ []))

module _ {V : Type 0} (height_of : V → ℕ) (entry next : List V) (noted noted_next : List ℕ) (t : ℕ) (notes : Noted height_of entry next noted noted_next t) where
  pub noted_or_same : ((next ≡ entry) × (noted_next ≡ noted)) ⊎ (noted_next ≡ noted ++ t ∷ [])
  noted_or_same = ⊎_elim (λ (k : (next ≡ entry) × (noted_next ≡ noted)). inl k) (λ (k : (sum_by height_of next < sum_by height_of entry) × (noted_next ≡ noted ++ t ∷ [])). inr k.1) notes

  pub noted_all : (P : ℕ → Type 0) → All P noted → P t → All P noted_next
  noted_all P all here = ⊎_elim
      (λ (k : (next ≡ entry) × (noted_next ≡ noted)). subst (All P) (sym k.1) all)
      (λ (k : (sum_by height_of next < sum_by height_of entry) × (noted_next ≡ noted ++ t ∷ [])). subst (All P) (sym k.1) (All-push P noted t all here))
      notes

  -- a note costs less than the height that it took
  pub noted_falls : 2 * sum_by height_of next + length noted_next ≤ 2 * sum_by height_of entry + length noted
  noted_falls = ⊎_elim
      (λ (k : (next ≡ entry) × (noted_next ≡ noted)). let a = ap (sum_by height_of) k.0 in let b = ap length k.1 in omega (arith, a, b))
      (λ (k : (sum_by height_of next < sum_by height_of entry) × (noted_next ≡ noted ++ t ∷ [])). let a = k.0 in let b : length noted_next ≡ length noted + 1 = ap length k.1 ∙ length-append noted (t ∷ []) in omega (arith, a, b))
      notes
