-- Where a token that the probe passes for is tried at the stop, the probe is taken.
use Rattle.std.proofs.Common.{◌≡◌, Bool, true, false, not, ◌&&◌, List, [], ◌∷◌, length, Some, ◌⊎◌, inl, inr, refl, sym, ap, subst, ◌∙◌, arith}
use Rattle.grammar.specs.Grammar.{Grammar, token, pair, choice, optional, repeated, gives, provided, is_empty, is_next, Row, Spells}
use Rattle.grammar.proofs.Determined.{by_cases, progress}
use Rattle.expected_phrases.specs.Tried.{begins, Tries}
use Rattle.expected_phrases.proofs.Places.{apart, or_left, and_first, and_second, is_full, tried_first, TakesAll, takes_one, takes_none, nothing_next}
use Rattle.expected_phrases.proofs.Probes.{Swapped, Within, IsSteadyNext, IsSteadyLook, Steady, edge, within, behind, OrTried, SpellsOrTries, spells_or_tries}

module _ {T : Type 0} (stop : List T) (p : T) where
  -- the probe is taken
  abbrev pub Taken : {A : Type 0} → Grammar T A → List T → Type 0
  Taken g ts = (us : List T) × Swapped stop p ts us × TakesAll g us

  abbrev pub TriesTakes : {A : Type 0} → Grammar T A → Type 0
  TriesTakes g = (ts : List T) → Tries g ts stop p → Taken g ts

  -- where a phrase is passed over that the probe begins
  taken_over : {A : Type 0} (g : Grammar T A) → is_full g ≡ true → (ts : List T) → ts ≡ stop → is_next g (p ∷ []) ≡ true → Taken g ts
  taken_over g full ts e n = (p ∷ [], ([], e, refl), takes_one g p full n)

  take_pair : {A B : Type 0} (g : Grammar T A) (h : Grammar T B) (us : List T) → TakesAll g us → TakesAll (pair g h) us
  take_pair {A} {B} g h us (inr s) = inr (inl s)
  take_pair {A} {B} g h us (inl s) = go (takes_none h)
    where
      go : TakesAll h [] → TakesAll (pair g h) us
      go (inl t) = inl ((s.0, t.0), ([], s.1, t.1))
      go (inr t) = inr (inr (s.0, [], s.1, t))

  taken_pair : {A B : Type 0} (g : Grammar T A) (h : Grammar T B) → SpellsOrTries stop p g → TriesTakes g → TriesTakes h → TriesTakes (pair g h)
  taken_pair g h front one two ts (inl t) = let i = one ts t in (i.0, i.1, take_pair g h i.0 i.2)
  taken_pair g h front one two ts (inr s) = go (two s.1 s.3)
    where
      last : (us ms : List T) → Spells g us s.0 ms → TakesAll h ms → TakesAll (pair g h) us
      last us ms i (inl t) = inl ((s.0, t.0), (ms, i, t.1))
      last us ms i (inr t) = inr (inr (s.0, ms, i, t))

      both : (ms : List T) → TakesAll h ms → OrTried stop p ts (λ us. Spells g us s.0 ms) (Tries g ts stop p) → Taken (pair g h) ts
      both ms j ((us, v, inl i)) = (us, v, last us ms i j)
      both ms j ((us, v, inr t)) = let i = one ts t in (i.0, i.1, take_pair g h i.0 i.2)

      go : Taken h s.1 → Taken (pair g h) ts
      go ((ms, m, j)) = both ms j (front ts s.0 s.1 ms s.2 m)

  -- a part in which a token is tried was begun
  begun : {A : Type 0} (g : Grammar T A) → IsSteadyNext stop p g → (ts us : List T) → Swapped stop p ts us → is_next g ts ≡ true → Tries g ts stop p → is_next g us ≡ true
  begun g steady ts us w n t = go (edge stop p ts us w)
    where
      go : ((ts ≡ stop) × (us ≡ p ∷ [])) ⊎ Within stop p ts us → is_next g us ≡ true
      go (inl e) = let d = ap length e.0 in ap (is_next g) e.1 ∙ steady.at_probe ∙ tried_first g ts stop p (omega arith) t
      go (inr i) = steady.stays_in ts us i n (inr (inr t))

  take_first : {A : Type 0} (g h : Grammar T A) (us : List T) → is_next g us ≡ true → TakesAll g us → TakesAll (choice g h) us
  take_first g h us n (inl s) = inl (s.0, inl (n, s.1))
  take_first g h us n (inr s) = inr (inl (n, s))

  take_other : {A : Type 0} (g h : Grammar T A) (us : List T) → is_next g us ≡ false → TakesAll h us → TakesAll (choice g h) us
  take_other g h us n (inl s) = inl (s.0, inr (n, s.1))
  take_other g h us n (inr s) = inr (inr (n, s))

  taken_choice : {A : Type 0} (g h : Grammar T A) → is_full (choice g h) ≡ true → IsSteadyNext stop p g → TriesTakes g → TriesTakes h → TriesTakes (choice g h)
  taken_choice g h full steady one two ts (inl s) = let i = one ts s.1 in (i.0, i.1, take_first g h i.0 (begun g steady ts i.0 i.1 s.0 s.1) i.2)
  taken_choice g h full steady one two ts (inr (inl s)) = go (two ts s.1)
    where
      told : (us : List T) → Swapped stop p ts us → is_next g us ≡ true → ((ts ≡ stop) × (us ≡ p ∷ [])) ⊎ Within stop p ts us → Taken (choice g h) ts
      told us v n (inl e) = taken_over (choice g h) full ts e.0 (or_left (is_next g (p ∷ [])) (is_next h (p ∷ [])) (ap (is_next g) (sym e.1) ∙ n))
      told us v n (inr i) = absurd (apart (is_next g us) n (steady.stays_out ts us i s.0))

      choose : (us : List T) → Swapped stop p ts us → TakesAll h us → (is_next g us ≡ true) ⊎ (is_next g us ≡ false) → Taken (choice g h) ts
      choose us v t (inl n) = told us v n (edge stop p ts us v)
      choose us v t (inr n) = (us, v, take_other g h us n t)

      go : Taken h ts → Taken (choice g h) ts
      go ((us, v, t)) = choose us v t (by_cases (is_next g us))
  taken_choice g h full steady one two ts (inr (inr s)) = taken_over (choice g h) full ts s.1 (or_left (is_next g (p ∷ [])) (is_next h (p ∷ [])) (steady.at_probe ∙ s.2))

  take_some : {A : Type 0} (g : Grammar T A) (us : List T) → is_next g us ≡ true → TakesAll g us → TakesAll (optional g) us
  take_some g us n (inl s) = inl (Some s.0, (n, s.1))
  take_some g us n (inr s) = inr (n, s)

  taken_optional : {A : Type 0} (g : Grammar T A) → is_full g ≡ true → IsSteadyNext stop p g → TriesTakes g → TriesTakes (optional g)
  taken_optional g full steady one ts (inl s) = let i = one ts s.1 in (i.0, i.1, take_some g i.0 (begun g steady ts i.0 i.1 s.0 s.1) i.2)
  taken_optional g full steady one ts (inr s) = taken_over (optional g) full ts s.1 (steady.at_probe ∙ s.2)

  -- one item, at which the tokens end
  take_item : {A : Type 0} (g : Grammar T A) → is_full g ≡ true → (us : List T) → is_next g us ≡ true → TakesAll g us → TakesAll (repeated g) us
  take_item g full us n (inl s) = inl (s.0 ∷ [], (([], n, s.1, refl), nothing_next g full))
  take_item g full us n (inr s) = inr ([], us, refl, n, s)

  take_more : {A : Type 0} (g : Grammar T A) (us ms : List T) (x : A) → is_next g us ≡ true → Spells g us x ms → TakesAll (repeated g) ms → TakesAll (repeated g) us
  take_more g us ms x n i (inl s) = inl (x ∷ s.0, ((ms, n, i, s.1.0), s.1.1))
  take_more g us ms x n i (inr s) = inr (x ∷ s.0, s.1, (ms, n, i, s.2), s.3, s.4)

  taken_row : {A : Type 0} (g : Grammar T A) → is_full g ≡ true → IsSteadyNext stop p g → SpellsOrTries stop p g → TriesTakes g
      → (ts : List T) (xs : List A) (mid : List T) → Row (is_next g) (Spells g) ts xs mid → Taken (repeated g) mid → Taken (repeated g) ts
  taken_row g full steady front one ts [] mid r t = subst (λ (l : List T). Taken (repeated g) l) (sym r) t
  taken_row {A} g full steady front one ts (x ∷ xs) mid r t = go (taken_row g full steady front one r.0 xs mid r.3 t)
    where
      both : (ms : List T) → Swapped stop p r.0 ms → TakesAll (repeated g) ms → OrTried stop p ts (λ us. Spells g us x ms) (Tries g ts stop p) → Taken (repeated g) ts
      both ms m j ((us, v, inl i)) =
          let l = progress g ts x r.0 r.1 r.2 in
          let b = behind stop p r.0 ms m in
          let n = steady.stays_in ts us (within stop p ts us v (omega arith)) r.1 (inl (x, r.0, r.2, b)) in
          (us, v, take_more g us ms x n i j)
      both ms m j ((us, v, inr t)) = let i = one ts t in (i.0, i.1, take_item g full i.0 (begun g steady ts i.0 i.1 r.1 t) i.2)

      go : Taken (repeated g) r.0 → Taken (repeated g) ts
      go ((ms, m, j)) = both ms m j (front ts x r.0 ms r.2 m)

  taken_repeated : {A : Type 0} (g : Grammar T A) → is_full g ≡ true → IsSteadyNext stop p g → SpellsOrTries stop p g → TriesTakes g → TriesTakes (repeated g)
  taken_repeated g full steady front one ts ((xs, mid, r, inl s)) =
      let i = one mid s.1 in
      taken_row g full steady front one ts xs mid r (i.0, i.1, take_item g full i.0 (begun g steady mid i.0 i.1 s.0 s.1) i.2)
  taken_repeated g full steady front one ts ((xs, mid, r, inr s)) =
      taken_row g full steady front one ts xs mid r (taken_over (repeated g) full mid s.1 (steady.at_probe ∙ s.2))

  take_gives : {A B : Type 0} (f : A → B) (g : Grammar T A) (us : List T) → TakesAll g us → TakesAll (gives f g) us
  take_gives f g us (inl s) = inl (f s.0, (s.0, refl, s.1))
  take_gives f g us (inr s) = inr s

  take_looked : {A : Type 0} (look : List T → Bool) (g : Grammar T A) (us : List T) → look us ≡ true → TakesAll g us → TakesAll (provided look g) us
  take_looked look g us n (inl s) = inl (s.0, (n, s.1))
  take_looked look g us n (inr s) = inr (inl (n, s))

  taken_provided : {A : Type 0} (look : List T → Bool) (g : Grammar T A) → IsSteadyLook stop p look g → TriesTakes g → TriesTakes (provided look g)
  taken_provided look g steady one ts (inl s) = go (one ts s.1)
    where
      told : (us : List T) → Swapped stop p ts us → TakesAll g us → ((ts ≡ stop) × (us ≡ p ∷ [])) ⊎ Within stop p ts us → Taken (provided look g) ts
      told us v t (inl e) = let d = ap length e.0 in absurd (apart (begins g p) (tried_first g ts stop p (omega arith) s.1) steady.begins_not)
      told us v t (inr i) = (us, v, take_looked look g us (steady.stays_in ts us i s.0 (inr (inr s.1))) t)

      go : Taken g ts → Taken (provided look g) ts
      go ((us, v, t)) = told us v t (edge stop p ts us v)
  taken_provided look g steady one ts (inr s) = absurd (apart (begins g p) s.2 steady.begins_not)

  pub tries_takes : {A : Type 0} (g : Grammar T A) → is_full g ≡ true → Steady stop p g → TriesTakes g
  tries_takes (token test) full steady = λ ts s. (p ∷ [], ([], s.2, refl), inl (p, (s.0, refl)))
  tries_takes (pair g h) full steady =
      let f = and_first (is_full g) (is_full h) full in
      taken_pair g h (spells_or_tries stop p g f steady.0) (tries_takes g f steady.0) (tries_takes h (and_second (is_full g) (is_full h) full) steady.1)
  tries_takes (choice g h) full steady =
      let f = and_second (not (is_empty g)) (is_full g && is_full h) full in
      taken_choice g h full steady.0 (tries_takes g (and_first (is_full g) (is_full h) f) steady.1) (tries_takes h (and_second (is_full g) (is_full h) f) steady.2)
  tries_takes (optional g) full steady = taken_optional g full steady.0 (tries_takes g full steady.1)
  tries_takes (repeated g) full steady = taken_repeated g full steady.0 (spells_or_tries stop p g full steady.1) (tries_takes g full steady.1)
  tries_takes (gives f g) full steady = λ ts s. (let i = tries_takes g full steady ts s in (i.0, i.1, take_gives f g i.0 i.2))
  tries_takes (provided look g) full steady = taken_provided look g steady.0 (tries_takes g (and_second (not (is_empty g)) (is_full g) full) steady.1)
