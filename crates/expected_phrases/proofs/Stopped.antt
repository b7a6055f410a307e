-- A phrase that stops at the stop stops at the probe too, or tries there a token that the probe passes for.
use Rattle.std.proofs.Common.{◌≡◌, Bool, true, false, not, ◌&&◌, List, [], ◌∷◌, length, ◌⊎◌, inl, inr, refl, ap, ◌∙◌, arith}
use Rattle.grammar.specs.Grammar.{Grammar, token, pair, choice, optional, repeated, gives, provided, is_empty, is_next, Row, Spells, Stops}
use Rattle.grammar.proofs.Determined.{by_cases}
use Rattle.expected_phrases.specs.Tried.{begins, Tries}
use Rattle.expected_phrases.proofs.Places.{and_first, and_second, is_full, advances}
use Rattle.expected_phrases.proofs.Probes.{Swapped, Within, IsSteadyNext, IsSteadyLook, Steady, edge, within, neither, OrTried, SpellsOrTries, TriesInRow, row_or_tries, over_or_tries, spells_or_tries}

module _ {T : Type 0} (stop : List T) (p : T) where
  abbrev pub StopsOrTries : {A : Type 0} → Grammar T A → Type 0
  StopsOrTries g = (ts : List T) → Stops g ts stop → OrTried stop p ts (λ us. Stops g us (p ∷ [])) (Tries g ts stop p)

  stops_token : (test : T → Bool) → StopsOrTries (token test)
  stops_token test ts s = go (by_cases (test p))
    where
      go : (test p ≡ true) ⊎ (test p ≡ false) → OrTried stop p ts (λ us. Stops (token test) us (p ∷ [])) (Tries (token test) ts stop p)
      go (inl e) = (p ∷ [], ([], s.1, refl), inr (e, s.0, s.1))
      go (inr e) = (p ∷ [], ([], s.1, refl), inl (e, refl))

  stops_pair : {A B : Type 0} (g : Grammar T A) (h : Grammar T B) → SpellsOrTries stop p g → StopsOrTries g → StopsOrTries h → StopsOrTries (pair g h)
  stops_pair g h front one two ts (inl s) = go (one ts s)
    where
      go : OrTried stop p ts (λ us. Stops g us (p ∷ [])) (Tries g ts stop p) → OrTried stop p ts (λ us. Stops (pair g h) us (p ∷ [])) (Tries (pair g h) ts stop p)
      go ((us, v, inl i)) = (us, v, inl (inl i))
      go ((us, v, inr t)) = (us, v, inr (inl t))
  stops_pair g h front one two ts (inr s) = go (two s.1 s.3)
    where
      both : (ms : List T) → Stops h ms (p ∷ []) → OrTried stop p ts (λ us. Spells g us s.0 ms) (Tries g ts stop p) → OrTried stop p ts (λ us. Stops (pair g h) us (p ∷ [])) (Tries (pair g h) ts stop p)
      both ms j ((us, v, inl i)) = (us, v, inl (inr (s.0, ms, i, j)))
      both ms j ((us, v, inr t)) = (us, v, inr (inl t))

      go : OrTried stop p s.1 (λ us. Stops h us (p ∷ [])) (Tries h s.1 stop p) → OrTried stop p ts (λ us. Stops (pair g h) us (p ∷ [])) (Tries (pair g h) ts stop p)
      go ((ms, m, inl j)) = both ms j (front ts s.0 s.1 ms s.2 m)
      go ((ms, m, inr t)) = let i = front ts s.0 s.1 ms s.2 m in (i.0, i.1, inr (inr (s.0, s.1, s.2, t)))

  -- a part that stops behind its first token was begun
  inside : {A : Type 0} (g : Grammar T A) → is_full g ≡ true → IsSteadyNext stop p g → (ts us : List T) → Swapped stop p ts us → is_next g ts ≡ true → Stops g ts stop → is_next g us ≡ true
  inside g full steady ts us w n s =
      let l = advances g ts stop full n s in
      steady.stays_in ts us (within stop p ts us w l) n (inr (inl s))

  stops_choice : {A : Type 0} (g h : Grammar T A) → is_full g ≡ true → is_full h ≡ true → IsSteadyNext stop p g → StopsOrTries g → StopsOrTries h → StopsOrTries (choice g h)
  stops_choice g h full fuller steady one two ts (inl s) = go (one ts s.1)
    where
      go : OrTried stop p ts (λ us. Stops g us (p ∷ [])) (Tries g ts stop p) → OrTried stop p ts (λ us. Stops (choice g h) us (p ∷ [])) (Tries (choice g h) ts stop p)
      go ((us, v, inl i)) = (us, v, inl (inl (inside g full steady ts us v s.0 s.1, i)))
      go ((us, v, inr t)) = (us, v, inr (inl (s.0, t)))
  stops_choice g h full fuller steady one two ts (inr s) = go (two ts s.1)
    where
      told : (us : List T) → Swapped stop p ts us → Stops h us (p ∷ []) → (is_next g us ≡ false) ⊎ ((is_next g ts ≡ false) × (ts ≡ stop) × (begins g p ≡ true))
          → OrTried stop p ts (λ us. Stops (choice g h) us (p ∷ [])) (Tries (choice g h) ts stop p)
      told us v i (inl n) = (us, v, inl (inr (n, i)))
      told us v i (inr t) =
          elim (by_cases (is_next h ts)) [
            | inl begun ↦
                let l = advances h ts stop fuller begun s.1 in
                let d = ap length t.1 in
                absurd (omega arith)
            | inr other ↦ (us, v, inr (inr (inr (neither (is_next g ts) (is_next h ts) t.0 other, t.1, t.2))))
          ]

      go : OrTried stop p ts (λ us. Stops h us (p ∷ [])) (Tries h ts stop p) → OrTried stop p ts (λ us. Stops (choice g h) us (p ∷ [])) (Tries (choice g h) ts stop p)
      go ((us, v, inl i)) = told us v i (over_or_tries stop p g steady ts us v s.0)
      go ((us, v, inr t)) = (us, v, inr (inr (inl (s.0, t))))

  stops_optional : {A : Type 0} (g : Grammar T A) → is_full g ≡ true → IsSteadyNext stop p g → StopsOrTries g → StopsOrTries (optional g)
  stops_optional g full steady one ts s = go (one ts s.1)
    where
      go : OrTried stop p ts (λ us. Stops g us (p ∷ [])) (Tries g ts stop p) → OrTried stop p ts (λ us. Stops (optional g) us (p ∷ [])) (Tries (optional g) ts stop p)
      go ((us, v, inl i)) = (us, v, inl (inside g full steady ts us v s.0 s.1, i))
      go ((us, v, inr t)) = (us, v, inr (inl (s.0, t)))

  stops_repeated : {A : Type 0} (g : Grammar T A) → is_full g ≡ true → IsSteadyNext stop p g → SpellsOrTries stop p g → StopsOrTries g → StopsOrTries (repeated g)
  stops_repeated {A} g full steady front one ts ((xs, mid, r, n, s)) = go (one mid s)
    where
      both : (ms : List T) → Swapped stop p mid ms → Stops g ms (p ∷ []) → OrTried stop p ts (λ us. Row (is_next g) (Spells g) us xs ms) (TriesInRow stop p g ts) → OrTried stop p ts (λ us. Stops (repeated g) us (p ∷ [])) (Tries (repeated g) ts stop p)
      both ms m j ((us, v, inl i)) = (us, v, inl (xs, ms, i, inside g full steady mid ms m n s, j))
      both ms m j ((us, v, inr t)) = (us, v, inr (t.0, t.1, t.2, inl (t.3, t.4)))

      go : OrTried stop p mid (λ us. Stops g us (p ∷ [])) (Tries g mid stop p) → OrTried stop p ts (λ us. Stops (repeated g) us (p ∷ [])) (Tries (repeated g) ts stop p)
      go ((ms, m, inl j)) = both ms m j (row_or_tries stop p g steady front ts xs mid ms r m)
      go ((ms, m, inr t)) = let i = row_or_tries stop p g steady front ts xs mid ms r m in (i.0, i.1, inr (xs, mid, r, inl (n, t)))

  stops_provided : {A : Type 0} (look : List T → Bool) (g : Grammar T A) → IsSteadyLook stop p look g → StopsOrTries g → StopsOrTries (provided look g)
  stops_provided look g steady one ts (inl s) = go (one ts s.1)
    where
      told : (us : List T) → Swapped stop p ts us → Stops g us (p ∷ []) → ((ts ≡ stop) × (us ≡ p ∷ [])) ⊎ Within stop p ts us → OrTried stop p ts (λ us. Stops (provided look g) us (p ∷ [])) (Tries (provided look g) ts stop p)
      told us v i (inl e) = (us, v, inl (inr (ap look e.1 ∙ steady.at_probe, e.1)))
      told us v i (inr w) = (us, v, inl (inl (steady.stays_in ts us w s.0 (inr (inl s.1)), i)))

      go : OrTried stop p ts (λ us. Stops g us (p ∷ [])) (Tries g ts stop p) → OrTried stop p ts (λ us. Stops (provided look g) us (p ∷ [])) (Tries (provided look g) ts stop p)
      go ((us, v, inl i)) = told us v i (edge stop p ts us v)
      go ((us, v, inr t)) = (us, v, inr (inl (s.0, t)))
  stops_provided look g steady one ts (inr s) = (p ∷ [], ([], s.1, refl), inl (inr (steady.at_probe, refl)))

  pub stops_or_tries : {A : Type 0} (g : Grammar T A) → is_full g ≡ true → Steady stop p g → StopsOrTries g
  stops_or_tries (token test) full steady = stops_token test
  stops_or_tries (pair g h) full steady =
      let f = and_first (is_full g) (is_full h) full in
      stops_pair g h (spells_or_tries stop p g f steady.0) (stops_or_tries g f steady.0) (stops_or_tries h (and_second (is_full g) (is_full h) full) steady.1)
  stops_or_tries (choice g h) full steady =
      let f = and_second (not (is_empty g)) (is_full g && is_full h) full in
      let a = and_first (is_full g) (is_full h) f in
      let b = and_second (is_full g) (is_full h) f in
      stops_choice g h a b steady.0 (stops_or_tries g a steady.1) (stops_or_tries h b steady.2)
  stops_or_tries (optional g) full steady = stops_optional g full steady.0 (stops_or_tries g full steady.1)
  stops_or_tries (repeated g) full steady = stops_repeated g full steady.0 (spells_or_tries stop p g full steady.1) (stops_or_tries g full steady.1)
  stops_or_tries (gives f g) full steady = stops_or_tries g full steady
  stops_or_tries (provided look g) full steady = stops_provided look g steady.0 (stops_or_tries g (and_second (not (is_empty g)) (is_full g) full) steady.1)
