-- Reading on with a probe in the place of the tokens at the stop.
use Rattle.std.proofs.Common.{◌≡◌, ◌<◌, ◌≤◌, ◌++◌, Bool, true, false, not, ◌&&◌, ◌||◌, List, [], ◌∷◌, length, Some, None, ◌⊎◌, inl, inr, refl, sym, ap, subst, ◌∙◌, arith}
use Rattle.grammar.specs.Grammar.{Grammar, token, pair, choice, optional, repeated, gives, provided, is_empty, is_next, Row, Spells, Stops}
use Rattle.grammar.proofs.Determined.{not_begun, by_cases, progress}
use Rattle.expected_phrases.specs.Tried.{begins, Tries}
use Rattle.expected_phrases.proofs.Places.{apart, and_first, and_second, not_true, is_full}

-- tokens up to the stop, and the same with the probe in the place of the stop
abbrev pub Swapped : {T : Type 0} → List T → T → List T → List T → Type 0
Swapped {T} stop p ts us = (u : List T) × (ts ≡ u ++ stop) × (us ≡ u ++ p ∷ [])

-- the same, where tokens are left before the stop
abbrev pub Within : {T : Type 0} → List T → T → List T → List T → Type 0
Within {T} stop p ts us = (t : T) × (u : List T) × (ts ≡ t ∷ (u ++ stop)) × (us ≡ t ∷ (u ++ p ∷ []))

-- the phrase comes to the stop
abbrev pub Reaches : {T A : Type 0} → List T → T → Grammar T A → List T → Type 0
Reaches {T} {A} stop p g ts = ((x : A) × (rest : List T) × Spells g ts x rest × (length stop ≤ length rest)) ⊎ (Stops g ts stop ⊎ Tries g ts stop p)

-- what begins the phrase is not told by what stands at the stop
pub record IsSteadyNext {T A : Type 0} (stop : List T) (p : T) (g : Grammar T A) : Type 0 where
  pub at_probe : is_next g (p ∷ []) ≡ begins g p
  pub stays_out : (ts us : List T) → Within stop p ts us → is_next g ts ≡ false → is_next g us ≡ false
  pub stays_in : (ts us : List T) → Within stop p ts us → is_next g ts ≡ true → Reaches stop p g ts → is_next g us ≡ true

-- nor is what a look tells
pub record IsSteadyLook {T A : Type 0} (stop : List T) (p : T) (look : List T → Bool) (g : Grammar T A) : Type 0 where
  pub at_probe : look (p ∷ []) ≡ false
  pub begins_not : begins g p ≡ false
  pub stays_in : (ts us : List T) → Within stop p ts us → look ts ≡ true → Reaches stop p g ts → look us ≡ true

abbrev pub Steady : {T A : Type 0} → List T → T → Grammar T A → Type 0
Steady stop p (token test) = Unit {0}
Steady stop p (pair g h) = Steady stop p g × Steady stop p h
Steady stop p (choice g h) = IsSteadyNext stop p g × Steady stop p g × Steady stop p h
Steady stop p (optional g) = IsSteadyNext stop p g × Steady stop p g
Steady stop p (repeated g) = IsSteadyNext stop p g × Steady stop p g
Steady stop p (gives f g) = Steady stop p g
Steady stop p (provided look g) = IsSteadyLook stop p look g × Steady stop p g

pub neither : (a b : Bool) → a ≡ false → b ≡ false → a || b ≡ false
neither true b e h = absurd cc
neither false b e h = h

-- ---- places

module _ {T : Type 0} (stop : List T) (p : T) where
  pub edge : (ts us : List T) → Swapped stop p ts us → ((ts ≡ stop) × (us ≡ p ∷ [])) ⊎ Within stop p ts us
  edge ts us (([], e, f)) = inl (e, f)
  edge ts us ((t ∷ u, e, f)) = inr (t, u, e, f)

  pub within : (ts us : List T) → Swapped stop p ts us → length stop < length ts → Within stop p ts us
  within ts us (([], e, f)) l = let d = ap length e in absurd (omega arith)
  within ts us ((t ∷ u, e, f)) l = (t, u, e, f)

  pub behind : (ts us : List T) → Swapped stop p ts us → length stop ≤ length ts
  behind ts us (([], e, f)) = let d = ap length e in omega arith
  behind ts us ((t ∷ u, e, f)) = let d = ap length e in let m : length stop ≤ length (u ++ stop) = behind (u ++ stop) (u ++ p ∷ []) (u, refl, refl) in omega arith

  -- ---- what is spelled

  -- what is the case with the probe, or else is tried at the stop
  abbrev pub OrTried : List T → (List T → Type 0) → Type 0 → Type 0
  OrTried ts Else Tried = (us : List T) × Swapped stop p ts us × (Else us ⊎ Tried)

  abbrev pub SpellsOrTries : {A : Type 0} → Grammar T A → Type 0
  SpellsOrTries {A} g = (ts : List T) (x : A) (rest rs : List T) → Spells g ts x rest → Swapped stop p rest rs → OrTried ts (λ us. Spells g us x rs) (Tries g ts stop p)

  abbrev pub TriesInRow : {A : Type 0} → Grammar T A → List T → Type 0
  TriesInRow {A} g ts = (xs : List A) × (mid : List T) × Row (is_next g) (Spells g) ts xs mid × (is_next g mid ≡ true) × Tries g mid stop p

  pub row_or_tries : {A : Type 0} (g : Grammar T A) → IsSteadyNext stop p g → SpellsOrTries g
      → (ts : List T) (xs : List A) (mid ms : List T) → Row (is_next g) (Spells g) ts xs mid → Swapped stop p mid ms
      → OrTried ts (λ us. Row (is_next g) (Spells g) us xs ms) (TriesInRow g ts)
  row_or_tries g steady one ts [] mid ms r w = (ms, subst (λ (l : List T). Swapped stop p l ms) (sym r) w, inl refl)
  row_or_tries {A} g steady one ts (x ∷ xs) mid ms r w = more (row_or_tries g steady one r.0 xs mid ms r.3 w)
    where
      this : (us vs : List T) → Swapped stop p r.0 vs → Row (is_next g) (Spells g) vs xs ms → Swapped stop p ts us → Spells g us x vs ⊎ Tries g ts stop p
          → OrTried ts (λ us. Row (is_next g) (Spells g) us (x ∷ xs) ms) (TriesInRow g ts)
      this us vs w rs v (inl s) =
          let l = progress g ts x r.0 r.1 r.2 in
          let b = behind r.0 vs w in
          let n = steady.stays_in ts us (within ts us v (omega arith)) r.1 (inl (x, r.0, r.2, b)) in
          (us, v, inl (vs, n, s, rs))
      this us vs w rs v (inr t) = (us, v, inr ([], ts, refl, r.1, t))

      more : OrTried r.0 (λ us. Row (is_next g) (Spells g) us xs ms) (TriesInRow g r.0) → OrTried ts (λ us. Row (is_next g) (Spells g) us (x ∷ xs) ms) (TriesInRow g ts)
      more ((vs, v, inl rs)) = let s = one ts x r.0 vs r.2 v in this s.0 vs v rs s.1 s.2
      more ((vs, v, inr t)) = let s = one ts x r.0 vs r.2 v in (s.0, s.1, inr (x ∷ t.0, t.1, (r.0, r.1, r.2, t.2), t.3, t.4))

  -- at the end of what is repeated, or where what is optional is passed over
  pub over_or_tries : {A : Type 0} (g : Grammar T A) → IsSteadyNext stop p g → (rest rs : List T) → Swapped stop p rest rs → is_next g rest ≡ false
      → (is_next g rs ≡ false) ⊎ ((is_next g rest ≡ false) × (rest ≡ stop) × (begins g p ≡ true))
  over_or_tries g steady rest rs w n = go (edge rest rs w)
    where
      told : (rest ≡ stop) × (rs ≡ p ∷ []) → (begins g p ≡ true) ⊎ (begins g p ≡ false) → (is_next g rs ≡ false) ⊎ ((is_next g rest ≡ false) × (rest ≡ stop) × (begins g p ≡ true))
      told e (inl b) = inr (n, e.0, b)
      told e (inr b) = inl (ap (is_next g) e.1 ∙ steady.at_probe ∙ b)

      go : ((rest ≡ stop) × (rs ≡ p ∷ [])) ⊎ Within stop p rest rs → (is_next g rs ≡ false) ⊎ ((is_next g rest ≡ false) × (rest ≡ stop) × (begins g p ≡ true))
      go (inl e) = told e (by_cases (begins g p))
      go (inr i) = inl (steady.stays_out rest rs i n)

  spells_pair : {A B : Type 0} (g : Grammar T A) (h : Grammar T B) → SpellsOrTries g → SpellsOrTries h → SpellsOrTries (pair g h)
  spells_pair g h one two ts x rest rs s w = go (two s.0 x.1 rest rs s.2 w)
    where
      both : (ms : List T) → Spells h ms x.1 rs → OrTried ts (λ us. Spells g us x.0 ms) (Tries g ts stop p) → OrTried ts (λ us. Spells (pair g h) us x rs) (Tries (pair g h) ts stop p)
      both ms j ((us, v, inl i)) = (us, v, inl (ms, i, j))
      both ms j ((us, v, inr t)) = (us, v, inr (inl t))

      go : OrTried s.0 (λ us. Spells h us x.1 rs) (Tries h s.0 stop p) → OrTried ts (λ us. Spells (pair g h) us x rs) (Tries (pair g h) ts stop p)
      go ((ms, m, inl j)) = both ms j (one ts x.0 s.0 ms s.1 m)
      go ((ms, m, inr t)) = let i = one ts x.0 s.0 ms s.1 m in (i.0, i.1, inr (inr (x.0, s.0, s.1, t)))

  spells_token : (test : T → Bool) → SpellsOrTries (token test)
  spells_token test ts x rest rs s w = (x ∷ rs, (x ∷ w.0, s.1 ∙ ap (λ (l : List T). x ∷ l) w.1, ap (λ (l : List T). x ∷ l) w.2), inl (s.0, refl))

  -- a part that took tokens, and was begun
  inside : {A : Type 0} (g : Grammar T A) → IsSteadyNext stop p g → (ts us rest rs : List T) (x : A) → Swapped stop p ts us → Swapped stop p rest rs → is_next g ts ≡ true → Spells g ts x rest → is_next g us ≡ true
  inside g steady ts us rest rs x w v n s =
      let l = progress g ts x rest n s in
      let b = behind rest rs v in
      steady.stays_in ts us (within ts us w (omega arith)) n (inl (x, rest, s, b))

  spells_choice : {A : Type 0} (g h : Grammar T A) → IsSteadyNext stop p g → SpellsOrTries g → SpellsOrTries h → SpellsOrTries (choice g h)
  spells_choice {A} g h steady one two ts x rest rs (inl s) w = go (one ts x rest rs s.1 w)
    where
      go : OrTried ts (λ us. Spells g us x rs) (Tries g ts stop p) → OrTried ts (λ us. Spells (choice g h) us x rs) (Tries (choice g h) ts stop p)
      go ((us, v, inl i)) = (us, v, inl (inl (inside g steady ts us rest rs x v w s.0 s.1, i)))
      go ((us, v, inr t)) = (us, v, inr (inl (s.0, t)))
  spells_choice {A} g h steady one two ts x rest rs (inr s) w = go (two ts x rest rs s.1 w)
    where
      told : (us : List T) → Swapped stop p ts us → Spells h us x rs → (is_next g us ≡ false) ⊎ ((is_next g ts ≡ false) × (ts ≡ stop) × (begins g p ≡ true)) → OrTried ts (λ us. Spells (choice g h) us x rs) (Tries (choice g h) ts stop p)
      told us v i (inl n) = (us, v, inl (inr (n, i)))
      told us v i (inr t) =
          elim (by_cases (is_next h ts)) [
            | inl begun ↦
                let l = progress h ts x rest begun s.1 in
                let b = behind rest rs w in
                let d = ap length t.1 in
                absurd (omega arith)
            | inr other ↦ (us, v, inr (inr (inr (neither (is_next g ts) (is_next h ts) t.0 other, t.1, t.2))))
          ]

      go : OrTried ts (λ us. Spells h us x rs) (Tries h ts stop p) → OrTried ts (λ us. Spells (choice g h) us x rs) (Tries (choice g h) ts stop p)
      go ((us, v, inl i)) = told us v i (over_or_tries g steady ts us v s.0)
      go ((us, v, inr t)) = (us, v, inr (inr (inl (s.0, t))))

  spells_optional : {A : Type 0} (g : Grammar T A) → IsSteadyNext stop p g → SpellsOrTries g → SpellsOrTries (optional g)
  spells_optional g steady one ts None rest rs s w = told (over_or_tries g steady rest rs w (subst (λ (l : List T). is_next g l ≡ false) s.1 s.0))
    where
      told : (is_next g rs ≡ false) ⊎ ((is_next g rest ≡ false) × (rest ≡ stop) × (begins g p ≡ true)) → OrTried ts (λ us. Spells (optional g) us None rs) (Tries (optional g) ts stop p)
      told (inl n) = (rs, subst (λ (l : List T). Swapped stop p l rs) (sym s.1) w, inl (n, refl))
      told (inr t) = (rs, subst (λ (l : List T). Swapped stop p l rs) (sym s.1) w, inr (inr (s.0, s.1 ∙ t.1, t.2)))
  spells_optional g steady one ts (Some x) rest rs s w = go (one ts x rest rs s.1 w)
    where
      go : OrTried ts (λ us. Spells g us x rs) (Tries g ts stop p) → OrTried ts (λ us. Spells (optional g) us (Some x) rs) (Tries (optional g) ts stop p)
      go ((us, v, inl i)) = (us, v, inl (inside g steady ts us rest rs x v w s.0 s.1, i))
      go ((us, v, inr t)) = (us, v, inr (inl (s.0, t)))

  spells_repeated : {A : Type 0} (g : Grammar T A) → IsSteadyNext stop p g → SpellsOrTries g → SpellsOrTries (repeated g)
  spells_repeated g steady one ts xs rest rs s w = go (row_or_tries g steady one ts xs rest rs s.0 w) (over_or_tries g steady rest rs w s.1)
    where
      go : OrTried ts (λ us. Row (is_next g) (Spells g) us xs rs) (TriesInRow g ts) → (is_next g rs ≡ false) ⊎ ((is_next g rest ≡ false) × (rest ≡ stop) × (begins g p ≡ true))
          → OrTried ts (λ us. Spells (repeated g) us xs rs) (Tries (repeated g) ts stop p)
      go ((us, v, inl r)) (inl n) = (us, v, inl (r, n))
      go ((us, v, inl r)) (inr t) = (us, v, inr (xs, rest, s.0, inr t))
      go ((us, v, inr t)) n = (us, v, inr (t.0, t.1, t.2, inl (t.3, t.4)))

  spells_gives : {A B : Type 0} (f : A → B) (g : Grammar T A) → SpellsOrTries g → SpellsOrTries (gives f g)
  spells_gives f g one ts y rest rs s w = go (one ts s.0 rest rs s.2 w)
    where
      go : OrTried ts (λ us. Spells g us s.0 rs) (Tries g ts stop p) → OrTried ts (λ us. Spells (gives f g) us y rs) (Tries (gives f g) ts stop p)
      go ((us, v, inl i)) = (us, v, inl (s.0, s.1, i))
      go ((us, v, inr t)) = (us, v, inr t)

  takes_some : {A : Type 0} (g : Grammar T A) (ts : List T) (x : A) (rest : List T) → is_empty g ≡ false → Spells g ts x rest → length rest < length ts
  takes_some g ts x rest some s =
      elim (by_cases (is_next g ts)) [
        | inl begun ↦ progress g ts x rest begun s
        | inr other ↦ absurd (apart (is_empty g) (not_begun g ts x rest other s).1 some)
      ]

  spells_provided : {A : Type 0} (look : List T → Bool) (g : Grammar T A) → is_empty g ≡ false → IsSteadyLook stop p look g → SpellsOrTries g → SpellsOrTries (provided look g)
  spells_provided look g some steady one ts x rest rs s w = go (one ts x rest rs s.1 w)
    where
      go : OrTried ts (λ us. Spells g us x rs) (Tries g ts stop p) → OrTried ts (λ us. Spells (provided look g) us x rs) (Tries (provided look g) ts stop p)
      go ((us, v, inl i)) =
          let l = takes_some g ts x rest some s.1 in
          let b = behind rest rs w in
          (us, v, inl (steady.stays_in ts us (within ts us v (omega arith)) s.0 (inl (x, rest, s.1, b)), i))
      go ((us, v, inr t)) = (us, v, inr (inl (s.0, t)))

  pub spells_or_tries : {A : Type 0} (g : Grammar T A) → is_full g ≡ true → Steady stop p g → SpellsOrTries g
  spells_or_tries (token test) full steady = spells_token test
  spells_or_tries (pair g h) full steady =
      spells_pair g h (spells_or_tries g (and_first (is_full g) (is_full h) full) steady.0) (spells_or_tries h (and_second (is_full g) (is_full h) full) steady.1)
  spells_or_tries (choice g h) full steady =
      let f = and_second (not (is_empty g)) (is_full g && is_full h) full in
      spells_choice g h steady.0 (spells_or_tries g (and_first (is_full g) (is_full h) f) steady.1) (spells_or_tries h (and_second (is_full g) (is_full h) f) steady.2)
  spells_or_tries (optional g) full steady = spells_optional g steady.0 (spells_or_tries g full steady.1)
  spells_or_tries (repeated g) full steady = spells_repeated g steady.0 (spells_or_tries g full steady.1)
  spells_or_tries (gives f g) full steady = spells_gives f g (spells_or_tries g full steady)
  spells_or_tries (provided look g) full steady =
      spells_provided look g (not_true (is_empty g) (and_first (not (is_empty g)) (is_full g) full)) steady.0
      (spells_or_tries g (and_second (not (is_empty g)) (is_full g) full) steady.1)
