-- Where a phrase can stop, and where one can be tried.
use Rattle.std.proofs.Common.{◌≡◌, ◌<◌, ◌≤◌, Bool, true, false, not, ◌&&◌, ◌||◌, List, [], ◌∷◌, length, Ok, Err, ◌⊎◌, inl, inr, refl, sym, ap, subst, ◌∙◌, arith}
use Rattle.grammar.specs.Grammar.{Grammar, token, pair, choice, optional, repeated, gives, provided, is_empty, heads, is_next, Row, Spells, Stops}
use Rattle.grammar.specs.Reading.{Reading, read}
use Rattle.grammar.proofs.Determined.{Says, said, takes, not_begun, by_cases, progress}
use Rattle.expected_phrases.specs.Tried.{begins, Tries}

-- ---- choices

pub apart : (b : Bool) → b ≡ true → b ≡ false → ⊥
apart true e h = absurd cc
apart false e h = absurd cc

pub or_false : (a b : Bool) → a || b ≡ false → (a ≡ false) × (b ≡ false)
or_false true b e = absurd cc
or_false false b e = (refl, e)

pub and_false : (a b : Bool) → a && b ≡ false → a ≡ true → b ≡ false
and_false true b e h = e
and_false false b e h = absurd cc

pub and_both : (a b : Bool) → a && b ≡ true → (a ≡ true) × (b ≡ true)
and_both true b e = (refl, e)
and_both false b e = absurd cc

pub or_other : (a b : Bool) → a || b ≡ true → a ≡ false → b ≡ true
or_other true b e h = absurd cc
or_other false b e h = e

-- ---- stops

pub row_behind : {T A : Type 0} (next : List T → Bool) (Item : List T → A → List T → Type 0) → ((ts : List T) (x : A) (rest : List T) → Item ts x rest → length rest ≤ length ts)
    → (ts : List T) (xs : List A) (rest : List T) → Row next Item ts xs rest → length rest ≤ length ts
row_behind next Item each ts [] rest r = let e = ap length r in omega arith
row_behind next Item each ts (x ∷ xs) rest r = let a = each ts x r.0 r.2 in let b = row_behind next Item each r.0 xs rest r.3 in omega arith

pub stops_behind : {T A : Type 0} (g : Grammar T A) (ts stop : List T) → Stops g ts stop → length stop ≤ length ts
stops_behind (token test) ts stop s = let e = ap length s.1 in omega arith
stops_behind (pair g h) ts stop (inl s) = stops_behind g ts stop s
stops_behind (pair g h) ts stop (inr s) = let a = takes g ts s.0 s.1 s.2 in let b = stops_behind h s.1 stop s.3 in omega arith
stops_behind (choice g h) ts stop (inl s) = stops_behind g ts stop s.1
stops_behind (choice g h) ts stop (inr s) = stops_behind h ts stop s.1
stops_behind (optional g) ts stop s = stops_behind g ts stop s.1
stops_behind (repeated g) ts stop s = let a = row_behind (is_next g) (Spells g) (takes g) ts s.0 s.1 s.2 in let b = stops_behind g s.1 stop s.4 in omega arith
stops_behind (gives f g) ts stop s = stops_behind g ts stop s
stops_behind (provided look g) ts stop (inl s) = stops_behind g ts stop s.1
stops_behind (provided look g) ts stop (inr s) = let e = ap length s.1 in omega arith

-- a phrase that the next token doesn't begin stops at once
pub waits : {T A : Type 0} (g : Grammar T A) (ts stop : List T) → is_next g ts ≡ false → Stops g ts stop → ts ≡ stop
waits (token test) ts stop e s = s.1
waits (pair g h) ts stop e (inl s) = waits g ts stop (or_false (is_next g ts) (is_empty g && is_next h ts) e).0 s
waits (pair g h) ts stop e (inr s) =
    let n = or_false (is_next g ts) (is_empty g && is_next h ts) e in
    let q = not_begun g ts s.0 s.1 n.0 s.2 in
    let m = and_false (is_empty g) (is_next h ts) n.1 q.1 in
    q.0 ∙ waits h s.1 stop (subst (λ (l : List _). is_next h l ≡ false) q.0 m) s.3
waits (choice g h) ts stop e (inl s) = absurd (apart (is_next g ts) s.0 (or_false (is_next g ts) (is_next h ts) e).0)
waits (choice g h) ts stop e (inr s) = waits h ts stop (or_false (is_next g ts) (is_next h ts) e).1 s.1
waits (optional g) ts stop e s = absurd (apart (is_next g ts) s.0 e)
waits (repeated g) ts stop e (([], mid, r, n, s)) = absurd (apart (is_next g ts) (subst (λ (l : List _). is_next g l ≡ true) (sym r) n) e)
waits (repeated g) ts stop e ((x ∷ xs, mid, r, n, s)) = absurd (apart (is_next g ts) r.1 e)
waits (gives f g) ts stop e s = waits g ts stop e s
waits (provided look g) ts stop e (inl s) = waits g ts stop (and_false (look ts) (is_next g ts) e s.0) s.1
waits (provided look g) ts stop e (inr s) = s.1

-- No phrase that may be empty is a first member, or is provided: those would stop where they could be passed over.
abbrev pub is_full : {T A : Type 0} → Grammar T A → Bool
is_full (token test) = true
is_full (pair g h) = is_full g && is_full h
is_full (choice g h) = not (is_empty g) && (is_full g && is_full h)
is_full (optional g) = is_full g
is_full (repeated g) = is_full g
is_full (gives f g) = is_full g
is_full (provided look g) = not (is_empty g) && is_full g

pub not_true : (b : Bool) → not b ≡ true → b ≡ false
not_true true e = absurd cc
not_true false e = refl

pub and_first : (a b : Bool) → a && b ≡ true → a ≡ true
and_first a b e = (and_both a b e).0

pub and_second : (a b : Bool) → a && b ≡ true → b ≡ true
and_second a b e = (and_both a b e).1

-- a phrase that may be empty, and isn't begun, doesn't stop
passes : {T A : Type 0} (g : Grammar T A) (ts stop : List T) → is_full g ≡ true → is_empty g ≡ true → is_next g ts ≡ false → Stops g ts stop → ⊥
passes (token test) ts stop full empty e s = absurd cc
passes (pair g h) ts stop full empty e (inl s) =
    passes g ts stop (and_first (is_full g) (is_full h) full) (and_first (is_empty g) (is_empty h) empty) (or_false (is_next g ts) (is_empty g && is_next h ts) e).0 s
passes (pair g h) ts stop full empty e (inr s) =
    let n = or_false (is_next g ts) (is_empty g && is_next h ts) e in
    let q = not_begun g ts s.0 s.1 n.0 s.2 in
    let m = and_false (is_empty g) (is_next h ts) n.1 q.1 in
    passes h s.1 stop (and_second (is_full g) (is_full h) full) (and_second (is_empty g) (is_empty h) empty) (subst (λ (l : List _). is_next h l ≡ false) q.0 m) s.3
passes (choice g h) ts stop full empty e (inl s) = apart (is_next g ts) s.0 (or_false (is_next g ts) (is_next h ts) e).0
passes (choice g h) ts stop full empty e (inr s) =
    let f = and_second (not (is_empty g)) (is_full g && is_full h) full in
    let n = not_true (is_empty g) (and_first (not (is_empty g)) (is_full g && is_full h) full) in
    passes h ts stop (and_second (is_full g) (is_full h) f) (or_other (is_empty g) (is_empty h) empty n) (or_false (is_next g ts) (is_next h ts) e).1 s.1
passes (optional g) ts stop full empty e s = apart (is_next g ts) s.0 e
passes (repeated g) ts stop full empty e (([], mid, r, n, s)) = apart (is_next g ts) (subst (λ (l : List _). is_next g l ≡ true) (sym r) n) e
passes (repeated g) ts stop full empty e ((x ∷ xs, mid, r, n, s)) = apart (is_next g ts) r.1 e
passes (gives f g) ts stop full empty e s = passes g ts stop full empty e s
passes (provided look g) ts stop full empty e s = apart (is_empty g) empty (not_true (is_empty g) (and_first (not (is_empty g)) (is_full g) full))

-- a phrase that the next token begins stops behind it
pub advances : {T A : Type 0} (g : Grammar T A) (ts stop : List T) → is_full g ≡ true → is_next g ts ≡ true → Stops g ts stop → length stop < length ts
advances (token test) ts stop full e s = absurd (apart (heads test ts) e s.0)
advances (pair g h) ts stop full e (inl s) =
    elim (by_cases (is_next g ts)) [
      | inl begun ↦ advances g ts stop (and_first (is_full g) (is_full h) full) begun s
      | inr other ↦
          let n = and_both (is_empty g) (is_next h ts) (or_other (is_next g ts) (is_empty g && is_next h ts) e other) in
          absurd (passes g ts stop (and_first (is_full g) (is_full h) full) n.0 other s)
    ]
advances (pair g h) ts stop full e (inr s) =
    elim (by_cases (is_next g ts)) [
      | inl begun ↦ let a = progress g ts s.0 s.1 begun s.2 in let b = stops_behind h s.1 stop s.3 in omega arith
      | inr other ↦
          let q = (not_begun g ts s.0 s.1 other s.2).0 in
          let n = and_both (is_empty g) (is_next h ts) (or_other (is_next g ts) (is_empty g && is_next h ts) e other) in
          let l = ap length q in
          let a = advances h s.1 stop (and_second (is_full g) (is_full h) full) (subst (λ (l : List _). is_next h l ≡ true) q n.1) s.3 in
          omega arith
    ]
advances (choice g h) ts stop full e (inl s) =
    advances g ts stop (and_first (is_full g) (is_full h) (and_second (not (is_empty g)) (is_full g && is_full h) full)) s.0 s.1
advances (choice g h) ts stop full e (inr s) =
    advances h ts stop (and_second (is_full g) (is_full h) (and_second (not (is_empty g)) (is_full g && is_full h) full)) (or_other (is_next g ts) (is_next h ts) e s.0) s.1
advances (optional g) ts stop full e s = advances g ts stop full s.0 s.1
advances (repeated g) ts stop full e (([], mid, r, n, s)) = let a = advances g mid stop full n s in let l = ap length r in omega arith
advances (repeated g) ts stop full e ((x ∷ xs, mid, r, n, s)) =
    let a = progress g ts x r.0 r.1 r.2 in
    let b = row_behind (is_next g) (Spells g) (takes g) r.0 xs mid r.3 in
    let c = stops_behind g mid stop s in
    omega arith
advances (gives f g) ts stop full e s = advances g ts stop full e s
advances (provided look g) ts stop full e (inl s) =
    advances g ts stop (and_second (not (is_empty g)) (is_full g) full) (and_both (look ts) (is_next g ts) e).1 s.1
advances (provided look g) ts stop full e (inr s) = absurd (apart (look ts) (and_both (look ts) (is_next g ts) e).0 s.0)

-- ---- tries

pub tries_behind : {T A : Type 0} (g : Grammar T A) (ts stop : List T) (t : T) → Tries g ts stop t → length stop ≤ length ts
tries_behind (token test) ts stop t s = let e = ap length s.2 in omega arith
tries_behind (pair g h) ts stop t (inl s) = tries_behind g ts stop t s
tries_behind (pair g h) ts stop t (inr s) = let a = takes g ts s.0 s.1 s.2 in let b = tries_behind h s.1 stop t s.3 in omega arith
tries_behind (choice g h) ts stop t (inl s) = tries_behind g ts stop t s.1
tries_behind (choice g h) ts stop t (inr (inl s)) = tries_behind h ts stop t s.1
tries_behind (choice g h) ts stop t (inr (inr s)) = let e = ap length s.1 in omega arith
tries_behind (optional g) ts stop t (inl s) = tries_behind g ts stop t s.1
tries_behind (optional g) ts stop t (inr s) = let e = ap length s.1 in omega arith
tries_behind (repeated g) ts stop t ((xs, mid, r, inl s)) = let a = row_behind (is_next g) (Spells g) (takes g) ts xs mid r in let b = tries_behind g mid stop t s.1 in omega arith
tries_behind (repeated g) ts stop t ((xs, mid, r, inr s)) = let a = row_behind (is_next g) (Spells g) (takes g) ts xs mid r in let e = ap length s.1 in omega arith
tries_behind (gives f g) ts stop t s = tries_behind g ts stop t s
tries_behind (provided look g) ts stop t (inl s) = tries_behind g ts stop t s.1
tries_behind (provided look g) ts stop t (inr s) = let e = ap length s.1 in omega arith

pub or_left : (a b : Bool) → a ≡ true → a || b ≡ true
or_left true b e = refl
or_left false b e = absurd cc

pub or_right : (a b : Bool) → b ≡ true → a || b ≡ true
or_right true b e = refl
or_right false b e = e

-- what is tried where a phrase begins can stand first in it
pub tried_first : {T A : Type 0} (g : Grammar T A) (ts stop : List T) (t : T) → length ts ≤ length stop → Tries g ts stop t → begins g t ≡ true
tried_first (token test) ts stop t le s = s.0
tried_first (pair g h) ts stop t le (inl s) = or_left (begins g t) (is_empty g && begins h t) (tried_first g ts stop t le s)
tried_first (pair g h) ts stop t le (inr s) =
    let b = tries_behind h s.1 stop t s.3 in
    elim (by_cases (is_next g ts)) [
      | inl begun ↦ let a = progress g ts s.0 s.1 begun s.2 in absurd (omega arith)
      | inr other ↦
          let q = not_begun g ts s.0 s.1 other s.2 in
          let l = ap length q.0 in
          let f = tried_first h s.1 stop t (omega arith) s.3 in
          or_right (begins g t) (is_empty g && begins h t) (rw (q.1, f) refl)
    ]
tried_first (choice g h) ts stop t le (inl s) = or_left (begins g t) (begins h t) (tried_first g ts stop t le s.1)
tried_first (choice g h) ts stop t le (inr (inl s)) = or_right (begins g t) (begins h t) (tried_first h ts stop t le s.1)
tried_first (choice g h) ts stop t le (inr (inr s)) = or_left (begins g t) (begins h t) s.2
tried_first (optional g) ts stop t le (inl s) = tried_first g ts stop t le s.1
tried_first (optional g) ts stop t le (inr s) = s.2
tried_first (repeated g) ts stop t le (([], mid, r, inl s)) = let l = ap length r in tried_first g mid stop t (omega arith) s.1
tried_first (repeated g) ts stop t le ((x ∷ xs, mid, r, inl s)) =
    let a = progress g ts x r.0 r.1 r.2 in
    let b = row_behind (is_next g) (Spells g) (takes g) r.0 xs mid r.3 in
    let c = tries_behind g mid stop t s.1 in
    absurd (omega arith)
tried_first (repeated g) ts stop t le ((xs, mid, r, inr s)) = s.2
tried_first (gives f g) ts stop t le s = tried_first g ts stop t le s
tried_first (provided look g) ts stop t le (inl s) = tried_first g ts stop t le s.1
tried_first (provided look g) ts stop t le (inr s) = s.2

-- ---- what takes all tokens

-- the phrase takes all the tokens, and is spelled or stops behind them
abbrev pub TakesAll : {T A : Type 0} → Grammar T A → List T → Type 0
TakesAll g ts = ((x : _) × Spells g ts x []) ⊎ Stops g ts []

none_left : {T : Type 0} (ts : List T) → length ts ≤ 0 → ts ≡ []
none_left [] le = refl
none_left (t ∷ ts) le = absurd (omega arith)

-- a phrase that the only token begins takes it
pub takes_one : {T A : Type 0} (g : Grammar T A) (t : T) → is_full g ≡ true → is_next g (t ∷ []) ≡ true → TakesAll g (t ∷ [])
takes_one {T} {A} g t full e = go (read g (t ∷ [])) (said g (t ∷ []))
  where
    go : (r : Reading T A) → Says g (t ∷ []) r → TakesAll g (t ∷ [])
    go (Ok x) s = let l = progress g (t ∷ []) x.0 x.1 e s in inl (x.0, subst (λ (l : List _). Spells g (t ∷ []) x.0 l) (none_left x.1 (omega arith)) s)
    go (Err stop) s = let l = advances g (t ∷ []) stop full e s in inr (subst (λ (l : List _). Stops g (t ∷ []) l) (none_left stop (omega arith)) s)

-- at the end a phrase has all tokens
pub takes_none : {T A : Type 0} (g : Grammar T A) → TakesAll g []
takes_none {T} {A} g = go (read g []) (said g [])
  where
    go : (r : Reading T A) → Says g [] r → TakesAll g []
    go (Ok x) s = let l = takes g [] x.0 x.1 s in inl (x.0, subst (λ (l : List _). Spells g [] x.0 l) (none_left x.1 (omega arith)) s)
    go (Err stop) s = let l = stops_behind g [] stop s in inr (subst (λ (l : List _). Stops g [] l) (none_left stop (omega arith)) s)

-- nothing begins at the end
pub nothing_next : {T A : Type 0} (g : Grammar T A) → is_full g ≡ true → is_next g [] ≡ false
nothing_next {T} {A} g full = go (by_cases (is_next g [])) (takes_none g)
  where
    go : (is_next g [] ≡ true) ⊎ (is_next g [] ≡ false) → TakesAll g [] → is_next g [] ≡ false
    go (inr e) s = e
    go (inl e) (inl s) = let l = progress g [] s.0 [] e s.1 in absurd (omega arith)
    go (inl e) (inr s) = let l = advances g [] [] full e s in absurd (omega arith)
