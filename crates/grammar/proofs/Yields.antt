-- What holds of each tree of a grammar, and how many tokens it takes at least.
use Rattle.std.proofs.Common.{◌≡◌, ◌≤◌, ◌+◌, ℕ, Bool, true, false, List, [], ◌∷◌, Option, Some, None, length, ◌⊎◌, inl, inr, sym, ap, subst, ◌∙◌, arith, refl}
use Rattle.std.specs.Prelude.{All, IfSome, sum_by}
use Rattle.std.specs.List.{AllByRecursion}
use Rattle.std.proofs.lemmas.List.Elements.{All-cons}
use Rattle.std.proofs.lemmas.List.Sums.{sum_by-cons}
use Rattle.grammar.specs.Grammar.{Grammar, token, pair, choice, optional, repeated, gives, provided, is_empty, is_next, Row, Spells}
use Rattle.grammar.proofs.Determined.{takes, not_begun, by_cases, progress}

row_keeps : {T A : Type 0} (Q : T → Type 0) (next : List T → Bool) (Item : List T → A → List T → Type 0) → ((ts : List T) (x : A) (rest : List T) → Item ts x rest → AllByRecursion Q ts → AllByRecursion Q rest)
    → (ts : List T) (xs : List A) (rest : List T) → Row next Item ts xs rest → AllByRecursion Q ts → AllByRecursion Q rest
row_keeps Q next Item stay ts [] rest r all = let P = λ (l : List _). AllByRecursion Q l in subst P r all
row_keeps Q next Item stay ts (x ∷ xs) rest r all = row_keeps Q next Item stay r.0 xs rest r.3 (stay ts x r.0 r.2 all)

-- what holds of all tokens holds of those behind a phrase
pub keeps : {T A : Type 0} (Q : T → Type 0) (g : Grammar T A) (ts : List T) (x : A) (rest : List T) → Spells g ts x rest → AllByRecursion Q ts → AllByRecursion Q rest
keeps Q (token test) ts x rest s all = (let P = λ (l : List _). AllByRecursion Q l in subst P s.1 all).1
keeps Q (pair g h) ts x rest s all = keeps Q h s.0 x.1 rest s.2 (keeps Q g ts x.0 s.0 s.1 all)
keeps Q (choice g h) ts x rest (inl s) all = keeps Q g ts x rest s.1 all
keeps Q (choice g h) ts x rest (inr s) all = keeps Q h ts x rest s.1 all
keeps Q (optional g) ts None rest s all = let P = λ (l : List _). AllByRecursion Q l in subst P s.1 all
keeps Q (optional g) ts (Some x) rest s all = keeps Q g ts x rest s.1 all
keeps {T} {A} Q (repeated g) ts xs rest s all = row_keeps Q (is_next g) (Spells g) (λ us y behind t q. keeps Q g us y behind t q) ts xs rest s.0 all
keeps Q (gives f g) ts y rest s all = keeps Q g ts s.0 rest s.2 all
keeps Q (provided look g) ts x rest s all = keeps Q g ts x rest s.1 all

-- each tree that is spelled by tokens of this kind has the property
pub record YieldsFrom {T A : Type 0} (Q : T → Type 0) (g : Grammar T A) (P : A → Type 0) : Type 0 where
  pub holds : (ts : List T) (x : A) (rest : List T) → AllByRecursion Q ts → Spells g ts x rest → P x

-- of any tokens
abbrev pub Yields : {T A : Type 0} → Grammar T A → (A → Type 0) → Type 0
Yields g P = YieldsFrom (λ _. Unit {0}) g P

pub anything : {T A : Type 0} {Q : T → Type 0} (g : Grammar T A) → YieldsFrom Q g (λ _. Unit {0})
anything g = record { holds = λ ts x rest all s. tt }

pub of_token : {T : Type 0} {Q : T → Type 0} (test : T → Bool) → YieldsFrom Q (token test) (λ t. test t ≡ true)
of_token test = record { holds = λ ts x rest all s. s.0 }

pub of_kind : {T : Type 0} {Q : T → Type 0} (test : T → Bool) → YieldsFrom Q (token test) (λ t. (test t ≡ true) × Q t)
of_kind {T} {Q} test = record { holds = λ ts x rest all s. (s.0, (let P = λ (l : List T). AllByRecursion Q l in subst P s.1 all).0) }

pub of_pair : {T A B : Type 0} {R : T → Type 0} (g : Grammar T A) (h : Grammar T B) (P : A → Type 0) (Q : B → Type 0) → YieldsFrom R g P → YieldsFrom R h Q → YieldsFrom R (pair g h) (λ x. P x.0 × Q x.1)
of_pair {R = R} g h P Q p q = record { holds = λ ts x rest all s. (p.holds ts x.0 s.0 all s.1, q.holds s.0 x.1 rest (keeps R g ts x.0 s.0 s.1 all) s.2) }

pub of_gives : {T A B : Type 0} {R : T → Type 0} (f : A → B) (g : Grammar T A) (P : A → Type 0) (Q : B → Type 0) → ((x : A) → P x → Q (f x)) → YieldsFrom R g P → YieldsFrom R (gives f g) Q
of_gives f g P Q to p = record { holds = λ ts y rest all s. subst Q (sym s.1) (to s.0 (p.holds ts s.0 rest all s.2)) }

pub of_first : {T A B : Type 0} {R : T → Type 0} (g : Grammar T A) (h : Grammar T B) (P : A → Type 0) → YieldsFrom R g P → YieldsFrom R (gives (λ (x : A × B). x.0) (pair g h)) P
of_first {A} {B} g h P p = of_gives (λ (x : A × B). x.0) (pair g h) (λ x. P x.0 × Unit {0}) P (λ x q. q.0) (of_pair g h P (λ _. Unit {0}) p (anything h))

pub of_second : {T A B : Type 0} {R : T → Type 0} (g : Grammar T A) (h : Grammar T B) (Q : B → Type 0) → YieldsFrom R h Q → YieldsFrom R (gives (λ (x : A × B). x.1) (pair g h)) Q
of_second {A} {B} g h Q q = of_gives (λ (x : A × B). x.1) (pair g h) (λ x. Unit {0} × Q x.1) Q (λ x p. p.1) (of_pair g h (λ _. Unit {0}) Q (anything g) q)

pub of_choice : {T A : Type 0} {R : T → Type 0} (g h : Grammar T A) (P : A → Type 0) → YieldsFrom R g P → YieldsFrom R h P → YieldsFrom R (choice g h) P
of_choice {T} {A} {R} g h P p q = record { holds = either }
  where
    either : (ts : List T) (x : A) (rest : List T) → AllByRecursion R ts → Spells (choice g h) ts x rest → P x
    either ts x rest all (inl s) = p.holds ts x rest all s.1
    either ts x rest all (inr s) = q.holds ts x rest all s.1

pub of_optional : {T A : Type 0} {R : T → Type 0} (g : Grammar T A) (P : A → Type 0) → YieldsFrom R g P → YieldsFrom R (optional g) (λ o. IfSome o P)
of_optional {T} {A} {R} g P p = record { holds = either }
  where
    either : (ts : List T) (x : Option A) (rest : List T) → AllByRecursion R ts → Spells (optional g) ts x rest → IfSome x P
    either ts None rest all s = tt
    either ts (Some x) rest all s = p.holds ts x rest all s.1

row_all : {T A : Type 0} (R : T → Type 0) (next : List T → Bool) (Item : List T → A → List T → Type 0) (P : A → Type 0)
    → ((ts : List T) (x : A) (rest : List T) → Item ts x rest → AllByRecursion R ts → AllByRecursion R rest) → ((ts : List T) (x : A) (rest : List T) → AllByRecursion R ts → Item ts x rest → P x)
    → (ts : List T) (xs : List A) (rest : List T) → AllByRecursion R ts → Row next Item ts xs rest → All P xs
row_all R next Item P stay p ts [] rest all r = λ k d l. absurd (omega arith)
row_all R next Item P stay p ts (x ∷ xs) rest all r = All-cons P x xs (p ts x r.0 all r.2) (row_all R next Item P stay p r.0 xs rest (stay ts x r.0 r.2 all) r.3)

pub of_repeated : {T A : Type 0} {R : T → Type 0} (g : Grammar T A) (P : A → Type 0) → YieldsFrom R g P → YieldsFrom R (repeated g) (All P)
of_repeated {R = R} g P p = record { holds = λ ts xs rest all s. row_all R _ (Spells g) P (keeps R g) p.holds ts xs rest all s.0 }

pub of_provided : {T A : Type 0} {R : T → Type 0} (look : List T → Bool) (g : Grammar T A) (P : A → Type 0) → YieldsFrom R g P → YieldsFrom R (provided look g) P
of_provided look g P p = record { holds = λ ts x rest all s. p.holds ts x rest all s.1 }

-- a first item before the others
pub of_led : {T A : Type 0} {R : T → Type 0} (g h : Grammar T A) (P : A → Type 0) → YieldsFrom R g P → YieldsFrom R h P → YieldsFrom R (gives (λ (x : A × List A). x.0 ∷ x.1) (pair g (repeated h))) (All P)
of_led {A = A} g h P p q = of_gives (λ (x : A × List A). x.0 ∷ x.1) (pair g (repeated h)) (λ x. P x.0 × All P x.1) (All P) (λ x r. All-cons P x.0 x.1 r.0 r.1) (of_pair g (repeated h) P (All P) p (of_repeated h P q))

-- any tokens will do
pub of_all : {T : Type 0} (ts : List T) → AllByRecursion (λ _. Unit {0}) ts
of_all [] = tt
of_all (t ∷ ts) = (tt, of_all ts)

-- ---- tokens

-- a tree takes so many tokens, or more
pub record Takes {T A : Type 0} (g : Grammar T A) (n : A → ℕ) : Type 0 where
  pub bound : (ts : List T) (x : A) (rest : List T) → Spells g ts x rest → n x + length rest ≤ length ts

pub none : {T A : Type 0} (g : Grammar T A) → Takes g (λ _. 0)
none g = record { bound = λ ts x rest s. let l = takes g ts x rest s in omega arith }

pub one : {T : Type 0} (test : T → Bool) → Takes (token test) (λ _. 1)
one test = record { bound = λ ts x rest s. let e = ap length s.1 in omega arith }

pub both : {T A B : Type 0} (g : Grammar T A) (h : Grammar T B) (n : A → ℕ) (m : B → ℕ) → Takes g n → Takes h m → Takes (pair g h) (λ x. n x.0 + m x.1)
both g h n m p q = record { bound = λ ts x rest s. let a = p.bound ts x.0 s.0 s.1 in let b = q.bound s.0 x.1 rest s.2 in omega arith }

pub made : {T A B : Type 0} (f : A → B) (g : Grammar T A) (n : A → ℕ) (m : B → ℕ) → ((x : A) → m (f x) ≤ n x) → Takes g n → Takes (gives f g) m
made f g n m to p = record {
  bound = λ ts y rest s.
      let a = p.bound ts s.0 rest s.2 in
      let b = to s.0 in
      let e : m y ≡ m (f s.0) = ap m s.1 in
      omega arith;
}

pub first_of : {T A B : Type 0} (g : Grammar T A) (h : Grammar T B) (n : A → ℕ) → Takes g n → Takes (gives (λ (x : A × B). x.0) (pair g h)) n
first_of {A} {B} g h n p = made (λ (x : A × B). x.0) (pair g h) (λ x. n x.0 + 0) n (λ x. omega arith) (both g h n (λ _. 0) p (none h))

pub second_of : {T A B : Type 0} (g : Grammar T A) (h : Grammar T B) (m : B → ℕ) → Takes h m → Takes (gives (λ (x : A × B). x.1) (pair g h)) m
second_of {A} {B} g h m q = made (λ (x : A × B). x.1) (pair g h) (λ x. 0 + m x.1) m (λ x. omega arith) (both g h (λ _. 0) m (none g) q)

-- behind a token
pub behind : {T B : Type 0} (test : T → Bool) (h : Grammar T B) (m : B → ℕ) → Takes h m → Takes (gives (λ (x : T × B). x.1) (pair (token test) h)) (λ x. 1 + m x)
behind {T} {B} test h m q = made (λ (x : T × B). x.1) (pair (token test) h) (λ x. 1 + m x.1) (λ x. 1 + m x) (λ x. omega arith) (both (token test) h (λ _. 1) m (one test) q)

pub either_of : {T A : Type 0} (g h : Grammar T A) (n : A → ℕ) → Takes g n → Takes h n → Takes (choice g h) n
either_of {T} {A} g h n p q = record { bound = either }
  where
    either : (ts : List T) (x : A) (rest : List T) → Spells (choice g h) ts x rest → n x + length rest ≤ length ts
    either ts x rest (inl s) = p.bound ts x rest s.1
    either ts x rest (inr s) = q.bound ts x rest s.1

row_sum : {T A : Type 0} (next : List T → Bool) (Item : List T → A → List T → Type 0) (n : A → ℕ) → ((ts : List T) (x : A) (rest : List T) → Item ts x rest → n x + length rest ≤ length ts)
    → (ts : List T) (xs : List A) (rest : List T) → Row next Item ts xs rest → sum_by n xs + length rest ≤ length ts
row_sum next Item n p ts [] rest r = let e = ap length r in omega arith
row_sum next Item n p ts (x ∷ xs) rest r =
    let a = p ts x r.0 r.2 in
    let b = row_sum next Item n p r.0 xs rest r.3 in
    omega (arith, sum_by-cons n x xs)

pub each : {T A : Type 0} (g : Grammar T A) (n : A → ℕ) → Takes g n → Takes (repeated g) (sum_by n)
each g n p = record { bound = λ ts xs rest s. row_sum _ (Spells g) n p.bound ts xs rest s.0 }

-- a phrase that can't be empty takes a token
pub some : {T A : Type 0} (g : Grammar T A) → is_empty g ≡ false → Takes g (λ _. 1)
some {T} {A} g full = record { bound = bound }
  where
    more : (ts : List T) (x : A) (rest : List T) → (is_next g ts ≡ true) ⊎ (is_next g ts ≡ false) → Spells g ts x rest → 1 + length rest ≤ length ts
    more ts x rest (inl begun) s = let l = progress g ts x rest begun s in omega arith
    more ts x rest (inr other) s = absurd (let e : true ≡ false = sym (not_begun g ts x rest other s).1 ∙ full in cc)

    bound : (ts : List T) (x : A) (rest : List T) → Spells g ts x rest → 1 + length rest ≤ length ts
    bound ts x rest s = more ts x rest (by_cases (is_next g ts)) s

-- what is counted of an optional part
abbrev pub if_some : {A : Type 0} → (A → ℕ) → Option A → ℕ
if_some n None = 0
if_some n (Some x) = n x

pub maybe : {T A : Type 0} (g : Grammar T A) (n : A → ℕ) → Takes g n → Takes (optional g) (if_some n)
maybe {T} {A} g n p = record { bound = bound }
  where
    bound : (ts : List T) (x : Option A) (rest : List T) → Spells (optional g) ts x rest → if_some n x + length rest ≤ length ts
    bound ts None rest s = let e = ap length s.1 in omega arith
    bound ts (Some x) rest s = p.bound ts x rest s.1

pub looking : {T A : Type 0} (look : List T → Bool) (g : Grammar T A) (n : A → ℕ) → Takes g n → Takes (provided look g) n
looking look g n p = record { bound = λ ts x rest s. p.bound ts x rest s.1 }

pub led_by : {T A : Type 0} (g h : Grammar T A) (n : A → ℕ) → Takes g n → Takes h n → Takes (gives (λ (x : A × List A). x.0 ∷ x.1) (pair g (repeated h))) (sum_by n)
led_by {A = A} g h n p q = made (λ (x : A × List A). x.0 ∷ x.1) (pair g (repeated h)) (λ x. n x.0 + sum_by n x.1) (sum_by n) (λ x. omega (arith, sum_by-cons n x.0 x.1)) (both g (repeated h) n (sum_by n) p (each h n q))

-- items of one token each
pub sum_of_ones : {A : Type 0} (xs : List A) → sum_by (λ _. 1) xs ≡ length xs
sum_of_ones [] = refl
sum_of_ones {A} (x ∷ xs) = omega (arith, sum_by-cons (λ (y : A). 1) x xs, sum_of_ones xs)

pub counted : {T A : Type 0} (g : Grammar T (List A)) → Takes g (sum_by (λ _. 1)) → Takes g length
counted g p = record { bound = λ ts xs rest s. let l = p.bound ts xs rest s in omega (arith, sum_of_ones xs) }
