-- Reading what is repeated, one item after the other, where nothing is kept or where a first item is read before.
use Rattle.std.proofs.Common.{◌≡◌, Bool, true, false, cond, ℕ, List, [], ◌∷◌, Result, Ok, Err, refl, sym, ap, ◌∙◌}
use Rattle.grammar.specs.Grammar.{Grammar, token, pair, repeated, gives, is_next, heads}
use Rattle.grammar.specs.Reading.{Reading, ◌>>=◌, read}
use Rattle.grammar.proofs.Rows.{read_more, read_halts, read_ends, with_front, halts}
use Rattle.ir_lexer.specs.Lexeme.{Lexeme}
use Rattle.ir_lexer.specs.declared.token.Token.{Token}
use Rattle.ir_parser.specs.Tokens.{G}
use Rattle.ir_parser.specs.Reader.{GivesOrMemory}
use Rattle.ir_parser.specs.declared.tokens.Trouble.{Trouble}
use Rattle.ir_parser.specs.declared.tokens.Trouble.TheVariants.{Memory, Stopped}

-- ---- nothing is kept

abbrev forget : {T A : Type 0} → Reading T A → Reading T (Unit {0})
forget r = r >>= λ x. Ok (tt, x.1)

forget_more : {T A : Type 0} (x : A) (r : Reading T (List A)) → forget (r >>= λ xs. Ok (x ∷ xs.0, xs.1)) ≡ forget r
forget_more x (Ok xs) = refl
forget_more x (Err stop) = refl

pub passes_on : {T A : Type 0} (g : Grammar T A) (ts mid : List T) (x : A) (total : Reading T (Unit {0})) → is_next g ts ≡ true → read g ts ≡ Ok (x, mid)
    → read (gives (λ (xs : List A). tt) (repeated g)) ts ≡ total → read (gives (λ (xs : List A). tt) (repeated g)) mid ≡ total
passes_on g ts mid x total next e so_far = sym (forget_more x (read (repeated g) mid)) ∙ ap forget (sym (read_more g ts x mid next e)) ∙ so_far

pub passing_halts : {T A : Type 0} (g : Grammar T A) (ts stop : List T) (total : Reading T (Unit {0})) → is_next g ts ≡ true → read g ts ≡ Err stop
    → read (gives (λ (xs : List A). tt) (repeated g)) ts ≡ total → total ≡ Err stop
passing_halts g ts stop total next e so_far = sym so_far ∙ ap forget (read_halts g ts stop next e)

pub passing_ends : {T A : Type 0} (g : Grammar T A) (ts : List T) (total : Reading T (Unit {0})) → is_next g ts ≡ false
    → read (gives (λ (xs : List A). tt) (repeated g)) ts ≡ total → total ≡ Ok (tt, ts)
passing_ends g ts total next so_far = sym so_far ∙ ap forget (read_ends g ts next)

-- ---- a token is next exactly where it is read

pub token_is_next : {T : Type 0} (test : T → Bool) (ts : List T) (p : T × List T) → read (token test) ts ≡ Ok p → heads test ts ≡ true
token_is_next test [] p e = absurd cc
token_is_next {T} test (t ∷ ts) p e = by_test (test t) e
  where
    by_test : (b : Bool) → (let r : Reading T T = cond b (Ok (t, ts)) (Err (t ∷ ts)) in r ≡ Ok p) → b ≡ true
    by_test true e = refl
    by_test false e = absurd cc

pub no_token_is_next : {T : Type 0} (test : T → Bool) (ts stop : List T) → read (token test) ts ≡ Err stop → heads test ts ≡ false
no_token_is_next test [] stop e = refl
no_token_is_next {T} test (t ∷ ts) stop e = by_test (test t) e
  where
    by_test : (b : Bool) → (let r : Reading T T = cond b (Ok (t, ts)) (Err (t ∷ ts)) in r ≡ Err stop) → b ≡ false
    by_test true e = absurd cc
    by_test false e = refl

-- ---- a first item before the others

abbrev paired : {T A : Type 0} → A → Reading T (List A) → Reading T (A × List A)
paired x r = r >>= λ y. Ok ((x, y.0), y.1)

abbrev consed : {T A : Type 0} → Reading T (A × List A) → Reading T (List A)
consed r = r >>= λ z. Ok (z.0.0 ∷ z.0.1, z.1)

begun : {T A : Type 0} (x : A) (r : Reading T (List A)) → with_front (x ∷ []) r ≡ consed (paired x r)
begun x (Ok xs) = refl
begun x (Err stop) = refl

pub led_begins : {T A : Type 0} (first further : Grammar T A) (ts mid : List T) (x : A) → read first ts ≡ Ok (x, mid)
    → with_front (x ∷ []) (read (repeated further) mid) ≡ read (gives (λ (p : A × List A). p.0 ∷ p.1) (pair first (repeated further))) ts
led_begins {T} {A} first further ts mid x e = go (read first ts) e
  where
    go : (r : Reading T A) → r ≡ Ok (x, mid) → with_front (x ∷ []) (read (repeated further) mid) ≡ consed (r >>= λ p. paired p.0 (read (repeated further) p.1))
    go r e = rw e (begun x (read (repeated further) mid))

-- ---- a loop that ends by an error, maybe want of memory

pub halts_so : {A : Type 0} (g : G A) (front : List A) (ts : List Lexeme) (tokens : List Token) (e : Trouble) (total : Reading Lexeme (List A)) → is_next g ts ≡ true
    → (let r : Result (A × ℕ) Trouble = Err e in GivesOrMemory tokens r (read g ts)) → with_front front (read (repeated g) ts) ≡ total
    → (let r : Result (List A × ℕ) Trouble = Err e in GivesOrMemory tokens r total)
halts_so g front ts tokens Memory total next h so_far = tt
halts_so g front ts tokens (Stopped s) total next h so_far = halts g front ts _ total next h so_far
