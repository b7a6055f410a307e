-- Tokens of a script at whatever places, read to a tree of which something holds.
use Rattle.std.proofs.Common.{◌≡◌, ℕ, suc, ◌+◌, Bool, true, false, cond, List, [], ◌∷◌, Some, None, Ok, refl, ap, ◌∙◌, arith}
use Rattle.ir_types.specs.declared.span.Span.{Span}
use Rattle.ir_lexer.specs.Lexeme.{Lexeme}
use Rattle.ir_lexer.specs.Texts.{Inked}
use Rattle.grammar.specs.Grammar.{token, pair, choice, optional, repeated, gives, is_next}
use Rattle.grammar.specs.Reading.{Reading, ◌>>=◌, read, read_token}
use Rattle.grammar.proofs.Rows.{read_more, read_ends}
use Rattle.ir_parser.specs.Tokens.{G}

-- a token at a place
abbrev pub at_place : Inked → Span → Lexeme
at_place i span = record { kind = i.0.kind; text = i.0.text; span = span }

-- the tokens of a script, each at a place
abbrev pub placed : (ℕ → Span) → List Inked → List Lexeme
placed spans [] = []
placed spans (i ∷ is) = at_place i (spans 0) ∷ placed (λ n. spans (suc n)) is

-- from these places on the phrase is read, up to the tokens of `rest`, as a tree of which P holds
pub record IsRead {A : Type 0} (g : G A) (is rest : List Inked) (P : A → Type 0) (spans : ℕ → Span) : Type 0 where
  pub tree : A
  pub behind : ℕ → Span
  pub count : ℕ
  pub shifted : (n : ℕ) → behind n ≡ spans (count + n)
  pub reads : read g (placed spans is) ≡ Ok (tree, placed behind rest)
  pub holds : P tree

-- wherever they stand
pub record Reads {A : Type 0} (g : G A) (is rest : List Inked) (P : A → Type 0) : Type 0 where
  pub at : (spans : ℕ → Span) → IsRead g is rest P spans

-- the next token begins the phrase, or doesn't
pub record Begins {A : Type 0} (g : G A) (is : List Inked) (b : Bool) : Type 0 where
  pub begins : (spans : ℕ → Span) → is_next g (placed spans is) ≡ b

taken : (test : Lexeme → Bool) (t : Lexeme) (ts : List Lexeme) → test t ≡ true → read_token test (t ∷ ts) ≡ Ok (t, ts)
taken test t ts e = rw e refl

-- a token that passes the test, at the first place
pub token_at : (test : Lexeme → Bool) (i : Inked) (rest : List Inked) → ((s : Span) → test (at_place i s) ≡ true) → (spans : ℕ → Span) → IsRead (token test) (i ∷ rest) rest (λ t. t ≡ at_place i (spans 0)) spans
token_at test i rest passes spans = record {
  tree = at_place i (spans 0);
  behind = λ n. spans (suc n);
  count = 1;
  shifted = λ n. ap spans (omega arith);
  reads = taken test (at_place i (spans 0)) (placed (λ n. spans (suc n)) rest) (passes (spans 0));
  holds = refl;
}

-- a token that passes the test
pub one_token : (test : Lexeme → Bool) (i : Inked) (rest : List Inked) → ((s : Span) → test (at_place i s) ≡ true) → Reads (token test) (i ∷ rest) rest (λ t. (s : Span) × (t ≡ at_place i s))
one_token test i rest passes = record {
  at = λ spans. record {
    tree = at_place i (spans 0);
    behind = λ n. spans (suc n);
    count = 1;
    shifted = λ n. ap spans (omega arith);
    reads = taken test (at_place i (spans 0)) (placed (λ n. spans (suc n)) rest) (passes (spans 0));
    holds = (spans 0, refl);
  };
}

pair_read : {A B : Type 0} (g : G A) (h : G B) (ts mid rest : List Lexeme) (x : A) (y : B) → read g ts ≡ Ok (x, mid) → read h mid ≡ Ok (y, rest) → read (pair g h) ts ≡ Ok ((x, y), rest)
pair_read {A} {B} g h ts mid rest x y e f =
    ap (λ (r : Reading Lexeme A). r >>= λ x. read h x.1 >>= λ y. Ok ((x.0, y.0), y.1)) e ∙ ap (λ (r : Reading Lexeme B). r >>= λ y. Ok ((x, y.0), y.1)) f

pub both_at : {A B : Type 0} (g : G A) (h : G B) (is mid rest : List Inked) (P : A → Type 0) (Q : B → Type 0) (spans : ℕ → Span) (r : IsRead g is mid P spans) → IsRead h mid rest Q r.behind → IsRead (pair g h) is rest (λ x. P x.0 × Q x.1) spans
both_at g h is mid rest P Q spans r s = record {
  tree = (r.tree, s.tree);
  behind = s.behind;
  count = r.count + s.count;
  shifted = λ n. s.shifted n ∙ r.shifted (s.count + n) ∙ ap spans (omega arith);
  reads = pair_read g h (placed spans is) (placed r.behind mid) (placed s.behind rest) r.tree s.tree r.reads s.reads;
  holds = (r.holds, s.holds);
}

pub both : {A B : Type 0} (g : G A) (h : G B) (is mid rest : List Inked) (P : A → Type 0) (Q : B → Type 0) → Reads g is mid P → Reads h mid rest Q → Reads (pair g h) is rest (λ x. P x.0 × Q x.1)
both g h is mid rest P Q r s = record { at = λ spans. both_at g h is mid rest P Q spans (r.at spans) (s.at (r.at spans).behind) }

pub made_at : {A B : Type 0} (f : A → B) (g : G A) (is rest : List Inked) (P : A → Type 0) (Q : B → Type 0) (spans : ℕ → Span) → ((x : A) → P x → Q (f x)) → IsRead g is rest P spans → IsRead (gives f g) is rest Q spans
made_at {A} f g is rest P Q spans to r = record {
  tree = f r.tree;
  behind = r.behind;
  count = r.count;
  shifted = r.shifted;
  reads = ap (λ (r : Reading Lexeme A). r >>= λ x. Ok (f x.0, x.1)) r.reads;
  holds = to r.tree r.holds;
}

pub made : {A B : Type 0} (f : A → B) (g : G A) (is rest : List Inked) (P : A → Type 0) (Q : B → Type 0) → ((x : A) → P x → Q (f x)) → Reads g is rest P → Reads (gives f g) is rest Q
made f g is rest P Q to r = record { at = λ spans. made_at f g is rest P Q spans to (r.at spans) }

-- both, of which the second or the first tree counts
pub second : {A B : Type 0} (g : G A) (h : G B) (is mid rest : List Inked) (P : A → Type 0) (Q : B → Type 0) → Reads g is mid P → Reads h mid rest Q → Reads (gives (λ (x : A × B). x.1) (pair g h)) is rest Q
second {A} {B} g h is mid rest P Q r s = made (λ (x : A × B). x.1) (pair g h) is rest (λ x. P x.0 × Q x.1) Q (λ x p. p.1) (both g h is mid rest P Q r s)

pub first : {A B : Type 0} (g : G A) (h : G B) (is mid rest : List Inked) (P : A → Type 0) (Q : B → Type 0) → Reads g is mid P → Reads h mid rest Q → Reads (gives (λ (x : A × B). x.0) (pair g h)) is rest P
first {A} {B} g h is mid rest P Q r s = made (λ (x : A × B). x.0) (pair g h) is rest (λ x. P x.0 × Q x.1) P (λ x p. p.0) (both g h is mid rest P Q r s)

chosen : {X : Type 0} (b : Bool) (x y : X) → b ≡ true → cond b x y ≡ x
chosen true x y e = refl
chosen false x y e = absurd cc

passed : {X : Type 0} (b : Bool) (x y : X) → b ≡ false → cond b x y ≡ y
passed false x y e = refl
passed true x y e = absurd cc

pub left_at : {A : Type 0} (g h : G A) (is rest : List Inked) (P : A → Type 0) (spans : ℕ → Span) → is_next g (placed spans is) ≡ true → IsRead g is rest P spans → IsRead (choice g h) is rest P spans
left_at g h is rest P spans next one = record {
  tree = one.tree;
  behind = one.behind;
  count = one.count;
  shifted = one.shifted;
  reads = chosen (is_next g (placed spans is)) (read g (placed spans is)) (read h (placed spans is)) next ∙ one.reads;
  holds = one.holds;
}

pub right_at : {A : Type 0} (g h : G A) (is rest : List Inked) (P : A → Type 0) (spans : ℕ → Span) → is_next g (placed spans is) ≡ false → IsRead h is rest P spans → IsRead (choice g h) is rest P spans
right_at g h is rest P spans next one = record {
  tree = one.tree;
  behind = one.behind;
  count = one.count;
  shifted = one.shifted;
  reads = passed (is_next g (placed spans is)) (read g (placed spans is)) (read h (placed spans is)) next ∙ one.reads;
  holds = one.holds;
}

pub left : {A : Type 0} (g h : G A) (is rest : List Inked) (P : A → Type 0) → Begins g is true → Reads g is rest P → Reads (choice g h) is rest P
left g h is rest P next r = record { at = λ spans. left_at g h is rest P spans (next.begins spans) (r.at spans) }

pub right : {A : Type 0} (g h : G A) (is rest : List Inked) (P : A → Type 0) → Begins g is false → Reads h is rest P → Reads (choice g h) is rest P
right g h is rest P next r = record { at = λ spans. right_at g h is rest P spans (next.begins spans) (r.at spans) }

-- what isn't there
pub no_option : {A : Type 0} (g : G A) (rest : List Inked) → Begins g rest false → Reads (optional g) rest rest (λ o. o ≡ None)
no_option {A} g rest next = record {
  at = λ spans. record {
    tree = None;
    behind = spans;
    count = 0;
    shifted = λ n. ap spans (omega arith);
    reads = passed (is_next g (placed spans rest)) (read g (placed spans rest) >>= λ (x : A × List Lexeme). Ok (Some x.0, x.1)) (Ok (None, placed spans rest)) (next.begins spans);
    holds = refl;
  };
}

pub some_option : {A : Type 0} (g : G A) (is rest : List Inked) (P : A → Type 0) → Begins g is true → Reads g is rest P → Reads (optional g) is rest (λ o. (x : A) × (o ≡ Some x) × P x)
some_option {A} g is rest P next r = record {
  at = λ spans.
      let one = r.at spans in
      record {
        tree = Some one.tree;
        behind = one.behind;
        count = one.count;
        shifted = one.shifted;
        reads =
            chosen (is_next g (placed spans is)) (read g (placed spans is) >>= λ (x : A × List Lexeme). Ok (Some x.0, x.1)) (Ok (None, placed spans is)) (next.begins spans)
            ∙ ap (λ (r : Reading Lexeme A). r >>= λ x. Ok (Some x.0, x.1)) one.reads;
        holds = (one.tree, refl, one.holds);
      };
}

-- no item more
pub none_more : {A : Type 0} (g : G A) (rest : List Inked) → Begins g rest false → Reads (repeated g) rest rest (λ xs. xs ≡ [])
none_more g rest next = record {
  at = λ spans. record {
    tree = [];
    behind = spans;
    count = 0;
    shifted = λ n. ap spans (omega arith);
    reads = read_ends g (placed spans rest) (next.begins spans);
    holds = refl;
  };
}

-- an item, and others
pub one_more_at : {A : Type 0} (g : G A) (is mid rest : List Inked) (P : A → Type 0) (Q : List A → Type 0) (spans : ℕ → Span) → is_next g (placed spans is) ≡ true → (one : IsRead g is mid P spans) → IsRead (repeated g) mid rest Q one.behind
    → IsRead (repeated g) is rest (λ l. (x : A) × (xs : List A) × (l ≡ x ∷ xs) × P x × Q xs) spans
one_more_at {A} g is mid rest P Q spans next one more = record {
  tree = one.tree ∷ more.tree;
  behind = more.behind;
  count = one.count + more.count;
  shifted = λ n. more.shifted n ∙ one.shifted (more.count + n) ∙ ap spans (omega arith);
  reads =
      read_more g (placed spans is) one.tree (placed one.behind mid) next one.reads
      ∙ ap (λ (r : Reading Lexeme (List A)). r >>= λ xs. Ok (one.tree ∷ xs.0, xs.1)) more.reads;
  holds = (one.tree, more.tree, refl, one.holds, more.holds);
}

pub one_more : {A : Type 0} (g : G A) (is mid rest : List Inked) (P : A → Type 0) (Q : List A → Type 0) → Begins g is true → Reads g is mid P → Reads (repeated g) mid rest Q
    → Reads (repeated g) is rest (λ l. (x : A) × (xs : List A) × (l ≡ x ∷ xs) × P x × Q xs)
one_more g is mid rest P Q next r s = record { at = λ spans. one_more_at g is mid rest P Q spans (next.begins spans) (r.at spans) (s.at (r.at spans).behind) }

-- the same of another property
pub weaker : {A : Type 0} (g : G A) (is rest : List Inked) (P Q : A → Type 0) → ((x : A) → P x → Q x) → Reads g is rest P → Reads g is rest Q
weaker g is rest P Q to r = record {
  at = λ spans.
      let one = r.at spans in
      record { tree = one.tree; behind = one.behind; count = one.count; shifted = one.shifted; reads = one.reads; holds = to one.tree one.holds };
}

pub weaker_at : {A : Type 0} (g : G A) (is rest : List Inked) (P Q : A → Type 0) (spans : ℕ → Span) → ((x : A) → P x → Q x) → IsRead g is rest P spans → IsRead g is rest Q spans
weaker_at g is rest P Q spans to one = record { tree = one.tree; behind = one.behind; count = one.count; shifted = one.shifted; reads = one.reads; holds = to one.tree one.holds }
