-- Bytes of one class are not of another, and how far a run goes.
use Rattle.std.proofs.Common.{◌≡◌, ℕ, Bool, true, false, ◌&&◌, ◌||◌, List, [], ◌∷◌, ◌++◌, length, take, drop, refl, sym, ap, ◌∙◌, arith, ◌==◌, not}
use Rattle.std.specs.List.{prefix_len, list_all, list_any}
use Rattle.std.specs.Str.{bytes_eq}
use Rattle.std.proofs.lemmas.Bool.{eqb-true}
use Rattle.ir_types.specs.Bytes.{heads, is_one_of, is_blank, is_name_byte}
use Rattle.ir_lexer.specs.Pieces.{leads, dropped_words, is_dropped}
use Rattle.ir_lexer.specs.Texts.{is_dropped_word}
use Rattle.ir_lexer.proofs.Sized.{and_both}

-- a byte that passes a test is not one that fails it
pub not_byte : (test : ℕ → Bool) (k b : ℕ) → test k ≡ false → test b ≡ true → b == k ≡ false
not_byte test k b e h = go (b == k) refl
  where
    go : (r : Bool) → b == k ≡ r → r ≡ false
    go true p = let q : test b ≡ test k = ap test (eqb-true b k p) in absurd (let f : true ≡ false = sym h ∙ q ∙ e in cc)
    go false p = refl

pub not_byte_first : (test : ℕ → Bool) (k b : ℕ) → test k ≡ false → test b ≡ true → k == b ≡ false
not_byte_first test k b e h = go (k == b) refl
  where
    go : (r : Bool) → k == b ≡ r → r ≡ false
    go true p = let q : test k ≡ test b = ap test (eqb-true k b p) in absurd (let f : true ≡ false = sym h ∙ sym q ∙ e in cc)
    go false p = refl

-- a byte that passes a test is not blank, where no blank does
pub not_blank : (test : ℕ → Bool) (b : ℕ) → test 32 ≡ false → test 9 ≡ false → test 13 ≡ false → test 10 ≡ false → test b ≡ true → is_blank b ≡ false
not_blank test b e f g h p = rw (not_byte_first test 32 b e p, not_byte_first test 9 b f p, not_byte_first test 13 b g p, not_byte_first test 10 b h p) refl

pub all_cons : (test : ℕ → Bool) (b : ℕ) (bs : List ℕ) → list_all test (b ∷ bs) ≡ true → (test b ≡ true) × (list_all test bs ≡ true)
all_cons test b bs e = and_both (test b) (list_all test bs) e

-- a run that passes, up to where what follows doesn't
pub run_len : (test : ℕ → Bool) (run more : List ℕ) → list_all test run ≡ true → heads test more ≡ false → prefix_len test (run ++ more) ≡ length run
run_len test [] [] all e = refl
run_len test [] (m ∷ more) all e = rw e refl
run_len test (b ∷ bs) more all e = let a = all_cons test b bs all in rw (a.0, run_len test bs more a.1 e) (omega arith)

-- a byte of a list of which none passes the test fails it
pub fails : (r : Bool) → not r ≡ true → r ≡ false
fails true h = absurd cc
fails false h = refl

one_fails : (test : ℕ → Bool) (k b : ℕ) (others : Bool) → (others ≡ true → test b ≡ false) → not (test k) ≡ true → (k == b) || others ≡ true → test b ≡ false
one_fails test k b others rest none e = go (k == b) refl e
  where
    go : (r : Bool) → k == b ≡ r → r || others ≡ true → test b ≡ false
    go true p e = ap test (sym (eqb-true k b p)) ∙ fails (test k) none
    go false p e = rest e

pub one_of_fails : (test : ℕ → Bool) (bytes : List ℕ) (b : ℕ) → list_all (λ k. not (test k)) bytes ≡ true → is_one_of bytes b ≡ true → test b ≡ false
one_of_fails test [] b all e = absurd cc
one_of_fails test (k ∷ ks) b all e =
    let a = and_both (not (test k)) (list_all (λ j. not (test j)) ks) all in
    one_fails test k b (is_one_of ks b) (one_of_fails test ks b a.1) a.0 e

-- ---- dropped lines

abbrev pub is_gap : ℕ → Bool
is_gap b = b == 32 || b == 9

-- a run of name bytes that isn't gone on with leads where it is the word and a gap follows
leads_is : (text more word : List ℕ) → list_all is_name_byte text ≡ true → list_all is_name_byte word ≡ true → heads is_name_byte more ≡ false
    → leads (text ++ more) word ≡ bytes_eq word text && heads is_gap more
leads_is [] more [] all none ends = refl
leads_is (t ∷ ts) more [] all none ends =
    let name = (all_cons is_name_byte t ts all).0 in
    rw (not_byte is_name_byte 32 t refl name, not_byte is_name_byte 9 t refl name) refl
leads_is [] [] (w ∷ ws) all none ends = refl
leads_is [] (m ∷ ms) (w ∷ ws) all none ends = go (w == m) refl
  where
    go : (r : Bool) → w == m ≡ r → (r && bytes_eq ws (take (length ws) ms)) && heads is_gap (drop (length ws) ms) ≡ false
    go true p = absurd (let f : true ≡ false = sym (all_cons is_name_byte w ws none).0 ∙ ap is_name_byte (eqb-true w m p) ∙ ends in cc)
    go false p = refl
leads_is (t ∷ ts) more (w ∷ ws) all none ends = go (w == t) (leads_is ts more ws (all_cons is_name_byte t ts all).1 (all_cons is_name_byte w ws none).1 ends)
  where
    go : (r : Bool) → leads (ts ++ more) ws ≡ bytes_eq ws ts && heads is_gap more
        → (r && bytes_eq ws (take (length ws) (ts ++ more))) && heads is_gap (drop (length ws) (ts ++ more)) ≡ (r && bytes_eq ws ts) && heads is_gap more
    go true e = e
    go false e = refl

or_shared : (p q h : Bool) → (p && h) || (q && h) ≡ (p || q) && h
or_shared true true true = refl
or_shared true true false = refl
or_shared true false true = refl
or_shared true false false = refl
or_shared false q h = refl

none_leads : (text more : List ℕ) (words : List (List ℕ)) → list_all is_name_byte text ≡ true → list_all (list_all is_name_byte) words ≡ true → heads is_name_byte more ≡ false
    → list_any (leads (text ++ more)) words ≡ list_any (λ word. bytes_eq word text) words && heads is_gap more
none_leads text more [] all names ends = refl
none_leads text more (w ∷ ws) all names ends =
    let both = and_both (list_all is_name_byte w) (list_all (list_all is_name_byte) ws) names in
    rw (leads_is text more w all both.0 ends, none_leads text more ws all both.1 ends) (or_shared (bytes_eq w text) (list_any (λ word. bytes_eq word text) ws) (heads is_gap more))

-- a run begins a dropped line where it is a dropped word and a gap follows
pub run_dropped : (b : ℕ) (bs more : List ℕ) → list_all is_name_byte (b ∷ bs) ≡ true → heads is_name_byte more ≡ false
    → is_dropped ((b ∷ bs) ++ more) ≡ is_dropped_word (b ∷ bs) && heads is_gap more
run_dropped b bs more all ends = rw (not_byte is_name_byte 33 b refl (all_cons is_name_byte b bs all).0) (none_leads (b ∷ bs) more dropped_words all refl ends)

-- a first byte that begins no dropped line
pub first_dropped : (test : ℕ → Bool) (b : ℕ) (bs : List ℕ) → test 33 ≡ false → test 115 ≡ false → test 116 ≡ false → test 97 ≡ false → test b ≡ true → is_dropped (b ∷ bs) ≡ false
first_dropped test b bs bang s t a p = rw (not_byte test 33 b bang p, not_byte_first test 115 b s p, not_byte_first test 116 b t p, not_byte_first test 97 b a p) refl

pub and_false : (fresh dropped : Bool) → dropped ≡ false → fresh && dropped ≡ false
and_false true dropped e = e
and_false false dropped e = refl
